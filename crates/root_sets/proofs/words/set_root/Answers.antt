use Rattle.std.proofs.Common.{◌∙◌, ◌≤◌, ℕ, refl, ap, sym, subst}
use Rattle.std.specs.Prelude.{vec_capacity}
use Rattle.store_model.specs.Machine.{StoreRoot}
use Rattle.node_rows.specs.declared.view.NodeView.{NodeView}
use Rattle.root_sets.proofs.Keeping.{keeps_rooted, inside_after, seated, steps_on}
use Rattle.root_sets.proofs.words.set_root.Goals as goal

pub store_root-requires : goal.store_root-requires
store_root-requires c =
    let s = c.args.store.now in
    let p = c.args.pass.now in
    let i = c.requires.inside in
    let w = c.root_word-word.ensures in
    record {
      of = seated s p i;
      may = steps_on s p (StoreRoot c.args.k c.args.row) c.root_word-word.result i record { acts = tt; shown = (i.ready.rest, c.requires.below, c.requires.uses); there = w.there; word = w.word };
    }

pub invariant_of-pass : goal.invariant_of-pass
invariant_of-pass c =
    let p = c.args.pass.now in
    let e = c.store_root.ensures.view in
    record {
      counted = p.counted ∙ sym (ap (λ (u : NodeView). u.store.root_count) e);
      sized = p.sized ∙ sym (ap (λ (u : NodeView). u.sizes.rows) e);
      nexts_fit = p.nexts_fit;
      heads_fit = subst (λ (n : ℕ). n ≤ vec_capacity p.heads) (sym (ap (λ (u : NodeView). u.sizes.buckets) e)) p.heads_fit;
    }

pub returns : goal.returns
returns c =
    let v = c.args.pass.now.seat.seat.me.0 in
    let w = c.store_root.new.seat.seat.me.0 in
    let i = c.requires.inside in
    let e = c.store_root.ensures in
    record {
      inside = inside_after c.args.store.now c.args.pass.now _ i i.ready i.told (e.same.0, e.same.1) e.same.2 e.known (keeps_rooted v w c.args.k c.args.row e.view);
      same = (e.same.0, e.same.1);
      count = refl;
      view = e.view;
    }
