use Rattle.std.proofs.Common.{◌≡◌, ℕ, sym, ap, ◌∙◌, subst, arith}
use Rattle.store_model.specs.declared.view.Sizes.{Sizes}
use Rattle.store_model.specs.declared.view.Place.{Place}
use Rattle.store_model.specs.declared.view.Place.TheVariants.{InUse}
use Rattle.store_model.specs.Marks.{MarksReached}
use Rattle.store_model.specs.Steps.{grown_use}
use Rattle.node_rows.specs.declared.view.NodeView.{NodeView}
use Rattle.row_sweep.specs.Gathered.{sizes_of, words_of}
use Rattle.row_sweep.specs.Chained.{ChainsTo}
use Rattle.row_sweep.specs.Marked.{marked_below}
use Rattle.row_sweep.proofs.Sound.{use_is}
use Rattle.row_sweep.proofs.collecting.work_out.Goals as goal

pub buckets_after-buckets-requires : goal.buckets_after-buckets-requires
buckets_after-buckets-requires c =
    let g = c.requires.at.gathers in
    let a = g.known.used g.alone.stay in
    let b = g.known.within g.alone.stay in
    let e = c.requires.in_use in
    let d = ap (λ (z : Sizes). z.buckets) c.args.sweep.now.at.told in record { used = (omega arith, omega arith) }

pub chain_all-requires-clause-used : goal.chain_all-requires-clause-used
chain_all-requires-clause-used c =
    let g = c.requires.at.gathers in
    let a = g.known.used g.alone.stay in
    let e = c.requires.in_use in
    let u = c.buckets_after-buckets.ensures.used in
    let h = c.requires.heads in
    let d = ap (λ (z : Sizes). z.buckets) c.args.sweep.now.at.told in (omega arith, omega arith)

pub returns : goal.returns
returns c =
    let s = c.args.seat.now in
    let t = c.chain_all.new.seat in
    let z = sizes_of c.args.sweep.now in
    let e = c.chain_all.ensures in
    let told = c.args.sweep.now.at.told in
    let g = c.requires.at.gathers in
    let a = g.known.used g.alone.stay in
    let i = c.requires.in_use in
    let u = c.buckets_after-buckets.ensures.used in
    let d = ap (λ (y : Sizes). y.buckets) told in
    let r = ap (λ (y : Sizes). y.rows) told in
    let live = c.count_marked-live.result in
    let uses = use_is c.args.sweep.now s.seat s.number s.seats c.requires.at in
    record {
      stays = c.chain_all.ensures.again.stays;
      out = let same : words_of t.seat InUse ≡ words_of s.seat InUse = ap (λ (w : Place → ℕ). w InUse) e.again.words in record {
        gathered = e.at;
        reached = subst (λ (w : Place → ℕ). MarksReached w z.rows c.args.marks.now) (sym e.again.words) c.requires.marks;
        chains = subst (λ (w : Place → ℕ). ChainsTo w c.args.marks.now c.buckets_after-buckets.result z.rows c.chain_all.new.heads c.chain_all.new.nexts) (sym e.again.words) e.chains;
        live_is = c.count_marked-live.ensures.count ∙ ap (λ (n : ℕ). marked_below c.args.marks.now n) (sym r);
        buckets_are = c.buckets_after-buckets.ensures.grown ∙ (ap (λ (y : Sizes). grown_use y c.args.in_use live) (sym told) ∙ ap (λ (n : ℕ). grown_use z n live) (i ∙ sym (same ∙ uses)));
        use_is = same ∙ (uses ∙ sym (ap (λ (v : NodeView). v.store.in_use) e.again.stays.only));
        used = omega arith;
        within = omega arith;
        more = omega arith;
      };
      lengths = c.chain_all.ensures.lengths;
    }
