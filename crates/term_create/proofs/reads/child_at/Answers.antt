use Rattle.std.proofs.Common.{◌∙◌, ℕ, suc, get_or, sym, subst, ap, arith}
use Rattle.term_model.specs.Tree.{Leaf, arguments}
use Rattle.store_model.specs.declared.view.Sizes.{Sizes}
use Rattle.store_model.specs.Machine.{knowing, with_got}
use Rattle.store_model.specs.Steps.{IsAtRest}
use Rattle.node_rows.specs.Knowing.{KnowsTree}
use Rattle.node_rows.specs.declared.view.NodeView.{NodeView}
use Rattle.node_rows.specs.Steps.{Known, with_store}
use Rattle.node_rows.proofs.Tellings.{told_on}
use Rattle.term_create.proofs.Reading.{child_tree}
use Rattle.term_create.proofs.reads.child_at.Goals as goal

pub returns : goal.returns
returns c =
    let p = c.args.pass.now in
    let v = p.seat.seat.me.0 in
    let r = c.read_argument-child in
    let w = r.new.seat.seat.me.0 in
    let e = r.ensures in
    let was = c.requires.inside in
    let a = c.requires.argument in
    let row = c.args.row.0 in
    let j = c.args.j in
    let is = sym c.row_of.ensures in
    record {
      inside = record {
        store = was.store;
        pass = record { table = e.of.table; sizes = e.of.sizes ∙ was.store.told; count = e.same.2 ∙ was.pass.count; none = e.same.0.slots ∙ was.pass.none };
        ready = record {
          rest = subst (λ (u : NodeView). IsAtRest u.store) (sym e.view) record { call = was.ready.rest.call; stay = was.ready.rest.stay };
          has_base = was.ready.has_base ∙ ap (λ (u : NodeView). u.store.base) (sym e.view);
          has_in_use = was.ready.has_in_use ∙ ap (λ (u : NodeView). u.store.in_use) (sym e.view);
          known = subst (λ (z : Sizes). Known z w.store) was.store.told e.known;
        };
        told = told_on v.store w.store p.rows p.seen p.last p.marks (ap (λ (u : NodeView). u.store.entries) e.view) (ap (λ (u : NodeView). u.store.seen) e.view) was.told;
      };
      same = (e.same.0, e.same.1);
      reads = e.view ∙ ap (λ (n : ℕ). with_store v (with_got (knowing v.store row (suc (suc j)) n) n)) is;
      tree = λ t k. subst (λ (n : ℕ). KnowsTree w.store.knows n (get_or (arguments t) j (Leaf 0))) is
          (child_tree c.args.store.now.table.shared.key v w was.ready.rest e.known row j a.count r.result e.view a.known a.below t k);
    }

pub place_of-place-requires-clause-within : goal.place_of-place-requires-clause-within
place_of-place-requires-clause-within c =
    let ready = c.requires.inside.ready in
    let a = c.requires.argument in
    let few = ready.known.counts ready.rest c.args.row.0 a.count a.known in
    let below = a.below in
    omega arith
