use Rattle.std.proofs.Common.{◌∙◌, sym, ap, subst}
use Rattle.store_model.specs.declared.view.Sizes.{Sizes}
use Rattle.store_model.specs.Steps.{IsAtRest}
use Rattle.node_rows.specs.declared.view.NodeView.{NodeView}
use Rattle.node_rows.specs.Steps.{Known}
use Rattle.node_rows.proofs.Tellings.{told_on}
use Rattle.term_create.proofs.reads.read.Goals as goal

pub returns : goal.returns
returns c =
    let p = c.args.pass.now in
    let v = p.seat.seat.me.0 in
    let w = c.read_word.new.seat.seat.me.0 in
    let e = c.read_word.ensures in
    let was = c.requires.inside in
    record {
      inside = record {
        store = was.store;
        pass = record { table = e.of.table; sizes = e.of.sizes ∙ was.store.told; count = e.same.2 ∙ was.pass.count; none = e.same.0.slots ∙ was.pass.none };
        ready = record {
          rest = subst (λ (u : NodeView). IsAtRest u.store) (sym e.view) record { call = was.ready.rest.call; stay = was.ready.rest.stay };
          has_base = was.ready.has_base ∙ ap (λ (u : NodeView). u.store.base) (sym e.view);
          has_in_use = was.ready.has_in_use ∙ ap (λ (u : NodeView). u.store.in_use) (sym e.view);
          known = subst (λ (z : Sizes). Known z w.store) was.store.told e.known;
        };
        told = told_on v.store w.store p.rows p.seen p.last p.marks (ap (λ (u : NodeView). u.store.entries) e.view) (ap (λ (u : NodeView). u.store.seen) e.view) was.told;
      };
      same = (e.same.0, e.same.1);
      view = e.view;
    }
