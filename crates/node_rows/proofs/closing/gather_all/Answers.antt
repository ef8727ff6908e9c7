use Rattle.std.proofs.Common.{Some, map, ap, ◌∙◌}
use Rattle.std.proofs.lemmas.List.Elements.{All-pop}
use Rattle.node_rows.specs.declared.view.NodeView.{NodeView}
use Rattle.node_rows.specs.Passes.{IsPass, IsOut}
use Rattle.node_rows.specs.Joining.{all_views}
use Rattle.node_rows.specs.Told.{view_of}
use Rattle.node_rows.proofs.Joins.{all_next}
use Rattle.node_rows.proofs.closing.gather_all.Goals as goal

pub gather-requires-clause-other : goal.gather-requires-clause-other
gather-requires-clause-other c = (All-pop (λ p. IsPass c.args.store.now.table.shared.table_id c.args.store.now.sizes p.seat.seat p.seat.seats × IsOut p.seat.seat.me.0) c.loop-pass.rest.items c.pop.new.self.items (Some c.in-Some.pass) c.in-Some.ensures.items c.loop-pass.invariant.passes).1

pub loop-pass-preserved : goal.loop-pass-preserved
loop-pass-preserved c =
    let inv = c.loop-pass.invariant in
    let rest = c.pop.new.self.items in record {
      first = c.gather.ensures.first;
      number = c.gather.ensures.number ∙ inv.number;
      passes = (All-pop (λ p. IsPass c.args.store.now.table.shared.table_id c.args.store.now.sizes p.seat.seat p.seat.seats × IsOut p.seat.seat.me.0) c.loop-pass.rest.items rest (Some c.in-Some.pass) c.in-Some.ensures.items inv.passes).0;
      view = ap (λ (u : NodeView). all_views u (map view_of rest)) c.gather.ensures.view ∙ (all_next (view_of c.loop-pass.first) c.loop-pass.rest.items rest c.in-Some.pass c.in-Some.ensures.items ∙ inv.view);
    }
