use Rattle.std.proofs.Common.{ap, ◌∙◌}
use Rattle.node_rows.specs.declared.view.NodeView.{NodeView}
use Rattle.node_rows.proofs.Tellings.{told_arrived_as}
use Rattle.node_rows.proofs.arriving.arrive.Goals as goal

pub returns-clause-told : goal.returns-clause-told
returns-clause-told c = told_arrived_as c.args.pass.now.seat.seat.me.0 c.load_base-pass.new.seat.seat.me.0 c.load_in_use-pass.new.seat.seat.me.0 c.args.pass.now.rows c.args.pass.now.seen c.later-pass.result c.args.pass.now.last c.args.pass.now.marks _ _ c.load_base-pass.ensures.view c.load_in_use-pass.ensures.view c.later-pass.ensures

pub returns-clause-crowd : goal.returns-clause-crowd
returns-clause-crowd c = ap (λ (v : NodeView). v.crowd) c.load_in_use-pass.ensures.view ∙ ap (λ (v : NodeView). v.crowd) c.load_base-pass.ensures.view
