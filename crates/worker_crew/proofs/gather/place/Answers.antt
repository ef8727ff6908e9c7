use Rattle.std.proofs.Common.{subst}
use Rattle.worker_crew.proofs.Gathering.{Placing, none_left, placing_begins, placing_goes, placing_ends}
use Rattle.worker_crew.proofs.gather.place.Goals as goal

pub lines-init : goal.lines-init
lines-init c = placing_begins c.args.made.items c.args.lines.now.items c.requires

pub lines-preserved : goal.lines-preserved
lines-preserved c =
    (placing_goes c.args.made.items c.lines.made.items c.pop.new.self.items c.args.lines.now.items c.lines.lines.items c.in-Some.field-0 c.in-Some.ensures.items c.lines.invariant).1

pub returns-clause-placed : goal.returns-clause-placed
returns-clause-placed c =
    let none = none_left c.pop.result c.lines.made.items c.lines.made.len c.in_default.not-Some c.pop.ensures.variant.1 c.lines.made.ok.0 in
    placing_ends c.args.made.items c.args.lines.now.items c.lines.lines.items
    (subst (λ xs. Placing c.args.made.items xs c.args.lines.now.items c.lines.lines.items) none c.lines.invariant)
