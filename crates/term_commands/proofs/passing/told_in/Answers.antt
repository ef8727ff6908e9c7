use Rattle.std.proofs.Common.{◌∙◌}
use Rattle.term_commands.proofs.AtOnce.{entered_wide}
use Rattle.term_commands.proofs.passing.told_in.Goals as goal

pub told_by-requires-clause-wide : goal.told_by-requires-clause-wide
told_by-requires-clause-wide c = (entered_wide c.new-store.result c.enter.new.self c.args.rows c.args.places c.args.widest (c.new-store.ensures ∙ c.in_ok-new.ensures) c.enter.ensures.same.2).0

pub told_by-requires-clause-cells : goal.told_by-requires-clause-cells
told_by-requires-clause-cells c = (entered_wide c.new-store.result c.enter.new.self c.args.rows c.args.places c.args.widest (c.new-store.ensures ∙ c.in_ok-new.ensures) c.enter.ensures.same.2).1
