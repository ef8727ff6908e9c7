use Rattle.std.proofs.Common.{refl}
use Rattle.term_file.specs.Outcome.{view}
use Rattle.term_file.proofs.Shares.{placed_old, placed_new}
use Rattle.term_file.proofs.growing.number_of.Goals as goal

pub returns-in-Some : goal.returns-in-Some
returns-in-Some c = record {
  placed = placed_old c.args.table.now c.args.table.now (view c.args.entry) c.in-Some.number refl c.in-Some.ensures.found;
  few = c.requires.few;
  unchanged = tt;
  full_only_where = λ e. absurd (cc);
  full_for_new = λ e. absurd (cc);
}

pub returns-in-Ok-clause-placed : goal.returns-in-Ok-clause-placed
returns-in-Ok-clause-placed c = placed_new c.args.table.now c.push.new.self (view c.args.entry) c.len-number.result c.in_default.ensures.absent c.in-Ok.ensures.pushed c.len-number.ensures
