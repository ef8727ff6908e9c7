use Rattle.std.proofs.Common.{arith}
use Rattle.term_commands.proofs.Fitting.{fits}
use Rattle.term_commands.proofs.passing.sizes_in.Goals as goal

pub returns-clause-fit : goal.returns-clause-fit
returns-clause-fit c = omega (arith, fits c.args.store.now c.depth.ensures.sound, c.stack_sizes.ensures.distinct, c.requires.rows)
