use Rattle.std.proofs.Common.{ap, eqb-true, eq-eqb}
use Rattle.run_checks.specs.Held.{term_at}
use Rattle.run_checks.proofs.Shelves.{same_shown}
use Rattle.run_checks.proofs.table.TermTable.are_equal.Goals as goal

pub returns : goal.returns
returns c = (
  (λ e. ap (term_at c.args.self.now) (eqb-true c.args.first c.args.second e)),
  (λ e. eq-eqb c.args.first c.args.second (same_shown c.self.inside.symbols c.self.inside.records c.args.self.now c.self.view_is c.self.invariant c.args.first c.args.second c.requires.first c.requires.second e)),
)
