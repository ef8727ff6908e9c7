use Rattle.std.specs.Prelude.{◌<◌, All}
use Rattle.store_trials.proofs.histories.history.Given as goal

abbrev pub invariant-loop-caller : goal.invariant-loop-caller
invariant-loop-caller l = All (λ x. x.0 < 2) l.history.items
