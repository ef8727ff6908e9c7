use Rattle.term_text.specs.Trials.{IsTried}
use Rattle.text_trials.proofs.sizes.build.Given as goal

abbrev pub invariant-loop-step : goal.invariant-loop-step
invariant-loop-step g l = IsTried l.symbols (g.T.Terms.store l.terms)
