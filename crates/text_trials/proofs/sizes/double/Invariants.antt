use Rattle.term_text.specs.Trials.{IsTried}
use Rattle.text_trials.proofs.sizes.double.Given as goal

abbrev pub invariant-loop-level : goal.invariant-loop-level
invariant-loop-level g l = IsTried l.symbols (g.T.Terms.store l.terms)
