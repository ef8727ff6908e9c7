use Rattle.term_text.specs.Trials.{IsTried}
use Rattle.text_trials.proofs.inputs.write_stack.Given as goal

abbrev pub invariant-loop-place : goal.invariant-loop-place
invariant-loop-place g l = IsTried l.symbols (g.T.Terms.store l.terms)
