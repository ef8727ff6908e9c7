use Rattle.term_text.specs.Trials.{IsTried}
use Rattle.text_trials.proofs.inputs.build_items.Given as goal

abbrev pub invariant-loop-item : goal.invariant-loop-item
invariant-loop-item g l = IsTried l.symbols (g.T.Terms.store l.terms)
