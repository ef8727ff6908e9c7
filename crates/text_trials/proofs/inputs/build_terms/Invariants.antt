use Rattle.term_text.specs.Trials.{IsTried}
use Rattle.text_trials.proofs.inputs.build_terms.Given as goal

abbrev pub invariant-loop-flat : goal.invariant-loop-flat
invariant-loop-flat g l = IsTried l.symbols (g.T.Terms.store l.terms)
