use Rattle.rule_automaton.specs.Running.{made}
use Rattle.rule_automaton.proofs.Decided.{grown_on}
use Rattle.rule_automaton.proofs.building.build.Goals as goal

pub returns-clause-grown : goal.returns-clause-grown
returns-clause-grown c = λ table built.
    let g = c.in_ok-build_marked.ensures.grown table built in
    grown_on table (made c.args.automaton.now) (made c.build_marked.new.automaton) (made c.build_rest.new.automaton) g (c.in_ok-build_rest.ensures.grown table g.built)
