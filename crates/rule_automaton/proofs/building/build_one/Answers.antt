use Rattle.rule_automaton.specs.Running.{made}
use Rattle.rule_automaton.proofs.Decided.{grown_not}
use Rattle.rule_automaton.proofs.building.build_one.Goals as goal

pub returns-then-at-len-clause-grown : goal.returns-then-at-len-clause-grown
returns-then-at-len-clause-grown c = λ table built. grown_not table (made c.args.automaton.now) built

pub returns-clause-grown : goal.returns-clause-grown
returns-clause-grown c = λ table built. grown_not table (made c.args.automaton.now) built
