use Rattle.std.proofs.Common.{◌≡◌, List, true, sym, subst}
use Rattle.std.specs.Prelude.{All}
use Rattle.std.specs.List.{list_all}
use Rattle.rule_automaton.specs.Shapes.{tests_at}
use Rattle.rule_automaton.specs.Asking.{is_from}
use Rattle.rule_automaton.specs.Building.{IsAsked}
use Rattle.rule_automaton.specs.Running.{made}
use Rattle.rule_automaton.specs.declared.shapes.Test.{Test}
use Rattle.rule_automaton.specs.declared.shapes.Shape.{Shape}
use Rattle.rule_automaton.proofs.Decided.{place_small, least_asked, reads_least}
use Rattle.rule_automaton.proofs.building.read_least.Goals as goal

pub read_place-requires-clause-place : goal.read_place-requires-clause-place
read_place-requires-clause-place c =
    let a = made c.args.automaton.now in
    let rules = c.args.rules.now in
    let least = c.least_of_all-least.result in
    let same = c.deref.ensures.value in
    let asked = least_asked c.deref.result.now rules c.args.place least (subst (λ (ss : List Shape). IsAsked ss rules c.args.place) (sym same) c.requires.asked) c.least_of_all-least.ensures.asked in
    place_small c.requires.built.0 a rules least c.requires.built.1 c.requires.rules (subst (λ (ss : List Shape). IsAsked ss rules least) same asked)

pub returns-clause-serves : goal.returns-clause-serves
returns-clause-serves c = λ table built.
    let a = made c.args.automaton.now in
    let rules = c.args.rules.now in
    let least = c.least_of_all-least.result in
    let same = c.deref.ensures.value in
    let asked = least_asked c.deref.result.now rules c.args.place least (subst (λ (ss : List Shape). IsAsked ss rules c.args.place) (sym same) c.requires.asked) c.least_of_all-least.ensures.asked in
    let all = subst (λ (ss : List Shape). All (λ r. list_all (λ (t : Test). is_from c.args.bound least t) (tests_at ss r) ≡ true) rules) same c.least_of_all-least.ensures.all in
    reads_least table a (made c.read_place.new.automaton) rules c.args.bound least c.in_ok-op.op (subst (λ (ss : List Shape). IsAsked ss rules least) same asked) all (c.in_ok-op.ensures.reads table built.are built.based)
