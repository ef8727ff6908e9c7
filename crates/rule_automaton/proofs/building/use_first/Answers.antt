use Rattle.std.proofs.Common.{◌≡◌, ◌-◌, get_or, length, drop, sym, ◌∙◌, arith, eqb-true}
use Rattle.std.specs.Prelude.{vec_len}
use Rattle.std.proofs.lemmas.List.{nil_from_length, take_all, length-drop}
use Rattle.rule_automaton.specs.Running.{made}
use Rattle.rule_automaton.proofs.Decided.{serves_found, serves_rest, serves_turn, no_pairs}
use Rattle.rule_automaton.proofs.building.use_first.Goals as goal

pub returns-then-is_empty-clause-serves : goal.returns-then-is_empty-clause-serves
returns-then-is_empty-clause-serves c = λ table built.
    let a = made c.args.automaton.now in
    let x = c.index.result.now in
    let zero = eqb-true (vec_len x.pairs) 0 (sym c.is_empty.ensures ∙ c.if-is_empty.true) in
    let none : length x.pairs.items ≡ 0 = omega (arith, zero) in
    serves_found table a c.args.rules.now c.args.bound c.requires.some built c.requires.tested (no_pairs a.shapes (get_or c.args.rules.now 0 0) x (c.requires.rules 0 0 c.requires.some) c.index.ensures (nil_from_length x.pairs.items none))

pub returns-then-not-take-clause-serves : goal.returns-then-not-take-clause-serves
returns-then-not-take-clause-serves c = λ table built. serves_turn table (made c.args.automaton.now) c.args.rules.now c.args.bound built

pub returns-clause-serves : goal.returns-clause-serves
returns-clause-serves c = λ table built.
    serves_rest table (made c.args.automaton.now) c.args.rules.now _ c.args.bound c.in_ok-other.other (made c.push_state.new.automaton) c.requires.some built c.requires.tested c.requires.rules (take_all (length c.args.rules.now - 1) (drop 1 c.args.rules.now) (omega (arith, length-drop 1 c.args.rules.now))) c.in_ok-other.ensures.place c.in_ok-other.ensures.pushed
