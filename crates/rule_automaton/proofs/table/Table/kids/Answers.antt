use Rattle.std.proofs.Common.{sym, arith}
use Rattle.std.specs.HashMap.{get}
use Rattle.rule_automaton.specs.Places.{same_key}
use Rattle.rule_automaton.specs.Tables.{tabled}
use Rattle.rule_automaton.proofs.Blocks.{grown, kept}
use Rattle.rule_automaton.proofs.table.Table.kids.Goals as goal

pub returns-in-Some-clause-small : goal.returns-in-Some-clause-small
returns-in-Some-clause-small c =
    let w = c.requires.table.within c.args.place c.args.count c.in-Some.found.now (sym c.in-Some.ensures.value) in
    let s = c.requires.table.small in
    omega (arith, w.1, s)

pub returns-clause-kept : goal.returns-clause-kept
returns-clause-kept c =
    kept (tabled c.args.self.now) c.requires.table c.args.place c.args.count c.requires.place (sym c.in_default.ensures.value) (λ q m. get same_key c.insert.new.self (q, m)) (λ q m. c.in_ok-insert.ensures.updates.0 (q, m)) c.in-Some-checked_add.places c.in-Some-checked_add.ensures.1

pub returns-clause-table : goal.returns-clause-table
returns-clause-table c =
    grown (tabled c.args.self.now) c.requires.table c.args.place c.args.count c.requires.place (sym c.in_default.ensures.value) (λ q m. get same_key c.insert.new.self (q, m)) (λ q m. c.in_ok-insert.ensures.updates.0 (q, m)) c.in-Some-checked_add.places c.in-Some-checked_add.ensures.1 (omega (arith, c.in-Some-checked_add.ensures.0, c.in-Some-checked_add.ensures.1))
