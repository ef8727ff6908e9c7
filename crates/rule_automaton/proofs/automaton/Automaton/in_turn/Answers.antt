use Rattle.std.proofs.Common.{◌≡◌, ◌≤◌, length, arith}
use Rattle.rule_automaton.specs.Tables.{tabled}
use Rattle.rule_automaton.proofs.Starts.{first_starts, starts_automaton}
use Rattle.rule_automaton.proofs.automaton.Automaton.in_turn.Goals as goal

pub numbers_below-requires : goal.numbers_below-requires
numbers_below-requires c =
    let n = c.in_ok-shapes.ensures.shapes.count in
    let p = c.rules.ensures.plan.count in
    omega (arith, n, p, c.len-count.ensures)

pub group_all-requires-clause-starts : goal.group_all-requires-clause-starts
group_all-requires-clause-starts c =
    let n = c.in_ok-shapes.ensures.shapes.count in
    let e : c.len-count.result ≡ length c.args.plan.now.rules = omega (arith, n, c.len-count.ensures) in
    first_starts c.args.plan.now.rules c.in_ok-rules.rules.items c.in_ok-states.states.items c.len-count.result e c.in_ok-rules.ensures c.in_ok-states.ensures

pub returns-clause-starts : goal.returns-clause-starts
returns-clause-starts c =
    let low : (tabled c.shapes_of.new.table).places ≤ c.places.result = omega (arith, c.places.ensures) in
    starts_automaton (tabled c.shapes_of.new.table) c.in_ok-shapes.ensures.table c.args.plan.now.rules c.in_ok-shapes.shapes.items c.in_ok-shapes.ensures.shapes c.group_all.new.rules.items c.group_all.new.states.items c.in_ok-group_all.ensures c.places.result low _ _

pub returns-clause-count : goal.returns-clause-count
returns-clause-count c =
    let n = c.in_ok-shapes.ensures.shapes.count in
    let m = c.in_ok-group_all.ensures.count in
    omega (arith, n, m)
