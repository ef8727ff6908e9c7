use Rattle.std.proofs.Common.{get_or}
use Rattle.rule_automaton.proofs.Decided.{asked_first, tested_first}
use Rattle.rule_automaton.proofs.building.choose.Goals as goal

pub read_least-requires-clause-asked : goal.read_least-requires-clause-asked
read_least-requires-clause-asked c =
    asked_first c.args.automaton.now.shapes.items c.args.rules.now c.in-Some.place c.index-first.result.now c.deref.result.now c.requires.some (c.requires.rules 0 0 c.requires.some) c.index-first.ensures c.deref.ensures.value c.in-Some.ensures.some

pub use_first-requires-clause-tested : goal.use_first-requires-clause-tested
use_first-requires-clause-tested c =
    tested_first c.args.automaton.now.shapes.items (get_or c.args.rules.now 0 0) c.args.bound c.index-first.result.now c.deref.result.now (c.requires.rules 0 0 c.requires.some) c.index-first.ensures c.deref.ensures.value c.in-None.ensures.none
