use Rattle.rule_automaton.proofs.Filling.{fills_none}
use Rattle.rule_automaton.proofs.rows.put_pair.Goals as goal

pub returns-clause-fills : goal.returns-clause-fills
returns-clause-fills g c =
    let s = g.T.Terms.store c.args.terms.now in
    let row = c.args.row in
    let all = c.args.rows.now in
    let e = c.pair.ensures in
    let first = c.put_at.ensures.more s row all (fills_none s row c.args.base all) e.held.0 e.first in
    c.put_at-2.ensures.more s row all first e.held.1 e.second
