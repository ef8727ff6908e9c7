use Rattle.rule_automaton.proofs.Filling.{fills_none}
use Rattle.rule_automaton.proofs.rows.put_one.Goals as goal

pub returns-clause-fills : goal.returns-clause-fills
returns-clause-fills g c =
    c.put_argument.ensures.more c.args.rows.now (fills_none (g.T.Terms.store c.args.terms.now) c.args.row c.args.base c.args.rows.now)
