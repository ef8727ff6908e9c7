use Rattle.rule_automaton.proofs.rows.put_argument.Goals as goal

pub returns-clause-more : goal.returns-clause-more
returns-clause-more g c = λ all f.
    c.put_at.ensures.more (g.T.Terms.store c.args.terms.now) c.args.row all f c.child-argument.ensures.held c.child-argument.ensures.tree
