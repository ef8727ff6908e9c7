use Rattle.node_rows.proofs.law.history_is_legal.Goals as goal

pub returns : goal.returns
returns c = λ s rule. rule.shows.holds.history.legal
