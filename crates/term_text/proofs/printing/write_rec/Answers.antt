use Rattle.term_text.proofs.printing.write_rec.Goals as goal

pub returns-in_err-write_or_restore-clause-same : goal.returns-in_err-write_or_restore-clause-same
returns-in_err-write_or_restore-clause-same g c = g.met.T.Terms.same_in_turn _ _ _ c.has_at_most.ensures.same c.write_or_restore.ensures.same

pub returns-in_ok-write_or_restore-clause-same : goal.returns-in_ok-write_or_restore-clause-same
returns-in_ok-write_or_restore-clause-same g c = g.met.T.Terms.same_in_turn _ _ _ c.has_at_most.ensures.same c.write_or_restore.ensures.same
