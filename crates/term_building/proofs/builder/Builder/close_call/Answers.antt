use Rattle.term_building.proofs.Results.{on_ok}
use Rattle.term_building.proofs.builder.Builder.close_call.Goals as goal

pub returns-in_ok-call-in-Some-clause-same : goal.returns-in_ok-call-in-Some-clause-same
returns-in_ok-call-in-Some-clause-same g c = on_ok c.end.result (g.met.T.Terms.same_in_turn _ _ _ c.in_ok-call-in-Some.ensures.same) c.end.ensures.same
