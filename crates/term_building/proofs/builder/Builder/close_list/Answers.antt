use Rattle.term_building.proofs.Results.{on_ok}
use Rattle.term_building.proofs.builder.Builder.close_list.Goals as goal

pub returns-in_ok-build_list-in-None-clause-same : goal.returns-in_ok-build_list-in-None-clause-same
returns-in_ok-build_list-in-None-clause-same g c = on_ok c.end.result (g.met.T.Terms.same_in_turn _ _ _ c.build_list.ensures.same) c.end.ensures.same
