use Rattle.rewriting_trials.proofs.chance.+push_pattern.Given as goal

abbrev pub decreases-push_pattern : goal.decreases-push_pattern
decreases-push_pattern l = l.levels
