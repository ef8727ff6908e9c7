use Rattle.plain_rewriting.proofs.reading.+take.Given as goal

abbrev pub decreases-take : goal.decreases-take
decreases-take l = l.count
