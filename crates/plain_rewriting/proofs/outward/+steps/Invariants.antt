use Rattle.plain_rewriting.proofs.outward.+steps.Given as goal

abbrev pub decreases-steps : goal.decreases-steps
decreases-steps l = l.fuel
