use Rattle.innermost.proofs.normalizing.settle.Goals as goal

pub returns-in-Ok-Value-clause-same : goal.returns-in-Ok-Value-clause-same
returns-in-Ok-Value-clause-same g c = g.met.T.Terms.same_as_itself _

pub returns-clause-same : goal.returns-clause-same
returns-clause-same g c = c.keep.ensures.same
