use Rattle.store_trials.proofs.roots.protect_two.Goals as goal

pub returns-clause-first : goal.returns-clause-first
returns-clause-first g c = c.protect_constant-second.ensures.keeps c.protect_constant-first.result.0 c.protect_constant-first.ensures.uses

pub returns-clause-keeps : goal.returns-clause-keeps
returns-clause-keeps g c = λ r u. c.protect_constant-second.ensures.keeps r (c.protect_constant-first.ensures.keeps r u)
