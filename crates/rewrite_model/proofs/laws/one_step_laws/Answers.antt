use Rattle.rewrite_model.proofs.SingleSteps.{steps_are_all, normal_has_none}
use Rattle.rewrite_model.proofs.laws.one_step_laws.Goals as goal

pub returns-clause-all : goal.returns-clause-all
returns-clause-all c = steps_are_all

pub returns-clause-normal : goal.returns-clause-normal
returns-clause-normal c = normal_has_none
