use Rattle.store_model.specs.StoreSteps.{meant}
use Rattle.store_model.specs.Runs.{at_start}
use Rattle.store_model.specs.StoreSteps as steps
use Rattle.store_model.proofs.Acts.{acts_are_actions}
use Rattle.store_model.proofs.Eight.{eight, inductive}
use Rattle.store_model.proofs.Runs.{step_kept, starts, kept_along}
use Rattle.store_model.proofs.law.steps_keep.Goals as goal

pub returns-clause-kept : goal.returns-clause-kept
returns-clause-kept c = λ z s i x k ok. eight z (steps.after z s i x) (step_kept (meant s i x) z s i (inductive z s k) ok.step)

pub returns-clause-start : goal.returns-clause-start
returns-clause-start c = λ z w a b. eight z (at_start z w) (starts z w a b)

pub returns-clause-all : goal.returns-clause-all
returns-clause-all c = λ z w steps s a b path. eight z s (kept_along z steps (at_start z w) s (starts z w a b) path)

pub returns-clause-acts : goal.returns-clause-acts
returns-clause-acts c = acts_are_actions
