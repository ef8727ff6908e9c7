use Rattle.std.proofs.Common.{[], refl}
use Rattle.rewrite_model.specs.Trace.{replacements}
use Rattle.rewrite_model.proofs.Derivations.{derivation_reaches, events_lead, events_reach}
use Rattle.rewrite_model.proofs.InnermostDerives.{evaluation_derives}
use Rattle.rewrite_model.proofs.Spending.{evaluation_spends}
use Rattle.rewrite_model.proofs.Fewest.{events_are_fewest, events_make}
use Rattle.rewrite_model.proofs.laws.derivation_laws.Goals as goal

pub returns-clause-steps : goal.returns-clause-steps
returns-clause-steps c = derivation_reaches

pub returns-clause-events : goal.returns-clause-events
returns-clause-events c = λ rules ss t u e. events_lead rules ss [] t u refl e

pub returns-clause-reached : goal.returns-clause-reached
returns-clause-reached c = λ rules es t u e. events_reach rules es [] t u e

pub returns-clause-value : goal.returns-clause-value
returns-clause-value c = evaluation_derives

pub returns-clause-trace : goal.returns-clause-trace
returns-clause-trace c = λ rules nodes plain t u fuel room left e. events_lead rules (replacements rules fuel t) [] t u refl (evaluation_derives rules nodes plain t u fuel room left e).0

pub returns-clause-fuel : goal.returns-clause-fuel
returns-clause-fuel c = evaluation_spends

pub returns-clause-fewest : goal.returns-clause-fewest
returns-clause-fewest c = λ es ss e. events_are_fewest es [] ss e

pub returns-clause-made : goal.returns-clause-made
returns-clause-made c = λ ss. events_make ss []
