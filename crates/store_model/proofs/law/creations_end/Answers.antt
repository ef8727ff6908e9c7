use Rattle.std.proofs.Common.{ap}
use Rattle.store_model.specs.Calls.{Content, bucket}
use Rattle.store_model.proofs.Creations.{creation_ends, row_is_asked, refusals_have_cause}
use Rattle.store_model.proofs.Full.{full_is_exact, full_is_exact_alone}
use Rattle.store_model.proofs.Ends.{others_stay}
use Rattle.store_model.proofs.law.creations_end.Goals as goal

pub returns-clause-ends : goal.returns-clause-ends
returns-clause-ends c = creation_ends

pub returns-clause-asked : goal.returns-clause-asked
returns-clause-asked c = row_is_asked

pub returns-clause-full_only_where : goal.returns-clause-full_only_where
returns-clause-full_only_where c = refusals_have_cause

pub returns-clause-full_after_collection : goal.returns-clause-full_after_collection
returns-clause-full_after_collection c = full_is_exact

pub returns-clause-others : goal.returns-clause-others
returns-clause-others c = others_stay

pub returns-clause-bucket : goal.returns-clause-bucket
returns-clause-bucket c = λ a b u e. ap (λ (k : Content). bucket k u) e

pub returns-clause-full_alone : goal.returns-clause-full_alone
returns-clause-full_alone c = full_is_exact_alone
