use Rattle.term_model.proofs.Members.{distinct_without_repetition, distinct_of_part, distinct_in_any_order, distinct_is_bounded}
use Rattle.term_model.proofs.laws.distinct_laws.Goals as goal

pub returns-clause-all_differ : goal.returns-clause-all_differ
returns-clause-all_differ c = distinct_without_repetition

pub returns-clause-part : goal.returns-clause-part
returns-clause-part c = distinct_of_part

pub returns-clause-order : goal.returns-clause-order
returns-clause-order c = distinct_in_any_order

pub returns-clause-bound : goal.returns-clause-bound
returns-clause-bound c = distinct_is_bounded
