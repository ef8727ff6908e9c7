use Rattle.std.proofs.Common.{sym, ◌∙◌, ap}
use Rattle.term_model.specs.Tree.{root}
use Rattle.terms_api.specs.Terms.{Store, tree_at}
use Rattle.innermost.proofs.Passing.{head_within}
use Rattle.rewriting_trials.proofs.automata.found_on_top.Goals as goal

pub from_or_after-requires : goal.from_or_after-requires
from_or_after-requires g c = head_within c.args.plan.now.rules c.in-Some.first c.head-head.result c.in-Some.ensures.first.found.1

pub find_rule-requires-clause-first : goal.find_rule-requires-clause-first
find_rule-requires-clause-first g c = (c.in-Some-from_or_after.ensures c.head-head.result c.in-Some.ensures.first.found.1).0

pub find_rule-requires-clause-head : goal.find_rule-requires-clause-head
find_rule-requires-clause-head g c =
    ap (λ (s : Store). root (tree_at s c.at-row.result)) c.head-head.ensures.unchanged ∙ c.head-head.ensures.head
    ∙ sym (c.in-Some-from_or_after.ensures c.head-head.result c.in-Some.ensures.first.found.1).1
