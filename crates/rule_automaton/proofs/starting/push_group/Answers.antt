use Rattle.std.proofs.Common.{ℕ, List, Option, sym, subst}
use Rattle.rule_automaton.proofs.Starts.{Adding, adds_more}
use Rattle.rule_automaton.proofs.starting.push_group.Goals as goal

pub rules-preserved : goal.rules-preserved
rules-preserved c =
    let rules = c.args.plan.now.rules in
    let old = c.args.rules.now.items in
    let first = c.args.first in
    let d = subst (λ (o : Option ℕ). Adding rules old c.rules.rules.items first o) c.in-Some.is c.rules.invariant in
    subst (λ (xs : List ℕ). Adding rules old xs first c.next_of-rule.result) (sym c.in_ok-push.ensures.items)
    (adds_more rules old c.rules.rules.items first c.in-Some.next d c.next_of-rule.result c.next_of-rule.ensures.next c.next_of-rule.ensures.passed)
