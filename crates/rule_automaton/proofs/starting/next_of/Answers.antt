use Rattle.rule_automaton.proofs.Starts.{has_head, next_there, next_passed}
use Rattle.rule_automaton.proofs.starting.next_of.Goals as goal

pub returns-clause-next : goal.returns-clause-next
returns-clause-next c =
    let rules = c.args.plan.now.rules in
    let h = has_head rules c.args.rule c.rules.ensures.plan.rules c.requires in
    next_there rules c.args.rule h.0 c.next.result h.1 (c.next.ensures.next h.0 h.1)

pub returns-clause-passed : goal.returns-clause-passed
returns-clause-passed c =
    let rules = c.args.plan.now.rules in
    let h = has_head rules c.args.rule c.rules.ensures.plan.rules c.requires in
    next_passed rules c.args.rule h.0 c.next.result h.1 (c.next.ensures.none h.0 h.1)
