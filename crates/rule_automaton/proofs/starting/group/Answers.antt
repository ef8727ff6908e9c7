use Rattle.std.proofs.Common.{◌≡◌, ◌<◌, length, sym, ◌∙◌, arith}
use Rattle.std.proofs.lemmas.List.{get_or_default}
use Rattle.rule_automaton.proofs.Starts.{starts_on, starts_set}
use Rattle.rule_automaton.proofs.starting.group.Goals as goal

pub loop-at-init : goal.loop-at-init
loop-at-init c = starts_on c.args.plan.now.rules c.args.rules.now.items c.push_group.new.rules.items c.args.states.now.items c.in_ok-push_group.ensures c.requires.starts

pub loop-at-preserved : goal.loop-at-preserved
loop-at-preserved c =
    let new = c.push_group.new.rules.items in
    let at = c.loop-at.at in
    let to : c.len-to.result ≡ length new = omega (arith, c.len-to.ensures) in
    let l : at < length new = omega (arith, to) in
    starts_set c.args.plan.now.rules c.args.rules.now.items new c.loop-at.states.items at c.len-to.result c.index-rule.result.now c.in_ok-push_group.ensures c.loop-at.invariant (omega (arith, c.len-from.ensures)) (omega arith) to (c.index-rule.ensures ∙ sym (get_or_default new at 0 c.index-rule.result.now l))
