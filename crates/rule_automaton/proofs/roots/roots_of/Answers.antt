use Rattle.std.proofs.Common.{◌+◌, sym, ◌∙◌, ap}
use Rattle.std.proofs.lemmas.List.{length_push}
use Rattle.rule_automaton.specs.Running.{made}
use Rattle.rule_automaton.proofs.Rooted.{one_more_root}
use Rattle.rule_automaton.proofs.roots.roots_of.Goals as goal

pub loop-rule-preserved : goal.loop-rule-preserved
loop-rule-preserved c =
    let i = c.loop-rule.invariant in
    rw c.in_ok-push.ensures.items (record {
      size = length_push c.loop-rule.roots.items _ ∙ ap (λ n. n + 1) i.size;
      each = one_more_root c.args.plan.now.rules (made c.args.automaton.now) c.loop-rule.roots.items _ c.loop-rule.rule (sym i.size) i.each c.root_of.ensures;
    })
