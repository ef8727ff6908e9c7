use Rattle.rec_check.proofs.Common.{◌≡◌, drop, texts, after, all_of, rule_in}
use Rattle.rec_check.proofs.spelling.push_rules.Given as goal

abbrev pub invariant-loop-rule : goal.invariant-loop-rule
invariant-loop-rule l =
    after l.rules.items (all_of (rule_in l.declared.bytes l.symbols (texts l.declared)) (drop l.rule-index l.written))
    ≡ after l.fn.rules.items (all_of (rule_in l.declared.bytes l.symbols (texts l.declared)) l.written)
