use Rattle.std.proofs.Common.{◌≡◌, ◌+◌, ◌++◌, [], ◌∷◌, length, take, ap, sym, ◌∙◌, arith, subst}
use Rattle.rule_match.specs.Preorder.{IsCompiled}
use Rattle.rule_match.proofs.Compiled.{one_more}
use Rattle.rule_match.proofs.compiling.compile.Goals as goal

pub loop-rule-preserved : goal.loop-rule-preserved
loop-rule-preserved c =
    let after = c.append.new.items.items in
    let n : c.len.result ≡ length after = omega (arith, c.len.ensures) in
    let e : c.push.new.self.items ≡ c.loop-rule.starts.items ++ length after ∷ [] = c.in_ok-push.ensures.items ∙ ap (λ k. c.loop-rule.starts.items ++ k ∷ []) n in
    subst (λ ks. IsCompiled (take (c.loop-rule.rule-index + 1) c.args.rules.now) after ks) (sym e)
    (one_more c.args.rules.now c.loop-rule.rule-index c.rule-item.result c.left.result.now _ after _ c.loop-rule-test.true c.rule-item.is c.left.ensures c.loop-rule.invariant c.in_ok-append.ensures)
