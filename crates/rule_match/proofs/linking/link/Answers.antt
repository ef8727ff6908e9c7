use Rattle.std.proofs.Common.{◌≡◌, ◌+◌, ◌-◌, sym, ◌∙◌, arith, subst}
use Rattle.term_model.specs.Tree.{root}
use Rattle.rule_match.specs.Groups.{IsLinked}
use Rattle.rule_match.proofs.Skipping.{head_at_rule}
use Rattle.rule_match.proofs.Links.{linked_none, linked_more, symbol_at, symbol_there}
use Rattle.rule_match.proofs.linking.link.Goals as goal

pub rules-init : goal.rules-init
rules-init c = record { within = omega arith; linked = linked_none _ _ _ _ (omega arith) c.requires.none }

pub slice_copy_out-nexts : goal.slice_copy_out-nexts
slice_copy_out-nexts c =
    let at = c.rules.at - 1 in
    let there = head_at_rule c.args.rules.now at c.index-rules-at.result c.left.result.now (omega arith) c.index-rules-at.is c.left.ensures in
    let s = symbol_at c.args.rules.now at _ (root c.left.result.now) c.in-Some.symbol c.requires.heads (omega arith) there (sym c.in-Some.ensures) in
    omega (arith, s.below, c.rules.auto.firsts)

pub bounds-firsts-head : goal.bounds-firsts-head
bounds-firsts-head c =
    let at = c.rules.at - 1 in
    let there = head_at_rule c.args.rules.now at c.index-rules-at.result c.left.result.now (omega arith) c.index-rules-at.is c.left.ensures in
    let s = symbol_at c.args.rules.now at _ (root c.left.result.now) c.in-Some.symbol c.requires.heads (omega arith) there (sym c.in-Some.ensures) in
    omega (arith, s.below, c.rules.auto.firsts)

pub rules-preserved-in-Some : goal.rules-preserved-in-Some
rules-preserved-in-Some c =
    let at = c.rules.at - 1 in
    let there = head_at_rule c.args.rules.now at c.index-rules-at.result c.left.result.now (omega arith) c.index-rules-at.is c.left.ensures in
    let s = symbol_at c.args.rules.now at _ (root c.left.result.now) c.in-Some.symbol c.requires.heads (omega arith) there (sym c.in-Some.ensures) in
    let one : c.rules.at ≡ at + 1 = omega arith in
    let before : IsLinked c.args.rules.now (at + 1) c.rules.firsts c.rules.nexts = subst (λ k. IsLinked c.args.rules.now k c.rules.firsts c.rules.nexts) one c.rules.invariant.linked in
    record {
      within = omega (arith, c.rules.invariant.within);
      linked = linked_more c.args.rules.now at c.rules.firsts c.rules.nexts c.in-Some.symbol (omega (arith, c.rules.auto.nexts, c.requires.size)) s.head (omega (arith, s.below, c.rules.auto.firsts)) before;
    }

pub rules-preserved : goal.rules-preserved
rules-preserved c =
    let at = c.rules.at - 1 in
    let there = head_at_rule c.args.rules.now at c.index-rules-at.result c.left.result.now (omega arith) c.index-rules-at.is c.left.ensures in
    absurd (symbol_there c.args.rules.now at _ (root c.left.result.now) c.requires.heads (omega arith) there (sym c.root_symbol.ensures ∙ c.in_default.is))
