use Rattle.std.proofs.Common.{List, ap, subst, length, ◌∙◌, map, refl, arith}
use Rattle.std.specs.Prelude.{slice_index_or}
use Rattle.term_model.specs.Tree.{Tree}
use Rattle.rewrite_model.specs.Rule.{Rule}
use Rattle.rewrite_model.specs.Matching.{instance}
use Rattle.rule_match.specs.Planned.{match_at}
use Rattle.run_checks.specs.Held.{IsPut, term_at}
use Rattle.run_checks.proofs.Bound.{matched_some, matched_none}
use Rattle.run_checks.proofs.Moves.{no_rule, no_match, may_put, rewrites, nothing}
use Rattle.run_checks.proofs.cursor.Cursor.rewrite.Goals as goal

pub returns-then-rule-rules : goal.returns-then-rule-rules
returns-then-rule-rules c = λ k e.
    let n = ap (λ (rs : List Rule). length rs) c.rules-rules.ensures.rules in
    no_rule c.args.table.now c.args.self.now c.args.plan.now.rules c.args.rule k c.requires.standing e (omega (arith, n, c.if-rule-rules.true))

pub put_instance-requires-clause-may : goal.put_instance-requires-clause-may
put_instance-requires-clause-may c =
    let h = c.args.table.now in
    let rules = c.args.plan.now.rules in
    let n = ap (λ (rs : List Rule). length rs) c.rules-rules.ensures.rules in
    let m = matched_some h (match_at rules c.args.rule (term_at h c.args.self.now.number)) c.in_ok-bound.field-0 c.in-Some.bound c.in_ok-bound.ensures c.in-Some.is in
    let may = may_put h h.symbols rules c.args.plan.now.widest c.args.rule c.index-rules-rule.result (term_at h c.args.self.now.number) c.in-Some.bound.items c.requires.rules c.rules-rules.ensures.plan (omega (arith, n, c.if-rule-rules.false)) m.0 in
    let right = ap (λ (r : Rule). r.right) (c.index-rules-rule.is ∙ ap (λ (rs : List Rule). slice_index_or rs c.args.rule c.index-rules-rule.result) c.rules-rules.ensures.rules) in
    rw (c.deref.ensures.value, c.right-right.ensures, right) may

pub returns-in_ok-self-in-Some : goal.returns-in_ok-self-in-Some
returns-in_ok-self-in-Some c = λ k e.
    let h = c.args.table.now in
    let new = c.put_instance.new.table in
    let rules = c.args.plan.now.rules in
    let n = ap (λ (rs : List Rule). length rs) c.rules-rules.ensures.rules in
    let m = matched_some h (match_at rules c.args.rule (term_at h c.args.self.now.number)) c.in_ok-bound.field-0 c.in-Some.bound c.in_ok-bound.ensures c.in-Some.is in
    let right = c.right-right.ensures ∙ ap (λ (r : Rule). r.right) (c.index-rules-rule.is ∙ ap (λ (rs : List Rule). slice_index_or rs c.args.rule c.index-rules-rule.result) c.rules-rules.ensures.rules) in
    let put = subst (λ (t : Tree). IsPut h new c.in_ok-self-in-Some.field-0 (instance t (map (term_at h) c.in-Some.bound.items))) right
    (subst (λ ns. IsPut h new c.in_ok-self-in-Some.field-0 (instance c.right-right.result.now (map (term_at h) ns))) c.deref.ensures.value c.in_ok-self-in-Some.ensures) in
    rewrites h c.args.self.now rules c.args.rule k c.index-rules-rule.result c.requires.standing e (omega (arith, n, c.if-rule-rules.false)) (omega (arith, n)) new (record { frames = c.args.self.now.frames; number = c.in_ok-self-in-Some.field-0 }) c.in-Some.bound.items c.in_ok-self-in-Some.field-0 m.0 put refl refl

pub returns-in-None : goal.returns-in-None
returns-in-None c = λ k e.
    let h = c.args.table.now in
    let rules = c.args.plan.now.rules in
    let n = ap (λ (rs : List Rule). length rs) c.rules-rules.ensures.rules in
    let m = matched_none h (match_at rules c.args.rule (term_at h c.args.self.now.number)) c.in_ok-bound.field-0 c.in_ok-bound.ensures c.in-None.is in
    no_match h c.args.self.now rules c.args.rule k nothing c.requires.standing e (omega (arith, n, c.if-rule-rules.false)) (omega (arith, n)) m
