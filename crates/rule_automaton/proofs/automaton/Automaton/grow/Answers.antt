use Rattle.std.proofs.Common.{◌≡◌, ◌<◌, ◌≤◌, ℕ, List, length, sym, ◌∙◌, ap, arith, subst}
use Rattle.std.specs.Prelude.{All}
use Rattle.rule_automaton.specs.Shapes.{numbers}
use Rattle.rule_automaton.specs.Asking.{total}
use Rattle.rule_automaton.specs.Running.{made}
use Rattle.rule_automaton.specs.declared.shapes.Shape.{Shape}
use Rattle.rule_automaton.proofs.Decided.{is_built, automaton_grown}
use Rattle.rule_automaton.proofs.Laying.{All-numbers}
use Rattle.rule_automaton.proofs.Rooted.{automaton_with}
use Rattle.rule_automaton.proofs.Starts.{length-numbers}
use Rattle.rule_automaton.proofs.automaton.Automaton.grow.Goals as goal

pub build-requires : goal.build-requires
build-requires c =
    let au = c.requires.starts in
    (au.table, is_built c.args.plan.now.rules (made c.args.self.now) au)

pub build-requires-2 : goal.build-requires-2
build-requires-2 c =
    let au = c.requires.starts in
    (au.table, (c.in_ok-build.ensures.grown au.table (is_built c.args.plan.now.rules (made c.args.self.now) au)).built)

pub returns-clause-automaton : goal.returns-clause-automaton
returns-clause-automaton c =
    let rules = c.args.plan.now.rules in
    let a = made c.args.self.now in
    let b = made c.build.new.automaton in
    let last = made c.build-2.new.automaton in
    automaton_with rules last c.in_ok-roots.roots.items (automaton_grown rules b last (automaton_grown rules a b c.requires.starts c.in_ok-build.ensures.grown) c.in_ok-build-2.ensures.grown) c.in_ok-roots.ensures

pub roots_of-requires : goal.roots_of-requires
roots_of-requires c =
    let rules = c.args.plan.now.rules in
    let b = made c.build.new.automaton in
    automaton_grown rules b (made c.build-2.new.automaton) (automaton_grown rules (made c.args.self.now) b c.requires.starts c.in_ok-build.ensures.grown) c.in_ok-build-2.ensures.grown

pub returns-clause-small : goal.returns-clause-small
returns-clause-small c =
    let a = made c.args.self.now in
    let au = c.requires.starts in
    let one = c.in_ok-build.ensures.grown au.table (is_built c.args.plan.now.rules a au) in
    let two = c.in_ok-build-2.ensures.grown au.table one.built in
    let n : c.len.result ≡ length a.shapes = omega (arith, c.len.ensures) in
    let all = c.in_ok-all.ensures ∙ ap (numbers 0) n in
    let same = ap (λ (ss : List Shape). total ss (numbers 0 (length ss))) (sym (two.shapes ∙ one.shapes)) in
    let size' = subst (λ (rs : List ℕ). c.size_of-size.result ≤ total a.shapes rs) c.deref-2.ensures.value (subst (λ (ss : List Shape). c.size_of-size.result ≤ total ss c.deref-2.result.now) c.deref.ensures.value c.size_of-size.ensures) in
    let size = subst (λ (rs : List ℕ). c.size_of-size.result ≤ total a.shapes rs) all size' in
    let low : length (numbers 0 (length a.shapes)) ≤ total a.shapes (numbers 0 (length a.shapes)) = omega arith in
    let many = length-numbers 0 (length a.shapes) in
    let count = c.requires.count in
    let paid = c.in_ok-build.ensures.paid in
    let paid' = c.in_ok-build-2.ensures.paid in
    omega (arith, same, size, low, many, count, paid, paid', c.saturating_mul.ensures)

pub numbers_below-requires : goal.numbers_below-requires
numbers_below-requires c =
    let n = c.requires.starts.shapes.count in
    let p = c.rules.ensures.plan.count in
    omega (arith, n, p, c.len.ensures)

pub size_of-size-requires : goal.size_of-size-requires
size_of-size-requires c =
    let a = made c.args.self.now in
    let n : c.len.result ≡ length a.shapes = omega (arith, c.len.ensures) in
    let all = c.in_ok-all.ensures ∙ ap (numbers 0) n in
    let low = All-numbers (λ r. r < length a.shapes) (length a.shapes) 0 (λ x l k. omega (arith, k)) in
    subst (λ (ss : List Shape). All (λ r. r < length ss) c.deref-2.result.now) (sym c.deref.ensures.value)
    (subst (All (λ r. r < length a.shapes)) (sym c.deref-2.ensures.value) (subst (All (λ r. r < length a.shapes)) (sym all) low))
