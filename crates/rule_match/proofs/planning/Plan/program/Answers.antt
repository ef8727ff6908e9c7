use Rattle.std.proofs.Common.{◌≡◌, ◌-◌, length, take, drop, ap, ◌∙◌, arith}
use Rattle.rule_match.specs.Planned.{Planned}
use Rattle.rule_match.specs.Preorder.{left_at, preorder}
use Rattle.rule_match.proofs.Compiled.{count-starts, part_at}
use Rattle.rule_match.proofs.planning.Plan.program.Goals as goal

pub index-from-requires : goal.index-from-requires
index-from-requires c =
    let same : length c.self.inside.rules.items ≡ length c.args.self.now.rules = ap (λ (v : Planned). length v.rules) c.self.view_is in
    let n = ap length c.self.invariant.1.begins ∙ count-starts 0 c.self.inside.rules.items in
    omega (arith, same, n, c.requires)

pub index-to-requires : goal.index-to-requires
index-to-requires c =
    let same : length c.self.inside.rules.items ≡ length c.args.self.now.rules = ap (λ (v : Planned). length v.rules) c.self.view_is in
    let n = ap length c.self.invariant.1.begins ∙ count-starts 0 c.self.inside.rules.items in
    omega (arith, same, n, c.requires)

pub part-requires-clause-order : goal.part-requires-clause-order
part-requires-clause-order c =
    let same : length c.self.inside.rules.items ≡ length c.args.self.now.rules = ap (λ (v : Planned). length v.rules) c.self.view_is in
    (part_at c.self.inside.rules.items _ _ c.args.rule c.index-from.result.now c.index-to.result.now c.self.invariant.1 (omega (arith, same, c.requires)) c.index-from.ensures c.index-to.ensures).order

pub part-requires-clause-within : goal.part-requires-clause-within
part-requires-clause-within c =
    let same : length c.self.inside.rules.items ≡ length c.args.self.now.rules = ap (λ (v : Planned). length v.rules) c.self.view_is in
    let p = part_at c.self.inside.rules.items _ _ c.args.rule c.index-from.result.now c.index-to.result.now c.self.invariant.1 (omega (arith, same, c.requires)) c.index-from.ensures c.index-to.ensures in
    omega (arith, p.within, ap length c.deref.ensures.value)

pub returns-clause-program : goal.returns-clause-program
returns-clause-program c =
    let same : length c.self.inside.rules.items ≡ length c.args.self.now.rules = ap (λ (v : Planned). length v.rules) c.self.view_is in
    let p = part_at c.self.inside.rules.items _ _ c.args.rule c.index-from.result.now c.index-to.result.now c.self.invariant.1 (omega (arith, same, c.requires)) c.index-from.ensures c.index-to.ensures in
    c.part.ensures
    ∙ ap (λ is. take (c.index-to.result.now - c.index-from.result.now) (drop c.index-from.result.now is)) c.deref.ensures.value
    ∙ p.read
    ∙ ap (λ (v : Planned). preorder (left_at v.rules c.args.rule)) c.self.view_is
