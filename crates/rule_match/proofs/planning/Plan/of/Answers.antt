use Rattle.std.proofs.Common.{ap, arith, sym, subst, length, ℕ, List, Option, ◌∙◌}
use Rattle.rule_match.specs.Groups.{HaveSymbols, HeadsAreBelow, IsLinked}
use Rattle.rule_match.specs.Preorder.{IsCompiled}
use Rattle.rule_match.proofs.Links.{plan_symbols, indexed, written_back}
use Rattle.rule_match.proofs.planning.Plan.of.Goals as goal

pub symbol_count-requires : goal.symbol_count-requires
symbol_count-requires c =
    subst (λ rules. HaveSymbols rules) (sym c.deref-2.ensures.value) (plan_symbols c.args.widest c.args.rules.items c.requires.rules c.requires.symbols)

pub invariant_of-result : goal.invariant_of-result
invariant_of-result c =
    let rules = c.args.rules.items in
    let compiled = c.in_ok-compiled.compiled in
    let firsts_long = c.link.auto.firsts ∙ ap (λ (xs : List (Option ℕ)). length xs) c.deref_mut.ensures.value in
    let nexts_long = c.link.auto.nexts ∙ ap (λ (xs : List (Option ℕ)). length xs) c.deref_mut-2.ensures.value in
    let firsts = written_back c.in_ok-firsts.firsts.items c.link.new.firsts c.in_ok-firsts.firsts.len c.in_ok-firsts.firsts.ok.0 firsts_long in
    let nexts = written_back c.in_ok-nexts.nexts.items c.link.new.nexts c.in_ok-nexts.nexts.len c.in_ok-nexts.nexts.ok.0 nexts_long in
    let linked = subst (λ rs. IsLinked rs 0 c.link.new.firsts c.link.new.nexts) c.deref-3.ensures.value c.link.ensures in (
      indexed rules c.args.widest c.link.new.firsts c.link.new.nexts _ _ c.requires
          (omega (arith, nexts_long, c.in_ok-nexts.ensures.len, c.in_ok-nexts.nexts.ok.0, c.len.ensures))
          (subst (λ n. HeadsAreBelow n rules) (sym (firsts_long ∙ (sym c.in_ok-firsts.firsts.ok.0 ∙ c.in_ok-firsts.ensures.len)))
          (subst (λ rs. HeadsAreBelow c.symbol_count.result rs) c.deref-2.ensures.value c.symbol_count.ensures))
          linked firsts nexts,
      subst (λ rs. IsCompiled rs compiled.items.items compiled.starts.items) c.deref.ensures.value c.in_ok-compiled.ensures,
    )
