use Rattle.std.proofs.Common.{Ok, subst, sym}
use Rattle.terms_api.specs.Terms.{Store}
use Rattle.innermost.specs.Remembered.{AreRight}
use Rattle.innermost.specs.declared.normal.Normal.TheVariants.{OutOfFuel}
use Rattle.innermost.proofs.CachedEnds.{settled_right}
use Rattle.rewriting_trials.proofs.remembered.comes_with.Goals as goal

pub returns-then-is_right-clause-memory : goal.returns-then-is_right-clause-memory
returns-then-is_right-clause-memory g c =
    let map' = g.M.Memo.map c.normalize_with-answer.new.memo in
    let rules = c.args.plan.now.rules in
    let before = subst (λ (s : Store). AreRight rules s.built s map') (sym c.is_on_top.ensures.unchanged) c.normalize_with-answer.ensures.memory in
    settled_right rules (g.T.Terms.store c.is_on_top.new.terms) (g.T.Terms.store c.keep.new.self) 0 map' (Ok OutOfFuel) before c.keep.ensures.kept

pub returns-else-is_right-clause-memory : goal.returns-else-is_right-clause-memory
returns-else-is_right-clause-memory g c =
    let map' = g.M.Memo.map c.normalize_with-answer.new.memo in
    let rules = c.args.plan.now.rules in
    let before = subst (λ (s : Store). AreRight rules s.built s map') (sym c.is_on_top.ensures.unchanged) c.normalize_with-answer.ensures.memory in
    settled_right rules (g.T.Terms.store c.is_on_top.new.terms) (g.T.Terms.store c.keep.new.self) 0 map' (Ok OutOfFuel) before c.keep.ensures.kept
