use Rattle.std.proofs.Common.{◌≡◌, ◌+◌, ◌-◌, suc, drop, Some, None, sym, ap, subst, ◌∙◌, arith}
use Rattle.term_model.specs.Tree.{Tree}
use Rattle.rewrite_model.specs.Matching.{match_of}
use Rattle.rewrite_model.specs.Run.{Done}
use Rattle.rewrite_model.specs.Outermost.{Building, Stepped, Changed}
use Rattle.plain_rewriting.specs.Boxed.{tree_of, trees, found}
use Rattle.plain_rewriting.specs.Program.{Agrees}
use Rattle.plain_rewriting.specs.OutwardSteps.{same_tree}
use Rattle.plain_rewriting.proofs.Measures.{dropped}
use Rattle.plain_rewriting.proofs.OutwardSteps.{rest_steps, first_steps, right_built, uses_rest}
use Rattle.plain_rewriting.proofs.outward.+use_first.Goals as goal

pub use_first-requires : goal.use_first-requires
use_first-requires t c = (omega arith, tt)

pub returns-in-None : goal.returns-in-None
returns-in-None t c =
    let rule = c.index-rules-from.result in
    let left_is : tree_of c.in_ok-left_side.left_side ≡ rule.left = c.in_ok-left_side.ensures ∙ c.left.ensures in
    let m : match_of rule.left (tree_of c.args.term.now) ≡ None = ap (λ p. match_of p (tree_of c.args.term.now)) (sym left_is) ∙ sym c.in_ok-bound.ensures ∙ ap found c.in-None.is in
    uses_rest (drop c.args.from c.args.rules.now) (drop (c.args.from + 1) c.args.rules.now) c.args.term.now c.args.fuel c.args.room (λ otherwise. rest_steps (drop c.args.from c.args.rules.now) rule (drop (c.args.from + 1) c.args.rules.now) (dropped c.args.rules.now c.args.from rule (omega arith) c.index-rules-from.is) (tree_of c.args.term.now) c.args.fuel c.args.room otherwise m) c.args.built.now c.use_first.new.built c.use_first.result c.use_first.ensures

pub returns : goal.returns
returns t c = λ otherwise.
    let rule = c.index-rules-from.result in
    let left_is : tree_of c.in_ok-left_side.left_side ≡ rule.left = c.in_ok-left_side.ensures ∙ c.left.ensures in
    let bound = trees c.deref.result.now in
    let m : match_of rule.left (tree_of c.args.term.now) ≡ Some bound = ap (λ p. match_of p (tree_of c.args.term.now)) (sym left_is) ∙ sym c.in_ok-bound.ensures ∙ ap found c.in-Some.is ∙ ap (λ ts. Some (trees ts)) (sym c.deref.ensures.value) in
    let f : c.args.fuel ≡ suc (c.args.fuel - 1) = omega arith in
    let right_is : tree_of c.in_ok-right.right ≡ rule.right = c.in_ok-right.ensures ∙ c.right.ensures in
    let is = first_steps (drop c.args.from c.args.rules.now) rule (drop (c.args.from + 1) c.args.rules.now) (dropped c.args.rules.now c.args.from rule (omega arith) c.index-rules-from.is) (tree_of c.args.term.now) c.args.fuel c.args.room otherwise bound m in
    let b = right_built rule.right (tree_of c.in_ok-right.right) right_is bound c.args.fuel (c.args.fuel - 1) c.args.room c.saturating_sub-below.result f c.saturating_sub-below.ensures (trees c.args.built.now.items) (trees c.build.new.built.items) (tree_of c.in_ok-changed.changed) c.in_ok-changed.left c.in_ok-changed.ensures.0 in
    (subst (λ (x : Building (Stepped Tree)). Agrees same_tree (trees c.args.built.now.items) (trees c.build.new.built.items) (Done (Changed (tree_of c.in_ok-changed.changed)) c.in_ok-changed.left) x) (sym is) b, omega (arith, c.in_ok-changed.ensures.1))
