use Rattle.std.proofs.Common.{◌≡◌, ◌++◌, ◌+◌, ◌-◌, ◌<◌, List, [], ◌∷◌, length, take, refl, sym, ◌∙◌, ap, arith, subst}
use Rattle.std.proofs.lemmas.List.{length_push}
use Rattle.term_model.specs.Postorder.{arity_of}
use Rattle.term_model.specs.declared.Item.{Item}
use Rattle.term_model.specs.declared.Item.TheVariants.{Var}
use Rattle.rule_match.specs.declared.compiling.Waiting.{Waiting}
use Rattle.rule_match.proofs.Waiting.{IsUnderWay, begun, put_next, taken, all_put}
use Rattle.rule_match.proofs.compiling.reversed_preorder.Goals as goal

pub overflow_sub-before : goal.overflow_sub-before
overflow_sub-before c =
    let b = begun c.args.pattern.now c.items-items.result.now c.items-items.ensures.items c.items-items.ensures.well_formed in
    omega (arith, b.some)

pub bounds-items-before : goal.bounds-items-before
bounds-items-before c =
    let b = begun c.args.pattern.now c.items-items.result.now c.items-items.ensures.items c.items-items.ensures.well_formed in
    omega (arith, b.some)

pub items-init : goal.items-init
items-init c =
    let items = c.items-items.result.now in
    let b = begun c.args.pattern.now items c.items-items.ensures.items c.items-items.ensures.well_formed in
    let root = b.is (Var 0) in
    record {
      within = omega arith;
      way = subst (λ (ws : List Waiting). IsUnderWay c.args.pattern.now (take (length items - 1) items) ws c.new-put.result.items) (sym c.in_ok-waiting.ensures.items)
          (subst (λ (is : List Item). IsUnderWay c.args.pattern.now (take (length items - 1) items) (c.of.result ∷ []) is) (sym c.new-put.ensures.items)
          (b.first c.of.result (c.of.ensures.item ∙ root) (c.of.ensures.count ∙ ap arity_of root)));
    }

pub items-preserved-then-last-eq0 : goal.items-preserved-then-last-eq0
items-preserved-then-last-eq0 c =
    let come = take c.items.before c.items-items.result.now in
    record {
      within = c.items.invariant.within;
      way = subst (λ (is : List Item). IsUnderWay c.args.pattern.now come c.pop.new.self.items is) (sym c.in_ok-push.ensures.items)
          (put_next c.args.pattern.now come c.items.waiting.items c.pop.new.self.items c.in-Some.last c.items.put.items c.items.invariant.way c.in-Some.ensures.items c.if-last-eq0.true);
    }

pub overflow_sub-before-in-Some : goal.overflow_sub-before-in-Some
overflow_sub-before-in-Some c =
    let t = taken c.args.pattern.now c.items-items.result.now c.items.before c.items.waiting.items c.pop.new.self.items c.in-Some.last c.items.put.items c.items.invariant.within c.items.invariant.way c.in-Some.ensures.items (omega (arith, c.if-last-eq0.false)) in
    omega (arith, t.some)

pub bounds-items-before-in-Some : goal.bounds-items-before-in-Some
bounds-items-before-in-Some c =
    let t = taken c.args.pattern.now c.items-items.result.now c.items.before c.items.waiting.items c.pop.new.self.items c.in-Some.last c.items.put.items c.items.invariant.within c.items.invariant.way c.in-Some.ensures.items (omega (arith, c.if-last-eq0.false)) in
    omega (arith, t.some, c.items.invariant.within)

pub items-smaller : goal.items-smaller
items-smaller c =
    let t = taken c.args.pattern.now c.items-items.result.now c.items.before c.items.waiting.items c.pop.new.self.items c.in-Some.last c.items.put.items c.items.invariant.within c.items.invariant.way c.in-Some.ensures.items (omega (arith, c.if-last-eq0.false)) in
    let less : Waiting = record { item = c.in-Some.last.item; count = c.in-Some.last.count - 1 } in
    let was = ap length c.in-Some.ensures.items ∙ length_push c.pop.new.self.items c.in-Some.last in
    let one = ap length c.in_ok-push-2.ensures.items ∙ length_push c.pop.new.self.items less in
    let two = ap length c.in_ok-push-3.ensures.items ∙ length_push c.push-in-Some.new.self.items c.of-in-Some.result in
    let smaller : c.items.before - 1 + (c.items.before - 1) + length c.push-in-Some-2.new.self.items < c.items.before + c.items.before + length c.items.waiting.items =
    omega (arith, t.some, was, one, two) in
    smaller

pub items-preserved : goal.items-preserved
items-preserved c =
    let items = c.items-items.result.now in
    let rest = c.pop.new.self.items in
    let t = taken c.args.pattern.now items c.items.before c.items.waiting.items rest c.in-Some.last c.items.put.items c.items.invariant.within c.items.invariant.way c.in-Some.ensures.items (omega (arith, c.if-last-eq0.false)) in
    let less : Waiting = record { item = c.in-Some.last.item; count = c.in-Some.last.count - 1 } in
    let is = t.is (Var 0) in
    let stacked : c.push-in-Some-2.new.self.items ≡ (rest ++ less ∷ []) ++ c.of-in-Some.result ∷ [] = c.in_ok-push-3.ensures.items ∙ ap (λ (ws : List Waiting). ws ++ c.of-in-Some.result ∷ []) c.in_ok-push-2.ensures.items in
    record {
      within = omega (arith, c.items.invariant.within);
      way = subst (λ (ws : List Waiting). IsUnderWay c.args.pattern.now (take (c.items.before - 1) items) ws c.items.put.items) (sym stacked)
          (t.next less c.of-in-Some.result refl refl (c.of-in-Some.ensures.item ∙ is) (c.of-in-Some.ensures.count ∙ ap arity_of is));
    }

pub returns : goal.returns
returns c = all_put c.args.pattern.now (take c.items.before c.items-items.result.now) c.items.waiting.items c.items.put.items c.items.invariant.way (omega (arith, c.in_default.ensures.cases.0))
