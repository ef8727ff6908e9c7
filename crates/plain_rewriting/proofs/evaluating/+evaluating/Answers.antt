use Rattle.std.proofs.Common.{ℕ, ◌≡◌, ◌-◌, suc, ◌+◌, ◌<◌, ◌≤◌, length, drop, Bool, true, false, List, [], ◌∷◌, ◌++◌, refl, sym, ap, subst, ◌∙◌, arith, Some}
use Rattle.term_model.specs.Tree.{Tree, More, nodes, nodes_all, arguments}
use Rattle.term_model.proofs.Subtrees.{some_nodes}
use Rattle.plain_rewriting.specs.Boxed.{tree_of, trees_in, trees, found}
use Rattle.plain_rewriting.specs.Noted.{point_of, points_of}
use Rattle.plain_rewriting.specs.declared.points.Point.{Point as Pointed}
use Rattle.std.specs.Prelude.{if◌then◌else◌, Ok, Err}
use Rattle.rewrite_model.specs.Matching.{match_of}
use Rattle.rewrite_model.specs.Run.{Done, done}
use Rattle.rewrite_model.specs.Evaluation.{Point, Evaluated, reduction, holds, hold, replace, reduce_by}
use Rattle.plain_rewriting.specs.Program.{Agrees, ComesTo, same_point}
use Rattle.plain_rewriting.proofs.Binding.{length_trees}
use Rattle.std.proofs.lemmas.Result.{err_from_is_err_and}
use Rattle.plain_rewriting.specs.declared.boxed.Term.{Term}
use Rattle.plain_rewriting.specs.declared.boxed.Arguments.{Arguments}
use Rattle.plain_rewriting.proofs.Comes.{comes_done, no_room, rest_err, all_ok, second_err, both_values, reduced, no_room_used, hold_err, held}
use Rattle.plain_rewriting.proofs.Measures.{cost_mono, cost_step, sides, sides_at, weight_at, dropped}
use Rattle.plain_rewriting.proofs.evaluating.+evaluating.Goals as goal

same_parts : {t u : Tree} {ks ls : List Tree} {m n : ℕ} → t ≡ u → ks ≡ ls → m ≡ n → let p : Point = record { tree = t; hand = ks; room = m } in p ≡ record { tree = u; hand = ls; room = n }
same_parts {t} {u} {ks} {ls} {m} {n} e f g = ap (λ v. record { tree = v; hand = ks; room = m }) e ∙ ap (λ vs. record { tree = u; hand = vs; room = m }) f ∙ ap (λ k. record { tree = u; hand = ls; room = k }) g

points_push : (ps : List Pointed) (p : Pointed) → points_of (ps ++ p ∷ []) ≡ points_of ps ++ point_of p ∷ []
points_push [] p = refl
points_push (q ∷ ps) p = ap (λ qs. point_of q ∷ qs) (points_push ps p)

pub evaluate-returns-then-room-eq0 : goal.evaluate-returns-then-room-eq0
evaluate-returns-then-room-eq0 t c = λ kept k_is. no_room (reduction c.args.rules.now) (trees c.args.bound.now) (tree_of c.args.pattern.now) kept c.args.fuel c.args.room (points_of c.args.points.now.items) c.if-room-eq0.true

pub evaluate-evaluate_all-requires : goal.evaluate-evaluate_all-requires
evaluate-evaluate_all-requires t c =
    let n : nodes (tree_of c.args.pattern.now) ≡ nodes_all (trees_in c.in-Over.patterns) + 1 = ap (λ p. nodes (tree_of p)) c.in-Over.is in
    (omega (arith, n), tt)

pub evaluate-reduce-requires : goal.evaluate-reduce-requires
evaluate-reduce-requires t c =
    let l = cost_mono c.args.rules.now c.in_ok-args-in-Over.left c.args.fuel (c.in_ok-args-in-Over.ensures _ refl).1 in
    (omega (arith, l), tt)

pub evaluate_all-evaluate-requires : goal.evaluate_all-evaluate-requires
evaluate_all-evaluate-requires t c =
    let n : nodes_all (trees_in c.args.patterns.now) ≡ nodes (tree_of c.in-Next.pattern.value) + nodes_all (trees_in c.in-Next.patterns.value) = ap (λ ps. nodes_all (trees_in ps)) c.in-Next.is in
    let d : nodes (tree_of c.deref.result.now) ≡ nodes (tree_of c.in-Next.pattern.value) = ap (λ p. nodes (tree_of p)) c.deref.ensures in
    (omega (arith, n, d), tt)

pub evaluate_all-evaluate_all-requires : goal.evaluate_all-evaluate_all-requires
evaluate_all-evaluate_all-requires t c =
    let n : nodes_all (trees_in c.args.patterns.now) ≡ nodes (tree_of c.in-Next.pattern.value) + nodes_all (trees_in c.in-Next.patterns.value) = ap (λ ps. nodes_all (trees_in ps)) c.in-Next.is in
    let d : nodes_all (trees_in c.deref-in-Next-2.result.now) ≡ nodes_all (trees_in c.in-Next.patterns.value) = ap (λ ps. nodes_all (trees_in ps)) c.deref-in-Next-2.ensures in
    let l = cost_mono c.args.rules.now c.in_ok-first-in-Next.left c.args.fuel (c.in_ok-first-in-Next.ensures _ refl).1 in
    (omega (arith, n, d, l, some_nodes (tree_of c.in-Next.pattern.value)), tt)

pub evaluate_all-returns-in_err-rest-in-Next : goal.evaluate_all-returns-in_err-rest-in-Next
evaluate_all-returns-in_err-rest-in-Next t c = λ kept k_is.
    let p = tree_of c.deref.result.now in
    let ps = trees_in c.deref-in-Next-2.result.now in
    let is : trees_in c.args.patterns.now ≡ More p ps = ap trees_in c.in-Next.is ∙ ap (λ (u : Term). More (tree_of u) (trees_in c.in-Next.patterns.value)) (sym c.deref.ensures) ∙ ap (λ (us : Arguments). More p (trees_in us)) (sym c.deref-in-Next-2.ensures) in
    let first = c.in_ok-first-in-Next.ensures kept k_is in
    let with_first_is : tree_of c.in_ok-first-in-Next.first ∷ kept ≡ trees c.deref-in-Next.result.now = ap (λ ks. tree_of c.in_ok-first-in-Next.first ∷ ks) k_is ∙ sym c.in_ok-with_first-in-Next.ensures ∙ ap trees (sym c.deref-in-Next.ensures.value) in
    let e = err_from_is_err_and c.from_residual-in_err-rest-in-Next.result c.from_residual-in_err-rest-in-Next.ensures.1 in
    rw (e.1, e.2) (rest_err (reduction c.args.rules.now) (trees c.args.bound.now) (trees_in c.args.patterns.now) p ps is kept c.args.fuel c.args.room c.saturating_sub-below.result c.saturating_sub-below.ensures (tree_of c.in_ok-first-in-Next.first) c.in_ok-first-in-Next.left (points_of c.args.points.now.items) (points_of c.evaluate.new.points.items) (points_of c.evaluate_all.new.points.items) first.0 first.1 c.in_err-rest-in-Next.field-0.0 (c.in_err-rest-in-Next.ensures (tree_of c.in_ok-first-in-Next.first ∷ kept) with_first_is))

pub evaluate_all-returns-in_ok-rest-in-Next-2 : goal.evaluate_all-returns-in_ok-rest-in-Next-2
evaluate_all-returns-in_ok-rest-in-Next-2 t c = λ kept k_is.
    let p = tree_of c.deref.result.now in
    let ps = trees_in c.deref-in-Next-2.result.now in
    let is : trees_in c.args.patterns.now ≡ More p ps = ap trees_in c.in-Next.is ∙ ap (λ (u : Term). More (tree_of u) (trees_in c.in-Next.patterns.value)) (sym c.deref.ensures) ∙ ap (λ (us : Arguments). More p (trees_in us)) (sym c.deref-in-Next-2.ensures) in
    let first = c.in_ok-first-in-Next.ensures kept k_is in
    let with_first_is : tree_of c.in_ok-first-in-Next.first ∷ kept ≡ trees c.deref-in-Next.result.now = ap (λ ks. tree_of c.in_ok-first-in-Next.first ∷ ks) k_is ∙ sym c.in_ok-with_first-in-Next.ensures ∙ ap trees (sym c.deref-in-Next.ensures.value) in
    let rest = c.in_ok-rest-in-Next.ensures (tree_of c.in_ok-first-in-Next.first ∷ kept) with_first_is in
    let all = all_ok (reduction c.args.rules.now) (trees c.args.bound.now) (trees_in c.args.patterns.now) p ps is kept c.args.fuel c.args.room c.saturating_sub-below.result c.saturating_sub-below.ensures (tree_of c.in_ok-first-in-Next.first) c.in_ok-first-in-Next.left (points_of c.args.points.now.items) (points_of c.evaluate.new.points.items) (points_of c.evaluate_all.new.points.items) first.0 first.1 (trees_in c.in_ok-rest-in-Next.rest) c.in_ok-rest-in-Next.left rest.0 in
    let a : c.in_ok-first-in-Next-2.first.value ≡ c.in_ok-first-in-Next.first = c.in_ok-first-in-Next-2.ensures.ok in
    let b : c.in_ok-rest-in-Next-2.rest.value ≡ c.in_ok-rest-in-Next.rest = c.in_ok-rest-in-Next-2.ensures.ok in
    (rw (a, b) all, omega (arith, first.1, rest.1))

pub hold-evaluate-requires : goal.hold-evaluate-requires
hold-evaluate-requires t c =
    let n = sides_at c.args.conditions.now c.args.from c.index-conditions-from.result (omega arith) c.index-conditions-from.is in
    let p : nodes (tree_of c.in_ok-first.first) ≡ nodes c.index-conditions-from.result.first = ap nodes (c.in_ok-first.ensures ∙ c.first.ensures) in
    (omega (arith, n, p), tt)

pub hold-evaluate-requires-2 : goal.hold-evaluate-requires-2
hold-evaluate-requires-2 t c =
    let n = sides_at c.args.conditions.now c.args.from c.index-conditions-from.result (omega arith) c.index-conditions-from.is in
    let p : nodes (tree_of c.in_ok-second.second) ≡ nodes c.index-conditions-from.result.second = ap nodes (c.in_ok-second.ensures ∙ c.second.ensures) in
    let l = cost_mono c.args.rules.now c.in_ok-first-2.left c.args.fuel (c.in_ok-first-2.ensures _ refl).1 in
    (omega (arith, n, p, l), tt)

pub hold-returns-in_err-second-2 : goal.hold-returns-in_err-second-2
hold-returns-in_err-second-2 t c = λ kept k_is.
    let cond = c.index-conditions-from.result in
    let first = c.in_ok-first-2.ensures kept k_is in
    let with_first_is : tree_of c.in_ok-first-2.first ∷ kept ≡ trees c.deref.result.now = ap (λ ks. tree_of c.in_ok-first-2.first ∷ ks) k_is ∙ sym c.in_ok-with_first.ensures ∙ ap trees (sym c.deref.ensures.value) in
    let e = err_from_is_err_and c.from_residual-in_err-second-2.result c.from_residual-in_err-second-2.ensures.1 in
    rw (e.1, e.2) (second_err (reduction c.args.rules.now) (trees c.args.bound.now) (drop c.args.from c.args.conditions.now) cond (drop (c.args.from + 1) c.args.conditions.now) (dropped c.args.conditions.now c.args.from cond (omega arith) c.index-conditions-from.is) (tree_of c.in_ok-first.first) (tree_of c.in_ok-second.second) (c.in_ok-first.ensures ∙ c.first.ensures) (c.in_ok-second.ensures ∙ c.second.ensures) kept c.args.fuel c.args.room c.saturating_sub.result c.saturating_sub-2.result c.saturating_sub.ensures c.saturating_sub-2.ensures (tree_of c.in_ok-first-2.first) c.in_ok-first-2.left (points_of c.args.points.now.items) (points_of c.evaluate.new.points.items) first.0 first.1 (points_of c.evaluate-2.new.points.items) c.in_err-second-2.field-0.0 (c.in_err-second-2.ensures (tree_of c.in_ok-first-2.first ∷ kept) with_first_is))

pub hold-returns-then-not-condition_holds : goal.hold-returns-then-not-condition_holds
hold-returns-then-not-condition_holds t c = λ kept k_is.
    let cond = c.index-conditions-from.result in
    let first = c.in_ok-first-2.ensures kept k_is in
    let with_first_is : tree_of c.in_ok-first-2.first ∷ kept ≡ trees c.deref.result.now = ap (λ ks. tree_of c.in_ok-first-2.first ∷ ks) k_is ∙ sym c.in_ok-with_first.ensures ∙ ap trees (sym c.deref.ensures.value) in
    let second = c.in_ok-second-2.ensures (tree_of c.in_ok-first-2.first ∷ kept) with_first_is in
    let new = points_of c.evaluate-2.new.points.items in
    let failed : false ≡ holds cond (tree_of c.in_ok-first-2.first) (tree_of c.in_ok-second-2.second) = sym c.if-not-condition_holds.true ∙ c.condition_holds.ensures in
    let end : Agrees same_point new new (Done false c.in_ok-second-2.left) (done false c.in_ok-second-2.left) = comes_done same_point false false new c.in_ok-second-2.left refl in
    both_values (reduction c.args.rules.now) (trees c.args.bound.now) (drop c.args.from c.args.conditions.now) cond (drop (c.args.from + 1) c.args.conditions.now) (dropped c.args.conditions.now c.args.from cond (omega arith) c.index-conditions-from.is) (tree_of c.in_ok-first.first) (tree_of c.in_ok-second.second) (c.in_ok-first.ensures ∙ c.first.ensures) (c.in_ok-second.ensures ∙ c.second.ensures) kept c.args.fuel c.args.room c.saturating_sub.result c.saturating_sub-2.result c.saturating_sub.ensures c.saturating_sub-2.ensures (tree_of c.in_ok-first-2.first) c.in_ok-first-2.left (points_of c.args.points.now.items) (points_of c.evaluate.new.points.items) first.0 first.1 (tree_of c.in_ok-second-2.second) c.in_ok-second-2.left new new (Ok (false, c.in_ok-second-2.left)) false second.0 second.1 failed (end, omega arith)

pub hold-hold-requires : goal.hold-hold-requires
hold-hold-requires t c =
    let n = sides_at c.args.conditions.now c.args.from c.index-conditions-from.result (omega arith) c.index-conditions-from.is in
    let k = some_nodes c.index-conditions-from.result.first in
    let first = (c.in_ok-first-2.ensures _ refl).1 in
    let second = (c.in_ok-second-2.ensures _ refl).1 in
    let l = cost_mono c.args.rules.now c.in_ok-second-2.left c.args.fuel (omega (arith, first, second)) in
    (omega (arith, n, k, l), tt)

pub hold-returns : goal.hold-returns
hold-returns t c = λ kept k_is.
    let cond = c.index-conditions-from.result in
    let first = c.in_ok-first-2.ensures kept k_is in
    let with_first_is : tree_of c.in_ok-first-2.first ∷ kept ≡ trees c.deref.result.now = ap (λ ks. tree_of c.in_ok-first-2.first ∷ ks) k_is ∙ sym c.in_ok-with_first.ensures ∙ ap trees (sym c.deref.ensures.value) in
    let second = c.in_ok-second-2.ensures (tree_of c.in_ok-first-2.first ∷ kept) with_first_is in
    let holding : true ≡ holds cond (tree_of c.in_ok-first-2.first) (tree_of c.in_ok-second-2.second) = sym c.if-not-condition_holds.false ∙ c.condition_holds.ensures in
    both_values (reduction c.args.rules.now) (trees c.args.bound.now) (drop c.args.from c.args.conditions.now) cond (drop (c.args.from + 1) c.args.conditions.now) (dropped c.args.conditions.now c.args.from cond (omega arith) c.index-conditions-from.is) (tree_of c.in_ok-first.first) (tree_of c.in_ok-second.second) (c.in_ok-first.ensures ∙ c.first.ensures) (c.in_ok-second.ensures ∙ c.second.ensures) kept c.args.fuel c.args.room c.saturating_sub.result c.saturating_sub-2.result c.saturating_sub.ensures c.saturating_sub-2.ensures (tree_of c.in_ok-first-2.first) c.in_ok-first-2.left (points_of c.args.points.now.items) (points_of c.evaluate.new.points.items) first.0 first.1 (tree_of c.in_ok-second-2.second) c.in_ok-second-2.left (points_of c.evaluate-2.new.points.items) (points_of c.hold.new.points.items) c.hold.result true second.0 second.1 holding (c.hold.ensures kept k_is)

pub reduce-reduce_by-requires : goal.reduce-reduce_by-requires
reduce-reduce_by-requires t c = (omega arith, tt)

pub reduce-returns : goal.reduce-returns
reduce-returns t c = λ given kept g_is k_is.
    let old = points_of c.args.points.now.items in
    let made : point_of c.in_ok-point_at.field-0 ≡ record { tree = tree_of c.args.term; hand = arguments (tree_of c.args.term) ++ given ++ kept; room = c.args.room } =
    same_parts (c.in_ok-point_at.ensures.tree) (c.in_ok-point_at.ensures.hand ∙ ap (λ gs. arguments (tree_of c.args.term) ++ gs ++ trees c.args.kept.now) (sym g_is) ∙ ap (λ ks. arguments (tree_of c.args.term) ++ given ++ ks) (sym k_is)) (c.in_ok-point_at.ensures.room) in
    let mid : points_of c.push.new.self.items ≡ old ++ record { tree = tree_of c.args.term; hand = arguments (tree_of c.args.term) ++ given ++ kept; room = c.args.room } ∷ [] =
    ap points_of c.in_ok-push.ensures.items ∙ points_push c.args.points.now.items c.in_ok-point_at.field-0 ∙ ap (λ q. old ++ q ∷ []) made in
    reduced c.args.rules.now given kept (tree_of c.args.term) c.args.fuel c.args.room old (points_of c.push.new.self.items) (points_of c.reduce_by.new.points.items) c.reduce_by.result mid (c.reduce_by.ensures kept k_is)

pub reduce_by-reduce_by-requires : goal.reduce_by-reduce_by-requires
reduce_by-reduce_by-requires t c = (omega arith, tt)

pub reduce_by-returns-then-room-len : goal.reduce_by-returns-then-room-len
reduce_by-returns-then-room-len t c = λ kept k_is.
    let rule = c.index-rules-from.result in
    let left_is : tree_of c.in_ok-left_side.left_side ≡ rule.left = c.in_ok-left_side.ensures ∙ c.left.ensures in
    let m : match_of rule.left (tree_of c.args.term) ≡ Some (trees c.in-Some.bound.items) = ap (λ p. match_of p (tree_of c.args.term)) (sym left_is) ∙ sym c.in_ok-bound.ensures ∙ ap found c.in-Some.is in
    let f : c.args.fuel ≡ suc (c.args.fuel - 1) = omega arith in
    let short : c.args.room ≤ length c.in-Some.bound.items = omega arith in
    no_room_used (reduction c.args.rules.now) (drop c.args.from c.args.rules.now) rule (drop (c.args.from + 1) c.args.rules.now) (dropped c.args.rules.now c.args.from rule (omega arith) c.index-rules-from.is) kept (tree_of c.args.term) c.args.fuel c.args.room (points_of c.args.points.now.items) (trees c.in-Some.bound.items) (c.args.fuel - 1) m f (omega (arith, short, length_trees c.in-Some.bound.items))

pub reduce_by-hold-requires : goal.reduce_by-hold-requires
reduce_by-hold-requires t c =
    let w = weight_at c.args.rules.now c.args.from c.index-rules-from.result (omega arith) c.index-rules-from.is in
    let s : sides (drop 0 c.conditions.result.now) ≡ sides c.index-rules-from.result.conditions = ap sides c.conditions.ensures in
    let f : c.args.fuel ≡ suc (c.args.fuel - 1) = omega arith in
    let k = cost_step c.args.rules.now (c.args.fuel - 1) c.args.fuel f in
    (omega (arith, w, s, k), tt)

pub reduce_by-returns-in_err-all : goal.reduce_by-returns-in_err-all
reduce_by-returns-in_err-all t c = λ kept k_is.
    let rule = c.index-rules-from.result in
    let left_is : tree_of c.in_ok-left_side.left_side ≡ rule.left = c.in_ok-left_side.ensures ∙ c.left.ensures in
    let m : match_of rule.left (tree_of c.args.term) ≡ Some (trees c.in-Some.bound.items) = ap (λ p. match_of p (tree_of c.args.term)) (sym left_is) ∙ sym c.in_ok-bound.ensures ∙ ap found c.in-Some.is in
    let f : c.args.fuel ≡ suc (c.args.fuel - 1) = omega arith in
    let bound = trees c.deref-3.result.now in
    let same : trees c.in-Some.bound.items ≡ bound = ap trees (sym c.deref-3.ensures.value) in
    let n : length bound ≡ length c.in-Some.bound.items = ap length (sym same) ∙ length_trees c.in-Some.bound.items in
    let long : length c.in-Some.bound.items < c.args.room = omega arith in
    let below : c.room_below-below.result ≡ c.args.room - length c.in-Some.bound.items = omega arith in
    let below_is : c.room_below-below.result ≡ c.args.room - length bound = below ∙ ap (λ k. c.args.room - k) (sym n) in
    let kept' = tree_of c.args.term ∷ bound ++ kept in
    let bounds : bound ≡ trees c.deref.result.now = ap trees (c.deref-3.ensures.value ∙ sym c.deref.ensures.value) in
    let both : bound ++ kept ≡ trees c.deref-2.result.now =
    ap (λ ks. bound ++ ks) k_is ∙ ap (λ bs. bs ++ trees c.args.kept.now) bounds ∙ sym c.in_ok-with_bound.ensures ∙ ap trees (sym c.deref-2.ensures.value) in
    let kept_is : kept' ≡ trees c.deref-4.result.now =
    ap (λ ks. tree_of c.args.term ∷ ks) both ∙ sym c.in_ok-in_condition.ensures ∙ ap trees (sym c.deref-4.ensures.value) in
    let d = c.in_err-all.field-0.0 in
    let h : ComesTo {T = Bool} same_point (λ b. b) (points_of c.args.points.now.items) (points_of c.hold.new.points.items) (c.args.fuel - 1) (Err d) (hold (reduction c.args.rules.now) bound rule.conditions kept' (c.args.fuel - 1) c.room_below-below.result) = subst (λ cs. ComesTo {T = Bool} same_point (λ b. b) (points_of c.args.points.now.items) (points_of c.hold.new.points.items) (c.args.fuel - 1) (Err d) (hold (reduction c.args.rules.now) bound cs kept' (c.args.fuel - 1) c.room_below-below.result)) c.conditions.ensures (c.in_err-all.ensures kept' kept_is) in
    let e = err_from_is_err_and c.from_residual-in_err-all.result c.from_residual-in_err-all.ensures.1 in
    rw (e.1, e.2) (hold_err (reduction c.args.rules.now) (drop c.args.from c.args.rules.now) rule (drop (c.args.from + 1) c.args.rules.now) (dropped c.args.rules.now c.args.from rule (omega arith) c.index-rules-from.is) kept (tree_of c.args.term) c.args.fuel c.args.room (points_of c.args.points.now.items) bound (c.args.fuel - 1) (m ∙ ap Some same) f (omega (arith, n, long)) c.room_below-below.result below_is (points_of c.hold.new.points.items) d h)

pub reduce_by-reduce_by-requires-then-not-all : goal.reduce_by-reduce_by-requires-then-not-all
reduce_by-reduce_by-requires-then-not-all t c =
    let l = cost_mono c.args.rules.now c.in_ok-all.left c.args.fuel (let k = (c.in_ok-all.ensures _ refl).1 in omega (arith, k)) in
    (omega (arith, l), tt)

pub reduce_by-returns-then-not-all : goal.reduce_by-returns-then-not-all
reduce_by-returns-then-not-all t c = λ kept k_is.
    let rule = c.index-rules-from.result in
    let left_is : tree_of c.in_ok-left_side.left_side ≡ rule.left = c.in_ok-left_side.ensures ∙ c.left.ensures in
    let m : match_of rule.left (tree_of c.args.term) ≡ Some (trees c.in-Some.bound.items) = ap (λ p. match_of p (tree_of c.args.term)) (sym left_is) ∙ sym c.in_ok-bound.ensures ∙ ap found c.in-Some.is in
    let f : c.args.fuel ≡ suc (c.args.fuel - 1) = omega arith in
    let bound = trees c.deref-3.result.now in
    let same : trees c.in-Some.bound.items ≡ bound = ap trees (sym c.deref-3.ensures.value) in
    let n : length bound ≡ length c.in-Some.bound.items = ap length (sym same) ∙ length_trees c.in-Some.bound.items in
    let long : length c.in-Some.bound.items < c.args.room = omega arith in
    let below : c.room_below-below.result ≡ c.args.room - length c.in-Some.bound.items = omega arith in
    let below_is : c.room_below-below.result ≡ c.args.room - length bound = below ∙ ap (λ k. c.args.room - k) (sym n) in
    let kept' = tree_of c.args.term ∷ bound ++ kept in
    let bounds : bound ≡ trees c.deref.result.now = ap trees (c.deref-3.ensures.value ∙ sym c.deref.ensures.value) in
    let both : bound ++ kept ≡ trees c.deref-2.result.now =
    ap (λ ks. bound ++ ks) k_is ∙ ap (λ bs. bs ++ trees c.args.kept.now) bounds ∙ sym c.in_ok-with_bound.ensures ∙ ap trees (sym c.deref-2.ensures.value) in
    let kept_is : kept' ≡ trees c.deref-4.result.now =
    ap (λ ks. tree_of c.args.term ∷ ks) both ∙ sym c.in_ok-in_condition.ensures ∙ ap trees (sym c.deref-4.ensures.value) in
    let all = c.in_ok-all.ensures kept' kept_is in
    let h : Agrees same_point (points_of c.args.points.now.items) (points_of c.hold.new.points.items) (Done c.in_ok-all.all c.in_ok-all.left) (hold (reduction c.args.rules.now) bound rule.conditions kept' (c.args.fuel - 1) c.room_below-below.result) = subst (λ cs. Agrees same_point (points_of c.args.points.now.items) (points_of c.hold.new.points.items) (Done c.in_ok-all.all c.in_ok-all.left) (hold (reduction c.args.rules.now) bound cs kept' (c.args.fuel - 1) c.room_below-below.result)) c.conditions.ensures all.0 in
    let go : Bool → Evaluated Tree = λ b. if b then replace (reduction c.args.rules.now) bound rule.right kept c.in_ok-all.left c.args.room else reduce_by (reduction c.args.rules.now) (drop (c.args.from + 1) c.args.rules.now) kept (tree_of c.args.term) c.in_ok-all.left c.args.room in
    let k : ComesTo same_point tree_of (points_of c.hold.new.points.items) (points_of c.reduce_by-then-not-all.new.points.items) c.in_ok-all.left c.reduce_by-then-not-all.result (go c.in_ok-all.all) = subst (λ b. ComesTo same_point tree_of (points_of c.hold.new.points.items) (points_of c.reduce_by-then-not-all.new.points.items) c.in_ok-all.left c.reduce_by-then-not-all.result (go b)) (sym c.if-not-all.true) (c.reduce_by-then-not-all.ensures kept k_is) in
    held (reduction c.args.rules.now) (drop c.args.from c.args.rules.now) rule (drop (c.args.from + 1) c.args.rules.now) (dropped c.args.rules.now c.args.from rule (omega arith) c.index-rules-from.is) kept (tree_of c.args.term) c.args.fuel c.args.room (points_of c.args.points.now.items) bound (c.args.fuel - 1) (m ∙ ap Some same) f (omega (arith, n, long)) c.room_below-below.result below_is c.in_ok-all.all c.in_ok-all.left (points_of c.hold.new.points.items) (points_of c.reduce_by-then-not-all.new.points.items) c.reduce_by-then-not-all.result h all.1 k

pub reduce_by-replace-requires : goal.reduce_by-replace-requires
reduce_by-replace-requires t c =
    let w = weight_at c.args.rules.now c.args.from c.index-rules-from.result (omega arith) c.index-rules-from.is in
    let p : nodes (tree_of c.in_ok-right.right) ≡ nodes c.index-rules-from.result.right = ap nodes (c.in_ok-right.ensures ∙ c.right.ensures) in
    let f : c.args.fuel ≡ suc (c.args.fuel - 1) = omega arith in
    let k = cost_step c.args.rules.now (c.args.fuel - 1) c.args.fuel f in
    let l = cost_mono c.args.rules.now c.in_ok-all.left (c.args.fuel - 1) (c.in_ok-all.ensures _ refl).1 in
    (omega (arith, w, p, k, l), tt)

pub reduce_by-returns : goal.reduce_by-returns
reduce_by-returns t c = λ kept k_is.
    let rule = c.index-rules-from.result in
    let left_is : tree_of c.in_ok-left_side.left_side ≡ rule.left = c.in_ok-left_side.ensures ∙ c.left.ensures in
    let m : match_of rule.left (tree_of c.args.term) ≡ Some (trees c.in-Some.bound.items) = ap (λ p. match_of p (tree_of c.args.term)) (sym left_is) ∙ sym c.in_ok-bound.ensures ∙ ap found c.in-Some.is in
    let f : c.args.fuel ≡ suc (c.args.fuel - 1) = omega arith in
    let bound = trees c.deref-3.result.now in
    let same : trees c.in-Some.bound.items ≡ bound = ap trees (sym c.deref-3.ensures.value) in
    let n : length bound ≡ length c.in-Some.bound.items = ap length (sym same) ∙ length_trees c.in-Some.bound.items in
    let long : length c.in-Some.bound.items < c.args.room = omega arith in
    let below : c.room_below-below.result ≡ c.args.room - length c.in-Some.bound.items = omega arith in
    let below_is : c.room_below-below.result ≡ c.args.room - length bound = below ∙ ap (λ k. c.args.room - k) (sym n) in
    let kept' = tree_of c.args.term ∷ bound ++ kept in
    let bounds : bound ≡ trees c.deref.result.now = ap trees (c.deref-3.ensures.value ∙ sym c.deref.ensures.value) in
    let both : bound ++ kept ≡ trees c.deref-2.result.now =
    ap (λ ks. bound ++ ks) k_is ∙ ap (λ bs. bs ++ trees c.args.kept.now) bounds ∙ sym c.in_ok-with_bound.ensures ∙ ap trees (sym c.deref-2.ensures.value) in
    let kept_is : kept' ≡ trees c.deref-4.result.now =
    ap (λ ks. tree_of c.args.term ∷ ks) both ∙ sym c.in_ok-in_condition.ensures ∙ ap trees (sym c.deref-4.ensures.value) in
    let all = c.in_ok-all.ensures kept' kept_is in
    let h : Agrees same_point (points_of c.args.points.now.items) (points_of c.hold.new.points.items) (Done c.in_ok-all.all c.in_ok-all.left) (hold (reduction c.args.rules.now) bound rule.conditions kept' (c.args.fuel - 1) c.room_below-below.result) = subst (λ cs. Agrees same_point (points_of c.args.points.now.items) (points_of c.hold.new.points.items) (Done c.in_ok-all.all c.in_ok-all.left) (hold (reduction c.args.rules.now) bound cs kept' (c.args.fuel - 1) c.room_below-below.result)) c.conditions.ensures all.0 in
    let go : Bool → Evaluated Tree = λ b. if b then replace (reduction c.args.rules.now) bound rule.right kept c.in_ok-all.left c.args.room else reduce_by (reduction c.args.rules.now) (drop (c.args.from + 1) c.args.rules.now) kept (tree_of c.args.term) c.in_ok-all.left c.args.room in
    let right_is : tree_of c.in_ok-right.right ≡ rule.right = c.in_ok-right.ensures ∙ c.right.ensures in
    let bound_is : trees c.deref-5.result.now ≡ bound = ap trees (c.deref-5.ensures.value ∙ sym c.deref-3.ensures.value) in
    let x : replace (reduction c.args.rules.now) (trees c.deref-5.result.now) (tree_of c.in_ok-right.right) kept c.in_ok-all.left c.args.room ≡ replace (reduction c.args.rules.now) bound rule.right kept c.in_ok-all.left c.args.room = ap (λ bs. replace (reduction c.args.rules.now) bs (tree_of c.in_ok-right.right) kept c.in_ok-all.left c.args.room) bound_is ∙ ap (λ p. replace (reduction c.args.rules.now) bound p kept c.in_ok-all.left c.args.room) right_is in
    let k : ComesTo same_point tree_of (points_of c.hold.new.points.items) (points_of c.replace.new.points.items) c.in_ok-all.left c.replace.result (go c.in_ok-all.all) = subst (λ b. ComesTo same_point tree_of (points_of c.hold.new.points.items) (points_of c.replace.new.points.items) c.in_ok-all.left c.replace.result (go b)) (sym c.if-not-all.false) (subst (λ y. ComesTo same_point tree_of (points_of c.hold.new.points.items) (points_of c.replace.new.points.items) c.in_ok-all.left c.replace.result y) x (c.replace.ensures kept k_is)) in
    held (reduction c.args.rules.now) (drop c.args.from c.args.rules.now) rule (drop (c.args.from + 1) c.args.rules.now) (dropped c.args.rules.now c.args.from rule (omega arith) c.index-rules-from.is) kept (tree_of c.args.term) c.args.fuel c.args.room (points_of c.args.points.now.items) bound (c.args.fuel - 1) (m ∙ ap Some same) f (omega (arith, n, long)) c.room_below-below.result below_is c.in_ok-all.all c.in_ok-all.left (points_of c.hold.new.points.items) (points_of c.replace.new.points.items) c.replace.result h all.1 k

pub replace-evaluate_all-requires : goal.replace-evaluate_all-requires
replace-evaluate_all-requires t c =
    let n : nodes (tree_of c.args.right.now) ≡ nodes_all (trees_in c.in-Over.patterns) + 1 = ap (λ p. nodes (tree_of p)) c.in-Over.is in
    (omega (arith, n), tt)

pub replace-reduce-requires : goal.replace-reduce-requires
replace-reduce-requires t c =
    let l = cost_mono c.args.rules.now c.in_ok-args-in-Over.left c.args.fuel (c.in_ok-args-in-Over.ensures _ refl).1 in
    (omega (arith, l), tt)
