-- Each replacement that an evaluation makes takes one unit of its fuel. By rules without
-- conditions.
use Rattle.std.proofs.Common.{◌≡◌, ℕ, zero, suc, ◌+◌, ◌-◌, ◌≤◌, List, [], ◌∷◌, ◌++◌, length, Option, Some, None, refl, sym, subst, arith, Bool, true, false}
use Rattle.std.specs.Prelude.{if◌then◌else◌, nat_lt, All}
use Rattle.std.proofs.lemmas.List.Elements.{All-head, All-tail}
use Rattle.term_model.specs.Tree.{Tree, Leaf, Node, Trees, End, More}
use Rattle.rewrite_model.specs.Rule.{Rule, Condition, IsUnconditional}
use Rattle.rewrite_model.specs.Matching.{match_of, if_matched, tree_at}
use Rattle.rewrite_model.specs.Run.{Ended, Done, OutOfFuel, TooDeep, done, ends, after, ◌>>=◌, in_room}
use Rattle.rewrite_model.specs.Evaluation.{Point, Evaluated, Reducer, evaluate, evaluate_all, hold, replace, apply, reduce_by, begin, reduce_within, reduction, evaluation}
use Rattle.rewrite_model.specs.Uses.{replaces_in_room, replaced_at, replaced_in_room}
use Rattle.rewrite_model.specs.TraceLaws.{TakesFuel}

module _ (rules : List Rule) where
  both_replaced : (ps qs : List Point) → replaced_at rules (ps ++ qs) ≡ replaced_at rules ps + replaced_at rules qs
  both_replaced [] qs = omega arith
  both_replaced (p ∷ ps) qs = let i = both_replaced ps qs in omega (arith, i)

  abbrev Spends : {A : Type 0} → ℕ → Evaluated A → Type 0
  Spends fuel x = TakesFuel fuel (replaced_at rules x.notes) x.end

  takes_more : {A : Type 0} (e : Ended A) (fuel m left n all : ℕ) → fuel ≡ left + m → all ≡ m + n → TakesFuel left n e → TakesFuel fuel all e
  takes_more (Done a rest) fuel m left n all f s t = omega (arith, f, s, t)
  takes_more OutOfFuel fuel m left n all f s t = tt
  takes_more TooDeep fuel m left n all f s t = omega (arith, f, s, t)

  spends_after : {A B : Type 0} (notes : List Point) (e : Ended A) (go : A → ℕ → Evaluated B) (fuel : ℕ) → TakesFuel fuel (replaced_at rules notes) e → ((a : A) (left : ℕ) → Spends left (go a left)) → Spends fuel (after notes e go)
  spends_after notes (Done a left) go fuel t k =
      takes_more (go a left).end fuel (replaced_at rules notes) left (replaced_at rules (go a left).notes) (replaced_at rules (notes ++ (go a left).notes)) t (both_replaced notes (go a left).notes) (k a left)
  spends_after notes OutOfFuel go fuel t k = tt
  spends_after notes TooDeep go fuel t k = t

  spends_then : {A B : Type 0} (x : Evaluated A) (go : A → ℕ → Evaluated B) (fuel : ℕ) → Spends fuel x → ((a : A) (left : ℕ) → Spends left (go a left)) → Spends fuel (x >>= go)
  spends_then x go fuel s k = spends_after x.notes x.end go fuel s k

  spends_in_room : {A : Type 0} (room : ℕ) (x : Evaluated A) (fuel : ℕ) → Spends fuel x → Spends fuel (in_room room x)
  spends_in_room zero x fuel s = omega arith
  spends_in_room (suc n) x fuel s = s

  spends_done : {A : Type 0} (a : A) (fuel : ℕ) → Spends fuel (done a fuel)
  spends_done a fuel = omega arith

  -- what is reduced spends a unit for each replacement
  abbrev Good : Reducer → Type 0
  Good red = (given kept : List Tree) (t : Tree) (fuel room : ℕ) → Spends fuel (red given kept t fuel room)

  module _ (red : Reducer) (good : Good red) where
    module _ (bound : List Tree) where
      mutual
        evaluate_spends : (p : Tree) (kept : List Tree) (fuel room : ℕ) → Spends fuel (evaluate red bound p kept fuel room)
        evaluate_spends (Leaf x) kept fuel room = spends_in_room room _ fuel (spends_done (tree_at x bound) fuel)
        evaluate_spends (Node h ps) kept fuel room =
            spends_in_room room _ fuel (spends_then _ _ fuel (all_spend ps kept fuel room) (λ ts left. good [] kept (Node h ts) left room))

        all_spend : (ps : Trees) (kept : List Tree) (fuel room : ℕ) → Spends fuel (evaluate_all red bound ps kept fuel room)
        all_spend End kept fuel room = spends_done End fuel
        all_spend (More p ps) kept fuel room =
            spends_then _ _ fuel (evaluate_spends p kept fuel (room - 1)) (λ t left.
            spends_then _ _ left (all_spend ps (t ∷ kept) left (room - 1)) (λ ts rest. spends_done (More t ts) rest))

      replace_spends : (p : Tree) (kept : List Tree) (fuel room : ℕ) → Spends fuel (replace red bound p kept fuel room)
      replace_spends (Leaf x) kept fuel room = spends_done (tree_at x bound) fuel
      replace_spends (Node h ps) kept fuel room =
          spends_then _ _ fuel (all_spend ps (bound ++ kept) fuel (room - length bound)) (λ ts left. good bound kept (Node h ts) left room)

    -- the tree of a point is counted with what comes of it
    abbrev SpendsHere : ℕ → ℕ → Evaluated Tree → Type 0
    SpendsHere fuel here x = TakesFuel fuel (here + replaced_at rules x.notes) x.end

    module _ (r : Rule) (kept : List Tree) (t : Tree) (room : ℕ) (rest : ℕ → Evaluated Tree) (bound : List Tree) (plain : IsUnconditional r) where
      abbrev right_side : ℕ → List Condition → Evaluated Tree
      right_side fuel cs = hold red bound cs (t ∷ bound ++ kept) fuel (room - length bound) >>= (λ all left. if all then replace red bound r.right kept left room else rest left)

      used_spends : (fuel : ℕ) (short : Bool) → SpendsHere (suc fuel) (if short then 0 else 1) (if short then ends TooDeep else right_side fuel r.conditions)
      used_spends fuel true = omega arith
      used_spends fuel false =
          subst (λ cs. SpendsHere (suc fuel) 1 (right_side fuel cs)) (sym plain)
          (takes_more (replace red bound r.right kept fuel room).end (suc fuel) 1 fuel (replaced_at rules (replace red bound r.right kept fuel room).notes) (1 + replaced_at rules (replace red bound r.right kept fuel room).notes) (omega arith) refl (replace_spends bound r.right kept fuel room))

    reduce_by_spends : (rs : List Rule) (kept : List Tree) (t : Tree) (fuel room : ℕ) → All IsUnconditional rs → SpendsHere fuel (replaces_in_room rs t room) (reduce_by red rs kept t fuel room)
    reduce_by_spends [] kept t fuel room plain = omega arith
    reduce_by_spends (r ∷ rs) kept t fuel room plain = go fuel (match_of r.left t) (reduce_by_spends rs kept t fuel room (All-tail IsUnconditional r rs plain))
      where
        none : ℕ
        none = replaces_in_room rs t room

        one : List Tree → ℕ
        one bound = if nat_lt room (1 + length bound) then 0 else 1

        go : (fuel : ℕ) (o : Option (List Tree)) → SpendsHere fuel none (reduce_by red rs kept t fuel room) →
            SpendsHere fuel (if_matched o none one) (if_matched o (reduce_by red rs kept t fuel room) (λ bound. apply red r bound kept t fuel room (λ left. reduce_by red rs kept t left room)))
        go fuel None s = s
        go zero (Some bound) s = tt
        go (suc left) (Some bound) s = used_spends r kept t room (λ left. reduce_by red rs kept t left room) bound (All-head IsUnconditional r rs plain) left (nat_lt room (1 + length bound))

  module _ (plain : All IsUnconditional rules) where
    begin_spends : (red : Reducer) → Good red → Good (begin red rules)
    begin_spends red good given kept t fuel room = reduce_by_spends red good rules kept t fuel room plain

    within_spends : (n : ℕ) → Good (reduce_within n rules)
    within_spends zero = begin_spends (λ given kept t fuel room. ends OutOfFuel) (λ given kept t fuel room. tt)
    within_spends (suc n) = begin_spends (reduce_within n rules) (within_spends n)

    pub evaluation_spends : (t : Tree) (fuel room : ℕ) → TakesFuel fuel (replaced_in_room rules t fuel room) (evaluation rules t fuel room).end
    evaluation_spends t fuel room = evaluate_spends (reduction rules) (λ given kept u left space. within_spends left given kept u left space) [] t [] fuel room
