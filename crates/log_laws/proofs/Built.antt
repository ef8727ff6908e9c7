-- The heads of what innermost rewriting builds.
use Rattle.std.proofs.Common.{◌≡◌, ℕ, zero, suc, ◌+◌, ◌-◌, List, [], ◌∷◌, ◌++◌, length, get_or, Option, Some, None, refl, ◌∙◌, ap, subst, Bool, true, false}
use Rattle.std.specs.Prelude.{if◌then◌else◌, nat_lt}
use Rattle.std.specs.List.{AllByRecursion}
use Rattle.std.proofs.lemmas.Option.{same_Some, option_and_then_some}
use Rattle.term_model.specs.Tree.{Tree, Leaf, Node, Trees, End, More, count_of, tree_eq, head_eq}
use Rattle.term_model.specs.declared.Head.{Head}
use Rattle.rewrite_model.specs.Rule.{Rule, Condition}
use Rattle.rewrite_model.specs.Matching.{bind, match_from, match_all, match_of, if_matched, tree_at}
use Rattle.rewrite_model.specs.Run.{Run, Ended, Done, OutOfFuel, TooDeep, done, ends, noting, after, ◌>>=◌, in_room}
use Rattle.rewrite_model.specs.Evaluation.{Point, Evaluated, Reducer, holds, evaluate, evaluate_all, hold, replace, apply, reduce_by, begin, reduce_within, reduction, evaluation}
use Rattle.rewrite_model.specs.Built.{trees_at, built_list}
use Rattle.rewrite_model.proofs.Matches.{chosen, mapped, if_some}
use Rattle.rewrite_model.proofs.Closed.{OfValue}
use Rattle.log_laws.specs.Told.{OfHeads, AllHeads, EachHeads, WritesHeads}

-- ---- runs with a property of all notes, and of the value

pub told_both : {A : Type 0} (P : A → Type 0) (xs ys : List A) → AllByRecursion P xs → AllByRecursion P ys → AllByRecursion P (xs ++ ys)
told_both P [] ys h k = k
told_both P (x ∷ xs) ys h k = (h.0, told_both P xs ys h.1 k)

pub record IsToldRun {N A : Type 0} (Q : N → Type 0) (P : A → Type 0) (r : Run N A) : Type 0 where
  pub notes : AllByRecursion Q r.notes
  pub value : OfValue P r.end

pub no_value : {N A : Type 0} (Q : N → Type 0) (P : A → Type 0) → IsToldRun Q P (ends OutOfFuel)
no_value Q P = record { notes = tt; value = tt }

pub no_room : {N A : Type 0} (Q : N → Type 0) (P : A → Type 0) → IsToldRun Q P (ends TooDeep)
no_room Q P = record { notes = tt; value = tt }

pub is_done : {N A : Type 0} (Q : N → Type 0) (P : A → Type 0) (a : A) (left : ℕ) → P a → IsToldRun Q P (done a left)
is_done Q P a left h = record { notes = tt; value = h }

pub one_more : {N A : Type 0} (Q : N → Type 0) (P : A → Type 0) (n : N) (r : Run N A) → Q n → IsToldRun Q P r → IsToldRun Q P (noting n r)
one_more Q P n r h k = record { notes = (h, k.notes); value = k.value }

told_after : {N A B : Type 0} (Q : N → Type 0) (P : A → Type 0) (R : B → Type 0) (notes : List N) (e : Ended A) (g : A → ℕ → Run N B)
    → AllByRecursion Q notes → OfValue P e → ((a : A) (left : ℕ) → P a → IsToldRun Q R (g a left)) → IsToldRun Q R (after notes e g)
told_after Q P R notes (Done a left) g n v go =
    let next = go a left v in record { notes = told_both Q notes (g a left).notes n next.notes; value = next.value }
told_after Q P R notes OutOfFuel g n v go = record { notes = n; value = tt }
told_after Q P R notes TooDeep g n v go = record { notes = n; value = tt }

pub told_then : {N A B : Type 0} (Q : N → Type 0) (P : A → Type 0) (R : B → Type 0) (x : Run N A) (g : A → ℕ → Run N B)
    → IsToldRun Q P x → ((a : A) (left : ℕ) → P a → IsToldRun Q R (g a left)) → IsToldRun Q R (x >>= g)
told_then Q P R x g h go = told_after Q P R x.notes x.end g h.notes h.value go

pub told_if : {N A : Type 0} (Q : N → Type 0) (P : A → Type 0) (c : Bool) (x y : Run N A) → IsToldRun Q P x → IsToldRun Q P y → IsToldRun Q P (if c then x else y)
told_if Q P true x y s r = s
told_if Q P false x y s r = r

pub told_in_room : {N A : Type 0} (Q : N → Type 0) (P : A → Type 0) (room : ℕ) (x : Run N A) → IsToldRun Q P x → IsToldRun Q P (in_room room x)
told_in_room Q P zero x v = no_room Q P
told_in_room Q P (suc n) x v = v

module _ (ok : OfHeads) where
  abbrev pub Fine : Tree → Type 0
  Fine t = AllHeads ok t

  abbrev pub FineTrees : Trees → Type 0
  FineTrees ts = EachHeads ok ts

  abbrev pub AllTold : List Tree → Type 0
  AllTold ts = AllByRecursion Fine ts

  -- ---- what a pattern binds is part of what it matches

  bind_told : (x : ℕ) (t : Tree) (before bound : List Tree) → Fine t → AllTold before → bind x t before ≡ Some bound → AllTold bound
  bind_told zero t [] bound h k e = subst AllTold (same_Some (t ∷ []) bound e) (h, tt)
  bind_told (suc x) t [] bound h k e = cc
  bind_told zero t (u ∷ us) bound h k e = subst AllTold (chosen (tree_eq u t) (u ∷ us) bound e).1 k
  bind_told (suc x) t (u ∷ us) bound h k e =
      let m = mapped u (bind x t us) bound e in
      subst AllTold m.2 (k.0, bind_told x t us m.0 h k.1 m.1)

  mutual
    match_told : (p t : Tree) (before bound : List Tree) → Fine t → AllTold before → match_from p t before ≡ Some bound → AllTold bound
    match_told (Leaf x) t before bound h k e = bind_told x t before bound h k e
    match_told (Node f ps) (Leaf y) before bound h k e = cc
    match_told (Node f ps) (Node g ts) before bound h k e = matches_told ps ts before bound h.1 k (if_some (head_eq f g) (match_all ps ts before) bound e).1

    matches_told : (ps ts : Trees) (before bound : List Tree) → FineTrees ts → AllTold before → match_all ps ts before ≡ Some bound → AllTold bound
    matches_told End End before bound h k e = subst AllTold (same_Some before bound e) k
    matches_told End (More t ts) before bound h k e = cc
    matches_told (More p ps) End before bound h k e = cc
    matches_told (More p ps) (More t ts) before bound h k e =
        option_and_then_some (λ m. match_all ps ts m) (match_from p t before) bound e (λ mid i i'.
        matches_told ps ts mid bound h.1 (match_told p t before mid h.0 k i) i')

  pub matched_told : (p t : Tree) (bound : List Tree) → Fine t → match_of p t ≡ Some bound → AllTold bound
  matched_told p t bound h e = match_told p t [] bound h tt e

  -- a variable that isn't bound stays itself
  got_told : (x y : ℕ) (ts : List Tree) → AllTold ts → Fine (get_or ts y (Leaf x))
  got_told x y [] k = tt
  got_told x zero (t ∷ ts) k = k.0
  got_told x (suc y) (t ∷ ts) k = got_told x y ts k.1

  pub bound_told : (x : ℕ) (bound : List Tree) → AllTold bound → Fine (tree_at x bound)
  bound_told x bound k = got_told x x bound k

  -- as many trees as there were patterns, which may be told
  abbrev pub AreTold : Trees → Trees → Type 0
  AreTold ps ts = FineTrees ts × (count_of ts ≡ count_of ps)

  pub one_before : (p t : Tree) (ps ts : Trees) → Fine t → AreTold ps ts → AreTold (More p ps) (More t ts)
  one_before p t ps ts h k = ((h, k.0), ap (λ n. n + 1) k.1)

  pub over_told : (h : Head) (ps ts : Trees) → ok h (count_of ps) ≡ true → AreTold ps ts → Fine (Node h ts)
  over_told h ps ts here k = (ap (ok h) k.1 ∙ here, k.0)

  -- ---- innermost rewriting

  abbrev IsToldPoint : Point → Type 0
  IsToldPoint p = Fine p.tree

  abbrev IsEvaluated : Evaluated Tree → Type 0
  IsEvaluated r = IsToldRun IsToldPoint Fine r

  abbrev Any : {A : Type 0} → A → Type 0
  Any a = Unit {0}

  abbrev IsGoodReducer : Reducer → Type 0
  IsGoodReducer red = (given kept : List Tree) (t : Tree) (fuel room : ℕ) → Fine t → IsEvaluated (red given kept t fuel room)

  module _ (red : Reducer) (good : IsGoodReducer red) where
    module _ (bound : List Tree) (may : AllTold bound) where
      mutual
        evaluate_told : (p : Tree) (kept : List Tree) (fuel room : ℕ) → Fine p → IsEvaluated (evaluate red bound p kept fuel room)
        evaluate_told (Leaf x) kept fuel room h =
            told_in_room IsToldPoint Fine room (done (tree_at x bound) fuel) (is_done IsToldPoint Fine (tree_at x bound) fuel (bound_told x bound may))
        evaluate_told (Node g ps) kept fuel room h =
            told_in_room IsToldPoint Fine room _ (told_then IsToldPoint (AreTold ps) Fine (evaluate_all red bound ps kept fuel room) _ (all_told ps kept fuel room h.1) (λ ts left a.
            good [] kept (Node g ts) left room (over_told g ps ts h.0 a)))

        all_told : (ps : Trees) (kept : List Tree) (fuel room : ℕ) → FineTrees ps → IsToldRun IsToldPoint (AreTold ps) (evaluate_all red bound ps kept fuel room)
        all_told End kept fuel room h = is_done IsToldPoint (AreTold End) End fuel (tt, refl)
        all_told (More p ps) kept fuel room h =
            told_then IsToldPoint Fine (AreTold (More p ps)) (evaluate red bound p kept fuel (room - 1)) _ (evaluate_told p kept fuel (room - 1) h.0) (λ t left a.
            told_then IsToldPoint (AreTold ps) (AreTold (More p ps)) (evaluate_all red bound ps (t ∷ kept) left (room - 1)) _ (all_told ps (t ∷ kept) left (room - 1) h.1) (λ ts rest b.
            is_done IsToldPoint (AreTold (More p ps)) (More t ts) rest (one_before p t ps ts a b)))

      replace_told : (p : Tree) (kept : List Tree) (fuel room : ℕ) → Fine p → IsEvaluated (replace red bound p kept fuel room)
      replace_told (Leaf x) kept fuel room h = is_done IsToldPoint Fine (tree_at x bound) fuel (bound_told x bound may)
      replace_told (Node g ps) kept fuel room h =
          told_then IsToldPoint (AreTold ps) Fine (evaluate_all red bound ps (bound ++ kept) fuel (room - length bound)) _ (all_told ps (bound ++ kept) fuel (room - length bound) h.1) (λ ts left a.
          good bound kept (Node g ts) left room (over_told g ps ts h.0 a))

      hold_told : (cs : List Condition) (kept : List Tree) (fuel room : ℕ) → AllByRecursion (λ c. Fine c.first × Fine c.second) cs → IsToldRun IsToldPoint Any (hold red bound cs kept fuel room)
      hold_told [] kept fuel room h = is_done IsToldPoint Any true fuel tt
      hold_told (c ∷ cs) kept fuel room h =
          told_then IsToldPoint Fine Any (evaluate red bound c.first kept fuel (room - 2)) _ (evaluate_told c.first kept fuel (room - 2) h.0.0) (λ t left a.
          told_then IsToldPoint Fine Any (evaluate red bound c.second (t ∷ kept) left (room - 3)) _ (evaluate_told c.second (t ∷ kept) left (room - 3) h.0.1) (λ u rest b.
          told_if IsToldPoint Any (holds c t u) _ _ (hold_told cs kept rest room h.1) (is_done IsToldPoint Any false rest tt)))

    apply_told : (r : Rule) (bound kept : List Tree) (t : Tree) (fuel room : ℕ) (rest : ℕ → Evaluated Tree)
        → WritesHeads ok r → AllTold bound → ((left : ℕ) → IsEvaluated (rest left)) → IsEvaluated (apply red r bound kept t fuel room rest)
    apply_told r bound kept t zero room rest w may go = no_value IsToldPoint Fine
    apply_told r bound kept t (suc fuel) room rest w may go =
        told_if IsToldPoint Fine (nat_lt room (1 + length bound)) (ends TooDeep) _ (no_room IsToldPoint Fine)
        (told_then IsToldPoint Any Fine (hold red bound r.conditions (t ∷ bound ++ kept) fuel (room - length bound)) _ (hold_told bound may r.conditions (t ∷ bound ++ kept) fuel (room - length bound) w.conditions) (λ c left u.
        told_if IsToldPoint Fine c _ _ (replace_told bound may r.right kept left room w.right) (go left)))

    by_matched : (o : Option (List Tree)) (r : Rule) (rs : List Rule) (kept : List Tree) (t : Tree) (fuel room : ℕ) → match_of r.left t ≡ o → WritesHeads ok r → Fine t
        → ((left : ℕ) → IsEvaluated (reduce_by red rs kept t left room))
        → IsEvaluated (if_matched o (reduce_by red rs kept t fuel room) (λ bound. apply red r bound kept t fuel room (λ left. reduce_by red rs kept t left room)))
    by_matched None r rs kept t fuel room e w h go = go fuel
    by_matched (Some bound) r rs kept t fuel room e w h go = apply_told r bound kept t fuel room _ w (matched_told r.left t bound h e) go

    reduce_told : (rs : List Rule) (kept : List Tree) (t : Tree) (fuel room : ℕ) → AllByRecursion (WritesHeads ok) rs → Fine t → IsEvaluated (reduce_by red rs kept t fuel room)
    reduce_told [] kept t fuel room w h = is_done IsToldPoint Fine t fuel h
    reduce_told (r ∷ rs) kept t fuel room w h =
        by_matched (match_of r.left t) r rs kept t fuel room refl w.0 h (λ left. reduce_told rs kept t left room w.1 h)

    begin_told : (rules : List Rule) → AllByRecursion (WritesHeads ok) rules → IsGoodReducer (begin red rules)
    begin_told rules w given kept t fuel room h = one_more IsToldPoint Fine _ (reduce_by red rules kept t fuel room) h (reduce_told rules kept t fuel room w h)

  within_told : (n : ℕ) (rules : List Rule) → AllByRecursion (WritesHeads ok) rules → IsGoodReducer (reduce_within n rules)
  within_told zero rules w = begin_told (λ g k u f s. ends OutOfFuel) (λ g k u f s i. no_value IsToldPoint Fine) rules w
  within_told (suc n) rules w = begin_told (reduce_within n rules) (within_told n rules w) rules w

  reduction_told : (rules : List Rule) → AllByRecursion (WritesHeads ok) rules → IsGoodReducer (reduction rules)
  reduction_told rules w given kept t fuel room h = within_told fuel rules w given kept t fuel room h

  trees_told : (ps : List Point) → AllByRecursion IsToldPoint ps → AllTold (trees_at ps)
  trees_told [] h = tt
  trees_told (p ∷ ps) h = (h.0, trees_told ps h.1)

  evaluated : (rules : List Rule) (term : Tree) (fuel room : ℕ) → AllByRecursion (WritesHeads ok) rules → Fine term → IsEvaluated (evaluation rules term fuel room)
  evaluated rules term fuel room w h = evaluate_told (reduction rules) (reduction_told rules w) [] tt term [] fuel room h

  pub innermost_told : (rules : List Rule) (term : Tree) (fuel room : ℕ) → AllByRecursion (WritesHeads ok) rules → Fine term → AllTold (built_list rules term fuel room)
  innermost_told rules term fuel room w h = trees_told (evaluation rules term fuel room).notes (evaluated rules term fuel room w h).notes

  pub innermost_value_told : (rules : List Rule) (term : Tree) (fuel room : ℕ) → AllByRecursion (WritesHeads ok) rules → Fine term
      → (value : Tree) (left : ℕ) → (evaluation rules term fuel room).end ≡ Done value left → Fine value
  innermost_value_told rules term fuel room w h value left is = subst (OfValue Fine) is (evaluated rules term fuel room w h).value
