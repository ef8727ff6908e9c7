-- A name becomes a symbol over the last trees.
use Rattle.std.proofs.Common.{◌≡◌, ◌≤◌, ◌<◌, ◌∙◌, ◌⊎◌, inl, inr, ℕ, zero, suc, List, [], ◌∷◌, ◌++◌, length, length-append, map, slice_get, refl, ap, sym, subst, arith, Bool, true, false, not, ◌&&◌, nat_lt, nat_le, nat_eq, Some, None}
use Rattle.std.proofs.lemmas.List.{length-map}
use Rattle.std.specs.Prelude.{if◌then◌else◌}
use Rattle.std.proofs.lemmas.Bool.{leb-true, eq-eqb}
use Rattle.term_model.proofs.Order.{both_hold}
use Rattle.term_model.specs.Tree as tree
use Rattle.term_model.specs.Tree.{Tree, Node, trees_of}
use Rattle.term_model.specs.declared.Head.TheVariants.{App}
use Rattle.symbol_pool.specs.Pool.{Named, named, IsPool, most_symbols}
use Rattle.symbol_pool.specs.Taking.{number_of, has, with_symbol, is_full_for, GrowsPool}
use Rattle.symbol_pool.proofs.Taking.{with_symbol_grows, has_taken, with_old, with_new, lacks_it}
use Rattle.terms_api.specs.Terms.{last, but_last}
use Rattle.terms_api.proofs.Callers.{last-append, but_last-append}
use Rattle.term_syntax.specs.TakenUp.{tree_in, trees_in}
use Rattle.term_syntax.specs.Written.{Written, Call, End, count_of}
use Rattle.term_building.specs.Progress.{joined}
use Rattle.term_building.specs.State.{State, may_call, called, call_named}
use Rattle.term_building.specs.Trees.{IsGood, AreGood, AllGood}
use Rattle.term_building.proofs.Growing.{all_stay, all_kept}

count_joined : (ws : List Written) → count_of (joined ws End) ≡ length ws
count_joined [] = refl
count_joined (w ∷ ws) = let n = count_joined ws in omega (arith, n)

pub good_joined : (pool : List Named) (ws : List Written) → AllGood pool ws → AreGood pool (joined ws End)
good_joined pool [] all = tt
good_joined pool (w ∷ ws) (g, all) = (g, good_joined pool ws all)

trees_joined : (pool : List Named) (ws : List Written) → trees_of (map (tree_in pool) ws) ≡ trees_in pool (joined ws End)
trees_joined pool [] = refl
trees_joined pool (w ∷ ws) = ap (tree.More (tree_in pool w)) (trees_joined pool ws)

-- ---- one more symbol in a pool
at_last : {A : Type 0} (xs : List A) (x y : A) (i : ℕ) → slice_get (xs ++ x ∷ []) i ≡ Some y → ((slice_get xs i ≡ Some y) × (i < length xs)) ⊎ ((i ≡ length xs) × (x ≡ y))
at_last [] x y zero e = inr (refl, let same : x ≡ y = cc in same)
at_last [] x y (suc i) e = absurd cc
at_last (z ∷ xs) x y zero e = inl (e, omega arith)
at_last (z ∷ xs) x y (suc i) e = by (at_last xs x y i e)
  where
    by : ((slice_get xs i ≡ Some y) × (i < length xs)) ⊎ ((i ≡ length xs) × (x ≡ y)) → ((slice_get xs i ≡ Some y) × (suc i < suc (length xs))) ⊎ ((suc i ≡ suc (length xs)) × (x ≡ y))
    by (inl (f, l)) = inl (f, omega (arith, l))
    by (inr (n, s)) = inr (ap suc n, s)

pushed_pool : (pool : List Named) (s : Named) → IsPool pool → has pool s ≡ false → (length pool ≡ most_symbols → ⊥) → IsPool (pool ++ s ∷ [])
pushed_pool pool s p lacks room = record {
  once = λ i j r a b. by i j r (at_last pool s r i a) (at_last pool s r j b);
  room = let l = length-append pool (s ∷ []) in let most = p.room in omega (arith, l, most, room);
}
  where
    by : (i j : ℕ) (r : Named) → ((slice_get pool i ≡ Some r) × (i < length pool)) ⊎ ((i ≡ length pool) × (s ≡ r)) → ((slice_get pool j ≡ Some r) × (j < length pool)) ⊎ ((j ≡ length pool) × (s ≡ r)) → i ≡ j
    by i j r (inl (a, l)) (inl (b, m)) = p.once i j r a b
    by i j r (inl (a, l)) (inr (n, e)) = absurd (lacks_it pool s lacks i (a ∙ ap Some (sym e)))
    by i j r (inr (n, e)) (inl (b, m)) = absurd (lacks_it pool s lacks j (b ∙ ap Some (sym e)))
    by i j r (inr (n, e)) (inr (m, f)) = n ∙ sym m

pub with_pool : (pool : List Named) (s : Named) → IsPool pool → not (is_full_for pool s) ≡ true → IsPool (with_symbol pool s)
with_pool pool s p room = by (has pool s) refl
  where
    full : has pool s ≡ false → length pool ≡ most_symbols → not (is_full_for pool s) ≡ false
    full lacks many = ap (λ b. not (not b && nat_eq (length pool) most_symbols)) lacks ∙ ap not (eq-eqb (length pool) most_symbols many)

    by : (b : Bool) → has pool s ≡ b → IsPool (with_symbol pool s)
    by true e = subst IsPool (sym (with_old pool s e)) p
    by false e = subst IsPool (sym (with_new pool s e)) (pushed_pool pool s p e (λ many. (let bad = full e many in absurd cc)))

not_true : (b : Bool) → not b ≡ true → b ≡ false
not_true true e = absurd cc
not_true false e = refl

-- ---- a call
-- what a state has after a call over these terms, which are the last
pub record Calls (s : State) (place : ℕ) (name : List ℕ) (before : List Tree) (terms : List Written) : Type 0 where
  pub grows : GrowsPool s.symbols (called name (length terms) s).symbols
  pub good : IsGood (called name (length terms) s).symbols (Call place name (joined terms End))
  pub trees_are : (called name (length terms) s).trees ≡ before ++ tree_in (called name (length terms) s).symbols (Call place name (joined terms End)) ∷ []
  pub is_pool : IsPool (called name (length terms) s).symbols

pub made : (name : List ℕ) (n : ℕ) (s r : State) → call_named name n s ≡ Some r → (may_call name n s ≡ true) × (called name n s ≡ r)
made name n s r e = by (may_call name n s) refl e
  where
    by : (b : Bool) → may_call name n s ≡ b → (if b then Some (called name n s) else None) ≡ Some r → (may_call name n s ≡ true) × (called name n s ≡ r)
    by true f e = (f, let same : called name n s ≡ r = cc in same)
    by false f e = absurd cc

pub calls : (s : State) (place : ℕ) (name : List ℕ) (before : List Tree) (terms : List Written) →
    may_call name (length terms) s ≡ true → s.trees ≡ before ++ map (tree_in s.symbols) terms → AllGood s.symbols terms → IsPool s.symbols →
    Calls s place name before terms
calls s place name before terms may trees good p =
    let n = length terms in
    let pool = with_symbol s.symbols (named name n) in
    let short = both_hold (not (nat_lt 255 (length name))) (not (is_full_for s.symbols (named name n)) && nat_le n 16) may in
    let room = both_hold (not (is_full_for s.symbols (named name n))) (nat_le n 16) short.1 in
    let grows = with_symbol_grows s.symbols (named name n) in
    let counted : count_of (joined terms End) ≡ n = count_joined terms in
    let size : length (map (tree_in s.symbols) terms) ≡ n = length-map terms (tree_in s.symbols) in
    let lasts : last n s.trees ≡ map (tree_in s.symbols) terms = ap (last n) trees ∙ last-append n before (map (tree_in s.symbols) terms) size in
    let firsts : but_last n s.trees ≡ before = ap (but_last n) trees ∙ but_last-append n before (map (tree_in s.symbols) terms) size in
    let kept : map (tree_in pool) terms ≡ map (tree_in s.symbols) terms = all_kept s.symbols pool grows terms good in
    let few : n ≤ 16 = leb-true n 16 room.1 in
    let inside : trees_of (last n s.trees) ≡ trees_in pool (joined terms End) = ap trees_of (lasts ∙ sym kept) ∙ trees_joined pool terms in
    record {
      grows = grows;
      good = (
        ap (λ k. has pool (named name k)) counted ∙ has_taken s.symbols (named name n),
        not_true (nat_lt 255 (length name)) short.0,
        subst (λ k. k ≤ 16) (sym counted) few,
        good_joined pool terms (all_stay s.symbols pool grows terms good),
      );
      trees_are = λ i. firsts i ++ Node (App (record { 0 = number_of pool (named name (sym counted i)) })) (inside i) ∷ [];
      is_pool = with_pool s.symbols (named name n) p room.0;
    }
