-- A symbol is taken up by its name, and there is always room for one of the names.
use Rattle.std.proofs.Common.{◌≡◌, ℕ, suc, ◌<◌, ◌≤◌, Bool, true, false, ◌||◌, inl, inr, ◌⊎◌, List, [], ◌∷◌, ◌++◌, length, get_or, slice_get, Some, refl, sym, ap, subst, ◌∙◌, arith}
use Rattle.std.specs.List.{list_any}
use Rattle.std.specs.Cmp.{IsEquivalence}
use Rattle.std.proofs.lemmas.Bool.{cases_lt}
use Rattle.std.proofs.lemmas.List.{length-append}
use Rattle.std.proofs.lemmas.Map.Keys.{IsDistinct-from_apart}
use Rattle.std.proofs.lemmas.Map.Made.{length-le_from_is_member}
use Rattle.std.proofs.lemmas.Option.{slice_get-get_or}
use Rattle.symbol_pool.specs.Pool.{Named, named, IsPool, Lacks, Has, IsFullFor, name_at, arity_at}
use Rattle.symbol_pool.proofs.Places.{slice_get-append}
use Rattle.term_model.specs.declared.Symbol.{Symbol}
use Rattle.term_model.proofs.Members.{same_test}
use Rattle.symbol_pool.specs.Taking.{named_eq, has, with_symbol}
use Rattle.symbol_pool.proofs.Taking.{same_named, itself, has_from, has_it, lacks_it, with_old, with_new}
use Rattle.term_file.specs.Sharing.{IsPart, Numbers}
use Rattle.term_file.proofs.Facts.{list_any_at}
use Rattle.term_file.proofs.Pieces.{symbol_is}
use Rattle.term_file.proofs.Renaming.{last_or_before}
use Rattle.term_file.proofs.Tables.{slice_get-behind}

-- ---- equality of symbols

named_eq_same : (a b : Named) → a ≡ b → named_eq a b ≡ true
named_eq_same a b e = ap (named_eq a) (sym e) ∙ itself a

named_eq_laws : IsEquivalence named_eq
named_eq_laws = record {
  refl = itself;
  symm = λ a b. same_test (named_eq a b) (named_eq b a) (λ e. named_eq_same b a (sym (same_named a b e))) (λ e. named_eq_same a b (sym (same_named b a e)));
  congr = λ a b c e. ap (λ x. named_eq x c) (same_named a b e);
}

-- ---- room

member_at : (ss : List Named) (q : Named) → list_any (named_eq q) ss ≡ true → Has ss q
member_at [] q h = absurd cc
member_at (s ∷ ss) q h = by (named_eq q s) refl h (member_at ss q)
  where
    by : (b : Bool) → named_eq q s ≡ b → (b || list_any (named_eq q) ss) ≡ true → (list_any (named_eq q) ss ≡ true → Has ss q) → Has (s ∷ ss) q
    by true e r rest = (0, ap Some (sym (same_named q s e)))
    by false e r rest = let p = rest r in (suc p.0, p.1)

different_places : (ss : List Named) (i j : ℕ) (d : Named) → IsPool ss → i < j → j < length ss → named_eq (get_or ss i d) (get_or ss j d) ≡ false
different_places ss i j d pool lt room = by (named_eq (get_or ss i d) (get_or ss j d)) refl
  where
    by : (b : Bool) → named_eq (get_or ss i d) (get_or ss j d) ≡ b → b ≡ false
    by true e =
        let n = pool.once i j (get_or ss j d) (slice_get-get_or ss i d (omega arith) ∙ ap Some (same_named (get_or ss i d) (get_or ss j d) e)) (slice_get-get_or ss j d room) in
        absurd (omega (arith, n))
    by false e = refl

-- a pool with one more
pool_more : (old : List Named) (s : Named) → IsPool old → Lacks old s → (i j : ℕ) (d : Named) → i < j → j < length (old ++ s ∷ []) → named_eq (get_or (old ++ s ∷ []) i d) (get_or (old ++ s ∷ []) j d) ≡ false
pool_more old s pool lacks i j d lt room = by (cases_lt j (length old))
  where
    at_i : slice_get (old ++ s ∷ []) i ≡ Some (get_or (old ++ s ∷ []) i d)
    at_i = slice_get-get_or (old ++ s ∷ []) i d (omega arith)

    at_j : slice_get (old ++ s ∷ []) j ≡ Some (get_or (old ++ s ∷ []) j d)
    at_j = slice_get-get_or (old ++ s ∷ []) j d room

    before : (b : Bool) → named_eq (get_or (old ++ s ∷ []) i d) (get_or (old ++ s ∷ []) j d) ≡ b → (j < length old) → b ≡ false
    before true e l =
        let left : slice_get old i ≡ Some (get_or (old ++ s ∷ []) j d) = sym (slice_get-append old (s ∷ []) i (omega arith)) ∙ at_i ∙ ap Some (same_named (get_or (old ++ s ∷ []) i d) (get_or (old ++ s ∷ []) j d) e) in
        let right : slice_get old j ≡ Some (get_or (old ++ s ∷ []) j d) = sym (slice_get-append old (s ∷ []) j l) ∙ at_j in
        let n = pool.once i j (get_or (old ++ s ∷ []) j d) left right in
        absurd (omega (arith, n))
    before false e l = refl

    last : (b : Bool) → named_eq (get_or (old ++ s ∷ []) i d) (get_or (old ++ s ∷ []) j d) ≡ b → (j ≡ length old) → b ≡ false
    last true e l =
        let is_s : Some s ≡ Some (get_or (old ++ s ∷ []) j d) = sym (slice_get-behind old s []) ∙ ap (slice_get (old ++ s ∷ [])) (sym l) ∙ at_j in
        let left : slice_get old i ≡ Some s = sym (slice_get-append old (s ∷ []) i (omega arith)) ∙ at_i ∙ ap Some (same_named (get_or (old ++ s ∷ []) i d) (get_or (old ++ s ∷ []) j d) e) ∙ sym is_s in
        absurd (lacks i left)
    last false e l = refl

    by : (j < length old) ⊎ (length old ≤ j) → named_eq (get_or (old ++ s ∷ []) i d) (get_or (old ++ s ∷ []) j d) ≡ false
    by (inl l) = before (named_eq (get_or (old ++ s ∷ []) i d) (get_or (old ++ s ∷ []) j d)) refl l
    by (inr g) = last (named_eq (get_or (old ++ s ∷ []) i d) (get_or (old ++ s ∷ []) j d)) refl (omega (arith, room, g, length-append old (s ∷ [])))

module _ (names old : List Named) (s : Named) (one : IsPool names) (pool : IsPool old) (part : IsPart old names) (here : has names s ≡ true) where
  all_named : (q : Named) → list_any (named_eq q) (old ++ s ∷ []) ≡ true → list_any (named_eq q) names ≡ true
  all_named q h = by (member_at (old ++ s ∷ []) q h)
    where
      held : has names q ≡ true → list_any (named_eq q) names ≡ true
      held e = let p = has_it names q e in list_any_at (named_eq q) names p.0 q p.1 (itself q)

      by : Has (old ++ s ∷ []) q → list_any (named_eq q) names ≡ true
      by p = held (elim (last_or_before old s p.0 q p.1) [ inl l ↦ part.among p.0 q l | inr e ↦ ap (has names) e ∙ here ])

  pub never_full : IsFullFor old s → ⊥
  never_full full =
      let apart = IsDistinct-from_apart named_eq (old ++ s ∷ []) (pool_more old s pool full.0) in
      let le = length-le_from_is_member named_eq_laws (old ++ s ∷ []) names apart all_named in
      omega (arith, le, length-append old (s ∷ []), one.room, full.1)

-- ---- what taking up gives

grown_by : (old new : List Named) (s : Named) → (Lacks old s → new ≡ old ++ s ∷ []) → (Has old s → new ≡ old) → new ≡ with_symbol old s
grown_by old new s lacks holds = by (has old s) refl
  where
    by : (b : Bool) → has old s ≡ b → new ≡ with_symbol old s
    by true e = holds (has_it old s e) ∙ sym (with_old old s e)
    by false e = lacks (lacks_it old s e) ∙ sym (with_new old s e)

pub numbers : (names inside old new : List Named) (f : Symbol) (name : List ℕ) (arity n : ℕ) → inside ≡ old → name_at names f ≡ Some name → arity_at names f ≡ Some arity → slice_get new n ≡ Some (named name arity) → (Lacks inside (named name arity) → new ≡ inside ++ named name arity ∷ []) → (Has inside (named name arity) → new ≡ inside) → IsPool new → Numbers names f.0 old new n
numbers names inside old new f name arity n is a b held lacks holds pool = record {
  symbol = named name arity;
  named = symbol_is names f name arity a b;
  held = held;
  grown = grown_by inside new (named name arity) lacks holds ∙ ap (λ ss. with_symbol ss (named name arity)) is;
  pool = pool;
}

pub room_for : (names inside old new : List Named) (f : Symbol) (name : List ℕ) (arity : ℕ) → inside ≡ old → name_at names f ≡ Some name → arity_at names f ≡ Some arity → IsPool names → IsPart old names → new ≡ inside → IsPool new → IsFullFor inside (named name arity) → ⊥
room_for names inside old new f name arity is a b one part same pool full =
    never_full names inside (named name arity) one (subst IsPool same pool) (subst (λ ss. IsPart ss names) (sym is) part) (has_from names f.0 (named name arity) (symbol_is names f name arity a b)) full
