-- Names with their numbers of arguments that are taken up, or refused.
use Rattle.std.proofs.Common.{◌≡◌, ◌≤◌, ◌∙◌, ℕ, List, [], ◌∷◌, ◌++◌, length, ltb, Bool, true, false, ◌||◌, refl, ap, sym}
use Rattle.std.proofs.lemmas.Bool.{le-ltb}
use Rattle.symbol_pool.specs.Pool.{Named, named, Lacks, Has, IsFullFor, IsPool, Holds}
use Rattle.symbol_pool.specs.Taking.{has, with_symbol, is_full_for}
use Rattle.symbol_pool.proofs.Taking.{has_it, lacks_it, number_is, full_from, not_full, with_old, with_new}
use Rattle.term_model.specs.declared.Symbol.{Symbol}
use Rattle.term_syntax.specs.Named.{IsSymbolTaken}

-- a symbol was interned
pub symbol_taken : (old new : List Named) (name : List ℕ) (count : ℕ) (symbol : Symbol) → length name ≤ 255 → Holds new symbol (named name count) → (Lacks old (named name count) → new ≡ old ++ named name count ∷ []) → (Has old (named name count) → new ≡ old) → (IsFullFor old (named name count) → ⊥) → IsPool new → IsSymbolTaken old name count symbol new
symbol_taken old new name count symbol short held added found room pool = record {
  short = le-ltb 255 (length name) short;
  room = not_full old (named name count) room;
  pool_is = by (has old (named name count)) refl;
  symbol_is = ap (λ k. record { 0 = k }) (sym (number_is new symbol (named name count) pool held));
}
  where
    by : (b : Bool) → has old (named name count) ≡ b → new ≡ with_symbol old (named name count)
    by true e = found (has_it old (named name count) e) ∙ sym (with_old old (named name count) e)
    by false e = added (lacks_it old (named name count) e) ∙ sym (with_new old (named name count) e)

-- a symbol is one too many
pub symbol_refused : (pool : List Named) (name : List ℕ) (count : ℕ) → IsFullFor pool (named name count) → (ltb 255 (length name) || is_full_for pool (named name count)) ≡ true
symbol_refused pool name count f = by (ltb 255 (length name)) (full_from pool (named name count) f)
  where
    by : (b : Bool) → is_full_for pool (named name count) ≡ true → (b || is_full_for pool (named name count)) ≡ true
    by true e = refl
    by false e = e
