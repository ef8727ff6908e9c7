-- Symbols of a pool, and pools with more symbols.
use Rattle.std.proofs.Common.{◌≡◌, ◌≤◌, ◌<◌, ◌∙◌, ℕ, zero, suc, ◌+◌, List, [], ◌∷◌, ◌++◌, length, length-append, slice_get, nat_eq, Bool, true, false, not, ◌&&◌, ◌||◌, cond, refl, ap, sym, arith, append_assoc, append-nil, Some}
use Rattle.std.specs.Cmp.Lexicographic.{bytes_decides, pointwise}
use Rattle.std.specs.Cmp.{first_so, second_so}
use Rattle.std.proofs.lemmas.Bool.{eqb-true, eq-eqb, ltb-true, lt-ltb}
use Rattle.std.proofs.lemmas.Option.{slice_get_within}
use Rattle.symbol_pool.specs.Pool.{Named, named, most_symbols, Lacks, Has, IsFullFor, IsPool, Holds}
use Rattle.term_model.specs.declared.Symbol.{Symbol}
use Rattle.symbol_pool.specs.Taking.{named_eq, number_of, has, with_symbol, is_full_for, GrowsPool}

pub same_named : (r s : Named) → named_eq r s ≡ true → r ≡ s
same_named r s h =
    let n : r.name ≡ s.name = (bytes_decides r.name s.name).0 (first_so (pointwise nat_eq r.name s.name) (nat_eq r.arity s.arity) h) in
    let a : r.arity ≡ s.arity = eqb-true r.arity s.arity (second_so (pointwise nat_eq r.name s.name) (nat_eq r.arity s.arity) h) in
    λ i. named (n i) (a i)

pub itself : (s : Named) → named_eq s s ≡ true
itself s = ap (λ b. b && nat_eq s.arity s.arity) ((bytes_decides s.name s.name).1 refl) ∙ eq-eqb s.arity s.arity refl

number_here : (r s : Named) (pool : List Named) → named_eq r s ≡ true → number_of (r ∷ pool) s ≡ 0
number_here r s pool e = ap (λ b. cond b 0 (number_of pool s + 1)) e

number_there : (r s : Named) (pool : List Named) → named_eq r s ≡ false → number_of (r ∷ pool) s ≡ number_of pool s + 1
number_there r s pool e = ap (λ b. cond b 0 (number_of pool s + 1)) e

-- no earlier symbol is this
pub number_first : (pool : List Named) (i : ℕ) (s : Named) → slice_get pool i ≡ Some s → number_of pool s ≤ i
number_first [] i s h = absurd cc
number_first (r ∷ pool) zero s h =
    let e : r ≡ s = cc in
    omega (arith, number_here r s pool (ap (λ q. named_eq r q) (sym e) ∙ itself r))
number_first (r ∷ pool) (suc i) s h = by (named_eq r s) refl (number_first pool i s h)
  where
    by : (b : Bool) → named_eq r s ≡ b → number_of pool s ≤ i → number_of (r ∷ pool) s ≤ suc i
    by true e rest = omega (arith, number_here r s pool e)
    by false e rest = omega (arith, number_there r s pool e)

-- the symbol of its number is this
pub number_holds : (pool : List Named) (s : Named) → number_of pool s < length pool → slice_get pool (number_of pool s) ≡ Some s
number_holds [] s h = absurd (omega arith)
number_holds (r ∷ pool) s h = by (named_eq r s) refl (number_holds pool s)
  where
    by : (b : Bool) → named_eq r s ≡ b → (number_of pool s < length pool → slice_get pool (number_of pool s) ≡ Some s) → slice_get (r ∷ pool) (number_of (r ∷ pool) s) ≡ Some s
    by true e rest = ap (slice_get (r ∷ pool)) (number_here r s pool e) ∙ ap Some (same_named r s e)
    by false e rest =
        let n = number_there r s pool e in
        let m : number_of (r ∷ pool) s ≡ suc (number_of pool s) = omega (arith, n) in
        ap (slice_get (r ∷ pool)) m ∙ rest (omega (arith, m))

-- whether a pool has a symbol
pub has_it : (pool : List Named) (s : Named) → has pool s ≡ true → Has pool s
has_it pool s h = (number_of pool s, number_holds pool s (ltb-true (number_of pool s) (length pool) h))

pub has_from : (pool : List Named) (i : ℕ) (s : Named) → slice_get pool i ≡ Some s → has pool s ≡ true
has_from pool i s h =
    let l = slice_get_within pool i s h in
    let f = number_first pool i s h in
    lt-ltb (number_of pool s) (length pool) (omega arith)

pub lacks_it : (pool : List Named) (s : Named) → has pool s ≡ false → Lacks pool s
lacks_it pool s h i e = let t = has_from pool i s e in absurd cc

pub lacks_from : (pool : List Named) (s : Named) → Lacks pool s → has pool s ≡ false
lacks_from pool s lacks = by (has pool s) refl
  where
    by : (b : Bool) → has pool s ≡ b → has pool s ≡ false
    by true e = let h = has_it pool s e in absurd (lacks h.0 h.1)
    by false e = e

-- a symbol of a pool has one number
pub number_is : (pool : List Named) (symbol : Symbol) (s : Named) → IsPool pool → Holds pool symbol s → number_of pool s ≡ symbol.0
number_is pool symbol s p h =
    let l = slice_get_within pool symbol.0 s h in
    let f = number_first pool symbol.0 s h in
    p.once (number_of pool s) symbol.0 s (number_holds pool s (omega arith)) h

-- a full pool
pub full_from : (pool : List Named) (s : Named) → IsFullFor pool s → is_full_for pool s ≡ true
full_from pool s f = ap (λ b. not b && nat_eq (length pool) most_symbols) (lacks_from pool s f.0) ∙ eq-eqb (length pool) most_symbols f.1

pub not_full : (pool : List Named) (s : Named) → (IsFullFor pool s → ⊥) → is_full_for pool s ≡ false
not_full pool s never = by (has pool s) refl (nat_eq (length pool) most_symbols) refl
  where
    by : (h : Bool) → has pool s ≡ h → (n : Bool) → nat_eq (length pool) most_symbols ≡ n → is_full_for pool s ≡ false
    by true e n f = ap (λ b. not b && nat_eq (length pool) most_symbols) e
    by false e true f = absurd (never (lacks_it pool s e, eqb-true (length pool) most_symbols f))
    by false e false f = ap (λ b. not b && nat_eq (length pool) most_symbols) e ∙ f

-- the pool after a symbol
pub with_old : (pool : List Named) (s : Named) → has pool s ≡ true → with_symbol pool s ≡ pool
with_old pool s h = ap (λ b. cond b pool (pool ++ s ∷ [])) h

pub with_new : (pool : List Named) (s : Named) → has pool s ≡ false → with_symbol pool s ≡ pool ++ s ∷ []
with_new pool s h = ap (λ b. cond b pool (pool ++ s ∷ [])) h

pub with_symbol_grows : (pool : List Named) (s : Named) → GrowsPool pool (with_symbol pool s)
with_symbol_grows pool s = by (has pool s) refl
  where
    by : (b : Bool) → has pool s ≡ b → GrowsPool pool (with_symbol pool s)
    by true e = ([], with_old pool s e ∙ sym (append-nil pool))
    by false e = (s ∷ [], with_new pool s e)

-- the number of a symbol that a pool has stays
pub number_stays : (pool more : List Named) (s : Named) → number_of pool s < length pool → number_of (pool ++ more) s ≡ number_of pool s
number_stays [] more s h = absurd (omega arith)
number_stays (r ∷ pool) more s h = by (named_eq r s) refl (number_stays pool more s)
  where
    by : (b : Bool) → named_eq r s ≡ b → (number_of pool s < length pool → number_of (pool ++ more) s ≡ number_of pool s) → number_of ((r ∷ pool) ++ more) s ≡ number_of (r ∷ pool) s
    by true e rest = number_here r s (pool ++ more) e ∙ sym (number_here r s pool e)
    by false e rest =
        let n = number_there r s pool e in
        number_there r s (pool ++ more) e ∙ ap (λ k. k + 1) (rest (omega (arith, n))) ∙ sym n

pub stays_in : (pool new : List Named) (s : Named) → GrowsPool pool new → has pool s ≡ true → (number_of new s ≡ number_of pool s) × (has new s ≡ true)
stays_in pool new s (more, e) h =
    let l = ltb-true (number_of pool s) (length pool) h in
    let n : number_of new s ≡ number_of pool s = ap (λ p. number_of p s) e ∙ number_stays pool more s l in
    let m : length new ≡ length pool + length more = ap length e ∙ length-append pool more in
    (n, lt-ltb (number_of new s) (length new) (omega arith))

-- a symbol that was taken up is there
last_there : (pool : List Named) (s : Named) → slice_get (pool ++ s ∷ []) (length pool) ≡ Some s
last_there [] s = refl
last_there (r ∷ pool) s = last_there pool s

pub has_taken : (pool : List Named) (s : Named) → has (with_symbol pool s) s ≡ true
has_taken pool s = by (has pool s) refl
  where
    by : (b : Bool) → has pool s ≡ b → has (with_symbol pool s) s ≡ true
    by true e = ap (λ p. has p s) (with_old pool s e) ∙ e
    by false e = ap (λ p. has p s) (with_new pool s e) ∙ has_from (pool ++ s ∷ []) (length pool) s (last_there pool s)

pub grows_itself : (pool : List Named) → GrowsPool pool pool
grows_itself pool = ([], sym (append-nil pool))

pub grows_on : (a b c : List Named) → GrowsPool a b → GrowsPool b c → GrowsPool a c
grows_on a b c (x, e) (y, f) = (x ++ y, f ∙ ap (λ p. p ++ y) e ∙ append_assoc a x y)
