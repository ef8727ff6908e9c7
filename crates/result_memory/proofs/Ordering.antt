-- The order of the entries after a look-up, and after an entry was put first.
use Rattle.std.proofs.Common.{◌≡◌, ℕ, zero, suc, ◌+◌, ◌-◌, ◌≤◌, Bool, true, false, cond, ◌⊎◌, inl, inr, List, [], ◌∷◌, length, take, Option, Some, None, refl, sym, ap, subst, ◌∙◌, arith, nat_eq}
use Rattle.std.specs.Prelude.{Result, Ok, Err, OnOk, OnErr, IsOk}
use Rattle.std.specs.Option.{option_map_or}
use Rattle.std.specs.Map.{lookup, lookup_entry, remove_entry}
use Rattle.std.proofs.lemmas.Bool.{eqb-true}
use Rattle.std.proofs.lemmas.List.{take_all}
use Rattle.lru.specs.LruCache.{LruCache, lru_cache, promoted, put_entries}
use Rattle.lru.proofs.CallerLemmas.{Contains-lookup_entry}
use Rattle.term_model.specs.declared.Row.{Row}
use Rattle.innermost.specs.declared.memo.Known.{Known}
use Rattle.result_memory.specs.Order.{HasRoom, others, with_first, with_used}
use Rattle.result_memory.proofs.Lookups.{of_entry}

module _ {X : Type 0} where
  none_from : (b : Bool) (f : ℕ × X) (es rest : List (ℕ × X)) (o : Option (ℕ × X)) → cond b (Some f) o ≡ None → (o ≡ None → rest ≡ es) → cond b es (f ∷ rest) ≡ f ∷ es
  none_from true f es rest o is h = cc
  none_from false f es rest o is h = ap (λ (xs : List (ℕ × X)). f ∷ xs) (h is)

  -- where no entry passes, none is removed
  removed_none : (test : ℕ → Bool) (es : List (ℕ × X)) → lookup_entry test es ≡ None → remove_entry test es ≡ es
  removed_none test [] h = refl
  removed_none test (f ∷ es) h = none_from (test f.0) f es (remove_entry test es) (lookup_entry test es) h (removed_none test es)

  one_from : (b : Bool) (f e : ℕ × X) (es rest : List (ℕ × X)) (o : Option (ℕ × X)) → cond b (Some f) o ≡ Some e → (o ≡ Some e → length rest + 1 ≡ length es) → length (cond b es (f ∷ rest)) + 1 ≡ length (f ∷ es)
  one_from true f e es rest o is h = omega arith
  one_from false f e es rest o is h = let more = h is in omega (arith, more)

  -- where one passes, there is one less
  removed_one : (test : ℕ → Bool) (es : List (ℕ × X)) (e : ℕ × X) → lookup_entry test es ≡ Some e → length (remove_entry test es) + 1 ≡ length es
  removed_one test [] e h = cc
  removed_one test (f ∷ es) e h = one_from (test f.0) f e es (remove_entry test es) (lookup_entry test es) h (removed_one test es e)

  nothing_from : (b : Bool) (f : ℕ × X) (o : Option (ℕ × X)) (p : Option X) → cond b (Some f) o ≡ None → (o ≡ None → p ≡ None) → cond b (Some f.1) p ≡ None
  nothing_from true f o p is h = cc
  nothing_from false f o p is h = h is

  nothing_found : (test : ℕ → Bool) (es : List (ℕ × X)) → lookup_entry test es ≡ None → lookup test es ≡ None
  nothing_found test [] h = refl
  nothing_found test (f ∷ es) h = nothing_from (test f.0) f (lookup_entry test es) (lookup test es) h (nothing_found test es)

  own_key : (k : ℕ) (es : List (ℕ × X)) (e : ℕ × X) → lookup_entry (nat_eq k) es ≡ Some e → e.0 ≡ k
  own_key k es e h = sym (eqb-true k e.0 (Contains-lookup_entry (nat_eq k) es e h).1)

  put_at : (k : ℕ) (v : X) (cap : ℕ) (es : List (ℕ × X)) (o : Option (ℕ × X)) → lookup_entry (nat_eq k) es ≡ o → length es ≤ cap
      → option_map_or (λ e. (e.0, v) ∷ remove_entry (nat_eq k) es) o ((k, v) ∷ take (cap - 1) es) ≡ (k, v) ∷ take (cap - 1) (remove_entry (nat_eq k) es)
  put_at k v cap es None h le = ap (λ (xs : List (ℕ × X)). (k, v) ∷ take (cap - 1) xs) (sym (removed_none (nat_eq k) es h))
  put_at k v cap es (Some e) h le =
      let rest = remove_entry (nat_eq k) es in
      let fewer = removed_one (nat_eq k) es e h in
      ap (λ (i : ℕ). (i, v) ∷ rest) (own_key k es e h) ∙ ap (λ (xs : List (ℕ × X)). (k, v) ∷ xs) (sym (take_all (cap - 1) rest (omega (arith, fewer, le))))

  used_at : (k : ℕ) (es : List (ℕ × X)) (o : Option (ℕ × X)) → lookup_entry (nat_eq k) es ≡ o
      → option_map_or (λ e. e ∷ remove_entry (nat_eq k) es) o es ≡ option_map_or (λ v. (k, v) ∷ remove_entry (nat_eq k) es) (lookup (nat_eq k) es) es
  used_at k es None h = sym (ap (λ (p : Option X). option_map_or (λ v. (k, v) ∷ remove_entry (nat_eq k) es) p es) (nothing_found (nat_eq k) es h))
  used_at k es (Some e) h =
      ap (λ (i : ℕ). (i, e.1) ∷ remove_entry (nat_eq k) es) (own_key k es e h)
      ∙ sym (ap (λ (p : Option X). option_map_or (λ v. (k, v) ∷ remove_entry (nat_eq k) es) p es) (of_entry (nat_eq k) es e h))

  long_at : (k : ℕ) (es : List (ℕ × X)) (o : Option (ℕ × X)) → lookup_entry (nat_eq k) es ≡ o → length (option_map_or (λ e. e ∷ remove_entry (nat_eq k) es) o es) ≡ length es
  long_at k es None h = refl
  long_at k es (Some e) h = let fewer = removed_one (nat_eq k) es e h in omega (arith, fewer)

  long_take : (n : ℕ) (es : List (ℕ × X)) → length (take n es) ≤ n
  long_take zero es = omega arith
  long_take (suc n) [] = omega arith
  long_take (suc n) (e ∷ es) = let rest = long_take n es in omega (arith, rest)

-- what a look-up leaves
pub used_first : (old new : LruCache ℕ Known) (row : Row) → new ≡ lru_cache (promoted (nat_eq row.0) old.entries) old.cap → new ≡ with_used old row
used_first old new row is = is ∙ ap (λ (es : List (ℕ × Known)). lru_cache es old.cap) (used_at row.0 old.entries (lookup_entry (nat_eq row.0) old.entries) refl)

pub used_room : (old new : LruCache ℕ Known) (row : Row) → new ≡ lru_cache (promoted (nat_eq row.0) old.entries) old.cap → HasRoom old → HasRoom new
used_room old new row is room =
    let long = long_at row.0 old.entries (lookup_entry (nat_eq row.0) old.entries) refl in
    let le = room.0 in
    subst HasRoom (sym is) (omega (arith, long, le), room.1)

-- what is left where an entry was put first
pub put_first : (old new : LruCache ℕ Known) (row : Row) (known : Known) → HasRoom old → new ≡ lru_cache (put_entries nat_eq old row.0 known) old.cap → new ≡ with_first old row known
put_first old new row known room is = is ∙ ap (λ (es : List (ℕ × Known)). lru_cache es old.cap) (put_at row.0 known old.cap old.entries (lookup_entry (nat_eq row.0) old.entries) refl room.0)

first_room : (old : LruCache ℕ Known) (row : Row) (known : Known) → HasRoom old → HasRoom (with_first old row known)
first_room old row known room =
    let long = long_take (old.cap - 1) (others old row) in
    let some = room.1 in
    (omega (arith, long, some), some)

-- after a call that put it, or found no memory
pub put_or_same : {A E P Q : Type 0} (r : Result A E) → OnOk r P → OnErr r Q → P ⊎ Q
put_or_same (Ok v) p q = inl p
put_or_same (Err e) p q = inr q

pub put_there : {A E P : Type 0} (r : Result A E) → OnOk r P → IsOk r → P
put_there (Ok v) p ok = p
put_there (Err e) p ok = absurd cc

pub kept_room : (old new : LruCache ℕ Known) (row : Row) (known : Known) → HasRoom old → (new ≡ lru_cache (put_entries nat_eq old row.0 known) old.cap) ⊎ (new ≡ old) → HasRoom new
kept_room old new row known room (inl put) = subst HasRoom (sym (put_first old new row known room put)) (first_room old row known room)
kept_room old new row known room (inr same) = subst HasRoom (sym same) room

pub kept_first : (old new : LruCache ℕ Known) (row : Row) (known : Known) → HasRoom old → (new ≡ lru_cache (put_entries nat_eq old row.0 known) old.cap) ⊎ (new ≡ old)
    → (new ≡ with_first old row known) ⊎ (new ≡ old)
kept_first old new row known room (inl put) = inl (put_first old new row known room put)
kept_first old new row known room (inr same) = inr same
