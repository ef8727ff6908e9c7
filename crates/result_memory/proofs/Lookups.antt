-- What a look-up finds after another look-up, and after an entry was put first.
use Rattle.std.proofs.Common.{◌≡◌, ℕ, zero, suc, ◌-◌, Bool, true, false, cond, ◌⊎◌, inl, inr, List, [], ◌∷◌, take, Option, Some, None, refl, sym, ap, subst, ◌∙◌, nat_eq}
use Rattle.std.specs.Cmp.{nat_eq_equiv}
use Rattle.std.specs.Option.{option_map_or}
use Rattle.std.specs.Map.{lookup, lookup_entry, remove_entry}
use Rattle.std.proofs.lemmas.Option.{same_Some}
use Rattle.std.proofs.lemmas.Bool.{eqb-true}
use Rattle.lru.specs.LruCache.{LruCache, promoted, put_entries}
use Rattle.lru.proofs.CallerLemmas.{lookup-put_entries, Contains-lookup_entry}
use Rattle.term_model.specs.declared.Row.{Row}

other_number : (k q j : ℕ) → nat_eq q k ≡ false → nat_eq k j ≡ true → nat_eq q j ≡ false
other_number k q j ne e = subst (λ i. nat_eq q i ≡ false) (eqb-true k j e) ne

module _ {X : Type 0} where
  pub of_entry : (test : ℕ → Bool) (es : List (ℕ × X)) (e : ℕ × X) → lookup_entry test es ≡ Some e → lookup test es ≡ Some e.1
  of_entry test [] e h = cc
  of_entry test (f ∷ es) e h = by (test f.0) h (of_entry test es e)
    where
      by : (b : Bool) → cond b (Some f) (lookup_entry test es) ≡ Some e → (lookup_entry test es ≡ Some e → lookup test es ≡ Some e.1) → cond b (Some f.1) (lookup test es) ≡ Some e.1
      by true is rest = ap (λ (o : ℕ × X). Some o.1) (same_Some f e is)
      by false is rest = rest is

  -- without the entry at k
  removed_same : (k q : ℕ) (es : List (ℕ × X)) → nat_eq q k ≡ false → lookup (nat_eq q) (remove_entry (nat_eq k) es) ≡ lookup (nat_eq q) es
  removed_same k q [] ne = refl
  removed_same k q (f ∷ es) ne = by (nat_eq k f.0) refl (removed_same k q es ne)
    where
      by : (b : Bool) → nat_eq k f.0 ≡ b → lookup (nat_eq q) (remove_entry (nat_eq k) es) ≡ lookup (nat_eq q) es → lookup (nat_eq q) (cond b es (f ∷ remove_entry (nat_eq k) es)) ≡ cond (nat_eq q f.0) (Some f.1) (lookup (nat_eq q) es)
      by true is rest = sym (ap (λ b. cond b (Some f.1) (lookup (nat_eq q) es)) (other_number k q f.0 ne is))
      by false is rest = ap (cond (nat_eq q f.0) (Some f.1)) rest

  -- the entry at k goes first, with some value
  in_front : (k q : ℕ) (es : List (ℕ × X)) (e : ℕ × X) (v : X) → nat_eq q k ≡ false → lookup_entry (nat_eq k) es ≡ Some e → lookup (nat_eq q) ((e.0, v) ∷ remove_entry (nat_eq k) es) ≡ lookup (nat_eq q) es
  in_front k q es e v ne h =
      let at : nat_eq k e.0 ≡ true = (Contains-lookup_entry (nat_eq k) es e h).1 in
      ap (λ b. cond b (Some v) (lookup (nat_eq q) (remove_entry (nat_eq k) es))) (other_number k q e.0 ne at)
      ∙ removed_same k q es ne

  -- a look-up leaves all as it is
  pub promoted_same : (k q : ℕ) (es : List (ℕ × X)) → lookup (nat_eq q) (promoted (nat_eq k) es) ≡ lookup (nat_eq q) es
  promoted_same k q es = by (lookup_entry (nat_eq k) es) refl (nat_eq q k) refl
    where
      by : (o : Option (ℕ × X)) → lookup_entry (nat_eq k) es ≡ o → (b : Bool) → nat_eq q k ≡ b → lookup (nat_eq q) (option_map_or (λ e. e ∷ remove_entry (nat_eq k) es) o es) ≡ lookup (nat_eq q) es
      by None h b is = refl
      by (Some e) h false is = in_front k q es e e.1 is h
      by (Some e) h true is =
          let at : nat_eq k e.0 ≡ true = (Contains-lookup_entry (nat_eq k) es e h).1 in
          let same : q ≡ k = eqb-true q k is in
          let here : nat_eq q e.0 ≡ true = subst (λ i. nat_eq i e.0 ≡ true) (sym same) at in
          ap (λ b. cond b (Some e.1) (lookup (nat_eq q) (remove_entry (nat_eq k) es))) here
          ∙ sym (subst (λ i. lookup (nat_eq i) es ≡ Some e.1) (sym same) (of_entry (nat_eq k) es e h))

  in_taken : (test : ℕ → Bool) (n : ℕ) (es : List (ℕ × X)) (w : X) → lookup test (take n es) ≡ Some w → lookup test es ≡ Some w
  in_taken test zero es w h = cc
  in_taken test (suc n) [] w h = cc
  in_taken test (suc n) (f ∷ es) w h = by (test f.0) h (in_taken test n es w)
    where
      by : (b : Bool) → cond b (Some f.1) (lookup test (take n es)) ≡ Some w → (lookup test (take n es) ≡ Some w → lookup test es ≡ Some w) → cond b (Some f.1) (lookup test es) ≡ Some w
      by true is rest = is
      by false is rest = rest is

  -- what is found after an entry was put first was there, or is it
  pub put_finds : (c : LruCache ℕ X) (k : ℕ) (v : X) (q : ℕ) (w : X) → lookup (nat_eq q) (put_entries nat_eq c k v) ≡ Some w → (lookup (nat_eq q) c.entries ≡ Some w) ⊎ ((q ≡ k) × (w ≡ v))
  put_finds c k v q w h = by (nat_eq q k) refl (lookup_entry (nat_eq k) c.entries) refl h
    where
      by : (b : Bool) → nat_eq q k ≡ b → (o : Option (ℕ × X)) → lookup_entry (nat_eq k) c.entries ≡ o
          → lookup (nat_eq q) (option_map_or (λ e. (e.0, v) ∷ remove_entry (nat_eq k) c.entries) o ((k, v) ∷ take (c.cap - 1) c.entries)) ≡ Some w
          → (lookup (nat_eq q) c.entries ≡ Some w) ⊎ ((q ≡ k) × (w ≡ v))
      by true is o at found =
          let same : q ≡ k = eqb-true q k is in
          let there = lookup-put_entries nat_eq c k v nat_eq_equiv in
          inr (same, same_Some w v (sym h ∙ subst (λ i. lookup (nat_eq i) (put_entries nat_eq c k v) ≡ Some v) (sym same) there))
      by false is None at found =
          inl (in_taken (nat_eq q) (c.cap - 1) c.entries w (ap (λ b. cond b (Some v) (lookup (nat_eq q) (take (c.cap - 1) c.entries))) (sym is) ∙ found))
      by false is (Some e) at found = inl (sym (in_front k q c.entries e v is at) ∙ found)

-- rows with one number are one row
pub same_row : (r q : Row) → r.0 ≡ q.0 → r ≡ q
same_row r q e = λ i. record { 0 = e i }
