-- The fault is the least of all offences, in whatever order the specifications come.
use Rattle.rec_offences.proofs.Common.{◌≡◌, inl, inr, ℕ, zero, suc, ◌<◌, List, [], ◌∷◌, ◌++◌, append_assoc, append-nil, length, take, slice_get, Option, Some, None, Contains, refl, sym, ap, subst, ◌∙◌, arith, filter, flat_map, option_map_or, filter-append, Contains-append_left, Contains-append_right, Contains-append_cases, Name, Specification, Parsed, Refusal, heads, is_long, names_in, names_in_declaration, names_in_variables, terms_of, least_with, of_kind, offences_after, offences_from, fault_of, long_declared, offences_at}
use Rattle.rec_offences.specs.Faults.{offences_over}
use Rattle.rec_offences.proofs.Leasts.{in_none, of_all, none_of_all, kinds_append, only_same}

-- each of one list is in another
record IsWithin (xs ys : List Refusal) : Type 0 where
  each : (p : Refusal) → Contains xs p → Contains ys p

within_itself : (xs : List Refusal) → IsWithin xs xs
within_itself xs = record { each = λ p c. c }

within_left : (xs ys zs : List Refusal) → IsWithin xs ys → IsWithin xs (ys ++ zs)
within_left xs ys zs h = record { each = λ p c. Contains-append_left ys zs p (h.each p c) }

within_right : (xs ys zs : List Refusal) → IsWithin xs zs → IsWithin xs (ys ++ zs)
within_right xs ys zs h = record { each = λ p c. Contains-append_right ys zs p (h.each p c) }

within_both : (xs ys zs : List Refusal) → IsWithin xs zs → IsWithin ys zs → IsWithin (xs ++ ys) zs
within_both xs ys zs h k = record { each = λ p c. elim (Contains-append_cases xs ys p c) [ inl a ↦ h.each p a | inr b ↦ k.each p b ] }

some_within : (xs ys : List Refusal) (x : Refusal) → IsWithin xs ys → least_with None xs ≡ Some x → least_with None ys ≡ None → Some x ≡ None
some_within xs ys x h e f = absurd (in_none x (subst (λ l. Contains l x) (none_of_all ys f) (h.each x (of_all xs x e).one)))

-- the least of the same offences is the same
least_same : (xs ys : List Refusal) → IsWithin xs ys → IsWithin ys xs → least_with None xs ≡ least_with None ys
least_same xs ys to from = by (least_with None xs) (least_with None ys) refl refl
  where
    by : (a b : Option Refusal) → least_with None xs ≡ a → least_with None ys ≡ b → a ≡ b
    by None None e f = refl
    by None (Some y) e f = sym (some_within ys xs y from f e)
    by (Some x) None e f = some_within xs ys x to e f
    by (Some x) (Some y) e f =
        let least = of_all xs x e in
        let other = of_all ys y f in
        ap Some (only_same x y (other.least x (to.each x least.one)) (least.least y (from.each y other.one)))

-- an offence of one of the numbers
in_one : (f : ℕ → List Refusal) (ns : List ℕ) (n : ℕ) → Contains ns n → (p : Refusal) → Contains (f n) p → Contains (flat_map f ns) p
in_one f [] n c p h = let l = c.1 in absurd (omega (arith, l))
in_one f (m ∷ ns) n (zero, l, e) p h = Contains-append_left (f m) (flat_map f ns) p (subst (λ k. Contains (f k) p) (sym e) h)
in_one f (m ∷ ns) n (suc i, l, e) p h = Contains-append_right (f m) (flat_map f ns) p (in_one f ns n (i, omega (arith, l), e) p h)

of_one : (f : ℕ → List Refusal) (os : List Refusal) (ns : List ℕ) → ((n : ℕ) → IsWithin (f n) os) → IsWithin (flat_map f ns) os
of_one f os [] h = record { each = λ p c. absurd (in_none p c) }
of_one f os (n ∷ ns) h = within_both (f n) (flat_map f ns) os (h n) (of_one f os ns h)

-- ---- the offences of all specifications are those of each

module _ (bytes : List ℕ) where
  -- the offences of the specification with this number, after these earlier ones
  abbrev at : (earlier ss : List Specification) → ℕ → List Refusal
  at earlier ss n = option_map_or (λ s. offences_after bytes (earlier ++ take n ss) s) (slice_get ss n) []

  at_first : (earlier ss : List Specification) (s : Specification) → at earlier (s ∷ ss) 0 ≡ offences_after bytes earlier s
  at_first earlier ss s = ap (λ e. offences_after bytes e s) (append-nil earlier)

  at_later : (earlier ss : List Specification) (s : Specification) (n : ℕ) → at (earlier ++ s ∷ []) ss n ≡ at earlier (s ∷ ss) (suc n)
  at_later earlier ss s n = ap (λ e. option_map_or (λ t. offences_after bytes e t) (slice_get ss n) []) (append_assoc earlier (s ∷ []) (take n ss))

  at_some : (earlier ss : List Specification) (p : Refusal) → Contains (offences_from bytes earlier ss) p → (n : ℕ) × (n < length ss) × Contains (at earlier ss n) p
  at_some earlier [] p c = absurd (in_none p c)
  at_some earlier (s ∷ ss) p c = elim (Contains-append_cases (offences_after bytes earlier s) (offences_from bytes (earlier ++ s ∷ []) ss) p c) [
    | inl here ↦ (0, omega arith, subst (λ os. Contains os p) (sym (at_first earlier ss s)) here)
    | inr there ↦
        let h = at_some (earlier ++ s ∷ []) ss p there in
        let l = h.1 in
        (suc h.0, omega (arith, l), subst (λ os. Contains os p) (at_later earlier ss s h.0) h.2)
  ]

  in_all : (earlier ss : List Specification) (n : ℕ) → IsWithin (at earlier ss n) (offences_from bytes earlier ss)
  in_all earlier [] n = within_itself []
  in_all earlier (s ∷ ss) zero = subst (λ os. IsWithin os (offences_from bytes earlier (s ∷ ss))) (sym (at_first earlier ss s)) (within_left _ _ _ (within_itself (offences_after bytes earlier s)))
  in_all earlier (s ∷ ss) (suc n) = subst (λ os. IsWithin os (offences_from bytes earlier (s ∷ ss))) (at_later earlier ss s n) (within_right _ _ _ (in_all (earlier ++ s ∷ []) ss n))

  -- ---- the names in declarations that are too long are offences

  abbrev long : List Name → List Refusal
  long names = of_kind 13 (filter (is_long bytes) names)

  kind_left : (os : List Refusal) (xs ys : List Name) → IsWithin os (of_kind 13 xs) → IsWithin os (of_kind 13 (xs ++ ys))
  kind_left os xs ys h = subst (IsWithin os) (sym (kinds_append 13 xs ys)) (within_left os (of_kind 13 xs) (of_kind 13 ys) h)

  long_left : (os : List Refusal) (xs ys : List Name) → IsWithin os (long xs) → IsWithin os (long (xs ++ ys))
  long_left os xs ys h = subst (λ ns. IsWithin os (of_kind 13 ns)) (sym (filter-append (is_long bytes) xs ys)) (kind_left os (filter (is_long bytes) xs) (filter (is_long bytes) ys) h)

  long_right : (xs ys : List Name) → IsWithin (long ys) (long (xs ++ ys))
  long_right xs ys =
      subst (IsWithin (long ys)) (sym (ap (of_kind 13) (filter-append (is_long bytes) xs ys) ∙ kinds_append 13 (filter (is_long bytes) xs) (filter (is_long bytes) ys)))
      (within_right (long ys) (long xs) (long ys) (within_itself (long ys)))

  long_within : (earlier : List Specification) (s : Specification) → IsWithin (long (flat_map names_in_declaration s.declarations)) (offences_after bytes earlier s)
  unfolding offences_over
  long_within earlier s =
      let before = s.name ∷ s.includes ++ s.sorts in
      let own = flat_map names_in_declaration s.declarations in
      let variables = flat_map names_in_variables s.variables in
      let named : IsWithin (long own) (long (names_in s)) =
      long_left _ (before ++ own ++ variables) (flat_map heads (flat_map terms_of s.rules ++ s.terms)) (long_left _ (before ++ own) variables (long_right before own)) in
      within_right _ _ _ (within_left _ _ _ (within_left _ _ _ (within_left _ _ _ (within_right _ _ _ (kind_left _ _ _ (kind_left _ _ _ (kind_left _ _ _ (kind_left _ _ _ (kind_left _ _ _ named)))))))))

  all_long_within : (earlier ss : List Specification) → IsWithin (long_declared bytes ss) (offences_from bytes earlier ss)
  all_long_within earlier [] = within_itself []
  all_long_within earlier (s ∷ ss) =
      within_both _ _ _ (within_left _ _ _ (long_within earlier s)) (within_right _ _ _ (all_long_within (earlier ++ s ∷ []) ss))

pub in_any_order : (syntax : Parsed) (order : List ℕ) → ((n : ℕ) → n < length syntax.specifications → Contains order n) →
    least_with None (long_declared syntax.bytes syntax.specifications ++ flat_map (offences_at syntax.bytes syntax.specifications) order) ≡ fault_of syntax
in_any_order syntax order all =
    let bytes = syntax.bytes in
    let ss = syntax.specifications in
    let f = offences_at bytes ss in
    least_same (long_declared bytes ss ++ flat_map f order) (offences_from bytes [] ss)
    (within_both (long_declared bytes ss) (flat_map f order) (offences_from bytes [] ss) (all_long_within bytes [] ss) (of_one f (offences_from bytes [] ss) order (in_all bytes [] ss)))
    (within_right _ _ _ (record { each = λ p c. let at = at_some bytes [] ss p c in in_one f order at.0 (all at.0 at.1) p at.2 }))
