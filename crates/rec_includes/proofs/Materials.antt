-- The numbers of a material: how large they are, and that none stands twice.
use Rattle.std.proofs.lemmas.Option.{slice_get_past}
use Rattle.rec_includes.proofs.Common.{nat_tests, ◌≡◌, ℕ, zero, suc, ◌<◌, true, ◌||◌, List, [], ◌∷◌, ◌++◌, fold, take, slice_get, Option, Some, None, refl, sym, subst, ◌∙◌, arith, eqb-true, Name, Specification, Header, brought, included, with_numbers, headers_of, material_of, header_names, target, IsClosed, common_steps}
use Rattle.rec_includes.proofs.Fresh.{has, with_number, has_append, has_with, no_numbers, with_append, with_with, has_one, Within, none_fresh, within_fresh, first_number, has_added, has_before}
use Rattle.rec_includes.proofs.Brought.{target_before, brings_nothing, brings_material, material_is, no_material}

-- ---- how large numbers are

-- each of these numbers is below the bound
pub record Below (bound : ℕ) (ns : List ℕ) : Type 0 where
  pub each : (j : ℕ) → has ns j ≡ true → j < bound

-- no numbers are below any bound
pub below_none : (bound : ℕ) → Below bound []
below_none bound = record { each = λ j h. absurd cc }

either_below : (bound : ℕ) (ks ns : List ℕ) → Below bound ks → Below bound ns → (j : ℕ) → (has ks j || has ns j) ≡ true → j < bound
either_below bound ks ns v w j h = grind arith

-- two lists, one after the other
pub below_append : (bound : ℕ) (ks ns : List ℕ) → Below bound ks → Below bound ns → Below bound (ks ++ ns)
below_append bound ks ns v w = record { each = λ j h. either_below bound ks ns v w j (sym (has_append ks ns j) ∙ h) }

-- numbers that are added to others
pub below_with : (bound : ℕ) (ks ns : List ℕ) → Below bound ks → Below bound ns → Below bound (with_numbers ks ns)
below_with bound ks ns v w = record { each = λ j h. either_below bound ks ns v w j (sym (has_with ks ns j) ∙ h) }

-- what entries bring, added to numbers one entry after another
abbrev pub gathered : List ℕ → List Header → List ℕ → List Name → List ℕ
gathered bytes headers numbers entries = fold (λ k e. with_numbers k (brought bytes headers e)) numbers entries

-- what is gathered where each entry brings numbers below the bound
pub below_gathered : (bound : ℕ) (bytes : List ℕ) (hs : List Header) → ((e : Name) → Below bound (brought bytes hs e)) →
    (es : List Name) (ks : List ℕ) → Below bound ks → Below bound (gathered bytes hs ks es)
below_gathered bound bytes hs each [] ks w = w
below_gathered bound bytes hs each (e ∷ es) ks w = below_gathered bound bytes hs each es (with_numbers ks (brought bytes hs e)) (below_with bound ks (brought bytes hs e) w (each e))

module _ (bytes : List ℕ) (xs : List Specification) where
  brings_below_from : (n : ℕ) → ((p : ℕ) → p < n → Below (suc p) (material_of bytes xs p)) → (e : Name) → Below n (brought bytes (headers_of bytes (take n xs)) e)
  brings_below_from n each e = by (target bytes (header_names xs) n e) refl
    where
      by : (o : Option ℕ) → target bytes (header_names xs) n e ≡ o → Below n (brought bytes (headers_of bytes (take n xs)) e)
      by None t = grind (arith, brings_nothing bytes xs n e t, below_none n)
      by (Some p) t = grind (arith, target_before bytes xs n e p t, brings_material bytes xs n e p t, each p)

  material_below_from : (fuel n : ℕ) → n < fuel → Below (suc n) (material_of bytes xs n)
  material_below_from zero n l = absurd (omega arith)
  material_below_from (suc fuel) n l = grind (arith, nat_tests, material_below_from fuel, no_material bytes, below_none (suc n), below_none n, material_is bytes, below_append (suc n), below_gathered n bytes, brings_below_from n)

  -- no number of a specification's material is above its own
  pub material_below : (n : ℕ) → Below (suc n) (material_of bytes xs n)
  material_below n = material_below_from (suc n) n (omega arith)

  -- what an entry brings is below the number of the specification with the entry
  pub brings_below : (n : ℕ) (e : Name) → Below n (brought bytes (headers_of bytes (take n xs)) e)
  brings_below n e = brings_below_from n (λ p l. material_below p) e

  -- what entries bring is below the number of the specification with the entries
  pub included_below : (n : ℕ) (es : List Name) → Below n (included bytes (headers_of bytes (take n xs)) es)
  included_below n es = below_gathered n bytes (headers_of bytes (take n xs)) (brings_below n) es [] (below_none n)

-- ---- none stands twice

-- what was gathered is added as if it were gathered anew
pub with_gathered : (bytes : List ℕ) (hs : List Header) (m : List ℕ) (es : List Name) (ks : List ℕ) → with_numbers m (gathered bytes hs ks es) ≡ gathered bytes hs (with_numbers m ks) es
with_gathered bytes hs m [] ks = refl
with_gathered bytes hs m (e ∷ es) ks = grind (arith, with_gathered bytes hs m es (with_numbers ks (brought bytes hs e)), with_with)

-- a number is new to smaller ones
pub number_new : (n : ℕ) (ns : List ℕ) → Below n ns → with_number ns n ≡ ns ++ n ∷ []
number_new n ns w = grind arith

module _ (bytes : List ℕ) (xs : List Specification) where
  -- the material of a specification: its number is added to what its entries bring
  pub material_last : (n : ℕ) (s : Specification) → slice_get xs n ≡ Some s → material_of bytes xs n ≡ with_number (included bytes (headers_of bytes (take n xs)) s.includes) n
  material_last n s e = search (arith, material_is, number_new, included_below)

  -- a material is added by what its entries bring, and then its number
  pub with_material : (m : List ℕ) (n : ℕ) (s : Specification) → slice_get xs n ≡ Some s →
      with_numbers m (material_of bytes xs n) ≡ with_number (gathered bytes (headers_of bytes (take n xs)) m s.includes) n
  with_material m n s e = grind (arith, material_is, with_append, first_number, no_numbers, with_gathered)

  -- a material has no number twice
  pub material_once : (n : ℕ) → with_numbers [] (material_of bytes xs n) ≡ material_of bytes xs n
  material_once n = grind (arith, nat_tests, no_material bytes xs n, with_material [] n, material_last n)

-- ---- materials that have all of the material of each specification that they have

module _ (bytes : List ℕ) (xs : List Specification) where
  -- no material at all is closed
  pub closed_none : IsClosed bytes xs []
  closed_none = record { whole = λ n h. absurd cc }

  -- two closed materials together
  pub closed_both : (a b : List ℕ) → IsClosed bytes xs a → IsClosed bytes xs b → IsClosed bytes xs (with_numbers a b)
  closed_both a b c d = grind (arith, nat_tests, none_fresh, material_of, has a, has b, has_with a b, has_before, within_fresh, has_added)

  -- a closed material and one specification more, all of whose material is there
  pub closed_one : (m : List ℕ) (n : ℕ) → IsClosed bytes xs m → Within (material_of bytes xs n) (with_number m n) → IsClosed bytes xs (with_number m n)
  closed_one m n c w = grind (arith, nat_tests, none_fresh, material_of, with_number m n, has m, has_one m n, has_before, within_fresh, first_number, no_numbers, eqb-true)

  -- what is gathered where each entry brings what is closed
  pub closed_gathered : (hs : List Header) → ((e : Name) → IsClosed bytes xs (brought bytes hs e)) → (es : List Name) (ks : List ℕ) → IsClosed bytes xs ks → IsClosed bytes xs (gathered bytes hs ks es)
  closed_gathered hs each [] ks c = c
  closed_gathered hs each (e ∷ es) ks c = closed_gathered hs each es (with_numbers ks (brought bytes hs e)) (closed_both ks (brought bytes hs e) c (each e))

  closed_brings_from : (n : ℕ) → ((p : ℕ) → p < n → IsClosed bytes xs (material_of bytes xs p)) → (e : Name) → IsClosed bytes xs (brought bytes (headers_of bytes (take n xs)) e)
  closed_brings_from n each e = by (target bytes (header_names xs) n e) refl
    where
      by : (o : Option ℕ) → target bytes (header_names xs) n e ≡ o → IsClosed bytes xs (brought bytes (headers_of bytes (take n xs)) e)
      by None t = subst (IsClosed bytes xs) (sym (brings_nothing bytes xs n e t)) closed_none
      by (Some p) t =
          let l = target_before bytes xs n e p t in
          subst (IsClosed bytes xs) (sym (brings_material bytes xs n e p t)) (each p l.0)

  closed_material_from : (fuel n : ℕ) → n < fuel → IsClosed bytes xs (material_of bytes xs n)
  closed_material_from zero n l = absurd (omega arith)
  closed_material_from (suc fuel) n l = grind (arith, nat_tests, closed_material_from fuel, no_material bytes, closed_none, with_number, material_last bytes, closed_one, closed_gathered, closed_brings_from n)

  -- the material of each specification is closed
  pub closed_material : (n : ℕ) → IsClosed bytes xs (material_of bytes xs n)
  closed_material n = closed_material_from (suc n) n (omega arith)

-- what gives a material
pub ruleset materials = (common_steps, slice_get_past, no_material, material_once)
