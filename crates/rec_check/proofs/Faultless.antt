-- What a specification without offence has.
use Rattle.rec_offences.proofs.Leasts.{none_of_all}
use Rattle.rec_check.proofs.Common.{[], nat_tests, arith, ◌≡◌, ℕ, List, ◌∷◌, ◌++◌, None, refl, Name, Specification, Header, headers_of, included, Entry, own_entries, names_of, includes_from, unknown_names, repeated_names, wrong_counts, bare_variables, free_variables, not_ground, past_limits, of_kind, included_entries, offences_after}
use Rattle.faults.specs.declared.refusal.Refusal.{Refusal}
use Rattle.rec_offences.specs.Faults.{offences_over, least_with}

-- both parts of nothing are nothing
pub left_empty : {A : Type 0} (xs ys : List A) → xs ++ ys ≡ [] → xs ≡ []
left_empty [] ys h = refl
left_empty (x ∷ xs) ys h = absurd cc

pub right_empty : {A : Type 0} (xs ys : List A) → xs ++ ys ≡ [] → ys ≡ []
right_empty [] ys h = h
right_empty (x ∷ xs) ys h = absurd cc

kind_empty : (kind : ℕ) (names : List Name) → of_kind kind names ≡ [] → names ≡ []
kind_empty kind [] h = refl
kind_empty kind (n ∷ names) h = absurd cc

-- without a least one there are none
pub no_offences : (os : List Refusal) → least_with None os ≡ None → os ≡ []
no_offences os h = none_of_all os h

-- a specification after these earlier ones has no offence
module _ (bytes : List ℕ) (earlier : List Specification) (s : Specification) where
  abbrev pub headers : List Header
  headers = headers_of bytes earlier

  abbrev pub material : List ℕ
  material = included bytes headers s.includes

  abbrev pub known : List Entry
  known = included_entries earlier material

  abbrev pub entries : List Entry
  entries = known ++ own_entries s

  pub record Faultless : Type 0 where
    pub repeated_none : repeated_names bytes earlier headers (names_of known) (includes_from bytes headers [] s.includes) s ≡ []
    pub bare_none : bare_variables bytes entries s ≡ []
    pub free_none : free_variables bytes entries s ≡ []
    pub not_ground_none : not_ground bytes entries s ≡ []
    pub past_none : past_limits bytes earlier material (includes_from bytes headers [] s.includes) s ≡ []
    pub unknown_none : unknown_names bytes entries s ≡ []
    pub counts_none : wrong_counts bytes entries s ≡ []

  pub faultless : offences_after bytes earlier s ≡ [] → Faultless
  unfolding offences_over
  faultless h = grind (arith, nat_tests, left_empty, right_empty, kind_empty)
