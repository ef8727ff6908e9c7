-- The entries of a list of includes, one after another, while what they bring is taken in.
use Rattle.rec_offences.proofs.Common.{nat_tests, arith, ◌≡◌, ℕ, ◌||◌, Bool, true, false, List, [], ◌∷◌, ◌++◌, append_assoc, append-nil, map, take, Some, None, refl, common_steps, IsSome, list_any, take-length, Name, Specification, is_among, brought, fresh, with_numbers, headers_of, included, material_of, header_names, target, first_target, passes, include, includes_from, IsInclusion, IsPastLevel, IsFront, AreLevels, last_material, last_number, verdict_of, Verdict, Inclusion, brings_nothing, brings_material, no_numbers, gathered, material_once}
use Rattle.rec_offences.proofs.Levels.{passing_more, front_cut, last_is, whole_of}

-- ---- what is wrong at an entry that brings nothing
pub none_among : (bytes : List ℕ) (ns : List Name) → list_any (is_among bytes []) ns ≡ false
none_among bytes [] = refl
none_among bytes (n ∷ ns) = none_among bytes ns

passes_nothing : (m n k l : ℕ) → m ≡ n → k ≡ l → (passes m n || passes k l) ≡ false
passes_nothing m n k l e f = grind (arith, nat_tests)

-- a material that is kept for one entry, and what the entry adds where it brings nothing
pub verdict_on_nothing : (bytes : List ℕ) (specifications : List Specification) (entry : Name) (so_far brings : List ℕ) → brings ≡ [] →
    record { entry = entry; is_clashing = false; is_passing = false } ≡ verdict_of bytes specifications (include entry so_far brings)
verdict_on_nothing bytes specifications entry so_far brings e = grind (arith, nat_tests, append-nil, passes_nothing)

-- ---- going on from a front

module _ (bytes : List ℕ) (specifications : List Specification) (number : ℕ) where
  -- what an entry brings
  abbrev pub brings : Name → List ℕ
  brings entry = brought bytes (headers_of bytes (take number specifications)) entry

  -- what the entries bring so far is at hand
  pub record Taken (so_far : List ℕ) (i : Inclusion) : Type 0 where
    pub keys : i.material.keys ≡ so_far
    pub front : IsFront (last_material bytes specifications [] i.levels.items) i.material.keys

  -- no entry brings something yet, and what the first of the rest to do so brings is at hand
  pub record Waiting (so_far : List ℕ) (rest : List Name) (i : Inclusion) : Type 0 where
    pub none : so_far ≡ []
    pub keys : i.material.keys ≡ last_material bytes specifications [] i.levels.items
    pub first : first_target bytes (header_names specifications) number rest ≡ last_number i.levels.items
    pub level : IsSome (last_number i.levels.items)

  abbrev pub State : (is_there : Bool) (so_far : List ℕ) (rest : List Name) → Inclusion → Type 0
  State true so_far rest i = Waiting so_far rest i
  State false so_far rest i = Taken so_far i

  -- what is still to be taken in, and what is still to be judged
  pub record Along (entries rest : List Name) (is_there : Bool) (verdicts : List Verdict) (i : Inclusion) : Type 0 where
    pub so_far : List ℕ
    pub to_come : gathered bytes (headers_of bytes (take number specifications)) so_far rest ≡ included bytes (headers_of bytes (take number specifications)) entries
    pub judged : verdicts ++ map (verdict_of bytes specifications) (includes_from bytes (headers_of bytes (take number specifications)) so_far rest)
        ≡ map (verdict_of bytes specifications) (includes_from bytes (headers_of bytes (take number specifications)) [] entries)
    pub inclusion : IsInclusion bytes specifications i
    pub levels : AreLevels bytes specifications [] i.levels.items
    pub state : State is_there so_far rest i

  -- after one entry more
  pub further : (entries rest : List Name) (x : Name) (was is_there : Bool) (verdicts now : List Verdict) (v : Verdict) (i j : Inclusion) →
      (a : Along entries (x ∷ rest) was verdicts i) → now ≡ verdicts ++ v ∷ [] → v ≡ verdict_of bytes specifications (include x a.so_far (brings x)) →
      IsInclusion bytes specifications j → AreLevels bytes specifications [] j.levels.items → State is_there (with_numbers a.so_far (brings x)) rest j → Along entries rest is_there now j
  further entries rest x was is_there verdicts now v i j a pushed judged inclusion levels state = grind (arith, nat_tests, append_assoc)

  -- an entry that brings nothing
  pub past_unknown : (entries rest : List Name) (x : Name) (is_there : Bool) (verdicts now : List Verdict) (i : Inclusion) →
      (a : Along entries (x ∷ rest) is_there verdicts i) → now ≡ verdicts ++ record { entry = x; is_clashing = false; is_passing = false } ∷ [] →
      target bytes (header_names specifications) number x ≡ None → Along entries rest is_there now i
  past_unknown entries rest x is_there verdicts now i a pushed unknown = grind (arith, nat_tests, brings_nothing bytes specifications number x unknown, no_numbers, further entries rest x is_there is_there verdicts now _ i i a pushed, verdict_on_nothing bytes specifications x)

  pub past_first : (entries rest : List Name) (x : Name) (verdicts now : List Verdict) (v : Verdict) (place : ℕ) (i : Inclusion) →
      (a : Along entries (x ∷ rest) true verdicts i) → now ≡ verdicts ++ v ∷ [] →
      target bytes (header_names specifications) number x ≡ Some place →
      (fresh [] i.material.keys ≡ i.material.keys → v ≡ verdict_of bytes specifications (include x [] i.material.keys)) → Along entries rest false now i
  past_first entries rest x verdicts now v place i a pushed e judged = grind (arith, nat_tests, brings_material, last_is, brings_material bytes specifications number x place e, material_once bytes specifications place, further entries rest x true false verdicts now v i i a pushed, take-length (last_material bytes specifications [] i.levels.items))

  -- a later entry
  pub past_other : (entries rest : List Name) (x : Name) (verdicts now : List Verdict) (v : Verdict) (place : ℕ) (i j : Inclusion) →
      (a : Along entries (x ∷ rest) false verdicts i) → now ≡ verdicts ++ v ∷ [] →
      target bytes (header_names specifications) number x ≡ Some place →
      v ≡ verdict_of bytes specifications (include x i.material.keys (material_of bytes specifications place)) →
      IsInclusion bytes specifications j → j.levels ≡ i.levels → j.material.keys ≡ with_numbers i.material.keys (material_of bytes specifications place) → Along entries rest false now j
  past_other entries rest x verdicts now v place i j a pushed e judged inclusion levels keys = grind (arith, nat_tests, brings_material bytes specifications number x place e, further entries rest x false false verdicts now v i j a pushed, common_steps, whole_of, append_assoc, front_cut)

  -- at the end
  pub record Ended (entries : List Name) (verdicts : List Verdict) (i : Inclusion) : Type 0 where
    pub past : IsPastLevel bytes specifications i
    pub material : i.material.keys ≡ included bytes (headers_of bytes (take number specifications)) entries
    pub judged : verdicts ≡ map (verdict_of bytes specifications) (includes_from bytes (headers_of bytes (take number specifications)) [] entries)

-- what is wrong at the first entry
pub ruleset first_verdict = (common_steps, none_among, passing_more)
