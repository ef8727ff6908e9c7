-- Levels: what is at hand is cut back from one to the one before.
use Rattle.rec_includes.proofs.Gathered.{gathering}
use Rattle.rec_offences.proofs.Common.{nat_tests, ◌≡◌, ℕ, ◌+◌, ◌^◌, ◌-◌, ◌||◌, List, [], ◌∷◌, ◌++◌, length, map, min, nat_le, refl, sym, ap, ◌∙◌, arith, length-append, suc, false, reverse, nat_eq, eq-eqb, append-nil, take, drop, slice_get, Option, Some, None, rules, append_assoc, flat_map, list_any, length-map, map-append, reverse-append, take-append-drop, nil_from_length, flat_map-append, slice_get_cases, Specification, is_among, Declared, specifications_at, symbols_by, symbols_of, sorts_of, rules_of, material_of, Entry, symbol_entry, names_of, most, passes, symbol_names, included_entries, Listing, listing, Known, known, counted, extent_of, IsFront, IsOn, AreLevels, last_material, last_number, path_of, IsAtLevel, IsDeclared, option_map, option_to_list, take-append_seam, take-length, IsClosed, closed_material, included_below, number_new, cut, common_steps, Inclusion, material_is, at_one}
use Rattle.rec_offences.specs.declared.inclusion.Level.{Level}
use Rattle.indexmap.specs.IndexSet.{insert_key}

-- ---- what a material has, with what an entry adds to it

pub at_append : {A : Type 0} (f : Specification → List A) (earlier : List Specification) (ms ns : List ℕ) →
    flat_map f (specifications_at earlier (ms ++ ns)) ≡ flat_map f (specifications_at earlier ms) ++ flat_map f (specifications_at earlier ns)
at_append f earlier ms ns = grind (arith, nat_tests, flat_map-append)

pub entries_append : (earlier : List Specification) (ms ns : List ℕ) → included_entries earlier (ms ++ ns) ≡ included_entries earlier ms ++ included_entries earlier ns
entries_append earlier ms ns = grind (arith, nat_tests, at_append, map-append)

pub symbols_named : (ds : List Declared) → names_of (map symbol_entry ds) ≡ map (λ d. d.name) ds
symbols_named [] = refl
symbols_named (d ∷ ds) = ap (λ ns. d.name ∷ ns) (symbols_named ds)

pub le_counted : (n : ℕ) → nat_le (counted n) most ≡ nat_le n most
le_counted n = grind (arith, nat_tests)

module _ (bytes : List ℕ) (earlier : List Specification) (k f : List ℕ) where
  pub scope_more : (s now : Known) (new : List Entry) → s ≡ known bytes (included_entries earlier k) → now ≡ known s.bytes (s.entries ++ new) →
      new ≡ included_entries earlier f → now ≡ known bytes (included_entries earlier (k ++ f))
  scope_more s now new was is added = grind (arith, nat_tests, entries_append)

  pub rules_more : (was now : ℕ) → was ≡ counted (length (rules_of earlier k)) → now ≡ counted (was + length (rules_of earlier f)) → now ≡ counted (length (rules_of earlier (k ++ f)))
  rules_more was now before is = grind (arith, nat_tests, length-append, at_append)

  pub clashing_more : (s : Known) (new : List Entry) → s ≡ known bytes (included_entries earlier k) → new ≡ included_entries earlier f →
      list_any (is_among s.bytes (names_of s.entries)) (names_of new) ≡ list_any (is_among bytes (symbol_names earlier k)) (symbol_names earlier f)
  clashing_more s new was added =
      (λ i. list_any (is_among (was i).bytes (names_of (was i).entries)) (names_of (added i)))
      ∙ (λ i. list_any (is_among bytes (symbols_named (symbols_of earlier k) i)) (symbols_named (symbols_of earlier f) i))

  pub passing_more : (s now : Known) (a b c d : ℕ) →
      s ≡ known bytes (included_entries earlier k) → a ≡ length s.entries →
      now ≡ known bytes (included_entries earlier (k ++ f)) → b ≡ length now.entries →
      c ≡ counted (length (rules_of earlier k)) → d ≡ counted (length (rules_of earlier (k ++ f))) →
      (passes a b || passes c d) ≡ (passes (length (symbols_of earlier k)) (length (symbols_of earlier (k ++ f))) || passes (length (rules_of earlier k)) (length (rules_of earlier (k ++ f))))
  passing_more s now a b c d was la is lb cs ds = grind (arith, nat_tests, length-map, symbols_of, symbol_entry, le_counted)

-- ---- a front of a list
-- what is cut back to as much as a front has is the front
pub front_cut : {A : Type 0} (front rest : List A) (n : ℕ) → n ≡ length front → take n (front ++ rest) ≡ front
front_cut front rest n e = ap (λ k. take k (front ++ rest)) e ∙ take-append_seam front rest

pub whole_of : (front whole : List ℕ) → IsFront front whole → whole ≡ front ++ drop (length front) whole
whole_of front whole is = sym (take-append-drop (length front) whole) ∙ ap (λ ns. ns ++ drop (length front) whole) is

module _ (bytes : List ℕ) (specifications : List Specification) (front whole : List ℕ) (is : IsFront front whole) where
  entries_cut : take (length (symbols_of specifications front)) (included_entries specifications whole) ≡ included_entries specifications front
  entries_cut = grind (arith, nat_tests, whole_of front whole, entries_append specifications front, front_cut (included_entries specifications front), length-map (symbols_of specifications front) symbol_entry)

  names_cut : take (length (sorts_of specifications front)) (sorts_of specifications whole) ≡ sorts_of specifications front
  names_cut = grind (arith, nat_tests, whole_of front whole, at_append, front_cut (sorts_of specifications front))

  pub scope_cut : (was now : Known) (n : ℕ) → was ≡ known bytes (included_entries specifications whole) → now ≡ known was.bytes (take n was.entries) →
      n ≡ length (symbols_of specifications front) → now ≡ known bytes (included_entries specifications front)
  scope_cut was now n before is_now e = grind (arith, nat_tests, entries_cut)

  pub sorts_cut : (was now : Listing) (n : ℕ) → was ≡ listing bytes (sorts_of specifications whole) → now ≡ listing was.bytes (take n was.names) →
      n ≡ length (sorts_of specifications front) → now ≡ listing bytes (sorts_of specifications front)
  sorts_cut was now n before is_now e = grind (arith, nat_tests, names_cut)

-- ---- the last level
one_further : {A : Type 0} (x y : A) (ys : List A) → slice_get (x ∷ y ∷ ys) (length (x ∷ y ∷ ys) - 1) ≡ slice_get (y ∷ ys) (length (y ∷ ys) - 1)
one_further x y ys = let e : length (x ∷ y ∷ ys) - 1 ≡ suc (length (y ∷ ys) - 1) = omega arith in ap (slice_get (x ∷ y ∷ ys)) e

-- the last level stands apart
last_apart : (ls : List Level) (l : Level) → Some l ≡ slice_get ls (length ls - 1) → ls ≡ take (length ls - 1) ls ++ l ∷ []
last_apart [] l e = absurd cc
last_apart (x ∷ []) l e = grind arith
last_apart (x ∷ y ∷ ls) l e = grind (arith, nat_tests, last_apart (y ∷ ls) l (e ∙ one_further x y ls))

-- ---- the path that is cut back
-- a level that is put at the end comes first on the path
pub path_pushed : (ls : List Level) (l : Level) → path_of (ls ++ l ∷ []) ≡ l.number ∷ path_of ls
path_pushed ls l = ap reverse (map-append (λ x. x.number) ls (l ∷ [])) ∙ reverse-append (map (λ x. x.number) ls) (l.number ∷ [])

-- the path begins with the last number
path_apart : (ls : List Level) (n : ℕ) → last_number ls ≡ Some n → path_of ls ≡ n ∷ path_of (take (length ls - 1) ls)
path_apart ls n e = by (slice_get ls (length ls - 1)) refl e
  where
    by : (o : Option Level) → o ≡ slice_get ls (length ls - 1) → option_map (λ l. l.number) o ≡ Some n → path_of ls ≡ n ∷ path_of (take (length ls - 1) ls)
    by None f h = absurd cc
    by (Some l) f h =
        grind (arith, last_apart ls l f, path_pushed (take (length ls - 1) ls) l)

-- the last level is the one to which is cut back
pub cut_there : (ls : List Level) (n : ℕ) → last_number ls ≡ Some n → cut (Some n) (path_of ls) ≡ path_of ls
cut_there ls n e = grind (arith, nat_tests, path_apart, eq-eqb)

-- the last level is another one
pub cut_further : (number : Option ℕ) (ls : List Level) (n : ℕ) → last_number ls ≡ Some n → ((p : ℕ) → number ≡ Some p → nat_eq p n ≡ false) →
    cut number (path_of (take (length ls - 1) ls)) ≡ cut number (path_of ls)
cut_further None ls n e other = refl
cut_further (Some p) ls n e other = grind (arith, nat_tests, other p, path_apart ls n e)

-- no level is last where there is none
none_last : (ls : List Level) → None ≡ slice_get ls (length ls - 1) → ls ≡ []
none_last ls e = grind (arith, nat_tests, slice_get_cases ls (length ls - 1), nil_from_length ls)

-- where the last level has no number, there is none
pub no_level : (ls : List Level) → ((n : ℕ) → last_number ls ≡ Some n → ⊥) → ls ≡ []
no_level ls none = by (slice_get ls (length ls - 1)) refl none
  where
    by : (o : Option Level) → o ≡ slice_get ls (length ls - 1) → ((n : ℕ) → option_map (λ l. l.number) o ≡ Some n → ⊥) → ls ≡ []
    by None e h = none_last ls e
    by (Some l) e h = absurd (h l.number refl)

module _ (bytes : List ℕ) (specifications : List Specification) where
  pub last_pushed : (before : List ℕ) (ls : List Level) (l : Level) → last_material bytes specifications before (ls ++ l ∷ []) ≡ material_of bytes specifications l.number
  last_pushed before [] l = refl
  last_pushed before (x ∷ ls) l = last_pushed (material_of bytes specifications x.number) ls l

  pub levels_pushed : (before : List ℕ) (ls : List Level) (l : Level) → AreLevels bytes specifications before ls → IsOn bytes specifications (last_material bytes specifications before ls) l → AreLevels bytes specifications before (ls ++ l ∷ [])
  levels_pushed before [] l r on = (on, r)
  levels_pushed before (x ∷ ls) l r on = (r.0, levels_pushed (material_of bytes specifications x.number) ls l r.1 on)

  pub levels_popped : (before : List ℕ) (ls : List Level) (l : Level) → AreLevels bytes specifications before (ls ++ l ∷ []) → AreLevels bytes specifications before ls
  levels_popped before [] l r = r.1
  levels_popped before (x ∷ ls) l r = (r.0, levels_popped (material_of bytes specifications x.number) ls l r.1)

  pub last_on : (before : List ℕ) (ls : List Level) (l : Level) → AreLevels bytes specifications before (ls ++ l ∷ []) → IsOn bytes specifications (last_material bytes specifications before ls) l
  last_on before [] l r = r.0
  last_on before (x ∷ ls) l r = last_on (material_of bytes specifications x.number) ls l r.1

  -- the extent of the last level
  pub last_extent : (before : List ℕ) (ls : List Level) (l : Level) → Some l ≡ slice_get ls (length ls - 1) → AreLevels bytes specifications before ls → l.extent ≡ extent_of specifications (last_material bytes specifications before ls)
  last_extent before [] l e r = absurd cc
  last_extent before (x ∷ []) l e r = let same : l ≡ x = cc in ap (λ y. y.extent) same ∙ r.0.extent
  last_extent before (x ∷ y ∷ ls) l e r = last_extent (material_of bytes specifications x.number) (y ∷ ls) l (e ∙ one_further x y ls) r.1

  -- the material of the last level is that of its number
  pub last_is : (before : List ℕ) (ls : List Level) (l : Level) → Some l ≡ slice_get ls (length ls - 1) → last_material bytes specifications before ls ≡ material_of bytes specifications l.number
  last_is before [] l e = absurd cc
  last_is before (x ∷ []) l e = let same : x ≡ l = cc in ap (λ y. material_of bytes specifications y.number) same
  last_is before (x ∷ y ∷ ls) l e = last_is (material_of bytes specifications x.number) (y ∷ ls) l (e ∙ one_further x y ls)

  pub last_closed : (before : List ℕ) (ls : List Level) → IsClosed bytes specifications before → IsClosed bytes specifications (last_material bytes specifications before ls)
  last_closed before [] is = is
  last_closed before (x ∷ ls) is = last_closed (material_of bytes specifications x.number) ls (closed_material bytes specifications x.number)

  -- after the last level was left
  pub record Left (old new : List Level) : Type 0 where
    pub levels : AreLevels bytes specifications [] new
    pub front : IsFront (last_material bytes specifications [] new) (last_material bytes specifications [] old)

  pub left : (old new : List Level) (popped : Option Level) → old ≡ new ++ option_to_list popped → AreLevels bytes specifications [] old → Left old new
  left old new popped e r = grind (arith, nat_tests, append-nil, take-length, levels_popped, last_pushed, last_on)

-- ---- a specification becomes a level: its material is at hand once its own names are declared

module _ (bytes : List ℕ) (specifications : List Specification) (number count : ℕ) (s : Specification) (i j : Inclusion) (d : IsDeclared bytes specifications number s count i) where
  there : Some s ≡ slice_get specifications number
  there = sym d.is

  -- the material with the specification's own number
  is_material : i.material.keys ++ number ∷ [] ≡ material_of bytes specifications number
  is_material = ap (λ ns. ns ++ number ∷ []) d.material ∙ sym (material_is bytes specifications number s d.is)

  keys_are : j.material.keys ≡ insert_key nat_eq i.material.keys number → j.material.keys ≡ material_of bytes specifications number
  keys_are e = grind (arith, nat_tests, number_new number, included_below bytes specifications number, material_is bytes specifications number)

  own_symbols : map symbol_entry (symbols_by s) ≡ included_entries specifications (number ∷ [])
  own_symbols = ap (map symbol_entry) (at_one symbols_by specifications number s there)

  -- without its variables, the declared names are those of its material
  scope_is : j.scope ≡ known i.scope.bytes (take count i.scope.entries) → j.scope ≡ known bytes (included_entries specifications (material_of bytes specifications number))
  scope_is e = grind (arith, nat_tests, length-map, length-append, append_assoc, front_cut, own_symbols, entries_append, is_material)

  rules_are : j.rules ≡ min (i.rules + length s.rules) (2 ^ 64 - 1) → j.rules ≡ counted (length (rules_of specifications (material_of bytes specifications number)))
  rules_are e = grind (arith, nat_tests, rules_more, at_one, there, is_material)

  pub entered : (l : Level) → j.scope ≡ known i.scope.bytes (take count i.scope.entries) → j.sorts ≡ i.sorts →
      j.rules ≡ min (i.rules + length s.rules) (2 ^ 64 - 1) → j.material.keys ≡ insert_key nat_eq i.material.keys number →
      j.levels.items ≡ i.levels.items ++ l ∷ [] → l.number ≡ number →
      l.extent ≡ record { material = length j.material.keys; symbols = length j.scope.entries; sorts = length j.sorts.names; rules = j.rules } →
      IsAtLevel bytes specifications j
  entered l scope sorts rules keys levels numbered extent = grind (arith, nat_tests, keys_are, scope_is, at_one, there, at_append, rules_are, length-map, closed_material, levels_pushed, common_steps, is_material, whole_of, append_assoc, front_cut, last_pushed)

-- the extent of a level, and what numbers have in turn
pub ruleset extents = (common_steps, last_extent)

pub ruleset in_turn = (gathering, entries_append, at_append)
