-- What is noted of a specification is its offences.
use Rattle.rec_offences.proofs.Common.{nat_tests, ◌≡◌, ℕ, ◌<◌, List, [], ◌∷◌, map, slice_get, Option, refl, arith, length, zero, suc, take, filter, option_map, option_to_list, slice_get-map, Specification, Declared, Header, symbols_by, symbols_of, sorts_of, rules_of, brought, fresh, with_numbers, headers_of, specifications_at, symbol_entry, Entry, own_entries, Include, is_clashing, is_passing, includes_from, past_limits, include, counted, verdict_of, limits_group, Name, Verdict, included_entries, offences_declared, offences_used, common_steps, has, has_append, has_first, or_true, Below, below_append, below_with, brings_below}
use Rattle.rec_offences.specs.Grouped.{declared_group, used_group}

-- ---- what is wrong at the entries of a list of includes, and past the limits

pub clashing_entries : (bytes : List ℕ) (earlier : List Specification) (is : List Include) →
    map (λ v. v.entry) (filter (λ v. v.is_clashing) (map (verdict_of bytes earlier) is)) ≡ map (λ i. i.entry) (filter (is_clashing bytes earlier) is)
clashing_entries bytes earlier [] = refl
clashing_entries bytes earlier (i ∷ is) = grind (arith, nat_tests, clashing_entries bytes earlier is)

pub passing_entries : (bytes : List ℕ) (earlier : List Specification) (is : List Include) →
    map (λ v. v.entry) (filter (λ v. v.is_passing) (map (verdict_of bytes earlier) is)) ≡ map (λ i. i.entry) (filter (is_passing earlier) is)
passing_entries bytes earlier [] = refl
passing_entries bytes earlier (i ∷ is) = grind (arith, nat_tests, passing_entries bytes earlier is)

named : (o : Option Declared) → option_to_list (option_map (λ e. e.declared.name) (option_map symbol_entry o)) ≡ map (λ d. d.name) (option_to_list o)
named o = grind (arith, nat_tests)

module _ (bytes : List ℕ) (earlier : List Specification) (headers : List Header) (material : List ℕ) (s : Specification) where
  pub declared_is : (names : List Name) (verdicts : List Verdict) (sorts : List Name) (entries own : List Entry) →
      names ≡ map (λ h. h.name) headers → verdicts ≡ map (verdict_of bytes earlier) (includes_from bytes headers [] s.includes) →
      sorts ≡ sorts_of earlier material → entries ≡ included_entries earlier material → own ≡ own_entries s →
      declared_group bytes names verdicts sorts entries own s ≡ offences_declared bytes earlier headers material s
  unfolding declared_group
  declared_is names verdicts sorts entries own na v so en ow = grind (arith, nat_tests, clashing_entries)

  limits_are : (n m : ℕ) (verdicts : List Verdict) (symbols : List Entry) →
      n ≡ length (symbols_of earlier material) → m ≡ counted (length (rules_of earlier material)) →
      verdicts ≡ map (verdict_of bytes earlier) (includes_from bytes headers [] s.includes) → symbols ≡ map symbol_entry (symbols_by s) →
      limits_group bytes n m verdicts symbols s ≡ past_limits bytes earlier material (includes_from bytes headers [] s.includes) s
  limits_are n m verdicts symbols en em v sy = grind (arith, nat_tests, slice_get-map, named, passing_entries)

  pub used_is : (names : List Name) (n m : ℕ) (verdicts : List Verdict) (symbols entries all : List Entry) →
      names ≡ map (λ h. h.name) headers → n ≡ length (symbols_of earlier material) → m ≡ counted (length (rules_of earlier material)) →
      verdicts ≡ map (verdict_of bytes earlier) (includes_from bytes headers [] s.includes) → symbols ≡ map symbol_entry (symbols_by s) → entries ≡ all →
      used_group bytes names n m verdicts symbols entries s ≡ offences_used bytes earlier headers material all s
  unfolding used_group
  used_is names n m verdicts symbols entries all na en em v sy e =
      let limits = limits_are n m verdicts symbols en em v sy in
      rw e (rw na (rw limits refl))

-- ---- what smaller numbers stand for depends on the specifications before alone

get_early : {A : Type 0} (xs : List A) (n m : ℕ) → m < n → slice_get (take n xs) m ≡ slice_get xs m
get_early xs zero m l = absurd (omega arith)
get_early [] (suc n) m l = refl
get_early (x ∷ xs) (suc n) m l = grind (arith, get_early xs n)

below_head : (bound n : ℕ) (ns : List ℕ) → Below bound (n ∷ ns) → n < bound
below_head bound n ns b = b.each n (has_first n ns)

below_fresh : (bound : ℕ) (ks ns : List ℕ) → Below bound ks → Below bound ns → Below bound (fresh ks ns)
below_fresh bound ks ns a b = grind (arith, nat_tests, below_with bound ks ns a b, has_append ks (fresh ks ns), has ks, or_true)

module _ (bytes : List ℕ) (xs : List Specification) (n : ℕ) where
  -- the specifications with numbers below a bound stand before it
  pub at_early : (ms : List ℕ) → Below n ms → specifications_at xs ms ≡ specifications_at (take n xs) ms
  at_early [] b = refl
  at_early (m ∷ ms) b = grind (arith, nat_tests, at_early ms, get_early, below_head)

  early_verdict : (i : Include) → Below n i.before → Below n i.added → verdict_of bytes xs i ≡ verdict_of bytes (take n xs) i
  early_verdict i b a = grind (arith, nat_tests, common_steps, at_early, below_append)

  pub early_verdicts : (so_far : List ℕ) (es : List Name) → Below n so_far →
      map (verdict_of bytes xs) (includes_from bytes (headers_of bytes (take n xs)) so_far es) ≡ map (verdict_of bytes (take n xs)) (includes_from bytes (headers_of bytes (take n xs)) so_far es)
  early_verdicts so_far [] b = refl
  early_verdicts so_far (e ∷ es) b =
      let brings = brought bytes (headers_of bytes (take n xs)) e in
      grind (arith, early_verdict (include e so_far brings) b, below_fresh n so_far brings b, brings_below bytes xs n e, early_verdicts (with_numbers so_far brings) es, below_with n so_far brings b)
