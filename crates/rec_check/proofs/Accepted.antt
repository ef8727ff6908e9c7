-- An input without offence is spelled.
use Rattle.rec_check.proofs.Common.{[], ◌≡◌, ℕ, ◌-◌, ◌<◌, ◌≤◌, true, List, ◌∷◌, ◌++◌, length, slice_get, Option, Some, is_some, All, refl, sym, ap, subst, ◌∙◌, arith, length-append, nat_lt, list_all, flat_map, nat_tests, append_assoc, All-nil, All-head, All-tail, All-weaker, All-push, list_all-append, flat_map-append, Named, Specification, Parsed, HasWholeTerms, Header, symbols_by, specifications_at, headers_of, offences_after, offences_from, headers_more, headers_counted, ◌>>=◌, named_in, with_symbols, Specified, terms_in, with_few_rules, last_of, spelled_in, take-append_seam}
use Rattle.symbol_pool.proofs.Places.{slice_get-append}
use Rattle.rec_includes.proofs.Brought.{material_is, slice_get_seam}
use Rattle.rec_check.specs.Spelled.{rules_of}
use Rattle.rec_check.proofs.Readable.{rules_spelled, length-rules, terms_spelled, TermReads}
use Rattle.rec_check.proofs.Faultless.{left_empty, right_empty, Faultless, faultless, material}
use Rattle.rec_check.proofs.Sound.{all_added}
use Rattle.rec_check.proofs.Entire.{Together, IsSound, together_of, sound_of, together_more, included_sound, terms_of_last, more_symbols}

-- numbers of earlier specifications mean the same where more follow
still_at : (earlier more : List Specification) (ms : List ℕ) → list_all (λ n. nat_lt n (length earlier)) ms ≡ true → specifications_at (earlier ++ more) ms ≡ specifications_at earlier ms
still_at earlier more [] h = refl
still_at earlier more (n ∷ ms) h = grind (arith, nat_tests, still_at earlier more ms, slice_get-append)

still_within : (k m : ℕ) (ms : List ℕ) → k ≤ m → list_all (λ n. nat_lt n k) ms ≡ true → list_all (λ n. nat_lt n m) ms ≡ true
still_within k m [] l h = refl
still_within k m (n ∷ ms) l h = grind (arith, nat_tests, still_within k m ms l)

module _ (bytes : List ℕ) where
  module _ (earlier : List Specification) (s : Specification) (f : Faultless bytes earlier s) (w : HasWholeTerms s) (all : All (λ h. IsSound bytes earlier h.material) (headers_of bytes earlier)) where
    abbrev now : List Specification
    now = earlier ++ s ∷ []

    inner : IsSound bytes earlier (material bytes earlier s)
    inner = included_sound bytes earlier s f w all

    kept : (h : Header) → IsSound bytes earlier h.material → IsSound bytes now h.material
    kept h x =
        let l : length earlier ≤ length now = omega (arith, length-append earlier (s ∷ [])) in
        sound_of bytes now h.material (specifications_at earlier h.material) (still_within (length earlier) (length now) h.material l x.within) (still_at earlier (s ∷ []) h.material x.within) (together_of bytes earlier h.material x)

    -- its material: what it includes, and itself
    abbrev run_material : List ℕ
    run_material = material bytes earlier s ++ length earlier ∷ []

    whole_material : specifications_at now run_material ≡ specifications_at earlier (material bytes earlier s) ++ s ∷ []
    whole_material = grind (arith, flat_map-append, still_at earlier (s ∷ []) (material bytes earlier s) inner.within, slice_get_seam earlier s (length earlier) refl)

    together : Together bytes (specifications_at earlier (material bytes earlier s) ++ s ∷ [])
    together = together_more bytes earlier s f w (together_of bytes earlier (material bytes earlier s) inner)

    own_sound : IsSound bytes now run_material
    own_sound =
        let k : length earlier < length now = omega (arith, length-append earlier (s ∷ [])) in
        let within : list_all (λ n. nat_lt n (length now)) run_material ≡ true = grind (arith, nat_tests, list_all-append, still_within (length earlier) (length now) (material bytes earlier s), inner.within) in
        sound_of bytes now run_material _ within whole_material together

    next_stands : All (λ h. IsSound bytes now h.material) (headers_of bytes now)
    next_stands =
        let P : Header → Type 0 = λ h. IsSound bytes now h.material in
        let own = subst (λ n. IsSound bytes now (material bytes earlier s ++ n ∷ [])) (sym (headers_counted bytes earlier)) own_sound in
        subst (All P) (sym (headers_more bytes earlier s)) (All-push P (headers_of bytes earlier) _ (All-weaker (λ h. IsSound bytes earlier h.material) P kept (headers_of bytes earlier) all) own)

    -- what the last specification spells
    abbrev parts : List Specification → Option Specified
    parts us =
        with_symbols [] (named_in bytes (flat_map symbols_by us)) >>= λ symbols. rules_of bytes symbols us >>= λ rules. terms_in bytes symbols s.terms >>= λ trees.
        with_few_rules (record { symbols = symbols; rules = rules; terms = trees })

    parts_spelled : is_some (parts (specifications_at earlier (material bytes earlier s) ++ s ∷ [])) ≡ true
    parts_spelled =
        let us = specifications_at earlier (material bytes earlier s) ++ s ∷ [] in
        let ds = flat_map symbols_by us in
        let symbols = named_in bytes ds in
        let few_symbols = together.few_symbols in
        let few_rules = together.few_rules in
        let a = all_added bytes [] ds together.distinct together.few (omega arith) in
        let terms : All (TermReads bytes symbols []) s.terms =
        let P : List Named → Type 0 = λ ns. All (TermReads bytes ns []) s.terms in
        subst P (ap (named_in bytes) (sym (more_symbols bytes earlier s f w))) (terms_of_last bytes earlier s f w (together_of bytes earlier (material bytes earlier s) inner)) in
        grind (arith, nat_tests, a, rules_spelled bytes symbols us together.reads, terms_spelled bytes symbols s.terms terms, length-rules bytes symbols us)

    last_spelled : is_some (spelled_in (record { bytes = bytes; specifications = now })) ≡ true
    last_spelled =
        let S : Parsed = record { bytes = bytes; specifications = now } in
        let e = length-append earlier (s ∷ []) in
        let k : length now - 1 ≡ length earlier = omega arith in
        let at : last_of now ≡ Some s = ap (slice_get now) k ∙ slice_get_seam earlier s (length earlier) refl in
        grind (arith, at, k, material_is, take-append_seam, whole_material, parts_spelled)

  accepted_from : (earlier : List Specification) (s : Specification) (ss : List Specification) → All (λ h. IsSound bytes earlier h.material) (headers_of bytes earlier) → offences_from bytes earlier (s ∷ ss) ≡ []
      → All HasWholeTerms (s ∷ ss) → is_some (spelled_in (record { bytes = bytes; specifications = earlier ++ s ∷ ss })) ≡ true
  accepted_from earlier s [] all h w =
      last_spelled earlier s (faultless bytes earlier s (left_empty (offences_after bytes earlier s) [] h)) (All-head HasWholeTerms s [] w) all
  accepted_from earlier s (t ∷ ss) all h w =
      let f = faultless bytes earlier s (left_empty (offences_after bytes earlier s) (offences_from bytes (earlier ++ s ∷ []) (t ∷ ss)) h) in
      let stands = next_stands earlier s f (All-head HasWholeTerms s (t ∷ ss) w) all in
      ap (λ specs. is_some (spelled_in (record { bytes = bytes; specifications = specs }))) (sym (append_assoc earlier (s ∷ []) (t ∷ ss)))
      ∙ accepted_from (earlier ++ s ∷ []) t ss stands (right_empty (offences_after bytes earlier s) _ h) (All-tail HasWholeTerms s (t ∷ ss) w)

  -- an input without offence, whose terms are whole
  pub accepted : (specs : List Specification) → offences_from bytes [] specs ≡ [] → All HasWholeTerms specs → is_some (spelled_in (record { bytes = bytes; specifications = specs })) ≡ true
  accepted [] h w = refl
  accepted (s ∷ ss) h w = accepted_from [] s ss (All-nil (λ h. IsSound bytes [] h.material)) h w
