-- The first line feed of some bytes, a number after `spec `, and so many bytes before a line feed.
use Rattle.std.proofs.Common.{◌≡◌, ◌≢◌, ℕ, suc, ◌+◌, ◌-◌, ◌<◌, ◌≤◌, ◌^◌, Bool, true, false, cond, List, [], ◌∷◌, ◌++◌, length, take, drop, get_or, Option, Some, None, Bor, refl, sym, ap, ◌∙◌, arith, ne_eqb, eq-eqb}
use Rattle.std.specs.Prelude.{◌==◌, MatchOption, unwrap_or}
use Rattle.std.specs.Option.{option_map}
use Rattle.std.proofs.lemmas.List.{take_all, length-drop}
use Rattle.std.proofs.lemmas.Option.{slice_get-get_or, slice_get_past}
use Rattle.log_check.specs.Words.{Lacks, capped}
use Rattle.run_checks.specs.Parts.{at_line_feed, cut_at}

lacks_head : (x : ℕ) (xs : List ℕ) → Lacks 10 (x ∷ xs) → x ≢ 10
lacks_head x xs l = l 0 (omega arith)

lacks_rest : (x : ℕ) (xs : List ℕ) → Lacks 10 (x ∷ xs) → Lacks 10 xs
lacks_rest x xs l = λ k h. l (suc k) (omega arith)

no_feed : (xs : List ℕ) → Lacks 10 xs → at_line_feed xs ≡ None
no_feed [] l = refl
no_feed (x ∷ xs) l =
    ap (λ b. cond b (Some ([], xs)) (option_map (λ p. (x ∷ p.0, p.1)) (at_line_feed xs))) (ne_eqb x 10 (lacks_head x xs l))
    ∙ ap (option_map (λ p. (x ∷ p.0, p.1))) (no_feed xs (lacks_rest x xs l))

first_feed : (xs ys : List ℕ) → Lacks 10 xs → at_line_feed (xs ++ 10 ∷ ys) ≡ Some (xs, ys)
first_feed [] ys l = ap (λ b. cond b (Some ([], ys)) (option_map (λ p. (10 ∷ p.0, p.1)) (at_line_feed ys))) (eq-eqb 10 10 refl)
first_feed (x ∷ xs) ys l =
    ap (λ b. cond b (Some ([], xs ++ 10 ∷ ys)) (option_map (λ p. (x ∷ p.0, p.1)) (at_line_feed (xs ++ 10 ∷ ys)))) (ne_eqb x 10 (lacks_head x xs l))
    ∙ ap (option_map (λ p. (x ∷ p.0, p.1))) (first_feed xs ys (lacks_rest x xs l))

abbrev pub Split : Type 0
Split = Bor (List ℕ) × Bor (List ℕ)

pub at_feed : (bytes : List ℕ) (r : Option Split) → MatchOption r (Lacks 10 bytes) (λ p. Lacks 10 p.0.now × (bytes ≡ p.0.now ++ 10 ∷ p.1.now)) → option_map (λ (p : Split). (p.0.now, p.1.now)) r ≡ at_line_feed bytes
at_feed bytes None m = sym (no_feed bytes m)
at_feed bytes (Some p) m = sym (ap at_line_feed m.1 ∙ first_feed p.0.now p.1.now m.0)

-- ---- so many bytes before a line feed

fits : (size n : ℕ) → size ≡ capped n → size < 2 ^ 64 → size ≡ n
fits size n e lt = grind (arith, e, lt)

past : (size n l : ℕ) → size ≡ capped n → l ≤ size → l ≤ n
past size n l e le = grind (arith, e, le)

pub cut_past : (size n : ℕ) (bytes : List ℕ) → size ≡ capped n → length bytes ≤ size → cut_at n bytes ≡ None
cut_past size n bytes e le =
    ap (λ (o : Option ℕ). cond (unwrap_or o 0 == 10) (Some (take n bytes, drop (n + 1) bytes)) None) (slice_get_past bytes n (past size n (length bytes) e le))

module _ (size n x d : ℕ) (bytes : List ℕ) (e : size ≡ capped n) (lt : size < length bytes) (few : length bytes < 2 ^ 64) (at : x ≡ get_or bytes size d) where
  is : size ≡ n
  is = fits size n e (omega (arith, lt, few))

  by : (c : Bool) → (x == 10) ≡ c → cut_at n bytes ≡ cond c (Some (take size bytes, drop (size + 1) bytes)) None
  by c t =
      ap (λ m. cut_at m bytes) (sym is)
      ∙ ap (λ (o : Option ℕ). cond (unwrap_or o 0 == 10) (Some (take size bytes, drop (size + 1) bytes)) None) (slice_get-get_or bytes size d lt)
      ∙ ap (λ b. cond b (Some (take size bytes, drop (size + 1) bytes)) None) (ap (λ y. y == 10) (sym at) ∙ t)

  pub cut_here : x ≡ 10 → cut_at n bytes ≡ Some (take size bytes, drop (size + 1) bytes)
  cut_here t = by true (eq-eqb x 10 t)

  pub no_feed_here : x ≢ 10 → cut_at n bytes ≡ None
  no_feed_here t = by false (ne_eqb x 10 t)

  -- the rest of the bytes is whole
  pub found_here : x ≡ 10 → Some (take size bytes, take (length bytes - (size + 1)) (drop (size + 1) bytes)) ≡ cut_at n bytes
  found_here t =
      let l = length-drop (size + 1) bytes in
      ap (λ (ys : List ℕ). Some (take size bytes, ys)) (take_all (length bytes - (size + 1)) (drop (size + 1) bytes) (omega (arith, l))) ∙ sym (cut_here t)
