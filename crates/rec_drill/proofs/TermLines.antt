-- Where the terms' lines stand.
use Rattle.std.proofs.Common.{◌≡◌, ℕ, zero, suc, ◌+◌, ◌<◌, codes, List, [], ◌∷◌, ◌++◌, length, Some, sym, ap, ◌∙◌, refl, add-one, append_assoc, append-nil, length-append, inl, inr, arith}
use Rattle.std.proofs.lemmas.Bool.{cases_lt}
use Rattle.std.proofs.lemmas.List.Concat.{flat_map-append}
use Rattle.std.specs.Prelude.{slice_get}
use Rattle.std.specs.List.{flat_map}
use Rattle.rec_drill.specs.Drill.{opening_lines, ended, term_line, term_lines, drill_lines}

pub length-term_lines : (n : ℕ) → length (term_lines n) ≡ n
length-term_lines zero = refl
length-term_lines (suc n) =
    let more = length-append (term_lines n) (term_line n ∷ []) in
    let before = length-term_lines n in
    omega (arith, more, before)

pub length-opening_lines : length opening_lines ≡ 12
unfolding opening_lines
length-opening_lines = refl

pub length-drill_lines : (n : ℕ) → length (drill_lines n) ≡ 12 + n + 1
length-drill_lines n =
    let all = length-append (opening_lines ++ term_lines n) (codes "END-SPEC" ∷ []) in
    let front = length-append opening_lines (term_lines n) in
    let opening = length-opening_lines in
    let terms = length-term_lines n in
    omega (arith, all, front, opening, terms)

-- what stands at a place stands there too where more follows
pub get_front : {X : Type 0} (xs ys : List X) (i : ℕ) (x : X) → slice_get xs i ≡ Some x → slice_get (xs ++ ys) i ≡ Some x
get_front [] ys i x at = absurd (grind arith)
get_front (y ∷ xs) ys zero x at = at
get_front (y ∷ xs) ys (suc i) x at = get_front xs ys i x at

-- after a list stands what follows it
pub get_behind : {X : Type 0} (xs ys : List X) (i k : ℕ) → k ≡ length xs + i → slice_get (xs ++ ys) k ≡ slice_get ys i
get_behind [] ys i k e =
    let same : k ≡ i = omega arith in
    ap (slice_get ys) same
get_behind (x ∷ xs) ys i zero e = absurd (omega arith)
get_behind (x ∷ xs) ys i (suc k) e =
    let same : k ≡ length xs + i = omega arith in
    get_behind xs ys i k same

pub term_at : (n i : ℕ) → i < n → slice_get (term_lines n) i ≡ Some (term_line i)
term_at zero i h = absurd (omega arith)
term_at (suc n) i h =
    elim (cases_lt i n) [
      | inl below ↦ get_front (term_lines n) (term_line n ∷ []) i (term_line i) (term_at n i below)
      | inr above ↦
          let same : i ≡ n = omega arith in
          let count = length-term_lines n in
          let place : i ≡ length (term_lines n) + 0 = omega arith in
          get_behind (term_lines n) (term_line n ∷ []) 0 i place ∙ ap (λ (k : ℕ). Some (term_line k)) (sym same)
    ]

pub term_among : (n i : ℕ) → i < n → slice_get (drill_lines n) (12 + i) ≡ Some (term_line i)
term_among n i h =
    let opening = length-opening_lines in
    let place : 12 + i ≡ length opening_lines + i = omega arith in
    get_front (opening_lines ++ term_lines n) _ (12 + i) (term_line i)
    (get_behind opening_lines (term_lines n) i (12 + i) place ∙ term_at n i h)

-- one more term adds its line and a line feed
pub bytes_more : (i : ℕ) → flat_map ended (opening_lines ++ term_lines (i + 1)) ≡ flat_map ended (opening_lines ++ term_lines i) ++ ended (term_line i)
bytes_more i =
    let line : List (List ℕ) = term_line i ∷ [] in
    ap (λ (k : ℕ). flat_map ended (opening_lines ++ term_lines k)) (add-one i)
    ∙ (ap (flat_map ended) (sym (append_assoc opening_lines (term_lines i) line))
    ∙ (flat_map-append ended (opening_lines ++ term_lines i) line
    ∙ ap (λ (z : List ℕ). flat_map ended (opening_lines ++ term_lines i) ++ z) (append-nil (ended (term_line i)))))
