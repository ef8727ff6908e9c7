-- One line after another.
use Rattle.std.proofs.Common.{◌≡◌, ℕ, ◌+◌, ◌≤◌, List, ◌∷◌, ◌++◌, Bool, true, false, ◌&&◌, ◌||◌, refl, sym, ap, ap₂, ◌∙◌, arith, append_assoc, codes, drop, get_or, length, ◌<◌, suc}
use Rattle.std.specs.Prelude.{Option, Some, None, unwrap_or, is_some, not, nat_lt, if◌then◌else◌}
use Rattle.std.proofs.Math.Seq.{drop-cons}
use Rattle.term_model.specs.Tree.{Tree, nodes}
use Rattle.symbol_pool.specs.Pool.{Named}
use Rattle.tree_text.specs.Canonical.{canonical}
use Rattle.term_commands.specs.Unpacking.{lines, all_written}
use Rattle.term_commands.specs.WritingLines.{WritesLine}

no_more : (n : ℕ) → n + 0 ≡ n
no_more n = omega arith

second : (a b : Bool) → (a || b) ≡ false → b ≡ false
second true b h = cc
second false b h = h

module _ (names : List Named) (t : Tree) (rest : List Tree) (written : ℕ) (old new : List ℕ) where
  abbrev Then : Option ℕ → ℕ
  Then line = written + unwrap_or line 0

  pub line_more : (line : Option ℕ) → WritesLine names t written old new line → new ++ lines (Then line) names rest ≡ old ++ lines written names (t ∷ rest)
  line_more (Some n) h =
      let c = canonical names t in
      let nl : List ℕ = codes "\n" in
      let more = lines (written + nodes t) names rest in
      ap₂ (λ x m. x ++ lines (written + m) names rest) h.2 h.1
      ∙ (append_assoc (old ++ c) nl more ∙ append_assoc old c (nl ++ more) ∙ ap (λ x. old ++ x) (sym (append_assoc c nl more)))
      ∙ sym (ap (λ (b : Bool). old ++ (if b then codes "too large\n" ++ lines written names rest else c ++ nl ++ more)) h.0)
  line_more None h =
      let more = lines written names rest in
      ap₂ (λ x m. x ++ lines m names rest) h.1 (no_more written)
      ∙ append_assoc old (codes "too large\n") more
      ∙ sym (ap (λ (b : Bool). old ++ (if b then codes "too large\n" ++ more else canonical names t ++ codes "\n" ++ lines (written + nodes t) names rest)) h.0)

  pub whole_more : (line : Option ℕ) → WritesLine names t written old new line → (is_some line && all_written (Then line) rest) ≡ all_written written (t ∷ rest)
  whole_more (Some n) h =
      ap (λ m. all_written (written + m) rest) h.1
      ∙ sym (ap (λ b. not b && all_written (written + nodes t) rest) h.0)
  whole_more None h = sym (ap (λ b. not b && all_written (written + nodes t) rest) h.0)

  pub within_more : (line : Option ℕ) → written ≤ 16777216 → WritesLine names t written old new line → Then line ≤ 16777216
  within_more (Some n) few h =
      let test = second (nat_lt 1048576 (nodes t)) (nat_lt 16777216 (written + nodes t)) h.0 in
      let small : written + nodes t ≤ 16777216 = grind (arith, test) in
      let same = h.1 in
      omega (arith, small, same)
  within_more None few h = omega (arith, few)

and_assoc : (a b c : Bool) → ((a && b) && c) ≡ (a && (b && c))
and_assoc true b c = refl
and_assoc false b c = refl

-- ---- what is left of a list of terms
pub text_goes_on : (names : List Named) (trees : List Tree) (d : Tree) (k written : ℕ) (old new all : List ℕ) (line : Option ℕ) → k < length trees → old ++ lines written names (drop k trees) ≡ all
    → WritesLine names (get_or trees k d) written old new line → new ++ lines (written + unwrap_or line 0) names (drop (k + 1) trees) ≡ all
text_goes_on names trees d k written old new all line below so h =
    let more : suc k ≡ k + 1 = omega arith in
    let cons : drop k trees ≡ get_or trees k d ∷ drop (k + 1) trees = drop-cons trees k d below ∙ ap (λ j. get_or trees k d ∷ drop j trees) more in
    line_more names (get_or trees k d) (drop (k + 1) trees) written old new line h ∙ ap (λ ts. old ++ lines written names ts) (sym cons) ∙ so

pub whole_goes_on : (names : List Named) (trees : List Tree) (d : Tree) (k written : ℕ) (old new : List ℕ) (whole all : Bool) (line : Option ℕ) → k < length trees → (whole && all_written written (drop k trees)) ≡ all
    → WritesLine names (get_or trees k d) written old new line → ((whole && is_some line) && all_written (written + unwrap_or line 0) (drop (k + 1) trees)) ≡ all
whole_goes_on names trees d k written old new whole all line below so h =
    let more : suc k ≡ k + 1 = omega arith in
    let cons : drop k trees ≡ get_or trees k d ∷ drop (k + 1) trees = drop-cons trees k d below ∙ ap (λ j. get_or trees k d ∷ drop j trees) more in
    and_assoc whole (is_some line) (all_written (written + unwrap_or line 0) (drop (k + 1) trees))
    ∙ ap (λ b. whole && b) (whole_more names (get_or trees k d) (drop (k + 1) trees) written old new line h)
    ∙ ap (λ ts. whole && all_written written ts) (sym cons)
    ∙ so
