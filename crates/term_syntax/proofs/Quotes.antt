-- A name in quotes stands in the text as it is written.
use Rattle.std.proofs.Common.{◌≡◌, ◌≤◌, ◌<◌, ◌∙◌, ℕ, suc, ◌+◌, ◌-◌, List, [], ◌∷◌, ◌++◌, take, Bool, true, false, ◌||◌, cond, refl, ap, sym, arith, Result, Ok, Err, eqb}
use Rattle.std.specs.Prelude.{if◌then◌else◌}
use Rattle.std.proofs.lemmas.Bool.{eqb-true}
use Rattle.faults.specs.declared.refusal.Refusal.{Refusal}
use Rattle.tree_text.specs.NameBytes.{is_printable}
use Rattle.tree_text.specs.Canonical.{escaped}
use Rattle.term_syntax.specs.Tokens.{quoted, by_role, with_byte}
use Rattle.term_syntax.specs.declared.scanner.Role.TheVariants.{Closes, Escapes, Stands, Bad}

-- the bytes of a name in quotes, behind a backslash or not
abbrev pub behind_slash : Bool → List ℕ → List ℕ
behind_slash true xs = 92 ∷ xs
behind_slash false xs = xs

pub record IsQuoted (at : ℕ) (behind : Bool) (bs name : List ℕ) (end : ℕ) : Type 0 where
  pub after : at < end
  pub is : behind_slash behind (take (end - at) bs) ≡ escaped name ++ 34 ∷ []

pub one_byte : (at end b : ℕ) (bs : List ℕ) → at + 1 ≤ end → take (end - at) (b ∷ bs) ≡ b ∷ take (end - (at + 1)) bs
one_byte at end b bs h =
    let n : end - at ≡ suc (end - (at + 1)) = omega arith in
    ap (λ k. take k (b ∷ bs)) n

stands_in : (b : ℕ) (bs : List ℕ) (r : Result (List ℕ × ℕ) Refusal) (name : List ℕ) (end : ℕ) → with_byte b r ≡ Ok (name, end) → (rest : List ℕ) × (r ≡ Ok (rest, end)) × (name ≡ b ∷ rest)
stands_in b bs (Ok q) name end e =
    let pair : (b ∷ q.0, q.1) ≡ (name, end) = cc in
    let n : b ∷ q.0 ≡ name = ap (λ (p : List ℕ × ℕ). p.0) pair in
    let m : q.1 ≡ end = ap (λ (p : List ℕ × ℕ). p.1) pair in
    (q.0, ap (λ k. Ok (q.0, k)) m, sym n)
stands_in b bs (Err f) name end e = absurd cc

pub quoted_cut : (bs : List ℕ) (at : ℕ) (behind : Bool) (name : List ℕ) (end : ℕ) → quoted at behind bs ≡ Ok (name, end) → IsQuoted at behind bs name end
quoted_cut [] at behind name end e = absurd cc
quoted_cut (b ∷ bs) at true name end e = by (eqb b 34 || eqb b 92) refl e (λ n k. quoted_cut bs (at + 1) false n k)
  where
    by : (t : Bool) → (eqb b 34 || eqb b 92) ≡ t → by_role (if t then Stands else Bad) at b (λ next. quoted (at + 1) next bs) ≡ Ok (name, end) → ((n : List ℕ) (k : ℕ) → quoted (at + 1) false bs ≡ Ok (n, k) → IsQuoted (at + 1) false bs n k) → IsQuoted at true (b ∷ bs) name end
    by false f e more = absurd cc
    by true f e more =
        let s = stands_in b bs (quoted (at + 1) false bs) name end e in
        let q = more s.0 end s.1 in
        let after = q.after in
        let is : escaped (b ∷ s.0) ≡ 92 ∷ b ∷ escaped s.0 = ap (λ t. cond t (92 ∷ b ∷ escaped s.0) (b ∷ escaped s.0)) f in
        record {
          after = omega (arith, after);
          is = ap (λ xs. 92 ∷ xs) (one_byte at end b bs (omega (arith, after)) ∙ ap (λ xs. b ∷ xs) q.is) ∙ sym (ap (λ xs. escaped xs ++ 34 ∷ []) s.2 ∙ ap (λ xs. xs ++ 34 ∷ []) is);
        }
quoted_cut (b ∷ bs) at false name end e = by (eqb b 34) refl (eqb b 92) refl (is_printable b) refl e (λ n k. quoted_cut bs (at + 1) false n k) (λ n k. quoted_cut bs (at + 1) true n k)
  where
    by : (q : Bool) → eqb b 34 ≡ q → (s : Bool) → eqb b 92 ≡ s → (p : Bool) → is_printable b ≡ p →
        by_role (if q then Closes else (if s then Escapes else (if p then Stands else Bad))) at b (λ next. quoted (at + 1) next bs) ≡ Ok (name, end) →
        ((n : List ℕ) (k : ℕ) → quoted (at + 1) false bs ≡ Ok (n, k) → IsQuoted (at + 1) false bs n k) → ((n : List ℕ) (k : ℕ) → quoted (at + 1) true bs ≡ Ok (n, k) → IsQuoted (at + 1) true bs n k) → IsQuoted at false (b ∷ bs) name end
    by true f s g p i e more behind =
        let pair : ([], at + 1) ≡ (name, end) = cc in
        let n : [] ≡ name = ap (λ (p : List ℕ × ℕ). p.0) pair in
        let m : at + 1 ≡ end = ap (λ (p : List ℕ × ℕ). p.1) pair in
        let one : end - at ≡ 1 = omega (arith, m) in
        record {
          after = omega (arith, m);
          is = ap (λ k. take k (b ∷ bs)) one ∙ ap (λ c. c ∷ []) (eqb-true b 34 f) ∙ ap (λ xs. escaped xs ++ 34 ∷ []) n;
        }
    by false f true g p i e more behind =
        let q = behind name end e in
        let after = q.after in
        record {
          after = omega (arith, after);
          is = one_byte at end b bs (omega (arith, after)) ∙ ap (λ c. c ∷ take (end - (at + 1)) bs) (eqb-true b 92 g) ∙ q.is;
        }
    by false f false g true i e more behind =
        let s = stands_in b bs (quoted (at + 1) false bs) name end e in
        let q = more s.0 end s.1 in
        let after = q.after in
        let no : (eqb b 34 || eqb b 92) ≡ false = λ k. f k || g k in
        let is : escaped (b ∷ s.0) ≡ b ∷ escaped s.0 = ap (λ t. cond t (92 ∷ b ∷ escaped s.0) (b ∷ escaped s.0)) no in
        record {
          after = omega (arith, after);
          is = one_byte at end b bs (omega (arith, after)) ∙ ap (λ xs. b ∷ xs) q.is ∙ sym (ap (λ xs. escaped xs ++ 34 ∷ []) s.2 ∙ ap (λ xs. xs ++ 34 ∷ []) is);
        }
    by false f false g false i e more behind = absurd cc
