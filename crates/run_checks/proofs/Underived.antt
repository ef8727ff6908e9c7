-- The first trace that doesn't lead to its line.
use Rattle.std.proofs.Common.{◌≡◌, ℕ, ◌+◌, ◌<◌, ◌≤◌, Bool, true, false, cond, List, [], ◌∷◌, length, drop, get_or, Option, Some, None, Bor, refl, sym, ap, subst, ◌∙◌, arith}
use Rattle.symbol_pool.specs.Pool.{Named}
use Rattle.term_model.specs.Tree.{Tree, Leaf}
use Rattle.rewrite_model.specs.Rule.{Rule}
use Rattle.rec_check.specs.Spelled.{Specified}
use Rattle.run_checks.specs.Form.{trace_in, is_no_value, values_from}
use Rattle.run_checks.specs.Verdict.{leads_to, is_derived, first_underived}
use Rattle.run_checks.proofs.Values.{seen_lines, taken_at, count_taken, value_taken, no_value_taken, no_values_left}

module _ (s : Specified) (ls : List (List ℕ)) (i : ℕ) (more : List ℕ) (traces rest : List (List ℕ)) (trace : List ℕ) (is : traces ≡ trace ∷ rest) where
  pub derived_here : is_derived s ls i trace ≡ true → first_underived s ls (i ∷ more) traces ≡ first_underived s ls more rest
  derived_here e = ap (first_underived s ls (i ∷ more)) is ∙ ap (λ b. cond b (first_underived s ls more rest) (Some i)) e

  pub underived_here : is_derived s ls i trace ≡ false → first_underived s ls (i ∷ more) traces ≡ Some i
  underived_here e = ap (first_underived s ls (i ∷ more)) is ∙ ap (λ b. cond b (first_underived s ls more rest) (Some i)) e

pub no_traces_left : (s : Specified) (ls : List (List ℕ)) (is : List ℕ) (traces : List (List ℕ)) → traces ≡ [] → first_underived s ls is traces ≡ None
no_traces_left s ls is traces e = ap (first_underived s ls is) e ∙ go is
  where
    go : (is : List ℕ) → first_underived s ls is [] ≡ None
    go [] = refl
    go (i ∷ is) = refl

-- ---- one line after another

module _ (s : Specified) (taken : List (Bor (List ℕ))) (i : ℕ) (traces : List (List ℕ)) (whole : Option ℕ) (same : first_underived s (seen_lines taken) (values_from i (drop i (seen_lines taken))) traces ≡ whole) where
  abbrev ls : List (List ℕ)
  ls = seen_lines taken

  abbrev others : List ℕ
  others = values_from (i + 1) (drop (i + 1) ls)

  module _ (items : List (Bor (List ℕ))) (is_items : items ≡ taken) where
    pub no_lines_left : length items ≤ i → None ≡ whole
    no_lines_left le =
        let n = count_taken taken in
        let m = ap (λ (xs : List (Bor (List ℕ))). length xs) is_items in
        sym (ap (λ (is : List ℕ). first_underived s ls is traces) (no_values_left ls i (omega (arith, n, m, le)))) ∙ same

    module _ (d : Bor (List ℕ)) (within : i < length items) where
      lt : i < length taken
      lt = subst (λ (xs : List (Bor (List ℕ))). i < length xs) is_items within

      at : (b : Bool) → is_no_value (get_or items i d).now ≡ b → is_no_value (get_or taken i d).now ≡ b
      at b e = subst (λ (xs : List (Bor (List ℕ))). is_no_value (get_or xs i d).now ≡ b) is_items e

      pub skips : is_no_value (get_or items i d).now ≡ true → first_underived s ls others traces ≡ whole
      skips e = sym (ap (λ (is : List ℕ). first_underived s ls is traces) (no_value_taken taken i d lt (at true e))) ∙ same

      module _ (value : is_no_value (get_or items i d).now ≡ false) where
        here : first_underived s ls (i ∷ others) traces ≡ whole
        here = sym (ap (λ (is : List ℕ). first_underived s ls is traces) (value_taken taken i d lt (at false value))) ∙ same

        pub none_left : traces ≡ [] → None ≡ whole
        none_left e = sym (no_traces_left s ls (i ∷ others) traces e) ∙ here

        module _ (names : List Named) (rules : List Rule) (trace : List ℕ) (rest : List (List ℕ)) (term : Tree) (b : Bool) (names_are : names ≡ s.symbols) (rules_are : rules ≡ s.rules) (term_is : term ≡ get_or s.terms i (Leaf 0)) (next : traces ≡ trace ∷ rest) (told : b ≡ leads_to names rules (trace_in i trace) term (get_or items i d).now) where
          line : (get_or items i d).now ≡ get_or ls i []
          line = ap (λ (xs : List (Bor (List ℕ))). (get_or xs i d).now) is_items ∙ taken_at taken i d lt

          derived : is_derived s ls i trace ≡ b
          derived = sym (told ∙ (λ k. leads_to (names_are k) (rules_are k) (trace_in i trace) (term_is k) (line k)))

          pub goes_on : b ≡ true → first_underived s ls others rest ≡ whole
          goes_on e = sym (derived_here s ls i others traces rest trace next (derived ∙ e)) ∙ here

          pub stops_here : b ≡ false → Some i ≡ whole
          stops_here e = sym (underived_here s ls i others traces rest trace next (derived ∙ e)) ∙ here
