-- The text of a tree of symbols has no space and no line feed, where their names have none.
use Rattle.std.proofs.Common.{◌≡◌, ℕ, zero, suc, ◌≤◌, Bool, true, false, List, [], ◌∷◌, ◌++◌, refl, sym, ap, ◌∙◌, arith, ne_eqb, ltb-true, codes}
use Rattle.std.specs.Prelude.{◌&&◌, ◌||◌, ◌==◌, not, nat_lt, slice_get, unwrap_or}
use Rattle.std.specs.Option.{option_map}
use Rattle.std.specs.Str.{bytes_eq}
use Rattle.std.proofs.lemmas.List.Folds.{list_all-append}
use Rattle.std.proofs.lemmas.Slice.Eq.{bytes_eq-Decides}
use Rattle.symbol_pool.specs.Pool.{Named}
use Rattle.term_model.specs.declared.Symbol.{Symbol}
use Rattle.term_model.specs.declared.Head.TheVariants.{App, Int, Nil, Cons}
use Rattle.term_model.specs.Tree.{Tree, Leaf, Node, Trees, End, More}
use Rattle.term_model.proofs.Order.{both_hold}
use Rattle.tree_text.specs.Text.{text_by, in_parentheses, after_commas}
use Rattle.term_text.specs.Text.{plain_name}
use Rattle.rec_check.proofs.NameBytes.{is_clear, IsClear}
use Rattle.rec_check.proofs.Clear.{ClearSymbols}
use Rattle.run_checks.specs.Form.{is_no_value}
use Rattle.run_checks.proofs.Decimals.{is_free}
use Rattle.run_checks.proofs.Narrow.{IsNarrow, is_node, are_narrow, is_narrow}

joined : (xs ys : List ℕ) → IsClear xs → IsClear ys → IsClear (xs ++ ys)
joined xs ys a b = list_all-append (λ x. nat_lt 32 x) xs ys ∙ (λ i. a i && b i)

-- ---- names, and texts of them

name_at_clear : (names : List Named) (n : ℕ) → ClearSymbols names
    → IsClear (unwrap_or (option_map (λ (s : Named). s.name) (slice_get names n)) [])
name_at_clear [] n c = refl
name_at_clear (s ∷ ss) zero c = c.0
name_at_clear (s ∷ ss) (suc n) c = name_at_clear ss n c.1

module _ (names : List Named) (clear : ClearSymbols names) (most : ℕ) where
  abbrev spell : Symbol → List ℕ
  spell = plain_name names

  mutual
    pub text_clear : (t : Tree) → IsNarrow most t → IsClear (text_by spell t)
    text_clear (Leaf x) h = refl
    text_clear (Node (App f) ts) h =
        joined (spell f) (in_parentheses spell ts) (name_at_clear names f.0 clear)
        (arguments_clear ts (both_hold (is_node most (App f) ts) (are_narrow most ts) h).1)
    text_clear (Node (Int v) ts) h = absurd cc
    text_clear (Node Nil ts) h = absurd cc
    text_clear (Node Cons ts) h = absurd cc

    arguments_clear : (ts : Trees) → are_narrow most ts ≡ true → IsClear (in_parentheses spell ts)
    arguments_clear End h = refl
    arguments_clear (More t ts) h =
        let q = both_hold (is_narrow most t) (are_narrow most ts) h in
        joined (text_by spell t ++ after_commas spell ts) (codes ")")
        (joined (text_by spell t) (after_commas spell ts) (text_clear t q.0)
        (further_clear ts q.1)) refl

    further_clear : (ts : Trees) → are_narrow most ts ≡ true → IsClear (after_commas spell ts)
    further_clear End h = refl
    further_clear (More t ts) h =
        let q = both_hold (is_narrow most t) (are_narrow most ts) h in
        joined (text_by spell t) (after_commas spell ts) (text_clear t q.0) (further_clear ts q.1)

-- ---- a clear text is a line of its own, and says no want of a value

above : (b x : ℕ) → b ≤ 32 → nat_lt 32 x ≡ true → not (x == b) ≡ true
above b x low e = let l = ltb-true 32 x e in ap not (ne_eqb x b (λ s. omega (arith, s, l, low)))

pub clear_free : (b : ℕ) → b ≤ 32 → (xs : List ℕ) → IsClear xs → is_free b xs ≡ true
clear_free b low [] e = refl
clear_free b low (x ∷ xs) e =
    let q = both_hold (nat_lt 32 x) (is_clear xs) e in
    λ i. above b x low q.0 i && clear_free b low xs q.1 i

other_text : (xs ys : List ℕ) → IsClear xs → is_clear ys ≡ false → bytes_eq xs ys ≡ false
other_text xs ys c d = by (bytes_eq xs ys) refl
  where
    by : (b : Bool) → bytes_eq xs ys ≡ b → b ≡ false
    by false e = refl
    by true e =
        let same : xs ≡ ys = (bytes_eq-Decides xs ys).0 e in
        absurd (let bad : false ≡ true = sym d ∙ ap is_clear (sym same) ∙ c in cc)

pub clear_is_value : (xs : List ℕ) → IsClear xs → is_no_value xs ≡ false
clear_is_value xs c =
    λ i. other_text xs (codes "out of fuel") c refl i ||
    (other_text xs (codes "too deep") c refl i || other_text xs (codes "too large") c refl i)
