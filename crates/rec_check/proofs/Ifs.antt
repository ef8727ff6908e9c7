-- The least of places in lists one after another.
use Rattle.rec_check.proofs.Common.{[], nat_tests, arith, rules, ◌≡◌, ℕ, ◌+◌, ◌-◌, ◌<◌, List, ◌∷◌, ◌++◌, length, drop, get_or, slice_get, Option, Some, None, refl, sym, ap, ◌∙◌, common_steps, flat_map-append, option_to_list, flat_map, at_drop_more, Parsed, Specification, rules_of, specifications_at, material_of, ifs_of, lesser, least_with, first_if}
use Rattle.rec_reader.specs.declared.syntax_tree.Rule.{Rule}

least_with-append : (found : Option ℕ) (xs ys : List ℕ) → least_with found (xs ++ ys) ≡ least_with (least_with found xs) ys
least_with-append found [] ys = refl
least_with-append found (x ∷ xs) ys = least_with-append (lesser found x) xs ys

-- one specification more
module _ (specifications : List Specification) (material : List ℕ) (i d : ℕ) (l : i < length material) (found : Option ℕ) where
  abbrev from : ℕ → Option ℕ → Option ℕ
  from j o = least_with o (ifs_of (rules_of specifications (drop j material)))

  abbrev with_one : Option Specification → Option ℕ
  with_one o = least_with found (ifs_of (flat_map (λ s. s.rules) (option_to_list o ++ specifications_at specifications (drop (i + 1) material))))

  at_one : (o : Option Specification) → o ≡ slice_get specifications (get_or material i d) → from i found ≡ with_one o
  at_one o e = at_drop_more (λ ns. least_with found (ifs_of (rules_of specifications ns))) material i d l ∙ ap with_one (sym e)

  pub past_specification : (s : Specification) (rules : List Rule) (new : Option ℕ) → Some s ≡ slice_get specifications (get_or material i d) → rules ≡ s.rules
      → new ≡ least_with found (ifs_of rules) → from (i + 1) new ≡ from i found
  past_specification s rules new e same h = grind (arith, nat_tests, common_steps, least_with-append, flat_map-append, option_to_list, at_one)

  pub past_nothing : None ≡ slice_get specifications (get_or material i d) → from (i + 1) found ≡ from i found
  past_nothing e = sym (at_one None e)

-- the rules of the last specification's material are those that are run
pub is_first : (syntax : Parsed) (specifications : List Specification) (material : List ℕ) → specifications ≡ syntax.specifications
    → material ≡ material_of syntax.bytes syntax.specifications (length syntax.specifications - 1)
    → least_with None (ifs_of (rules_of specifications material)) ≡ first_if syntax
is_first syntax specifications material s m = λ i. least_with None (ifs_of (rules_of (s i) (m i)))

-- the first of the rules of a material
pub ruleset first_ifs = (common_steps, past_specification, past_nothing, is_first)
