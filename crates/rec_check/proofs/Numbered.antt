-- The variables of a left side are numbered in order of first occurrence.
use Rattle.rec_check.proofs.Common.{list_any-append, [], nat_tests, ◌≡◌, ◌<◌, ◌≤◌, ℕ, ◌+◌, Bool, true, false, not, cond, List, ◌∷◌, ◌++◌, length, map, Some, None, ◌⊎◌, refl, ◌∙◌, arith, Option, sym, ap, position, length-append, option_and_then, if◌then◌else◌, list_any, bytes_eq, length-map, Node, text_of, with_name, with_names, variables_in, option_map, bytes_decides, position-Some, Item, Var, Named, count_in, count_with, Scope, all_of, item_in}
use Rattle.std.proofs.Common.{filter, append_assoc, append-nil}
use Rattle.std.proofs.lemmas.List.Filters.{length-filter_both}
use Rattle.rec_check.proofs.Heads.{place_if_any, stays_first, new_at_end, IsVariable, IsSymbol, head_cases}

-- ---- a rule has at most as many variables as its left side has nodes

one_more : (b : Bool) (names : List (List ℕ)) (n : List ℕ) → length (cond b names (names ++ n ∷ [])) ≤ length names + 1
one_more b names n = grind (arith, nat_tests, length-append)

each_once : (names ns : List (List ℕ)) → length (with_names names ns) ≤ length names + length ns
each_once names [] = omega arith
each_once names (n ∷ ns) = grind (arith, nat_tests, each_once (with_name names n) ns, one_more)

passed : {X : Type 0} (p : X → Bool) (xs : List X) → length (filter p xs) ≤ length xs
passed p xs = let both = length-filter_both p (λ x. not (p x)) (λ x. refl) xs in omega (arith, both)

pub variables_few : (text : List ℕ) (declared : List (List ℕ)) (nodes : List Node) → length nodes < 4294967296 → length (variables_in text declared nodes) < 4294967296
variables_few text declared nodes below = grind (arith, nat_tests, each_once, passed, length-map)

-- what is added of these names
abbrev more_names : List (List ℕ) → List (List ℕ) → List (List ℕ)
more_names seen [] = []
more_names seen (n ∷ ns) = if list_any (bytes_eq n) seen then more_names seen ns else n ∷ more_names (seen ++ n ∷ []) ns

-- names that were added come last
grown : (seen ns : List (List ℕ)) → with_names seen ns ≡ seen ++ more_names seen ns
grown seen [] = sym (append-nil seen)
grown seen (n ∷ ns) = grind (arith, nat_tests, grown seen ns, grown (seen ++ n ∷ []) ns, append_assoc)

module _ (text : List ℕ) (declared : List (List ℕ)) where
  abbrev is_declared : List ℕ → Bool
  is_declared name = list_any (bytes_eq name) declared

  -- names that pass are declared, and so are those added to them
  abbrev pub AreDeclared : List (List ℕ) → Type 0
  AreDeclared names = (w : List ℕ) → list_any (bytes_eq w) names ≡ true → is_declared w ≡ true

  one_declared : (seen : List (List ℕ)) (n : List ℕ) → AreDeclared seen → is_declared n ≡ true → AreDeclared (seen ++ n ∷ [])
  one_declared seen n are is w h = grind (arith, nat_tests, list_any-append (bytes_eq w) seen (n ∷ []), are w, bytes_decides w n)

  pub all_declared : (seen ns : List (List ℕ)) → AreDeclared seen → AreDeclared (with_names seen (filter is_declared ns))
  all_declared seen [] are w h = are w h
  all_declared seen (n ∷ ns) are w h = grind (arith, nat_tests, all_declared seen ns are w, all_declared (seen ++ n ∷ []) ns, one_declared seen n are)

  abbrev names_at : List Node → List (List ℕ)
  names_at nodes = map (λ n. text_of text n.head) nodes

  module _ (symbols : List Named) (vars : List (List ℕ)) (are : AreDeclared vars) where
    abbrev scope : Scope
    scope = record { text = text; symbols = symbols; variables = vars }

    abbrev place : Node → Option ℕ
    place n = position (bytes_eq (text_of text n.head)) vars

    old_variable : (x n : ℕ) → x < n → count_with (Var x) n ≡ Some n
    old_variable x n l = grind (arith, nat_tests)

    new_variable : (n : ℕ) → count_with (Var n) n ≡ Some (n + 1)
    new_variable n = grind (arith, nat_tests)

    -- the number of a declared name that occurred before
    occurred : (n : Node) (seen : List (List ℕ)) (ns : List (List ℕ)) → vars ≡ with_names seen ns → list_any (bytes_eq (text_of text n.head)) seen ≡ true
        → (x : ℕ) × (x < length seen) × (place n ≡ Some x)
    occurred n seen ns v h = by (position (bytes_eq (text_of text n.head)) seen) refl
      where
        name : List ℕ
        name = text_of text n.head

        by : (o : Option ℕ) → position (bytes_eq name) seen ≡ o → (x : ℕ) × (x < length seen) × (place n ≡ Some x)
        by None e = grind (arith, nat_tests, place_if_any (bytes_eq name) seen)
        by (Some x) e =
            (x, (position-Some (bytes_eq name) seen x [] e).0, ap (position (bytes_eq name)) (v ∙ grown seen ns) ∙ stays_first (bytes_eq name) seen (more_names seen ns) x e)

    occurs : (n : Node) (seen : List (List ℕ)) (ns : List (List ℕ)) → vars ≡ with_names (seen ++ text_of text n.head ∷ []) ns
        → list_any (bytes_eq (text_of text n.head)) seen ≡ false → place n ≡ Some (length seen)
    occurs n seen ns v h =
        let name = text_of text n.head in
        grind (arith, grown (seen ++ name ∷ []) ns, append_assoc, new_at_end (bytes_eq name) seen name (more_names (seen ++ name ∷ []) ns) h, bytes_decides)

    no_place : (n : Node) (x : ℕ) → place n ≡ Some x → is_declared (text_of text n.head) ≡ false → ⊥
    no_place n x e d = grind (arith, nat_tests, place_if_any (bytes_eq (text_of text n.head)) vars, are (text_of text n.head))

    module _ (n : Node) (nodes : List Node) (seen : List (List ℕ)) (v : vars ≡ with_names seen (filter is_declared (names_at (n ∷ nodes)))) where
      this : (b : Bool) → is_declared (text_of text n.head) ≡ b → vars ≡ with_names seen (cond b (text_of text n.head ∷ filter is_declared (names_at nodes)) (filter is_declared (names_at nodes)))
      this b d = v ∙ ap (λ (t : Bool). with_names seen (cond t (text_of text n.head ∷ filter is_declared (names_at nodes)) (filter is_declared (names_at nodes)))) d

      added : (c : Bool) → list_any (bytes_eq (text_of text n.head)) seen ≡ c → is_declared (text_of text n.head) ≡ true → vars ≡ with_names (if c then seen else seen ++ text_of text n.head ∷ []) (filter is_declared (names_at nodes))
      added c s d = this true d ∙ ap (λ (t : Bool). with_names (if t then seen else seen ++ text_of text n.head ∷ []) (filter is_declared (names_at nodes))) s

      module _ (i : Item) (more : List Item)
          (on : (before : List (List ℕ)) → vars ≡ with_names before (filter is_declared (names_at nodes)) → count_in more (length before) ≡ Some (length vars)) where
        cases : (b : Bool) → is_declared (text_of text n.head) ≡ b → (c : Bool) → list_any (bytes_eq (text_of text n.head)) seen ≡ c
            → IsVariable (place n) i ⊎ ((place n ≡ None) × IsSymbol symbols (text_of text n.head) n.count i) → count_in (i ∷ more) (length seen) ≡ Some (length vars)
        cases b d c s h = grind (arith, nat_tests, occurred, added, option_and_then, count_with, old_variable, occurs, length-append, new_variable, count_in, no_place, this)

    pub numbers : (nodes : List Node) (seen : List (List ℕ)) (items : List Item) → vars ≡ with_names seen (filter is_declared (names_at nodes))
        → all_of (λ n. item_in scope n) nodes ≡ Some items → count_in items (length seen) ≡ Some (length vars)
    numbers [] seen items v h = let e : items ≡ [] = cc in ap (λ is. count_in is (length seen)) e ∙ ap (λ ns. Some (length ns)) (sym v)
    numbers (n ∷ nodes) seen items v h =
        by (item_in scope n) (all_of (λ m. item_in scope m) nodes) refl refl (λ more r before w. numbers nodes before more w r) h
      where
        by : (o : Option Item) (all : Option (List Item)) → item_in scope n ≡ o → all_of (λ m. item_in scope m) nodes ≡ all
            → ((more : List Item) → all_of (λ m. item_in scope m) nodes ≡ Some more → (before : List (List ℕ)) → vars ≡ with_names before (filter is_declared (names_at nodes)) → count_in more (length before) ≡ Some (length vars))
            → option_and_then (λ y. option_map (λ ys. y ∷ ys) all) o ≡ Some items → count_in items (length seen) ≡ Some (length vars)
        by None all e r on h = absurd cc
        by (Some i) None e r on h = absurd cc
        by (Some i) (Some more) e r on h =
            let is : items ≡ i ∷ more = cc in
            ap (λ js. count_in js (length seen)) is
            ∙ cases n nodes seen v i more (on more r) (is_declared (text_of text n.head)) refl (list_any (bytes_eq (text_of text n.head)) seen) refl (head_cases symbols (text_of text n.head) n.count (place n) i e)

-- the variables of a left side are numbered as its scope numbers them
pub left_numbered : (text : List ℕ) (symbols : List Named) (declared : List (List ℕ)) (nodes : List Node) (items : List Item) →
    let vars = variables_in text declared nodes in
    all_of (λ n. item_in (record { text = text; symbols = symbols; variables = vars }) n) nodes ≡ Some items → count_in items 0 ≡ Some (length vars)
left_numbered text symbols declared nodes items h =
    let vars = variables_in text declared nodes in
    let none : (w : List ℕ) → list_any (bytes_eq w) [] ≡ true → list_any (bytes_eq w) declared ≡ true = λ w e. absurd cc in
    numbers text declared symbols vars (all_declared text declared [] (names_at text declared nodes) none) nodes [] items refl h
