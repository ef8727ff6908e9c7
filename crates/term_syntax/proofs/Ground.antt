-- Terms that were read are ground, and their symbols are held.
use Rattle.std.proofs.Common.{◌≡◌, ℕ, ◌+◌, List, [], ◌∷◌, ◌++◌, length, map, refl, subst, Bool, true, false, ◌&&◌, ◌==◌, All}
use Rattle.std.proofs.lemmas.List.{take_at, drop_at}
use Rattle.std.proofs.lemmas.List.Elements.{All-head, All-tail, All-nil, All-cons, All-take, All-drop}
use Rattle.term_model.specs.Tree.{IsGround, is_ground, all_ground}
use Rattle.term_model.proofs.Order.{both}
use Rattle.symbol_pool.specs.Pool.{Named}
use Rattle.term_syntax.specs.State.{Symbol, Brackets, Part}
use Rattle.term_syntax.specs.Written.{Written, Call, Digits, Listed, Writtens, End, More, count_of}
use Rattle.term_syntax.specs.Parts.{parts_of, parts_of_all, parts_of_input}
use Rattle.term_syntax.specs.TakenUp.{tree_in, trees_in, cells_in}
use Rattle.term_syntax.specs.Items.{IsThere}
use Rattle.tree_text.specs.Text.{has_names, all_have_names, HasNames}

pub All-left : (P : Part → Type 0) (xs ys : List Part) → All P (xs ++ ys) → All P xs
All-left P xs ys h = subst (All P) (take_at xs ys (length xs) refl) (All-take P (length xs) (xs ++ ys) h)

pub All-right : (P : Part → Type 0) (xs ys : List Part) → All P (xs ++ ys) → All P ys
All-right P xs ys h = subst (All P) (drop_at xs ys (length xs) refl) (All-drop P (length xs) (xs ++ ys) h)

module _ (pool : List Named) where
  mutual
    ground : (w : Written) → is_ground (tree_in pool w) ≡ true
    ground (Call p n ws) = trees_ground ws
    ground (Digits p v) = refl
    ground (Listed p ws) = cells_ground ws

    trees_ground : (ws : Writtens) → all_ground (trees_in pool ws) ≡ true
    trees_ground End = refl
    trees_ground (More w ws) = both (is_ground (tree_in pool w)) (all_ground (trees_in pool ws)) (ground w) (trees_ground ws)

    cells_ground : (ws : Writtens) → is_ground (cells_in pool ws) ≡ true
    cells_ground End = refl
    cells_ground (More w ws) = both (is_ground (tree_in pool w)) (is_ground (cells_in pool ws) && true) (ground w) (both (is_ground (cells_in pool ws)) true (cells_ground ws) refl)

  mutual
    named_term : (b : Bool) (w : Written) → All (IsThere pool) (parts_of b w) → has_names pool (tree_in pool w) ≡ true
    named_term b (Call p n ws) h =
        let f : Part = record { place = p; over = b; kind = Symbol n; count = count_of ws } in
        both _ (all_have_names pool (trees_in pool ws)) (All-head (IsThere pool) f (parts_of_all true 0 ws) h) (named_trees true 0 ws (All-tail (IsThere pool) f (parts_of_all true 0 ws) h))
    named_term b (Digits p v) h = refl
    named_term b (Listed p ws) h =
        let f : Part = record { place = p; over = b; kind = Brackets; count = count_of ws } in
        named_cells false 0 ws (All-tail (IsThere pool) f (parts_of_all false 0 ws) h)

    named_trees : (called : Bool) (c : ℕ) (ws : Writtens) → All (IsThere pool) (parts_of_all called c ws) → all_have_names pool (trees_in pool ws) ≡ true
    named_trees called c End h = refl
    named_trees called c (More w ws) h =
        let b = called && c == 16 in
        both (has_names pool (tree_in pool w)) (all_have_names pool (trees_in pool ws))
        (named_term b w (All-left (IsThere pool) (parts_of b w) (parts_of_all called (c + 1) ws) h))
        (named_trees called (c + 1) ws (All-right (IsThere pool) (parts_of b w) (parts_of_all called (c + 1) ws) h))

    named_cells : (called : Bool) (c : ℕ) (ws : Writtens) → All (IsThere pool) (parts_of_all called c ws) → has_names pool (cells_in pool ws) ≡ true
    named_cells called c End h = refl
    named_cells called c (More w ws) h =
        let b = called && c == 16 in
        both (has_names pool (tree_in pool w)) (has_names pool (cells_in pool ws) && true)
        (named_term b w (All-left (IsThere pool) (parts_of b w) (parts_of_all called (c + 1) ws) h))
        (both (has_names pool (cells_in pool ws)) true (named_cells called (c + 1) ws (All-right (IsThere pool) (parts_of b w) (parts_of_all called (c + 1) ws) h)) refl)

  pub all_are_ground : (ws : List Written) → All IsGround (map (tree_in pool) ws)
  all_are_ground [] = All-nil IsGround
  all_are_ground (w ∷ ws) = All-cons IsGround (tree_in pool w) (map (tree_in pool) ws) (ground w) (all_are_ground ws)

  pub all_are_named : (ws : List Written) → All (IsThere pool) (parts_of_input ws) → All (HasNames pool) (map (tree_in pool) ws)
  all_are_named [] h = All-nil (HasNames pool)
  all_are_named (w ∷ ws) h =
      All-cons (HasNames pool) (tree_in pool w) (map (tree_in pool) ws)
      (named_term false w (All-left (IsThere pool) (parts_of false w) (parts_of_input ws) h))
      (all_are_named ws (All-right (IsThere pool) (parts_of false w) (parts_of_input ws) h))
