-- The items of a term, written from the last to the first, are its text.
use Rattle.std.proofs.Common.{◌≡◌, ◌<◌, ◌∙◌, ℕ, suc, ◌+◌, ◌-◌, List, [], ◌∷◌, ◌++◌, reverse, refl, ap, sym, arith, append_assoc, append-nil, true, ◌&&◌, codes, Option, Some, None, length, take, get_or, All}
use Rattle.std.proofs.lemmas.List.{reverse-append, take_more}
use Rattle.std.proofs.lemmas.List.Elements.{All-nil, All-cons, All-push, All-append}
use Rattle.std.proofs.lemmas.Bool.{ltb-true}
use Rattle.symbol_pool.specs.Pool.{Named}
use Rattle.std.proofs.Math.Numerals.{add-one}
use Rattle.term_model.specs.declared.Symbol.{Symbol}
use Rattle.term_model.specs.declared.Head.{Head}
use Rattle.term_model.specs.declared.Head.TheVariants.{App, Int, Nil, Cons}
use Rattle.term_model.specs.declared.Item.{Item}
use Rattle.term_model.specs.declared.Item.TheVariants as item
use Rattle.term_model.specs.Tree.{Tree, Leaf, Node, Trees, End, More, count_of, is_ground, all_ground, is_well_formed, all_well_formed, may_be_list}
use Rattle.term_model.specs.Postorder.{postorder, postorder_all, item_of}
use Rattle.term_model.proofs.Order.{both_hold}
use Rattle.tree_text.specs.declared.writer.Frame.{Frame}
use Rattle.tree_text.specs.declared.writer.Writer.{Writer}
use Rattle.tree_text.specs.Text.{text_by, after_commas, further_elements, has_names, all_have_names, is_named}
use Rattle.tree_text.specs.Writing.{arrive, written, all_written, IsItemHeld}
use Rattle.tree_text.proofs.Arriving.{other_frames, arrive_first, arrive_next}

abbrev pub writer : List ℕ → List Frame → ℕ → Writer
writer text frames cells = record { text = text; frames = frames; cells = cells }

abbrev pub frame : Option Symbol → ℕ → Frame
frame symbol left = record { symbol = symbol; left = left }

rev_node : (ts : Trees) (i : Item) (rest : List Item) → reverse (postorder_all ts ++ i ∷ []) ++ rest ≡ i ∷ (reverse (postorder_all ts) ++ rest)
rev_node ts i rest = ap (λ xs. xs ++ rest) (reverse-append (postorder_all ts) (i ∷ []))

rev_more : (t : Tree) (ts : Trees) (rest : List Item) → reverse (postorder_all (More t ts)) ++ rest ≡ reverse (postorder_all ts) ++ (reverse (postorder t) ++ rest)
rev_more t ts rest = ap (λ xs. xs ++ rest) (reverse-append (postorder t) (postorder_all ts)) ∙ append_assoc (reverse (postorder_all ts)) (reverse (postorder t)) rest

rev_cell : (t u : Tree) (rest : List Item) → reverse (postorder_all (More t (More u End))) ++ rest ≡ reverse (postorder u) ++ (reverse (postorder t) ++ rest)
rev_cell t u rest = rev_more t (More u End) rest ∙ ap (λ xs. reverse xs ++ (reverse (postorder t) ++ rest)) (append-nil (postorder u))

call_text : (S T A X : List ℕ) → (S ++ codes "(") ++ (T ++ (A ++ 41 ∷ X)) ≡ (S ++ (((codes "(" ++ T) ++ A) ++ codes ")")) ++ X
call_text S T A X =
    append_assoc S (codes "(") (T ++ (A ++ 41 ∷ X))
    ∙ ap (λ s. S ++ 40 ∷ s) (sym (append_assoc T A (41 ∷ X)) ∙ sym (append_assoc (T ++ A) (41 ∷ []) X))
    ∙ sym (append_assoc S (((codes "(" ++ T) ++ A) ++ codes ")") X)

list_text : (T F X : List ℕ) → codes "[" ++ (T ++ (F ++ 93 ∷ X)) ≡ ((codes "[" ++ (T ++ F)) ++ codes "]") ++ X
list_text T F X = ap (λ s. 91 ∷ s) (sym (append_assoc T F (93 ∷ X)) ∙ sym (append_assoc (T ++ F) (93 ∷ []) X))

module _ (spell : Symbol → List ℕ) where
  mutual
    -- where a term stands
    pub tree_written : (t : Tree) → is_ground t ≡ true → is_well_formed t ≡ true → (rest : List Item) (X : List ℕ) (fs : List Frame) →
        all_written spell (reverse (postorder t) ++ rest) (writer X fs 0) ≡ all_written spell rest (arrive spell fs (writer (text_by spell t ++ X) fs 0))
    tree_written (Leaf x) g h rest X fs = absurd cc
    tree_written (Node (App f) End) g h rest X fs = ap (λ s. all_written spell rest (arrive spell fs (writer (s ++ X) fs 0))) (sym (append-nil (spell f)))
    tree_written (Node (App f) (More t ts)) g h rest X fs =
        let n = count_of ts in
        let gs = both_hold (is_ground t) (all_ground ts) g in
        let hs = both_hold (is_well_formed t) (all_well_formed ts) h in
        let A = after_commas spell ts in
        let T = text_by spell t in
        let one : suc n ≡ n + 1 = sym (add-one n) in
        let begun : List ℕ = spell f ++ codes "(" in
        ap (λ is. all_written spell is (writer X fs 0)) (rev_node (More t ts) (item.App f (n + 1)) rest)
        ∙ ap (λ k. all_written spell (item.App f k ∷ (reverse (postorder_all (More t ts)) ++ rest)) (writer X fs 0)) (add-one n)
        ∙ ap (λ is. all_written spell is (writer (41 ∷ X) (frame (Some f) (suc n) ∷ fs) 0)) (rev_more t ts rest)
        ∙ ap (λ k. all_written spell (reverse (postorder_all ts) ++ (reverse (postorder t) ++ rest)) (writer (41 ∷ X) (frame (Some f) k ∷ fs) 0)) one
        ∙ trees_written ts gs.1 hs.1 (Some f) 0 (reverse (postorder t) ++ rest) (41 ∷ X) fs
        ∙ tree_written t gs.0 hs.0 rest (A ++ 41 ∷ X) (frame (Some f) 1 ∷ fs)
        ∙ ap (all_written spell rest) (arrive_first spell (frame (Some f) 1) fs (writer (T ++ (A ++ 41 ∷ X)) (frame (Some f) 1 ∷ fs) 0) (omega arith))
        ∙ ap (all_written spell rest) (other_frames spell fs (frame (Some f) 1 ∷ fs) (writer (begun ++ (T ++ (A ++ 41 ∷ X))) fs 0))
        ∙ ap (λ s. all_written spell rest (arrive spell fs (writer s fs 0))) (call_text (spell f) T A X)
    tree_written (Node (Int v) End) g h rest X fs = refl
    tree_written (Node (Int v) (More t ts)) g h rest X fs = absurd cc
    tree_written (Node Nil End) g h rest X fs = refl
    tree_written (Node Nil (More t ts)) g h rest X fs = absurd cc
    tree_written (Node Cons End) g h rest X fs = absurd cc
    tree_written (Node Cons (More t End)) g h rest X fs = absurd cc
    tree_written (Node Cons (More t (More u End))) g h rest X fs =
        let gs = both_hold (is_ground t) (is_ground u && true) g in
        let hs = both_hold (may_be_list u) (is_well_formed t && (is_well_formed u && true)) h in
        let ks = both_hold (is_well_formed t) (is_well_formed u && true) hs.1 in
        let F = further_elements spell u in
        let T = text_by spell t in
        ap (λ is. all_written spell is (writer X fs 0)) (rev_node (More t (More u End)) item.Cons rest)
        ∙ ap (λ is. all_written spell is (writer X fs 1)) (rev_cell t u rest)
        ∙ rest_written_whole u (both_hold (is_ground u) true gs.1).0 (both_hold (is_well_formed u) true ks.1).0 hs.0 0 (reverse (postorder t) ++ rest) X fs
        ∙ tree_written t gs.0 ks.0 rest (F ++ 93 ∷ X) (frame None 1 ∷ fs)
        ∙ ap (all_written spell rest) (arrive_first spell (frame None 1) fs (writer (T ++ (F ++ 93 ∷ X)) (frame None 1 ∷ fs) 0) (omega arith))
        ∙ ap (all_written spell rest) (other_frames spell fs (frame None 1 ∷ fs) (writer (codes "[" ++ (T ++ (F ++ 93 ∷ X))) fs 0))
        ∙ ap (λ s. all_written spell rest (arrive spell fs (writer s fs 0))) (list_text T F X)
    tree_written (Node Cons (More t (More u (More v vs)))) g h rest X fs = absurd cc

    -- the terms of a group but the first j + 1
    trees_written : (ts : Trees) → all_ground ts ≡ true → all_well_formed ts ≡ true → (symbol : Option Symbol) (j : ℕ) (rest : List Item) (X : List ℕ) (fs : List Frame) →
        all_written spell (reverse (postorder_all ts) ++ rest) (writer X (frame symbol (count_of ts + (j + 1)) ∷ fs) 0) ≡ all_written spell rest (writer (after_commas spell ts ++ X) (frame symbol (j + 1) ∷ fs) 0)
    trees_written End g h symbol j rest X fs =
        let n : 0 + (j + 1) ≡ j + 1 = omega arith in
        ap (λ k. all_written spell rest (writer X (frame symbol k ∷ fs) 0)) n
    trees_written (More t ts) g h symbol j rest X fs =
        let gs = both_hold (is_ground t) (all_ground ts) g in
        let hs = both_hold (is_well_formed t) (all_well_formed ts) h in
        let A = after_commas spell ts in
        let T = text_by spell t in
        let n : count_of ts + 1 + (j + 1) ≡ count_of ts + (j + 1 + 1) = omega arith in
        let less : j + 1 + 1 - 1 ≡ j + 1 = omega arith in
        ap (λ is. all_written spell is (writer X (frame symbol (count_of ts + 1 + (j + 1)) ∷ fs) 0)) (rev_more t ts rest)
        ∙ ap (λ k. all_written spell (reverse (postorder_all ts) ++ (reverse (postorder t) ++ rest)) (writer X (frame symbol k ∷ fs) 0)) n
        ∙ trees_written ts gs.1 hs.1 symbol (j + 1) (reverse (postorder t) ++ rest) X fs
        ∙ tree_written t gs.0 hs.0 rest (A ++ X) (frame symbol (j + 1 + 1) ∷ fs)
        ∙ ap (all_written spell rest) (arrive_next spell (frame symbol (j + 1 + 1)) fs (writer (T ++ (A ++ X)) (frame symbol (j + 1 + 1) ∷ fs) 0) (omega arith))
        ∙ ap (λ k. all_written spell rest (writer (44 ∷ (T ++ (A ++ X))) (frame symbol k ∷ fs) 0)) less
        ∙ ap (λ s. all_written spell rest (writer (44 ∷ s) (frame symbol (j + 1) ∷ fs) 0)) (sym (append_assoc T A X))

    -- where the rest of a list stands
    rest_written_whole : (u : Tree) → is_ground u ≡ true → is_well_formed u ≡ true → may_be_list u ≡ true → (k : ℕ) (rest : List Item) (X : List ℕ) (fs : List Frame) →
        all_written spell (reverse (postorder u) ++ rest) (writer X fs (suc k)) ≡ all_written spell rest (writer (further_elements spell u ++ 93 ∷ X) (frame None (suc k) ∷ fs) 0)
    rest_written_whole (Leaf x) g h m k rest X fs = absurd cc
    rest_written_whole (Node (App f) ts) g h m k rest X fs = absurd cc
    rest_written_whole (Node (Int v) ts) g h m k rest X fs = absurd cc
    rest_written_whole (Node Nil End) g h m k rest X fs = refl
    rest_written_whole (Node Nil (More t ts)) g h m k rest X fs = absurd cc
    rest_written_whole (Node Cons End) g h m k rest X fs = absurd cc
    rest_written_whole (Node Cons (More t End)) g h m k rest X fs = absurd cc
    rest_written_whole (Node Cons (More t (More u End))) g h m k rest X fs =
        let gs = both_hold (is_ground t) (is_ground u && true) g in
        let hs = both_hold (may_be_list u) (is_well_formed t && (is_well_formed u && true)) h in
        let ks = both_hold (is_well_formed t) (is_well_formed u && true) hs.1 in
        let F = further_elements spell u in
        let T = text_by spell t in
        let less : suc (suc k) - 1 ≡ suc k = omega arith in
        ap (λ is. all_written spell is (writer X fs (suc k))) (rev_node (More t (More u End)) item.Cons rest)
        ∙ ap (λ j. all_written spell (reverse (postorder_all (More t (More u End))) ++ rest) (writer X fs j)) (add-one (suc k))
        ∙ ap (λ is. all_written spell is (writer X fs (suc (suc k)))) (rev_cell t u rest)
        ∙ rest_written_whole u (both_hold (is_ground u) true gs.1).0 (both_hold (is_well_formed u) true ks.1).0 hs.0 (suc k) (reverse (postorder t) ++ rest) X fs
        ∙ tree_written t gs.0 ks.0 rest (F ++ 93 ∷ X) (frame None (suc (suc k)) ∷ fs)
        ∙ ap (all_written spell rest) (arrive_next spell (frame None (suc (suc k))) fs (writer (T ++ (F ++ 93 ∷ X)) (frame None (suc (suc k)) ∷ fs) 0) (omega arith))
        ∙ ap (λ j. all_written spell rest (writer (44 ∷ (T ++ (F ++ 93 ∷ X))) (frame None j ∷ fs) 0)) less
        ∙ ap (λ s. all_written spell rest (writer (44 ∷ s) (frame None (suc k) ∷ fs) 0)) (sym (append_assoc T F (93 ∷ X)))
    rest_written_whole (Node Cons (More t (More u (More v vs)))) g h m k rest X fs = absurd cc

  -- the whole term
  pub term_is_written : (t : Tree) → is_ground t ≡ true → is_well_formed t ≡ true → all_written spell (reverse (postorder t)) (writer [] [] 0) ≡ writer (text_by spell t) [] 0
  term_is_written t g h =
      ap (λ is. all_written spell is (writer [] [] 0)) (sym (append-nil (reverse (postorder t))))
      ∙ tree_written t g h [] [] []
      ∙ ap (λ s. writer s [] 0) (append-nil (text_by spell t))

head_held : (names : List Named) (f : Head) (n : ℕ) → is_named names f ≡ true → IsItemHeld names (item_of f n)
head_held names (App f) n h = ltb-true f.0 (length names) h
head_held names (Int v) n h = tt
head_held names Nil n h = tt
head_held names Cons n h = tt

-- the symbols of a term's items are held
mutual
  pub items_held : (names : List Named) (t : Tree) → has_names names t ≡ true → All (IsItemHeld names) (postorder t)
  items_held names (Leaf x) h = All-cons (IsItemHeld names) (item.Var x) [] tt (All-nil (IsItemHeld names))
  items_held names (Node f ts) h =
      let hs = both_hold (is_named names f) (all_have_names names ts) h in
      All-push (IsItemHeld names) (postorder_all ts) (item_of f (count_of ts)) (all_items_held names ts hs.1) (head_held names f (count_of ts) hs.0)

  all_items_held : (names : List Named) (ts : Trees) → all_have_names names ts ≡ true → All (IsItemHeld names) (postorder_all ts)
  all_items_held names End h = All-nil (IsItemHeld names)
  all_items_held names (More t ts) h =
      let hs = both_hold (has_names names t) (all_have_names names ts) h in
      All-append (IsItemHeld names) (postorder t) (postorder_all ts) (items_held names t hs.0) (all_items_held names ts hs.1)

-- one item more was written
pub one_written : (spell : Symbol → List ℕ) (items : List Item) (at : ℕ) (d : Item) (w : Writer) → at < length items → all_written spell (reverse (take (at + 1) items)) w ≡ all_written spell (reverse (take at items)) (written spell (get_or items at d) w)
one_written spell items at d w h =
    ap (λ is. all_written spell (reverse is) w) (take_more items at d h)
    ∙ ap (λ is. all_written spell is w) (reverse-append (take at items) (get_or items at d ∷ []))
