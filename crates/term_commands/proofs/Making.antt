-- The items of terms make their trees.
use Rattle.std.proofs.Common.{◌≡◌, ℕ, suc, ◌+◌, ◌<◌, ◌≤◌, inl, inr, List, [], ◌∷◌, ◌++◌, length, drop, get_or, true, refl, sym, ap, subst, ◌∙◌, arith, length-append, append_assoc, append-nil}
use Rattle.std.specs.Prelude.{Contains}
use Rattle.std.proofs.Math.Seq.{drop-cons}
use Rattle.std.proofs.lemmas.List.Elements.{Contains-append_left, Contains-append_cases, Contains-push}
use Rattle.term_model.specs.declared.Head.{Head}
use Rattle.term_model.specs.declared.Item.{Item}
use Rattle.term_model.specs.Tree.{Tree, Leaf, Node, Trees, End, More, count_of, list_of, trees_of, arguments, may_stand_over, is_well_formed, all_well_formed, IsWellFormed, is_ground, all_ground, IsGround}
use Rattle.term_model.specs.Postorder.{item_of, postorder, postorder_all}
use Rattle.term_model.proofs.Order.{both_hold}
use Rattle.term_model.proofs.Subtrees.{arguments_are_subtrees, subtrees_nest, trees_are_subtrees}
use Rattle.plain_store.proofs.Placing.{list_trees}
use Rattle.term_commands.specs.Building.{Takes, after, Make}
use Rattle.term_commands.proofs.Within.{IsWithin}

-- ---- trees as a list, and back
trees_list : (ts : Trees) → trees_of (list_of ts) ≡ ts
trees_list End = refl
trees_list (More t ts) = ap (More t) (trees_list ts)

list_count : (ts : Trees) → count_of ts ≡ length (list_of ts)
list_count End = refl
list_count (More t ts) = let r = list_count ts in omega (arith, r)

-- ---- what items make
abbrev head_takes : (h : Head) (ts : Trees) (before : List Tree) → may_stand_over h ts ≡ true → Takes (item_of h (count_of ts)) (before ++ list_of ts)
head_takes h ts before may = record {
  head = h;
  before = before;
  arguments = list_of ts;
  item_is = ap (item_of h) (list_count ts);
  trees_are = refl;
  may = ap (may_stand_over h) (trees_list ts) ∙ may;
}

mutual
  -- the items of a tree make it
  pub makes_tree : (t : Tree) (is : List Item) (before last : List Tree) → is_well_formed t ≡ true → is_ground t ≡ true → Make is (before ++ t ∷ []) last → Make (postorder t ++ is) before last
  makes_tree (Leaf x) is before last w g m = absurd (cc)
  makes_tree (Node h ts) is before last w g m =
      let formed = both_hold (may_stand_over h ts) (all_well_formed ts) w in
      let i : Item = item_of h (count_of ts) in
      let rest : Make is (after (head_takes h ts before formed.0)) last = subst (λ us. Make is (before ++ Node h us ∷ []) last) (sym (trees_list ts)) m in
      subst (λ js. Make js before last) (sym (append_assoc (postorder_all ts) (i ∷ []) is))
      (makes_trees ts (i ∷ is) before last formed.1 g (head_takes h ts before formed.0, rest))

  makes_trees : (ts : Trees) (is : List Item) (before last : List Tree) → all_well_formed ts ≡ true → all_ground ts ≡ true → Make is (before ++ list_of ts) last → Make (postorder_all ts ++ is) before last
  makes_trees End is before last w g m = subst (λ us. Make is us last) (append-nil before) m
  makes_trees (More t ts) is before last w g m =
      let formed = both_hold (is_well_formed t) (all_well_formed ts) w in
      let ground = both_hold (is_ground t) (all_ground ts) g in
      subst (λ js. Make js before last) (sym (append_assoc (postorder t) (postorder_all ts) is))
      (makes_tree t (postorder_all ts ++ is) before last formed.0 ground.0
      (makes_trees ts is (before ++ t ∷ []) last formed.1 ground.1
      (subst (λ us. Make is us last) (sym (append_assoc before (t ∷ []) (list_of ts))) m)))

-- from the first item on, behind the trees that are there
pub begins : (t : Tree) (items : List Item) (before : List Tree) → items ≡ postorder t → IsWellFormed t → IsGround t → Make items before (before ++ t ∷ [])
begins t items before e w g =
    subst (λ is. Make is before (before ++ t ∷ [])) (append-nil (postorder t) ∙ sym e) (makes_tree t [] before (before ++ t ∷ []) w g refl)

-- ---- one item after another
pub next : (items : List Item) (k : ℕ) (d : Item) (trees last : List Tree) → k < length items → Make (drop k items) trees last → (t : Takes (get_or items k d) trees) × Make (drop (k + 1) items) (after t) last
next items k d trees last below m =
    let more : suc k ≡ k + 1 = omega arith in
    let e : drop k items ≡ get_or items k d ∷ drop (k + 1) items = drop-cons items k d below ∙ ap (λ j. get_or items k d ∷ drop j items) more in
    subst (λ is. Make is trees last) e m

pub made_all : (items : List Item) (k : ℕ) (trees last : List Tree) → drop k items ≡ [] → Make (drop k items) trees last → trees ≡ last
made_all items k trees last e m = subst (λ is. Make is trees last) e m

pub after_length : {item : Item} {trees : List Tree} (t : Takes item trees) → length (after t) ≤ length trees + 1
after_length {item} {trees} t =
    let a = length-append t.before (Node t.head (trees_of t.arguments) ∷ []) in
    let b = ap length t.trees_are ∙ length-append t.before t.arguments in
    omega (arith, a, b)

-- ---- what is taken stays within what is made
taken_within : (item : Item) (trees last : List Tree) (k : Takes item trees) → ((t : Tree) → Contains (after k) t → IsWithin last t) → (t : Tree) → Contains trees t → IsWithin last t
taken_within item trees last k rest t c =
    elim (Contains-append_cases k.before k.arguments t (subst (λ ts. Contains ts t) k.trees_are c)) [
      | inl b ↦ rest t (Contains-append_left k.before (Node k.head (trees_of k.arguments) ∷ []) t b)
      | inr a ↦ (let node : Tree = Node k.head (trees_of k.arguments) in
          let w = rest node (Contains-push k.before node) in
          let args : Contains (arguments node) t = subst (λ ts. Contains ts t) (sym (list_trees k.arguments)) a in
          (w.0, w.1, subtrees_nest w.0 node t w.2 (arguments_are_subtrees node t args)))
    ]

-- the trees that items take are subtrees of what they make
pub stays_within : (items : List Item) (trees last : List Tree) → Make items trees last → (t : Tree) → Contains trees t → IsWithin last t
stays_within [] trees last m t c = (t, subst (λ ts. Contains ts t) m c, trees_are_subtrees t)
stays_within (i ∷ is) trees last m t c = taken_within i trees last m.0 (stays_within is (after m.0) last m.1) t c

-- they are within the trees when the item has taken them
pub taken_after : (item : Item) (trees : List Tree) (k : Takes item trees) (t : Tree) → Contains trees t → IsWithin (after k) t
taken_after item trees k t c = taken_within item trees (after k) k (λ u d. (u, d, trees_are_subtrees u)) t c
