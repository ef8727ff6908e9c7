-- A table that shows a set answers what the set answers.
use Rattle.std.proofs.Common.{◌≡◌, ℕ, true, Option, Some, None, List, [], ◌∷◌, refl, sym, ap, ◌∙◌}
use Rattle.std.specs.Prelude.{is_some, unwrap_or}
use Rattle.std.specs.List.{AllByRecursion}
use Rattle.std.proofs.lemmas.Bool.{and_parts, and_from}
use Rattle.term_model.specs.Tree.{Tree, Leaf, Node, Trees, More, may_be_list, may_stand_over}
use Rattle.term_model.specs.declared.Head.{Head}
use Rattle.term_model.specs.declared.Head.TheVariants as head
use Rattle.history_core.specs.TermSet.{Names, TermSet, Holds, IsHeld, IsFree, Lacks, tree_at, trees_at, tree_over, MayCreate}
use Rattle.history_core.specs.declared.slots.Root.{Root}
use Rattle.history_core.specs.declared.slots.Root.TheVariants.{App, Int, Nil, Cons}
use Rattle.history_core.specs.declared.slots.Term.{Term}
use Rattle.history_core.specs.Slots.{slot_at, root_of, head_of, term_of, is_list, are_taken, stands_over}
use Rattle.history_core.specs.Table.{Table, Shows, MayCreateIn, MayPut}

pub head_root : (h : Head) → head_of (root_of h) ≡ h
head_root (head.App f) = refl
head_root (head.Int v) = refl
head_root head.Nil = refl
head_root head.Cons = refl

root_head : (r : Root) → root_of (head_of r) ≡ r
root_head (App f) = refl
root_head (Int v) = refl
root_head Nil = refl
root_head Cons = refl

root_list : (r : Root) (args : List ℕ) (ts : Trees) → is_list (Some (record { root = r; args = args })) ≡ may_be_list (Node (head_of r) ts)
root_list (App f) args ts = refl
root_list (Int v) args ts = refl
root_list Nil args ts = refl
root_list Cons args ts = refl

pub same_tree : (o : Option Tree) (t u : Tree) → o ≡ Some t → o ≡ Some u → t ≡ u
same_tree o t u a b = cc

pub no_tree : (o : Option Tree) (t : Tree) → o ≡ None → o ≡ Some t → ⊥
no_tree o t a b = cc

same_heads : (h g : Head) (ts us : Trees) → Node h ts ≡ Node g us → h ≡ g
same_heads h g ts us e = cc

pub same_trees : (h g : Head) (ts us : Trees) → Node h ts ≡ Node g us → ts ≡ us
same_trees h g ts us e = cc

pub more_first : (t u : Tree) (ts us : Trees) → More t ts ≡ More u us → t ≡ u
more_first t u ts us e = cc

pub more_rest : (t u : Tree) (ts us : Trees) → More t ts ≡ More u us → ts ≡ us
more_rest t u ts us e = cc

pub held_tree : (h : Names) (n : ℕ) → IsHeld h n → Holds h n (tree_at h n)
held_tree h n at = at.1 ∙ ap Some (sym (ap (λ (o : Option Tree). unwrap_or o (Leaf 0)) at.1))

module _ (t : Table) (s : TermSet) (sh : Shows t s) where
  held_is_taken : (n : ℕ) → IsHeld s.held n → is_some (slot_at t.slots n) ≡ true
  held_is_taken n at = go (slot_at t.slots n) refl
    where
      go : (o : Option Term) → slot_at t.slots n ≡ o → is_some o ≡ true
      go None e = absurd (no_tree (s.held n) at.0 (sh.free n e) at.1)
      go (Some x) e = refl

  taken_is_held : (n : ℕ) → is_some (slot_at t.slots n) ≡ true → IsHeld s.held n
  taken_is_held n h = go (slot_at t.slots n) refl h
    where
      go : (o : Option Term) → slot_at t.slots n ≡ o → is_some o ≡ true → IsHeld s.held n
      go None e k = cc
      go (Some x) e k = (tree_over s.held (head_of x.root) x.args, (sh.taken n x e).tree)

  pub all_are_held : (ns : List ℕ) → are_taken t.slots ns ≡ true → AllByRecursion (IsHeld s.held) ns
  all_are_held [] h = tt
  all_are_held (n ∷ ns) h =
      let both = and_parts (is_some (slot_at t.slots n)) (are_taken t.slots ns) h in (taken_is_held n both.0, all_are_held ns both.1)

  pub all_are_taken : (ns : List ℕ) → AllByRecursion (IsHeld s.held) ns → are_taken t.slots ns ≡ true
  all_are_taken [] a = refl
  all_are_taken (n ∷ ns) a = and_from (is_some (slot_at t.slots n)) (are_taken t.slots ns) (held_is_taken n a.0) (all_are_taken ns a.1)

  list_same : (n : ℕ) → IsHeld s.held n → is_list (slot_at t.slots n) ≡ may_be_list (tree_at s.held n)
  list_same n at = go (slot_at t.slots n) refl
    where
      go : (o : Option Term) → slot_at t.slots n ≡ o → is_list o ≡ may_be_list (tree_at s.held n)
      go None e = absurd (no_tree (s.held n) at.0 (sh.free n e) at.1)
      go (Some x) e =
          let is : tree_over s.held (head_of x.root) x.args ≡ tree_at s.held n = same_tree (s.held n) (tree_over s.held (head_of x.root) x.args) (tree_at s.held n) (sh.taken n x e).tree (held_tree s.held n at) in
          root_list x.root x.args (trees_at s.held x.args) ∙ ap may_be_list is

  stands_same : (h : Head) (ns : List ℕ) → AllByRecursion (IsHeld s.held) ns → stands_over t.slots h ns ≡ may_stand_over h (trees_at s.held ns)
  stands_same (head.App f) ns a = refl
  stands_same (head.Int v) [] a = refl
  stands_same (head.Int v) (n ∷ ns) a = refl
  stands_same head.Nil [] a = refl
  stands_same head.Nil (n ∷ ns) a = refl
  stands_same head.Cons [] a = refl
  stands_same head.Cons (n ∷ []) a = refl
  stands_same head.Cons (n ∷ m ∷ []) a = list_same m a.1.0
  stands_same head.Cons (n ∷ m ∷ k ∷ ns) a = refl

  pub may_create : (h : Head) (ns : List ℕ) → MayCreateIn t.slots h ns → MayCreate s.held h ns
  may_create h ns k = let a = all_are_held ns k.taken in record { names = a; formed = sym (stands_same h ns a) ∙ k.stands }

  pub may_create_in : (h : Head) (ns : List ℕ) → MayCreate s.held h ns → MayCreateIn t.slots h ns
  may_create_in h ns k = record { taken = all_are_taken ns k.names; stands = stands_same h ns k.names ∙ k.formed }

  -- different names have different trees
  names_from_trees : (xs ys : List ℕ) → AllByRecursion (IsHeld s.held) xs → AllByRecursion (IsHeld s.held) ys → trees_at s.held xs ≡ trees_at s.held ys → xs ≡ ys
  names_from_trees [] [] a b e = refl
  names_from_trees [] (y ∷ ys) a b e = cc
  names_from_trees (x ∷ xs) [] a b e = cc
  names_from_trees (x ∷ xs) (y ∷ ys) a b e =
      let first = more_first (tree_at s.held x) (tree_at s.held y) (trees_at s.held xs) (trees_at s.held ys) e in
      let rest = more_rest (tree_at s.held x) (tree_at s.held y) (trees_at s.held xs) (trees_at s.held ys) e in
      let same : x ≡ y = sh.sound.one_name x y (tree_at s.held y) (held_tree s.held x a.0 ∙ ap Some first) (held_tree s.held y b.0) in
      ap (λ (n : ℕ). n ∷ xs) same ∙ ap (λ ns. y ∷ ns) (names_from_trees xs ys a.1 b.1 rest)

  -- a name has the term of a head over held names exactly where it has their tree
  pub spelled : (n : ℕ) (h : Head) (ns : List ℕ) → slot_at t.slots n ≡ Some (term_of h ns) → Holds s.held n (tree_over s.held h ns)
  spelled n h ns e = (sh.taken n (term_of h ns) e).tree ∙ ap (λ (g : Head). Some (tree_over s.held g ns)) (head_root h)

  pub unspelled : (n : ℕ) (h : Head) (ns : List ℕ) → AllByRecursion (IsHeld s.held) ns → Holds s.held n (tree_over s.held h ns) → slot_at t.slots n ≡ Some (term_of h ns)
  unspelled n h ns a at = go (slot_at t.slots n) refl
    where
      go : (o : Option Term) → slot_at t.slots n ≡ o → o ≡ Some (term_of h ns)
      go None e = absurd (no_tree (s.held n) (tree_over s.held h ns) (sh.free n e) at)
      go (Some x) e =
          let term = sh.taken n x e in
          let tree : tree_over s.held (head_of x.root) x.args ≡ tree_over s.held h ns = same_tree (s.held n) (tree_over s.held (head_of x.root) x.args) (tree_over s.held h ns) term.tree at in
          let root : x.root ≡ root_of h = sym (root_head x.root) ∙ ap root_of (same_heads (head_of x.root) h (trees_at s.held x.args) (trees_at s.held ns) tree) in
          let args : x.args ≡ ns = names_from_trees x.args ns term.args a (same_trees (head_of x.root) h (trees_at s.held x.args) (trees_at s.held ns) tree) in
          ap (λ (r : Root). Some (record { root = r; args = x.args })) root ∙ ap (λ (k : List ℕ). Some (record { root = root_of h; args = k })) args

  -- a new term is a new pair
  pub new_pair : (row : ℕ) (h : Head) (ns : List ℕ) → AllByRecursion (IsHeld s.held) ns → MayPut t.slots row (term_of h ns) → IsFree s.held row × Lacks s.held (tree_over s.held h ns)
  new_pair row h ns a put = (sh.free row put.free, λ n at. put.absent n (unspelled n h ns a at))

  pub free_slot : (row : ℕ) → IsFree s.held row → slot_at t.slots row ≡ None
  free_slot row free = go (slot_at t.slots row) refl
    where
      go : (o : Option Term) → slot_at t.slots row ≡ o → o ≡ None
      go None e = refl
      go (Some x) e = absurd (no_tree (s.held row) (tree_over s.held (head_of x.root) x.args) free (sh.taken row x e).tree)
