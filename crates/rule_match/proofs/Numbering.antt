-- The variables of a pattern, by its items.
use Rattle.std.proofs.Common.{◌≡◌, ℕ, ◌+◌, List, [], ◌∷◌, ◌++◌, Option, Some, None, Bool, true, false, refl, sym, ◌∙◌, ap}
use Rattle.std.specs.Prelude.{option_and_then, if◌then◌else◌, nat_lt, ◌==◌, ◌&&◌}
use Rattle.std.specs.List.{list_all}
use Rattle.std.proofs.lemmas.List.{append_assoc, append-nil}
use Rattle.std.proofs.lemmas.List.Folds.{list_all-append}
use Rattle.term_model.specs.Tree.{Tree, Leaf, Node, Trees, End, More, count_of}
use Rattle.term_model.specs.Postorder.{postorder, postorder_all, item_of}
use Rattle.term_model.specs.declared.Head.{Head}
use Rattle.term_model.specs.declared.Head.TheVariants as head
use Rattle.term_model.specs.declared.Item.{Item}
use Rattle.term_model.specs.declared.Item.TheVariants.{Var, App, Int, Nil, Cons}
use Rattle.rewrite_model.specs.Rule.{count_from, count_all_from, is_below, all_below}
use Rattle.rule_match.specs.Planned.{is_item_below}

-- how many variables there are after an item
abbrev pub count_with : Item → ℕ → Option ℕ
count_with (Var x) n = if nat_lt x n then Some n else if x == n then Some (n + 1) else None
count_with (App f k) n = Some n
count_with (Int v) n = Some n
count_with Nil n = Some n
count_with Cons n = Some n

abbrev pub count_in : List Item → ℕ → Option ℕ
count_in [] n = Some n
count_in (i ∷ is) n = option_and_then (λ m. count_in is m) (count_with i n)

chained : {A B C : Type 0} (f : A → Option B) (g : B → Option C) (o : Option A) → option_and_then g (option_and_then f o) ≡ option_and_then (λ a. option_and_then g (f a)) o
chained f g None = refl
chained f g (Some a) = refl

agree : {A B : Type 0} (f g : A → Option B) → ((a : A) → f a ≡ g a) → (o : Option A) → option_and_then f o ≡ option_and_then g o
agree f g e None = refl
agree f g e (Some a) = e a

head_counts_none : (h : Head) (n k : ℕ) (is : List Item) → count_in (item_of h k ∷ is) n ≡ count_in is n
head_counts_none (head.App f) n k is = refl
head_counts_none (head.Int v) n k is = refl
head_counts_none head.Nil n k is = refl
head_counts_none head.Cons n k is = refl

mutual
  counts : (p : Tree) (is : List Item) (n : ℕ) → count_in (postorder p ++ is) n ≡ option_and_then (λ m. count_in is m) (count_from p n)
  counts (Leaf x) is n = refl
  counts (Node h ps) is n =
      ap (λ js. count_in js n) (append_assoc (postorder_all ps) (item_of h (count_of ps) ∷ []) is)
      ∙ all_count ps (item_of h (count_of ps) ∷ is) n
      ∙ agree (λ m. count_in (item_of h (count_of ps) ∷ is) m) (λ m. count_in is m) (λ m. head_counts_none h m (count_of ps) is) (count_all_from ps n)

  all_count : (ps : Trees) (is : List Item) (n : ℕ) → count_in (postorder_all ps ++ is) n ≡ option_and_then (λ m. count_in is m) (count_all_from ps n)
  all_count End is n = refl
  all_count (More p ps) is n =
      ap (λ js. count_in js n) (append_assoc (postorder p) (postorder_all ps) is)
      ∙ counts p (postorder_all ps ++ is) n
      ∙ agree (λ m. count_in (postorder_all ps ++ is) m) (λ m. option_and_then (λ k. count_in is k) (count_all_from ps m)) (λ m. all_count ps is m) (count_from p n)
      ∙ sym (chained (λ m. count_all_from ps m) (λ m. count_in is m) (count_from p n))

itself : (o : Option ℕ) → option_and_then (λ m. count_in [] m) o ≡ o
itself None = refl
itself (Some m) = refl

-- a pattern's variables are counted by its items
pub counted : (p : Tree) (n : ℕ) → count_in (postorder p) n ≡ count_from p n
counted p n = ap (λ is. count_in is n) (sym (append-nil (postorder p))) ∙ counts p [] n ∙ itself (count_from p n)

-- and so is whether they are below a count
head_is_below : (vars : ℕ) (h : Head) (k : ℕ) → list_all (is_item_below vars) (item_of h k ∷ []) ≡ true
head_is_below vars (head.App f) k = refl
head_is_below vars (head.Int v) k = refl
head_is_below vars head.Nil k = refl
head_is_below vars head.Cons k = refl

and_true : (a : Bool) → (a && true) ≡ a
and_true true = refl
and_true false = refl

mutual
  pub below : (vars : ℕ) (p : Tree) → list_all (is_item_below vars) (postorder p) ≡ is_below vars p
  below vars (Leaf x) = and_true (nat_lt x vars)
  below vars (Node h ps) =
      list_all-append (is_item_below vars) (postorder_all ps) (item_of h (count_of ps) ∷ [])
      ∙ ap (λ (b : Bool). list_all (is_item_below vars) (postorder_all ps) && b) (head_is_below vars h (count_of ps))
      ∙ and_true (list_all (is_item_below vars) (postorder_all ps))
      ∙ below_all vars ps

  below_all : (vars : ℕ) (ps : Trees) → list_all (is_item_below vars) (postorder_all ps) ≡ all_below vars ps
  below_all vars End = refl
  below_all vars (More p ps) =
      list_all-append (is_item_below vars) (postorder p) (postorder_all ps)
      ∙ ap (λ (b : Bool). b && list_all (is_item_below vars) (postorder_all ps)) (below vars p)
      ∙ ap (λ (b : Bool). is_below vars p && b) (below_all vars ps)
