-- What is still to be written of a term, the next last.
use Rattle.std.specs.Prelude.{◌≡◌, ℕ, ◌+◌, ◌-◌, ◌*◌, ◌<◌, ◌≤◌, List, [], ◌∷◌, ◌++◌, All, Some, slice_get, drop, codes, sum_by, Bool, true, false}
use Rattle.term_model.specs.declared.Row.{Row}
use Rattle.term_model.specs.declared.Head.{Head}
use Rattle.term_model.specs.declared.Head.TheVariants.{App, Int, Nil, Cons}
use Rattle.term_model.specs.Tree.{arguments, trees_of, nodes}
use Rattle.terms_api.specs.Terms.{Store, IsHeld, tree_at}
use Rattle.symbol_pool.specs.Pool.{Named}
use Rattle.tree_text.specs.Text.{after_commas, elements, further_elements, HasNames}
use Rattle.term_text.specs.Text.{text, plain_name}
use Rattle.term_text.specs.declared.works.Work.{Work}
use Rattle.term_text.specs.declared.works.Work.TheVariants.{Term, Arguments, Elements}

-- whether a head is that of a cell
abbrev pub is_cell : Head → Bool
is_cell (App f) = false
is_cell (Int v) = false
is_cell Nil = false
is_cell Cons = true

abbrev pub row_of : Work → Row
row_of (Term r) = r
row_of (Arguments r j) = r
row_of (Elements r) = r

-- the text of a piece of work
abbrev pub text_of : List Named → Store → Work → List ℕ
text_of names s (Term r) = text names (tree_at s r)
text_of names s (Arguments r j) =
    after_commas (plain_name names) (trees_of (drop j (arguments (tree_at s r)))) ++ codes ")"
text_of names s (Elements r) = further_elements (plain_name names) (tree_at s r) ++ codes "]"

-- the text of all that is to be written
abbrev pub text_of_all : List Named → Store → List Work → List ℕ
text_of_all names s [] = []
text_of_all names s (w ∷ ws) = text_of_all names s ws ++ text_of names s w

-- at most so many steps write it
abbrev pub steps_of : Store → Work → ℕ
steps_of s (Term r) = 2 * nodes (tree_at s r) - 1
steps_of s (Arguments r j) = 2 * sum_by nodes (drop j (arguments (tree_at s r))) + 1
steps_of s (Elements r) = 2 * nodes (tree_at s r)

abbrev pub steps_of_all : Store → List Work → ℕ
steps_of_all s ws = sum_by (steps_of s) ws

-- its row is held, and the symbols of the row's tree are
pub record IsReady (names : List Named) (s : Store) (w : Work) : Type 0 where
  pub held : IsHeld s (row_of w)
  pub named : HasNames names (tree_at s (row_of w))

-- the new list is the old one and more
abbrev pub Extends : {A : Type 0} → List A → List A → Type 0
Extends {A} old new = (more : List A) × (new ≡ old ++ more)

-- Some of the text is written, and the rest of it is to be written by fewer steps.
pub record Advances (names : List Named) (s : Store) (w : Work) (old new : List Work)
    (before after : List ℕ) : Type 0 where
  pub more : List Work
  pub written : List ℕ
  pub works : new ≡ old ++ more
  pub out : after ≡ before ++ written
  pub text : text_of names s w ≡ written ++ text_of_all names s more
  pub ready : All (IsReady names s) more
  pub fewer : steps_of_all s more < steps_of s w

-- An argument is to be written, and then those after it and the parenthesis.
pub record PushesArgument (s : Store) (row : Row) (j : ℕ) (old new : List Work) : Type 0 where
  pub next : Row
  pub held : IsHeld s next
  pub tree : slice_get (arguments (tree_at s row)) j ≡ Some (tree_at s next)
  pub works : new ≡ old ++ (Arguments row (j + 1) ∷ Term next ∷ [])

-- The elements of a cell, and the bracket after them, are to be written.
pub record PushesCell (names : List Named) (s : Store) (row : Row) (old new : List Work)
    : Type 0 where
  pub more : List Work
  pub works : new ≡ old ++ more
  pub text : elements (plain_name names) (trees_of (arguments (tree_at s row))) ++ codes "]"
      ≡ text_of_all names s more
  pub ready : All (IsReady names s) more
  pub fewer : steps_of_all s more + 3 ≤ 2 * nodes (tree_at s row)
