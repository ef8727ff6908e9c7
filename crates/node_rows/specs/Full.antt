-- What a pass knows where it finds no row free: the only one of a store, and one after a collection
-- in its exclusive access.
use Rattle.std.specs.Prelude.{◌≡◌, ℕ, ◌<◌, ◌≤◌, true, Some, List}
use mathlib.Core.Option.{some}
use lib.ListN.{get_elem?}
use Rattle.atomic_table.specs.Table.{State, Me, Step}
use Rattle.term_model.specs.Tree.{Tree}
use Rattle.history_core.specs.declared.entry.Entry.{Entry}
use Rattle.history_core.specs.TermSet.{Names, Holds, IsHeld, Lacks, tree_over}
use Rattle.store_model.specs.declared.view.Sizes.{Sizes}
use Rattle.store_model.specs.declared.view.Content.{Content}
use Rattle.store_model.specs.declared.view.Call.{Call}
use Rattle.store_model.specs.declared.view.Call.TheVariants.{Counting, Drawing}
use Rattle.store_model.specs.Laws.{held_by}
use Rattle.store_model.specs.Machine.{Go}
use Rattle.node_rows.specs.declared.view.NodeView.{NodeView}
use Rattle.node_rows.specs.Shown.{store_at}
use Rattle.node_rows.specs.Joining.{ShowsJoined}
use Rattle.node_rows.specs.Knowing.{held_alone, KnowsTree}
use Rattle.node_rows.specs.Steps.{goes_on}

-- the set that the entries of one pass leave has a tree for each of the first n names
abbrev pub HoldsAll : ℕ → List Entry → Type 0
HoldsAll n es = (r : ℕ) → r < n → IsHeld (held_alone es) r

-- A creation of the only pass loads a free count n that is at most the claim, or draws a number n
-- that is at least the free count: then each row has a tree.
abbrev pub FullAlone : Sizes → List Entry → Call → ℕ → Type 0
FullAlone z es (Counting c from claim) n = z.seats ≡ 1 → n ≤ claim → HoldsAll z.rows es
FullAlone z es (Drawing c from count) n = z.seats ≡ 1 → count ≤ n → HoldsAll z.rows es
FullAlone z es x n = Unit {0}

-- a moment at which seat i has the view v: a table that the rule allows
pub record Moment (z : Sizes) (i : ℕ) (v : NodeView) : Type 0 where
  pub table : State (Unit {0}) NodeView
  pub rule : ShowsJoined z table
  pub own : get_elem? rule.known i ≡ some v

-- the trees under their names that the entries of all passes leave then
abbrev pub held_then : (z : Sizes) (i : ℕ) (v : NodeView) → Moment z i v → Names
held_then z i v m = held_by z (store_at z m.rule.known)

-- At a moment at which seat i has this view each row has a tree, and none has the head of c over
-- the trees of its rows. What the pass knows of trees is so then.
pub record IsFilled (z : Sizes) (i : ℕ) (v : NodeView) (c : Content) : Type 0 where
  pub moment : Moment z i v
  pub all : (r : ℕ) → r < z.rows → IsHeld (held_then z i v moment) r
  pub absent : Lacks (held_then z i v moment)
      (tree_over (held_then z i v moment) c.head c.arguments)
  pub knows : (r : ℕ) (t : Tree) → KnowsTree v.store.knows r t → Holds (held_then z i v moment) r t

-- A creation after a collection in its exclusive access loads a free count n that is at most the
-- claim, or draws a number n that is at least the free count: then the store is filled, and lacks
-- the tree.
abbrev pub FullAfter : Sizes → ℕ → NodeView → Call → ℕ → Type 0
FullAfter z i v (Counting c from claim) n = v.store.fresh ≡ true → n ≤ claim → IsFilled z i v c
FullAfter z i v (Drawing c from count) n = v.store.fresh ≡ true → count ≤ n → IsFilled z i v c
FullAfter z i v x n = Unit {0}

-- a load and a draw of a creation tell this besides
abbrev pub fills_on : Step (Unit {0}) → Me (Unit {0}) NodeView → ℕ → Me (Unit {0}) NodeView → Type 0
fills_on st me n me' =
    goes_on Go st me n me' × FullAlone me.0.sizes me.0.store.entries me.0.store.call n
    × ((i : ℕ) → me.0.lock.number ≡ Some i → FullAfter me.0.sizes i me.0 me.0.store.call n)
