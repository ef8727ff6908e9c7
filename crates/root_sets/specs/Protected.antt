-- The rows that a pass protects, and what a call on them leaves.
use Rattle.std.specs.Prelude.{◌≡◌, ◌⊎◌, ℕ, ◌+◌, ◌-◌, ◌<◌, ◌≤◌, List, ◌++◌, length, get_or, take, drop}
use Rattle.store_model.specs.Machine.{In}
use Rattle.node_rows.specs.declared.view.NodeView.{NodeView}
use Rattle.node_rows.specs.Steps.{with_store}

-- nothing but the protected rows has changed, and all rows that the pass may use it may use still
pub record Keeps (v w : NodeView) : Type 0 where
  pub only : w ≡ with_store v
      (record v.store { roots = w.store.roots; root_count = w.store.root_count; got = w.store.got })
  pub uses : (r : ℕ) → In r v.store.got → In r w.store.got

-- the lowest and the highest of these
abbrev pub ends_of : List ℕ → ℕ → ℕ → ℕ → List ℕ
ends_of rows count lowest highest = take lowest rows ++ drop (count - highest) rows

-- n rows from the place `last` on were copied to those from `from` on, and the others are as they
-- were
pub record Moved (old new : List ℕ) (last from n : ℕ) : Type 0 where
  pub long : length new ≡ length old
  pub moved : (i : ℕ) → i < n → get_or new (from + i) 0 ≡ get_or old (last + i) 0
  pub kept : (i : ℕ) → (i < from) ⊎ (from + n ≤ i) → get_or new i 0 ≡ get_or old i 0
