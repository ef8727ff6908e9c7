-- What a pass knows of its crowd where it finds no row free after its collection.
use Rattle.std.specs.Prelude.{◌≡◌, ℕ, Contains}
use Rattle.term_model.specs.Tree.{Node, Trees, distinct}
use Rattle.store_model.specs.declared.view.Sizes.{Sizes}
use Rattle.store_model.specs.declared.view.Content.{Content}
use Rattle.node_rows.specs.declared.view.NodeView.{NodeView}
use Rattle.node_rows.specs.Crowding.{IsSwept}
use Rattle.node_rows.specs.Full.{IsFilled}
use Rattle.node_rows.specs.Knowing.{KnowsTrees}

-- The crowd has as many different trees as there are rows, and the tree of this content, where the
-- pass knows it, is none of them.
pub record IsCrowded (z : Sizes) (v : NodeView) (c : Content) : Type 0 where
  pub full : distinct v.crowd ≡ z.rows
  pub absent : (ts : Trees) → KnowsTrees v.store.knows c.arguments ts
      → Contains v.crowd (Node c.head ts) → ⊥

-- Where a store is filled, and a pass has noted nothing since its collection, in the same access,
-- its crowd fills it.
abbrev pub FilledIsCrowded : Sizes → Type 0
FilledIsCrowded z = (i : ℕ) (v : NodeView) (c : Content) → IsFilled z i v c → IsSwept v.store
    → IsCrowded z v c
