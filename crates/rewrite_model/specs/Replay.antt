-- What a list of events makes of a term.
use Rattle.std.specs.Prelude.{ℕ, zero, suc, List, [], ◌∷◌, ◌++◌, Option, Some, None, Bool, true, false, option_and_then, if◌then◌else◌}
use Rattle.std.specs.Option.{option_map}
use Rattle.term_model.specs.Tree.{Tree, Leaf, Node, Trees, End, More}
use Rattle.rewrite_model.specs.Rule.{Rule}
use Rattle.rewrite_model.specs.Derivation.{Replacement, replace_at}
use Rattle.rewrite_model.specs.declared.event.Event.{Event}
use Rattle.rewrite_model.specs.declared.event.Event.TheVariants.{Down, Up, Rule as Use}

-- whether a tree has a position
abbrev mutual
  pub has : List ℕ → Tree → Bool
  has [] t = true
  has (j ∷ js) (Leaf x) = false
  has (j ∷ js) (Node h ts) = has_in j js ts

  pub has_in : ℕ → List ℕ → Trees → Bool
  has_in j js End = false
  has_in zero js (More t ts) = false
  has_in (suc zero) js (More t ts) = has js t
  has_in (suc (suc j)) js (More t ts) = has_in (suc j) js ts

-- the position above; none above the root
abbrev pub above : List ℕ → Option (List ℕ)
above [] = None
above (j ∷ []) = Some []
above (j ∷ i ∷ is) = option_and_then (λ ks. Some (j ∷ ks)) (above (i ∷ is))

-- The cursor stands at a position. Down goes to an argument that is there, Up to the position
-- above, and Rule replaces where it stands; none where an event isn't possible.
module _ (rules : List Rule) where
  abbrev pub replayed : List Event → List ℕ → Tree → Option Tree
  replayed [] at t = Some t
  replayed (Down j ∷ es) at t = if has (at ++ j ∷ []) t then replayed es (at ++ j ∷ []) t else None
  replayed (Up ∷ es) at t = option_and_then (λ up. replayed es up t) (above at)
  replayed (Use k ∷ es) at t = option_and_then (λ u. replayed es at u) (replace_at rules at k t)

-- What events replace, with the cursor at a position before them; none where they go above the
-- root.
abbrev pub made_by : List Event → List ℕ → Option (List Replacement)
made_by [] at = Some []
made_by (Down j ∷ es) at = made_by es (at ++ j ∷ [])
made_by (Up ∷ es) at = option_and_then (λ up. made_by es up) (above at)
made_by (Use k ∷ es) at =
    option_map (λ ss. (let s : Replacement = record { position = at; rule = k } in s) ∷ ss)
    (made_by es at)
