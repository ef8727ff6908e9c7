-- The derivation that leftmost innermost evaluation makes, and its events: moves of a cursor, and
-- uses of rules where it stands.
use Rattle.std.specs.Prelude.{ℕ, zero, suc, List, [], ◌∷◌, ◌++◌, length, replicate, map, Option, Some, None, if◌then◌else◌, ◌==◌}
use Rattle.std.specs.Option.{option_map}
use Rattle.term_model.specs.Tree.{Tree, Leaf, Node, Trees, End, More}
use Rattle.rewrite_model.specs.Rule.{Rule}
use Rattle.rewrite_model.specs.Matching.{match_of, if_matched}
use Rattle.rewrite_model.specs.Derivation.{Replacement, replaced}
use Rattle.rewrite_model.specs.declared.event.Event.{Event}
use Rattle.rewrite_model.specs.declared.event.Event.TheVariants as event

-- the number of the first rule that matches
abbrev pub first_match : List Rule → Tree → Option ℕ
first_match [] t = None
first_match (r ∷ rs) t =
    if_matched (match_of r.left t) (option_map (λ k. suc k) (first_match rs t)) (λ bound. Some 0)

abbrev pub at_root_by : ℕ → Replacement
at_root_by k = record { position = []; rule = k }

-- in the first argument, or one argument further on
abbrev pub in_first : Replacement → Replacement
in_first s = record { position = 1 ∷ s.position; rule = s.rule }

abbrev pub one_further : List ℕ → List ℕ
one_further [] = []
one_further (j ∷ js) = suc j ∷ js

abbrev pub in_next : Replacement → Replacement
in_next s = record { position = one_further s.position; rule = s.rule }

-- the one, or else the other
abbrev pub or_else : Option Replacement → Option Replacement → Option Replacement
or_else (Some s) other = Some s
or_else None other = other

-- Leftmost innermost: in the first argument that a rule changes, or else at the root, by the first
-- rule that matches.
module _ (rules : List Rule) where
  abbrev mutual
    pub innermost : Tree → Option Replacement
    innermost (Leaf x) = option_map at_root_by (first_match rules (Leaf x))
    innermost (Node h ts) =
        or_else (innermost_in ts) (option_map at_root_by (first_match rules (Node h ts)))

    pub innermost_in : Trees → Option Replacement
    innermost_in End = None
    innermost_in (More t ts) =
        or_else (option_map in_first (innermost t)) (option_map in_next (innermost_in ts))

  -- one after another, no more than so many
  abbrev pub goes_on : (Tree → List Replacement) → Replacement → Option Tree → List Replacement
  goes_on go s None = []
  goes_on go s (Some u) = s ∷ go u

  abbrev pub replaces : (Tree → List Replacement) → Tree → Option Replacement → List Replacement
  replaces go t None = []
  replaces go t (Some s) = goes_on go s (replaced rules s t)

  abbrev pub replacements : ℕ → Tree → List Replacement
  replacements zero t = []
  replacements (suc n) t = replaces (replacements n) t (innermost t)

-- The fewest moves from a position to another: up to the last that both have in common, and then
-- down.
abbrev pub downs : List ℕ → List Event
downs js = map (λ j. event.Down j) js

abbrev pub ups : ℕ → List Event
ups n = replicate n event.Up

abbrev pub moves : List ℕ → List ℕ → List Event
moves [] to = downs to
moves (i ∷ is) [] = ups (suc (length is))
moves (i ∷ is) (j ∷ js) = if i == j then moves is js else ups (suc (length is)) ++ downs (j ∷ js)

-- the events of replacements, with the cursor at a position before them
abbrev pub events_from : List ℕ → List Replacement → List Event
events_from at [] = []
events_from at (s ∷ ss) = moves at s.position ++ event.Rule s.rule ∷ events_from s.position ss

-- of an evaluation with so much fuel
abbrev pub trace : List Rule → Tree → ℕ → List Event
trace rules t fuel = events_from [] (replacements rules fuel t)
