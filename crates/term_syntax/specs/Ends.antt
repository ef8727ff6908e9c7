-- Nodes of terms in one list, and where each term ends.
use Rattle.std.specs.Prelude.{ℕ, zero, suc, ◌≤◌, ◌-◌, List, [], ◌∷◌, take, drop}
use Rattle.term_syntax.specs.declared.machine.Node.{Node}

-- the nodes of each whole term, and those of the term that is begun
pub record Nodes : Type 0 where
  pub terms : List (List Node)
  pub begun : List Node

-- ends from a place on, none before the one before it, of so many nodes
abbrev pub AreEnds : ℕ → List ℕ → ℕ → Type 0
AreEnds from [] size = from ≤ size
AreEnds from (e ∷ es) size = (from ≤ e) × AreEnds e es size

-- the nodes of each term, from a place on
abbrev pub parted : ℕ → List ℕ → List Node → List (List Node)
parted from [] nodes = []
parted from (e ∷ es) nodes = take (e - from) (drop from nodes) ∷ parted e es nodes

-- the last end, or the place
abbrev pub last_end : ℕ → List ℕ → ℕ
last_end from [] = from
last_end from (e ∷ es) = last_end e es

-- where the term of a number starts: at the place, or at the end before
abbrev pub start_in : ℕ → List ℕ → ℕ → ℕ
start_in from es zero = from
start_in from [] (suc n) = from
start_in from (e ∷ es) (suc n) = start_in e es n

-- nodes in one list, parted by these ends: what stands behind the last end belongs to the term that
-- is begun
abbrev pub nodes_in : List ℕ → List Node → Nodes
nodes_in ends nodes = record {
  terms = parted 0 ends nodes;
  begun = drop (last_end 0 ends) nodes;
}
