-- The nodes of written terms: each term after the terms in it, by the number of its part.
use Rattle.std.specs.Prelude.{ℕ, ◌+◌, List, [], ◌∷◌, ◌++◌, length, false}
use Rattle.term_syntax.specs.declared.machine.Node.{Node}
use Rattle.term_syntax.specs.Written.{Written, Call, Digits, Listed, Writtens, End, More, count_of}
use Rattle.term_syntax.specs.Parts.{parts_of}

-- how many parts a term has
abbrev pub size_of : Written → ℕ
size_of w = length (parts_of false w)

abbrev pub node : ℕ → ℕ → Node
node part cells = record { part = part; cells = cells }

-- the nodes of a term whose parts are numbered from here
abbrev mutual
  pub nodes_of : ℕ → Written → List Node
  nodes_of k (Call p n ws) = nodes_of_all (k + 1) ws ++ node k 0 ∷ []
  nodes_of k (Digits p v) = node k 0 ∷ []
  nodes_of k (Listed p ws) = nodes_of_all (k + 1) ws ++ node k (count_of ws) ∷ []

  pub nodes_of_all : ℕ → Writtens → List Node
  nodes_of_all k End = []
  nodes_of_all k (More w ws) = nodes_of k w ++ nodes_of_all (k + size_of w) ws

-- of one term after another
abbrev pub nodes_of_input : ℕ → List Written → List (List Node)
nodes_of_input k [] = []
nodes_of_input k (w ∷ ws) = nodes_of k w ∷ nodes_of_input (k + size_of w) ws
