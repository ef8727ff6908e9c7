-- Small symbols and rules, of which worked rows speak.
use Rattle.std.specs.Prelude.{ℕ, List, [], ◌∷◌, true, false, map}
use Rattle.term_model.specs.Tree.{Tree, Leaf, Node, trees_of}
use Rattle.term_model.specs.declared.Head.TheVariants.{App, Int, Nil, Cons}
use Rattle.rewrite_model.specs.Rule.{Rule, Condition}
use Rattle.rewrite_model.specs.Run.{Ended}
use Rattle.rewrite_model.specs.Evaluation.{evaluation}
use Rattle.rewrite_model.specs.Built.{trees_in_hand}
use Rattle.rewrite_model.specs.Outermost.{outermost}

-- the symbol with this number over trees
abbrev pub node : ℕ → List Tree → Tree
node n ts = Node (App (record { 0 = n })) (trees_of ts)

-- the variables X and Y
abbrev pub x : Tree
x = Leaf 0

abbrev pub y : Tree
y = Leaf 1

-- the constants z, a, b, c, l
abbrev pub z : Tree
z = node 0 []

abbrev pub a : Tree
a = node 7 []

abbrev pub b : Tree
b = node 8 []

abbrev pub c : Tree
c = node 9 []

abbrev pub l : Tree
l = node 13 []

-- the symbols s, d, f, g of one argument, pair of two, three of three
abbrev pub s : Tree → Tree
s t = node 1 (t ∷ [])

abbrev pub d : Tree → Tree
d t = node 14 (t ∷ [])

abbrev pub f : Tree → Tree
f t = node 11 (t ∷ [])

abbrev pub g : Tree → Tree
g t = node 12 (t ∷ [])

abbrev pub pair : Tree → Tree → Tree
pair t u = node 15 (t ∷ u ∷ [])

abbrev pub three : Tree → Tree → Tree → Tree
three t u v = node 16 (t ∷ u ∷ v ∷ [])

-- an integer, the empty list, and a cell
abbrev pub int : ℕ → Tree
int n = Node (Int n) (trees_of [])

abbrev pub nil : Tree
nil = Node Nil (trees_of [])

abbrev pub cell : Tree → Tree → Tree
cell t u = Node Cons (trees_of (t ∷ u ∷ []))

-- a rule of so many variables, without conditions or with some
abbrev pub rule : Tree → Tree → ℕ → Rule
rule left right k = record { left = left; right = right; conditions = []; vars = k }

abbrev pub rule_if : Tree → Tree → List Condition → ℕ → Rule
rule_if left right conditions k =
    record { left = left; right = right; conditions = conditions; vars = k }

abbrev pub same : Tree → Tree → Condition
same t u = record { first = t; second = u; equal = true }

abbrev pub differ : Tree → Tree → Condition
differ t u = record { first = t; second = u; equal = false }

-- how an evaluation of a term ends, with this fuel and room; and an outermost one
abbrev pub value : List Rule → Tree → ℕ → ℕ → Ended Tree
value rules t fuel room = (evaluation rules t fuel room).end

abbrev pub outermost_value : List Rule → Tree → ℕ → ℕ → Ended Tree
outermost_value rules t fuel room = (outermost rules t fuel room).end

-- how many different trees are in hand at each point of an evaluation, in order
abbrev pub in_hand : List Rule → Tree → ℕ → ℕ → List ℕ
in_hand rules t fuel room = map trees_in_hand (evaluation rules t fuel room).notes
