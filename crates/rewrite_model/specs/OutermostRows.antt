-- Worked rows of outermost evaluation: which position goes first, and the least room that serves.
use Rattle.std.specs.Prelude.{◌≡◌, List, [], ◌∷◌}
use Rattle.rewrite_model.specs.Rule.{Rule}
use Rattle.rewrite_model.specs.Run.{Done, OutOfFuel, TooDeep}
use Rattle.rewrite_model.specs.Outermost.{outermost_built}
use Rattle.rewrite_model.specs.Samples.{a, b, c, l, s, f, g, pair, three, x, int, nil, cell, rule, outermost_value}

-- Of two positions the left one goes first. By f(X) -> c: a, f(a), b, f(b) and the pair are built;
-- then c for f(a) and the pair again; then c for f(b) and the pair again.
abbrev pub LeftmostFirst : Type 0
LeftmostFirst = outermost_built (rule (f x) c 1 ∷ []) (pair (f a) (f b)) 2 9
    ≡ a ∷ f a ∷ b ∷ f b ∷ pair (f a) (f b) ∷ c ∷ pair c (f b) ∷ c ∷ pair c c ∷ []

-- A right side is built in one room less: by f(X) -> g(X) in room 3 X has room 3 - 1 - 1 = 1, and
-- in room 2 none, though f(a) itself is built in room 2.
abbrev pub RightSideInOneLess : Type 0
RightSideInOneLess = (outermost_value (rule (f x) (g x) 1 ∷ []) (f a) 1 3 ≡ Done (g a) 0)
    × (outermost_value (rule (f x) (g x) 1 ∷ []) (f a) 1 2 ≡ TooDeep)

-- A tree with a changed argument is built again in a room of 1 plus the number of its arguments. By
-- f(X) -> s(s(X)), l -> b in room 6, f(three(l, l, c)) becomes s(s(three(l, l, c))), in which the
-- three arguments stand in room 6 - 2 = 4. In room 5 their room is 3: l still has room 2 and is
-- rewritten, but the tree over it isn't built again, though there would be no fuel for the second
-- l.
abbrev deeper : List Rule
deeper = rule (f x) (s (s x)) 1 ∷ rule l b 0 ∷ []

abbrev pub RoomToBuildAgain : Type 0
RoomToBuildAgain = (outermost_value deeper (f (three l l c)) 3 6 ≡ Done (s (s (three b b c))) 0)
    × (outermost_value deeper (f (three l l c)) 2 6 ≡ OutOfFuel)
    × (outermost_value deeper (f (three l l c)) 2 5 ≡ TooDeep)

-- The argument of f(l) is built, and tried, in the room less 1: in room 2 it has room 1, and in
-- room 1 none.
abbrev pub LeastRoom : Type 0
LeastRoom = (outermost_value [] (f l) 0 2 ≡ Done (f l) 0) × (outermost_value [] (f l) 0 1 ≡ TooDeep)

-- The second argument has the room less 2. Of pair(a, b) in room 2 a is built in room 1, and b
-- would be in none. By f(X) -> s(s(X)) in room 4, f(pair(a, b)) becomes s(s(pair(a, b))), where a
-- is tried in room 4 - 2 - 1 = 1, and b would be in none; in room 5 it has room 1.
abbrev pub SecondArgumentInTwoLess : Type 0
SecondArgumentInTwoLess = (outermost_built [] (pair a b) 0 3 ≡ a ∷ b ∷ pair a b ∷ [])
    × (outermost_built [] (pair a b) 0 2 ≡ a ∷ [])
    × (outermost_value deeper (f (pair a b)) 1 5 ≡ Done (s (s (pair a b))) 0)
    × (outermost_value deeper (f (pair a b)) 1 4 ≡ TooDeep)

-- A rule lacks fuel before it lacks room: by f(X) -> g(X) in room 2 without fuel.
abbrev pub FuelBeforeRoom : Type 0
FuelBeforeRoom = outermost_value (rule (f x) (g x) 1 ∷ []) (f a) 0 2 ≡ OutOfFuel

-- The parts of a cell are its arguments: by g(X) -> 8 the list [g(7)] becomes [8].
abbrev pub CellsAreRewritten : Type 0
CellsAreRewritten = outermost_built (rule (g x) (int 8) 1 ∷ []) (cell (g (int 7)) nil) 1 9
    ≡ int 7 ∷ g (int 7) ∷ nil ∷ cell (g (int 7)) nil ∷ int 8 ∷ cell (int 8) nil ∷ []
