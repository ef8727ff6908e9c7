-- Worked rows: the least room that serves, and the fuel, each beside the room or the fuel that is
-- one too little.
use Rattle.std.specs.Prelude.{◌≡◌, List, [], ◌∷◌}
use Rattle.rewrite_model.specs.Rule.{Rule}
use Rattle.rewrite_model.specs.Run.{Done, OutOfFuel, TooDeep}
use Rattle.rewrite_model.specs.Samples.{a, b, c, s, f, g, d, pair, x, y, rule, rule_if, differ, value}

-- A constant needs room 1. Argument i has the room less i: b of pair(a, b) has room 1 in room 3.
abbrev pub LeastRoom : Type 0
LeastRoom = (value [] a 0 1 ≡ Done a 0) × (value [] a 0 0 ≡ TooDeep)
    × (value [] (pair a b) 0 3 ≡ Done (pair a b) 0) × (value [] (pair a b) 0 2 ≡ TooDeep)

-- A variable as right side needs no room of its own: by f(X) -> X, f(b) is b in room 2, where b has
-- room 1 and the rule of one variable room 2.
abbrev pub VariableOnTheRight : Type 0
VariableOnTheRight = (value (rule (f x) x 1 ∷ []) (f b) 1 2 ≡ Done b 0)
    × (value (rule (f x) x 1 ∷ []) (f b) 1 1 ≡ TooDeep)

-- A variable in no room is too deep. By f(X) -> g(X), X has the room less 1 for the rule's variable
-- and less 1 for the first argument: room 1 in room 3, room 0 in room 2.
abbrev pub VariableInNoRoom : Type 0
VariableInNoRoom = (value (rule (f x) (g x) 1 ∷ []) (f b) 1 3 ≡ Done (g b) 0)
    × (value (rule (f x) (g x) 1 ∷ []) (f b) 1 2 ≡ TooDeep)

-- The same of a rule of two variables: by pair(X, Y) -> f(X), X has room 1 in room 4, and none in
-- room 3.
abbrev pub RightSideOfTwo : Type 0
RightSideOfTwo = (value (rule (pair x y) (f x) 2 ∷ []) (pair a b) 1 4 ≡ Done (f a) 0)
    × (value (rule (pair x y) (f x) 2 ∷ []) (pair a b) 1 3 ≡ TooDeep)

-- A right side is reduced in the whole room. By f(X) -> g(X), g(X) -> d(X), d(X) -> a, each of the
-- three uses has X in room 3 - 1 - 1 = 1. In less room the second would have it in none.
abbrev chain : List Rule
chain = rule (f x) (g x) 1 ∷ rule (g x) (d x) 1 ∷ rule (d x) a 1 ∷ []

abbrev pub TailInWholeRoom : Type 0
TailInWholeRoom = value chain (f b) 3 3 ≡ Done a 0

-- A rule of k variables needs a room of k + 1. By f(X) -> s(g(X)), g(pair(X, Y)) -> a, in room 5:
-- f(pair(a, b)) is reduced in room 5, and g(pair(a, b)), as first argument of a right side of one
-- variable, in room 5 - 1 - 1 = 3, which the rule of two variables needs. In room 4 it has room 2.
abbrev deeper : List Rule
deeper = rule (f x) (s (g x)) 1 ∷ rule (g (pair x y)) a 2 ∷ []

abbrev pub RoomForVariables : Type 0
RoomForVariables =
    (value deeper (f (pair a b)) 2 5 ≡ Done (s a) 0) × (value deeper (f (pair a b)) 2 4 ≡ TooDeep)

-- A rule that lacks both fuel and room is out of fuel: the same in room 4 with fuel for one use.
abbrev pub FuelBeforeRoom : Type 0
FuelBeforeRoom = value deeper (f (pair a b)) 1 4 ≡ OutOfFuel

-- A condition's first side has the room less 2 less k. By f(X) -> a if g(g(b)) <> b, in room 6:
-- g(g(b)) has room 6 - 2 - 1 = 3, so that b in it has room 1. The second side has room 2.
abbrev first_deep : List Rule
first_deep = rule_if (f x) a (differ (g (g b)) b ∷ []) 1 ∷ []

abbrev pub RoomOfFirstSide : Type 0
RoomOfFirstSide = (value first_deep (f a) 1 6 ≡ Done a 0) × (value first_deep (f a) 1 5 ≡ TooDeep)

-- Its second side has the room less 3 less k. By f(X) -> a if c <> b, in room 5: b has room
-- 5 - 3 - 1 = 1. In room 4 c still has room 1, and b none.
abbrev second_deep : List Rule
second_deep = rule_if (f x) a (differ c b ∷ []) 1 ∷ []

abbrev pub RoomOfSecondSide : Type 0
RoomOfSecondSide =
    (value second_deep (f a) 1 5 ≡ Done a 0) × (value second_deep (f a) 1 4 ≡ TooDeep)

-- The same of a rule of two variables, pair(X, Y) -> a with these conditions: one room more each.
abbrev pub RoomOfSidesOfTwo : Type 0
RoomOfSidesOfTwo =
    (value (rule_if (pair x y) a (differ (g (g b)) b ∷ []) 2 ∷ []) (pair a b) 1 7 ≡ Done a 0)
    × (value (rule_if (pair x y) a (differ (g (g b)) b ∷ []) 2 ∷ []) (pair a b) 1 6 ≡ TooDeep)
    × (value (rule_if (pair x y) a (differ c b ∷ []) 2 ∷ []) (pair a b) 1 6 ≡ Done a 0)
    × (value (rule_if (pair x y) a (differ c b ∷ []) 2 ∷ []) (pair a b) 1 5 ≡ TooDeep)
