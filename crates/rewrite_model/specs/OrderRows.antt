-- Worked rows: in which order arguments and conditions are evaluated, and what ends an evaluation.
-- What is built shows the order.
use Rattle.std.specs.Prelude.{◌≡◌, List, [], ◌∷◌}
use Rattle.rewrite_model.specs.Rule.{Rule}
use Rattle.rewrite_model.specs.Run.{Done, OutOfFuel, TooDeep}
use Rattle.rewrite_model.specs.Built.{built_list}
use Rattle.rewrite_model.specs.Samples.{a, b, c, l, s, f, g, pair, x, y, int, nil, cell, rule, rule_if, same, differ, value}

-- Arguments from left to right: a, then b, then the pair.
abbrev pub ArgumentsFromLeft : Type 0
ArgumentsFromLeft = built_list [] (pair a b) 0 9 ≡ a ∷ b ∷ pair a b ∷ []

-- So with the arguments of a right side: by f(X) -> pair(b, c).
abbrev pub RightSideFromLeft : Type 0
RightSideFromLeft =
    built_list (rule (f x) (pair b c) 1 ∷ []) (f a) 1 9 ≡ a ∷ f a ∷ b ∷ c ∷ pair b c ∷ []

-- l -> l takes all fuel. In room 3 the first argument has room 2 and the second room 1, which is
-- too little for s(b), whose b would have room 0. What comes first ends all.
abbrev loops : List Rule
loops = rule l l 0 ∷ []

abbrev pub FirstEndEndsAll : Type 0
FirstEndEndsAll =
    (value loops (pair l (s b)) 1 3 ≡ OutOfFuel) × (value loops (pair (s (s b)) l) 1 3 ≡ TooDeep)

-- A condition's first side before its second: by f(X) -> a if b <> c.
abbrev pub FirstSideFirst : Type 0
FirstSideFirst =
    built_list (rule_if (f x) a (differ b c ∷ []) 1 ∷ []) (f a) 1 9 ≡ a ∷ f a ∷ b ∷ c ∷ a ∷ []

-- Conditions in order up to the first that fails. By f(X) -> a if b = c and l = l, then f(X) ->
-- s(b): b = c fails, so l is not evaluated, which would take all fuel, and the next rule is used.
-- Both matches take fuel.
abbrev failing : List Rule
failing = rule_if (f x) a (same b c ∷ same l l ∷ []) 1 ∷ rule (f x) (s b) 1 ∷ rule l l 0 ∷ []

abbrev pub FailureEndsConditions : Type 0
FailureEndsConditions = (value failing (f a) 2 9 ≡ Done (s b) 0)
    × (built_list failing (f a) 2 9 ≡ a ∷ f a ∷ b ∷ c ∷ b ∷ s b ∷ [])

-- A condition that holds is followed by the next: by f(X) -> a if b <> c and g(b) = c, then f(X) ->
-- b, the second condition builds b, g(b) and c, and fails.
abbrev pub HoldingGoesOn : Type 0
HoldingGoesOn =
    built_list (rule_if (f x) a (differ b c ∷ same (g b) c ∷ []) 1 ∷ rule (f x) b 1 ∷ []) (f a) 2 9
    ≡ a ∷ f a ∷ b ∷ c ∷ b ∷ g b ∷ c ∷ b ∷ []

-- Integers, the empty list and cells are heads as symbols are. By f(7) -> a, f([]) -> b,
-- f([X|Y]) -> pair(X, Y): each fits its own head alone, and an integer no other integer.
abbrev heads : List Rule
heads = rule (f (int 7)) a 0 ∷ rule (f nil) b 0 ∷ rule (f (cell x y)) (pair x y) 2 ∷ []

abbrev pub HeadsAreTold : Type 0
HeadsAreTold =
    (value heads (f (int 7)) 1 9 ≡ Done a 0) × (value heads (f (int 8)) 1 9 ≡ Done (f (int 8)) 1)
    × (value heads (f nil) 1 9 ≡ Done b 0)
    × (value heads (f (cell (int 7) nil)) 1 9 ≡ Done (pair (int 7) nil) 0)

-- A cell's two parts are its arguments: by g(X) -> 8 the list [g(7), a] has the value [8, a], and
-- what is built has the head of each cell after its list.
abbrev pub CellsAreRewritten : Type 0
CellsAreRewritten =
    built_list (rule (g x) (int 8) 1 ∷ []) (cell (g (int 7)) (cell a nil)) 1 9
    ≡ int 7 ∷ g (int 7) ∷ int 8 ∷ a ∷ nil ∷ cell a nil ∷ cell (int 8) (cell a nil) ∷ []
