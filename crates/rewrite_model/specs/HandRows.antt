-- Worked rows: how many different trees are in hand at each point, in order, the subtrees of each
-- counted. Need is the greatest.
use Rattle.std.specs.Prelude.{◌≡◌, List, [], ◌∷◌}
use Rattle.rewrite_model.specs.Rule.{Rule}
use Rattle.rewrite_model.specs.Built.{need}
use Rattle.rewrite_model.specs.Samples.{a, b, c, s, z, f, g, d, pair, x, rule, rule_if, differ, in_hand}

-- The values of earlier arguments are kept. By f(X) -> a, pair(s(z), f(g(c))) has the points z,
-- s(z), and then, with s(z) kept, c, g(c), f(g(c)), and a with g(c), which its rule bound; and
-- pair(s(z), a). At f(g(c)) there are f(g(c)), g(c), c, s(z), z. Without what is kept there would
-- be 3.
abbrev pub EarlierArguments : Type 0
EarlierArguments =
    (in_hand (rule (f x) a 1 ∷ []) (pair (s z) (f (g c))) 1 9 ≡ 1 ∷ 2 ∷ 3 ∷ 4 ∷ 5 ∷ 5 ∷ 4 ∷ [])
    × (need (rule (f x) a 1 ∷ []) (pair (s z) (f (g c))) 1 9 ≡ 5)

-- The point where a right side is reduced has the bound trees: by f(X) -> d(a), f(g(c)) has the
-- points c, g(c), f(g(c)), then a with g(c), and d(a) with g(c): d(a), a, g(c), c.
abbrev pub BoundAtTheRightSide : Type 0
BoundAtTheRightSide = (in_hand (rule (f x) (d a) 1 ∷ []) (f (g c)) 1 9 ≡ 1 ∷ 2 ∷ 3 ∷ 3 ∷ 4 ∷ [])
    × (need (rule (f x) (d a) 1 ∷ []) (f (g c)) 1 9 ≡ 4)

-- In the reductions that follow they are let go. By f(X) -> d(a), d(X) -> pair(b, b): after d(a),
-- with g(c), come b with a; b with b and a; and pair(b, b) with a. With g(c) they would be 4, 4 and
-- 5.
abbrev tail : List Rule
tail = rule (f x) (d a) 1 ∷ rule (d x) (pair b b) 1 ∷ []

abbrev pub BoundTreesAreLetGo : Type 0
BoundTreesAreLetGo = (in_hand tail (f (g c)) 2 9 ≡ 1 ∷ 2 ∷ 3 ∷ 3 ∷ 4 ∷ 2 ∷ 2 ∷ 3 ∷ [])
    × (need tail (f (g c)) 2 9 ≡ 4)

-- While the arguments of a right side are evaluated its rule's bound trees are kept. By f(X) ->
-- d(g(s(b))), g(s(X)) -> a, f(g(c)) has c, g(c), f(g(c)); with g(c) kept b, s(b), g(s(b)), and a
-- with b too, which its rule bound; and d(a) with g(c). At g(s(b)) there are g(s(b)), s(b), b,
-- g(c), c.
abbrev inner : List Rule
inner = rule (f x) (d (g (s b))) 1 ∷ rule (g (s x)) a 1 ∷ []

abbrev pub BoundRoundArguments : Type 0
BoundRoundArguments = (in_hand inner (f (g c)) 2 9 ≡ 1 ∷ 2 ∷ 3 ∷ 3 ∷ 4 ∷ 5 ∷ 4 ∷ 4 ∷ [])
    × (need inner (f (g c)) 2 9 ≡ 5)

-- In a condition the tree on which its rule is tried is kept, and at its second side the first
-- one's value. By f(X) -> a if s(b) <> z, f(g(c)) has c, g(c), f(g(c)); with f(g(c)) kept b and
-- s(b); with s(b) too z: z, s(b), b, f(g(c)), g(c), c; and a with g(c).
abbrev pub KeptInCondition : Type 0
KeptInCondition =
    (in_hand (rule_if (f x) a (differ (s b) z ∷ []) 1 ∷ []) (f (g c)) 1 9
    ≡ 1 ∷ 2 ∷ 3 ∷ 4 ∷ 5 ∷ 6 ∷ 3 ∷ [])
    × (need (rule_if (f x) a (differ (s b) z ∷ []) 1 ∷ []) (f (g c)) 1 9 ≡ 6)
