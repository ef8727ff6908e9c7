-- Worked rows: small specifications, their terms, and what comes of them.
use Rattle.std.specs.Prelude.{◌≡◌, ℕ, zero, suc, List, [], ◌∷◌}
use Rattle.term_model.specs.Tree.{Tree}
use Rattle.rewrite_model.specs.Rule.{Rule}
use Rattle.rewrite_model.specs.Run.{Done, OutOfFuel, TooDeep}
use Rattle.rewrite_model.specs.Built.{built_list, need, total_built, distinct_built}
use Rattle.rewrite_model.specs.Outermost.{outermost_built}
use Rattle.rewrite_model.specs.Samples.{node, x, y, z, a, b, c, l, s, f, g, rule, rule_if, same, differ, value, outermost_value}

-- numbers: z, s(X), plus(X, Y), mult(X, Y)
abbrev plus : Tree → Tree → Tree
plus t u = node 2 (t ∷ u ∷ [])

abbrev mult : Tree → Tree → Tree
mult t u = node 3 (t ∷ u ∷ [])

abbrev pub sums : List Rule
sums = rule (plus x z) x 1 ∷ rule (plus x (s y)) (s (plus x y)) 2 ∷ []

abbrev pub products : List Rule
products = rule (plus x z) x 1 ∷ rule (plus x (s y)) (s (plus x y)) 2 ∷ rule (mult x z) z 1
    ∷ rule (mult x (s y)) (plus (mult x y) x) 2 ∷ []

abbrev pub one_and_one : Tree
one_and_one = plus (s z) (s z)

-- 1 + 1 is 2, with two uses of rules
abbrev pub OneAndOne : Type 0
OneAndOne = value sums one_and_one 2 1000 ≡ Done (s (s z)) 0

abbrev pub OneUseIsTooFew : Type 0
OneUseIsTooFew = value sums one_and_one 1 1000 ≡ OutOfFuel

abbrev pub RoomSix : Type 0
RoomSix = value sums one_and_one 1000 6 ≡ Done (s (s z)) 998

abbrev pub RoomFive : Type 0
RoomFive = value sums one_and_one 1000 5 ≡ TooDeep

-- what it builds, 5 different trees, of which at most 3 are in hand
abbrev pub OneAndOneBuilds : Type 0
OneAndOneBuilds = built_list sums one_and_one 1000 1000 ≡ z ∷ s z ∷ z ∷ s z ∷ plus (s z) (s z)
    ∷ plus (s z) z ∷ s (s z) ∷ []

abbrev pub OneAndOneNeeds : Type 0
OneAndOneNeeds = need sums one_and_one 1000 1000 ≡ 3

abbrev four_terms : List Tree
four_terms = one_and_one ∷ one_and_one ∷ one_and_one ∷ one_and_one ∷ []

abbrev pub FourTermsBuild : Type 0
FourTermsBuild =
    (total_built sums four_terms 1000 1000 ≡ 28) × (distinct_built sums four_terms 1000 1000 ≡ 5)

-- a variable that occurs twice needs equal trees: eq(X, X) -> t
abbrev t : Tree
t = node 5 []

abbrev eq : Tree → Tree → Tree
eq u v = node 6 (u ∷ v ∷ [])

abbrev pub Twice : Type 0
Twice = (value (rule (eq x x) t 1 ∷ []) (eq (s z) (s z)) 9 99 ≡ Done t 8)
    × (value (rule (eq x x) t 1 ∷ []) (eq (s z) z) 9 99 ≡ Done (eq (s z) z) 9)

-- a constant e
abbrev e : Tree
e = node 10 []

-- g(X) -> b, f(X) -> a if g(X) = b and X <> c, f(X) -> e
abbrev guarded : List Rule
guarded = rule (g x) b 1 ∷ rule_if (f x) a (same (g x) b ∷ differ x c ∷ []) 1 ∷ rule (f x) e 1 ∷ []

abbrev pub Guarded : Type 0
Guarded = (value guarded (f c) 3 99 ≡ Done e 0) × (value guarded (f c) 2 99 ≡ OutOfFuel)
    × (value guarded (f a) 2 99 ≡ Done a 0)

-- a condition that asks for itself: f(X) -> a if f(X) = b
abbrev pub AsksForItself : Type 0
AsksForItself = value (rule_if (f x) a (same (f x) b ∷ []) 1 ∷ []) (f c) 3 99 ≡ OutOfFuel

-- the first rule that fits is used
abbrev pub FirstRule : Type 0
FirstRule = value (rule (f x) a 1 ∷ rule (f b) c 0 ∷ []) (f b) 9 99 ≡ Done a 8

-- products of numbers, 1 + b(a + 2) uses of rules
abbrev number : ℕ → Tree
number zero = z
number (suc n) = s (number n)

abbrev pub Products : Type 0
Products = value products (mult (number 3) (number 1)) 6 1000 ≡ Done (number 3) 0

-- the outermost position first: f(X) -> a, l -> l
abbrev loops : List Rule
loops = rule (f x) a 1 ∷ rule l l 0 ∷ []

abbrev pub OutermostEnds : Type 0
OutermostEnds = (outermost_value loops (f l) 1 2 ≡ Done a 0) × (value loops (f l) 5 99 ≡ OutOfFuel)
    × (outermost_value loops (f l) 1 1 ≡ TooDeep)

abbrev pub OutermostSums : Type 0
OutermostSums = (outermost_value sums one_and_one 2 1000 ≡ Done (s (s z)) 0)
    × (outermost_value sums one_and_one 1 1000 ≡ OutOfFuel)

abbrev pub OutermostBuilds : Type 0
OutermostBuilds = outermost_built sums one_and_one 2 1000 ≡ z ∷ s z ∷ z ∷ s z ∷ plus (s z) (s z)
    ∷ plus (s z) z ∷ s (plus (s z) z) ∷ s (s z) ∷ []
