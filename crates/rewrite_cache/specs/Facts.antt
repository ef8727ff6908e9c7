-- Worked cached lists, and the rooms of small reductions.
use Rattle.std.specs.Prelude.{◌≡◌, List, [], ◌∷◌, length}
use Rattle.term_model.specs.Tree.{Tree}
use Rattle.rewrite_model.specs.Rule.{Rule}
use Rattle.rewrite_model.specs.Built.{total_built}
use Rattle.rewrite_model.specs.Samples.{x, a, b, f, g, rule}
use Rattle.rewrite_model.specs.Rows.{sums, one_and_one}
use Rattle.rewrite_cache.specs.Cached.{IsCachedOfAll, IsKnown, IsLeastRoom}

abbrev four_terms : List Tree
four_terms = one_and_one ∷ one_and_one ∷ one_and_one ∷ one_and_one ∷ []

-- four times 1 + 1 builds 28 trees, and one of its cached lists has 22
abbrev pub FourTermsRemembered : Type 0
FourTermsRemembered = (total_built sums four_terms 1000 1000 ≡ 28)
    × ((trees : List Tree) × (length trees ≡ 22) × IsCachedOfAll sums four_terms 1000 1000 trees)

-- f(X) -> g(X), g(X) -> b
abbrev chain : List Rule
chain = rule (f x) (g x) 1 ∷ rule (g x) b 1 ∷ []

-- f(a) builds each of its trees for the first time, so that its one cached list is the whole
abbrev pub FirstTimeIsWhole : Type 0
FirstTimeIsWhole = (trees : List Tree) → IsCachedOfAll chain (f a ∷ []) 9 99 trees
    → trees ≡ a ∷ f a ∷ g a ∷ b ∷ []

-- a second time the two trees inside may be left out
abbrev pub SecondTimeIsShorter : Type 0
SecondTimeIsShorter = IsCachedOfAll chain (f a ∷ f a ∷ []) 9 99 (a ∷ f a ∷ g a ∷ b ∷ a ∷ f a ∷ [])

-- f(a) takes two units of fuel, and a room of three: one for the rule, one for its variable and one
-- for the argument on its right side
abbrev pub TwoStepsTakeARoomOfThree : Type 0
TwoStepsTakeARoomOfThree = IsKnown chain (f a) b 2 3 × IsLeastRoom chain (f a) 3

-- the constant b, which no rule changes, takes no fuel and no room
abbrev pub ConstantTakesNoRoom : Type 0
ConstantTakesNoRoom = IsKnown chain b b 0 0 × IsLeastRoom chain b 0
