-- The heads of what rules build of terms are those of the terms, and those that the rules write.
use Rattle.std.specs.Prelude.{◌≡◌, ℕ, ◌^◌, List, Bool, true, ◌&&◌, nat_lt}
use Rattle.std.specs.List.{AllByRecursion}
use Rattle.term_model.specs.Tree.{Tree, Leaf, Node, Trees, End, More, count_of}
use Rattle.term_model.specs.declared.Head.{Head}
use Rattle.term_model.specs.declared.Head.TheVariants.{App, Int, Nil, Cons}
use Rattle.rewrite_model.specs.Rule.{Rule}
use Rattle.rewrite_model.specs.Run.{Done}
use Rattle.rewrite_model.specs.Evaluation.{evaluation}
use Rattle.rewrite_model.specs.Built.{built_list}
use Rattle.rewrite_model.specs.Outermost.{outermost, outermost_built}
use Rattle.log_check.specs.Form.{takes}

-- a test of heads, each over so many arguments
abbrev pub OfHeads : Type 0
OfHeads = Head → ℕ → Bool

-- each head of the tree passes
abbrev mutual
  pub AllHeads : OfHeads → Tree → Type 0
  AllHeads ok (Leaf x) = Unit {0}
  AllHeads ok (Node h ts) = (ok h (count_of ts) ≡ true) × EachHeads ok ts

  pub EachHeads : OfHeads → Trees → Type 0
  EachHeads ok End = Unit {0}
  EachHeads ok (More t ts) = AllHeads ok t × EachHeads ok ts

-- and of each head that a rule writes, on its right and in its conditions
pub record WritesHeads (ok : OfHeads) (r : Rule) : Type 0 where
  pub right : AllHeads ok r.right
  pub conditions : AllByRecursion (λ c. AllHeads ok c.first × AllHeads ok c.second) r.conditions

-- Then so does each head of the trees that are built, by either strategy, and of the value.
pub record BuildsHeads (ok : OfHeads) (rules : List Rule) (term : Tree)
    (fuel room : ℕ) : Type 0 where
  pub inside : AllByRecursion (AllHeads ok) (built_list rules term fuel room)
  pub outside : AllByRecursion (AllHeads ok) (outermost_built rules term fuel room)
  pub inside_value : (value : Tree) (left : ℕ) → (evaluation rules term fuel room).end
      ≡ Done value left → AllHeads ok value
  pub outside_value : (value : Tree) (left : ℕ) → (outermost rules term fuel room).end
      ≡ Done value left → AllHeads ok value

abbrev pub HeadsStay : Type 0
HeadsStay = (ok : OfHeads) (rules : List Rule) (term : Tree) (fuel room : ℕ)
    → AllByRecursion (WritesHeads ok) rules → AllHeads ok term → BuildsHeads ok rules term fuel room

-- a head that a log may tell: a symbol has a number below 65,535, and an integer is below 2^64
abbrev pub is_told : Head → Bool
is_told (App f) = nat_lt f.0 65535
is_told (Int v) = nat_lt v (2 ^ 64)
is_told Nil = true
is_told Cons = true

-- over so many arguments
abbrev pub may_tell : OfHeads
may_tell h count = is_told h && takes h count
