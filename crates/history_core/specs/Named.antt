-- A map that finds the name of each term.
use Rattle.std.specs.Prelude.{◌≡◌, ◌↔◌, ℕ, ◌==◌, ◌&&◌, Bool, true, false, Some, length, ◌<◌, ◌^◌}
use Rattle.std.specs.Cmp.Lexicographic.{pointwise}
use Rattle.std.specs.HashMap.{get, HashMap}
use Rattle.std.specs.declared.hash.FoldHasher.{FoldHasher}
use Rattle.std.specs.declared.hash.BuildHasherDefault.{BuildHasherDefault}
use Rattle.history_core.specs.declared.slots.Root.{Root}
use Rattle.history_core.specs.declared.slots.Root.TheVariants.{App, Int, Nil, Cons}
use Rattle.history_core.specs.declared.slots.Term.{Term}
use Rattle.history_core.specs.Slots.{Slots, slot_at}

abbrev pub Names : Type 0
Names = HashMap Term ℕ (BuildHasherDefault FoldHasher)

abbrev pub root_eq : Root → Root → Bool
root_eq (App f) (App g) = f == g
root_eq (Int v) (Int w) = v == w
root_eq Nil Nil = true
root_eq Cons Cons = true
root_eq _ _ = false

abbrev pub term_eq : Term → Term → Bool
term_eq a b = root_eq a.root b.root && pointwise (λ x y. x == y) a.args b.args

-- the map has the name of each slot's term, and no others
pub record Agree (slots : Slots) (names : Names) : Type 0 where
  pub each : (term : Term) (n : ℕ) → (get term_eq names term ≡ Some n)
      ↔ (slot_at slots n ≡ Some term)

-- The map agrees, no term has too many arguments, and no name is past the greatest.
pub record IsKept (slots : Slots) (names : Names) : Type 0 where
  pub agree : Agree slots names
  pub short : (n : ℕ) (term : Term) → slot_at slots n ≡ Some term → length term.args < 2 ^ 32
  pub few : length slots < 2 ^ 32
