-- Where bases come from, and how fast they grow.
use Rattle.std.specs.Prelude.{◌≡◌, ◌⊎◌, ℕ, suc, ◌+◌, ◌*◌, ◌≤◌, if◌then◌else◌, List, [], ◌∷◌, length}
use Rattle.history_core.specs.Entry.{is_collect, key}
use Rattle.history_core.specs.Chronicle.{History, chronicle}
use Rattle.store_model.specs.Calls.{View}
use Rattle.store_model.specs.Machine.{Sizes, In}
use Rattle.store_model.specs.Invariant.{span, listed}

-- the numbers of the collections, in order
abbrev pub collect_numbers : History → List ℕ
collect_numbers [] = []
collect_numbers (x ∷ xs) =
    if is_collect x.1 then key x.1 ∷ collect_numbers xs else collect_numbers xs

-- each is below first + c * wide, the first of them being the c-th
abbrev pub StaysBelow : (first wide c : ℕ) → List ℕ → Type 0
StaysBelow first wide c [] = Unit {0}
StaysBelow first wide c (n ∷ ns) = (n + 1 ≤ first + c * wide) × StaysBelow first wide (suc c) ns

-- the first base, or one more than the number of a collection
abbrev pub IsBase : ℕ → List ℕ → ℕ → Type 0
IsBase first ns b = (b ≡ first) ⊎ ((n : ℕ) × In n ns × (b ≡ n + 1))

abbrev pub collections : Sizes → (ℕ → View) → List ℕ
collections z view = collect_numbers (chronicle (listed z.seats (λ j. (view j).entries)))

pub record BasesKnown (z : Sizes) (base : ℕ) (view : ℕ → View) : Type 0 where
  pub numbers : StaysBelow z.first (span z) 1 (collections z view)
  pub below : base ≤ z.first + length (collections z view) * span z
  pub known : IsBase z.first (collections z view) base
  -- a base that a seat has loaded or stored; 0 where it has none
  pub seats : (j : ℕ) → ((view j).base ≡ 0) ⊎ IsBase z.first (collections z view) (view j).base
