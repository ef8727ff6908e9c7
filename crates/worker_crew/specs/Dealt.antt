-- The rule of the draws: which numbers were drawn, and by whom.
use Rattle.std.specs.Prelude.{◌≡◌, ◌≢◌, ℕ, ◌+◌, ◌-◌, ◌<◌, ◌≤◌, ◌^◌, ◌==◌, List, [], ◌∷◌, ◌++◌, length, count_by, sum_by, nat_lt, slice_index, if◌then◌else◌, All}
use mathlib.Core.Option.{some}
use lib.ListN.{get_elem?}
use Rattle.atomic_table.specs.Table.{State, Me, Step}
use Rattle.atomic_table.specs.Seated.{TableId}
use Rattle.worker_crew.specs.declared.draws.Drawn.{Drawn}
use Rattle.worker_crew.specs.declared.draws.Extent.{Extent}

-- how often a number is in a list
abbrev pub times : ℕ → List ℕ → ℕ
times x xs = count_by (λ y. y == x) xs

-- once, where it is below n
abbrev pub once_below : ℕ → ℕ → ℕ
once_below n x = if nat_lt x n then 1 else 0

-- The numbers below the one word are each in one view's list alone, once. A view without a share
-- has none. Each share draws past the end once at most.
pub record IsDealt (about : Extent) (s : State (Unit {0}) Drawn) : Type 0 where
  pub one_word : length s.words ≡ 1
  pub once : (x : ℕ) → sum_by (λ v. times x v.numbers) s.views
      ≡ once_below (slice_index s.words 0) x
  pub shares : sum_by (λ v. v.shares) s.views ≡ about.shares
  pub idle : (k : ℕ) (v : Drawn) → get_elem? s.views k ≡ some v → v.shares ≡ 0 → v.numbers ≡ []
  pub end : (k : ℕ) (v : Drawn) → get_elem? s.views k ≡ some v → 0 < v.shares → v.end ≡ about.end
  pub past : (k : ℕ) (v : Drawn) → get_elem? s.views k ≡ some v → v.past ≤ v.shares
  pub word : slice_index s.words 0 ≤ about.end + sum_by (λ v. v.past) s.views
  pub fits : about.end + about.shares < 2 ^ 64

-- with all shares, and no number drawn
abbrev pub undrawn : Extent → Drawn
undrawn about = record { numbers = []; shares = about.shares; end = about.end; past = 0 }

-- with the number found
abbrev pub drew : Drawn → ℕ → Drawn
drew v n = record {
  numbers = v.numbers ++ n ∷ [];
  shares = v.shares;
  end = v.end;
  past = if nat_lt n v.end then v.past else v.past + 1;
}

-- what a draw tells: the number found is drawn, and is above all that were drawn before
abbrev pub Draws : Step (Unit {0}) → Me (Unit {0}) Drawn → ℕ → Me (Unit {0}) Drawn → Type 0
Draws step before n after = (after ≡ (drew before.0 n, [])) × All (λ x. x < n) before.0.numbers

-- what a look tells one who has all shares: how many numbers are drawn
abbrev pub Looks : Step (Unit {0}) → Me (Unit {0}) Drawn → ℕ → Me (Unit {0}) Drawn → Type 0
Looks step before n after = (after ≡ before) × ((x : ℕ) → times x before.0.numbers ≡ once_below n x)

-- one share is cut off
abbrev pub one_less : Drawn → Drawn
one_less v = record { numbers = v.numbers; shares = v.shares - 1; end = v.end; past = v.past }

abbrev pub one_share : Drawn → Drawn
one_share v = record { numbers = []; shares = 1; end = v.end; past = 0 }

-- what two drew together; the second is left with nothing
abbrev pub joined : Drawn → Drawn → Drawn
joined v w = record {
  numbers = v.numbers ++ w.numbers;
  shares = v.shares + w.shares;
  end = w.end;
  past = v.past + w.past;
}

abbrev pub spent : Drawn
spent = record { numbers = []; shares = 0; end = 0; past = 0 }

-- a seat of this table of one word has this view
pub record IsIn (table of : TableId) (me : Me (Unit {0}) Drawn) (v : Drawn) : Type 0 where
  pub table_is : of ≡ table
  pub one_word : table.words ≡ 1
  pub me_is : me ≡ (v, [])

-- a number is once in the list of one view, and in no other
pub record IsInOne (x : ℕ) (views : List Drawn) : Type 0 where
  pub place : ℕ
  pub view : Drawn
  pub at : get_elem? views place ≡ some view
  pub once : times x view.numbers ≡ 1
  pub others : (j : ℕ) (v : Drawn) → get_elem? views j ≡ some v → j ≢ place → times x v.numbers ≡ 0
