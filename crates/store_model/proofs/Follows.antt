-- What holds after a step in place, and what words a new store has.
use Rattle.std.proofs.Common.{◌≡◌, ℕ, ◌<◌, ◌≤◌, Bool, true, false, cond, refl, ap, arith, ltb-true, ltb-false}
use Rattle.std.specs.Prelude.{nat_lt}
use Rattle.store_model.specs.Machine.{Sizes, State}
use Rattle.store_model.specs.Runs.{StartsWith}
use Rattle.store_model.specs.StoreHolds.{StoreHolds}
use Rattle.store_model.specs.StoreSteps as steps
use Rattle.store_model.specs.StoreSteps.{meant, IsInPlace}
use Rattle.store_model.specs.NewStore.{first_words}
use Rattle.store_model.specs.declared.step.StoreStep.{StoreStep}
use Rattle.store_model.proofs.Eight.{eight, inductive}
use Rattle.store_model.proofs.Runs.{step_kept}

-- the facts hold after a step in place
pub holds_after : (z : Sizes) (s : State) (i : ℕ) (x : StoreStep) → StoreHolds z s → IsInPlace z s i x → StoreHolds z (steps.after z s i x)
holds_after z s i x k ok = eight z (steps.after z s i x) (step_kept (meant s i x) z s i (inductive z s k) ok.step)

true_or : (b : Bool) → (b ≡ false → ⊥) → b ≡ true
true_or true h = refl
true_or false h = absurd (h refl)

false_or : (b : Bool) → (b ≡ true → ⊥) → b ≡ false
false_or true h = absurd (h refl)
false_or false h = refl

pub below : (i n : ℕ) → i < n → nat_lt i n ≡ true
below i n l = true_or (nat_lt i n) (λ e. let k = ltb-false i n e in omega arith)

pub not_below : (i n : ℕ) → n ≤ i → nat_lt i n ≡ false
not_below i n l = false_or (nat_lt i n) (λ e. let k = ltb-true i n e in omega arith)

-- the words of a new store are those that a store starts with
pub first_starts : (z : Sizes) → StartsWith z (first_words z)
first_starts z = record {
  base = refl;
  count = refl;
  claim = refl;
  in_use = refl;
  place = λ i l. ap (λ (b : Bool). cond b i 0) (below i z.rows l);
  bucket = λ b. refl;
  count_word = λ r. refl;
  root_count = λ j. refl;
  root = λ j k l. refl;
}
