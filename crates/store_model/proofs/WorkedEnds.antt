-- How a worked collection is shown to end.
use Rattle.std.proofs.Common.{◌≡◌, ℕ, zero, suc, ◌+◌, ◌<◌, ◌≤◌, eqb, ne_eqb, true, false, Some, Option, refl, sym, ap, ◌∙◌, arith}
use Rattle.store_model.specs.Words.{Base, Claim, InUse, Bucket, RootCount}
use Rattle.store_model.specs.Calls.{Away, Ready}
use Rattle.store_model.specs.Machine.{Sizes, State}
use Rattle.store_model.specs.Steps.{is_storing, grown_use, MayEnd}
use Rattle.store_model.specs.Runs.{Inductive}
use Rattle.store_model.specs.Ending.{Keeps}
use Rattle.store_model.proofs.Ending.{ends}

some : {m n : ℕ} → m ≡ n → Some m ≡ Some n
some e = ap (λ (q : ℕ). let o : Option ℕ = Some q in o) e

pub not_zero : (b : ℕ) → 1 ≤ b → eqb b 0 ≡ false
not_zero b l = ne_eqb b 0 (λ e. absurd (omega arith))

-- below two, case by case
pub below_two : (P : ℕ → Type 0) → P 0 → P 1 → (k : ℕ) → k < 2 → P k
below_two P a b zero l = a
below_two P a b (suc zero) l = b
below_two P a b (suc (suc k)) l = absurd (omega arith)

-- Seat 0 has a collection that has begun to store.
module _ (z : Sizes) (s : State) (k : Inductive z s) (storing : is_storing (s.view 0).call ≡ true) where
  pub no_seats : (j : ℕ) → z.seats ≤ j → s.words (RootCount j) ≡ 0
  no_seats j l = k.core.under.stored 0 storing (RootCount j) refl ∙ k.core.holds.numbers.absent j l

  -- that of this base, claim and number of buckets in use may end with these words
  pub ends_so : (base claim in_use kept : ℕ) → (s.view 0).base ≡ base → (s.view 0).in_use ≡ in_use → (s.view 0).stay ≡ Ready → s.words Claim ≡ claim
      → s.words Base ≡ base + claim + 1 → s.words InUse ≡ grown_use z in_use kept → ((b : ℕ) → z.buckets ≤ b → s.words (Bucket b) ≡ 0) → Keeps z s.words kept → MayEnd z s 0
  ends_so base claim in_use kept based used stay claimed is uses heads keeps =
      let whole = k.core.under.whole 0 storing in
      let numbers = (k.core.holds.seats 0).numbers in
      let first : k.core.kept Base ≡ base = sym (numbers.base (λ e. absurd (let f : Away ≡ Ready = sym e ∙ stay in cc))) ∙ based in
      let drawn : k.core.kept Claim ≡ claim = sym (k.core.under.stored 0 storing Claim refl) ∙ claimed in
      let used_then : k.core.kept InUse ≡ in_use = sym (numbers.in_use stay) ∙ used in
      ends z s k.core 0 storing heads kept keeps
      (record { base = base; claim = claim; base_loaded = whole.base ∙ some first; claim_loaded = whole.claim ∙ some drawn; is = is })
      (record { in_use = in_use; loaded = whole.in_use ∙ some used_then; is = uses })
