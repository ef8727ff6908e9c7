-- Every list of steps keeps what holds.
use Rattle.std.proofs.Common.{ℕ, List, [], ◌∷◌, refl, sym, subst, arith}
use Rattle.store_model.specs.Words.{Place}
use Rattle.store_model.specs.Machine.{Sizes, State, Step, LockAlone, LowerShared, UnaskSeat, GiveGranted, LoadBase, LoadInUse, Begin, Go, LoadRoot, StoreRoot, StoreCount, ReadWord, ReadArgument, LoadAny, StoreAny, StoreClaim}
use Rattle.store_model.specs.Steps.{after, InPlace, newcomer}
use Rattle.store_model.specs.StoreSteps as steps
use Rattle.store_model.specs.StoreSteps.{meant, Leads}
use Rattle.store_model.specs.declared.step.StoreStep.{StoreStep}
use Rattle.store_model.specs.Runs.{Inductive, StepKeeps, AreSizes, StartsWith, at_start}
use Rattle.store_model.proofs.Kept.{go_kept, begin_kept, load_base_kept, load_in_use_kept, lower_kept, unask_kept, give_kept, lock_kept, load_root_kept, store_root_kept, store_count_kept, read_word_kept, read_argument_kept}
use Rattle.store_model.proofs.CollectsKept.{load_any_kept, store_any_kept, store_claim_kept}
use Rattle.store_model.proofs.Own.{own_kept, own_starts}
use Rattle.store_model.proofs.Reading.{reads_kept, reads_start}
use Rattle.store_model.proofs.Counts.{counts_kept, wants_kept}
use Rattle.store_model.proofs.Sole.{sole_kept, at_rest}
use Rattle.store_model.proofs.Starts.{start_holds}

core_kept : (x : Step) → StepKeeps x
core_kept (LockAlone x) = lock_kept x
core_kept LowerShared = lower_kept
core_kept (UnaskSeat q) = unask_kept q
core_kept GiveGranted = give_kept
core_kept LoadBase = load_base_kept
core_kept LoadInUse = load_in_use_kept
core_kept (Begin c) = begin_kept c
core_kept Go = go_kept
core_kept (LoadRoot k) = load_root_kept k
core_kept (StoreRoot k r) = store_root_kept k r
core_kept (StoreCount n) = store_count_kept n
core_kept (ReadWord r k) = read_word_kept r k
core_kept (ReadArgument r j) = read_argument_kept r j
core_kept (LoadAny p) = load_any_kept p
core_kept (StoreAny p n) = store_any_kept p n
core_kept StoreClaim = store_claim_kept

pub step_kept : (x : Step) (z : Sizes) (s : State) (i : ℕ) → Inductive z s → InPlace z s i x → Inductive z (after z s i x)
step_kept x z s i k ok = record {
  core = core_kept x z s i k.remembers k.core ok;
  remembers = record { own = own_kept z s i k.remembers.own x ok; reads = reads_kept z s i k.remembers.reads x ok; sole = λ one. sole_kept z s i k.core one (k.remembers.sole one) x ok; counts = counts_kept z s i k.remembers.counts x ok (k.remembers.wants i); wants = wants_kept z s i k.remembers.wants x ok };
}

pub starts : (z : Sizes) (w : Place → ℕ) → AreSizes z → StartsWith z w → Inductive z (at_start z w)
starts z w a b = record {
  core = start_holds z w a b;
  remembers = record { own = λ i. own_starts z w i (newcomer z) refl refl (b.root_count i) (b.root i); reads = λ i. reads_start z; sole = λ one i l. at_rest w (newcomer z) refl (λ _ l. let c = b.claim in absurd (omega arith)); counts = λ r. (let e = b.count_word r in omega arith); wants = λ i. tt };
}

pub kept_along : (z : Sizes) (xs : List (ℕ × StoreStep)) (s t : State) → Inductive z s → Leads z s xs t → Inductive z t
kept_along z [] s t k path = subst (Inductive z) (sym path) k
kept_along z (x ∷ xs) s t k path = kept_along z xs (steps.after z s x.0 x.1) t (step_kept (meant s x.0 x.1) z s x.0 k path.0.step) path.1
