-- What is recalled holds of a new store, each step keeps it, and so does every list of steps.
use Rattle.std.proofs.Common.{◌≡◌, ◌≢◌, ℕ, ◌<◌, false, Option, None, List, [], ◌∷◌, ◌++◌, refl, sym, ap, ◌∙◌, subst, inl}
use Rattle.history_core.specs.TermSet.{empty}
use Rattle.history_core.specs.Chronicle.{History, chronicle}
use Rattle.history_core.specs.Told as history
use Rattle.history_core.proofs.Merge.{nothing_at_start}
use Rattle.store_model.specs.Words.{Place, Base, InUse, RowWord, put}
use Rattle.store_model.specs.Calls.{Call, Idle, Loading, Storing, Away}
use Rattle.store_model.specs.Machine.{Sizes, State, Step, LockAlone, LowerShared, UnaskSeat, GiveGranted, LoadBase, LoadInUse, Begin, Go, LoadRoot, StoreRoot, StoreCount, ReadWord, ReadArgument, LoadAny, StoreAny, StoreClaim, Each, InAccess, with_call, leaving, left, protected_in, based, ready, knowing, begins}
use Rattle.store_model.specs.Seats.{Where, wanted}
use Rattle.store_model.specs.Invariant.{listed, Holds as StateHolds}
use Rattle.store_model.specs.Steps.{loads, stores, worn_by, loading, is_collecting, IsAtRest, InPlace, after, newcomer}
use Rattle.store_model.specs.StoreSteps as steps
use Rattle.store_model.specs.StoreSteps.{meant, Leads}
use Rattle.store_model.specs.Runs.{at_start}
use Rattle.store_model.specs.StoreHolds.{StoreHolds}
use Rattle.store_model.specs.declared.step.StoreStep.{StoreStep}
use Rattle.store_model.specs.Told.{told}
use Rattle.store_model.specs.Recalls.{IsRecalled, held_in, Recalls, StartRecalls, StepsRecall, RunsRecall, NamedAreRecalled}
use Rattle.store_model.proofs.Follows.{holds_after}
use Rattle.store_model.proofs.Basics.{choose}
use Rattle.store_model.proofs.Eight.{core_of, eight}
use Rattle.store_model.proofs.Kept.{idle_calm, ready_inside, leaves_inside}
use Rattle.store_model.proofs.Locks.{is_in}
use Rattle.store_model.proofs.Runs.{starts}
use Rattle.store_model.proofs.Starts.{no_lists}
use Rattle.store_model.proofs.Wrapped.{quiet, creation_calm, creation_busy}
use Rattle.store_model.proofs.RecallsKept.{same_seats, go_recalls, base_recalls, may_recall, begin_recalls, load_root_recalls, store_root_recalls, store_count_recalls, read_argument_recalls}
use Rattle.store_model.proofs.RecallsNoted.{leave_recalls}
use Rattle.store_model.proofs.RecallsCollected.{claim_recalls}

where_none : {A : Type 0} (o : Option A) (P : A → Type 0) → o ≡ None → Where o P
where_none o P e = subst (λ p. Where p P) (sym e) tt

module _ (z : Sizes) (s : State) (i : ℕ) (k : StoreHolds z s) where
  -- in an access, with no collection under way, the facts speak of the present words
  at_present : (s.view i).stay ≢ Away → is_collecting (s.view i).call ≡ false → StateHolds z s k.meaning
  at_present inside calm = quiet z s (core_of z s k) i (is_in s.lock i (s.view i).stay (k.strengthened.holds.lock.access i) inside) calm

  at_rest : IsAtRest (s.view i) → StateHolds z s k.meaning
  at_rest rest = at_present (ready_inside (s.view i) rest.stay) (idle_calm (s.view i).call rest.call)

  module _ (all : Recalls z s.view) (there : i < z.seats) where
    -- another stage of a collection
    stage_recalls : (x : Call) → wanted x ≡ None → Recalls z (put s.view i (with_call (s.view i) x))
    stage_recalls x none = let a = (all i there).rows in
        same_seats z s.view i (with_call (s.view i) x) refl record { protected = a.protected; got = a.got; wants = where_none (wanted x) (λ c. Each (IsRecalled (held_in (listed z.seats (λ j. (s.view j).entries))) (told (s.view i).entries).tree) c.arguments) none } all

    leaves : (s.view i).call ≡ Idle → (s.view i).stay ≢ Away → Recalls z (put s.view i (left (s.view i) (protected_in (s.view i))))
    leaves idle inside = leave_recalls z s k.meaning (at_present inside (idle_calm (s.view i).call idle)) i there inside all

    at_base : (s.view i).call ≡ Idle → (s.view i).stay ≡ Away → InAccess s.lock i → Recalls z (put s.view i (based (s.view i) (s.words Base)))
    at_base idle away access = base_recalls z s k.meaning (quiet z s (core_of z s k) i (inl access) (idle_calm (s.view i).call idle)) i there all away

  pub recalls_kept : (x : Step) → InPlace z s i x → Recalls z s.view → Recalls z (after z s i x).view
  recalls_kept (LockAlone x) ok all = all
  recalls_kept LowerShared ok all = let p = ok.permitted in leaves all ok.present p.2.call (ready_inside (s.view i) p.2.stay)
  recalls_kept (UnaskSeat q) ok all = let a = (all i ok.present).rows in same_seats z s.view i (leaving (s.view i)) refl record { protected = a.protected; got = a.got; wants = a.wants } all
  recalls_kept GiveGranted ok all = let p = ok.permitted in leaves all ok.present p.1 (leaves_inside (s.view i) p.2)
  recalls_kept LoadBase ok all = let p = ok.permitted in at_base all ok.present p.1 p.2 p.0
  recalls_kept LoadInUse ok all = let a = (all i ok.present).rows in same_seats z s.view i (ready (s.view i) (s.words InUse)) refl record { protected = a.protected; got = a.got; wants = a.wants } all
  recalls_kept (Begin c) ok all = let p = ok.permitted in
      begin_recalls z s k.meaning (at_rest p.0) i ok.present all (k.strengthened.remembers.own i) p.0 c p.2 (s.words (begins (s.view i) c).place)
  recalls_kept Go ok all =
      let is = ok.permitted in
      let x : Call = (s.view i).call in
      let stay = (k.strengthened.holds.seats i).numbers.calls (creation_busy x is) in
      go_recalls z s k.meaning (at_present (ready_inside (s.view i) stay) (creation_calm x is)) i ok.present all x refl is
  recalls_kept (LoadRoot n) ok all = let p = ok.permitted in load_root_recalls z s k.meaning (at_rest p.0) i ok.present all (k.strengthened.remembers.own i) p.0 n p.1
  recalls_kept (StoreRoot n r) ok all = let p = ok.permitted in store_root_recalls z s k.meaning (at_rest p.0) i ok.present all (k.strengthened.remembers.own i) p.0 n r p.1 p.2
  recalls_kept (StoreCount n) ok all = let p = ok.permitted in store_count_recalls z s k.meaning (at_rest p.0) i ok.present all (k.strengthened.remembers.own i) p.0 n p.1 p.2
  recalls_kept (ReadWord r n) ok all = let a = (all i ok.present).rows in same_seats z s.view i (knowing (s.view i) r n (s.words (RowWord r n))) refl record { protected = a.protected; got = a.got; wants = a.wants } all
  recalls_kept (ReadArgument r j) ok all = let p = ok.permitted in read_argument_recalls z s k.meaning (at_rest p.0) i ok.present all (k.strengthened.remembers.own i) p.0 r j p.1 p.2
  recalls_kept (LoadAny p) ok all =
      let ls : List (Place × ℕ) = loads (s.view i).call ++ (p, s.words p) ∷ [] in
      stage_recalls all ok.present (loading z ls) (choose (λ (x : Call). wanted x ≡ None) (worn_by z ls) Idle (Loading ls) (λ _. refl) (λ _. refl))
  recalls_kept (StoreAny p n) ok all = stage_recalls all ok.present (Storing (loads (s.view i).call) ((p, n) ∷ stores (s.view i).call)) refl
  recalls_kept StoreClaim ok all = claim_recalls z s i k ok all

pub start_recalls : StartRecalls
start_recalls z w i l =
    let none : chronicle (listed z.seats (λ j. (newcomer z).entries)) ≡ [] = ap chronicle (no_lists z z.seats) ∙ nothing_at_start z.seats in record {
      rows = record { protected = tt; got = λ _. tt; wants = tt };
      entries = record { named = ap (λ (t : History). history.told history.named i empty t) none; rooted = ap (λ (t : History). history.told history.rooted_trees i empty t) none };
    }

pub steps_recall : StepsRecall
steps_recall z s i x k ok all = recalls_kept z s i k (meant s i x) ok.step all

along : (z : Sizes) (xs : List (ℕ × StoreStep)) (s t : State) → StoreHolds z s → Recalls z s.view → Leads z s xs t → Recalls z t.view
along z [] s t k all e = subst (λ (u : State). Recalls z u.view) (sym e) all
along z (x ∷ xs) s t k all path = along z xs (steps.after z s x.0 x.1) t (holds_after z s x.0 x.1 k path.0) (steps_recall z s x.0 x.1 k path.0 all) path.1

pub runs_recall : RunsRecall
runs_recall z w xs s a b path = along z xs (at_start z w) s (eight z (at_start z w) (starts z w a b)) (start_recalls z w) path

pub named_are_recalled : NamedAreRecalled
named_are_recalled z s i r k all there rest may = (may_recall z s k.meaning (at_rest z s i k rest) i there all (k.strengthened.remembers.own i) rest r may).own
