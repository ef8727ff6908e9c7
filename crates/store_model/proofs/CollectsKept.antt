-- The loads and stores of a collection keep what holds of the store.
use Rattle.store_model.proofs.Bases.{notes_none, bases_noted, bases_collected, tally_few}
use Rattle.store_model.specs.Bases.{BasesKnown}
use Rattle.std.proofs.Common.{◌≡◌, ◌≢◌, ℕ, zero, suc, pred, ◌+◌, ◌<◌, Bool, true, false, None, List, [], ◌∷◌, ◌++◌, refl, sym, ap, ap₂, ◌∙◌, subst, ⊎_elim, inl, inr, arith, true≢false, Some, ◌≤◌}
use mathlib.Core.Logic.{dite}
use native.Mathlib.Decide.{ℕ_discrete}
use Rattle.lock_core.specs.Exclusion.{IsExclusive}
use Rattle.history_core.specs.Chronicle.{last_roots}
use Rattle.store_model.specs.Words.{Place, Base, FreeCount, Claim, InUse, RootCount, Root, same_place, write, put, Bucket}
use Rattle.store_model.specs.Calls.{Call, Idle, Loading, Storing, Stay, Away, Based, Ready, Leaving, View, bucket}
use Rattle.store_model.specs.Machine.{Sizes, State, Each, with_call, roots_of, protected_in, LoadAny, StoreAny, StoreClaim}
use Rattle.store_model.specs.Meaning.{Meaning}
use Rattle.store_model.specs.Seats.{Where, index, wanted, HasRead, MayWant, SeatWalks, RowDrawn}
use Rattle.store_model.specs.Invariant.{Holds, span, is_at}
use Rattle.store_model.specs.Collection.{IsCollected, AreKept, collected}
use Rattle.store_model.specs.Steps.{ReadNow, loads, stores, stored_over, is_storing, is_collecting, is_stored, HasLoaded, IsWhole, MayStore, CoreHolds, IsFresh, head_read, IsFirst, worn_by, names_left}
use Rattle.store_model.specs.Runs.{StepKeeps}
use Rattle.store_model.proofs.Own.{protected_are}
use Rattle.store_model.proofs.Basics.{choose, put_case, put_same, each_join, same_is, write_same}
use Rattle.store_model.proofs.Histories.{history_same}
use Rattle.store_model.proofs.Views.{nothing_done, kept_with, same_overdrawn, apart_none, new_call}
use Rattle.store_model.proofs.Collects.{collection_ends, roots_match}
use Rattle.store_model.proofs.Locks.{is_in, alone_in}
use Rattle.store_model.proofs.ByWords.{by_words}
use Rattle.store_model.proofs.Wrapped.{not_true, stores_collects, loads_none}

pred_is : (a b : ℕ) → b ≡ a + 1 → a ≡ pred b
pred_is a zero e = absurd (omega arith)
pred_is a (suc b) e = omega arith

collecting_none : (x : Call) → is_collecting x ≡ true → index x ≡ None
collecting_none (Loading ls) e = refl
collecting_none (Storing ls ss) e = refl
collecting_none x e = absurd (true≢false (sym e))

-- a seat that collects goes on
module _ (z : Sizes) (s : State) (m : Meaning) (h : Holds z s m) (i : ℕ) (stay : (s.view i).stay ≡ Ready) (y : Call) where
  collecting_holds : index y ≡ None → SeatWalks s.words m (with_call (s.view i) y) → RowDrawn s.words m (with_call (s.view i) y) → HasRead (s.words Base) (s.words FreeCount) (s.words Claim) (s.view i).overdraw y
      → Where (wanted y) (MayWant s.words m (s.view i).seen) → Holds z (record { lock = s.lock; words = s.words; view = put s.view i (with_call (s.view i) y) }) m
  collecting_holds none walks drawn read wants =
      let v : View = with_call (s.view i) y in
      let over = same_overdrawn z s m h i v (apart_none z s m h i y none) (h.lock.access i) refl (s.words Base) in
      kept_with z s m h i v (apart_none z s m h i y none) (h.lock.access i) s.words m h.rows h.chains
      record { born = h.numbers.born; differ = h.numbers.differ; drawn = let a = h.numbers.drawn in omega arith; room = h.numbers.room; absent = h.numbers.absent }
      (history_same z s.words s.words m s.view i v h.history refl (omega arith) refl (λ r _. refl))
      (λ j _. nothing_done j (s.view j) s.words m)
      (new_call s.words m i (s.view i) (s.view i).call y (h.seats i) stay walks drawn read wants)

loading_plain : (x : Call) (ls : List (Place × ℕ)) → x ≡ Loading ls → is_storing x ≡ false
loading_plain x ls e = ap is_storing e

module _ (z : Sizes) (s : State) (k : CoreHolds z s) (i : ℕ) (alone : IsExclusive s.lock i) where
  others_calm : (j : ℕ) → j ≢ i → is_collecting (s.view j).call ≡ false
  others_calm j ne = not_true (is_collecting (s.view j).call) (λ c. alone_in s.lock k.holds.lock.sound j i (k.under.alone j c) (λ e. ne (sym e)) (inl (inr alone)))

  -- where the seat itself hasn't stored
  pub words_still : is_storing (s.view i).call ≡ false → s.words ≡ k.kept
  words_still own = k.under.calm (λ j. dite (ℕ_discrete j i) (λ e. ap (λ (q : ℕ). is_storing (s.view q).call) e ∙ own) (λ ne. stores_collects (s.view j).call (others_calm j ne)))

  pub load_kept : (p : Place) (y : Call) → index y ≡ None → SeatWalks k.kept k.meaning (with_call (s.view i) y) → RowDrawn k.kept k.meaning (with_call (s.view i) y) → HasRead (k.kept Base) (k.kept FreeCount) (k.kept Claim) (s.view i).overdraw y → Where (wanted y) (MayWant k.kept k.meaning (s.view i).seen)
      → Where (head_read y) (λ h. k.kept (Bucket (bucket h.0 (k.kept InUse))) ≡ h.1) → IsFirst y → ReadNow (k.kept Claim) y → is_storing y ≡ false → (k.kept p ≡ s.words p → HasLoaded k.kept y) → is_storing (s.view i).call ≡ false → index (s.view i).call ≡ None → (s.view i).stay ≡ Ready → last_roots [] (s.view i).entries ≡ roots_of s.words i (s.words (RootCount i))
      → CoreHolds z (record { lock = s.lock; words = write s.words p (s.words p); view = put s.view i (with_call (s.view i) y) })
  load_kept p y no_index walks drawn read wants head first now plain loaded own none stay roots =
      let still = words_still own in
      let v : View = with_call (s.view i) y in
      record {
        meaning = k.meaning;
        kept = k.kept;
        bases = bases_noted z s.view i (let a = alone.present in let b = k.holds.lock.seats in omega arith) v (k.kept Base) (k.kept Base) (notes_none (k.kept Base) (s.view i) v refl refl) refl k.bases;
        fresh = λ j. put_case (λ (q : View). q.fresh ≡ true → IsFresh s.lock k.kept k.meaning.live j q) s.view i v j
            (λ e f. subst (λ (q : ℕ). IsFresh s.lock k.kept k.meaning.live q v) (sym e) (let old = k.fresh i f in record { alone = old.alone; stays = old.stays; full = λ q a b. ⊎_elim inl (λ g. absurd (let d : None ≡ Some q = sym none ∙ g in cc)) (old.full q a b); head = head; first = first; read = now })) (λ _. k.fresh j);
        holds = collecting_holds z (record { lock = s.lock; words = k.kept; view = s.view }) k.meaning k.holds i stay y no_index walks drawn read wants;
        under = record {
          calm = λ _. write_same s.words p ∙ still;
          alone = λ j. put_case (λ (q : View). is_collecting q.call ≡ true → IsExclusive s.lock j) s.view i v j (λ e _. subst (IsExclusive s.lock) (sym e) alone) (λ _. k.under.alone j);
          loaded = λ j. put_case (λ (q : View). HasLoaded k.kept q.call) s.view i v j
              (λ _. loaded (ap (λ (w : Place → ℕ). w p) (sym still))) (λ _. k.under.loaded j);
          rooted = λ j. put_case (λ (q : View). is_collecting q.call ≡ true → last_roots [] q.entries ≡ roots_of k.kept j (k.kept (RootCount j))) s.view i v j
              (λ e _. subst (λ (q : ℕ). last_roots [] (s.view i).entries ≡ roots_of k.kept q (k.kept (RootCount q))) (sym e) (subst (λ (w : Place → ℕ). last_roots [] (s.view i).entries ≡ roots_of w i (w (RootCount i))) still roots)) (λ _. k.under.rooted j);
          whole = λ j. put_case (λ (q : View). is_storing q.call ≡ true → IsWhole z k.kept (loads q.call)) s.view i v j (λ _ f. absurd (true≢false (sym f ∙ plain))) (λ _. k.under.whole j);
          stored = λ j c q _. ap (λ (w : Place → ℕ). w q) (write_same s.words p ∙ still);
          present = λ j. put_case (λ (q : View). is_storing q.call ≡ true → write s.words p (s.words p) ≡ stored_over k.kept (stores q.call)) s.view i v j (λ _ f. absurd (true≢false (sym f ∙ plain))) (λ _ f. write_same s.words p ∙ k.under.present j f);
        };
      }

  by_storing : (b : Bool) → is_storing (s.view i).call ≡ b → (q : Place) → is_stored q ≡ false → s.words q ≡ k.kept q
  by_storing true f q e = k.under.stored i f q e
  by_storing false f q e = ap (λ (w : Place → ℕ). w q) (words_still f)

  -- a word that a collection doesn't store
  at_kept : (q : Place) → is_stored q ≡ false → s.words q ≡ k.kept q
  at_kept q e = by_storing (is_storing (s.view i).call) refl q e

  -- the words so far
  so_far : (x : Call) → (s.view i).call ≡ x → s.words ≡ stored_over k.kept (stores x)
  so_far (Storing ls ss) e = subst (λ (y : Call). s.words ≡ stored_over k.kept (stores y)) e (k.under.present i (ap is_storing e))
  so_far (Loading ls) e = words_still (ap is_storing e)
  so_far x e = words_still (ap is_storing e)

  all_loaded : (x : Call) → (s.view i).call ≡ x → MayStore z s.words x → IsWhole z k.kept (loads x)
  all_loaded (Storing ls ss) e may = subst (λ (y : Call). IsWhole z k.kept (loads y)) e (k.under.whole i (ap is_storing e))
  all_loaded (Loading ls) e may = subst (λ (w : Place → ℕ). IsWhole z w ls) (words_still (ap is_storing e)) may
  all_loaded x e may = absurd may

  pub store_kept : (p : Place) (n : ℕ) → is_collecting (s.view i).call ≡ true → MayStore z s.words (s.view i).call → is_stored p ≡ true → (s.view i).stay ≡ Ready
      → CoreHolds z (record { lock = s.lock; words = write s.words p n; view = put s.view i (with_call (s.view i) (Storing (loads (s.view i).call) ((p, n) ∷ stores (s.view i).call))) })
  store_kept p n c may is_one stay =
      let y : Call = Storing (loads (s.view i).call) ((p, n) ∷ stores (s.view i).call) in
      let none = collecting_none (s.view i).call c in
      let v : View = with_call (s.view i) y in
      let off : (q : Place) → is_stored q ≡ false → write s.words p n q ≡ s.words q = (λ q e. choose (λ (k : ℕ). k ≡ s.words q) (same_place q p) n (s.words q) (λ f. absurd (true≢false (sym is_one ∙ (ap is_stored (sym (same_is q p f)) ∙ e)))) (λ _. refl)) in
      record {
        meaning = k.meaning;
        kept = k.kept;
        bases = bases_noted z s.view i (let a = alone.present in let b = k.holds.lock.seats in omega arith) v (k.kept Base) (k.kept Base) (notes_none (k.kept Base) (s.view i) v refl refl) refl k.bases;
        fresh = λ j. put_case (λ (q : View). q.fresh ≡ true → IsFresh s.lock k.kept k.meaning.live j q) s.view i v j
            (λ e f. subst (λ (q : ℕ). IsFresh s.lock k.kept k.meaning.live q v) (sym e) (let old = k.fresh i f in record { alone = old.alone; stays = old.stays; full = λ q a b. ⊎_elim inl (λ g. absurd (let d : None ≡ Some q = sym none ∙ g in cc)) (old.full q a b); head = tt; first = tt; read = tt })) (λ _. k.fresh j);
        holds = collecting_holds z (record { lock = s.lock; words = k.kept; view = s.view }) k.meaning k.holds i stay y refl (record { walk = tt; look = tt }) (record { index = tt; row = tt }) tt tt;
        under = record {
          calm = λ none. absurd (true≢false (sym (ap (λ (q : View). is_storing q.call) (put_same s.view i v)) ∙ none i));
          alone = λ j. put_case (λ (q : View). is_collecting q.call ≡ true → IsExclusive s.lock j) s.view i v j (λ e _. subst (IsExclusive s.lock) (sym e) alone) (λ _. k.under.alone j);
          loaded = λ j. put_case (λ (q : View). HasLoaded k.kept q.call) s.view i v j (λ _. k.under.loaded i) (λ _. k.under.loaded j);
          rooted = λ j. put_case (λ (q : View). is_collecting q.call ≡ true → last_roots [] q.entries ≡ roots_of k.kept j (k.kept (RootCount j))) s.view i v j
              (λ e _. subst (λ (q : ℕ). last_roots [] (s.view i).entries ≡ roots_of k.kept q (k.kept (RootCount q))) (sym e) (k.under.rooted i c)) (λ _. k.under.rooted j);
          whole = λ j. put_case (λ (q : View). is_storing q.call ≡ true → IsWhole z k.kept (loads q.call)) s.view i v j (λ _ _. all_loaded (s.view i).call refl may) (λ _. k.under.whole j);
          stored = λ j _ q e. off q e ∙ at_kept q e;
          present = λ j. put_case (λ (q : View). is_storing q.call ≡ true → write s.words p n ≡ stored_over k.kept (stores q.call)) s.view i v j
              (λ _ _. ap (λ (w : Place → ℕ). write w p n) (so_far (s.view i).call refl)) (λ ne f. absurd (true≢false (sym f ∙ stores_collects (s.view j).call (others_calm j ne))));
        };
      }

  is_away : (x : Stay) → (x ≢ Away → ⊥) → x ≡ Away
  is_away Away f = refl
  is_away Based f = absurd (f (λ e. absurd (cc)))
  is_away Ready f = absurd (f (λ e. absurd (cc)))
  is_away Leaving f = absurd (f (λ e. absurd (cc)))

  roots_still : (j q : ℕ) → roots_of s.words j q ≡ roots_of k.kept j q
  roots_still j zero = refl
  roots_still j (suc q) = ap₂ (λ (xs : List ℕ) (r : ℕ). xs ++ r ∷ []) (roots_still j q) (at_kept (Root j q) refl)

  pub claim_kept : ((j : ℕ) → protected_in (s.view j) ≡ roots_of s.words j (s.words (RootCount j))) → i < z.seats → (names : List ℕ) (n : Meaning) → is_collecting (s.view i).call ≡ true → IsCollected z k.kept (write s.words Claim 0) k.meaning n → AreKept n names
      → CoreHolds z (record { lock = s.lock; words = write s.words Claim 0; view = put s.view i (collected (s.view i) (s.words Base) (pred (s.words Base)) (s.words InUse) names) })
  claim_kept own there names n c is are =
      let sk : State = record { lock = s.lock; words = k.kept; view = s.view } in
      let u : Place → ℕ = write s.words Claim 0 in
      let match = roots_match z sk k.meaning k.holds (λ j _. dite (ℕ_discrete j i) (λ e. subst (λ (q : ℕ). last_roots [] (s.view q).entries ≡ roots_of k.kept q (k.kept (RootCount q))) (sym e) (k.under.rooted i c))
      (λ ne. (k.holds.seats j).notes.away (is_away (s.view j).stay (λ inside. alone_in s.lock k.holds.lock.sound i j alone ne (is_in s.lock j (s.view j).stay (k.holds.lock.access j) inside))))) in
      let ends = collection_ends z sk k.meaning k.holds i alone u n is (λ j. own j ∙ (roots_still j (s.words (RootCount j)) ∙ ap (roots_of k.kept j) (at_kept (RootCount j) refl))) match names are there in
      let number : k.kept Base + k.kept Claim ≡ pred (s.words Base) = pred_is (k.kept Base + k.kept Claim) (s.words Base) is.base in
      let v : View = collected (s.view i) (s.words Base) (pred (s.words Base)) (s.words InUse) names in
      let few : k.kept Claim + 1 ≤ span z = (let a = k.holds.numbers.drawn in let b = k.holds.rows.few in let d = tally_few (λ j. is_at (s.view j).overdraw (k.kept Base)) z.seats in omega arith) in
      let bases = bases_collected z s.view i there (collected (s.view i) (s.words Base) (k.kept Base + k.kept Claim) (s.words InUse) names) (k.kept Base) (k.kept Claim) names k.bases refl is.base few
      (λ y noted. let a = k.holds.history.own y.0 y.1 noted.own in let b = (k.holds.seats y.0).numbers.seen in omega arith) in
      let none : (j : ℕ) → is_collecting (put s.view i v j).call ≡ false = (λ j. put_case (λ (p : View). is_collecting p.call ≡ false) s.view i v j (λ _. refl) (λ ne. others_calm j ne)) in
      record {
        meaning = n;
        kept = u;
        bases = subst (λ (q : ℕ). BasesKnown z (s.words Base) (put s.view i (collected (s.view i) (s.words Base) q (s.words InUse) names))) number (subst (λ (b : ℕ). BasesKnown z b (put s.view i (collected (s.view i) (s.words Base) (k.kept Base + k.kept Claim) (s.words InUse) names))) (sym is.base) bases);
        fresh = λ j. put_case (λ (q : View). q.fresh ≡ true → IsFresh s.lock u n.live j q) s.view i v j
            (λ e _. subst (λ (q : ℕ). IsFresh s.lock u n.live q v) (sym e) record { alone = alone; stays = refl; full = λ q a _. absurd (omega arith); head = tt; first = tt; read = tt })
            (λ ne f. absurd (alone_in s.lock k.holds.lock.sound j i (k.fresh j f).alone (λ e. ne (sym e)) (inl (inr alone))));
        holds = subst (λ (q : ℕ). Holds z (record { lock = s.lock; words = u; view = put s.view i (collected (s.view i) (s.words Base) q (s.words InUse) names) }) n) number ends;
        under = record {
          calm = λ _. refl;
          alone = λ j f. absurd (true≢false (sym f ∙ none j));
          loaded = λ j. subst (λ (ls : List (Place × ℕ)). Each (λ q. u q.0 ≡ q.1) ls) (sym (loads_none (put s.view i v j).call (none j))) tt;
          rooted = λ j f. absurd (true≢false (sym f ∙ none j));
          whole = λ j f. absurd (true≢false (sym f ∙ stores_collects (put s.view i v j).call (none j)));
          stored = λ j f. absurd (true≢false (sym f ∙ stores_collects (put s.view i v j).call (none j)));
          present = λ j f. absurd (true≢false (sym f ∙ stores_collects (put s.view i v j).call (none j)));
        };
      }

ready_in : (v : View) → (v.call ≢ Idle → v.stay ≡ Ready) → is_collecting v.call ≡ true → v.stay ≡ Ready
ready_in v calls c = calls (λ e. true≢false (sym c ∙ ap is_collecting e))

pub storing_collects : (x : Call) → is_storing x ≡ true → is_collecting x ≡ true
storing_collects (Storing ls ss) e = refl
storing_collects x e = absurd (true≢false (sym e))

pub load_any_kept : (p : Place) → StepKeeps (LoadAny p)
load_any_kept p z s i rem k ok =
    let q = ok.permitted in
    let ls : List (Place × ℕ) = loads (s.view i).call ++ (p, s.words p) ∷ [] in
    let plain : is_storing (s.view i).call ≡ false = ⊎_elim (λ e. ap is_storing e) (λ (l : (ls : List (Place × ℕ)) × ((s.view i).call ≡ Loading ls)). ap is_storing l.1) q.0 in
    let none : index (s.view i).call ≡ None = ⊎_elim (λ e. ap index e) (λ (l : (ls : List (Place × ℕ)) × ((s.view i).call ≡ Loading ls)). ap index l.1) q.0 in
    let roots : last_roots [] (s.view i).entries ≡ roots_of s.words i (s.words (RootCount i)) = q.3 ∙ protected_are z s.words i (s.view i) (rem.own i) in
    choose (λ (y : Call). CoreHolds z (record { lock = s.lock; words = write s.words p (s.words p); view = put s.view i (with_call (s.view i) y) })) (worn_by z ls) Idle (Loading ls)
    (λ _. load_kept z s k i q.2 p Idle refl (record { walk = tt; look = tt }) (record { index = tt; row = tt }) tt tt tt tt tt refl (λ _. tt) plain none q.1 roots)
    (λ _. load_kept z s k i q.2 p (Loading ls) refl (record { walk = tt; look = tt }) (record { index = tt; row = tt }) tt tt tt tt tt refl
    (λ is. each_join (λ (x : Place × ℕ). k.kept x.0 ≡ x.1) (loads (s.view i).call) ((p, s.words p) ∷ []) (k.under.loaded i) (is, tt)) plain none q.1 roots)

may_collect : (z : Sizes) (w : Place → ℕ) (x : Call) → MayStore z w x → is_collecting x ≡ true
may_collect z w (Loading ls) h = refl
may_collect z w (Storing ls ss) h = refl
may_collect z w x h = absurd h

pub store_any_kept : (p : Place) (n : ℕ) → StepKeeps (StoreAny p n)
store_any_kept p n z s i rem k ok =
    let q = ok.permitted in
    let c = may_collect z s.words (s.view i).call q.0 in
    store_kept z s k i (k.under.alone i c) p n c q.0 q.2 (ready_in (s.view i) (k.holds.seats i).numbers.calls c)

pub store_claim_kept : StepKeeps StoreClaim
store_claim_kept z s i rem k ok =
    let q = ok.permitted in
    let c = storing_collects (s.view i).call q.0 in
    let end = by_words z s k i q.0 (rem.reads i).room q.1 in
    claim_kept z s k i (k.under.alone i c) (λ j. protected_are z s.words j (s.view j) (rem.own j)) ok.present (names_left z s.words) end.0 c end.1 end.2
