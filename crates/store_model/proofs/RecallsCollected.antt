-- The end of a collection keeps what is recalled: the protected rows of each seat stay, and what
-- they lead to.
use Rattle.std.proofs.Common.{◌≡◌, ◌≢◌, ℕ, suc, pred, ◌+◌, ◌*◌, ◌<◌, false, Option, None, Some, List, [], ◌∷◌, ◌++◌, append-nil, length, inl, refl, sym, ap, ◌∙◌, subst, arith}
use Rattle.std.specs.Prelude.{Contains, ◌==◌}
use Rattle.std.proofs.lemmas.Bool.{cond_both}
use Rattle.term_model.specs.Tree.{Tree}
use Rattle.history_core.specs.declared.entry.Entry.{Entry}
use Rattle.history_core.specs.declared.entry.Entry.TheVariants.{Collect}
use Rattle.history_core.specs.Entry.{place}
use Rattle.history_core.specs.Entry as entry
use Rattle.history_core.specs.TermSet.{Names, TermSet, empty}
use Rattle.history_core.specs.Chronicle.{chronicle, noted, IsLegal, set_of, IsNoted, MayCollect}
use Rattle.history_core.specs.Told as history
use Rattle.history_core.proofs.Chronicles.{has_the_noted}
use Rattle.history_core.proofs.Growing.{legal_parts}
use Rattle.history_core.proofs.Insertion.{collecting_keeps}
use Rattle.history_core.proofs.Merge.{noting_puts_in}
use Rattle.history_core.proofs.Noted.{noted_here}
use Rattle.history_core.proofs.Places.{lower_goes_first}
use Rattle.history_core.proofs.Told.{collecting_tells}
use Rattle.store_model.specs.Words.{Place, Base, Claim, InUse, RowWord, RootCount, put}
use Rattle.store_model.specs.Calls.{Content, View}
use Rattle.store_model.specs.Machine.{Sizes, State, StoreClaim, Each, protected_in, rows_kept, words_kept}
use Rattle.store_model.specs.Seats.{Where, wanted, IsKnown}
use Rattle.store_model.specs.Invariant.{listed}
use Rattle.store_model.specs.Collection.{collected}
use Rattle.store_model.specs.Steps.{is_stored, names_left, ReachesByWords, protected_row, argument_row, InPlace, after}
use Rattle.store_model.specs.StoreHolds.{StoreHolds}
use Rattle.store_model.specs.Told.{Told, told, nothing}
use Rattle.store_model.specs.Told as own
use Rattle.store_model.specs.Recalls.{IsRecalled, held_in, NoneSince, RowsRecalled, SeatRecalls, Recalls}
use Rattle.store_model.proofs.Basics.{each_both}
use Rattle.store_model.proofs.ByWords.{by_words}
use Rattle.store_model.proofs.CollectsKept.{storing_collects}
use Rattle.store_model.proofs.Creations.{not_idle}
use Rattle.store_model.proofs.Eight.{core_of, eight, inductive}
use Rattle.store_model.proofs.Histories.{listed_length, lists_noted}
use Rattle.store_model.proofs.Locks.{alone_in}
use Rattle.store_model.proofs.NamesLeft.{names_kept}
use Rattle.store_model.proofs.Own.{each_roots, protected_are}
use Rattle.store_model.proofs.Recalled.{recalled_only}
use Rattle.store_model.proofs.Recalling.{kept_recalled}
use Rattle.store_model.proofs.RecallsNoted.{noted_seats}
use Rattle.store_model.proofs.Runs.{step_kept}
use Rattle.store_model.proofs.Staying.{led_has, goes_on, in_rows}
use Rattle.store_model.proofs.Telling.{told_one, roots_one}
use Rattle.store_model.proofs.TreesKept.{at_end, pred_one}

where_by : {A : Type 0} (o : Option A) (P : A → Type 0) → ((x : A) → o ≡ Some x → P x) → Where o P
where_by None P f = tt
where_by (Some x) P f = f x refl

module _ (z : Sizes) (s : State) (i : ℕ) (k : StoreHolds z s) (ok : InPlace z s i StoreClaim) (all : Recalls z s.view) where
  abbrev lists : List (List Entry)
  lists = listed z.seats (λ j. (s.view j).entries)

  abbrev kept : List ℕ
  kept = names_left z s.words

  abbrev e : Entry
  e = Collect (pred (s.words Base)) (names_left z s.words)

  abbrev v : View
  v = s.view i

  abbrev v' : View
  v' = collected (s.view i) (s.words Base) (pred (s.words Base)) (s.words InUse) (names_left z s.words)

  present : i < length lists
  present = let a = listed_length z.seats (λ j. (s.view j).entries) in let b = ok.present in omega arith

  number_is : pred (s.words Base) ≡ k.began Base + k.began Claim
  number_is =
      let ends = by_words z s (core_of z s k) i ok.permitted.0 (k.strengthened.remembers.reads i).room ok.permitted.1 in
      let base : s.words Base ≡ k.began Base + k.began Claim + 1 = ends.1.base in
      ap pred base ∙ pred_one (k.began Base + k.began Claim)

  low : (y : ℕ × Entry) → IsNoted lists y → place y.1 < 2 * pred (s.words Base)
  low y n = let a = k.strengthened.holds.history.own y.0 y.1 n.own in let b = (k.strengthened.holds.seats y.0).numbers.seen in let c = number_is in omega arith

  appended : chronicle (noted lists i e) ≡ chronicle lists ++ (i, e) ∷ []
  appended = noting_puts_in lists i e present ∙ at_end (i, e) (chronicle lists) (λ y c. lower_goes_first (i, e) y (low y ((has_the_noted lists y).0 c)))

  legal_then : IsLegal z.rows (chronicle (noted lists i e))
  legal_then = subst (λ (ls : List (List Entry)). IsLegal z.rows (chronicle ls)) (lists_noted z.seats s.view i v' e ok.present refl)
      (eight z (after z s i StoreClaim) (step_kept StoreClaim z s i (inductive z s k) ok)).history.legal

  may : MayCollect z.rows lists i e
  may = record { present = present; last = λ y n. lower_goes_first (i, e) y (low y n); step = (legal_parts z.rows empty (chronicle lists) ((i, e) ∷ []) (subst (IsLegal z.rows) appended legal_then)).1.0 }

  leaves : set_of (chronicle (noted lists i e)) ≡ entry.after (set_of (chronicle lists)) i e
  leaves = (collecting_keeps z.rows lists i e k.history.legal may).1

  -- what is reached stays
  reached : (r : ℕ) → ReachesByWords s.words r → Contains kept r
  reached r y = let ends = ok.permitted.1 in ((names_kept z s.words ends.meaning ends.rows ends.chains).each r).1 ((ends.live r).1 y)

  stay_recalled : (tree : ℕ → Tree) (rs : List ℕ) → Each (IsRecalled (held_in lists) tree) rs → Each (ReachesByWords s.words) rs → Each (IsRecalled (held_in (noted lists i e)) tree) rs
  stay_recalled tree rs = each_both (IsRecalled (held_in lists) tree) (ReachesByWords s.words) (IsRecalled (held_in (noted lists i e)) tree) rs
      (λ r a y. subst (λ (t : TermSet). IsRecalled t.held tree r) (sym leaves) (recalled_only (held_in lists) tree kept r a (reached r y)))

  protected_reached : (j : ℕ) → Each (ReachesByWords s.words) (protected_in (s.view j))
  protected_reached j = subst (Each (ReachesByWords s.words)) (sym (protected_are z s.words j (s.view j) (k.strengthened.remembers.own j)))
      (each_roots (ReachesByWords s.words) s.words j (s.words (RootCount j)) (λ q l. protected_row j q l))

  still : (p : Place) → is_stored p ≡ false → s.words p ≡ k.began p
  still = k.strengthened.under.stored i ok.permitted.0

  known : Each (IsKnown k.began k.meaning) (words_kept v)
  known = (k.strengthened.holds.seats i).protects.keeps_words

  kept_reached : Each (ReachesByWords s.words) (rows_kept v)
  kept_reached = led_has (ReachesByWords s.words) v.knows (protected_in v)
      (goes_on k.began k.meaning v.knows (rows_kept v) (ReachesByWords s.words)
      (λ r j _ y l. subst (ReachesByWords s.words) (still (RowWord r (suc (suc j))) refl) (argument_row r j y (let a = still (RowWord r 1) refl in omega arith)))
      (in_rows (IsKnown k.began k.meaning) (rows_kept v) v.knows known)) (protected_reached i)

  tells : (f : Names → Entry → List Tree) → f (held_in lists) e ≡ [] → (j : ℕ) → history.told f j empty (chronicle (noted lists i e)) ≡ history.told f j empty (chronicle lists)
  tells f none j = collecting_tells z.rows lists i e may f j
      ∙ (ap (λ (ts : List Tree). history.told f j empty (chronicle lists) ++ ts) (cond_both (i == j) (f (held_in lists) e) [] (λ ts. ts ≡ []) (λ _. none) (λ _. refl))
      ∙ append-nil (history.told f j empty (chronicle lists)))

  -- the base of another seat isn't the present one any more
  base_past : (j : ℕ) → NoneSince (noted lists i e) (s.view j).base → ⊥
  base_past j none =
      let a = none (i, e) (noted_here lists i e present) refl in
      let b = (k.strengthened.holds.seats j).numbers.own in let c = number_is in omega arith

  -- another seat has no creation under way
  none_wanted : (j : ℕ) → j ≢ i → (P : Content → Type 0) → Where (wanted (s.view j).call) P
  none_wanted j ne P = where_by (wanted (s.view j).call) P (λ c w.
      let alone = k.collection.alone i (storing_collects v.call ok.permitted.0) in
      absurd (alone_in s.lock k.strengthened.holds.lock.sound i j alone ne (inl (k.lock.in_flight j (not_idle (s.view j).call c w)))))

  others : (j : ℕ) → j ≢ i → SeatRecalls lists j (s.view j) → SeatRecalls (noted lists i e) j (s.view j)
  others j ne h = let tree : ℕ → Tree = (told (s.view j).entries).tree in record {
    rows = record {
      protected = stay_recalled tree (protected_in (s.view j)) h.rows.protected (protected_reached j);
      got = λ none. absurd (base_past j none);
      wants = none_wanted j ne _;
    };
    entries = record { named = tells history.named refl j ∙ h.entries.named; rooted = tells history.rooted_trees refl j ∙ h.entries.rooted };
  }

  own_rows : RowsRecalled (noted lists i e) (told v.entries).tree v'
  own_rows =
      let h = (all i ok.present).rows in
      let tree : ℕ → Tree = (told v.entries).tree in record {
        protected = stay_recalled tree (protected_in v) h.protected (protected_reached i);
        got = λ _. stay_recalled tree (rows_kept v) (kept_recalled z (record { lock = s.lock; words = k.began; view = s.view }) k.meaning k.strengthened.holds tree v known h.protected) kept_reached;
        wants = tt;
      }

  told_then : told (v.entries ++ e ∷ []) ≡ own.after (told v.entries) e
  told_then = told_one nothing v.entries e

  pub claim_recalls : Recalls z (put s.view i v')
  claim_recalls = let h = all i ok.present in noted_seats z s.view i v' e ok.present refl others record {
    rows = subst (λ (t : Told). RowsRecalled (noted lists i e) t.tree v') (sym told_then) own_rows;
    entries = record {
      named = tells history.named refl i ∙ (h.entries.named ∙ sym (ap (λ (t : Told). t.built) told_then));
      rooted = tells history.rooted_trees refl i ∙ (h.entries.rooted ∙ (sym (append-nil (own.all_roots v.entries)) ∙ sym (roots_one nothing v.entries e)));
    };
  } all
