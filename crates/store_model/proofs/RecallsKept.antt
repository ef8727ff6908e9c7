-- Each step keeps what is recalled.
use Rattle.std.proofs.Common.{◌≡◌, ◌≢◌, ◌⊎◌, ℕ, zero, suc, ◌+◌, ◌<◌, ◌≤◌, eqb, Option, None, Some, List, [], ◌∷◌, ◌++◌, length, get_or, drop, refl, sym, ap, ◌∙◌, subst, ⊎_elim, arith, ltb-true}
use Rattle.std.specs.Prelude.{nat_lt}
use Rattle.term_model.specs.Tree.{Tree}
use Rattle.history_core.specs.declared.entry.Entry.{Entry}
use mathlib.Core.Logic.{dite}
use native.Mathlib.Decide.{ℕ_discrete}
use Rattle.store_model.specs.Words.{Place, Base, Bucket, InUse, RowWord, RootCount, Root, put}
use Rattle.store_model.specs.Calls.{Content, words_of, bucket, Call, Idle, Comparing, Passing, Finding, Ended, Counting, Drawing, Placing, Filling, Numbering, Linking, Publishing, Loading, Storing, Away, Ready, View}
use Rattle.store_model.specs.Machine.{Sizes, State, Each, with_call, with_path, passing, arrived, ended, compared, filled, gained, refusing, overdrawn, action, based, rooted, root_counted, knowing, with_got, roots_of, protected_in, rows_kept, MayName, has_argument, MayBegin, IsCreation}
use Rattle.store_model.specs.Meaning.{Meaning}
use Rattle.store_model.specs.Seats.{Where, wanted, RootsKnown}
use Rattle.store_model.specs.Invariant.{listed, Holds as StateHolds}
use Rattle.store_model.specs.Steps.{IsAtRest}
use Rattle.store_model.specs.Told.{told}
use Rattle.store_model.specs.Recalls.{IsRecalled, held_in, NoneSince, RowsRecalled, EntriesRecalled, SeatRecalls, Recalls}
use Rattle.store_model.proofs.Basics.{choose, put_case, each_map, each_join, each_left, each_right, eqb_is}
use Rattle.store_model.proofs.Histories.{listed_same}
use Rattle.store_model.proofs.LoadsKept.{seat_at, stays_at}
use Rattle.store_model.proofs.Own.{each_drop, each_set, each_roots, roots_are, protected_are}
use Rattle.store_model.proofs.Publishes.{seat, dead, none_has, b_is, own_base}
use Rattle.store_model.proofs.Recalling.{named_recalled, kept_recalled}
use Rattle.store_model.proofs.RecallsNoted.{find_recalls, make_recalls}

-- what holds of the content that a call is to create, in its next stages
module _ (Q : Content → Type 0) (c : Content) (k : Q c) where
  wants_ended : (d : Option (ℕ × ℕ)) (from : ℕ) → Where (wanted (ended c d from)) Q
  wants_ended None from = k
  wants_ended (Some d) from = k

  wants_arrived : (d : Option (ℕ × ℕ)) (from old at : ℕ) → Where (wanted (arrived c d from old at)) Q
  wants_arrived d from old at = choose (λ (x : Call). Where (wanted x) Q) (eqb at old) (ended c d from) (Comparing c d from old at 0) (λ _. wants_ended d from) (λ _. k)

  wants_compared : (d : Option (ℕ × ℕ)) (from old at n word : ℕ) → Where (wanted (compared c d from old at n)) Q
  wants_compared d from old at n word = choose (λ (x : Call). Where (wanted x) Q) (eqb (suc n) (length (words_of c))) _ (Comparing c d from old at (suc n)) (λ _. k) (λ _. k)

  wants_filled : (from a r n : ℕ) → Where (wanted (filled c from a r n)) Q
  wants_filled from a r n = choose (λ (x : Call). Where (wanted x) Q) (eqb (suc n) (length (words_of c))) (Numbering c from a r) (Filling c from a r (suc n)) (λ _. k) (λ _. k)

of_roots : (P : ℕ → Type 0) (w : Place → ℕ) (i n : ℕ) → Each P (roots_of w i n) → (k : ℕ) → k < n → P (w (Root i k))
of_roots P w i zero h k l = absurd (omega arith)
of_roots P w i (suc n) h k l = dite (ℕ_discrete k n)
    (λ e. subst (λ (q : ℕ). P (w (Root i q))) (sym e) (each_right P (roots_of w i n) (w (Root i n) ∷ []) h).0)
    (λ ne. of_roots P w i n (each_left P (roots_of w i n) (w (Root i n) ∷ []) h) k (omega arith))

-- nothing is noted
pub same_seats : (z : Sizes) (view : ℕ → View) (i : ℕ) (v : View) → v.entries ≡ (view i).entries → RowsRecalled (listed z.seats (λ j. (view j).entries)) (told v.entries).tree v → Recalls z view → Recalls z (put view i v)
same_seats z view i v same rows all j l =
    let lists : List (List Entry) = listed z.seats (λ j. (view j).entries) in
    let now : listed z.seats (λ j. (put view i v j).entries) ≡ lists = listed_same z.seats _ _ (λ j. put_case (λ (p : View). p.entries ≡ (view j).entries) view i v j (λ e. same ∙ ap (λ (k : ℕ). (view k).entries) (sym e)) (λ _. refl)) in
    subst (λ (ls : List (List Entry)). SeatRecalls ls j (put view i v j)) (sym now)
    (put_case (SeatRecalls lists j) view i v j
    (λ e. record { rows = rows; entries = subst (EntriesRecalled lists j) (ap (λ (k : ℕ). (view k).entries) e ∙ sym same) (all j l).entries })
    (λ _. all j l))

module _ (z : Sizes) (s : State) (m : Meaning) (h : StateHolds z s m) (i : ℕ) (there : i < z.seats) (all : Recalls z s.view) where
  abbrev lists : List (List Entry)
  lists = listed z.seats (λ j. (s.view j).entries)

  abbrev v : View
  v = s.view i

  abbrev tree_of : ℕ → Tree
  tree_of = (told v.entries).tree

  abbrev Recalled : ℕ → Type 0
  Recalled = IsRecalled (held_in lists) tree_of

  rows : RowsRecalled lists tree_of v
  rows = (all i there).rows

  same : (u : View) → u.entries ≡ v.entries → RowsRecalled lists (told u.entries).tree u → Recalls z (put s.view i u)
  same u e k = same_seats z s.view i u e k all

  -- in an access the own base is the present one
  none_since : v.stay ≢ Away → NoneSince lists v.base
  none_since inside y n c = let a = h.history.collects y n c in let b = (h.seats i).numbers.base inside in omega arith

  ready_inside : v.stay ≡ Ready → v.stay ≢ Away
  ready_inside stay f = let a : Away ≡ Ready = sym f ∙ stay in absurd (cc)

  wanted_at : (x : Call) → v.call ≡ x → Where (wanted x) (λ c. Each Recalled c.arguments)
  wanted_at x e = subst (λ (y : Call). Where (wanted y) (λ c. Each Recalled c.arguments)) e rows.wants

  with_next : (y : Call) → Where (wanted y) (λ c. Each Recalled c.arguments) → Recalls z (put s.view i (with_call v y))
  with_next y k = same (with_call v y) refl record { protected = rows.protected; got = rows.got; wants = k }

  -- a creation goes on
  pub go_recalls : (x : Call) → v.call ≡ x → IsCreation x → Recalls z (put s.view i ((action v x).moved (s.words (action v x).place)))
  go_recalls Idle e is = absurd is
  go_recalls (Loading ls) e is = absurd is
  go_recalls (Storing ls ss) e is = absurd is
  go_recalls (Comparing c d from old at n) e is =
      let k = wanted_at (Comparing c d from old at n) e in
      choose (λ (y : Call). Recalls z (put s.view i (with_call v y))) (eqb (s.words (action v (Comparing c d from old at n)).place) (get_or (words_of c) n 0)) (compared c d from old at n) (Passing c d from old at (n, s.words (action v (Comparing c d from old at n)).place))
      (λ _. with_next (compared c d from old at n) (wants_compared (λ c. Each Recalled c.arguments) c k d from old at n 0)) (λ _. with_next _ k)
  go_recalls (Passing c d from old at dif) e is =
      let n : ℕ = s.words (action v (Passing c d from old at dif)).place in
      same (with_call (with_path v (suc v.passed) (v.path ++ passing at dif n ∷ [])) (arrived c d from old n)) refl
      record { protected = rows.protected; got = rows.got; wants = wants_arrived (λ c. Each Recalled c.arguments) c (wanted_at (Passing c d from old at dif) e) d from old n }
  go_recalls (Finding c d r) e is =
      let seat = seat_at z s m h i (Finding c d r) e in
      find_recalls z s m h i there (stays_at z s m h i _ e (λ f. absurd (cc))) c seat.protects.wants r seat.walks.look.live seat.walks.look.looks (wanted_at (Finding c d r) e) all
  go_recalls (Ended c from) e is = with_next _ (wanted_at (Ended c from) e)
  go_recalls (Counting c from claim) e is =
      let n : ℕ = s.words (action v (Counting c from claim)).place in
      choose (λ (u : View). Recalls z (put s.view i u)) (nat_lt claim n) (with_call v (Drawing c from n)) (refusing v c from claim n)
      (λ _. with_next _ (wanted_at (Counting c from claim) e))
      (λ _. same (refusing v c from claim n) refl record { protected = rows.protected; got = rows.got; wants = tt })
  go_recalls (Drawing c from count) e is =
      let n : ℕ = s.words (action v (Drawing c from count)).place in
      choose (λ (u : View). Recalls z (put s.view i u)) (nat_lt n count) (with_call v (Placing c from n)) (overdrawn v c from n count)
      (λ _. with_next _ (wanted_at (Drawing c from count) e))
      (λ _. same (overdrawn v c from n count) refl record { protected = rows.protected; got = rows.got; wants = tt })
  go_recalls (Placing c from a) e is = with_next _ (wanted_at (Placing c from a) e)
  go_recalls (Filling c from a r n) e is = with_next _ (wants_filled (λ c. Each Recalled c.arguments) c (wanted_at (Filling c from a r n) e) from a r n)
  go_recalls (Numbering c from a r) e is = with_next _ (wanted_at (Numbering c from a r) e)
  go_recalls (Linking c from a r) e is = with_next _ (wanted_at (Linking c from a r) e)
  go_recalls (Publishing c from a r) e is =
      let n : ℕ = s.words (action v (Publishing c from a r)).place in
      let k = wanted_at (Publishing c from a r) e in
      let own = seat z s m h i there c from a r e in
      let index = own.drawn.index in
      let base = own_base z s m h i there c from a r e in
      choose (λ (u : View). Recalls z (put s.view i u)) (eqb n from) (gained v c r (v.base + a) _) (with_call v (arrived c (Some (a, r)) n from n))
      (λ won. let head : s.words (Bucket (bucket c (s.words InUse))) ≡ from = ap (λ (b : ℕ). s.words (Bucket b)) (sym (b_is z s m h i there c from a r e)) ∙ eqb_is n from won in
      make_recalls z s m h i there (stays_at z s m h i _ e (λ f. absurd (cc))) c own.protects.wants r (v.base + a) (dead z s m h i there c from a r e)
      (subst (λ (q : ℕ). q < z.rows) (sym own.drawn.row.place) (h.rows.there a index.counted)) (let l = index.later in omega arith)
      (none_has z s m h i there c from a r e head) k all)
      (λ _. with_next _ (wants_arrived (λ c. Each Recalled c.arguments) c k (Some (a, r)) n from n))

  pub base_recalls : v.stay ≡ Away → Recalls z (put s.view i (based v (s.words Base)))
  base_recalls away = let n : ℕ = s.words Base in same (based v n) refl record {
    protected = rows.protected;
    got = λ none. choose (Each Recalled) (eqb n v.base) v.got (rows_kept v)
        (λ e. rows.got (subst (NoneSince lists) (eqb_is n v.base e) none))
        (λ _. kept_recalled z s m h tree_of v (h.seats i).protects.keeps_words rows.protected);
    wants = rows.wants;
  }

  module _ (own : RootsKnown z s.words i (s.view i)) (rest : IsAtRest (s.view i)) where
    roots : (k : ℕ) → k < s.words (RootCount i) → Recalled (s.words (Root i k))
    roots k l = of_roots Recalled s.words i (s.words (RootCount i)) (subst (Each Recalled) (protected_are z s.words i v own) rows.protected) k l

    -- what the seat may name
    pub may_recall : (r : ℕ) → MayName s.words i v r → IsRecalled (held_in (listed z.seats (λ j. (s.view j).entries))) (told (s.view i).entries).tree r
    may_recall r may = named_recalled z s m h tree_of i v roots (rows.got (none_since (ready_inside rest.stay))) r may

    pub begin_recalls : (c : Content) → MayBegin z s.words i v c → (n : ℕ) → Recalls z (put s.view i (with_call (with_path v 0 []) (arrived c None n 0 n)))
    begin_recalls c may n = same (with_call (with_path v 0 []) (arrived c None n 0 n)) refl record {
      protected = rows.protected;
      got = rows.got;
      wants = wants_arrived (λ c. Each Recalled c.arguments) c (each_map (MayName s.words i v) Recalled c.arguments may_recall may.named) None n 0 n;
    }

    pub load_root_recalls : (k : ℕ) → k < v.root_count → Recalls z (put s.view i (with_got v (s.words (Root i k))))
    load_root_recalls k l = same (with_got v (s.words (Root i k))) refl record { protected = rows.protected; got = λ none. (roots k (let a = own.count in omega arith), rows.got none); wants = rows.wants }

    pub store_root_recalls : (k r : ℕ) → k < z.depth → MayName s.words i v r → Recalls z (put s.view i (rooted v k r))
    store_root_recalls k r l may = same (rooted v k r) refl record {
      protected = each_set Recalled v.root_count k r v.roots rows.protected (may_recall r may);
      got = λ none. choose (Each Recalled) (nat_lt k v.root_count) (get_or v.roots k 0 ∷ v.got) v.got
          (λ e. (subst Recalled (own.root k l) (roots k (let a = own.count in let b = ltb-true k v.root_count e in omega arith)), rows.got none)) (λ _. rows.got none);
      wants = rows.wants;
    }

    pub store_count_recalls : (n : ℕ) → n ≤ z.depth → ((k : ℕ) → k < n → (k < v.root_count) ⊎ MayName s.words i v (s.words (Root i k))) → Recalls z (put s.view i (root_counted v n))
    store_count_recalls n l may = same (root_counted v n) refl record {
      protected = subst (Each Recalled) (roots_are z s.words i v own n l)
          (each_roots Recalled s.words i n (λ k b. ⊎_elim (λ c. roots k (let a = own.count in omega arith)) (may_recall (s.words (Root i k))) (may k b)));
      got = λ none. each_join Recalled (drop n (protected_in v)) v.got (each_drop Recalled n (protected_in v) rows.protected) (rows.got none);
      wants = rows.wants;
    }

    pub read_argument_recalls : (r j : ℕ) → j < s.words (RowWord r 1) → MayName s.words i v r → Recalls z (put s.view i (with_got (knowing v r (suc (suc j)) (s.words (RowWord r (suc (suc j))))) (s.words (RowWord r (suc (suc j))))))
    read_argument_recalls r j l may = same (with_got (knowing v r (suc (suc j)) (s.words (RowWord r (suc (suc j))))) (s.words (RowWord r (suc (suc j))))) refl
        record { protected = rows.protected; got = λ none. (may_recall (s.words (RowWord r (suc (suc j)))) (has_argument r j may l), rows.got none); wants = rows.wants }
