-- What a Full means after a collection in the same access.
use Rattle.std.proofs.Common.{◌≡◌, ◌≢◌, ℕ, suc, ◌<◌, ◌≤◌, eqb, true, sym, ◌∙◌, subst, ⊎_elim, arith, true≢false, Bool, false, None, Some, List, [], ◌∷◌, refl, ap}
use Rattle.std.specs.Prelude.{nat_lt, Contains}
use Rattle.std.proofs.lemmas.Bool.{ltb-true}
use Rattle.term_model.specs.declared.Head.{Head}
use Rattle.history_core.specs.declared.entry.Entry.{Entry}
use Rattle.history_core.specs.declared.entry.Entry.TheVariants.{Make, Find, Roots, Collect}
use Rattle.history_core.specs.Chronicle.{IsNoted}
use Rattle.history_core.proofs.Members.{contains_here, contains_there}
use Rattle.std.proofs.lemmas.Bool.{cases_lt}
use Rattle.store_model.specs.Words.{Place, Base, FreeCount, Claim, InUse, FreePlace, Bucket, row_at}
use Rattle.store_model.specs.Calls.{Content, bucket, Call, Counting, Away, Ready, View}
use Rattle.store_model.specs.Machine.{Sizes, Each, In, with_call, State, IsCreation}
use Rattle.store_model.specs.Meaning.{Meaning, Matches, Linked, grown}
use Rattle.store_model.specs.Seats.{Lacks, Walked, IsSeen, SeatHolds, index}
use Rattle.store_model.specs.Invariant.{listed, RowsHold, ChainsHold, HistoryFits}
use Rattle.store_model.specs.Steps.{IsFresh, CoreHolds, is_collecting}
use Rattle.store_model.specs.Laws.{FullIsExact, FullIsExactAlone}
use Rattle.store_model.proofs.Publishes.{content_is}
use Rattle.store_model.proofs.Basics.{choose, both_true, eqb_is, each_map, each_in}
use Rattle.store_model.proofs.Histories.{listed_at, listed_length, held_live}
use Rattle.store_model.proofs.Locks.{is_in}
use Rattle.store_model.proofs.Wrapped.{words_kept, stores_collects, creation_calm, creation_busy}
use Rattle.store_model.proofs.Chains.{linked_once}
use Rattle.store_model.proofs.Eight.{in_places}
use Rattle.store_model.specs.Reads.{is_make, is_made, IsUndisturbed, Remembers}

-- where the chain from the present head was walked and lacks c, no live row has its tree
none_has : (z : Sizes) (w : Place → ℕ) (m : Meaning) → ChainsHold z w m → (c : Content) (from n : ℕ) → Each (λ r. m.live r ≡ true) c.arguments → Walked (row_at w) (m.chain (bucket c (w InUse))) c from n → w (Bucket (bucket c (w InUse))) ≡ from
    → (q : ℕ) → m.live q ≡ true → m.tree q ≢ grown m.tree c
none_has z w m h c from n wants walk head q l is =
    let b : ℕ = bucket c (w InUse) in
    let settled : Each (Lacks (row_at w) c) (m.chain b) = subst (Each (Lacks (row_at w) c)) (linked_once (row_at w) from walk.settled (m.chain b) walk.to_settled (subst (λ (n : ℕ). Linked (row_at w) n (m.chain b)) head (h.linked b))) walk.settled_lack in
    let contents : m.content q ≡ c = content_is z w m h c wants q l is in
    each_in (Lacks (row_at w) c) q (m.chain b) settled (subst (λ (k : Content). In q (m.chain (bucket k (w InUse)))) contents (h.present q l)) (subst (Matches (row_at w q)) contents (h.words q l))

all_live : (z : Sizes) (w : Place → ℕ) (m : Meaning) → RowsHold z w m → w FreeCount ≤ w Claim → ((k : ℕ) → k < w Claim → k < w FreeCount → m.live (w (FreePlace k)) ≡ true) → (r : ℕ) → r < z.rows → m.live r ≡ true
all_live z w m h past full r l = ⊎_elim
    (λ (t : (i : ℕ) × (i < w FreeCount) × (w (FreePlace i) ≡ r)). subst (λ (q : ℕ). m.live q ≡ true) t.2 (full t.0 (let a = t.1 in omega arith) t.1))
    (λ none. h.others r l none) (in_places (λ i. w (FreePlace i)) r (w FreeCount))

-- where all rows are live each place that counts is claimed
all_claimed : (z : Sizes) (w : Place → ℕ) (m : Meaning) → RowsHold z w m → ((r : ℕ) → r < z.rows → m.live r ≡ true) → w FreeCount ≤ w Claim
all_claimed z w m h all = ⊎_elim
    (λ less. absurd (true≢false (sym (all (w (FreePlace (w Claim))) (h.there (w Claim) less)) ∙ h.free (w Claim) (omega arith) less)))
    (λ past. omega arith) (cases_lt (w Claim) (w FreeCount))

pub full_is_exact : FullIsExact
full_is_exact z s i k c from n fresh e =
    let w = k.began in
    let m = k.meaning in
    let h = k.strengthened.holds in
    let f : IsFresh s.lock w m.live i (with_call (s.view i) (Counting c from n)) = subst (λ (x : Call). IsFresh s.lock w m.live i (with_call (s.view i) x)) e (k.strengthened.fresh i fresh) in
    let seat : SeatHolds w m i (with_call (s.view i) (Counting c from n)) = subst (λ (x : Call). SeatHolds w m i (with_call (s.view i) x)) e (h.seats i) in
    let wants = each_map (IsSeen w m (s.view i).seen) (λ r. m.live r ≡ true) c.arguments (λ r t. t.live) seat.protects.wants.arguments in
    let read : n ≡ w Claim = f.read in
    record {
      absent = none_has z w m h.chains c from (s.view i).passed wants seat.walks.walk f.head;
      full = (
        (λ full. all_live z w m h.rows (omega arith) (λ q a b. ⊎_elim (λ l. l) (λ g. absurd (cc)) (f.full q a b))),
        λ all. let a = all_claimed z w m h.rows all in omega arith,
      );
    }

-- a Make of a row
make_in : (base : ℕ) (e : Entry) (r : ℕ) → is_make base e r ≡ true → (n : ℕ) × (f : Head) × (rs : List ℕ) × (base ≤ n) × (e ≡ Make n f rs r)
make_in base (Make n f rs q) r h = let t = both_true (eqb q r) (nat_lt base (suc n)) h in
    (n, f, rs, (let l = ltb-true base (suc n) t.1 in omega arith), ap (Make n f rs) (eqb_is q r t.0))
make_in base (Find n f rs q) r h = absurd (true≢false (sym h))
make_in base (Roots n rs) r h = absurd (true≢false (sym h))
make_in base (Collect n rs) r h = absurd (true≢false (sym h))

-- one among the entries
found_make : (base : ℕ) (es : List Entry) (r : ℕ) → is_made base es r ≡ true → (n : ℕ) × (f : Head) × (rs : List ℕ) × (base ≤ n) × Contains es (Make n f rs r)
found_make base [] r h = absurd (true≢false (sym h))
found_make base (e ∷ es) r h = choose (λ (b : Bool). b ≡ true → (n : ℕ) × (f : Head) × (rs : List ℕ) × (base ≤ n) × Contains (e ∷ es) (Make n f rs r)) (is_make base e r) true (is_made base es r)
    (λ here _. let t = make_in base e r here in (t.0, t.1, t.2, t.3, subst (λ (d : Entry). Contains (e ∷ es) d) t.4 (contains_here e es)))
    (λ _ on. let t = found_make base es r on in (t.0, t.1, t.2, t.3, contains_there e es _ t.4)) h

-- what a seat has made since the base is live
made_live : (z : Sizes) (w : Place → ℕ) (m : Meaning) (view : ℕ → View) (i : ℕ) → i < z.seats → HistoryFits z w m view → (r : ℕ) → is_made (w Base) (view i).entries r ≡ true → m.live r ≡ true
made_live z w m view i there h r made =
    let t = found_make (w Base) (view i).entries r made in
    let e : Entry = Make t.0 t.1 t.2 r in
    let noted : IsNoted (listed z.seats (λ j. (view j).entries)) (i, e) = record {
      present = let a = listed_length z.seats (λ j. (view j).entries) in omega arith;
      own = subst (λ (es : List Entry). Contains es e) (sym (listed_at z.seats (λ j. (view j).entries) i [] there)) t.4;
    } in
    ⊎_elim (λ (l : t.0 < w Base). absurd (let b = t.3 in omega arith)) (λ held. held_live m r held) (h.recent r (i, e) noted refl)

-- The only seat creates, and has drawn nothing in this call: where the claim is at least the free
-- count all rows are live.
module _ (z : Sizes) (s : State) (i : ℕ) (k : CoreHolds z s) (rem : Remembers z s) (one : z.seats ≡ 1) (there : i < z.seats) (x : Call) (e : (s.view i).call ≡ x) (is : IsCreation x) (none : index x ≡ None) where
  stay : (s.view i).stay ≡ Ready
  stay = (k.holds.seats i).numbers.calls (λ f. creation_busy x is (sym e ∙ f))

  pub sole_words : s.words ≡ k.kept
  sole_words = words_kept z s k i (is_in s.lock i (s.view i).stay (k.holds.lock.access i) (λ f. let a : Away ≡ Ready = sym f ∙ stay in absurd (cc))) (ap is_collecting e ∙ creation_calm x is)

  pub sole_now : IsUndisturbed k.kept (with_call (s.view i) x)
  sole_now = subst (λ (u : Place → ℕ). IsUndisturbed u (with_call (s.view i) x)) sole_words (subst (λ (y : Call). IsUndisturbed s.words (with_call (s.view i) y)) e (rem.sole one i there))

  pub sole_all : k.kept FreeCount ≤ k.kept Claim → (r : ℕ) → r < z.rows → k.meaning.live r ≡ true
  sole_all past = all_live z k.kept k.meaning k.holds.rows past (λ q a b. ⊎_elim
      (λ m. made_live z k.kept k.meaning s.view i there k.holds.history (k.kept (FreePlace q)) m)
      (λ f. absurd (let g : None ≡ Some q = sym none ∙ f in cc))
      (sole_now.made (stores_collects x (creation_calm x is)) q a b))

-- with one seat
pub full_is_exact_alone : FullIsExactAlone
full_is_exact_alone z s i k c from n one there e =
    let w = k.began in
    let m = k.meaning in
    let strong = k.strengthened in
    let h = strong.holds in
    let core : CoreHolds z s = record { meaning = m; kept = w; holds = h; under = strong.under; bases = strong.bases; fresh = strong.fresh } in
    let x : Call = Counting c from n in
    let seat : SeatHolds w m i (with_call (s.view i) x) = subst (λ (y : Call). SeatHolds w m i (with_call (s.view i) y)) e (h.seats i) in
    let now : IsUndisturbed w (with_call (s.view i) x) = sole_now z s i core strong.remembers one there x e tt refl in
    let wants = each_map (IsSeen w m (s.view i).seen) (λ r. m.live r ≡ true) c.arguments (λ r t. t.live) seat.protects.wants.arguments in
    let read : n ≡ w Claim = now.read in
    record {
      absent = none_has z w m h.chains c from (s.view i).passed wants seat.walks.walk now.head;
      full = (
        (λ full. sole_all z s i core strong.remembers one there x e tt refl (omega arith)),
        λ all. let a = all_claimed z w m h.rows all in omega arith,
      );
    }
