-- The stores into a drawn row keep what holds of the store.
use Rattle.std.proofs.Common.{◌≡◌, ◌≢◌, ℕ, suc, ◌+◌, ◌<◌, eqb, Bool, true, false, cond, Option, Some, [], length, get_or, refl, sym, ap, ◌∙◌, subst, arith, eq-eqb}
use Rattle.store_model.specs.Words.{Place, Base, FreeCount, InUse, FreePlace, RowWord, Birth, Next, write, put, RowWords, row_at}
use Rattle.store_model.specs.Calls.{Content, words_of, bucket, Call, Idle, Comparing, Passing, Finding, Ended, Filling, Numbering, Linking, Publishing, View}
use Rattle.store_model.specs.Machine.{Sizes, State, with_call, acted, action}
use Rattle.store_model.specs.Meaning.{Meaning, Agrees}
use Rattle.store_model.specs.Seats.{wanted, drawn, index, index_in, Walked, IsDrawn, HoldsRow, MayWant, SeatHolds}
use Rattle.store_model.specs.Invariant.{RowsHold, ChainsHold, NumbersHold, Holds, IsStoreSound}
use Rattle.store_model.proofs.Basics.{choose, where_at, eqb_is, eqb_not}
use Rattle.store_model.proofs.Stable.{Rely, stable}
use Rattle.store_model.proofs.Rows.{word_off, birth_off, next_off, live_apart, chains_rows, numbers_rows}
use Rattle.store_model.proofs.Views.{new_call, chains_live, kept_with, same_overdrawn, apart_as_before}
use Rattle.store_model.proofs.Histories.{history_same}
use Rattle.store_model.proofs.LoadsKept.{seat_at, stays_at}

-- the index of a row that a call holds
index_of_pair : (o : Option (ℕ × ℕ)) (d : ℕ × ℕ) → o ≡ Some d → index_in o ≡ Some d.0
index_of_pair o d e = ap index_in e

pub index_drawn : (x : Call) (d : ℕ × ℕ) → drawn x ≡ Some d → index x ≡ Some d.0
index_drawn (Comparing c o from old at k) d e = index_of_pair o d e
index_drawn (Passing c o from old at dif) d e = index_of_pair o d e
index_drawn (Finding c o r) d e = index_of_pair o d e
index_drawn (Filling c from a r k) d e = ap index_in e
index_drawn (Numbering c from a r) d e = ap index_in e
index_drawn (Linking c from a r) d e = ap index_in e
index_drawn (Publishing c from a r) d e = ap index_in e
index_drawn x d e = absurd (cc)

module _ (z : Sizes) (s : State) (m : Meaning) (h : Holds z s m) (i : ℕ) where
  -- the drawn row of another seat is another row
  pub rows_apart : (a r : ℕ) → index (s.view i).call ≡ Some a → r ≡ s.words (FreePlace a) → a < s.words FreeCount → (j : ℕ) → j ≢ i → (d : ℕ × ℕ) → drawn (s.view j).call ≡ Some d → d.1 ≢ r
  rows_apart a r mine place counted j ne d theirs same =
      let v = s.view j in
      let held : HoldsRow s.words (s.words Base) v.call d = where_at (drawn v.call) (HoldsRow s.words (s.words Base) v.call) d theirs (h.seats j).drawn.row in
      let is : IsDrawn s.words m v.seen d.0 = where_at (index v.call) (IsDrawn s.words m v.seen) d.0 (index_drawn v.call d theirs) (h.seats j).drawn.index in
      let e : d.0 ≡ a = h.rows.differ d.0 a is.counted counted (sym held.place ∙ (same ∙ place)) in
      h.apart i j ne a mine (index_drawn v.call d theirs ∙ ap Some e)

  module _ (c : Content) (from a r : ℕ) (x : Call) (e : (s.view i).call ≡ x) (busy : x ≢ Idle) (held : drawn x ≡ Some (a, r)) (wants : wanted x ≡ Some c) (walk : SeatHolds s.words m i (with_call (s.view i) x) → Walked (row_at s.words) (m.chain (bucket c (s.words InUse))) c from (s.view i).passed) where
    seat : SeatHolds s.words m i (with_call (s.view i) x)
    seat = seat_at z s m h i x e

    pub is_drawn : IsDrawn s.words m (s.view i).seen a
    is_drawn = where_at (index x) (IsDrawn s.words m (s.view i).seen) a (index_drawn x (a, r) held) seat.drawn.index

    pub is_held : HoldsRow s.words (s.words Base) x (a, r)
    is_held = where_at (drawn x) (HoldsRow s.words (s.words Base) x) (a, r) held seat.drawn.row

    pub dead : m.live r ≡ false
    dead = ap m.live is_held.place ∙ is_drawn.dead

    may_want : MayWant s.words m (s.view i).seen c
    may_want = where_at (wanted x) (MayWant s.words m (s.view i).seen) c wants seat.protects.wants

    plain : SeatHolds s.words m i (with_call (s.view i) (Ended c from))
    plain = new_call s.words m i (s.view i) x (Ended c from) seat (stays_at z s m h i x e busy) (record { walk = walk seat; look = tt }) (record { index = tt; row = tt }) tt may_want

    pub row_stored : (u : Place → ℕ) (y : Call) → RowsHold z u m → ChainsHold z u m → NumbersHold z u m s.view
        → ((j : ℕ) (v : View) → ((d : ℕ × ℕ) → drawn v.call ≡ Some d → row_at u d.1 ≡ row_at s.words d.1) → Rely j v s.words u m m)
        → ((q : ℕ) → q ≢ r → row_at u q ≡ row_at s.words q) → u Base ≡ s.words Base
        → index y ≡ Some a → (SeatHolds u m i (with_call (s.view i) (Ended c from)) → SeatHolds u m i (with_call (s.view i) y))
        → Holds z (record { lock = s.lock; words = u; view = put s.view i (with_call (s.view i) y) }) m
    row_stored u y rows chains numbers rely off base mine own =
        let v = s.view i in
        let v' : View = with_call v y in
        kept_with z s m h i v' (apart_as_before z s m h i y (mine ∙ sym (ap index e ∙ index_drawn x (a, r) held))) (h.lock.access i) u m rows chains
        record { born = numbers.born; differ = numbers.differ; drawn = let k = numbers.drawn in let l = same_overdrawn z s m h i v' (apart_as_before z s m h i y (mine ∙ sym (ap index e ∙ index_drawn x (a, r) held))) (h.lock.access i) refl (u Base) in omega arith; room = numbers.room; absent = numbers.absent }
        (history_same z s.words u m s.view i v' h.history refl (omega arith) base (λ q l. ap (λ (p : RowWords). p.birth) (off q (live_apart m.live r q dead l))))
        (λ j ne. rely j (s.view j) (λ d k. off d.1 (rows_apart a r (ap index e ∙ index_drawn x (a, r) held) is_held.place is_drawn.counted j ne d k)))
        (own (stable i (with_call v (Ended c from)) s.words u m m (rely i (with_call v (Ended c from)) (λ d k. absurd (cc))) (chains_live z s m h i) plain))

  content_put : (w : Place → ℕ) (r k n l : ℕ) → write w (RowWord r k) n (RowWord r l) ≡ cond (eqb l k) n (w (RowWord r l))
  content_put w r k n l = ap (λ (b : Bool). cond (cond b (eqb l k) false) n (w (RowWord r l))) (eq-eqb r r refl)

  agrees_put : (w : Place → ℕ) (r k : ℕ) (c : Content) → Agrees (row_at w r) c k → Agrees (row_at (write w (RowWord r k) (get_or (words_of c) k 0)) r) c (suc k)
  agrees_put w r k c h l less = content_put w r k (get_or (words_of c) k 0) l ∙ choose (λ (n : ℕ). n ≡ get_or (words_of c) l 0) (eqb l k) (get_or (words_of c) k 0) (w (RowWord r l))
      (λ e. ap (λ (j : ℕ). get_or (words_of c) j 0) (sym (eqb_is l k e)))
      (λ ne. h l (let d : l ≢ k = eqb_not l k ne in omega arith))

  pub kept_filling : (c : Content) (from a r k : ℕ) → (s.view i).call ≡ Filling c from a r k → IsStoreSound z m.live (acted s.words s.view i s.lock (action (s.view i) (Filling c from a r k)))
  kept_filling c from a r k e =
      let x : Call = Filling c from a r k in
      let w = s.words in
      let n : ℕ = get_or (words_of c) k 0 in
      let busy : x ≢ Idle = (λ f. absurd (cc)) in
      let walk = λ (t : SeatHolds s.words m i (with_call (s.view i) x)). t.walks.walk in
      let u : Place → ℕ = write w (RowWord r k) n in
      let same : (q : ℕ) → m.live q ≡ true → row_at u q ≡ row_at w q = (λ q l. word_off w r k n q (live_apart m.live r q (dead c from a r x e busy refl refl walk) l)) in
      let old = is_drawn c from a r x e busy refl refl walk in
      let was = is_held c from a r x e busy refl refl walk in
      let more : Agrees (row_at u r) c (suc k) = agrees_put w r k c was.filled.0 in
      let drew : IsDrawn u m (s.view i).seen a = record { claimed = old.claimed; counted = old.counted; dead = old.dead; later = old.later } in
      let stay = stays_at z s m h i x e busy in
      choose (λ (y : Call). IsStoreSound z m.live (record { lock = s.lock; words = u; view = put s.view i (with_call (s.view i) y) })) (eqb (suc k) (length (words_of c))) (Numbering c from a r) (Filling c from a r (suc k))
      (λ last. record {
        meaning = m;
        grows = λ r l. l;
        holds = row_stored c from a r x e busy refl refl walk u (Numbering c from a r) h.rows (chains_rows m (row_at w) (row_at u) same z _ _ h.chains) (numbers_rows m (row_at w) (row_at u) same z _ _ _ _ _ _ h.numbers)
            (λ j v own. record { base = refl; count = refl; in_use = refl; place = λ p. refl; claim = omega arith; rows = same; live = λ q l. l; tree = λ q _. refl; chain = λ b. record { more = []; is = refl }; own = own; dead = λ p _ d. d; root_count = refl; root = λ p. refl })
            (word_off w r k n) refl refl
            (λ t. new_call u m i (s.view i) (Ended c from) (Numbering c from a r) t stay (record { walk = t.walks.walk; look = tt })
            (record { index = drew; row = record { place = was.place; filled = subst (Agrees (row_at u r) c) (eqb_is (suc k) _ last) more } }) tt t.protects.wants);
      })
      (λ not. record {
        meaning = m;
        grows = λ r l. l;
        holds = row_stored c from a r x e busy refl refl walk u (Filling c from a r (suc k)) h.rows (chains_rows m (row_at w) (row_at u) same z _ _ h.chains) (numbers_rows m (row_at w) (row_at u) same z _ _ _ _ _ _ h.numbers)
            (λ j v own. record { base = refl; count = refl; in_use = refl; place = λ p. refl; claim = omega arith; rows = same; live = λ q l. l; tree = λ q _. refl; chain = λ b. record { more = []; is = refl }; own = own; dead = λ p _ d. d; root_count = refl; root = λ p. refl })
            (word_off w r k n) refl refl
            (λ t. new_call u m i (s.view i) (Ended c from) (Filling c from a r (suc k)) t stay (record { walk = t.walks.walk; look = tt })
            (record { index = drew; row = record { place = was.place; filled = (more, let g = was.filled.1 in let f = eqb_not (suc k) _ not in omega arith) } }) tt t.protects.wants);
      })

  pub kept_numbering : (c : Content) (from a r : ℕ) → (s.view i).call ≡ Numbering c from a r → IsStoreSound z m.live (acted s.words s.view i s.lock (action (s.view i) (Numbering c from a r)))
  kept_numbering c from a r e =
      let x : Call = Numbering c from a r in
      let w = s.words in
      let n : ℕ = (s.view i).base + a in
      let busy : x ≢ Idle = (λ f. absurd (cc)) in
      let walk = λ (t : SeatHolds s.words m i (with_call (s.view i) x)). t.walks.walk in
      let u : Place → ℕ = write w (Birth r) n in
      let same : (q : ℕ) → m.live q ≡ true → row_at u q ≡ row_at w q = (λ q l. birth_off w r n q (live_apart m.live r q (dead c from a r x e busy refl refl walk) l)) in
      let old = is_drawn c from a r x e busy refl refl walk in
      let was = is_held c from a r x e busy refl refl walk in
      let stay = stays_at z s m h i x e busy in
      let own_base : (s.view i).base ≡ w Base = (h.seats i).numbers.base (λ f. let g = sym stay ∙ f in absurd (cc)) in
      record {
        meaning = m;
        grows = λ r l. l;
        holds = row_stored c from a r x e busy refl refl walk u (Linking c from a r) h.rows (chains_rows m (row_at w) (row_at u) same z _ _ h.chains) (numbers_rows m (row_at w) (row_at u) same z _ _ _ _ _ _ h.numbers)
            (λ j v own. record { base = refl; count = refl; in_use = refl; place = λ p. refl; claim = omega arith; rows = same; live = λ q l. l; tree = λ q _. refl; chain = λ b. record { more = []; is = refl }; own = own; dead = λ p _ d. d; root_count = refl; root = λ p. refl })
            (birth_off w r n) refl refl
            (λ t. new_call u m i (s.view i) (Ended c from) (Linking c from a r) t stay (record { walk = t.walks.walk; look = tt })
            (record {
              index = record { claimed = old.claimed; counted = old.counted; dead = old.dead; later = old.later };
              row = record { place = was.place; filled = record { content = was.filled; birth = ap (λ (b : Bool). cond b n (w (Birth r))) (eq-eqb r r refl) ∙ ap (λ (k : ℕ). k + a) own_base } };
            }) tt t.protects.wants);
      }

  pub kept_linking : (c : Content) (from a r : ℕ) → (s.view i).call ≡ Linking c from a r → IsStoreSound z m.live (acted s.words s.view i s.lock (action (s.view i) (Linking c from a r)))
  kept_linking c from a r e =
      let x : Call = Linking c from a r in
      let w = s.words in
      let busy : x ≢ Idle = (λ f. absurd (cc)) in
      let walk = λ (t : SeatHolds s.words m i (with_call (s.view i) x)). t.walks.walk in
      let u : Place → ℕ = write w (Next r) from in
      let same : (q : ℕ) → m.live q ≡ true → row_at u q ≡ row_at w q = (λ q l. next_off w r from q (live_apart m.live r q (dead c from a r x e busy refl refl walk) l)) in
      let old = is_drawn c from a r x e busy refl refl walk in
      let was = is_held c from a r x e busy refl refl walk in
      let stay = stays_at z s m h i x e busy in
      record {
        meaning = m;
        grows = λ r l. l;
        holds = row_stored c from a r x e busy refl refl walk u (Publishing c from a r) h.rows (chains_rows m (row_at w) (row_at u) same z _ _ h.chains) (numbers_rows m (row_at w) (row_at u) same z _ _ _ _ _ _ h.numbers)
            (λ j v own. record { base = refl; count = refl; in_use = refl; place = λ p. refl; claim = omega arith; rows = same; live = λ q l. l; tree = λ q _. refl; chain = λ b. record { more = []; is = refl }; own = own; dead = λ p _ d. d; root_count = refl; root = λ p. refl })
            (next_off w r from) refl refl
            (λ t. new_call u m i (s.view i) (Ended c from) (Publishing c from a r) t stay (record { walk = t.walks.walk; look = tt })
            (record {
              index = record { claimed = old.claimed; counted = old.counted; dead = old.dead; later = old.later };
              row = record { place = was.place; filled = (record { content = was.filled.content; birth = was.filled.birth }, ap (λ (b : Bool). cond b from (w (Next r))) (eq-eqb r r refl)) };
            }) tt t.protects.wants);
      }
