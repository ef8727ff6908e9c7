-- The draw keeps what holds of the store.
use Rattle.std.proofs.Common.{◌≡◌, ◌≢◌, ℕ, zero, suc, ◌+◌, ◌<◌, ◌≤◌, Bool, true, false, Option, None, Some, [], refl, sym, ap, ◌∙◌, arith, eq-eqb, ne_eqb, ltb-true, ltb-false}
use Rattle.std.specs.Prelude.{nat_lt}
use mathlib.Core.Logic.{dite}
use native.Mathlib.Decide.{ℕ_discrete}
use Rattle.store_model.specs.Words.{Place, Base, FreeCount, Claim, write, put}
use Rattle.store_model.specs.Calls.{Content, Call, Drawing, Placing, View}
use Rattle.store_model.specs.Machine.{Sizes, State, with_call, overdrawn, acted, action}
use Rattle.store_model.specs.Meaning.{Meaning}
use Rattle.store_model.specs.Seats.{index, IsDrawn, SeatHolds}
use Rattle.store_model.specs.Invariant.{is_at, one_if, tally, RowsHold, NumbersHold, Holds, IsStoreSound}
use Rattle.store_model.proofs.Basics.{choose, put_same, put_other, where_at}
use Rattle.store_model.proofs.Stable.{Rely, stable}
use Rattle.store_model.proofs.Views.{new_call, chains_live, kept_with}
use Rattle.store_model.proofs.Histories.{history_same}
use Rattle.store_model.proofs.LoadsKept.{seat_at, stays_at}

below : (f g : ℕ → Bool) (i n : ℕ) → n ≤ i → ((j : ℕ) → j ≢ i → g j ≡ f j) → tally g n ≡ tally f n
below f g i zero l other = refl
below f g i (suc n) l other = let t : tally g n ≡ tally f n = below f g i n (omega arith) other in
    let p = ap one_if (other n (let d : n < i = omega arith in λ e. omega arith)) in omega arith

-- one more has it
pub tally_more : (f g : ℕ → Bool) (i n : ℕ) → i < n → f i ≡ false → g i ≡ true → ((j : ℕ) → j ≢ i → g j ≡ f j) → tally g n ≡ suc (tally f n)
tally_more f g i zero l a b other = absurd (omega arith)
tally_more f g i (suc n) l a b other = dite (ℕ_discrete n i)
    (λ e. let t : tally g n ≡ tally f n = below f g i n (omega arith) other in
    let p = ap one_if (ap g e ∙ b) in let q = ap one_if (ap f e ∙ a) in omega arith)
    (λ ne. let t : tally g n ≡ suc (tally f n) = tally_more f g i n (let d : i ≢ n = (λ k. ne (sym k)) in omega arith) a b other in
    let p = ap one_if (other n ne) in omega arith)

not_at : (o : Option ℕ) (base : ℕ) → o ≢ Some base → is_at o base ≡ false
not_at None base ne = refl
not_at (Some b) base ne = ne_eqb b base (λ e. ne (ap Some e))

module _ (z : Sizes) (s : State) (m : Meaning) (h : Holds z s m) (i : ℕ) (there : i < z.seats) where
  -- the words after the draw
  abbrev pub drew : Place → ℕ
  drew = write s.words Claim (suc (s.words Claim))

  drew_rely : (j : ℕ) (v : View) → Rely j v s.words drew m m
  drew_rely j v = record {
    base = refl;
    count = refl;
    in_use = refl;
    place = λ k. refl;
    claim = omega arith;
    rows = λ r _. refl;
    live = λ r l. l;
    tree = λ r _. refl;
    chain = λ b. record { more = []; is = refl };
    own = λ d _. refl;
    dead = λ k _ e. e;
    root_count = refl;
    root = λ k. refl;
  }

  drew_rows : RowsHold z drew m
  drew_rows = record { few = h.rows.few; there = h.rows.there; differ = h.rows.differ; others = h.rows.others; free = λ k l. h.rows.free k (omega arith) }

  drew_numbers : (v : View) → suc (s.words Claim) ≤ s.words FreeCount + tally (λ j. is_at (put s.view i v j).overdraw (s.words Base)) z.seats → NumbersHold z drew m (put s.view i v)
  drew_numbers v l = record { born = h.numbers.born; differ = h.numbers.differ; drawn = l; room = h.numbers.room; absent = h.numbers.absent }

  pub kept_drawing : (c : Content) (from n : ℕ) → (s.view i).call ≡ Drawing c from n → IsStoreSound z m.live (acted s.words s.view i s.lock (action (s.view i) (Drawing c from n)))
  kept_drawing c from n e =
      let v = s.view i in
      let x : Call = Drawing c from n in
      let before : SeatHolds s.words m i (with_call v x) = seat_at z s m h i x e in
      let stay = stays_at z s m h i x e (λ f. absurd (cc)) in
      let seat : SeatHolds drew m i (with_call v x) = stable i (with_call v x) s.words drew m m (drew_rely i (with_call v x)) (chains_live z s m h i) before in
      let claim : ℕ = s.words Claim in
      let count : ℕ = s.words FreeCount in
      let read = before.numbers.read in
      let free : suc claim ≤ count → (v' : View) → v'.overdraw ≡ v.overdraw → suc claim ≤ count + tally (λ j. is_at (put s.view i v' j).overdraw (s.words Base)) z.seats = (λ l v' _. omega arith) in
      choose (λ (w : View). IsStoreSound z m.live (record { lock = s.lock; words = drew; view = put s.view i w })) (nat_lt claim n) (with_call v (Placing c from claim)) (overdrawn v c from claim n)
      (λ less. let l : claim < count = (let a = ltb-true claim n less in let b = read.0 in omega arith) in
      let v' : View = with_call v (Placing c from claim) in record {
        meaning = m;
        grows = λ r l. l;
        holds = kept_with z s m h i v'
            (λ a is j ne other. let own : IsDrawn s.words m (s.view j).seen claim = where_at (index (s.view j).call) (IsDrawn s.words m (s.view j).seen) claim (other ∙ sym is) (h.seats j).drawn.index in absurd (let b = own.claimed in omega arith))
            (h.lock.access i) drew m drew_rows h.chains (drew_numbers v' (free l v' refl)) (history_same z s.words drew m s.view i v' h.history refl (omega arith) refl (λ r _. refl)) (λ j _. drew_rely j (s.view j))
            (new_call drew m i v x (Placing c from claim) seat stay (record { walk = seat.walks.walk; look = tt })
            (record { index = record { claimed = omega arith; counted = l; dead = h.rows.free claim (omega arith) l; later = before.numbers.seen }; row = tt }) tt seat.protects.wants);
      })
      (λ not. let l : count ≤ claim = (let a = ltb-false claim n not in let b = read.0 in omega arith) in
      let v' : View = overdrawn v c from claim n in
      let one_more : tally (λ j. is_at (put s.view i v' j).overdraw (s.words Base)) z.seats ≡ suc (tally (λ j. is_at (s.view j).overdraw (s.words Base)) z.seats) =
      tally_more (λ j. is_at (s.view j).overdraw (s.words Base)) (λ j. is_at (put s.view i v' j).overdraw (s.words Base)) i z.seats there
      (not_at v.overdraw (s.words Base) read.1)
      (ap (λ (w : View). is_at w.overdraw (s.words Base)) (put_same s.view i v') ∙ eq-eqb v.base (s.words Base) (before.numbers.base (λ a. let b = sym stay ∙ a in absurd (cc))))
      (λ j ne. ap (λ (w : View). is_at w.overdraw (s.words Base)) (put_other s.view i v' j ne)) in record {
        meaning = m;
        grows = λ r l. l;
        holds = kept_with z s m h i v' (λ a is. absurd (cc)) (h.lock.access i) drew m drew_rows h.chains
            (drew_numbers v' (let a = h.numbers.drawn in omega arith)) (history_same z s.words drew m s.view i v' h.history refl (omega arith) refl (λ r _. refl)) (λ j _. drew_rely j (s.view j))
            record {
              walks = record { walk = tt; look = tt };
              drawn = record { index = tt; row = tt };
              numbers = record { base = seat.numbers.base; in_use = seat.numbers.in_use; calls = λ ne. absurd (ne refl); seen = seat.numbers.seen; entered = seat.numbers.entered; overdraw = λ _. omega arith; own = seat.numbers.own; over = λ b f. let g : v.base ≡ b = cc in let k = seat.numbers.own in omega arith; read = tt };
              protects = record { roots = seat.protects.roots; wants = tt; got = seat.protects.got; knows = seat.protects.knows; keeps = seat.protects.keeps; keeps_words = seat.protects.keeps_words };
              notes = record { rises = seat.notes.rises; keys = seat.notes.keys; away = seat.notes.away };
            };
      })
