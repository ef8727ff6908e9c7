-- A step of one seat: what has to be shown, of its own new view and of the words.
use Rattle.std.proofs.Common.{List, ◌≡◌, ◌≢◌, ◌⊎◌, ℕ, zero, suc, ◌+◌, Bool, true, None, Some, [], take, refl, sym, ap, ◌∙◌, subst, ⊎_elim, arith}
use Rattle.store_model.specs.Words.{Place, Base, FreeCount, InUse, write, put, Claim}
use Rattle.store_model.specs.Calls.{Call, Ready, KnownWord, Passed, Refusal, View}
use Rattle.store_model.specs.Staying.{led_to, words_of_rows}
use Rattle.store_model.specs.Machine.{Sizes, State, Each, Granted, with_call}
use Rattle.store_model.specs.Meaning.{Meaning, Stands}
use Rattle.store_model.specs.Seats.{Where, wanted, index, IsSeen, IsKnown, HasRead, MayWant, SeatWalks, RowDrawn, SeatHolds}
use Rattle.store_model.specs.Invariant.{is_at, one_if, tally, DrawnApart, RowsHold, ChainsHold, NumbersHold, HistoryFits, Holds}
use Rattle.store_model.proofs.Basics.{write_same, put_case, each_map}
use Rattle.store_model.proofs.Stable.{Rely, AreLive, stable}

pub tally_same : (f g : ℕ → Bool) (n : ℕ) → ((j : ℕ) → f j ≡ g j) → tally f n ≡ tally g n
tally_same f g zero e = refl
tally_same f g (suc n) e = ap (λ (b : Bool). one_if b + tally f n) (e n) ∙ ap (λ (k : ℕ). one_if (g n) + k) (tally_same f g n e)

pub nothing_done : (i : ℕ) (v : View) (w : Place → ℕ) (m : Meaning) → Rely i v w w m m
nothing_done i v w m = record {
  base = refl;
  count = refl;
  in_use = refl;
  place = λ k. refl;
  claim = omega arith;
  rows = λ r _. refl;
  live = λ r l. l;
  tree = λ r _. refl;
  chain = λ b. record { more = []; is = refl };
  own = λ d _. refl;
  dead = λ k _ e. e;
  root_count = refl;
  root = λ k. refl;
}

module _ (z : Sizes) (s : State) (m : Meaning) (h : Holds z s m) (i : ℕ) where
  pub chains_live : (b : ℕ) → AreLive m (m.chain b)
  chains_live b = each_map (Stands m (s.words InUse) b) (λ r. m.live r ≡ true) (m.chain b) (λ r k. k.live) (h.chains.standing b)

  -- the index of a new call is no other seat's
  abbrev pub IsApart : Call → Type 0
  IsApart x = (a : ℕ) → index x ≡ Some a → (j : ℕ) → j ≢ i → index (s.view j).call ≢ Some a

  pub apart_as_before : (x : Call) → index x ≡ index (s.view i).call → IsApart x
  apart_as_before x e a is j ne = h.apart i j ne a (sym e ∙ is)

  pub apart_stage : (x : Call) → (index x ≡ None) ⊎ (index x ≡ index (s.view i).call) → IsApart x
  apart_stage x e = ⊎_elim (λ none a is j ne. absurd (let k = sym none ∙ is in cc)) (apart_as_before x) e

  pub apart_none : (x : Call) → index x ≡ None → IsApart x
  apart_none x e a is j ne = absurd (let k = sym e ∙ is in cc)

  pub still_apart : (v : View) → IsApart v.call → DrawnApart (put s.view i v)
  still_apart v own j k ne a = put_case (λ (p : View). index p.call ≡ Some a → index (put s.view i v k).call ≢ Some a) s.view i v j
      (λ e is. put_case (λ (p : View). index p.call ≢ Some a) s.view i v k (λ f. absurd (ne (f ∙ sym e))) (λ other. own a is k other))
      (λ other is. put_case (λ (p : View). index p.call ≢ Some a) s.view i v k (λ f mine. own a mine j other is) (λ _. h.apart j k ne a is))

  module _ (v : View) (apart : IsApart v.call) (access : Granted s.lock i v.stay) where
    pub kept_with : (u : Place → ℕ) (n : Meaning) → RowsHold z u n → ChainsHold z u n → NumbersHold z u n (put s.view i v) → HistoryFits z u n (put s.view i v)
        → ((j : ℕ) → j ≢ i → Rely j (s.view j) s.words u m n) → SeatHolds u n i v
        → Holds z (record { lock = s.lock; words = u; view = put s.view i v }) n
    kept_with u n rows chains numbers history others own = record {
      lock = record { sound = h.lock.sound; seats = h.lock.seats; access = λ j. put_case (λ (p : View). Granted s.lock j p.stay) s.view i v j (λ e. subst (λ (k : ℕ). Granted s.lock k v.stay) (sym e) access) (λ _. h.lock.access j) };
      rows = rows;
      chains = chains;
      numbers = numbers;
      apart = still_apart v apart;
      history = history;
      seats = λ j. put_case (SeatHolds u n j) s.view i v j (λ e. subst (λ (k : ℕ). SeatHolds u n k v) (sym e) own) (λ ne. stable j (s.view j) s.words u m n (others j ne) chains_live (h.seats j));
    }

    -- the seats that have overdrawn stay the same
    pub same_overdrawn : v.overdraw ≡ (s.view i).overdraw → (base : ℕ) → tally (λ j. is_at (put s.view i v j).overdraw base) z.seats ≡ tally (λ j. is_at (s.view j).overdraw base) z.seats
    same_overdrawn e base = tally_same _ _ z.seats (λ j. put_case (λ (p : View). is_at p.overdraw base ≡ is_at (s.view j).overdraw base) s.view i v j
        (λ f. ap (λ o. is_at o base) (e ∙ ap (λ (k : ℕ). (s.view k).overdraw) (sym f))) (λ _. refl))

    -- a load: the own view alone changes
    pub loaded : (p : Place) → v.overdraw ≡ (s.view i).overdraw → HistoryFits z s.words m (put s.view i v) → SeatHolds s.words m i v
        → Holds z (record { lock = s.lock; words = write s.words p (s.words p); view = put s.view i v }) m
    loaded p e history own = subst (λ (u : Place → ℕ). Holds z (record { lock = s.lock; words = u; view = put s.view i v }) m) (sym (write_same s.words p))
        (kept_with s.words m h.rows h.chains
        record { born = h.numbers.born; differ = h.numbers.differ; drawn = let a = h.numbers.drawn in let b = same_overdrawn e (s.words Base) in omega arith; room = h.numbers.room; absent = h.numbers.absent } history
        (λ j _. nothing_done j (s.view j) s.words m) own)

-- another stage of a call, which draws nothing new
pub record IsStage (w : Place → ℕ) (m : Meaning) (i : ℕ) (v : View) (x y : Call) : Type 0 where
  pub seat : SeatHolds w m i (with_call v y)
  pub index : (index y ≡ None) ⊎ (index y ≡ index x)

pub new_call : (w : Place → ℕ) (m : Meaning) (i : ℕ) (v : View) (x y : Call) → SeatHolds w m i (with_call v x) → v.stay ≡ Ready
    → SeatWalks w m (with_call v y) → RowDrawn w m (with_call v y) → HasRead (w Base) (w FreeCount) (w Claim) v.overdraw y → Where (wanted y) (MayWant w m v.seen) → SeatHolds w m i (with_call v y)
new_call w m i v x y h stay walks drawn read wants = record {
  walks = walks;
  drawn = drawn;
  numbers = record { base = h.numbers.base; in_use = h.numbers.in_use; calls = λ _. stay; seen = h.numbers.seen; entered = h.numbers.entered; overdraw = h.numbers.overdraw; own = h.numbers.own; over = h.numbers.over; read = read };
  protects = record { roots = h.protects.roots; wants = wants; got = h.protects.got; knows = h.protects.knows; keeps = h.protects.keeps; keeps_words = h.protects.keeps_words };
  notes = record { rises = h.notes.rises; keys = h.notes.keys; away = h.notes.away };
}

-- what holds of a seat speaks of its own words, its walk and its refusals nowhere else
pub regarded : (w : Place → ℕ) (m : Meaning) (i : ℕ) (v : View) (roots : List ℕ) (root_count : ℕ) (got : List ℕ) (knows : List KnownWord) (path : List Passed) (refusals : List Refusal)
    → (v.base ≡ w Base → Each (IsSeen w m v.seen) got) → (v.base ≡ w Base → Each (IsKnown w m) knows)
    → Each (IsSeen w m v.seen) (led_to knows (take root_count roots)) → Each (IsKnown w m) (words_of_rows (led_to knows (take root_count roots)) knows) → SeatHolds w m i v
    → SeatHolds w m i (record v { roots = roots; root_count = root_count; got = got; knows = knows; path = path; refused = refusals })
regarded w m i v roots root_count got knows path refusals a b c d h = record {
  walks = record { walk = h.walks.walk; look = h.walks.look };
  drawn = record { index = h.drawn.index; row = h.drawn.row };
  numbers = record { base = h.numbers.base; in_use = h.numbers.in_use; calls = h.numbers.calls; seen = h.numbers.seen; entered = h.numbers.entered; overdraw = h.numbers.overdraw; own = h.numbers.own; over = h.numbers.over; read = h.numbers.read };
  protects = record { roots = h.protects.roots; wants = h.protects.wants; got = a; knows = b; keeps = c; keeps_words = d };
  notes = record { rises = h.notes.rises; keys = h.notes.keys; away = h.notes.away };
}
