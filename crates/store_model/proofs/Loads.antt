-- The loads of a creation keep what holds of its seat.
use Rattle.std.proofs.Common.{List, [], ◌≤◌, ◌≡◌, ◌⊎◌, ℕ, suc, pred, ◌+◌, eqb, true, cond, Option, None, Some, ◌∷◌, ◌++◌, length, get_or, refl, sym, ap, subst, inl, inr, arith, ltb-true}
use Rattle.std.specs.Prelude.{nat_lt}
use Rattle.store_model.specs.Words.{Place, Base, FreeCount, Claim, InUse, FreePlace, RowWord, Next, RowWords, row_at}
use Rattle.store_model.specs.Calls.{Content, words_of, bucket, Call, Idle, Comparing, Passing, Finding, Ended, Counting, Drawing, Placing, Filling, Linking, Ready, Passed, View}
use Rattle.store_model.specs.Machine.{Each, with_call, with_path, refusing, ended, arrived, compared}
use Rattle.store_model.specs.Meaning.{Meaning, Agrees, Stands}
use Rattle.store_model.specs.Seats.{Where, index, index_in, Lacks, Walks, Walked, IsFilled, IsDrawn, MayWant, RowDrawn, SeatHolds}
use Rattle.store_model.proofs.Basics.{choose, each_right, eqb_is, eqb_not}
use Rattle.store_model.proofs.Chains.{Comes, comes_on, comes_to_end, comes_to_row, has_words, agrees_none, agrees_more}
use Rattle.store_model.proofs.Views.{IsStage, new_call, regarded}

-- the row that a call holds for c, filled but for its link
pub record HeldRow (w : Place → ℕ) (c : Content) (d : ℕ × ℕ) : Type 0 where
  pub place : d.1 ≡ w (FreePlace d.0)
  pub filled : IsFilled (row_at w d.1) c (w Base + d.0)

pub record Held (w : Place → ℕ) (m : Meaning) (seen : ℕ) (c : Content) (d : Option (ℕ × ℕ)) : Type 0 where
  pub index : Where (index_in d) (IsDrawn w m seen)
  pub row : Where d (HeldRow w c)

module _ (w : Place → ℕ) (m : Meaning) (i : ℕ) (v : View) where
  held_comparing : (c : Content) (d : Option (ℕ × ℕ)) (from old at k : ℕ) → RowDrawn w m (with_call v (Comparing c d from old at k)) → Held w m v.seen c d
  held_comparing c None from old at k h = record { index = tt; row = tt }
  held_comparing c (Some d) from old at k h = record { index = h.index; row = record { place = h.row.place; filled = h.row.filled } }

  held_passing : (c : Content) (d : Option (ℕ × ℕ)) (from old at : ℕ) (dif : ℕ × ℕ) → RowDrawn w m (with_call v (Passing c d from old at dif)) → Held w m v.seen c d
  held_passing c None from old at dif h = record { index = tt; row = tt }
  held_passing c (Some d) from old at dif h = record { index = h.index; row = record { place = h.row.place; filled = h.row.filled } }

  to_comparing : (c : Content) (d : Option (ℕ × ℕ)) (from old at k : ℕ) → Held w m v.seen c d → RowDrawn w m (with_call v (Comparing c d from old at k))
  to_comparing c None from old at k h = record { index = tt; row = tt }
  to_comparing c (Some d) from old at k h = record { index = h.index; row = record { place = h.row.place; filled = h.row.filled } }

  to_passing : (c : Content) (d : Option (ℕ × ℕ)) (from old at : ℕ) (dif : ℕ × ℕ) → Held w m v.seen c d → RowDrawn w m (with_call v (Passing c d from old at dif))
  to_passing c None from old at dif h = record { index = tt; row = tt }
  to_passing c (Some d) from old at dif h = record { index = h.index; row = record { place = h.row.place; filled = h.row.filled } }

  to_finding : (c : Content) (d : Option (ℕ × ℕ)) (r : ℕ) → Held w m v.seen c d → RowDrawn w m (with_call v (Finding c d r))
  to_finding c None r h = record { index = tt; row = tt }
  to_finding c (Some d) r h = record { index = h.index; row = record { place = h.row.place; filled = tt } }

  module _ (x0 x : Call) (h : SeatHolds w m i (with_call v x0)) (stay : v.stay ≡ Ready) (standing : (b : ℕ) → Each (Stands m (w InUse) b) (m.chain b)) (c : Content) (wants : MayWant w m v.seen c) where
    stage_ended : (d : Option (ℕ × ℕ)) → (index_in d ≡ None) ⊎ (index_in d ≡ index x) → Held w m v.seen c d → (from : ℕ) → Walked (row_at w) (m.chain (bucket c (w InUse))) c from v.passed → IsStage w m i v x (ended c d from)
    stage_ended None same held from walk = record { seat = new_call w m i v x0 (Ended c from) h stay (record { walk = walk; look = tt }) (record { index = tt; row = tt }) tt wants; index = inl refl }
    stage_ended (Some d) same held from walk = record {
      seat = new_call w m i v x0 (Linking c from d.0 d.1) h stay (record { walk = walk; look = tt }) (record { index = held.index; row = record { place = held.row.place; filled = held.row.filled } }) tt wants;
      index = same;
    }

    live_here : (from old at : ℕ) → (k : Walks (row_at w) (m.chain (bucket c (w InUse))) c from old at v.passed) → m.live (pred at) ≡ true
    live_here from old at k = let b = bucket c (w InUse) in let all = each_right (Stands m (w InUse) b) k.fresh _ (subst (Each (Stands m (w InUse) b)) k.chain_is (standing b)) in
        subst (λ (r : ℕ). m.live r ≡ true) (sym (ap pred k.at_is)) (each_right (Stands m (w InUse) b) k.walked (k.here ∷ (k.todo ++ k.settled)) all).0.live

    -- a walk comes to a word of its chain
    pub stage_arrived : (d : Option (ℕ × ℕ)) → (index_in d ≡ None) ⊎ (index_in d ≡ index x) → Held w m v.seen c d → (from old at : ℕ) → Comes (row_at w) (m.chain (bucket c (w InUse))) c from old at v.passed → IsStage w m i v x (arrived c d from old at)
    stage_arrived d same held from old at comes = choose (IsStage w m i v x) (eqb at old) (ended c d from) (Comparing c d from old at 0)
        (λ e. stage_ended d same held from (comes_to_end (row_at w) _ c from old at v.passed comes (eqb_is at old e)))
        (λ ne. let walk = comes_to_row (row_at w) _ c from old at v.passed comes (eqb_not at old ne) in record {
          seat = new_call w m i v x0 (Comparing c d from old at 0) h stay (record { walk = walk; look = record { live = live_here from old at walk; looks = (agrees_none (row_at w (pred at)) c, has_words c) } }) (to_comparing c d from old at 0 held) tt wants;
          index = same;
        })

  -- a word of the row is loaded
  pub stage_compared : (c : Content) (d : Option (ℕ × ℕ)) (from old at k : ℕ) → SeatHolds w m i (with_call v (Comparing c d from old at k)) → v.stay ≡ Ready
      → IsStage w m i v (Comparing c d from old at k) (cond (eqb (w (RowWord (pred at) k)) (get_or (words_of c) k 0)) (compared c d from old at k) (Passing c d from old at (k, w (RowWord (pred at) k))))
  stage_compared c d from old at k h stay =
      let x : Call = Comparing c d from old at k in
      let n : ℕ = w (RowWord (pred at) k) in
      let held = held_comparing c d from old at k h.drawn in
      let look = h.walks.look in
      let row : RowWords = row_at w (pred at) in
      choose (IsStage w m i v x) (eqb n (get_or (words_of c) k 0)) (compared c d from old at k) (Passing c d from old at (k, n))
      (λ e. let more : Agrees row c (suc k) = agrees_more row c k n refl (eqb_is n _ e) look.looks.0 in
      choose (IsStage w m i v x) (eqb (suc k) (length (words_of c))) (Finding c d (pred at)) (Comparing c d from old at (suc k))
      (λ last. record {
        seat = new_call w m i v x (Finding c d (pred at)) h stay (record { walk = tt; look = record { live = look.live; looks = subst (Agrees row c) (eqb_is (suc k) _ last) more } }) (to_finding c d (pred at) held) tt h.protects.wants;
        index = inr refl;
      })
      (λ not_last. record {
        seat = new_call w m i v x (Comparing c d from old at (suc k)) h stay
            (record { walk = h.walks.walk; look = record { live = look.live; looks = (more, let a = look.looks.1 in let b = eqb_not (suc k) _ not_last in omega arith) } }) (to_comparing c d from old at (suc k) held) tt h.protects.wants;
        index = inr refl;
      }))
      (λ ne. record {
        seat = new_call w m i v x (Passing c d from old at (k, n)) h stay
            (record { walk = h.walks.walk; look = record { live = look.live; looks = λ match. eqb_not n _ ne (match k look.looks.1) } }) (to_passing c d from old at (k, n) held) tt h.protects.wants;
        index = inr refl;
      })

-- with another walk, while nothing is under way
pub recounted : (w : Place → ℕ) (m : Meaning) (i : ℕ) (v : View) (x : Call) (n : ℕ) (ps : List Passed) → SeatHolds w m i (with_call v x) → v.stay ≡ Ready → SeatHolds w m i (with_call (with_path v n ps) Idle)
recounted w m i v x n ps h stay = record {
  walks = record { walk = tt; look = tt };
  drawn = record { index = tt; row = tt };
  numbers = record { base = h.numbers.base; in_use = h.numbers.in_use; calls = λ _. stay; seen = h.numbers.seen; entered = h.numbers.entered; overdraw = h.numbers.overdraw; own = h.numbers.own; over = h.numbers.over; read = tt };
  protects = record { roots = h.protects.roots; wants = tt; got = h.protects.got; knows = h.protects.knows; keeps = h.protects.keeps; keeps_words = h.protects.keeps_words };
  notes = record { rises = h.notes.rises; keys = h.notes.keys; away = h.notes.away };
}

module _ (w : Place → ℕ) (m : Meaning) (i : ℕ) (v : View) where
  -- the next row of the chain is loaded
  pub stage_passed : (c : Content) (d : Option (ℕ × ℕ)) (from old at : ℕ) (dif : ℕ × ℕ) (ps : List Passed) → SeatHolds w m i (with_call v (Passing c d from old at dif)) → v.stay ≡ Ready → ((b : ℕ) → Each (Stands m (w InUse) b) (m.chain b))
      → IsStage w m i (with_path v (suc v.passed) ps) (Passing c d from old at dif) (arrived c d from old (w (Next (pred at))))
  stage_passed c d from old at dif ps h stay standing =
      let walk = h.walks.walk in
      let here : pred at ≡ walk.here = ap pred walk.at_is in
      let comes = comes_on (row_at w) _ c from old at v.passed walk (subst (λ (r : ℕ). Lacks (row_at w) c r) here h.walks.look.looks) in
      stage_arrived w m i (with_path v (suc v.passed) ps) Idle (Passing c d from old at dif) (recounted w m i v (Passing c d from old at dif) (suc v.passed) ps h stay) stay standing c h.protects.wants d (inr refl) (held_passing w m i v c d from old at dif h.drawn) from old (w (Next (pred at)))
      (subst (λ (r : ℕ). Comes (row_at w) (m.chain (bucket c (w InUse))) c from old (w (Next r)) (suc v.passed)) (sym here) comes)

  -- the claim, and the free count
  pub stage_claim : (c : Content) (from : ℕ) → SeatHolds w m i (with_call v (Ended c from)) → v.stay ≡ Ready → IsStage w m i v (Ended c from) (Counting c from (w Claim))
  stage_claim c from h stay = record {
    seat = new_call w m i v (Ended c from) (Counting c from (w Claim)) h stay (record { walk = h.walks.walk; look = tt }) (record { index = tt; row = tt }) (h.numbers.overdraw, (let a : w Claim ≤ w Claim = omega arith in a)) h.protects.wants;
    index = inl refl;
  }

  pub stage_count : (c : Content) (from n : ℕ) → SeatHolds w m i (with_call v (Counting c from n)) → v.stay ≡ Ready → nat_lt n (w FreeCount) ≡ true → IsStage w m i v (Counting c from n) (Drawing c from (w FreeCount))
  stage_count c from n h stay less = record {
    seat = new_call w m i v (Counting c from n) (Drawing c from (w FreeCount)) h stay (record { walk = h.walks.walk; look = tt }) (record { index = tt; row = tt })
        (refl, λ e. let a = h.numbers.read.0 e in let b = ltb-true n (w FreeCount) less in absurd (omega arith)) h.protects.wants;
    index = inl refl;
  }

  -- the claim was read as full
  pub seat_refused : (c : Content) (from n count : ℕ) → SeatHolds w m i (with_call v (Counting c from n)) → v.stay ≡ Ready → SeatHolds w m i (refusing v c from n count)
  seat_refused c from n count h stay =
      let rest = recounted w m i v (Counting c from n) v.passed v.path h stay in
      regarded w m i (with_call v Idle) v.roots v.root_count v.got v.knows v.path (v.refused ++ record { content = c; head = from; path = v.path; claim = n; count = count } ∷ []) rest.protects.got rest.protects.knows rest.protects.keeps rest.protects.keeps_words rest

  -- the free place
  pub stage_placed : (c : Content) (from k : ℕ) → SeatHolds w m i (with_call v (Placing c from k)) → v.stay ≡ Ready → IsStage w m i v (Placing c from k) (Filling c from k (w (FreePlace k)) 0)
  stage_placed c from k h stay = record {
    seat = new_call w m i v (Placing c from k) (Filling c from k (w (FreePlace k)) 0) h stay (record { walk = h.walks.walk; look = tt })
        (record { index = h.drawn.index; row = record { place = refl; filled = (agrees_none (row_at w (w (FreePlace k))) c, has_words c) } }) tt h.protects.wants;
    index = inr refl;
  }
