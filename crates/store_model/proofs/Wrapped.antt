-- While no collection is under way a step is one on the words that the facts speak of.
use Rattle.store_model.proofs.Bases.{NotesOne, bases_noted}
use Rattle.store_model.specs.Bases.{BasesKnown}
use Rattle.std.proofs.Common.{◌≡◌, ◌≢◌, ℕ, suc, pred, ◌+◌, eqb, Bool, true, false, Option, None, Some, List, [], refl, sym, ap, ◌∙◌, subst, true≢false, ◌<◌}
use Rattle.std.specs.Prelude.{nat_lt}
use mathlib.Core.Logic.{dite}
use native.Mathlib.Decide.{ℕ_discrete}
use Rattle.lock_core.specs.Lock.{Lock}
use Rattle.store_model.specs.Words.{Place, put, Base}
use Rattle.store_model.specs.Calls.{Content, Call, Idle, Comparing, Passing, Finding, Ended, Counting, Drawing, Placing, Filling, Numbering, Linking, Publishing, Loading, Storing, View}
use Rattle.store_model.specs.Machine.{Sizes, State, Each, IsCreation, action, arrived, ended, compared, with_call, gained, refusing, overdrawn}
use Rattle.store_model.specs.Invariant.{Holds, IsStoreSound}
use Rattle.store_model.specs.Steps.{loads, is_storing, is_collecting, CoreHolds, IsFresh}
use Rattle.store_model.proofs.Locks.{IsIn, alone_in}
use Rattle.store_model.proofs.Basics.{choose, put_case}

pub not_true : (b : Bool) → (b ≡ true → ⊥) → b ≡ false
not_true true f = absurd (f refl)
not_true false f = refl

pub stores_collects : (x : Call) → is_collecting x ≡ false → is_storing x ≡ false
stores_collects (Storing ls ss) e = e
stores_collects x e = refl

pub loads_none : (x : Call) → is_collecting x ≡ false → loads x ≡ []
loads_none (Loading ls) e = absurd (true≢false e)
loads_none (Storing ls ss) e = absurd (true≢false e)
loads_none x e = refl

module _ (z : Sizes) (s : State) (k : CoreHolds z s) (i : ℕ) (inside : IsIn s.lock i) (own : is_collecting (s.view i).call ≡ false) where
  pub none_collects : (j : ℕ) → is_collecting (s.view j).call ≡ false
  none_collects j = dite (ℕ_discrete j i) (λ e. ap (λ (q : ℕ). is_collecting (s.view q).call) e ∙ own)
      (λ ne. not_true (is_collecting (s.view j).call) (λ c. alone_in s.lock k.holds.lock.sound j i (k.under.alone j c) (λ e. ne (sym e)) inside))

  pub words_kept : s.words ≡ k.kept
  words_kept = k.under.calm (λ j. stores_collects (s.view j).call (none_collects j))

  pub quiet : Holds z s k.meaning
  quiet = subst (λ (w : Place → ℕ). Holds z (record { lock = s.lock; words = w; view = s.view }) k.meaning) (sym words_kept) k.holds

  pub quiet_fresh : (s.view i).fresh ≡ true → IsFresh s.lock s.words k.meaning.live i (s.view i)
  quiet_fresh f = subst (λ (w : Place → ℕ). IsFresh s.lock w k.meaning.live i (s.view i)) (sym words_kept) (k.fresh i f)

  -- what a step then leaves
  pub wrapped : (l : Lock) (u : Place → ℕ) (v : View) → is_collecting v.call ≡ false → (h : IsStoreSound z k.meaning.live (record { lock = l; words = u; view = put s.view i v })) → (v.fresh ≡ true → IsFresh l u h.meaning.live i v) → i < z.seats → NotesOne (s.words Base) (s.view i) v → u Base ≡ s.words Base → CoreHolds z (record { lock = l; words = u; view = put s.view i v })
  wrapped l u v calm h own_fresh there notes same =
      let none : (j : ℕ) → is_collecting (put s.view i v j).call ≡ false = (λ j. put_case (λ (p : View). is_collecting p.call ≡ false) s.view i v j (λ _. calm) (λ _. none_collects j)) in record {
        meaning = h.meaning;
        kept = u;
        holds = h.holds;
        bases = bases_noted z s.view i there v (s.words Base) (u Base) notes same (subst (λ (w : Place → ℕ). BasesKnown z (w Base) s.view) (sym words_kept) k.bases);
        fresh = λ j. put_case (λ (p : View). p.fresh ≡ true → IsFresh l u h.meaning.live j p) s.view i v j (λ e f. subst (λ (q : ℕ). IsFresh l u h.meaning.live q v) (sym e) (own_fresh f))
            (λ ne f. absurd (alone_in s.lock k.holds.lock.sound j i (k.fresh j f).alone (λ e. ne (sym e)) inside));
        under = record {
          calm = λ _. refl;
          alone = λ j c. absurd (true≢false (sym c ∙ none j));
          loaded = λ j. subst (λ (ls : List (Place × ℕ)). Each (λ q. u q.0 ≡ q.1) ls) (sym (loads_none (put s.view i v j).call (none j))) tt;
          rooted = λ j c. absurd (true≢false (sym c ∙ none j));
          whole = λ j c. absurd (true≢false (sym c ∙ stores_collects (put s.view i v j).call (none j)));
          stored = λ j c. absurd (true≢false (sym c ∙ stores_collects (put s.view i v j).call (none j)));
          present = λ j c. absurd (true≢false (sym c ∙ stores_collects (put s.view i v j).call (none j)));
        };
      }

-- a creation stays one, or ends
pub ended_calm : (c : Content) (d : Option (ℕ × ℕ)) (from : ℕ) → is_collecting (ended c d from) ≡ false
ended_calm c None from = refl
ended_calm c (Some d) from = refl

pub arrived_calm : (c : Content) (d : Option (ℕ × ℕ)) (from old at : ℕ) → is_collecting (arrived c d from old at) ≡ false
arrived_calm c d from old at = choose (λ (x : Call). is_collecting x ≡ false) (eqb at old) (ended c d from) (Comparing c d from old at 0) (λ _. ended_calm c d from) (λ _. refl)

pub action_calm : (v : View) (x : Call) (n : ℕ) → IsCreation x → is_collecting ((action v x).moved n).call ≡ false
action_calm v Idle n is = absurd is
action_calm v (Loading ls) n is = absurd is
action_calm v (Storing ls ss) n is = absurd is
action_calm v (Comparing c d from old at k) n is = choose (λ (x : Call). is_collecting x ≡ false) _ (compared c d from old at k) (Passing c d from old at (k, n))
    (λ _. choose (λ (x : Call). is_collecting x ≡ false) _ (Finding c d (pred at)) (Comparing c d from old at (suc k)) (λ _. refl) (λ _. refl)) (λ _. refl)
action_calm v (Passing c d from old at dif) n is = arrived_calm c d from old n
action_calm v (Finding c d r) n is = refl
action_calm v (Ended c from) n is = refl
action_calm v (Counting c from claim) n is = choose (λ (w : View). is_collecting w.call ≡ false) (nat_lt claim n) (with_call v (Drawing c from n)) (refusing v c from claim n) (λ _. refl) (λ _. refl)
action_calm v (Drawing c from count) n is = choose (λ (w : View). is_collecting w.call ≡ false) (nat_lt n count) (with_call v (Placing c from n)) (overdrawn v c from n count) (λ _. refl) (λ _. refl)
action_calm v (Placing c from a) n is = refl
action_calm v (Filling c from a r k) n is = choose (λ (x : Call). is_collecting x ≡ false) _ (Numbering c from a r) (Filling c from a r (suc k)) (λ _. refl) (λ _. refl)
action_calm v (Numbering c from a r) n is = refl
action_calm v (Linking c from a r) n is = refl
action_calm v (Publishing c from a r) n is = choose (λ (w : View). is_collecting w.call ≡ false) (eqb n from) (gained v c r (v.base + a) _) (with_call v (arrived c (Some (a, r)) n from n)) (λ _. refl) (λ _. arrived_calm c (Some (a, r)) n from n)

pub action_fresh : (v : View) (x : Call) (n : ℕ) → ((action v x).moved n).fresh ≡ v.fresh
action_fresh v Idle n = refl
action_fresh v (Loading ls) n = refl
action_fresh v (Storing ls ss) n = refl
action_fresh v (Comparing c d from old at k) n = refl
action_fresh v (Passing c d from old at dif) n = refl
action_fresh v (Finding c d r) n = refl
action_fresh v (Ended c from) n = refl
action_fresh v (Counting c from claim) n = choose (λ (w : View). w.fresh ≡ v.fresh) (nat_lt claim n) (with_call v (Drawing c from n)) (refusing v c from claim n) (λ _. refl) (λ _. refl)
action_fresh v (Drawing c from count) n = choose (λ (w : View). w.fresh ≡ v.fresh) (nat_lt n count) (with_call v (Placing c from n)) (overdrawn v c from n count) (λ _. refl) (λ _. refl)
action_fresh v (Placing c from a) n = refl
action_fresh v (Filling c from a r k) n = refl
action_fresh v (Numbering c from a r) n = refl
action_fresh v (Linking c from a r) n = refl
action_fresh v (Publishing c from a r) n = choose (λ (w : View). w.fresh ≡ v.fresh) (eqb n from) (gained v c r (v.base + a) _) (with_call v (arrived c (Some (a, r)) n from n)) (λ _. refl) (λ _. refl)

pub creation_calm : (x : Call) → IsCreation x → is_collecting x ≡ false
creation_calm Idle is = refl
creation_calm (Loading ls) is = absurd is
creation_calm (Storing ls ss) is = absurd is
creation_calm x is = refl

pub creation_busy : (x : Call) → IsCreation x → x ≢ Idle
creation_busy x is e = subst IsCreation e is
