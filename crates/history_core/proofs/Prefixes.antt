-- The entries of a history that are legal from the start.
use Rattle.std.proofs.Common.{◌≡◌, ℕ, ◌<◌, ◌+◌, Bool, true, false, [], ◌∷◌, ◌++◌, length, take, drop, get_or, sym, ap, ◌∙◌, subst, arith, ◌↔◌, inl, inr}
use Rattle.std.proofs.lemmas.Bool.{cases_lt}
use Rattle.std.proofs.lemmas.List.{take_more, take_all, take-append-drop}
use Rattle.history_core.specs.TermSet.{empty}
use Rattle.history_core.specs.Entry.{Entry, IsStep, after}
use Rattle.history_core.specs.Chronicle.{History, IsLegal, set_of}
use Rattle.history_core.specs.Table.{Table, Shows, Decides, IsLegalUpTo}
use Rattle.history_core.proofs.Growing.{legal_parts}
use Rattle.history_core.proofs.Insertion.{appended}

-- the table has the set that the first entries leave, and these are legal
pub record IsAt (rows : ℕ) (history : History) (n : ℕ) (table : Table) : Type 0 where
  pub legal : IsLegal rows (take n history)
  pub shows : Shows table (set_of (take n history))

pub at_start : (rows : ℕ) (history : History) (table : Table) → Shows table empty → IsAt rows history 0 table
at_start rows history table shows = record { legal = tt; shows = shows }

pub at_next : (rows : ℕ) (history : History) (n : ℕ) (old new : Table) (x : ℕ × Entry) → n < length history → x ≡ get_or history n x → IsAt rows history n old
    → IsStep rows (set_of (take n history)) x.1 × Shows new (after (set_of (take n history)) x.0 x.1) → IsAt rows history (n + 1) new
at_next rows history n old new x less is at step =
    let more : take (n + 1) history ≡ take n history ++ x ∷ [] = take_more history n x less ∙ ap (λ (y : ℕ × Entry). take n history ++ y ∷ []) (sym is) in
    let both = appended rows (take n history) x at.legal step.0 in
    record {
      legal = subst (IsLegal rows) (sym more) both.0;
      shows = subst (λ (l : History). Shows new (set_of l)) (sym more) (subst (Shows new) (sym both.1) step.1);
    }

-- a step is what the next legal entry is
pub next_step : (rows : ℕ) (history : History) (n : ℕ) (x : ℕ × Entry) → n < length history → x ≡ get_or history n x → IsLegal rows (take (n + 1) history)
    → IsStep rows (set_of (take n history)) x.1
next_step rows history n x less is legal =
    let more : take (n + 1) history ≡ take n history ++ x ∷ [] = take_more history n x less ∙ ap (λ (y : ℕ × Entry). take n history ++ y ∷ []) (sym is) in
    (legal_parts rows empty (take n history) (x ∷ []) (subst (IsLegal rows) more legal)).1.0

pub stops_at : (rows : ℕ) (history : History) (n : ℕ) (table : Table) (x : ℕ × Entry) → n < length history → x ≡ get_or history n x → IsAt rows history n table
    → (IsStep rows (set_of (take n history)) x.1 → ⊥) → IsLegalUpTo rows history n
stops_at rows history n table x less is at out = record {
  within = omega arith;
  legal = at.legal;
  next = λ _ legal. out (next_step rows history n x less is legal);
}

pub ends_at : (rows : ℕ) (history : History) (n : ℕ) (table : Table) → n ≡ length history → IsAt rows history n table → IsLegalUpTo rows history n
ends_at rows history n table same at = record { within = omega arith; legal = at.legal; next = λ less. absurd (omega arith) }

pub whole_at_end : (rows : ℕ) (history : History) (n : ℕ) (table : Table) → n ≡ length history → IsAt rows history n table → IsLegalUpTo rows history (length history)
whole_at_end rows history n table same at = subst (IsLegalUpTo rows history) same (ends_at rows history n table same at)

pub whole : (rows : ℕ) (history : History) (n : ℕ) → IsLegalUpTo rows history n → (n ≡ length history) ↔ IsLegal rows history
whole rows history n up = (there, back)
  where
    there : n ≡ length history → IsLegal rows history
    there same = subst (IsLegal rows) (ap (λ (k : ℕ). take k history) same ∙ take_all (length history) history (omega arith)) up.legal

    back : IsLegal rows history → n ≡ length history
    back legal = elim (cases_lt n (length history)) [
      | inl less ↦ absurd (up.next less (legal_parts rows empty (take (n + 1) history) (drop (n + 1) history) (subst (IsLegal rows) (sym (take-append-drop (n + 1) history)) legal)).0)
      | inr past ↦ (let within = up.within in omega arith)
    ]

pub goes_on : (rows : ℕ) (history : History) (n : ℕ) (old new : Table) (x : ℕ × Entry) (b : Bool) → length old.slots ≡ rows → n < length history → x ≡ get_or history n x
    → IsAt rows history n old → Decides old new x.0 x.1 b → b ≡ true → IsAt rows history (n + 1) new
goes_on rows history n old new x false size less is at decides on = cc
goes_on rows history n old new x true size less is at decides on =
    let both = decides (set_of (take n history)) at.shows in
    at_next rows history n old new x less is at (subst (λ (k : ℕ). IsStep k (set_of (take n history)) x.1) size both.0, both.1)

pub halts : (rows : ℕ) (history : History) (n : ℕ) (old new : Table) (x : ℕ × Entry) (b : Bool) → length old.slots ≡ rows → n < length history → x ≡ get_or history n x
    → IsAt rows history n old → Decides old new x.0 x.1 b → b ≡ false → IsLegalUpTo rows history n
halts rows history n old new x true size less is at decides out = cc
halts rows history n old new x false size less is at decides out =
    stops_at rows history n old x less is at
    (λ step. decides.1 (set_of (take n history)) at.shows (subst (λ (k : ℕ). IsStep k (set_of (take n history)) x.1) (sym size) step))
