-- What holds of a new store.
use Rattle.store_model.proofs.Bases.{known_of}
use Rattle.store_model.specs.Bases.{collect_numbers}
use Rattle.std.proofs.Common.{◌≡◌, ℕ, zero, suc, ◌+◌, ◌<◌, ◌≤◌, ◌^◌, false, List, [], ◌∷◌, refl, sym, ap, ◌∙◌, subst, ⊎_elim, arith, true≢false, replicate, inl}
use Rattle.std.specs.Prelude.{Contains}
use Rattle.std.proofs.lemmas.List.{length-replicate, get_or_past}
use Rattle.term_model.specs.declared.Head.TheVariants.{Nil}
use Rattle.term_model.specs.Tree.{Leaf}
use Rattle.lock_core.specs.Lock.{idle}
use Rattle.lock_core.proofs.Kept.{sound_at_start}
use Rattle.history_core.specs.declared.entry.Entry.{Entry}
use Rattle.history_core.specs.Chronicle.{History, chronicle, entries_of, IsNoted, IsLegal, set_of}
use Rattle.history_core.proofs.Merge.{nothing_at_start}
use Rattle.std.proofs.lemmas.Bool.{cases_lt}
use Rattle.history_core.proofs.Members.{contains_none}
use Rattle.store_model.specs.Words.{Place, Base}
use Rattle.store_model.specs.Machine.{Sizes, roots_of}
use Rattle.store_model.specs.Meaning.{Meaning}
use Rattle.store_model.specs.Seats.{SeatHolds}
use Rattle.store_model.specs.Invariant.{listed, span, HistoryFits}
use Rattle.store_model.specs.Steps.{newcomer, CoreHolds}
use Rattle.store_model.specs.Runs.{StartsWith, AreSizes, at_start}
use Rattle.store_model.proofs.Histories.{listed_at, listed_length}

abbrev pub nothing : Meaning
nothing = record { chain = λ _. []; live = λ _. false; content = λ _. record { head = Nil; arguments = [] }; tree = λ _. Leaf 0 }

pub no_lists : (z : Sizes) (n : ℕ) → listed n (λ j. (newcomer z).entries) ≡ replicate n []
no_lists z zero = refl
no_lists z (suc n) = ap (λ (ls : List (List Entry)). [] ∷ ls) (no_lists z n)

pub nothing_noted : (z : Sizes) (y : ℕ × Entry) → IsNoted (listed z.seats (λ j. (newcomer z).entries)) y → ⊥
nothing_noted z y h =
    let l : y.0 < z.seats = (let a = h.present in let b = listed_length z.seats (λ j. (newcomer z).entries) in omega arith) in
    contains_none y.1 (subst (λ (es : List Entry). Contains es y.1) (listed_at z.seats (λ j. (newcomer z).entries) y.0 [] l) h.own)

none_own : (z : Sizes) (i : ℕ) (d : Entry) → Contains (entries_of (listed z.seats (λ j. (newcomer z).entries)) i) d → ⊥
none_own z i d c = ⊎_elim
    (λ l. contains_none d (subst (λ (es : List Entry). Contains es d) (listed_at z.seats (λ j. (newcomer z).entries) i [] l) c))
    (λ l. contains_none d (subst (λ (es : List Entry). Contains es d) (get_or_past (listed z.seats (λ j. (newcomer z).entries)) i [] (let b = listed_length z.seats (λ j. (newcomer z).entries) in omega arith)) c))
    (cases_lt i z.seats)

history_starts : (z : Sizes) (w : Place → ℕ) → HistoryFits z w nothing (λ _. newcomer z)
history_starts z w =
    let empty_chronicle : chronicle (listed z.seats (λ j. (newcomer z).entries)) ≡ [] = ap chronicle (no_lists z z.seats) ∙ nothing_at_start z.seats in record {
      legal = subst (IsLegal z.rows) (sym empty_chronicle) tt;
      pairs = ap (λ (l : History). (set_of l).held) empty_chronicle;
      own = λ i d c. absurd (none_own z i d c);
      collects = λ y n _. absurd (nothing_noted z y n);
      births = λ r y n _ _. absurd (nothing_noted z y n);
      recent = λ r y n _. absurd (nothing_noted z y n);
    }

seat_starts : (z : Sizes) (w : Place → ℕ) → AreSizes z → StartsWith z w → (i : ℕ) → SeatHolds w nothing i (newcomer z)
seat_starts z w a s i = let base = s.base in let first = a.first in let roots = s.root_count i in record {
  walks = record { walk = tt; look = tt };
  drawn = record { index = tt; row = tt };
  numbers = record {
    base = λ ne. absurd (ne refl);
    in_use = λ e. absurd (cc);
    calls = λ ne. absurd (ne refl);
    seen = omega arith;
    entered = λ ne. absurd (ne refl);
    overdraw = λ e. absurd (cc);
    own = omega arith;
    over = λ b e. absurd (cc);
    read = tt;
  };
  protects = record { roots = λ k l. absurd (omega arith); wants = tt; got = λ _. tt; knows = λ _. tt; keeps = tt; keeps_words = tt };
  notes = record { rises = tt; keys = tt; away = λ _. ap (roots_of w i) (sym roots) };
}

pub start_holds : (z : Sizes) (w : Place → ℕ) → AreSizes z → StartsWith z w → CoreHolds z (at_start z w)
start_holds z w a s = record {
  meaning = nothing;
  kept = w;
  holds = record {
    lock = record { sound = sound_at_start z.seats; seats = length-replicate z.seats idle; access = λ i. tt };
    rows = let count = s.count in record {
      few = omega arith;
      there = λ i l. let e = s.place i (omega arith) in omega arith;
      differ = λ i j l k e. let p = s.place i (omega arith) in let q = s.place j (omega arith) in omega arith;
      others = λ r l none. absurd (none r (omega arith) (s.place r l));
      free = λ i _ _. refl;
    };
    chains = let used = s.in_use in record {
      used = let b = a.used in omega arith;
      within = let b = a.within in omega arith;
      linked = λ b. s.bucket b;
      standing = λ b. tt;
      beyond = λ b _. refl;
      present = λ r l. absurd (true≢false (sym l));
      below = λ r l. absurd (true≢false (sym l));
      over = λ r l. absurd (true≢false (sym l));
      words = λ r l. absurd (true≢false (sym l));
      arguments = λ r l. absurd (true≢false (sym l));
      trees = λ r l. absurd (true≢false (sym l));
      differ = λ r q l _ _. absurd (true≢false (sym l));
    };
    numbers = record {
      born = λ r l. absurd (true≢false (sym l));
      differ = λ r q l _ _. absurd (true≢false (sym l));
      drawn = let c = s.claim in omega arith;
      room = subst (λ (b : ℕ). b + span z ≤ 2 ^ 62) (sym s.base) a.room;
      absent = λ j _. s.root_count j;
    };
    apart = λ i j _ k e. absurd (cc);
    history = history_starts z w;
    seats = seat_starts z w a s;
  };
  fresh = λ i f. absurd (true≢false (sym f));
  bases = known_of z (w Base) (λ _. newcomer z) [] (ap collect_numbers (ap chronicle (no_lists z z.seats) ∙ nothing_at_start z.seats)) tt (let e = s.base in omega arith) (inl s.base) (λ j. inl refl);
  under = record { calm = λ _. refl; alone = λ i c. absurd (true≢false (sym c)); loaded = λ i. tt; rooted = λ i c. absurd (true≢false (sym c)); whole = λ i c. absurd (true≢false (sym c)); stored = λ i c. absurd (true≢false (sym c)); present = λ i c. absurd (true≢false (sym c)) };
}
