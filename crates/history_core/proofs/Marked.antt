-- Marking from one name after another.
use Rattle.std.proofs.Common.{◌≡◌, ℕ, ◌<◌, zero, suc, Bool, true, false, List, [], ◌∷◌, ◌++◌, length, replicate, get_or, refl, sym, ap, ◌∙◌, subst, arith, inl, inr}
use Rattle.std.specs.Prelude.{Contains, map}
use Rattle.std.proofs.lemmas.Bool.{cases_lt}
use Rattle.std.proofs.lemmas.List.{get_or_past, get_or-replicate, length-replicate}
use Rattle.std.proofs.lemmas.List.Elements.{Contains-append_left, Contains-append_right, Contains-append_cases}
use Rattle.term_model.specs.declared.Row.{Row}
use Rattle.mark_phase.specs.Reachable.{Reaches, itself, child, IsMarked, IsClosed, AddsReached}
use Rattle.history_core.specs.Slots.{Slots, row, args_of, slot_at, children}
use Rattle.history_core.specs.Marking.{AddsAll, ArgsWithin, joined}
use Rattle.history_core.proofs.Members.{contains_here, contains_there, contains_none, contains_cases}

module _ (c : Row → List Row) where
  pub adds_none : (marks : List Bool) → AddsAll c [] marks marks
  adds_none marks = record { rows = refl; kept = λ r k. k; reached = λ n r k. absurd (contains_none n k); only = λ r k. inl k; closed = λ k. k }

  pub closed_after : (n : ℕ) (old new : List Bool) → AddsReached c (row n) old new → IsClosed c old → IsClosed c new
  closed_after n old new adds closed = λ r q k a. elim (adds.only r k) [
    | inl was ↦ adds.kept q (closed r q was a)
    | inr reaches ↦ adds.reached q (child reaches a)
  ]

  pub adds_first : (n : ℕ) (ns : List ℕ) (old mid new : List Bool) → AddsReached c (row n) old mid → AddsAll c ns mid new → AddsAll c (n ∷ ns) old new
  adds_first n ns old mid new adds rest = record {
    rows = rest.rows ∙ adds.rows;
    kept = λ r k. rest.kept r (adds.kept r k);
    reached = λ m r k reaches. elim (contains_cases n ns m k) [
      | inl same ↦ rest.kept r (adds.reached r (subst (λ (x : ℕ). Reaches c (row x) r) (sym same) reaches))
      | inr later ↦ rest.reached m r later reaches
    ];
    only = λ r k. elim (rest.only r k) [
      | inl was ↦ elim (adds.only r was) [ inl before ↦ inl before | inr reaches ↦ inr (n, contains_here n ns, reaches) ]
      | inr from ↦ inr (from.0, contains_there n ns from.0 from.1, from.2)
    ];
    closed = λ k. rest.closed (closed_after n old mid adds k);
  }

  pub adds_both : (ns ms : List ℕ) (old mid new : List Bool) → AddsAll c ns old mid → AddsAll c ms mid new → AddsAll c (ns ++ ms) old new
  adds_both ns ms old mid new first rest = record {
    rows = rest.rows ∙ first.rows;
    kept = λ r k. rest.kept r (first.kept r k);
    reached = λ m r k reaches. elim (Contains-append_cases ns ms m k) [
      | inl here ↦ rest.kept r (first.reached m r here reaches)
      | inr later ↦ rest.reached m r later reaches
    ];
    only = λ r k. elim (rest.only r k) [
      | inl was ↦ elim (first.only r was) [ inl before ↦ inl before | inr from ↦ inr (from.0, Contains-append_left ns ms from.0 from.1, from.2) ]
      | inr from ↦ inr (from.0, Contains-append_right ns ms from.0 from.1, from.2)
    ];
    closed = λ k. rest.closed (first.closed k);
  }

pub none_marked : (n : ℕ) (r : Row) → IsMarked (replicate n false) r → ⊥
none_marked n r k = elim (cases_lt r.0 n) [
  | inl less ↦ (let f : false ≡ true = sym (get_or-replicate n r.0 false false less) ∙ k in absurd (cc))
  | inr past ↦ (let f : false ≡ true = sym (get_or_past (replicate n false) r.0 false (omega (arith, length-replicate {A = Bool} n false))) ∙ k in absurd (cc))
]

-- without marks, no marked row lacks a mark of a child
pub none_closed : (c : Row → List Row) (n : ℕ) → IsClosed c (replicate n false)
none_closed c n = λ r q k a. absurd (none_marked n r k)

-- an element of a list of rows made of names
pub row_in : (ns : List ℕ) (r : Row) → Contains (map row ns) r → Contains ns r.0
row_in [] r k = absurd (contains_none r k)
row_in (n ∷ ns) r k = elim (contains_cases (row n) (map row ns) r k) [
  | inl same ↦ subst (Contains (n ∷ ns)) (ap (λ (x : Row). x.0) same) (contains_here n ns)
  | inr later ↦ contains_there n ns r.0 (row_in ns r later)
]

pub in_row : (ns : List ℕ) (n : ℕ) → Contains ns n → Contains (map row ns) (row n)
in_row [] n k = absurd (contains_none n k)
in_row (m ∷ ns) n k = elim (contains_cases m ns n k) [
  | inl same ↦ subst (λ (x : ℕ). Contains (map row (m ∷ ns)) (row x)) same (contains_here (row m) (map row ns))
  | inr later ↦ contains_there (row m) (map row ns) (row n) (in_row ns n later)
]

-- what is reached from a name below the bound is below it
pub reached_below : (slots : Slots) → ArgsWithin slots → (n : ℕ) → n < length slots → {r : Row} → Reaches (children slots) (row n) r → r.0 < length slots
reached_below slots within n less itself = less
reached_below slots within n less (child {r = r} {q = q} s k) = within r.0 q.0 (row_in (args_of (slot_at slots r.0)) q k)

-- the names of one of the lists are among all
pub in_joined : (lists : List (List ℕ)) (i : ℕ) (n : ℕ) → i < length lists → Contains (get_or lists i []) n → Contains (joined lists) n
in_joined [] i n less k = absurd (omega arith)
in_joined (ns ∷ lists) zero n less k = Contains-append_left ns (joined lists) n k
in_joined (ns ∷ lists) (suc i) n less k = Contains-append_right ns (joined lists) n (in_joined lists i n (omega arith) k)

-- and each of all is of one of the lists
pub of_joined : (lists : List (List ℕ)) (n : ℕ) → Contains (joined lists) n → (i : ℕ) × (i < length lists) × Contains (get_or lists i []) n
of_joined [] n k = absurd (contains_none n k)
of_joined (ns ∷ lists) n k = elim (Contains-append_cases ns (joined lists) n k) [
  | inl here ↦ (0, omega arith, here)
  | inr later ↦ (let at = of_joined lists n later in (suc at.0, omega (arith, at.1), at.2))
]
