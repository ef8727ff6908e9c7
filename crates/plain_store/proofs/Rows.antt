-- Rows in lists, and the nodes of rows.
use Rattle.std.proofs.Common.{◌≡◌, ℕ, ◌+◌, ◌<◌, ◌≤◌, ◌≢◌, inl, inr, Bool, true, false, List, [], ◌∷◌, Option, Some, None, length, get_or, refl, ap, sym, ◌∙◌, subst, arith, below_more}
use Rattle.std.specs.Prelude.{IsSome, replicate}
use Rattle.std.proofs.Math.ListN.{set}
use Rattle.std.proofs.Math.Dec.{eqb}
use Rattle.std.proofs.lemmas.Bool.{eqb-true, cases_lt}
use Rattle.std.proofs.lemmas.List.{length-set, get_or-set_same, get_or-set_other, get_or_past, get_or-replicate, length-replicate}
use lib.Pointwise.{pointwise}
use Rattle.term_model.specs.declared.Row.{Row}
use Rattle.term_model.specs.declared.Head.{Head}
use Rattle.term_model.proofs.Order.{both_hold}
use Rattle.plain_store.specs.Slots.{Slots, Slot, slot_at, with_slot, kept_if, AreSwept, FreesRow}
use Rattle.plain_store.specs.Index.{IsFront}

pub none_at : {A : Type 0} (n k : ℕ) → get_or (replicate {A = Option A} n None) k None ≡ None
none_at {A} n k =
    elim (cases_lt k n) [
      | inl lt ↦ get_or-replicate {A = Option A} n k None None lt
      | inr le ↦ get_or_past (replicate {A = Option A} n None) k None (omega (arith, length-replicate {A = Option A} n None))
    ]

pub row_same : (r q : Row) → r.0 ≡ q.0 → r ≡ q
row_same r q e = ap (λ (n : ℕ). let x : Row = record { 0 = n } in x) e

pub rows_told : (xs ys : List Row) → pointwise (λ (a b : Row). eqb a.0 b.0) xs ys ≡ true → xs ≡ ys
rows_told [] [] h = refl
rows_told [] (y ∷ ys) h = absurd (cc)
rows_told (x ∷ xs) [] h = absurd (cc)
rows_told (x ∷ xs) (y ∷ ys) h =
    let b = both_hold (eqb x.0 y.0) (pointwise (λ (a b : Row). eqb a.0 b.0) xs ys) h in
    ap (λ z. z ∷ xs) (row_same x y (eqb-true x.0 y.0 b.0)) ∙ ap (λ zs. y ∷ zs) (rows_told xs ys b.1)

abbrev pub Node : Type 0
Node = Head × List Row

pub head_of_node : (n m : Node) → Some n ≡ Some m → n.0 ≡ m.0
head_of_node n m e = let f : n ≡ m = cc in ap (λ (x : Node). x.0) f

pub rows_of_node : (n m : Node) → Some n ≡ Some m → n.1 ≡ m.1
rows_of_node n m e = let f : n ≡ m = cc in ap (λ (x : Node). x.1) f

pub node_same : (h g : Head) (ws bs : List Row) → h ≡ g → ws ≡ bs → let n : Node = (h, ws) in let m : Node = (g, bs) in Some n ≡ Some m
node_same h g ws bs e f =
    ap (λ (x : Head). let n : Node = (x, ws) in Some n) e ∙ ap (λ (xs : List Row). let n : Node = (g, xs) in Some n) f

-- the rows below i are swept, and the others are as they were
pub record Sweeping (marks : List Bool) (was now : Slots) (i : ℕ) : Type 0 where
  pub size : length now.slots ≡ length was.slots
  pub widest : now.widest ≡ was.widest
  pub before : (k : ℕ) → k < i → get_or now.slots k None ≡ kept_if (get_or marks k false) (get_or was.slots k None)
  pub behind : (k : ℕ) → i ≤ k → get_or now.slots k None ≡ get_or was.slots k None

pub sweeping_none : (marks : List Bool) (was : Slots) → Sweeping marks was was 0
sweeping_none marks was =
    record { size = refl; widest = refl; before = λ k h. absurd (omega arith); behind = λ k h. refl }

pub sweeping_more : (marks : List Bool) (was now : Slots) (r : Row) (b : Bool)
    → Sweeping marks was now r.0 → r.0 < length now.slots → b ≡ get_or marks r.0 false
    → Sweeping marks was (with_slot now r (kept_if b (slot_at now r))) (r.0 + 1)
sweeping_more marks was now r b s h e =
    let v = kept_if b (slot_at now r) in
    let here : get_or (set now.slots r.0 v) r.0 None ≡ kept_if (get_or marks r.0 false) (get_or was.slots r.0 None) =
    get_or-set_same now.slots r.0 v None h ∙ ap (λ c. kept_if c (slot_at now r)) e ∙ ap (kept_if (get_or marks r.0 false)) (s.behind r.0 (omega arith)) in
    record {
      size = length-set now.slots r.0 v ∙ s.size;
      widest = s.widest;
      before = below_more (λ k. get_or (set now.slots r.0 v) k None ≡ kept_if (get_or marks k false) (get_or was.slots k None)) r.0
          (λ k lt. let ne : k ≢ r.0 = omega arith in get_or-set_other now.slots r.0 k v None ne ∙ s.before k lt) here;
      behind = λ k le. let ne : k ≢ r.0 = omega arith in get_or-set_other now.slots r.0 k v None ne ∙ s.behind k (omega arith);
    }

-- a row below i was in use, and is free
pub record Freed (was now : Slots) (i : ℕ) : Type 0 where
  pub row : Row
  pub below : row.0 < i
  pub used : IsSome (slot_at was row)
  pub free : slot_at now row ≡ None

pub freed_more : (was now : Slots) (r : Row) (v : Slot) → Freed was now r.0 → Freed was (with_slot now r v) (r.0 + 1)
freed_more was now r v f =
    let lt = f.below in
    let ne : f.row.0 ≢ r.0 = omega arith in
    record { row = f.row; below = omega arith; used = f.used; free = get_or-set_other now.slots r.0 f.row.0 v None ne ∙ f.free }

pub freed_here : (marks : List Bool) (was now : Slots) (r : Row) (b : Bool) → Sweeping marks was now r.0 → r.0 < length now.slots → IsSome (slot_at now r) → b ≡ false → Freed was (with_slot now r (kept_if b (slot_at now r))) (r.0 + 1)
freed_here marks was now r b s h used e =
    record {
      row = r;
      below = omega arith;
      used = subst IsSome (s.behind r.0 (omega arith)) used;
      free = get_or-set_same now.slots r.0 (kept_if b (slot_at now r)) None h ∙ ap (λ c. kept_if c (slot_at now r)) e;
    }

pub freed_row : (was now : Slots) (i : ℕ) → Freed was now i → FreesRow was now
freed_row was now i f = record { row = f.row; used = f.used; free = f.free }

kept_none : (b : Bool) → kept_if b None ≡ None
kept_none true = refl
kept_none false = refl

pub sweeping_all : (marks : List Bool) (was now : Slots) (i : ℕ) → Sweeping marks was now i → IsFront i was.slots → AreSwept marks was now
sweeping_all marks was now i s h =
    record {
      size = s.size;
      widest = s.widest;
      slots = λ r. elim (cases_lt r.0 i) [
        | inl lt ↦ s.before r.0 lt
        | inr le ↦ (
            let past : get_or was.slots r.0 None ≡ None = h.behind r.0 le in
            s.behind r.0 le ∙ past ∙ sym (kept_none (get_or marks r.0 false)) ∙ ap (kept_if (get_or marks r.0 false)) (sym past))
      ];
    }
