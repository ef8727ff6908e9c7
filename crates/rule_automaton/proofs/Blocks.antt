-- One more block of places: those of so many arguments of a node.
use Rattle.std.proofs.Common.{◌≡◌, ℕ, ◌+◌, ◌-◌, ◌^◌, ◌<◌, ◌≤◌, Option, Some, None, Bool, refl, sym, ◌∙◌, ap, arith, inl, inr, eqb-true}
use Rattle.std.specs.Prelude.{◌⊎◌, nat_lt, ◌==◌, if◌then◌else◌}
use Rattle.std.proofs.lemmas.Bool.{lt-ltb, le-ltb, and_parts, cases_Bool}
use Rattle.std.proofs.lemmas.Option.{same_Some, none-some}
use Rattle.std.specs.HashMap.{HashMap, get}
use Rattle.std.proofs.Common.{[], lit<}
use Rattle.term_model.specs.Tree.{Tree}
use Rattle.rule_automaton.specs.Places.{Tabled, IsTable, Keeps, Reading, HasKids, argument, same_key}

below : {A : Type 0} (x n : ℕ) (a b : A) → x < n → (if nat_lt x n then a else b) ≡ a
below x n a b l = ap (λ (t : Bool). if t then a else b) (lt-ltb x n l)

past : {A : Type 0} (x n : ℕ) (a b : A) → n ≤ x → (if nat_lt x n then a else b) ≡ b
past x n a b l = ap (λ (t : Bool). if t then a else b) (le-ltb x n l)

-- the trees at the places where those from a place on are the arguments of a node
abbrev grown_at : (ℕ → Tree) → ℕ → ℕ → ℕ → Tree
grown_at at place places x = if nat_lt x places then at x else argument (at place) (x - places)

-- the root alone
pub only_root : {S : Type 0} (m : HashMap (ℕ × ℕ) ℕ S) → m.entries ≡ [] → IsTable (record { base_of = λ place count. get same_key m (place, count); places = 1 })
only_root m e =
    record {
      some = omega arith;
      small = lit< tt;
      within = λ q n b h. absurd (none-some b (rw e at h));
      read = λ t. record { at = λ x. t; root = refl; kids = λ q n b h. absurd (none-some b (rw e at h)) };
    }

module _ (old : Tabled) (is : IsTable old) (p n : ℕ) (l : p < old.places) (absent : old.base_of p n ≡ None) (now : ℕ → ℕ → Option ℕ) (same : (q m : ℕ) → now q m ≡ (if same_key (p, n) (q, m) then Some old.places else old.base_of q m)) where
  -- what is found is the new block or an old one
  cases : (q m b : ℕ) → now q m ≡ Some b → ((p ≡ q) × (n ≡ m) × (old.places ≡ b)) ⊎ (old.base_of q m ≡ Some b)
  cases q m b e =
      elim (cases_Bool (same_key (p, n) (q, m))) [
        | inl k ↦ inl ((eqb-true p q (and_parts (p == q) (n == m) k).0, eqb-true n m (and_parts (p == q) (n == m) k).1, same_Some old.places b (sym (same q m ∙ ap (λ (t : Bool). if t then Some old.places else old.base_of q m) k) ∙ e)))
        | inr k ↦ inr (sym (same q m ∙ ap (λ (t : Bool). if t then Some old.places else old.base_of q m) k) ∙ e)
      ]

  new_kid : (at : ℕ → Tree) (q m b j : ℕ) → p ≡ q → old.places ≡ b → grown_at at p old.places (b + j) ≡ argument (grown_at at p old.places q) j
  new_kid at q m b j e f =
      let k : (b + j) - old.places ≡ j = omega (arith, f) in
      past (b + j) old.places (at (b + j)) (argument (at p) ((b + j) - old.places)) (omega (arith, f))
      ∙ ap (argument (at p)) k
      ∙ ap (λ (u : Tree). argument u j) (ap at e ∙ sym (below q old.places (at q) (argument (at p) (q - old.places)) (omega (arith, e, l))))

  old_kid : (at : ℕ → Tree) (q m b j : ℕ) → old.base_of q m ≡ Some b → HasKids at q m b → j < m → grown_at at p old.places (b + j) ≡ argument (grown_at at p old.places q) j
  old_kid at q m b j o kids s =
      let w = is.within q m b o in
      below (b + j) old.places (at (b + j)) (argument (at p) ((b + j) - old.places)) (omega (arith, w.1, s))
      ∙ kids.kid j s
      ∙ ap (λ (u : Tree). argument u j) (sym (below q old.places (at q) (argument (at p) (q - old.places)) (omega (arith, w.0, w.1))))

  reading : (t : Tree) → Reading now t
  reading t =
      let r = is.read t in
      record {
        at = grown_at r.at p old.places;
        root = below 0 old.places (r.at 0) (argument (r.at p) (0 - old.places)) is.some ∙ r.root;
        kids = λ q m b e.
            elim (cases q m b e) [
              | inl c ↦ record { kid = λ j s. new_kid r.at q m b j c.0 c.2 }
              | inr o ↦ record { kid = λ j s. old_kid r.at q m b j o (r.kids q m b o) s }
            ];
      }

  pub grown : (places : ℕ) → places ≡ old.places + n → places < 2 ^ 32 → IsTable (record { base_of = now; places = places })
  grown places e small = record {
    some = omega (arith, is.some, e);
    small = small;
    within = λ q m b f.
        elim (cases q m b f) [
          | inl c ↦ (omega (arith, c.0, c.2, l), omega (arith, c.1, c.2, e))
          | inr o ↦ ((is.within q m b o).0, omega (arith, (is.within q m b o).1, e))
        ];
    read = reading;
  }

  pub kept : (places : ℕ) → places ≡ old.places + n → Keeps old (record { base_of = now; places = places })
  kept places f = record {
    bases = λ q m b e.
        elim (cases_Bool (same_key (p, n) (q, m))) [
          | inl k ↦ absurd (none-some b (sym absent ∙ ap (λ (x : ℕ). old.base_of x n) (eqb-true p q (and_parts (p == q) (n == m) k).0) ∙ ap (old.base_of q) (eqb-true n m (and_parts (p == q) (n == m) k).1) ∙ e))
          | inr k ↦ same q m ∙ ap (λ (t : Bool). if t then Some old.places else old.base_of q m) k ∙ e
        ];
    places = omega (arith, f);
  }
