-- Slots, and the map that finds the name of each term.
use Rattle.std.proofs.Common.{◌≡◌, ℕ, ◌+◌, ◌<◌, ◌≤◌, Bool, true, false, Option, Some, None, List, [], ◌∷◌, ◌++◌, ◌^◌, length, set, refl, sym, ap, ◌∙◌, subst, arith, ◌⊎◌, inl, inr, ◌↔◌, get_or-set_same, get_or-set_other, replicate}
use Rattle.std.specs.Prelude.{◌==◌, is_some}
use Rattle.std.specs.Cmp.Lexicographic.{pointwise}
use Rattle.std.specs.HashMap.{get, Updates}
use Rattle.std.proofs.lemmas.Bool.{eq-eqb, eqb-true, and_parts, and_from, cases_eq, cases_lt}
use Rattle.std.proofs.lemmas.List.{get_or_past, get_or-replicate, length-replicate, length-set, replicate-append-replicate}
use Rattle.history_core.specs.declared.slots.Root.{Root}
use Rattle.history_core.specs.declared.slots.Root.TheVariants.{App, Int, Nil, Cons}
use Rattle.history_core.specs.declared.slots.Term.{Term}
use Rattle.history_core.specs.Slots.{Slots, slot_at}
use Rattle.history_core.specs.Named.{Names, root_eq, term_eq, Agree, IsKept}

root_same : (a b : Root) → root_eq a b ≡ true → a ≡ b
root_same (App f) (App g) h = ap App (eqb-true f g h)
root_same (App f) (Int w) h = cc
root_same (App f) Nil h = cc
root_same (App f) Cons h = cc
root_same (Int v) (App g) h = cc
root_same (Int v) (Int w) h = ap Int (eqb-true v w h)
root_same (Int v) Nil h = cc
root_same (Int v) Cons h = cc
root_same Nil (App g) h = cc
root_same Nil (Int w) h = cc
root_same Nil Nil h = refl
root_same Nil Cons h = cc
root_same Cons (App g) h = cc
root_same Cons (Int w) h = cc
root_same Cons Nil h = cc
root_same Cons Cons h = refl

root_itself : (a : Root) → root_eq a a ≡ true
root_itself (App f) = eq-eqb f f refl
root_itself (Int v) = eq-eqb v v refl
root_itself Nil = refl
root_itself Cons = refl

names_same : (xs ys : List ℕ) → pointwise (λ x y. x == y) xs ys ≡ true → xs ≡ ys
names_same [] [] h = refl
names_same [] (y ∷ ys) h = cc
names_same (x ∷ xs) [] h = cc
names_same (x ∷ xs) (y ∷ ys) h =
    let both = and_parts (x == y) (pointwise (λ a b. a == b) xs ys) h in
    ap (λ (n : ℕ). n ∷ xs) (eqb-true x y both.0) ∙ ap (λ ns. y ∷ ns) (names_same xs ys both.1)

names_itself : (xs : List ℕ) → pointwise (λ x y. x == y) xs xs ≡ true
names_itself [] = refl
names_itself (x ∷ xs) = and_from (x == x) (pointwise (λ a b. a == b) xs xs) (eq-eqb x x refl) (names_itself xs)

pub term_same : (a b : Term) → term_eq a b ≡ true → a ≡ b
term_same a b h =
    let both = and_parts (root_eq a.root b.root) (pointwise (λ x y. x == y) a.args b.args) h in
    ap (λ (r : Root). record { root = r; args = a.args }) (root_same a.root b.root both.0) ∙ ap (λ (ns : List ℕ). record { root = b.root; args = ns }) (names_same a.args b.args both.1)

pub term_itself : (a : Term) → term_eq a a ≡ true
term_itself a = and_from (root_eq a.root a.root) (pointwise (λ x y. x == y) a.args a.args) (root_itself a.root) (names_itself a.args)

term_cases : (a b : Term) → (a ≡ b) ⊎ ((term_eq a b ≡ false) × (a ≡ b → ⊥))
term_cases a b = go (term_eq a b) refl
  where
    go : (x : Bool) → term_eq a b ≡ x → (a ≡ b) ⊎ ((term_eq a b ≡ false) × (a ≡ b → ⊥))
    go true e = inl (term_same a b e)
    go false e = inr (e, λ same. let yes : term_eq a b ≡ true = ap (term_eq a) (sym same) ∙ term_itself a in cc)

pub some_inside : {X : Type 0} (a b : X) → Some a ≡ Some b → a ≡ b
some_inside a b e = cc

none_some : {X : Type 0} (o : Option X) (x : X) → o ≡ None → o ≡ Some x → ⊥
none_some o x a b = cc

-- a taken name is below the bound
pub taken_below : (slots : Slots) (n : ℕ) (t : Term) → slot_at slots n ≡ Some t → n < length slots
taken_below slots n t e = elim (cases_lt n (length slots)) [
  | inl less ↦ less
  | inr past ↦ absurd (none_some (slot_at slots n) t (get_or_past slots n None past) e)
]

pub none_in_free : (names n : ℕ) → slot_at (replicate names None) n ≡ None
none_in_free names n = elim (cases_lt n names) [
  | inl less ↦ get_or-replicate names n None None less
  | inr past ↦ get_or_past (replicate names None) n None (omega (arith, length-replicate {A = Option Term} names None))
]

pub agree_free : (names : ℕ) (m : Names) → ((t : Term) → get term_eq m t ≡ None) → Agree (replicate names None) m
agree_free names m none = record {
  each = λ t n. ((λ h. absurd (none_some (get term_eq m t) n (none t) h)), (λ h. absurd (none_some (slot_at (replicate names None) n) t (none_in_free names n) h)));
}

-- a term more under a free name
pub agree_put : (slots : Slots) (m m' : Names) (n : ℕ) (t : Term) → Agree slots m → n < length slots → slot_at slots n ≡ None
    → ((k : ℕ) → slot_at slots k ≡ Some t → ⊥) → Updates term_eq m m' t (Some n) → Agree (set slots n (Some t)) m'
agree_put slots m m' n t agree less free absent up = record { each = λ q k. (there q k, back q k) }
  where
    here : slot_at (set slots n (Some t)) n ≡ Some t
    here = get_or-set_same slots n (Some t) None less

    other : (k : ℕ) → (k ≡ n → ⊥) → slot_at (set slots n (Some t)) k ≡ slot_at slots k
    other k ne = get_or-set_other slots n k (Some t) None ne

    old_apart : (q : Term) (k : ℕ) → slot_at slots k ≡ Some q → k ≡ n → ⊥
    old_apart q k h same = none_some (slot_at slots n) q free (sym (ap (slot_at slots) same) ∙ h)

    there : (q : Term) (k : ℕ) → get term_eq m' q ≡ Some k → slot_at (set slots n (Some t)) k ≡ Some q
    there q k h = elim (term_cases t q) [
      | inl same ↦ (
          let at : n ≡ k = some_inside n k (sym up.1 ∙ ap (get term_eq m') same ∙ h) in
          ap (slot_at (set slots n (Some t))) (sym at) ∙ here ∙ ap Some same)
      | inr apart ↦ (
          let was : slot_at slots k ≡ Some q = (agree.each q k).0 (sym (up.2 q apart.0) ∙ h) in
          other k (old_apart q k was) ∙ was)
    ]

    back : (q : Term) (k : ℕ) → slot_at (set slots n (Some t)) k ≡ Some q → get term_eq m' q ≡ Some k
    back q k h = elim (cases_eq k n) [
      | inl same ↦ (
          let is : t ≡ q = some_inside t q (sym here ∙ ap (slot_at (set slots n (Some t))) (sym same) ∙ h) in
          ap (get term_eq m') (sym is) ∙ up.1 ∙ ap Some (sym same))
      | inr ne ↦ (
          let was : slot_at slots k ≡ Some q = sym (other k ne) ∙ h in
          elim (term_cases t q) [
            | inl same ↦ absurd (absent k (was ∙ ap Some (sym same)))
            | inr apart ↦ up.2 q apart.0 ∙ (agree.each q k).1 was
          ])
    ]

-- a name that has become free
pub agree_less : (slots : Slots) (m m' : Names) (n : ℕ) (t : Term) → Agree slots m → slot_at slots n ≡ Some t → Updates term_eq m m' t None → Agree (set slots n None) m'
agree_less slots m m' n t agree taken up = record { each = λ q k. (there q k, back q k) }
  where
    less : n < length slots
    less = taken_below slots n t taken

    here : slot_at (set slots n None) n ≡ None
    here = get_or-set_same slots n None None less

    other : (k : ℕ) → (k ≡ n → ⊥) → slot_at (set slots n None) k ≡ slot_at slots k
    other k ne = get_or-set_other slots n k None None ne

    there : (q : Term) (k : ℕ) → get term_eq m' q ≡ Some k → slot_at (set slots n None) k ≡ Some q
    there q k h = elim (term_cases t q) [
      | inl same ↦ absurd (none_some (get term_eq m' q) k (sym (ap (get term_eq m') same) ∙ up.1) h)
      | inr apart ↦ (
          let was : slot_at slots k ≡ Some q = (agree.each q k).0 (sym (up.2 q apart.0) ∙ h) in
          other k (λ at. apart.1 (some_inside t q (sym taken ∙ sym (ap (slot_at slots) at) ∙ was))) ∙ was)
    ]

    back : (q : Term) (k : ℕ) → slot_at (set slots n None) k ≡ Some q → get term_eq m' q ≡ Some k
    back q k h = elim (cases_eq k n) [
      | inl same ↦ absurd (none_some (slot_at (set slots n None) k) q (ap (slot_at (set slots n None)) same ∙ here) h)
      | inr ne ↦ (
          let was : slot_at slots k ≡ Some q = sym (other k ne) ∙ h in
          elim (term_cases t q) [
            | inl same ↦ (
                let at : k ≡ n = some_inside k n (sym ((agree.each t k).1 (was ∙ ap Some (sym same))) ∙ (agree.each t n).1 taken) in
                absurd (ne at))
            | inr apart ↦ up.2 q apart.0 ∙ (agree.each q k).1 was
          ])
    ]

-- a name that was free already
same_free : (slots : Slots) (n : ℕ) → slot_at slots n ≡ None → (k : ℕ) → slot_at (set slots n None) k ≡ slot_at slots k
same_free slots n free k = go (cases_eq k n) (cases_lt n (length slots))
  where
    go : (k ≡ n) ⊎ (k ≡ n → ⊥) → (n < length slots) ⊎ (length slots ≤ n) → slot_at (set slots n None) k ≡ slot_at slots k
    go (inl at) (inl less) = ap (slot_at (set slots n None)) at ∙ get_or-set_same slots n None None less ∙ sym free ∙ ap (slot_at slots) (sym at)
    go (inl at) (inr past) =
        let still : length (set slots n None) ≤ n = omega (arith, length-set {A = Option Term} slots n None) in
        ap (slot_at (set slots n None)) at ∙ get_or_past (set slots n None) n None still ∙ sym free ∙ ap (slot_at slots) (sym at)
    go (inr ne) _ = get_or-set_other slots n k None None ne

pub agree_same : (slots : Slots) (m : Names) (n : ℕ) → Agree slots m → slot_at slots n ≡ None → Agree (set slots n None) m
agree_same slots m n agree free = record {
  each = λ q k. (
    (λ h. same_free slots n free k ∙ (agree.each q k).0 h),
    (λ h. (agree.each q k).1 (sym (same_free slots n free k) ∙ h)),
  );
}

-- the map has a term exactly where some name does
pub has_term : (slots : Slots) (m : Names) (t : Term) → Agree slots m → (is_some (get term_eq m t) ≡ true) ↔ ((n : ℕ) × (slot_at slots n ≡ Some t))
has_term slots m t agree = (go (get term_eq m t) refl, λ at. ap is_some ((agree.each t at.0).1 at.1))
  where
    go : (o : Option ℕ) → get term_eq m t ≡ o → is_some (get term_eq m t) ≡ true → (n : ℕ) × (slot_at slots n ≡ Some t)
    go None e h = let no : is_some (get term_eq m t) ≡ false = ap is_some e in absurd (let x : true ≡ false = sym h ∙ no in cc)
    go (Some n) e h = (n, (agree.each t n).0 e)

pub kept_free : (names : ℕ) (m : Names) → ((t : Term) → get term_eq m t ≡ None) → names < 2 ^ 32 → IsKept (replicate names None) m
kept_free names m none few = record {
  agree = agree_free names m none;
  short = λ n t h. absurd (none_some (slot_at (replicate names None) n) t (none_in_free names n) h);
  few = omega (arith, length-replicate {A = Option Term} names None);
}

-- all names are free, and the map is empty
pub kept_first : (slots : Slots) (names : ℕ) (m : Names) → slots ≡ replicate names None → m.entries ≡ [] → names < 2 ^ 32 → IsKept slots m
kept_first slots names m free none few =
    subst (λ (s : Slots). IsKept s m) (sym free) (kept_free names m (λ t. let e : get term_eq m t ≡ None = rw none refl in e) few)

pub one_free_more : (slots : Slots) (names : ℕ) → slots ≡ replicate names None → slots ++ None ∷ [] ≡ replicate (names + 1) None
one_free_more slots names free = ap (λ (s : Slots). s ++ None ∷ []) free ∙ replicate-append-replicate names 1 None

pub kept_put : (slots : Slots) (m m' : Names) (n : ℕ) (t : Term) → IsKept slots m → n < length slots → slot_at slots n ≡ None
    → ((k : ℕ) → slot_at slots k ≡ Some t → ⊥) → length t.args < 2 ^ 32 → Updates term_eq m m' t (Some n) → IsKept (set slots n (Some t)) m'
kept_put slots m m' n t kept less free absent short up = record {
  agree = agree_put slots m m' n t kept.agree less free absent up;
  short = λ k q h. go k q h (cases_eq k n);
  few = omega (arith, length-set {A = Option Term} slots n (Some t), kept.few);
}
  where
    go : (k : ℕ) (q : Term) → slot_at (set slots n (Some t)) k ≡ Some q → (k ≡ n) ⊎ (k ≡ n → ⊥) → length q.args < 2 ^ 32
    go k q h (inl same) =
        let is : t ≡ q = some_inside t q (sym (get_or-set_same slots n (Some t) None less) ∙ ap (slot_at (set slots n (Some t))) (sym same) ∙ h) in
        subst (λ (x : Term). length x.args < 2 ^ 32) is short
    go k q h (inr ne) = kept.short k q (sym (get_or-set_other slots n k (Some t) None ne) ∙ h)

-- slots with a free name more have no other terms
short_less : (slots : Slots) (n : ℕ) → ((k : ℕ) (t : Term) → slot_at slots k ≡ Some t → length t.args < 2 ^ 32)
    → (k : ℕ) (t : Term) → slot_at (set slots n None) k ≡ Some t → length t.args < 2 ^ 32
short_less slots n short k t h = go (cases_eq k n) (cases_lt n (length slots))
  where
    go : (k ≡ n) ⊎ (k ≡ n → ⊥) → (n < length slots) ⊎ (length slots ≤ n) → length t.args < 2 ^ 32
    go (inl same) (inl less) = absurd (none_some (slot_at (set slots n None) k) t (ap (slot_at (set slots n None)) same ∙ get_or-set_same slots n None None less) h)
    go (inl same) (inr past) =
        let still : length (set slots n None) ≤ n = omega (arith, length-set {A = Option Term} slots n None) in
        absurd (none_some (slot_at (set slots n None) k) t (ap (slot_at (set slots n None)) same ∙ get_or_past (set slots n None) n None still) h)
    go (inr ne) _ = short k t (sym (get_or-set_other slots n k None None ne) ∙ h)

pub kept_less : (slots : Slots) (m m' : Names) (n : ℕ) (t : Term) → IsKept slots m → slot_at slots n ≡ Some t → Updates term_eq m m' t None → IsKept (set slots n None) m'
kept_less slots m m' n t kept taken up = record {
  agree = agree_less slots m m' n t kept.agree taken up;
  short = short_less slots n kept.short;
  few = omega (arith, length-set {A = Option Term} slots n None, kept.few);
}

pub kept_same : (slots : Slots) (m : Names) (n : ℕ) → IsKept slots m → slot_at slots n ≡ None → IsKept (set slots n None) m
kept_same slots m n kept free = record {
  agree = agree_same slots m n kept.agree free;
  short = short_less slots n kept.short;
  few = omega (arith, length-set {A = Option Term} slots n None, kept.few);
}
