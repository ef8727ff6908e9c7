-- What the calls on an index come to.
use Rattle.std.proofs.Common.{◌≡◌, ◌≢◌, ℕ, ◌+◌, ◌-◌, ◌<◌, ◌≤◌, inl, inr, List, [], ◌∷◌, ◌++◌, Option, Some, None, length, take, get_or, refl, ap, sym, ◌∙◌, subst, arith, below_more}
use Rattle.std.proofs.Math.ListN.{set}
use Rattle.std.specs.Prelude.{Contains}
use Rattle.std.proofs.lemmas.Bool.{cases_lt}
use Rattle.std.proofs.lemmas.Bool.Decides.{eqb_tells}
use Rattle.std.specs.Option.{option_map}
use Rattle.std.proofs.lemmas.List.{length-set, length-append, length-take, take_more, get_or-set_same, get_or-set_other, get_or_past, get_or-take, get_or_append_left, get_or-append_right}
use Rattle.std.proofs.lemmas.List.Elements.{Contains-get_or, Contains-append_left, Contains-push, Contains-push_cases}
use Rattle.term_model.specs.declared.Row.{Row}
use Rattle.term_model.specs.declared.Head.{Head}
use Rattle.plain_store.specs.Slots.{Slot, arguments_of}
use Rattle.plain_store.specs.Hash.{hash}
use Rattle.plain_store.specs.Index.{Index, vacant, filled_count, word_at, tag_of, place_of, freed, HasNoneVacant, IsReached, IsLinked, IsIndexed, IsFront, IsIndexedTo}
use Rattle.plain_store.proofs.Rows.{row_same, node_same}
use Rattle.plain_store.proofs.Linking.{linked_filled, linked_free, reached_new, reached_stays}

-- the slots with one more behind
more_before : (slots : List Slot) (s : Slot) (i : ℕ) → i < length slots → get_or (slots ++ s ∷ []) i None ≡ get_or slots i None
more_before slots s i lt = get_or_append_left slots (s ∷ []) None i lt

more_at : (slots : List Slot) (s : Slot) (i : ℕ) → i ≡ length slots → get_or (slots ++ s ∷ []) i None ≡ s
more_at slots s i e =
    let z : i - length slots ≡ 0 = omega arith in
    get_or-append_right slots (s ∷ []) (length slots) i None refl (omega arith) ∙ ap (λ j. get_or (s ∷ []) j None) z

more_other : (slots : List Slot) (s : Slot) (i : ℕ) → i ≢ length slots → get_or (slots ++ s ∷ []) i None ≡ get_or slots i None
more_other slots s i ne =
    elim (cases_lt i (length slots)) [
      | inl lt ↦ more_before slots s i lt
      | inr le ↦ (
          let long : length (slots ++ s ∷ []) ≤ i = omega (arith, length-append slots (s ∷ [])) in
          get_or_past (slots ++ s ∷ []) i None long ∙ sym (get_or_past slots i None le))
    ]

-- no row is there
pub indexed_none : (x : Index) → x.free ≡ [] → filled_count x.words ≡ 0 → IsIndexed [] x
indexed_none x free none =
    record {
      fits = omega (arith, ap length free);
      filled = omega (arith, ap length free, none);
      reached = λ r n e. absurd (let bad : None ≡ Some n = sym (get_or_past {X = Slot} [] r.0 None (omega arith)) ∙ e in cc);
      free = λ r lt e. absurd (omega arith);
      only_free = λ r m. absurd (let m' = subst (λ (xs : List Row). Contains xs r) free m in omega (arith, m'.1));
      once = λ i j d lt below. absurd (omega (arith, ap length free));
    }

some_same : (n m : Head × List Row) → Some n ≡ Some m → n ≡ m
some_same n m e = cc

-- a row in use is added
pub added_used : (slots : List Slot) (x y : Index) (k : Row) (n : Head × List Row) → k.0 ≡ length slots → IsLinked x y (hash n.0 n.1) k → IsIndexed slots x → IsIndexed (slots ++ Some n ∷ []) y
added_used slots x y k n at l h =
    let s = Some n in
    let long = length-append slots (s ∷ []) in
    let frees = linked_free x y (hash n.0 n.1) k l in
    let fewer = ap length frees in
    record {
      fits = omega (arith, long, h.fits, fewer);
      filled = omega (arith, long, h.filled, fewer, linked_filled x y (hash n.0 n.1) k l);
      reached = λ r m e. elim (eqb_tells r.0 k.0) [
        | inl same ↦ (
            let is : n ≡ m = some_same n m (sym (more_at slots s r.0 (omega (arith, same.1, at))) ∙ e) in
            let new = subst (λ (q : Row). IsReached y (hash n.0 n.1) q) (sym (row_same r k same.1)) (reached_new x y (hash n.0 n.1) k l) in
            subst (λ (q : Head × List Row). IsReached y (hash q.0 q.1) r) is new)
        | inr ne ↦ reached_stays x y (hash n.0 n.1) (hash m.0 m.1) k r l (h.reached r m (sym (more_other slots s r.0 (omega (arith, ne.1, at))) ∙ e))
      ];
      free = λ r lt e. elim (eqb_tells r.0 k.0) [
        | inl same ↦ absurd (let bad : Some n ≡ None = sym (more_at slots s r.0 (omega (arith, same.1, at))) ∙ e in cc)
        | inr ne ↦ (
            let lt' : r.0 < length slots = omega (arith, ne.1, lt, long, at) in
            subst (λ (xs : List Row). Contains xs r) (sym frees) (h.free r lt' (sym (more_before slots s r.0 lt') ∙ e)))
      ];
      only_free = λ r m. (let o = h.only_free r (subst (λ (xs : List Row). Contains xs r) frees m) in (omega (arith, o.0, long), more_before slots s r.0 o.0 ∙ o.1));
      once = subst (λ (xs : List Row). (i j : ℕ) (d : Row) → i < j → j < length xs → (get_or xs i d).0 < (get_or xs j d).0) (sym frees) h.once;
    }

-- a free row is added
pub added_free : (slots : List Slot) (x : Index) (k : Row) (s : Slot) → k.0 ≡ length slots → s ≡ None → IsIndexed slots x → IsIndexed (slots ++ s ∷ []) (freed x k)
added_free slots x k s at is h =
    let long = length-append slots (s ∷ []) in
    let more = length-append x.free (k ∷ []) in
    record {
      fits = omega (arith, long, more, h.fits);
      filled = omega (arith, long, more, h.filled);
      reached = λ r m e. elim (eqb_tells r.0 k.0) [
        | inl same ↦ absurd (let bad : None ≡ Some m = sym is ∙ sym (more_at slots s r.0 (omega (arith, same.1, at))) ∙ e in cc)
        | inr ne ↦ (
            let was = h.reached r m (sym (more_other slots s r.0 (omega (arith, ne.1, at))) ∙ e) in
            record { steps = was.steps; within = was.within; there = was.there; fits = was.fits; filled = was.filled })
      ];
      free = λ r lt e. elim (eqb_tells r.0 k.0) [
        | inl e' ↦ subst (Contains (x.free ++ k ∷ [])) (sym (row_same r k e'.1)) (Contains-push x.free k)
        | inr ne ↦ (let lt' : r.0 < length slots = omega (arith, ne.1, lt, long, at) in Contains-append_left x.free (k ∷ []) r (h.free r lt' (sym (more_before slots s r.0 lt') ∙ e)))
      ];
      only_free = λ r m. elim (Contains-push_cases x.free k r m) [
        | inl m' ↦ (let o = h.only_free r m' in (omega (arith, o.0, long), more_before slots s r.0 o.0 ∙ o.1))
        | inr e ↦ (let n : k.0 ≡ r.0 = ap (λ (q : Row). q.0) e in (omega (arith, n, at, long), more_at slots s r.0 (omega (arith, n, at)) ∙ is))
      ];
      once = λ i j d lt below. elim (cases_lt j (length x.free)) [
        | inl within ↦ (
            let a = get_or_append_left x.free (k ∷ []) d i (omega arith) in
            let b = get_or_append_left x.free (k ∷ []) d j within in
            let c = h.once i j d lt within in
            omega (arith, ap (λ (q : Row). q.0) a, ap (λ (q : Row). q.0) b, c))
        | inr le ↦ (
            let z : j - length x.free ≡ 0 = omega (arith, more, le, below) in
            let a = get_or_append_left x.free (k ∷ []) d i (omega (arith, more)) in
            let b : get_or (x.free ++ k ∷ []) j d ≡ k = get_or-append_right x.free (k ∷ []) (length x.free) j d refl le ∙ ap (λ n. get_or (k ∷ []) n d) z in
            let c = (h.only_free (get_or x.free i d) (Contains-get_or x.free i d (omega (arith, more)))).0 in
            omega (arith, ap (λ (q : Row). q.0) a, ap (λ (q : Row). q.0) b, c, at))
      ];
    }

-- the last free row gets a node
pub made_used : (slots : List Slot) (x y : Index) (front : List Row) (k : Row) (n : Head × List Row) → x.free ≡ front ++ k ∷ [] → IsLinked (record x { free = front }) y (hash n.0 n.1) k → IsIndexed slots x → IsIndexed (set slots k.0 (Some n)) y
made_used slots x y front k n last l h =
    let z : Index = record x { free = front } in
    let s : Slot = Some n in
    let more : length x.free ≡ length front + 1 = ap length last ∙ length-append front (k ∷ []) in
    let own = h.only_free k (subst (λ xs. Contains xs k) (sym last) (Contains-push front k)) in
    let long = length-set slots k.0 s in
    let here : get_or (set slots k.0 s) k.0 None ≡ s = get_or-set_same slots k.0 s None own.0 in
    let before : (i : ℕ) (d : Row) → i < length front → get_or x.free i d ≡ get_or front i d = λ i d lt. ap (λ xs. get_or xs i d) last ∙ get_or_append_left front (k ∷ []) d i lt in
    let frees = linked_free z y (hash n.0 n.1) k l in
    let fewer = ap length frees in
    record {
      fits = omega (arith, long, more, h.fits, fewer);
      filled = omega (arith, long, more, h.filled, fewer, linked_filled z y (hash n.0 n.1) k l);
      reached = λ r m e. elim (eqb_tells r.0 k.0) [
        | inl same ↦ (
            let is : n ≡ m = some_same n m (sym (ap (λ i. get_or (set slots k.0 s) i None) same.1 ∙ here) ∙ e) in
            let new = subst (λ (q : Row). IsReached y (hash n.0 n.1) q) (sym (row_same r k same.1)) (reached_new z y (hash n.0 n.1) k l) in
            subst (λ (q : Head × List Row). IsReached y (hash q.0 q.1) r) is new)
        | inr ne ↦ (
            let was = h.reached r m (sym (get_or-set_other slots k.0 r.0 s None ne.1) ∙ e) in
            let so : IsReached z (hash m.0 m.1) r = record { steps = was.steps; within = was.within; there = was.there; fits = was.fits; filled = was.filled } in
            reached_stays z y (hash n.0 n.1) (hash m.0 m.1) k r l so)
      ];
      free = λ r lt e. elim (eqb_tells r.0 k.0) [
        | inl same ↦ absurd (let bad : Some n ≡ None = sym (ap (λ i. get_or (set slots k.0 s) i None) same.1 ∙ here) ∙ e in cc)
        | inr ne ↦ (
            let m = h.free r (omega (arith, lt, long)) (sym (get_or-set_other slots k.0 r.0 s None ne.1) ∙ e) in
            elim (Contains-push_cases front k r (subst (λ xs. Contains xs r) last m)) [
              | inl m' ↦ subst (λ (xs : List Row). Contains xs r) (sym frees) m'
              | inr same ↦ absurd (ne.1 (ap (λ (q : Row). q.0) (sym same)))
            ])
      ];
      only_free = λ r m'. (
          let m = subst (λ (xs : List Row). Contains xs r) frees m' in
          let o = h.only_free r (subst (λ xs. Contains xs r) (sym last) (Contains-append_left front (k ∷ []) r m)) in
          let at : get_or x.free (length front) r ≡ k = ap (λ xs. get_or xs (length front) r) last ∙ get_or-append_right front (k ∷ []) (length front) (length front) r refl (omega arith) ∙ ap (λ n. get_or (k ∷ []) n r) (let z : length front - length front ≡ 0 = omega arith in z) in
          let less = h.once m.0 (length front) r m.1 (omega (arith, more)) in
          let ne : r.0 ≢ k.0 = omega (arith, less, ap (λ (q : Row). q.0) at, ap (λ (q : Row). q.0) (before m.0 r m.1 ∙ m.2)) in
          (omega (arith, o.0, long), get_or-set_other slots k.0 r.0 s None ne ∙ o.1));
      once = subst (λ (xs : List Row). (i j : ℕ) (d : Row) → i < j → j < length xs → (get_or xs i d).0 < (get_or xs j d).0) (sym frees) (λ i j d lt below. (
          let a = before i d (omega arith) in
          let c = before j d below in
          omega (arith, h.once i j d lt (omega (arith, more)), ap (λ (q : Row). q.0) a, ap (λ (q : Row). q.0) c)));
    }

-- None of so many places that are looked at first is vacant, or has a row that is wanted.
pub record Passed (slots : List Slot) (x : Index) (hashed : ℕ) (wanted : Slot) (n : ℕ) : Type 0 where
  pub filled : HasNoneVacant x hashed n
  pub others : (k : ℕ) (r : Row) → k < n → get_or slots r.0 None ≡ wanted → word_at x (place_of x hashed k) ≡ r.0 + tag_of x hashed → ⊥

pub passed_none : (slots : List Slot) (x : Index) (hashed : ℕ) (wanted : Slot) → Passed slots x hashed wanted 0
passed_none slots x hashed wanted =
    record { filled = λ k lt e. omega (arith, lt); others = λ k r lt is there. omega (arith, lt) }

-- one place is passed
pub passed_more : (slots : List Slot) (x : Index) (hashed : ℕ) (wanted : Slot) (n d : ℕ) → Passed slots x hashed wanted n → (word_at x (place_of x hashed n) ≡ vacant → ⊥) → ((r : Row) → word_at x (place_of x hashed n) ≡ r.0 + tag_of x hashed → d ≡ r.0) → (get_or slots d None ≡ wanted → ⊥) → Passed slots x hashed wanted (n + 1)
passed_more slots x hashed wanted n d was some told other =
    record {
      filled = below_more (λ k. word_at x (place_of x hashed k) ≡ vacant → ⊥) n was.filled some;
      others = λ k r lt is there. elim (eqb_tells k n) [
        | inl same ↦ other (ap (λ i. get_or slots i None) (told r (ap (λ i. word_at x (place_of x hashed i)) (sym same.1) ∙ there)) ∙ is)
        | inr ne ↦ was.others k r (omega (arith, ne.1, lt)) is there
      ];
    }

-- the rows that were in use at some time are the first
pub front_at : (fresh : ℕ) (slots : List Slot) (k : ℕ) → IsFront fresh slots → get_or (take fresh slots) k None ≡ get_or slots k None
front_at fresh slots k h =
    elim (cases_lt k fresh) [
      | inl lt ↦ get_or-take fresh slots k None lt
      | inr le ↦ get_or_past (take fresh slots) k None (omega (arith, le, length-take fresh slots)) ∙ sym (h.behind k le)
    ]

-- no row is wanted where a place is vacant, or after all of them
pub passed_all : (fresh : ℕ) (slots : List Slot) (x : Index) (m : Head × List Row) (hashed n : ℕ) → hashed ≡ hash m.0 m.1 → IsIndexedTo fresh slots x → Passed slots x hashed (Some m) n → (n < length x.words → word_at x (place_of x hashed n) ≡ vacant) → (k : ℕ) → get_or slots k None ≡ Some m → ⊥
passed_all fresh slots x m hashed n is h p none k e =
    let r : Row = record { 0 = k } in
    let o = subst (λ (i : ℕ). IsReached x i r) (sym is) (h.indexed.reached r m (front_at fresh slots k h.front ∙ e)) in
    elim (cases_lt o.steps n) [
      | inl lt ↦ p.others o.steps r lt e o.there
      | inr le ↦ (
          let free = none (omega (arith, le, o.within)) in
          elim (eqb_tells o.steps n) [
            | inl same ↦ omega (arith, o.there, o.fits, free, ap (λ i. word_at x (place_of x hashed i)) same.1)
            | inr ne ↦ o.filled n (omega (arith, ne.1, le)) free
          ])
    ]

-- what a row has by its head and arguments
pub node_is : (slot : Slot) (head : Head) (arguments : List Row) → Some head ≡ option_map (λ (n : Head × List Row). n.0) slot → arguments ≡ arguments_of slot → slot ≡ Some (head, arguments)
node_is None head arguments e f = absurd (cc)
node_is (Some n) head arguments e f =
    let h : head ≡ n.0 = cc in
    sym (node_same head n.0 arguments n.1 h f)

pub slot_free : (slot : Slot) (head : Option Head) → head ≡ None → head ≡ option_map (λ (n : Head × List Row). n.0) slot → slot ≡ None
slot_free None head e f = refl
slot_free (Some n) head e f = let g : None ≡ Some n.0 = sym e ∙ f in absurd (cc)

-- the row behind those before is added
pub added : (slots : List Slot) (x y : Index) (k : Row) (n : Head × List Row) → k.0 < length slots → get_or slots k.0 None ≡ Some n → IsLinked x y (hash n.0 n.1) k → IsIndexed (take k.0 slots) x → IsIndexed (take (k.0 + 1) slots) y
added slots x y k n below is l h =
    let long : k.0 ≡ length (take k.0 slots) = omega (arith, length-take k.0 slots) in
    subst (λ (xs : List Slot). IsIndexed xs y) (sym (take_more slots k.0 None below ∙ ap (λ (s : Slot). take k.0 slots ++ s ∷ []) is))
    (added_used (take k.0 slots) x y k n long l h)

pub added_empty : (slots : List Slot) (x : Index) (k : Row) → k.0 < length slots → get_or slots k.0 None ≡ None → IsIndexed (take k.0 slots) x → IsIndexed (take (k.0 + 1) slots) (freed x k)
added_empty slots x k below is h =
    let long : k.0 ≡ length (take k.0 slots) = omega (arith, length-take k.0 slots) in
    subst (λ (xs : List Slot). IsIndexed xs (freed x k)) (sym (take_more slots k.0 None below))
    (added_free (take k.0 slots) x k (get_or slots k.0 None) long is h)

-- the last free row is free
pub last_is_free : (slots : List Slot) (x : Index) (front : List Row) (k : Row) → x.free ≡ front ++ k ∷ [] → IsIndexed slots x → (k.0 < length slots) × (get_or slots k.0 None ≡ None)
last_is_free slots x front k last h =
    h.only_free k (subst (λ (xs : List Row). Contains xs k) (sym last) (Contains-push front k))

-- without a free row on the stack there is none
pub none_free : (slots : List Slot) (x : Index) → x.free ≡ [] → IsIndexed slots x → (k : ℕ) → k < length slots → get_or slots k None ≡ None → ⊥
none_free slots x e h k lt is =
    let r : Row = record { 0 = k } in
    let m = subst (λ (xs : List Row). Contains xs r) e (h.free r lt is) in absurd (omega (arith, m.1))
