-- A seat keeps exactly what its protected rows lead to.
use Rattle.std.proofs.Common.{◌≡◌, ◌⊎◌, ℕ, zero, suc, ◌+◌, ◌<◌, ◌≤◌, eqb, Bool, true, false, cond, List, [], ◌∷◌, ◌++◌, length, refl, sym, ap, ◌∙◌, subst, ⊎_elim, inl, inr, arith, true≢false, eq-eqb, append_assoc}
use Rattle.std.specs.Prelude.{nat_lt, ◌&&◌, ◌||◌}
use Rattle.std.specs.List.{list_any}
use Rattle.std.proofs.lemmas.Bool.{lt-ltb}
use Rattle.store_model.specs.Calls.{KnownWord}
use Rattle.store_model.specs.Staying.{is_among, is_within, is_argument, is_next, joined, joined_often, led_to, words_of_rows}
use Rattle.store_model.specs.Machine.{Each, In, protected_in, rows_kept, words_kept}
use Rattle.store_model.specs.ByView.{KnowsWord}
use Rattle.store_model.specs.Leading.{LeadsTo, leads_first, leads_on, KeepsExactlyLed, KeepsTheirWords, EntryKeeps}
use Rattle.store_model.proofs.Basics.{choose, eqb_is, each_map, each_in}
use Rattle.store_model.proofs.Collects.{each_of}
use Rattle.store_model.proofs.Staying.{and_true, by_either, or_right, not_then, among_more, among_joined, past_two, tells_count, led_has, GoesOn}

pub in_among : (r : ℕ) (xs : List ℕ) → In r xs → is_among xs r ≡ true
in_among r [] i = absurd i
in_among r (x ∷ xs) i = ⊎_elim (λ e. ap (λ (b : Bool). b || is_among xs r) (eq-eqb x r (sym e))) (λ k. or_right (eqb x r) (is_among xs r) (in_among r xs k)) i

pub among_in : (r : ℕ) (xs : List ℕ) → is_among xs r ≡ true → In r xs
among_in r [] e = absurd (true≢false (sym e))
among_in r (x ∷ xs) e = by_either (In r (x ∷ xs)) (eqb x r) (is_among xs r) e (λ same. inl (sym (eqb_is x r same))) (λ f. inr (among_in r xs f))

among_last : (xs : List ℕ) (r : ℕ) → is_among (xs ++ r ∷ []) r ≡ true
among_last [] r = ap (λ (b : Bool). b || false) (eq-eqb r r refl)
among_last (x ∷ xs) r = or_right (eqb x r) (is_among (xs ++ r ∷ []) r) (among_last xs r)

-- each word is one that is known
pub all_known : (ks : List KnownWord) → Each (λ k. KnowsWord k.row k.word k.value ks) ks
all_known [] = tt
all_known (x ∷ xs) = (inl (refl, refl, refl), each_map (λ k. KnowsWord k.row k.word k.value xs) (λ k. KnowsWord k.row k.word k.value (x ∷ xs)) xs (λ k h. inr h) (all_known xs))

-- a word that is known stands in the list
pub record FoundAs (Q : KnownWord → Type 0) (r k n : ℕ) : Type 0 where
  pub word : KnownWord
  pub row_is : word.row ≡ r
  pub word_is : word.word ≡ k
  pub value_is : word.value ≡ n
  pub has : Q word

pub found_as : (Q : KnownWord → Type 0) (r k n : ℕ) (ks : List KnownWord) → Each Q ks → KnowsWord r k n ks → FoundAs Q r k n
found_as Q r k n [] h e = absurd e
found_as Q r k n (x ∷ xs) h e = ⊎_elim (λ is. record { word = x; row_is = is.0; word_is = is.1; value_is = is.2; has = h.0 }) (λ f. found_as Q r k n xs h.1 f) e

-- the count that an argument stands within
pub record CountKnown (ks : List KnownWord) (k : KnownWord) : Type 0 where
  pub count : ℕ
  pub known : KnowsWord k.row 1 count ks
  pub within : k.word < count + 2

count_known : (ks : List KnownWord) (k : KnownWord) (cs : List KnownWord) → Each (λ c. KnowsWord c.row c.word c.value ks) cs → list_any (is_within k) cs ≡ true → CountKnown ks k
count_known ks k [] h e = absurd (true≢false (sym e))
count_known ks k (c ∷ cs) h e = by_either (CountKnown ks k) (is_within k c) (list_any (is_within k) cs) e
    (λ is. let t = tells_count k c is in record {
      count = c.value;
      known = subst (λ (q : ℕ). KnowsWord k.row q c.value ks) t.word (subst (λ (r : ℕ). KnowsWord r c.word c.value ks) t.row h.0);
      within = t.within;
    })
    (λ f. count_known ks k cs h.1 f)

within_is : (k c : KnownWord) → c.row ≡ k.row → c.word ≡ 1 → k.word < c.value + 2 → is_within k c ≡ true
within_is k c e f l = ap (λ (b : Bool). b && ((eqb c.word 1) && nat_lt k.word (c.value + 2))) (eq-eqb c.row k.row e)
    ∙ (ap (λ (b : Bool). b && nat_lt k.word (c.value + 2)) (eq-eqb c.word 1 f) ∙ lt-ltb k.word (c.value + 2) l)

any_within : (k : KnownWord) (n : ℕ) (cs : List KnownWord) → KnowsWord k.row 1 n cs → k.word < n + 2 → list_any (is_within k) cs ≡ true
any_within k n [] e l = absurd e
any_within k n (c ∷ cs) e l = ⊎_elim
    (λ is. ap (λ (b : Bool). b || list_any (is_within k) cs) (within_is k c is.0 is.1 (let v = is.2 in omega (arith, v, l))))
    (λ f. or_right (is_within k c) (list_any (is_within k) cs) (any_within k n cs f l)) e

-- Looks find all: the more words have their value among the rows, the fewer are left.
abbrev one_left : (b : Bool) → ℕ
one_left true = 0
one_left false = 1

abbrev left : List ℕ → List KnownWord → ℕ
left rows [] = 0
left rows (k ∷ ks) = one_left (is_among rows k.value) + left rows ks

fewer : (a b : Bool) → (a ≡ true → b ≡ true) → one_left b ≤ one_left a
fewer true true h = omega arith
fewer true false h = absurd (true≢false (sym (h refl)))
fewer false true h = omega arith
fewer false false h = omega arith

left_fewer : (rows more : List ℕ) → ((r : ℕ) → is_among rows r ≡ true → is_among more r ≡ true) → (ks : List KnownWord) → left more ks ≤ left rows ks
left_fewer rows more sub [] = omega arith
left_fewer rows more sub (k ∷ ks) = let a = fewer (is_among rows k.value) (is_among more k.value) (sub k.value) in let b = left_fewer rows more sub ks in omega (arith, a, b)

left_less : (rows more : List ℕ) → ((r : ℕ) → is_among rows r ≡ true → is_among more r ≡ true) → (before : List KnownWord) (k : KnownWord) (after : List KnownWord)
    → is_among rows k.value ≡ false → is_among more k.value ≡ true → left more (before ++ k ∷ after) < left rows (before ++ k ∷ after)
left_less rows more sub [] k after was is =
    let a : one_left (is_among rows k.value) ≡ 1 = ap one_left was in let b : one_left (is_among more k.value) ≡ 0 = ap one_left is in let c = left_fewer rows more sub after in omega (arith, a, b, c)
left_less rows more sub (x ∷ xs) k after was is =
    let a = fewer (is_among rows x.value) (is_among more x.value) (sub x.value) in let b = left_less rows more sub xs k after was is in omega (arith, a, b)

left_all : (rows : List ℕ) (ks : List KnownWord) → left rows ks ≤ length ks
left_all rows [] = omega arith
left_all rows (k ∷ ks) = let a = fewer false (is_among rows k.value) (λ f. absurd (true≢false (sym f))) in let b = left_all rows ks in omega (arith, a, b)

none_of : (b : Bool) → one_left b ≡ 0 → b ≡ true
none_of true e = refl
none_of false e = absurd (omega (arith, e))

-- the argument that a word is, of a row that is among these, is too
abbrev IsClosed : List KnownWord → List ℕ → KnownWord → Type 0
IsClosed ks rows k = is_among rows k.row ≡ true → is_argument ks k ≡ true → is_among rows k.value ≡ true

none_left : (ks : List KnownWord) (rows : List ℕ) (more : List KnownWord) → left rows more ≡ 0 → Each (IsClosed ks rows) more
none_left ks rows [] e = tt
none_left ks rows (k ∷ more) e = (
  (λ _ _. none_of (is_among rows k.value) (let a : one_left (is_among rows k.value) + left rows more ≡ 0 = e in omega (arith, a))),
  none_left ks rows more (let a : one_left (is_among rows k.value) + left rows more ≡ 0 = e in omega (arith, a)),
)

module _ (ks : List KnownWord) where
  next_is : (rows : List ℕ) (k : KnownWord) → is_among rows k.value ≡ false → is_among rows k.row ≡ true → is_argument ks k ≡ true → is_next ks rows k ≡ true
  next_is rows k without row arg = ap (λ (b : Bool). cond b false (is_among rows k.row && is_argument ks k)) without ∙ (ap (λ (b : Bool). b && is_argument ks k) row ∙ arg)

  -- closed rows stay as they are
  closed_same : (more : List KnownWord) (rows : List ℕ) → Each (IsClosed ks rows) more → joined ks more rows ≡ rows
  closed_same [] rows h = refl
  closed_same (k ∷ more) rows h = choose (λ (rs : List ℕ). joined ks more rs ≡ rows) (is_next ks rows k) (rows ++ k.value ∷ []) rows
      (λ e. let a = not_then (is_among rows k.value) (is_among rows k.row && is_argument ks k) e in
      let b = and_true (is_among rows k.row) (is_argument ks k) a.1 in absurd (true≢false (sym (h.0 b.0 b.1) ∙ a.0)))
      (λ _. closed_same more rows h.1)

  -- a word's own look has its argument join
  joins : (rows : List ℕ) (k : KnownWord) → is_among rows k.row ≡ true → is_argument ks k ≡ true → (b : Bool) → is_among rows k.value ≡ b → is_among (cond (is_next ks rows k) (rows ++ k.value ∷ []) rows) k.value ≡ true
  joins rows k row arg true e = choose (λ (rs : List ℕ). is_among rs k.value ≡ true) (is_next ks rows k) (rows ++ k.value ∷ []) rows (λ _. among_last rows k.value) (λ _. e)
  joins rows k row arg false e = ap (λ (b : Bool). is_among (cond b (rows ++ k.value ∷ []) rows) k.value) (next_is rows k e row arg) ∙ among_last rows k.value

  grown : (rows : List ℕ) (k : KnownWord) (r : ℕ) → is_among rows r ≡ true → is_among (cond (is_next ks rows k) (rows ++ k.value ∷ []) rows) r ≡ true
  grown rows k r e = choose (λ (rs : List ℕ). is_among rs r ≡ true) (is_next ks rows k) (rows ++ k.value ∷ []) rows (λ _. among_more r rows (k.value ∷ []) e) (λ _. e)

  looked : (more : List KnownWord) (rows : List ℕ) → Each (λ k. is_among rows k.row ≡ true → is_argument ks k ≡ true → is_among (joined ks more rows) k.value ≡ true) more
  looked [] rows = tt
  looked (k ∷ more) rows = let rs : List ℕ = cond (is_next ks rows k) (rows ++ k.value ∷ []) rows in (
    (λ row arg. among_joined ks more rs k.value (joins rows k row arg (is_among rows k.value) refl)),
    each_map (λ q. is_among rs q.row ≡ true → is_argument ks q ≡ true → is_among (joined ks more rs) q.value ≡ true) (λ q. is_among rows q.row ≡ true → is_argument ks q ≡ true → is_among (joined ks more rs) q.value ≡ true) more
        (λ q f row arg. f (grown rows k q.row row) arg) (looked more rs),
  )

  same_closed : (rows : List ℕ) → joined ks ks rows ≡ rows → Each (IsClosed ks rows) ks
  same_closed rows e = subst (λ (rs : List ℕ). Each (λ k. is_among rows k.row ≡ true → is_argument ks k ≡ true → is_among rs k.value ≡ true) ks) e (looked ks rows)

  -- a look finds nothing, or leaves fewer words
  look_less : (before more : List KnownWord) (rows : List ℕ) → ks ≡ before ++ more → (joined ks more rows ≡ rows) ⊎ (left (joined ks more rows) ks < left rows ks)
  look_less before [] rows e = inl refl
  look_less before (k ∷ more) rows e =
      choose (λ (rs : List ℕ). (joined ks more rs ≡ rows) ⊎ (left (joined ks more rs) ks < left rows ks)) (is_next ks rows k) (rows ++ k.value ∷ []) rows
      (λ next. let a = not_then (is_among rows k.value) (is_among rows k.row && is_argument ks k) next in
      let rs : List ℕ = rows ++ k.value ∷ [] in
      let less : left rs (before ++ k ∷ more) < left rows (before ++ k ∷ more) = left_less rows rs (λ r f. among_more r rows (k.value ∷ []) f) before k more a.0 (among_last rows k.value) in
      let here : left rs ks < left rows ks = subst (λ (xs : List KnownWord). left rs xs < left rows xs) (sym e) less in
      let rest = left_fewer rs (joined ks more rs) (λ r f. among_joined ks more rs r f) ks in
      inr (omega (arith, here, rest)))
      (λ _. look_less (before ++ k ∷ []) more rows (e ∙ sym (append_assoc before (k ∷ []) more)))

  often_closed : (n : ℕ) (rows : List ℕ) → Each (IsClosed ks (joined_often ks n rows)) ks ⊎ (left (joined_often ks n rows) ks + n ≤ length ks)
  often_closed zero rows = inr (let a = left_all rows ks in omega (arith, a))
  often_closed (suc n) rows = let before : List ℕ = joined_often ks n rows in
      ⊎_elim
      (λ h. inl (subst (λ (rs : List ℕ). Each (IsClosed ks rs) ks) (sym (closed_same ks before h)) h))
      (λ l. ⊎_elim
      (λ e. inl (subst (λ (rs : List ℕ). Each (IsClosed ks rs) ks) (sym e) (same_closed before e)))
      (λ f. inr (omega (arith, l, f))) (look_less [] ks before refl)) (often_closed n rows)

  pub led_closed : (rows : List ℕ) → Each (IsClosed ks (led_to ks rows)) ks
  led_closed rows = ⊎_elim (λ h. h) (λ l. none_left ks (led_to ks rows) ks (omega (arith, l))) (often_closed (length ks) rows)

  among_led : (n : ℕ) (rows : List ℕ) (r : ℕ) → is_among rows r ≡ true → is_among (joined_often ks n rows) r ≡ true
  among_led zero rows r e = e
  among_led (suc n) rows r e = among_joined ks ks (joined_often ks n rows) r (among_led n rows r e)

  -- what rows lead to is found
  pub led_in : (rows : List ℕ) (r : ℕ) → LeadsTo ks rows r → is_among (led_to ks rows) r ≡ true
  led_in rows r (leads_first _ i) = among_led (length ks) rows r (in_among r rows i)
  led_in rows a (leads_on r n k _ l count below argument) =
      let all : List ℕ = led_to ks rows in
      let one = led_in rows r l in
      let f = found_as (IsClosed ks all) r (suc (suc k)) a ks (led_closed rows) argument in
      let x : KnownWord = f.word in
      let e = f.word_is in
      let past : nat_lt 1 x.word ≡ true = lt-ltb 1 x.word (omega (arith, e)) in
      let within : list_any (is_within x) ks ≡ true = any_within x n ks (subst (λ (q : ℕ). KnowsWord q 1 n ks) (sym f.row_is) count) (omega (arith, e, below)) in
      let arg : is_argument ks x ≡ true = ap (λ (b : Bool). b && list_any (is_within x) ks) past ∙ within in
      subst (λ (q : ℕ). is_among all q ≡ true) f.value_is (f.has (subst (λ (q : ℕ). is_among all q ≡ true) (sym f.row_is) one) arg)

  -- what is found is led to
  led_out : (rows : List ℕ) → Each (LeadsTo ks rows) (led_to ks rows)
  led_out rows = led_has (LeadsTo ks rows) ks rows
      (each_map (λ k. KnowsWord k.row k.word k.value ks) (GoesOn (LeadsTo ks rows) ks (led_to ks rows)) ks
      (λ k known _ l arg. let a = and_true (nat_lt 1 k.word) (list_any (is_within k) ks) arg in
      let past = past_two k.word a.0 in
      let c = count_known ks k ks (all_known ks) a.1 in
      let b = c.within in
      let p = past.1 in
      leads_on k.row c.count past.0 k.value l c.known (omega (arith, b, p)) (subst (λ (q : ℕ). KnowsWord k.row q k.value ks) p known)) (all_known ks))
      (each_of (LeadsTo ks rows) rows (λ r i. leads_first r i))

pub keeps_exactly_led : KeepsExactlyLed
keeps_exactly_led v r = (
  (λ i. each_in (LeadsTo v.knows (protected_in v)) r (rows_kept v) (led_out v.knows (protected_in v)) i),
  (λ l. among_in r (rows_kept v) (led_in v.knows (protected_in v) r l)),
)

-- the words of rows
pub words_in : (rows : List ℕ) (r k n : ℕ) (ks : List KnownWord) → is_among rows r ≡ true → KnowsWord r k n ks → KnowsWord r k n (words_of_rows rows ks)
words_in rows r k n [] e h = absurd h
words_in rows r k n (x ∷ xs) e h = choose (KnowsWord r k n) (is_among rows x.row) (x ∷ words_of_rows rows xs) (words_of_rows rows xs)
    (λ _. ⊎_elim (λ is. inl is) (λ f. inr (words_in rows r k n xs e f)) h)
    (λ lacks. ⊎_elim (λ is. absurd (true≢false (sym e ∙ (ap (is_among rows) (sym is.0) ∙ lacks)))) (λ f. words_in rows r k n xs e f) h)

words_out : (rows : List ℕ) (r k n : ℕ) (ks : List KnownWord) → KnowsWord r k n (words_of_rows rows ks) → (is_among rows r ≡ true) × KnowsWord r k n ks
words_out rows r k n [] h = absurd h
words_out rows r k n (x ∷ xs) h = choose (λ (ws : List KnownWord). KnowsWord r k n ws → (is_among rows r ≡ true) × KnowsWord r k n (x ∷ xs)) (is_among rows x.row) (x ∷ words_of_rows rows xs) (words_of_rows rows xs)
    (λ yes g. ⊎_elim (λ is. (ap (is_among rows) (sym is.0) ∙ yes, inl is)) (λ f. let a = words_out rows r k n xs f in (a.0, inr a.1)) g)
    (λ _ g. let a = words_out rows r k n xs g in (a.0, inr a.1)) h

pub keeps_their_words : KeepsTheirWords
keeps_their_words v r k n = (
  (λ h. let a = words_out (rows_kept v) r k n v.knows h in ((keeps_exactly_led v r).0 (among_in r (rows_kept v) a.0), a.1)),
  (λ h. words_in (rows_kept v) r k n v.knows (led_in v.knows (protected_in v) r h.0) h.1),
)

pub entry_keeps : EntryKeeps
entry_keeps v n = (
  (λ ne. (
    choose (λ (rs : List ℕ). rs ≡ rows_kept v) (eqb n v.base) v.got (rows_kept v) (λ e. absurd (ne (eqb_is n v.base e))) (λ _. refl),
    choose (λ (ws : List KnownWord). ws ≡ words_kept v) (eqb n v.base) v.knows (words_kept v) (λ e. absurd (ne (eqb_is n v.base e))) (λ _. refl),
  )),
  (λ e. (ap (λ (b : Bool). cond b v.got (rows_kept v)) (eq-eqb n v.base e), ap (λ (b : Bool). cond b v.knows (words_kept v)) (eq-eqb n v.base e))),
)
