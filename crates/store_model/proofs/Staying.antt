-- What a seat keeps where its epoch ends is so, where the words that it knows of such rows are.
use Rattle.std.proofs.Common.{◌≡◌, ℕ, zero, suc, ◌+◌, ◌<◌, eqb, Bool, true, false, cond, List, [], ◌∷◌, ◌++◌, length, take, get_or, add-one, refl, sym, ap, ◌∙◌, subst, arith, true≢false, ltb-true}
use Rattle.std.specs.Prelude.{nat_lt, ◌&&◌, ◌||◌}
use Rattle.std.specs.List.{list_any}
use Rattle.std.proofs.Math.Seq.{take-suc}
use Rattle.store_model.specs.Words.{Place, RowWord}
use Rattle.store_model.specs.Calls.{KnownWord}
use Rattle.store_model.specs.Staying.{is_among, is_within, is_argument, is_next, joined, joined_often, led_to, words_of_rows}
use Rattle.store_model.specs.Machine.{Each}
use Rattle.store_model.specs.Meaning.{Meaning}
use Rattle.store_model.specs.Seats.{IsKnown}
use Rattle.store_model.proofs.Basics.{choose, eqb_is, each_map, each_left, each_join}

pub and_true : (a b : Bool) → (a && b) ≡ true → (a ≡ true) × (b ≡ true)
and_true true b h = (refl, h)
and_true false b h = absurd (true≢false (sym h))

-- by the first of two, or by the other
pub by_either : (P : Type 0) (a b : Bool) → (a || b) ≡ true → (a ≡ true → P) → (b ≡ true → P) → P
by_either P true b h f g = f refl
by_either P false b h f g = g h

pub or_right : (a b : Bool) → b ≡ true → (a || b) ≡ true
or_right true b h = refl
or_right false b h = h

pub not_then : (a b : Bool) → cond a false b ≡ true → (a ≡ false) × (b ≡ true)
not_then true b h = absurd (true≢false (sym h))
not_then false b h = (refl, h)

pub each_among : (P : ℕ → Type 0) (r : ℕ) (xs : List ℕ) → Each P xs → is_among xs r ≡ true → P r
each_among P r [] h e = absurd (true≢false (sym e))
each_among P r (x ∷ xs) h e = by_either (P r) (eqb x r) (is_among xs r) e (λ same. subst P (eqb_is x r same) h.0) (λ f. each_among P r xs h.1 f)

pub among_more : (r : ℕ) (xs ys : List ℕ) → is_among xs r ≡ true → is_among (xs ++ ys) r ≡ true
among_more r [] ys e = absurd (true≢false (sym e))
among_more r (x ∷ xs) ys e = by_either (is_among (x ∷ xs ++ ys) r ≡ true) (eqb x r) (is_among xs r) e
    (λ same. ap (λ (b : Bool). b || is_among (xs ++ ys) r) same) (λ f. or_right (eqb x r) (is_among (xs ++ ys) r) (among_more r xs ys f))

-- looks at words leave the rows that were there
pub each_joined : (P : ℕ → Type 0) (ks more : List KnownWord) (rows : List ℕ) → Each P (joined ks more rows) → Each P rows
each_joined P ks [] rows h = h
each_joined P ks (k ∷ more) rows h = choose (λ (rs : List ℕ). Each P rs → Each P rows) (is_next ks rows k) (rows ++ k.value ∷ []) rows (λ _ g. each_left P rows (k.value ∷ []) g) (λ _ g. g)
    (each_joined P ks more (cond (is_next ks rows k) (rows ++ k.value ∷ []) rows) h)

pub each_often : (P : ℕ → Type 0) (ks : List KnownWord) (n : ℕ) (rows : List ℕ) → Each P (joined_often ks n rows) → Each P rows
each_often P ks zero rows h = h
each_often P ks (suc n) rows h = each_often P ks n rows (each_joined P ks ks (joined_often ks n rows) h)

pub among_joined : (ks more : List KnownWord) (rows : List ℕ) (r : ℕ) → is_among rows r ≡ true → is_among (joined ks more rows) r ≡ true
among_joined ks [] rows r e = e
among_joined ks (k ∷ more) rows r e = among_joined ks more (cond (is_next ks rows k) (rows ++ k.value ∷ []) rows) r
    (choose (λ (rs : List ℕ). is_among rs r ≡ true) (is_next ks rows k) (rows ++ k.value ∷ []) rows (λ _. among_more r rows (k.value ∷ []) e) (λ _. e))

-- one look more
pub joined_on : (ks more : List KnownWord) (k : KnownWord) (rows : List ℕ) → joined ks (more ++ k ∷ []) rows ≡ cond (is_next ks (joined ks more rows) k) (joined ks more rows ++ k.value ∷ []) (joined ks more rows)
joined_on ks [] k rows = refl
joined_on ks (x ∷ more) k rows = joined_on ks more k (cond (is_next ks rows x) (rows ++ x.value ∷ []) rows)

pub joined_more : (ks : List KnownWord) (i : ℕ) (k : KnownWord) (rows now next : List ℕ) → i < length ks → now ≡ joined ks (take i ks) rows
    → next ≡ cond (is_next ks now (get_or ks i k)) (now ++ (get_or ks i k).value ∷ []) now → next ≡ joined ks (take (i + 1) ks) rows
joined_more ks i k rows now next l is e =
    let x : KnownWord = get_or ks i k in
    e ∙ (ap (λ (rs : List ℕ). cond (is_next ks rs x) (rs ++ x.value ∷ []) rs) is ∙ (sym (joined_on ks (take i ks) x rows)
    ∙ ap (λ (ws : List KnownWord). joined ks ws rows) (sym (ap (λ (n : ℕ). take n ks) (add-one i) ∙ take-suc ks i k l))))

-- P goes on from the row of a word, which is one of `all`, to the argument that it is
abbrev pub GoesOn : (ℕ → Type 0) → List KnownWord → List ℕ → KnownWord → Type 0
GoesOn P ks all k = is_among all k.row ≡ true → P k.row → is_argument ks k ≡ true → P k.value

module _ (P : ℕ → Type 0) (ks : List KnownWord) (all : List ℕ) where
  joined_has : (more : List KnownWord) (rows : List ℕ) → Each (GoesOn P ks all) more → Each P rows
      → ((r : ℕ) → is_among (joined ks more rows) r ≡ true → is_among all r ≡ true) → Each P (joined ks more rows)
  joined_has [] rows on h sub = h
  joined_has (k ∷ more) rows on h sub = joined_has more (cond (is_next ks rows k) (rows ++ k.value ∷ []) rows) on.1
      (choose (Each P) (is_next ks rows k) (rows ++ k.value ∷ []) rows
      (λ e. let a = not_then (is_among rows k.value) (is_among rows k.row && is_argument ks k) e in
      let b = and_true (is_among rows k.row) (is_argument ks k) a.1 in
      each_join P rows (k.value ∷ []) h (on.0 (sub k.row (among_joined ks (k ∷ more) rows k.row b.0)) (each_among P k.row rows h b.0) b.1, tt))
      (λ _. h)) sub

  often_has : (n : ℕ) (rows : List ℕ) → Each (GoesOn P ks all) ks → Each P rows
      → ((r : ℕ) → is_among (joined_often ks n rows) r ≡ true → is_among all r ≡ true) → Each P (joined_often ks n rows)
  often_has zero rows on h sub = h
  often_has (suc n) rows on h sub = let before : List ℕ = joined_often ks n rows in
      joined_has ks before on (often_has n rows on h (λ r e. sub r (among_joined ks ks before r e))) sub

-- what goes on over the words of the rows led to holds of these
pub led_has : (P : ℕ → Type 0) (ks : List KnownWord) (rows : List ℕ) → Each (GoesOn P ks (led_to ks rows)) ks → Each P rows → Each P (led_to ks rows)
led_has P ks rows on h = often_has P ks (led_to ks rows) (length ks) rows on h (λ r e. e)

-- what holds of the words of rows, as a condition on all words, and back
pub of_rows : (Q : KnownWord → Type 0) (rows : List ℕ) (ks : List KnownWord) → Each (λ k. is_among rows k.row ≡ true → Q k) ks → Each Q (words_of_rows rows ks)
of_rows Q rows [] h = tt
of_rows Q rows (k ∷ ks) h = choose (Each Q) (is_among rows k.row) (k ∷ words_of_rows rows ks) (words_of_rows rows ks)
    (λ e. (h.0 e, of_rows Q rows ks h.1)) (λ _. of_rows Q rows ks h.1)

pub in_rows : (Q : KnownWord → Type 0) (rows : List ℕ) (ks : List KnownWord) → Each Q (words_of_rows rows ks) → Each (λ k. is_among rows k.row ≡ true → Q k) ks
in_rows Q rows [] h = tt
in_rows Q rows (k ∷ ks) h = choose (λ (xs : List KnownWord). Each Q xs → Each (λ q. is_among rows q.row ≡ true → Q q) (k ∷ ks)) (is_among rows k.row) (k ∷ words_of_rows rows ks) (words_of_rows rows ks)
    (λ _ g. (λ _. g.0, in_rows Q rows ks g.1)) (λ lacks g. (λ yes. absurd (true≢false (sym yes ∙ lacks)), in_rows Q rows ks g)) h

-- a word past the first two, by how far
pub past_two : (k : ℕ) → nat_lt 1 k ≡ true → (j : ℕ) × (k ≡ suc (suc j))
past_two zero e = absurd (true≢false (sym e))
past_two (suc zero) e = absurd (true≢false (sym e))
past_two (suc (suc j)) e = (j, refl)

-- the count that a word tells
pub record TellsCount (k c : KnownWord) : Type 0 where
  pub row : c.row ≡ k.row
  pub word : c.word ≡ 1
  pub within : k.word < c.value + 2

pub tells_count : (k c : KnownWord) → is_within k c ≡ true → TellsCount k c
tells_count k c e =
    let a = and_true (eqb c.row k.row) ((eqb c.word 1) && nat_lt k.word (c.value + 2)) e in
    let b = and_true (eqb c.word 1) (nat_lt k.word (c.value + 2)) a.1 in
    record { row = eqb_is c.row k.row a.0; word = eqb_is c.word 1 b.0; within = ltb-true k.word (c.value + 2) b.1 }

module _ (w : Place → ℕ) (m : Meaning) (ks : List KnownWord) (all : List ℕ) where
  abbrev pub SoAmong : KnownWord → Type 0
  SoAmong k = is_among all k.row ≡ true → IsKnown w m k

  -- the count of a row whose words are so
  counted : (k : KnownWord) (cs : List KnownWord) → is_among all k.row ≡ true → Each SoAmong cs → list_any (is_within k) cs ≡ true → k.word < w (RowWord k.row 1) + 2
  counted k [] one h e = absurd (true≢false (sym e))
  counted k (c ∷ cs) one h e = by_either (k.word < w (RowWord k.row 1) + 2) (is_within k c) (list_any (is_within k) cs) e
      (λ is. let t = tells_count k c is in
      let there = (h.0 (subst (λ (r : ℕ). is_among all r ≡ true) (sym t.row) one)).value_is in
      let count : w (RowWord k.row 1) ≡ c.value = sym (ap (λ (r : ℕ). w (RowWord r 1)) t.row) ∙ (sym (ap (λ (q : ℕ). w (RowWord c.row q)) t.word) ∙ there) in
      let l = t.within in omega (arith, count, l))
      (λ f. counted k cs one h.1 f)

  -- what goes on from a live row to its arguments goes on over the words that are so
  pub goes_on : (P : ℕ → Type 0) → ((r j : ℕ) → m.live r ≡ true → P r → j < w (RowWord r 1) → P (w (RowWord r (suc (suc j))))) → Each SoAmong ks → Each (GoesOn P ks all) ks
  goes_on P arg known = each_map SoAmong (GoesOn P ks all) ks
      (λ k is one h e. let a = and_true (nat_lt 1 k.word) (list_any (is_within k) ks) e in
      let past = past_two k.word a.0 in
      let l : k.word < w (RowWord k.row 1) + 2 = counted k ks one known a.1 in
      let it = is one in
      subst P it.value_is (subst (λ (q : ℕ). P (w (RowWord k.row q))) (sym past.1) (arg k.row past.0 it.live h (let p = past.1 in omega (arith, l, p))))) known
