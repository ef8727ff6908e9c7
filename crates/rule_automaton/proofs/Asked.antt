-- The least place that is asked for, and words.
use Rattle.std.proofs.Common.{◌≡◌, ℕ, ◌+◌, ◌-◌, ◌<◌, ◌≤◌, List, [], ◌∷◌, ◌++◌, length, take, get_or, Bool, true, false, refl, sym, ◌∙◌, ap, arith, inl, inr, subst}
use Rattle.std.specs.Prelude.{◌⊎◌, ◌||◌, ◌==◌, nat_lt, nat_le, Contains, if◌then◌else◌}
use Rattle.std.specs.List.{list_all, filter}
use Rattle.std.proofs.lemmas.Bool.{and_from, and_parts, eqb-true, or_cases, leb-true, lt-ltb, le-leb, eq-eqb}
use Rattle.std.proofs.lemmas.List.{take_more, append-nil, get_or_default, get_or-take, length-take-le}
use Rattle.std.proofs.lemmas.List.Elements.{Contains-get_or, Contains-append_left, Contains-push, Contains-push_cases, filter_more}
use Rattle.std.proofs.lemmas.List.Folds.{list_all_more}
use Rattle.rule_automaton.specs.Shapes.{tests_at}
use Rattle.rule_automaton.specs.Automata.{asks_for}
use Rattle.std.specs.List.Sorted.{IsPermutation, IsNonDecreasingBy}
use Rattle.std.proofs.lemmas.List.Sorted.{Contains-permutation, IsPermutation-sym, IsNonDecreasingBy-push}
use Rattle.term_model.specs.declared.Symbol.{Symbol}
use Rattle.rule_automaton.specs.Asking.{is_from, word_key, HasWord, NotesWords, ArePicked, AreWords}
use Rattle.rule_automaton.proofs.Standing.{each, from_each}
use Rattle.rule_automaton.specs.declared.shapes.Test.{Test}
use Rattle.rule_automaton.specs.declared.shapes.Shape.{Shape}

pub or_right : (a b : Bool) → b ≡ true → (a || b) ≡ true
or_right true b e = refl
or_right false b e = e

-- a test from a place on is one from a lower place on
from_lower : (bound low high : ℕ) (t : Test) → low ≤ high → is_from bound high t ≡ true → is_from bound low t ≡ true
from_lower bound low high t l e =
    elim (or_cases (nat_lt t.place bound) (nat_le high t.place) e) [
      | inl k ↦ ap (λ (b : Bool). b || nat_le low t.place) k
      | inr k ↦ or_right (nat_lt t.place bound) (nat_le low t.place) (le-leb low t.place (let m = leb-true high t.place k in omega arith))
    ]

pub all_lower : (bound low high : ℕ) (tests : List Test) → low ≤ high → list_all (λ (t : Test). is_from bound high t) tests ≡ true → list_all (λ (t : Test). is_from bound low t) tests ≡ true
all_lower bound low high tests l e =
    let a = each (λ (t : Test). is_from bound high t) tests e in
    from_each (λ (t : Test). is_from bound low t) tests (λ k d m. from_lower bound low high (get_or tests k d) l (a k d m))

-- one more test, at the least place or above it, or below the bound
pub least_more : (bound low high : ℕ) (tests : List Test) (i : ℕ) (t : Test) → i < length tests → t ≡ get_or tests i t → low ≤ high → (t.place < bound) ⊎ (low ≤ t.place) → list_all (λ (t : Test). is_from bound high t) (take i tests) ≡ true → list_all (λ (t : Test). is_from bound low t) (take (i + 1) tests) ≡ true
least_more bound low high tests i t l is low_high k e =
    let here : is_from bound low t ≡ true = elim k [ inl b ↦ ap (λ (c : Bool). c || nat_le low t.place) (lt-ltb t.place bound b) | inr b ↦ or_right (nat_lt t.place bound) (nat_le low t.place) (le-leb low t.place b) ] in
    list_all_more (λ (t : Test). is_from bound low t) tests i t l
    ∙ and_from (list_all (λ (t : Test). is_from bound low t) (take i tests)) (is_from bound low (get_or tests i t)) (all_lower bound low high (take i tests) low_high e) (ap (λ (u : Test). is_from bound low u) (sym is) ∙ here)

-- the first test of a list is one of it
pub read_in : {A : Type 0} (xs : List A) (i : ℕ) (x : A) → i < length xs → x ≡ get_or xs i x → Contains xs x
read_in xs i x l e = subst (Contains xs) (sym e) (Contains-get_or xs i x l)

-- no words yet
pub no_words : (place : ℕ) (old : List Test) → NotesWords place [] old old
no_words place old = record { kept = λ w c. c; only = λ w c. inl c; all = λ t c. absurd (let l = c.1 in omega arith) }

module _ (place : ℕ) (tests old words : List Test) (i : ℕ) (t : Test) (l : i < length tests) (is : t ≡ get_or tests i t) (n : NotesWords place (take i tests) old words) where
  more : take (i + 1) tests ≡ take i tests ++ t ∷ []
  more = take_more tests i t l ∙ ap (λ u. take i tests ++ u ∷ []) (sym is)

  -- a test that is noted already, or of another place
  pub words_kept : (t.place ≡ place → HasWord words t) → NotesWords place (take (i + 1) tests) old words
  words_kept has =
      subst (λ ts. NotesWords place ts old words) (sym more) (record {
        kept = n.kept;
        only = λ w c. elim (n.only w c) [ inl o ↦ inl o | inr k ↦ inr ((Contains-append_left (take i tests) (t ∷ []) w k.0, k.1)) ];
        all = λ u c p. elim (Contains-push_cases (take i tests) t u c) [ inl k ↦ n.all u k p | inr e ↦ subst (HasWord words) e (has (ap (λ (v : Test). v.place) e ∙ p)) ];
      })

  -- a new word
  pub words_more : t.place ≡ place → NotesWords place (take (i + 1) tests) old (words ++ t ∷ [])
  words_more at =
      let grown : (u : Test) → HasWord words u → HasWord (words ++ t ∷ []) u = λ u h. (h.0, Contains-append_left words (t ∷ []) h.0 h.1, h.2) in
      subst (λ ts. NotesWords place ts old (words ++ t ∷ [])) (sym more) (record {
        kept = λ w c. Contains-append_left words (t ∷ []) w (n.kept w c);
        only = λ w c.
            elim (Contains-push_cases words t w c) [
              | inl k ↦ elim (n.only w k) [ inl o ↦ inl o | inr p ↦ inr ((Contains-append_left (take i tests) (t ∷ []) w p.0, p.1)) ]
              | inr e ↦ inr ((subst (Contains (take i tests ++ t ∷ [])) e (Contains-push (take i tests) t), ap (λ (v : Test). v.place) (sym e) ∙ at))
            ];
        all = λ u c p.
            elim (Contains-push_cases (take i tests) t u c) [
              | inl k ↦ grown u (n.all u k p)
              | inr e ↦ subst (HasWord (words ++ t ∷ [])) e ((t, Contains-push words t, and_from (t.symbol.0 == t.symbol.0) (t.count == t.count) (eq-eqb t.symbol.0 t.symbol.0 refl) (eq-eqb t.count t.count refl)))
            ];
      })

-- the words of no rules, and of one more
pub no_rules : (shapes : List Shape) (place : ℕ) → AreWords shapes [] place []
no_rules shapes place = record { only = λ w c. absurd (let l = c.1 in omega arith); all = λ r t c. absurd (let l = c.1 in omega arith) }

pub one_more_rule : (shapes : List Shape) (rules : List ℕ) (place i r : ℕ) (words new : List Test) → i < length rules → r ≡ get_or rules i r → NotesWords place (tests_at shapes r) words new → AreWords shapes (take i rules) place words → AreWords shapes (take (i + 1) rules) place new
one_more_rule shapes rules place i r words new l is n a =
    subst (λ rs. AreWords shapes rs place new) (sym (take_more rules i r l ∙ ap (λ q. take i rules ++ q ∷ []) (sym is))) (record {
      only = λ w c.
          elim (n.only w c) [
            | inl o ↦ (let k = a.only w o in (k.0, Contains-append_left (take i rules) (r ∷ []) k.0 k.1, k.2, k.3))
            | inr o ↦ (r, Contains-push (take i rules) r, o.0, o.1)
          ];
      all = λ q t c d p.
          elim (Contains-push_cases (take i rules) r q c) [
            | inl k ↦ (let h = a.all q t k d p in (h.0, n.kept h.0 h.1, h.2))
            | inr e ↦ n.all t (subst (λ x. Contains (tests_at shapes x) t) (sym e) d) p
          ];
    })

-- one more element that a test keeps, or doesn't
pub filter_yes : {A : Type 0} (p : A → Bool) (xs : List A) (i : ℕ) (d : A) → i < length xs → p (get_or xs i d) ≡ true → filter p (take (i + 1) xs) ≡ filter p (take i xs) ++ get_or xs i d ∷ []
filter_yes p xs i d l e = filter_more p xs i d l ∙ ap (λ (b : Bool). filter p (take i xs) ++ (if b then get_or xs i d ∷ [] else [])) e

pub filter_no : {A : Type 0} (p : A → Bool) (xs : List A) (i : ℕ) (d : A) → i < length xs → p (get_or xs i d) ≡ false → filter p (take (i + 1) xs) ≡ filter p (take i xs)
filter_no p xs i d l e = filter_more p xs i d l ∙ ap (λ (b : Bool). filter p (take i xs) ++ (if b then get_or xs i d ∷ [] else [])) e ∙ append-nil (filter p (take i xs))

-- a test that asks for the symbol of one that asks for a symbol asks for that
pub asked_through : (f : Symbol) (n : ℕ) (t w : Test) → asks_for f n w ≡ true → asks_for w.symbol w.count t ≡ true → asks_for f n t ≡ true
asked_through f n t w d e =
    let a = and_parts (w.symbol.0 == f.0) (w.count == n) d in
    let b = and_parts (t.symbol.0 == w.symbol.0) (t.count == w.count) e in
    and_from (t.symbol.0 == f.0) (t.count == n) (eq-eqb t.symbol.0 f.0 (eqb-true t.symbol.0 w.symbol.0 b.0 ∙ eqb-true w.symbol.0 f.0 a.0)) (eq-eqb t.count n (eqb-true t.count w.count b.1 ∙ eqb-true w.count n a.1))

asks_itself : (t : Test) → asks_for t.symbol t.count t ≡ true
asks_itself t = and_from (t.symbol.0 == t.symbol.0) (t.count == t.count) (eq-eqb t.symbol.0 t.symbol.0 refl) (eq-eqb t.count t.count refl)

-- none is picked of no tests
pub none_picked : (all : List Test) → ArePicked all [] []
none_picked all = record { only = λ w c. absurd (let l = c.1 in omega arith); each = λ t c. absurd (let l = c.1 in omega arith); order = λ s i j d l m. absurd (omega (arith, m)) }

module _ (all words : List Test) (i : ℕ) (t : Test) (l : i < length all) (is : t ≡ get_or all i t) (p : ArePicked all (take i all) words) where
  one_more : take (i + 1) all ≡ take i all ++ t ∷ []
  one_more = take_more all i t l ∙ ap (λ u. take i all ++ u ∷ []) (sym is)

  -- a test whose symbol was picked already
  pub picked_kept : HasWord words t → ArePicked all (take (i + 1) all) words
  picked_kept has =
      subst (λ ts. ArePicked all ts words) (sym one_more) (record {
        only = λ w c. Contains-append_left (take i all) (t ∷ []) w (p.only w c);
        each = λ u c. elim (Contains-push_cases (take i all) t u c) [ inl k ↦ p.each u k | inr e ↦ subst (HasWord words) e has ];
        order = p.order;
      })

  -- the last that was picked doesn't come after this one
  last_below : IsNonDecreasingBy word_key all → (d : Test) → 0 < length words → word_key (get_or words (length words - 1) d) ≤ word_key t
  last_below s d m =
      let w = get_or words (length words - 1) d in
      let c = p.only w (Contains-get_or words (length words - 1) d (omega (arith, m))) in
      let low : c.0 < i = (let u = c.1 in omega (arith, u, length-take-le i all)) in
      let is' : get_or all c.0 t ≡ w = sym (get_or-take i all c.0 t low) ∙ get_or_default (take i all) c.0 t w c.1 ∙ c.2 in
      let up = s c.0 i t (omega (arith, low)) l in
      let here : word_key (get_or all i t) ≡ word_key t = ap word_key (sym is) in
      let there : word_key (get_or all c.0 t) ≡ word_key w = ap word_key is' in
      omega (arith, up, here, there)

  -- one more is picked
  pub picked_more : ArePicked all (take (i + 1) all) (words ++ t ∷ [])
  picked_more =
      subst (λ ts. ArePicked all ts (words ++ t ∷ [])) (sym one_more) (record {
        only = λ w c. elim (Contains-push_cases words t w c) [ inl k ↦ Contains-append_left (take i all) (t ∷ []) w (p.only w k) | inr e ↦ subst (Contains (take i all ++ t ∷ [])) e (Contains-push (take i all) t) ];
        order = λ s. IsNonDecreasingBy-push word_key words t (p.order s) (λ d m. last_below s d m);
        each = λ u c.
            elim (Contains-push_cases (take i all) t u c) [
              | inl k ↦ (let h = p.each u k in (h.0, Contains-append_left words (t ∷ []) h.0 h.1, h.2))
              | inr e ↦ subst (HasWord (words ++ t ∷ [])) e ((t, Contains-push words t, asks_itself t))
            ];
      })

-- the symbols that are picked in another order are the same
pub words_picked : (shapes : List Shape) (rules : List ℕ) (place : ℕ) (noted all words : List Test) → AreWords shapes rules place noted → IsPermutation noted all → ArePicked all all words → AreWords shapes rules place words
words_picked shapes rules place noted all words a moved p =
    record {
      only = λ w c. a.only w (Contains-permutation all noted w (IsPermutation-sym noted all moved) (p.only w c));
      all = λ r t c d e.
          let h = a.all r t c d e in
          let k = p.each h.0 (Contains-permutation noted all h.0 moved h.1) in
          (k.0, k.1, asked_through k.0.symbol k.0.count t h.0 k.2 h.2);
    }
