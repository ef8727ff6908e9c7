-- What holds where an automaton stands at a state, and what follows at the next.
use Rattle.std.proofs.Common.{◌≡◌, ℕ, ◌+◌, ◌<◌, ◌≤◌, List, [], ◌∷◌, length, take, map, get_or, Option, Some, None, Bool, true, false, refl, sym, ◌∙◌, ap, arith, inl, inr, subst, eqb-true}
use Rattle.std.specs.Prelude.{◌&&◌, ◌||◌, ◌==◌, not, nat_lt, nat_le, if◌then◌else◌, All, Contains, is_some}
use Rattle.std.specs.List.{list_all, filter}
use Rattle.std.proofs.lemmas.Bool.{and_parts, and_from, or_cases, cases_Bool, both_ways, ltb-true, leb-true, eq-eqb, cases_eq, not-true}
use Rattle.std.proofs.lemmas.Option.{same_Some}
use Rattle.std.proofs.lemmas.List.{get_or-take, length-take-le}
use Rattle.std.proofs.lemmas.List.Elements.{All-head, All-tail, All-cons, All-nil, All-filter, filter_passes, All-contains, Contains-get_or}
use Rattle.term_model.specs.Tree.{Tree, Leaf, Node, count_of}
use Rattle.term_model.specs.declared.Symbol.{Symbol}
use Rattle.term_model.specs.declared.Head.TheVariants.{App, Int, Nil, Cons}
use Rattle.rewrite_model.specs.Rule.{Rule}
use Rattle.rewrite_model.specs.Matching.{match_of}
use Rattle.rule_match.specs.Planned.{match_at}
use Rattle.rule_match.specs.Preorder.{left_at}
use Rattle.rule_match.specs.Stands.{stands}
use Rattle.rule_match.proofs.Compiled.{match_at-left}
use Rattle.rule_automaton.specs.Places.{Tabled, IsTable, Reading}
use Rattle.rule_automaton.specs.Shapes.{holds, all_hold, all_agree, bound_by, IsUnder, IsShape, tests_at, pairs_at, variables_at}
use Rattle.rule_automaton.specs.Automata.{first_match, Made, part, rules_of, asks_for, is_allowed, kept, passing, IsWay, IsReading}
use Rattle.rule_automaton.specs.Running.{Known, AreKnown}
use Rattle.rule_automaton.specs.declared.shapes.Test.{Test}
use Rattle.rule_automaton.specs.declared.shapes.Shape.{Shape}
use Rattle.rule_automaton.specs.declared.states.State.{State}
use Rattle.rule_automaton.specs.declared.states.Way.{Way}

-- a test of all elements holds at each
abbrev pub Each : {A : Type 0} → (A → Bool) → List A → Type 0
Each p xs = All (λ x. p x ≡ true) xs

pub each : {A : Type 0} (p : A → Bool) (xs : List A) → list_all p xs ≡ true → Each p xs
each p [] e = All-nil (λ x. p x ≡ true)
each p (x ∷ xs) e = let b = and_parts (p x) (list_all p xs) e in All-cons (λ x. p x ≡ true) x xs b.0 (each p xs b.1)

pub from_each : {A : Type 0} (p : A → Bool) (xs : List A) → Each p xs → list_all p xs ≡ true
from_each p [] a = refl
from_each p (x ∷ xs) a = and_from (p x) (list_all p xs) (All-head (λ x. p x ≡ true) x xs a) (from_each p xs (All-tail (λ x. p x ≡ true) x xs a))

-- two symbols that stand over one tree are one
one_symbol : (f g : Symbol) (n m : ℕ) (t : Tree) → stands (App f) n t ≡ true → stands (App g) m t ≡ true → ((f.0 == g.0) && (n == m)) ≡ true
one_symbol f g n m (Leaf y) a b = cc
one_symbol f g n m (Node (App h) us) a b =
    let c = and_parts (f.0 == h.0) (count_of us == n) a in
    let d = and_parts (g.0 == h.0) (count_of us == m) b in
    let e : f.0 ≡ g.0 = eqb-true f.0 h.0 c.0 ∙ sym (eqb-true g.0 h.0 d.0) in
    let k : n ≡ m = sym (eqb-true (count_of us) n c.1) ∙ eqb-true (count_of us) m d.1 in
    and_from (f.0 == g.0) (n == m) (eq-eqb f.0 g.0 e) (eq-eqb n m k)
one_symbol f g n m (Node (Int v) us) a b = cc
one_symbol f g n m (Node Nil us) a b = cc
one_symbol f g n m (Node Cons us) a b = cc

-- a symbol stands as an equal one
stands_too : (f g : Symbol) (n m : ℕ) (t : Tree) → ((f.0 == g.0) && (n == m)) ≡ true → stands (App g) m t ≡ stands (App f) n t
stands_too f g n m (Leaf y) e = refl
stands_too f g n m (Node (App h) us) e =
    let b = and_parts (f.0 == g.0) (n == m) e in
    ap (λ i. (i == h.0) && (count_of us == m)) (sym (eqb-true f.0 g.0 b.0)) ∙ ap (λ i. (f.0 == h.0) && (count_of us == i)) (sym (eqb-true n m b.1))
stands_too f g n m (Node (Int v) us) e = refl
stands_too f g n m (Node Nil us) e = refl
stands_too f g n m (Node Cons us) e = refl

differs : (m n : ℕ) → m ≡ n → not (m == n) ≡ true → ⊥
differs m n e f = both_ways (m == n) (not-true (m == n) f) (eq-eqb m n e)

same_test : (place : ℕ) (w : Way) (t : Test) → t.place ≡ place → is_allowed place w.symbol w.count t ≡ true → asks_for w.symbol w.count t ≡ true
same_test place w t e k =
    ap (λ (b : Bool). not b || ((t.symbol.0 == w.symbol.0) && (t.count == w.count))) (sym (eq-eqb t.place place e)) ∙ k

-- rules that don't match may be left out
pub first_match-filter : (rules : List Rule) (t : Tree) (keep : ℕ → Bool) (rs : List ℕ) → All (λ r. keep r ≡ false → match_at rules r t ≡ None) rs → first_match rules t (filter keep rs) ≡ first_match rules t rs
first_match-filter rules t keep [] a = refl
first_match-filter rules t keep (r ∷ rs) a =
    let more = first_match-filter rules t keep rs (All-tail (λ r. keep r ≡ false → match_at rules r t ≡ None) r rs a) in
    elim (cases_Bool (keep r)) [
      | inl k ↦ ap (λ (b : Bool). first_match rules t (if b then r ∷ filter keep rs else filter keep rs)) k ∙ ap (λ o. if is_some (match_at rules r t) then Some r else o) more
      | inr k ↦ ap (λ (b : Bool). first_match rules t (if b then r ∷ filter keep rs else filter keep rs)) k ∙ more
          ∙ ap (λ (o : Option (List Tree)). if is_some o then Some r else first_match rules t rs) (sym (All-head (λ r. keep r ≡ false → match_at rules r t ≡ None) r rs a k))
    ]

-- what is under known tests is full
pub under_full : (at : ℕ → Tree) (full : ℕ → Type 0) → full 0 → (tests : List Test) (bound q : ℕ) → All (Known at full bound) tests → All (λ (x : Test). x.place < bound) tests → IsUnder tests q → full q
under_full at full root tests bound q known low (inl e) = subst full (sym e) root
under_full at full root tests bound q known low (inr u) = (All-contains (Known at full bound) tests u.0 known u.1).kids (All-contains (λ (x : Test). x.place < bound) tests u.0 low u.1) q u.2

-- all tests of a rule below a bound hold
pub all_below : (bound : ℕ) (tests : List Test) → list_all (λ (x : Test). nat_lt x.place bound) tests ≡ true → All (λ (x : Test). x.place < bound) tests
all_below bound tests e = λ k d l. ltb-true (get_or tests k d).place bound (each (λ (x : Test). nat_lt x.place bound) tests e k d l)

pub hold_all : (at : ℕ → Tree) (full : ℕ → Type 0) (bound : ℕ) (tests : List Test) → All (Known at full bound) tests → All (λ (x : Test). x.place < bound) tests → all_hold at tests ≡ true
hold_all at full bound tests known low = from_each (λ (x : Test). holds at x) tests (λ k d l. (known k d l).stand (low k d l))

module _ (rules : List Rule) (shapes : List Shape) (table : Tabled) (is : IsTable table) (base_at : (r : ℕ) → r < length rules → IsShape table (left_at rules r) (tests_at shapes r) (pairs_at shapes r) (variables_at shapes r)) (t : Tree) (reading : Reading table.base_of t) where
  -- a rule matches as its shape does
  pub matches_as : (r : ℕ) → r < length rules → match_at rules r t ≡ bound_by reading.at (tests_at shapes r) (pairs_at shapes r) (variables_at shapes r)
  matches_as r l =
      let s = base_at r l in
      match_at-left rules r t l ∙ ap (match_of (left_at rules r)) (sym reading.root) ∙ s.means reading.at (λ k d m. reading.kids (get_or (tests_at shapes r) k d).place (get_or (tests_at shapes r) k d).count (get_or (tests_at shapes r) k d).base (s.bases k d m))

  -- a rule of which a test fails doesn't match
  pub fails : (r : ℕ) → r < length rules → all_hold reading.at (tests_at shapes r) ≡ false → match_at rules r t ≡ None
  fails r l e =
      matches_as r l ∙ ap (λ (b : Bool). if b && all_agree reading.at (pairs_at shapes r) then Some (map reading.at (variables_at shapes r)) else None) e

  module _ (full : ℕ → Type 0) (root_full : full 0) where
    module _ (a : Made) (same_shapes : a.shapes ≡ shapes) (at : ℕ) (st : State) (place first last other : ℕ) (within : All (λ r. r < length rules) (rules_of a st)) (r : IsReading table a at st place first last other) (known : AreKnown shapes reading.at full st.bound (rules_of a st)) where
      least : All (λ q. Each (λ (x : Test). nat_lt x.place st.bound || nat_le place x.place) (tests_at shapes q)) (rules_of a st)
      least = λ k d l. each (λ (x : Test). nat_lt x.place st.bound || nat_le place x.place) (tests_at shapes (get_or (rules_of a st) k d)) (subst (λ (ss : List Shape). list_all (λ (x : Test). nat_lt x.place st.bound || nat_le place x.place) (tests_at ss (get_or (rules_of a st) k d)) ≡ true) same_shapes (r.least k d l))

      -- a test of a lower place is one below the bound
      low_test : (x : Test) → (nat_lt x.place st.bound || nat_le place x.place) ≡ true → x.place < place → x.place < st.bound
      low_test x e l =
          elim (or_cases (nat_lt x.place st.bound) (nat_le place x.place) e) [
            | inl k ↦ ltb-true x.place st.bound k
            | inr k ↦ absurd (let m = leb-true place x.place k in omega arith)
          ]

      -- the place that is read is full
      pub place_full : full place
      place_full =
          let tests = tests_at shapes r.rule in
          let in' : Contains tests r.test = subst (λ (ss : List Shape). Contains (tests_at ss r.rule) r.test) same_shapes r.test_in in
          let s = base_at r.rule (All-contains (λ q. q < length rules) (rules_of a st) r.rule within r.rule_in) in
          let k = in'.0 in
          let front = take k tests in
          let size : length front ≡ k = length-take-le k tests (omega (arith, in'.1)) in
          let there : IsUnder front place = subst (IsUnder front) (ap (λ (x : Test). x.place) in'.2 ∙ r.asks) (s.order k r.test in'.1) in
          let all_known = All-contains (λ q. All (Known reading.at full st.bound) (tests_at shapes q)) (rules_of a st) r.rule known r.rule_in in
          let all_least = All-contains (λ q. Each (λ (x : Test). nat_lt x.place st.bound || nat_le place x.place) (tests_at shapes q)) (rules_of a st) r.rule least r.rule_in in
          elim there [
            | inl e ↦ subst full (sym e) root_full
            | inr u ↦ (let j = u.1.0 in
                let short : j < k = omega (arith, size, u.1.1) in
                let here : get_or tests j u.0 ≡ u.0 = sym (get_or-take k tests j u.0 short) ∙ u.1.2 in
                let within' : j < length tests = omega (arith, in'.1, short) in
                let base = subst (λ (x : Test). table.base_of x.place x.count ≡ Some x.base) here (s.bases j u.0 within') in
                let above = (is.within u.0.place u.0.count u.0.base base).0 in
                let mine = subst (Known reading.at full st.bound) here (all_known j u.0 within') in
                let low = low_test u.0 (subst (λ (x : Test). (nat_lt x.place st.bound || nat_le place x.place) ≡ true) here (all_least j u.0 within')) (omega (arith, above, u.2.from)) in
                mine.kids low place u.2)
          ]

      -- what was known of a test that isn't of the place
      known_beside : (x : Test) → Known reading.at full st.bound x → (nat_lt x.place st.bound || nat_le place x.place) ≡ true → (x.place ≡ place → ⊥) → Known reading.at full (place + 1) x
      known_beside x k e n =
          record {
            stand = λ l. k.stand (low_test x e (omega (arith, l, n)));
            kids = λ l. k.kids (low_test x e (omega (arith, l, n)));
          }

      -- by a way
      module _ (w : Way) (goes : IsWay table a at st place w) (stand : stands (App w.symbol) w.count (reading.at place) ≡ true) (kids : (q : ℕ) → w.base ≤ q → q < w.base + w.count → full q) where
        allowed : (x : Test) → holds reading.at x ≡ true → is_allowed place w.symbol w.count x ≡ true
        allowed x h =
            elim (cases_Bool (x.place == place)) [
              | inr e ↦ ap (λ (b : Bool). not b || ((x.symbol.0 == w.symbol.0) && (x.count == w.count))) e
              | inl e ↦ ap (λ (b : Bool). not b || ((x.symbol.0 == w.symbol.0) && (x.count == w.count))) e ∙ one_symbol x.symbol w.symbol x.count w.count (reading.at place) (subst (λ p. stands (App x.symbol) x.count (reading.at p) ≡ true) (eqb-true x.place place e) h) stand
            ]

        allowed_all : (xs : List Test) → Each (λ (x : Test). holds reading.at x) xs → list_all (λ (x : Test). is_allowed place w.symbol w.count x) xs ≡ true
        allowed_all xs e = from_each (λ (x : Test). is_allowed place w.symbol w.count x) xs (λ k d l. allowed (get_or xs k d) (e k d l))

        dropped : (q : ℕ) → q < length rules → list_all (λ (x : Test). is_allowed place w.symbol w.count x) (tests_at shapes q) ≡ false → match_at rules q t ≡ None
        dropped q l e =
            elim (cases_Bool (all_hold reading.at (tests_at shapes q))) [
              | inl h ↦ absurd (both_ways (list_all (λ (x : Test). is_allowed place w.symbol w.count x) (tests_at shapes q)) e (allowed_all (tests_at shapes q) (each (λ (x : Test). holds reading.at x) (tests_at shapes q) h)))
              | inr h ↦ fails q l h
            ]

        -- the rules of the way have the first match of all
        pub same_match : first_match rules t (kept shapes place w.symbol w.count (rules_of a st)) ≡ first_match rules t (rules_of a st)
        same_match = first_match-filter rules t (λ q. list_all (λ (x : Test). is_allowed place w.symbol w.count x) (tests_at shapes q)) (rules_of a st) (λ k d l. dropped (get_or (rules_of a st) k d) (within k d l))

        one : (x : Test) → table.base_of x.place x.count ≡ Some x.base → Known reading.at full st.bound x → (nat_lt x.place st.bound || nat_le place x.place) ≡ true → is_allowed place w.symbol w.count x ≡ true → Known reading.at full (place + 1) x
        one x base k low allow =
            elim (cases_eq x.place place) [
              | inr n ↦ known_beside x k low n
              | inl e ↦ (let same = same_test place w x e allow in
                  let count : x.count ≡ w.count = eqb-true x.count w.count (and_parts (x.symbol.0 == w.symbol.0) (x.count == w.count) same).1 in
                  let stood : holds reading.at x ≡ true = ap (λ p. stands (App x.symbol) x.count (reading.at p)) e ∙ sym (stands_too x.symbol w.symbol x.count w.count (reading.at place) same) ∙ stand in
                  let its : x.base ≡ w.base = same_Some x.base w.base (sym base ∙ ap (λ p. table.base_of p x.count) e ∙ ap (table.base_of place) count ∙ goes.base) in
                  record {
                    stand = λ l. stood;
                    kids = λ l q u. (let f = u.from in let b = u.below in kids q (omega (arith, its, f)) (omega (arith, its, count, b)));
                  })
            ]

        known_there : (q : ℕ) → All (λ (x : Test). table.base_of x.place x.count ≡ Some x.base) (tests_at shapes q) → All (Known reading.at full st.bound) (tests_at shapes q) → Each (λ (x : Test). nat_lt x.place st.bound || nat_le place x.place) (tests_at shapes q) → Each (λ (x : Test). is_allowed place w.symbol w.count x) (tests_at shapes q) → All (Known reading.at full (place + 1)) (tests_at shapes q)
        known_there q bases k low allow = λ i d l. one (get_or (tests_at shapes q) i d) (bases i d l) (k i d l) (low i d l) (allow i d l)

        pub known_by_way : AreKnown shapes reading.at full (place + 1) (kept shapes place w.symbol w.count (rules_of a st))
        known_by_way =
            let keep : ℕ → Bool = λ q. list_all (λ (x : Test). is_allowed place w.symbol w.count x) (tests_at shapes q) in
            let rs = rules_of a st in
            let k = All-filter keep (λ q. All (Known reading.at full st.bound) (tests_at shapes q)) rs known in
            let low = All-filter keep (λ q. Each (λ (x : Test). nat_lt x.place st.bound || nat_le place x.place) (tests_at shapes q)) rs least in
            let in' = All-filter keep (λ q. q < length rules) rs within in
            let pass = filter_passes keep rs in
            λ i d l. known_there (get_or (filter keep rs) i d) (base_at (get_or (filter keep rs) i d) (in' i d l)).bases (k i d l) (low i d l) (each (λ (x : Test). is_allowed place w.symbol w.count x) (tests_at shapes (get_or (filter keep rs) i d)) (pass i d l))

      -- by no way
      module _ (no_way : All (λ (w : Way). stands (App w.symbol) w.count (reading.at place) ≡ false) (part a.ways first last)) where
        apart : (q : ℕ) → Contains (rules_of a st) q → (x : Test) → Contains (tests_at shapes q) x → holds reading.at x ≡ true → not (x.place == place) ≡ true
        apart q in' x x_in h =
            elim (cases_Bool (x.place == place)) [
              | inr e ↦ ap not e
              | inl e ↦ (let p = eqb-true x.place place e in
                  let c = r.covered q x in' (subst (λ (ss : List Shape). Contains (tests_at ss q) x) (sym same_shapes) x_in) p in
                  let same = c.2 in
                  let no = All-contains (λ (w : Way). stands (App w.symbol) w.count (reading.at place) ≡ false) (part a.ways first last) c.0 no_way c.1 in
                  absurd (both_ways (stands (App c.0.symbol) c.0.count (reading.at place)) no (stands_too x.symbol c.0.symbol x.count c.0.count (reading.at place) same ∙ ap (λ i. stands (App x.symbol) x.count (reading.at i)) (sym p) ∙ h)))
            ]

        gone : (q : ℕ) → Contains (rules_of a st) q → list_all (λ (x : Test). not (x.place == place)) (tests_at shapes q) ≡ false → match_at rules q t ≡ None
        gone q in' e =
            let tests = tests_at shapes q in
            elim (cases_Bool (all_hold reading.at tests)) [
              | inr h ↦ fails q (All-contains (λ q. q < length rules) (rules_of a st) q within in') h
              | inl h ↦ (let hold = each (λ (x : Test). holds reading.at x) tests h in
                  absurd (both_ways (list_all (λ (x : Test). not (x.place == place)) tests) e (from_each (λ (x : Test). not (x.place == place)) tests (λ k d l. apart q in' (get_or tests k d) (Contains-get_or tests k d l) (hold k d l)))))
            ]

        pub same_rest : first_match rules t (passing shapes place (rules_of a st)) ≡ first_match rules t (rules_of a st)
        same_rest = first_match-filter rules t (λ q. list_all (λ (x : Test). not (x.place == place)) (tests_at shapes q)) (rules_of a st) (λ k d l. gone (get_or (rules_of a st) k d) (Contains-get_or (rules_of a st) k d l))

        pub known_else : AreKnown shapes reading.at full (place + 1) (passing shapes place (rules_of a st))
        known_else =
            let keep : ℕ → Bool = λ q. list_all (λ (x : Test). not (x.place == place)) (tests_at shapes q) in
            let rs = rules_of a st in
            let k = All-filter keep (λ q. All (Known reading.at full st.bound) (tests_at shapes q)) rs known in
            let low = All-filter keep (λ q. Each (λ (x : Test). nat_lt x.place st.bound || nat_le place x.place) (tests_at shapes q)) rs least in
            let pass = filter_passes keep rs in
            λ i d l.
            let tests = tests_at shapes (get_or (filter keep rs) i d) in
            let off = each (λ (x : Test). not (x.place == place)) tests (pass i d l) in
            λ j e m. known_beside (get_or tests j e) (k i d l j e m) (low i d l j e m) (λ s. differs (get_or tests j e).place place s (off j e m))
