-- What is done at a state is right.
use Rattle.std.proofs.Common.{◌≡◌, ℕ, ◌+◌, ◌-◌, ◌^◌, ◌<◌, ◌≤◌, List, [], ◌∷◌, ◌++◌, length, drop, set, get_or, Some, true, refl, sym, ◌∙◌, ap, arith, inl, inr, subst}
use Rattle.std.specs.Prelude.{◌⊎◌, nat_lt, All, Contains}
use Rattle.std.specs.List.{list_all}
use Rattle.std.proofs.lemmas.List.{append-nil, length-set, get_or-set_same, get_or-set_other}
use Rattle.std.proofs.lemmas.Bool.{cases_eq}
use Rattle.std.proofs.lemmas.List.Elements.{All-contains, All-take, All-drop}
use Rattle.rule_automaton.specs.Places.{Tabled}
use Rattle.rule_automaton.specs.Shapes.{HaveShapes, tests_at, pairs_at}
use Rattle.rewrite_model.specs.Rule.{Rule}
use Rattle.rule_automaton.specs.Automata.{first_match, Made, rules_of, IsTested, GoesOn, IsRight, IsState, AreStates, HasStarts}
use Rattle.rule_automaton.specs.Building.{with_state, AreBased, Continues, ReadsOn, IsBuilt, Serves, Decides, IsGrown, IsAsked}
use Rattle.rule_automaton.specs.Asking.{is_from}
use Rattle.std.proofs.lemmas.List.Elements.{Contains-get_or}
use Rattle.rule_automaton.proofs.Trying.{read_shape}
use Rattle.rule_automaton.proofs.Growing as growing
use Rattle.rule_automaton.proofs.Built.{none_added, more, more_continues, goes_new, st_new}
use Rattle.rule_automaton.specs.declared.shapes.Test.{Test}
use Rattle.rule_automaton.specs.declared.shapes.Shape.{Shape}
use Rattle.rule_automaton.specs.declared.states.State.{State}
use Rattle.rule_automaton.specs.declared.states.Way.{Way}
use Rattle.rule_automaton.specs.declared.states.Op.{Op}
use Rattle.rule_automaton.specs.declared.states.Op.TheVariants.{Found, Compare, Turn}

-- places that are asked for are small
pub place_small : (table : Tabled) (a : Made) (rules : List ℕ) (place : ℕ) → IsBuilt table a → All (λ r. r < length a.shapes) rules → IsAsked a.shapes rules place → place + 1 < 2 ^ 32
place_small table a rules place b fits k =
    let l = All-contains (λ r. r < length a.shapes) rules k.rule fits k.rule_in in
    let base = All-contains (λ (t : Test). table.base_of t.place t.count ≡ Some t.base) (tests_at a.shapes k.rule) k.test (b.based k.rule l) k.test_in in
    let w = b.is.within k.test.place k.test.count k.test.base base in
    let s = b.is.small in
    let e = k.asks in
    let lower = w.0 in
    let upper = w.1 in
    omega (arith, s, e, lower, upper)

-- the least place is asked for
pub least_asked : (shapes : List Shape) (rules : List ℕ) (place least : ℕ) → IsAsked shapes rules place → (least ≡ place) ⊎ ((r : ℕ) × Contains rules r × ((t : Test) × Contains (tests_at shapes r) t × (t.place ≡ least))) → IsAsked shapes rules least
least_asked shapes rules place least k (inl e) = record { rule = k.rule; rule_in = k.rule_in; test = k.test; test_in = k.test_in; asks = k.asks ∙ sym e }
least_asked shapes rules place least k (inr o) = record { rule = o.0; rule_in = o.1; test = o.2.0; test_in = o.2.1; asks = o.2.2 }

pub reads_least : (table : Tabled) (a b : Made) (rules : List ℕ) (bound least : ℕ) (op : Op) → IsAsked a.shapes rules least → All (λ r. list_all (λ (t : Test). is_from bound least t) (tests_at a.shapes r) ≡ true) rules → ReadsOn table a b rules least op → Serves table a b rules bound op
reads_least table a b rules bound least op k all r =
    record {
      continues = r.continues;
      right = λ at st l m n e f. r.right at st l m n e (record {
        rule = k.rule;
        rule_in = k.rule_in;
        test = k.test;
        test_in = k.test_in;
        asks = k.asks;
        least = subst (λ i. All (λ r. list_all (λ (t : Test). is_from i least t) (tests_at a.shapes r) ≡ true) rules) (sym f) all;
      });
    }

-- the first of some, and the others
first_and_rest : (rs : List ℕ) → 0 < length rs → rs ≡ get_or rs 0 0 ∷ drop 1 rs
first_and_rest [] l = absurd (omega arith)
first_and_rest (r ∷ rs) l = refl

module _ (table : Tabled) (a : Made) (rules : List ℕ) (bound : ℕ) (some : 0 < length rules) (is : IsBuilt table a) (tested : list_all (λ (t : Test). nat_lt t.place bound) (tests_at a.shapes (get_or rules 0 0)) ≡ true) where
  tested_at : (st : State) → rules_of a st ≡ rules → st.bound ≡ bound → IsTested a st (get_or rules 0 0) (drop 1 rules)
  tested_at st e f = record { rules = e ∙ first_and_rest rules some; tested = subst (λ i. list_all (λ (t : Test). nat_lt t.place i) (tests_at a.shapes (get_or rules 0 0)) ≡ true) (sym f) tested }

  pub serves_found : pairs_at a.shapes (get_or rules 0 0) ≡ [] → Serves table a a rules bound Found
  serves_found none = record { continues = none_added table a is.are; right = λ at st l m n e f. (get_or rules 0 0, drop 1 rules, tested_at st e f, none) }

  module _ (fits : All (λ r. r < length a.shapes) (drop 1 rules)) where
    c : Continues table a a
    c = none_added table a is.are

    goes : (at : ℕ) (st : State) → at < length a.states → st.from ≤ st.to → st.to ≤ length a.rules → rules_of a st ≡ rules → st.bound ≡ bound → IsRight table (more table a a c (drop 1 rules) bound [] fits) at st (Compare (length a.states))
    goes at st l m n e f =
        let t = tested_at st e f in
        (get_or rules 0 0, drop 1 rules, record { rules = (more_continues table a a c (drop 1 rules) bound [] fits).same st m n ∙ t.rules; tested = t.tested }, subst (λ i. GoesOn (more table a a c (drop 1 rules) bound [] fits) at (length a.states) i (drop 1 rules)) (sym f) (goes_new table a a c (drop 1 rules) bound [] fits at l))

    pub serves_compare : Serves table a (with_state a (drop 1 rules) bound) rules bound (Compare (length a.states))
    serves_compare =
        subst (λ (ws : List Way). Serves table a (record { shapes = a.shapes; rules = a.rules ++ drop 1 rules; states = a.states ++ st_new table a a c (drop 1 rules) bound [] fits ∷ []; ways = ws; places = a.places; roots = a.roots }) rules bound (Compare (length a.states))) (append-nil a.ways)
        (record { continues = more_continues table a a c (drop 1 rules) bound [] fits; right = goes })

-- by the state's own rules
pub decides : (table : Tabled) (a b : Made) (at : ℕ) (st : State) (op : Op) → at < length a.states → ((d : State) → get_or a.states at d ≡ st) → AreStates table a → Serves table a b (rules_of a st) st.bound op → Decides table a b at op
decides table a b at st op l there are s =
    record {
      continues = s.continues;
      right = λ st' there'. (let same : st ≡ st' = sym (there st) ∙ there' st in
          let is = subst (IsState table a at) (there st) (are.states at st l) in
          subst (λ v. IsRight table b at v op) same (s.right at st l is.order is.within refl refl));
    }

-- the operation is set
module _ (table : Tabled) (a b : Made) (at : ℕ) (op : Op) (d : Decides table a b at op) (is : IsBuilt table a) (l : at < length a.states) (st : State) (there : (e : State) → get_or a.states at e ≡ st) where
  there_too : (e : State) → get_or b.states at e ≡ st
  there_too e = d.continues.states at e l ∙ there e

  within : at < length b.states
  within = let n = d.continues.count in omega (arith, n, l)

  abbrev now : Made
  now = record b { states = set b.states at (record st { op = op }) }

  are_now : AreStates table now
  are_now = growing.done table b.shapes b.rules b.states b.ways b.places b.roots d.continues.are at st op within there_too (d.right st there)

  all_same : (k : ℕ) (e : State) → k < length a.states → (rules_of now (get_or now.states k e) ≡ rules_of a (get_or a.states k e)) × ((get_or now.states k e).bound ≡ (get_or a.states k e).bound)
  all_same i e some =
      let its = is.are.states i e some in
      let old = d.continues.states i e some in
      let same = d.continues.same (get_or a.states i e) its.order its.within in
      elim (cases_eq i at) [
        | inr n ↦ (let k = get_or-set_other b.states at i (record st { op = op }) e n ∙ old in (ap (λ (v : State). rules_of b v) k ∙ same, ap (λ (v : State). v.bound) k))
        | inl z ↦ (let k : get_or now.states i e ≡ record st { op = op } = ap (λ j. get_or now.states j e) z ∙ get_or-set_same b.states at (record st { op = op }) e within in
            let first : get_or a.states i e ≡ st = ap (λ j. get_or a.states j e) z ∙ there e in
            (ap (λ (v : State). rules_of b v) k ∙ ap (λ (v : State). rules_of b v) (sym first) ∙ same, ap (λ (v : State). v.bound) k ∙ ap (λ (v : State). v.bound) (sym first)))
      ]

  pub grown_by : IsGrown table a now
  grown_by =
      record {
        built = record { is = is.is; are = are_now; based = subst (AreBased table) (sym d.continues.shapes) is.based };
        shapes = d.continues.shapes;
        places = d.continues.places;
        count = (let n = d.continues.count in omega (arith, n, length-set b.states at (record st { op = op })));
        same = all_same;
      }

pub grown_not : (table : Tabled) (a : Made) → IsBuilt table a → IsGrown table a a
grown_not table a is = record { built = is; shapes = refl; places = refl; count = omega arith; same = λ k d l. (refl, refl) }

pub grown_on : (table : Tabled) (a b c : Made) → IsGrown table a b → IsGrown table b c → IsGrown table a c
grown_on table a b c g h =
    record {
      built = h.built;
      shapes = h.shapes ∙ g.shapes;
      places = h.places ∙ g.places;
      count = (let m = g.count in let n = h.count in omega (arith, m, n));
      same = λ i d s. (let m = g.count in let k = h.same i d (omega (arith, m, s)) in let j = g.same i d s in (k.0 ∙ j.0, k.1 ∙ j.1));
    }

-- no rules: they are tried in turn
pub decides_turn : (table : Tabled) (a : Made) (at : ℕ) → IsBuilt table a → Decides table a a at Turn
decides_turn table a at is = record { continues = none_added table a is.are; right = λ st there. tt }

-- some state's rules are within
pub state_rules : (table : Tabled) (a : Made) (at : ℕ) (st : State) → IsBuilt table a → All (λ r. r < length a.shapes) (rules_of a st)
state_rules table a at st is =
    All-take (λ r. r < length a.shapes) (st.to - st.from) (drop st.from a.rules) (All-drop (λ r. r < length a.shapes) st.from a.rules is.are.rules)

-- by the rules that were copied
pub decides_by : (table : Tabled) (a b : Made) (at : ℕ) (st : State) (rs : List ℕ) (op : Op) → at < length a.states → ((d : State) → get_or a.states at d ≡ st) → rs ≡ rules_of a st → IsBuilt table a → Serves table a b rs st.bound op → Decides table a b at op
decides_by table a b at st rs op l there e is s = decides table a b at st op l there is.are (subst (λ qs. Serves table a b qs st.bound op) e s)

-- an automaton is under construction
pub is_built : (rules : List Rule) (a : Made) (au : HasStarts rules a) → IsBuilt au.table a
is_built rules a au = record { is = au.readable; are = au.states; based = λ r l. (au.shapes.each r l).bases }

-- an automaton with more states is one
pub automaton_grown : (rules : List Rule) (a b : Made) → HasStarts rules a → ((table : Tabled) → IsBuilt table a → IsGrown table a b) → HasStarts rules b
automaton_grown rules a b au grows =
    let g = grows au.table (is_built rules a au) in
    record {
      table = au.table;
      readable = au.readable;
      places = subst (λ n. au.table.places ≤ n) (sym g.places) au.places;
      shapes = subst (HaveShapes au.table rules) (sym g.shapes) au.shapes;
      count = (let n = au.count in let m = g.count in omega (arith, n, m));
      starts = λ k d l. (let n = au.count in let f = g.same k d (omega (arith, n, l)) in let o = au.starts k d l in record { bound = f.1 ∙ o.bound; same = λ t e. ap (first_match rules t) f.0 ∙ o.same t e });
      states = g.built.are;
    }

-- the first rule asks for a place
pub asked_first : (shapes : List Shape) (rules : List ℕ) (place : ℕ) (x : Shape) (ts : List Test) → 0 < length rules → get_or rules 0 0 < length shapes → x ≡ get_or shapes (get_or rules 0 0) x → ts ≡ x.tests.items → ((t : Test) × Contains ts t × (t.place ≡ place)) → IsAsked shapes rules place
asked_first shapes rules place x ts some l is same t =
    record {
      rule = get_or rules 0 0;
      rule_in = Contains-get_or rules 0 0 some;
      test = t.0;
      test_in = subst (λ (us : List Test). Contains us t.0) (same ∙ sym (read_shape shapes (get_or rules 0 0) x l is).tests) t.1;
      asks = t.2;
    }

-- all tests of the first rule are below a bound
pub tested_first : (shapes : List Shape) (r bound : ℕ) (x : Shape) (ts : List Test) → r < length shapes → x ≡ get_or shapes r x → ts ≡ x.tests.items → list_all (λ (t : Test). nat_lt t.place bound) ts ≡ true → list_all (λ (t : Test). nat_lt t.place bound) (tests_at shapes r) ≡ true
tested_first shapes r bound x ts l is same e = ap (list_all (λ (t : Test). nat_lt t.place bound)) ((read_shape shapes r x l is).tests ∙ sym same) ∙ e

-- it has no pairs
pub no_pairs : (shapes : List Shape) (r : ℕ) (x : Shape) → r < length shapes → x ≡ get_or shapes r x → x.pairs.items ≡ [] → pairs_at shapes r ≡ []
no_pairs shapes r x l is e = (read_shape shapes r x l is).pairs ∙ e

pub serves_turn : (table : Tabled) (a : Made) (rules : List ℕ) (bound : ℕ) → IsBuilt table a → Serves table a a rules bound Turn
serves_turn table a rules bound is = record { continues = none_added table a is.are; right = λ at st l m n e f. tt }

-- by the rules after the first
pub serves_rest : (table : Tabled) (a : Made) (rules rest : List ℕ) (bound other : ℕ) (b : Made) → 0 < length rules → IsBuilt table a → list_all (λ (t : Test). nat_lt t.place bound) (tests_at a.shapes (get_or rules 0 0)) ≡ true → All (λ r. r < length a.shapes) rules → rest ≡ drop 1 rules → other ≡ length a.states → b ≡ with_state a rest bound → Serves table a b rules bound (Compare other)
serves_rest table a rules rest bound other b some is tested fits e f g =
    let it = serves_compare table a rules bound some is tested (All-drop (λ r. r < length a.shapes) 1 rules fits) in
    subst (λ (v : Made). Serves table a v rules bound (Compare other)) (sym (g ∙ ap (λ qs. with_state a qs bound) e))
    (subst (λ i. Serves table a (with_state a (drop 1 rules) bound) rules bound (Compare i)) (sym f) it)

-- the table of a loop's start
pub built_on : (a b : Made) → ((table : Tabled) × IsBuilt table a) → ((table : Tabled) → IsBuilt table a → IsGrown table a b) → (table : Tabled) × IsBuilt table b
built_on a b t g = (t.0, (g t.0 t.1).built)
