-- States, ways and rules are added, and what is right stays right.
use Rattle.std.proofs.Common.{◌≡◌, ℕ, ◌+◌, ◌-◌, ◌<◌, ◌≤◌, List, ◌++◌, length, take, drop, set, get_or, refl, sym, ◌∙◌, ap, arith, inl, inr, subst}
use Rattle.std.specs.Prelude.{Option, All, Contains}
use Rattle.std.proofs.lemmas.Bool.{cases_lt, cases_eq}
use Rattle.std.proofs.lemmas.List.{length-append, length-drop, length-set, take-append-le, drop-append-le, get_or_append_left, get_or-append_right, get_or-set_same, get_or-set_other}
use Rattle.std.proofs.lemmas.List.Elements.{All-append}
use Rattle.rule_automaton.specs.Places.{Tabled}
use Rattle.rule_automaton.specs.Automata.{Made, part, rules_of, kept, passing, AreInOrder, IsTested, GoesOn, IsWay, IsRight, IsState, AreStates}
use Rattle.rule_automaton.specs.declared.shapes.Shape.{Shape}
use Rattle.rule_automaton.specs.declared.states.State.{State}
use Rattle.rule_automaton.specs.declared.states.Way.{Way}
use Rattle.rule_automaton.specs.declared.states.Op.{Op}
use Rattle.rule_automaton.specs.declared.states.Op.TheVariants.{Found, Compare, Read, Turn}

pub part_front : {A : Type 0} (xs ys : List A) (from to : ℕ) → from ≤ to → to ≤ length xs → part (xs ++ ys) from to ≡ part xs from to
part_front xs ys from to l w =
    ap (take (to - from)) (drop-append-le from xs ys (omega arith))
    ∙ take-append-le (to - from) (drop from xs) ys (omega (arith, length-drop from xs))

-- a new state, whose rules may only be tried in turn
pub record IsNew (rules : List ℕ) (st : State) : Type 0 where
  pub order : st.from ≤ st.to
  pub within : st.to ≤ length rules
  pub turn : st.op ≡ Turn

abbrev pub tables : List Shape → List ℕ → List State → List Way → ℕ → List (Option Way) → Made
tables shapes rules states ways places roots = record { shapes = shapes; rules = rules; states = states; ways = ways; places = places; roots = roots }

module _ (table : Tabled) (shapes : List Shape) (rules more_rules : List ℕ) (states more_states : List State) (ways more_ways : List Way) (places : ℕ) (roots : List (Option Way)) (are : AreStates table (tables shapes rules states ways places roots)) where
  abbrev old : Made
  old = tables shapes rules states ways places roots

  abbrev new : Made
  new = tables shapes (rules ++ more_rules) (states ++ more_states) (ways ++ more_ways) places roots

  same_rules : (st : State) → st.from ≤ st.to → st.to ≤ length rules → rules_of new st ≡ rules_of old st
  same_rules st l w = part_front rules more_rules st.from st.to l w

  goes : (at to bound : ℕ) (rs : List ℕ) → GoesOn old at to bound rs → GoesOn new at to bound rs
  goes at to bound rs g =
      let is = subst (IsState table old to) (g.there g.state) (are.states to g.state g.within) in
      record {
        later = g.later;
        state = g.state;
        there = λ d. get_or_append_left states more_states d to g.within ∙ g.there d;
        within = (let w = g.within in omega (arith, w, length-append states more_states));
        has = same_rules g.state is.order is.within ∙ g.has;
        upto = g.upto;
      }

  tested : (st : State) → st.from ≤ st.to → st.to ≤ length rules → (rule : ℕ) (rest : List ℕ) → IsTested old st rule rest → IsTested new st rule rest
  tested st l w rule rest t = record { rules = same_rules st l w ∙ t.rules; tested = t.tested }

  right : (at : ℕ) (st : State) → st.from ≤ st.to → st.to ≤ length rules → (op : Op) → IsRight table old at st op → IsRight table new at st op
  right at st l w Found r = (r.0, r.1, tested st l w r.0 r.1 r.2, r.3)
  right at st l w (Compare other) r = (r.0, r.1, tested st l w r.0 r.1 r.2, goes at other st.bound r.1 r.3)
  right at st l w (Read n) r =
      let place = n.place in
      let first = n.first in
      let last = n.last in
      let other = n.other in
      let e = same_rules st l w in
      let p : part (ways ++ more_ways) first last ≡ part ways first last = part_front ways more_ways first last r.order r.within in
      record {
        rule = r.rule;
        rule_in = subst (λ rs. Contains rs r.rule) (sym e) r.rule_in;
        test = r.test;
        test_in = r.test_in;
        asks = r.asks;
        least = rw e r.least;
        order = r.order;
        within = (let v = r.within in omega (arith, v, length-append ways more_ways));
        sorted = subst AreInOrder (sym p) r.sorted;
        ways = subst (λ ws. All (IsWay table new at st place) ws) (sym p) (λ k d i. (let v = r.ways k d i in record { base = v.base; goes = rw e (goes at (get_or (part ways first last) k d).to (place + 1) (kept shapes place (get_or (part ways first last) k d).symbol (get_or (part ways first last) k d).count (rules_of old st)) v.goes) }));
        covered = λ q t i j k. (let c = r.covered q t (subst (λ rs. Contains rs q) e i) j k in (c.0, subst (λ ws. Contains ws c.0) (sym p) c.1, c.2));
        none = rw e (goes at other (place + 1) (passing shapes place (rules_of old st)) r.none);
      }
  right at st l w Turn r = tt

  pub way_grown : (at : ℕ) (st : State) → st.from ≤ st.to → st.to ≤ length rules → (place : ℕ) (w : Way) → IsWay table old at st place w → IsWay table new at st place w
  way_grown at st l k place w v = record { base = v.base; goes = rw (same_rules st l k) (goes at w.to (place + 1) (kept shapes place w.symbol w.count (rules_of old st)) v.goes) }

  pub grown : All (λ r. r < length shapes) more_rules → ((k : ℕ) (d : State) → k < length more_states → IsNew (rules ++ more_rules) (get_or more_states k d)) → AreStates table new
  grown fresh are_new =
      record {
        rules = All-append (λ r. r < length shapes) rules more_rules are.rules fresh;
        states = λ at d l.
            elim (cases_lt at (length states)) [
              | inl s ↦ subst (IsState table new at) (sym (get_or_append_left states more_states d at s)) (let is = are.states at d s in record { order = is.order; within = (let v = is.within in omega (arith, v, length-append rules more_rules)); right = right at (get_or states at d) is.order is.within (get_or states at d).op is.right })
              | inr s ↦ subst (IsState table new at) (sym (get_or-append_right states more_states (length states) at d refl s)) (let n = are_new (at - length states) d (omega (arith, l, length-append states more_states)) in record { order = n.order; within = n.within; right = subst (IsRight table new at (get_or more_states (at - length states) d)) (sym n.turn) tt })
            ];
      }

-- what is done at a state is set
module _ (table : Tabled) (shapes : List Shape) (rules : List ℕ) (states : List State) (ways : List Way) (places : ℕ) (roots : List (Option Way)) (are : AreStates table (tables shapes rules states ways places roots)) (here : ℕ) (st : State) (op : Op) (l : here < length states) (is : (d : State) → get_or states here d ≡ st) where
  abbrev was : Made
  was = tables shapes rules states ways places roots

  abbrev now : Made
  now = tables shapes rules (set states here (record st { op = op })) ways places roots

  goes_too : (at to bound : ℕ) (rs : List ℕ) → GoesOn was at to bound rs → GoesOn now at to bound rs
  goes_too at to bound rs g =
      elim (cases_eq to here) [
        | inr n ↦ record {
          later = g.later;
          state = g.state;
          there = λ d. get_or-set_other states here to (record st { op = op }) d n ∙ g.there d;
          within = (let w = g.within in omega (arith, w, length-set states here (record st { op = op })));
          has = g.has;
          upto = g.upto;
        }
        | inl e ↦ (let same : st ≡ g.state = sym (is st) ∙ ap (λ k. get_or states k st) (sym e) ∙ g.there st in
            record {
              later = g.later;
              state = record st { op = op };
              there = λ d. ap (λ k. get_or (set states here (record st { op = op })) k d) e ∙ get_or-set_same states here (record st { op = op }) d l;
              within = (let w = g.within in omega (arith, w, length-set states here (record st { op = op })));
              has = ap (λ (v : State). rules_of was v) same ∙ g.has;
              upto = ap (λ (v : State). v.bound) same ∙ g.upto;
            })
      ]

  right_too : (at : ℕ) (v : State) (p o : Op) → IsRight table was at v o → IsRight table now at (record v { op = p }) o
  right_too at v p Found r = (r.0, r.1, record { rules = r.2.rules; tested = r.2.tested }, r.3)
  right_too at v p (Compare other) r = (r.0, r.1, record { rules = r.2.rules; tested = r.2.tested }, goes_too at other v.bound r.1 r.3)
  right_too at v p (Read n) r =
      let place = n.place in
      let first = n.first in
      let last = n.last in
      let other = n.other in
      record {
        rule = r.rule;
        rule_in = r.rule_in;
        test = r.test;
        test_in = r.test_in;
        asks = r.asks;
        least = r.least;
        order = r.order;
        within = r.within;
        sorted = r.sorted;
        ways = λ k d i. (let w = r.ways k d i in record { base = w.base; goes = goes_too at (get_or (part ways first last) k d).to (place + 1) (kept shapes place (get_or (part ways first last) k d).symbol (get_or (part ways first last) k d).count (rules_of was v)) w.goes });
        covered = r.covered;
        none = goes_too at other (place + 1) (passing shapes place (rules_of was v)) r.none;
      }
  right_too at v p Turn r = tt

  pub done : IsRight table was here st op → AreStates table now
  done r =
      record {
        rules = are.rules;
        states = λ at d k.
            elim (cases_eq at here) [
              | inl e ↦ subst (IsState table now at) (sym (ap (λ i. get_or (set states here (record st { op = op })) i d) e ∙ get_or-set_same states here (record st { op = op }) d l))
                  (let s = subst (IsState table was here) (is d) (are.states here d l) in record { order = s.order; within = s.within; right = right_too at st op op (subst (λ i. IsRight table was i st op) (sym e) r) })
              | inr n ↦ subst (IsState table now at) (sym (get_or-set_other states here at (record st { op = op }) d n)) (let s = are.states at d (omega (arith, k, length-set states here (record st { op = op }))) in record { order = s.order; within = s.within; right = right_too at (get_or states at d) (get_or states at d).op (get_or states at d).op s.right })
            ];
      }
