-- Where searches go on from the root. And an automaton with other roots has the same states.
use Rattle.std.proofs.Common.{◌≡◌, ℕ, ◌+◌, ◌<◌, ◌≤◌, List, [], ◌∷◌, ◌++◌, length, set, get_or, Option, Some, true, refl, sym, ◌∙◌, ap, arith, inl, inr, subst, eq-eqb}
use Rattle.std.specs.Prelude.{◌==◌, IfSome}
use Rattle.std.proofs.lemmas.Bool.{and_from, cases_lt}
use Rattle.std.proofs.lemmas.List.{length_push, get_or_append_left, get_or_push}
use Rattle.std.proofs.lemmas.Option.{IfSome_then}
use Rattle.term_model.specs.Tree.{root, arguments, head_eq}
use Rattle.term_model.specs.declared.Row.{Row}
use Rattle.term_model.specs.declared.Head.TheVariants.{App}
use Rattle.terms_api.specs.Terms.{Store, IsHeld, tree_at}
use Rattle.rewrite_model.specs.Rule.{Rule}
use Rattle.rule_match.specs.Stands.{stands}
use Rattle.rule_match.specs.Groups.{head_at}
use Rattle.rule_automaton.specs.Places.{Tabled}
use Rattle.rule_automaton.specs.Automata.{Made, IsAutomaton, part, rules_of, kept, passing, GoesOn, IsRight, AreStates, HasStarts, IsRoot, AreRoots}
use Rattle.rule_automaton.specs.Rows.{row_at, IsFull, Fills}
use Rattle.rule_automaton.specs.Running.{Asked, asked, IsRun, IsRooted}
use Rattle.rule_automaton.proofs.Readings.{starts, way_stands, way_fits, goes_way}
use Rattle.rule_automaton.specs.declared.states.State.{State}
use Rattle.rule_automaton.specs.declared.states.Way.{Way}
use Rattle.rule_automaton.specs.declared.states.Op.{Op}
use Rattle.rule_automaton.specs.declared.states.Op.TheVariants.{Found, Compare, Read, Turn}

-- the same automaton with other roots
module _ (table : Tabled) (a : Made) (roots : List (Option Way)) where
  abbrev pub with_roots : Made
  with_roots = record a { roots = roots }

  goes : (at to bound : ℕ) (rs : List ℕ) → GoesOn a at to bound rs → GoesOn with_roots at to bound rs
  goes at to bound rs g =
      record { later = g.later; state = g.state; there = g.there; within = g.within; has = g.has; upto = g.upto }

  right : (at : ℕ) (v : State) (o : Op) → IsRight table a at v o → IsRight table with_roots at v o
  right at v Found r = (r.0, r.1, record { rules = r.2.rules; tested = r.2.tested }, r.3)
  right at v (Compare other) r = (r.0, r.1, record { rules = r.2.rules; tested = r.2.tested }, goes at other v.bound r.1 r.3)
  right at v (Read n) r =
      record {
        rule = r.rule;
        rule_in = r.rule_in;
        test = r.test;
        test_in = r.test_in;
        asks = r.asks;
        least = r.least;
        order = r.order;
        within = r.within;
        sorted = r.sorted;
        ways = λ k d i. (let w = r.ways k d i in
            let it = get_or (part a.ways n.first n.last) k d in
            record { base = w.base; goes = goes at it.to (n.place + 1) (kept a.shapes n.place it.symbol it.count (rules_of a v)) w.goes });
        covered = r.covered;
        none = goes at n.other (n.place + 1) (passing a.shapes n.place (rules_of a v)) r.none;
      }
  right at v Turn r = tt

  states_with : AreStates table a → AreStates table with_roots
  states_with are =
      record {
        rules = are.rules;
        states = λ at d l. (let s = are.states at d l in record { order = s.order; within = s.within; right = right at (get_or a.states at d) (get_or a.states at d).op s.right });
      }

pub starts_with : (rules : List Rule) (a : Made) (roots : List (Option Way)) → HasStarts rules a → HasStarts rules (record a { roots = roots })
starts_with rules a roots s =
    record {
      table = s.table;
      readable = s.readable;
      places = s.places;
      shapes = s.shapes;
      count = s.count;
      starts = s.starts;
      states = states_with s.table a roots s.states;
    }

-- With ways from the root a search may go on there.
pub automaton_with : (rules : List Rule) (a : Made) (roots : List (Option Way)) → HasStarts rules a → AreRoots rules a roots → IsAutomaton rules (record a { roots = roots })
automaton_with rules a roots starts are =
    record {
      starts = starts_with rules a roots starts;
      roots = record {
        count = are.count;
        each = λ k d l. IfSome_then (get_or roots k d) (are.each k d l) (λ w r. record { first = r.first; last = r.last; other = r.other; reads = r.reads; way = r.way; head = r.head });
      };
    }

-- the ways of one rule more
pub one_more_root : (rules : List Rule) (a : Made) (roots : List (Option Way)) (o : Option Way) (n : ℕ) → n ≡ length roots → ((k : ℕ) (d : Option Way) → k < length roots → IfSome (get_or roots k d) (IsRoot rules a k)) → IfSome o (IsRoot rules a n) → (k : ℕ) (d : Option Way) → k < length (roots ++ o ∷ []) → IfSome (get_or (roots ++ o ∷ []) k d) (IsRoot rules a k)
one_more_root rules a roots o n e each one k d l =
    elim (cases_lt k (length roots)) [
      | inl s ↦ subst (λ (v : Option Way). IfSome v (IsRoot rules a k)) (sym (get_or_append_left roots (o ∷ []) d k s)) (each k d s)
      | inr s ↦ (let z : k ≡ n = omega (arith, l, s, e, length_push roots o) in
          subst (λ (v : Option Way). IfSome v (IsRoot rules a k)) (sym (get_or_push roots o d k (sym (z ∙ e)))) (subst (λ j. IfSome o (IsRoot rules a j)) (sym z) one))
    ]

-- the way that a rule has from the root
pub root_at : (a : Made) (s : Store) (rows : List Row) (m : Asked) (first : ℕ) → IsRooted a s rows m first → (o : Option Way) (w : Way) → o ≡ get_or a.roots first o → o ≡ Some w → IsRoot m.rules a first w
root_at a s rows m first r o w is some = subst (λ (v : Option Way). IfSome v (IsRoot m.rules a first)) (sym is ∙ some) (r.roots.each first o r.within)

-- the tree has the head of a rule, whose way from the root this is
module _ (a : Made) (s : Store) (rows : List Row) (m : Asked) (first : ℕ) (r : IsRooted a s rows m first) (w : Way) (is : IsRoot m.rules a first w) where
  pub root_full : IsFull s r.run.begun.reading.at rows 0
  root_full = r.run.begun.root

  pub root_fits : w.base + w.count ≤ length rows
  root_fits = way_fits a s rows m first r.run 0 is.first is.last is.other is.reads w is.way

  -- where it has as many arguments as the way
  module _ (n : w.count ≡ length (arguments (tree_at s (row_at rows 0)))) where
    stand : stands (App w.symbol) w.count (tree_at s (row_at rows 0)) ≡ true
    stand =
        way_stands (App w.symbol) w.count w (tree_at s (row_at rows 0)) true (ap root (root_full.tree ∙ r.run.begun.reading.root) ∙ r.head ∙ is.head) n
        (and_from (head_eq (App w.symbol) (App w.symbol)) (w.count == w.count) (eq-eqb w.symbol.0 w.symbol.0 refl) (eq-eqb w.count w.count refl))

    pub goes_root : (new : List Row) → Fills s (row_at rows 0) w.base w.count rows new → IsRun a s new m w.to
    goes_root new fills = (goes_way a s rows m first r.run 0 is.first is.last is.other is.reads w is.way stand new fills).1

-- it stands at the state of the rule from which on it searches
pub rooted : (a : Made) (s : Store) (rows : List Row) (rules : List Rule) (row : Row) (from : ℕ) → IsAutomaton rules a → IsHeld s row → a.places ≤ length rows → from < length rules → root (tree_at s row) ≡ head_at rules from → IsRooted a s (set rows 0 row) (asked rules (tree_at s row) from) from
rooted a s rows rules row from au held size l head =
    record { run = starts a s rows rules row from au.starts held size l head; roots = au.roots; within = l; head = head }
