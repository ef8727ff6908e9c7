-- A rule tried by its own tests: it matches or not.
use Rattle.std.proofs.Common.{◌≡◌, ℕ, ◌<◌, List, length, get_or, Bool, true, false, refl, sym, ◌∙◌, ap, arith, subst}
use Rattle.std.specs.Prelude.{◌&&◌, All}
use Rattle.std.specs.List.{list_all}
use Rattle.std.proofs.lemmas.Bool.{both_ways}
use Rattle.term_model.specs.declared.Row.{Row}
use Rattle.terms_api.specs.Terms.{Store, IsSound}
use Rattle.rule_automaton.specs.Shapes.{all_hold, all_agree, IsUnder, tests_at, pairs_at}
use Rattle.rule_automaton.specs.Automata.{Made}
use Rattle.rule_automaton.specs.Rows.{IsFull}
use Rattle.rule_automaton.specs.Running.{Asked, IsBegun, IsReady, AreTested, IsTried, have_one_row}
use Rattle.rule_automaton.proofs.Steps.{is_match, no_match, pairs_full, rows_agree, and_off}
use Rattle.rule_automaton.proofs.Trying.{read_shape, is_ready}
use Rattle.rule_automaton.specs.declared.shapes.Test.{Test}
use Rattle.rule_automaton.specs.declared.shapes.Pair.{Pair}
use Rattle.rule_automaton.specs.declared.shapes.Shape.{Shape}

module _ (a : Made) (s : Store) (rows : List Row) (m : Asked) (b : IsBegun a s rows m) (r : ℕ) (l : r < length a.shapes) (x : Shape) (is : x ≡ get_or a.shapes r x) (tests : List Test) (is_tests : tests ≡ x.tests.items) where
  same_tests : tests_at a.shapes r ≡ tests
  same_tests = (read_shape a.shapes r x l is).tests ∙ sym is_tests

  rule : r < length m.rules
  rule = let n = b.automaton.shapes.count in omega (arith, l, n)

  pub ready : IsReady s b.reading.at rows tests
  ready = subst (IsReady s b.reading.at rows) same_tests (is_ready a s rows m b r l)

  -- a test doesn't hold
  pub untried : (now : List Row) → AreTested s b.reading.at now tests false → IsTried a s rows now m b r false
  untried now t =
      record {
        root = t.root;
        yes = λ e. absurd (both_ways false refl e);
        no = λ e. no_match a s rows m b r rule (ap (λ (h : Bool). h && all_agree b.reading.at (pairs_at a.shapes r)) (ap (all_hold b.reading.at) same_tests ∙ t.no refl));
      }

  -- all tests hold
  module _ (now : List Row) (t : AreTested s b.reading.at now tests true) (pairs : List Pair) (is_pairs : pairs ≡ x.pairs.items) where
    same_pairs : pairs_at a.shapes r ≡ pairs
    same_pairs = (read_shape a.shapes r x l is).pairs ∙ sym is_pairs

    full : (q : ℕ) → IsUnder (tests_at a.shapes r) q → IsFull s b.reading.at now q
    full q u = (t.yes refl).1 q (subst (λ ts. IsUnder ts q) same_tests u)

    pub pairs_within : All (λ (p : Pair). (p.first < length now) × (p.second < length now)) pairs
    pairs_within =
        let f = pairs_full a s rows m b now r rule full in
        subst (All (λ (p : Pair). (p.first < length now) × (p.second < length now))) same_pairs (λ k d i. ((f k d i).0.within, (f k d i).1.within))

    pub tried : IsSound s → (result : Bool) → result ≡ list_all (λ (p : Pair). have_one_row now p) pairs → IsTried a s rows now m b r result
    tried sound result e =
        let agree : all_agree b.reading.at (pairs_at a.shapes r) ≡ result = sym (rows_agree s b.reading.at now (pairs_at a.shapes r) sound (pairs_full a s rows m b now r rule full)) ∙ ap (list_all (λ (p : Pair). have_one_row now p)) same_pairs ∙ sym e in
        record {
          root = t.root;
          yes = λ v. is_match a s rows m b now r rule (ap (all_hold b.reading.at) same_tests ∙ (t.yes refl).0) (agree ∙ v) full;
          no = λ v. no_match a s rows m b r rule (ap (λ (h : Bool). all_hold b.reading.at (tests_at a.shapes r) && h) (agree ∙ v) ∙ and_off (all_hold b.reading.at (tests_at a.shapes r)));
        }
