-- The rule that an automaton finds, as the first one of all that matches.
use Rattle.std.proofs.Common.{◌≡◌, ℕ, zero, suc, ◌+◌, ◌-◌, ◌<◌, ◌≤◌, List, length, map, get_or, Option, Some, None, refl, sym, ◌∙◌, ap, arith, inl, inr, subst}
use Rattle.std.specs.Prelude.{All, IfSome, OnSome, unwrap_or, is_some, if◌then◌else◌}
use Rattle.std.proofs.lemmas.Bool.{cases_Bool, cases_eq, both_ways}
use Rattle.std.proofs.lemmas.Option.{same_Some}
use Rattle.std.proofs.lemmas.List.Elements.{All-contains}
use Rattle.term_model.specs.Tree.{Tree, root, head_eq}
use Rattle.term_model.specs.declared.Head.{Head}
use Rattle.term_model.specs.declared.Row.{Row}
use Rattle.term_model.proofs.Equality.{head_eq_refl, head_eq_sound}
use Rattle.terms_api.specs.Terms.{Store, IsHeld, tree_at}
use Rattle.rewrite_model.specs.Rule.{Rule}
use Rattle.rule_match.specs.Planned.{Planned, IsPlan, match_at}
use Rattle.rule_match.specs.Groups.{head_at}
use Rattle.rule_match.proofs.Skipping.{none_at}
use Rattle.rule_automaton.specs.Shapes.{numbers, tests_at, variables_at, IsUnder}
use Rattle.rule_automaton.specs.Automata.{Made, first_match, IsAutomaton}
use Rattle.rule_automaton.specs.Rows.{rows_at}
use Rattle.rule_automaton.specs.Running.{asked, IsAnswer}
use Rattle.rule_automaton.specs.declared.shapes.Test.{Test}
use Rattle.innermost.specs.Tasks.{IsCandidateFor}
use Rattle.innermost.proofs.Passing.{has_head_at}

-- of so many rules from one on the first that matches
record IsFirst (rules : List Rule) (t : Tree) (from count r : ℕ) : Type 0 where
  low : from ≤ r
  high : r < from + count
  before : (k : ℕ) → from ≤ k → k < r → match_at rules k t ≡ None

first_is : (rules : List Rule) (t : Tree) (count from r : ℕ) → first_match rules t (numbers from count) ≡ Some r → IsFirst rules t from count r
first_is rules t zero from r e = cc
first_is rules t (suc count) from r e = go (match_at rules from t) refl (first_is rules t count (from + 1) r) e
  where
    go : (o : Option (List Tree)) → match_at rules from t ≡ o → (first_match rules t (numbers (from + 1) count) ≡ Some r → IsFirst rules t (from + 1) count r) → (if is_some o then Some from else first_match rules t (numbers (from + 1) count)) ≡ Some r → IsFirst rules t from (suc count) r
    go None m rest f =
        let it = rest f in
        record {
          low = (let l = it.low in omega (arith, l));
          high = (let h = it.high in omega (arith, h));
          before = λ k l h. elim (cases_eq k from) [
            | inl z ↦ subst (λ j. match_at rules j t ≡ None) (sym z) m
            | inr n ↦ it.before k (omega arith) h
          ];
        }
    go (Some ts) m rest f =
        let z : from ≡ r = same_Some from r f in
        record { low = omega (arith, z); high = omega (arith, z); before = λ k l h. absurd (omega (arith, z, l, h)) }

none_is : (rules : List Rule) (t : Tree) (count from : ℕ) → first_match rules t (numbers from count) ≡ None → (k : ℕ) → from ≤ k → k < from + count → match_at rules k t ≡ None
none_is rules t zero from e k l h = absurd (omega arith)
none_is rules t (suc count) from e k l h = go (match_at rules from t) refl (none_is rules t count (from + 1)) e
  where
    go : (o : Option (List Tree)) → match_at rules from t ≡ o → (first_match rules t (numbers (from + 1) count) ≡ None → (j : ℕ) → from + 1 ≤ j → j < from + 1 + count → match_at rules j t ≡ None) → (if is_some o then Some from else first_match rules t (numbers (from + 1) count)) ≡ None → match_at rules k t ≡ None
    go None m rest f = elim (cases_eq k from) [
      | inl z ↦ subst (λ j. match_at rules j t ≡ None) (sym z) m
      | inr n ↦ rest f k (omega arith) (omega arith)
    ]
    go (Some ts) m rest f = cc

-- a rule that matches has the tree's head
matched_head : (plan : Planned) (r : ℕ) (t : Tree) (h : Head) (ts : List Tree) → IsPlan plan → r < length plan.rules → root t ≡ Some h → match_at plan.rules r t ≡ Some ts → head_at plan.rules r ≡ root t
matched_head plan r t h ts is l e m =
    let g = has_head_at plan r is l in
    elim (cases_Bool (head_eq g.0 h)) [
      | inl same ↦ g.1 ∙ ap Some (head_eq_sound g.0 h same) ∙ sym e
      | inr other ↦ absurd (apart (sym m ∙ none_at plan.rules r h t is.rules (λ k. both_ways (head_eq g.0 h) other (ap (λ f. head_eq f h) (same_Some g.0 h (sym g.1 ∙ k)) ∙ head_eq_refl h)) e))
    ]
  where
    apart : Some ts ≡ None → ⊥
    apart k = cc

-- what the answer of an automaton says of the rules
pub record Finds (plan : Planned) (s : Store) (t : Tree) (from : ℕ) (found : Option ℕ) (rows : List Row) : Type 0 where
  pub found_is : IfSome found (λ r. (r < length plan.rules) × (match_at plan.rules r t ≡ Some (map (tree_at s) rows)))
  pub candidate : IsCandidateFor plan found t
  pub passed : (k : ℕ) → from ≤ k → k < unwrap_or found (length plan.rules) → match_at plan.rules k t ≡ None
  pub later : from ≤ unwrap_or found (length plan.rules)
  pub held : OnSome found (All (IsHeld s) rows)

pub finds_none : (plan : Planned) (a : Made) (s : Store) (places rows : List Row) (t : Tree) (from : ℕ) → from < length plan.rules → IsAnswer a s places (asked plan.rules t from) None → Finds plan s t from None rows
finds_none plan a s places rows t from l e =
    record {
      found_is = tt;
      candidate = tt;
      passed = λ k low high. none_is plan.rules t (length plan.rules - from) from e k low (omega arith);
      later = omega arith;
      held = tt;
    }

pub finds_some : (plan : Planned) (a : Made) (s : Store) (places rows : List Row) (t : Tree) (from r : ℕ) → IsPlan plan → from < length plan.rules → head_at plan.rules from ≡ root t → IsAnswer a s places (asked plan.rules t from) (Some r) → rows ≡ rows_at places (variables_at a.shapes r) → Finds plan s t from (Some r) rows
finds_some plan a s places rows t from r is l head e same =
    let first = first_is plan.rules t (length plan.rules - from) from r e.0 in
    let it = e.1 in
    let h = has_head_at plan from is l in
    let m : match_at plan.rules r t ≡ Some (map (tree_at s) rows) = it.bound ∙ ap (λ rs. Some (map (tree_at s) rs)) (sym same) in
    record {
      found_is = (it.rule, m);
      candidate = (it.rule, matched_head plan r t h.0 (map (tree_at s) rows) is it.rule (sym head ∙ h.1) m);
      passed = first.before;
      later = first.low;
      held = subst (All (IsHeld s)) (sym same) it.held;
    }

-- the places of a rule's variables are places of the automaton
pub variables_within : (rules : List Rule) (a : Made) (r size : ℕ) → IsAutomaton rules a → r < length a.shapes → a.places ≤ size → All (λ p. p < size) (variables_at a.shapes r)
variables_within rules a r size au l fits = λ k d i. go (get_or (variables_at a.shapes r) k d) ((au.starts.shapes.each r l).variables_under k d i)
  where
    go : (p : ℕ) → IsUnder (tests_at a.shapes r) p → p < size
    go p (inl z) = (let some = au.starts.readable.some in let places = au.starts.places in omega (arith, z, some, places, fits))
    go p (inr t) =
        let x = t.0 in
        let base = All-contains (λ (y : Test). au.starts.table.base_of y.place y.count ≡ Some y.base) (tests_at a.shapes r) x (au.starts.shapes.each r l).bases t.1 in
        let w = (au.starts.readable.within x.place x.count x.base base).1 in
        let b = (t.2).below in
        let places = au.starts.places in
        omega (arith, w, b, places, fits)
