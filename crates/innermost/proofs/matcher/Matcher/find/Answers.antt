use Rattle.std.proofs.Common.{◌≡◌, ◌<◌, ℕ, length, Option, refl, sym, ap, subst, arith}
use Rattle.std.specs.Prelude.{unwrap_or}
use Rattle.terms_api.specs.Terms.{tree_at}
use Rattle.rule_automaton.specs.Automata.{IsAutomaton}
use Rattle.rule_automaton.specs.Rows.{rows_at}
use Rattle.rule_automaton.specs.Running.{made}
use Rattle.rule_automaton.specs.Shapes.{variables_at}
use Rattle.innermost.specs.Matchers.{Matching}
use Rattle.innermost.specs.Tasks.{IsCandidateFor}
use Rattle.innermost.proofs.Matchings.{finds_none, finds_some, variables_within}
use Rattle.innermost.proofs.matcher.Matcher.find.Goals as goal

pub returns-in_default-find_rule : goal.returns-in_default-find_rule
returns-in_default-find_rule g c =
    let plan = c.args.plan.now in
    let s = g.T.Terms.store c.args.terms.now in
    let t = tree_at s c.args.row in
    let cand = subst (λ (o : Option ℕ). IsCandidateFor plan o t) c.in-Some.is c.requires.first in
    let was : unwrap_or c.args.first (length plan.rules) ≡ c.in-Some.from = ap (λ (o : Option ℕ). unwrap_or o (length plan.rules)) c.in-Some.is in
    let f = finds_none plan (made c.self.inside.automaton) s c.find_rule.new.places.rows.items c.self.inside.rows.items t c.in-Some.from cand.0 c.in_default-find_rule.ensures.answer in
    let later = f.later in
    record {
      found = tt;
      candidate = tt;
      passed = λ k low high. f.passed k (omega (arith, was, low)) high;
      later = omega (arith, was, later);
      held = tt;
      placed = tt;
      automaton = ap (λ (m : Matching). m.automaton) c.self.view_is;
      unchanged = c.find_rule.ensures.unchanged;
      same = c.find_rule.ensures.same;
    }

pub returns : goal.returns
returns g c =
    let plan = c.args.plan.now in
    let rules = plan.rules in
    let s = g.T.Terms.store c.args.terms.now in
    let t = tree_at s c.args.row in
    let a = made c.self.inside.automaton in
    let places = c.find_rule.new.places.rows.items in
    let cand = subst (λ (o : Option ℕ). IsCandidateFor plan o t) c.in-Some.is c.requires.first in
    let was : unwrap_or c.args.first (length rules) ≡ c.in-Some.from = ap (λ (o : Option ℕ). unwrap_or o (length rules)) c.in-Some.is in
    let r = c.in-Some-find_rule.rule in
    let f = finds_some plan a s places (rows_at places (variables_at a.shapes r)) t c.in-Some.from r c.rules.ensures.plan cand.0 cand.1 c.in-Some-find_rule.ensures.answer refl in
    let later = f.later in
    let au = subst (IsAutomaton rules) (sym (ap (λ (m : Matching). m.automaton) c.self.view_is)) c.requires.automaton in
    let rule = c.in-Some-find_rule.ensures.answer.1.rule in
    let n = au.starts.shapes.count in
    let l : r < length a.shapes = omega (arith, rule, n) in
    record {
      found = f.found_is;
      candidate = f.candidate;
      passed = λ k low high. f.passed k (omega (arith, was, low)) high;
      later = omega (arith, was, later);
      held = f.held;
      placed = record {
        shape = l;
        within = variables_within rules a r (length places) au l (omega (arith, c.self.invariant.0, c.find_rule.ensures.places));
      };
      automaton = ap (λ (m : Matching). m.automaton) c.self.view_is;
      unchanged = c.find_rule.ensures.unchanged;
      same = c.find_rule.ensures.same;
    }

pub returns-in_default-clause-same : goal.returns-in_default-clause-same
returns-in_default-clause-same g c = g.met.T.Terms.same_as_itself _
