use Rattle.std.proofs.Common.{◌≡◌, ◌<◌, List, length, map, sym, ◌∙◌, ap, subst, Some}
use Rattle.std.specs.Prelude.{All}
use Rattle.term_model.specs.declared.Row.{Row}
use Rattle.terms_api.specs.Terms.{IsHeld, tree_at}
use Rattle.rule_match.specs.Planned.{match_at}
use Rattle.rule_automaton.specs.Rows.{rows_at}
use Rattle.innermost.specs.Matchers.{Matching, bound_rows}
use Rattle.innermost.proofs.matcher.Matcher.find_rule.Goals as goal

pub returns-in_default : goal.returns-in_default
returns-in_default g c =
    let e = c.in_default.ensures in
    record {
      found = tt;
      candidate = tt;
      passed = e.passed;
      later = e.later;
      held = tt;
      automaton = e.automaton;
      unchanged = e.unchanged;
      same = c.find.ensures.same;
    }

pub returns : goal.returns
returns g c =
    let plan = c.args.plan.now in
    let s = g.T.Terms.store c.args.terms.now in
    let rule = c.in-Some.rule in
    let e = c.in-Some.ensures in
    let is : c.copy_rows.new.bound.items ≡ bound_rows c.find.new.self rule =
    c.copy_rows.ensures.rows ∙ ap (λ rs. rows_at rs c.variables-variables.result.now) c.rows.ensures ∙ ap (λ ps. rows_at c.self.inside.places.rows.items ps) c.variables-variables.ensures ∙ ap (λ (m : Matching). bound_rows m rule) c.self.view_is in
    record {
      found = subst (λ (rs : List Row). (rule < length plan.rules) × (match_at plan.rules rule (tree_at s c.args.row) ≡ Some (map (tree_at s) rs))) (sym is) e.found;
      candidate = e.candidate;
      passed = e.passed;
      later = e.later;
      held = subst (All (IsHeld s)) (sym is) e.held;
      automaton = ap (λ (m : Matching). m.automaton) c.self.view_is ∙ e.automaton;
      unchanged = e.unchanged;
      same = c.find.ensures.same;
    }
