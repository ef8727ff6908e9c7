use Rattle.std.proofs.Common.{◌≡◌, List, ◌++◌, ◌∷◌, [], map, sym, ◌∙◌, ap, subst, arith, Some, refl, rules}
use Rattle.std.specs.Prelude.{All}
use Rattle.term_model.specs.Tree.{root}
use Rattle.terms_api.specs.Terms.{Store, IsHeld, tree_at}
use Rattle.rule_match.specs.Planned.{match_at}
use Rattle.innermost.specs.declared.spots.Spot.{Spot}
use Rattle.innermost.specs.Walking.{IsWalking, IsFound, left_of}
use Rattle.innermost.proofs.Passing.{next_candidate}
use Rattle.innermost.proofs.Walks.{tries_no_room, tries_on, tries_found}
use Rattle.innermost.proofs.Lefts.{left_push, nodes_arguments}
use Rattle.innermost.proofs.walking.try_at.Goals as goal

pub returns-then-room-eq0 : goal.returns-then-room-eq0
returns-then-room-eq0 g c = record {
  state = λ depth root' e fuel.
      tries_no_room c.args.plan.now depth root' (g.T.Terms.store c.args.terms.now) c.args.spots.now.items c.args.row c.args.room e c.if-room-eq0.true fuel;
  smaller = search rules;
  spots_room = refl;
  matcher = refl;
  unchanged = refl;
  same = g.met.T.Terms.same_as_itself _;
}

pub find_rule-requires-clause-first : goal.find_rule-requires-clause-first
find_rule-requires-clause-first g c =
    next_candidate c.args.plan.now.rules c.head-head.result 0 c.first.result (tree_at (g.T.Terms.store c.head-head.new.self) c.args.row)
    (ap (λ (s : Store). root (tree_at s c.args.row)) c.head-head.ensures.unchanged ∙ c.head-head.ensures.head) c.first.ensures.first

pub returns-in-Some : goal.returns-in-Some
returns-in-Some g c = record {
  state = λ depth root' e.
      let plan = c.args.plan.now in
      let row = c.args.row in
      let rows = c.find_rule.new.self.rows in
      let u = c.head-head.ensures.unchanged in
      subst (λ (s : Store). IsFound plan depth root' s c.args.spots.now.items rows c.in-Some.rule c.args.room) (sym (c.find_rule.ensures.unchanged ∙ u))
      (tries_found plan depth root' (g.T.Terms.store c.args.terms.now) c.args.spots.now.items row c.args.room e (omega (arith, c.if-room-eq0.false)) c.head-head.result c.head-head.ensures.head c.first.result c.find_rule.result c.first.ensures.none
      (λ k l m. ap (λ (s : Store). match_at plan.rules k (tree_at s row)) (sym u) ∙ c.find_rule.ensures.passed k l m)
      c.in-Some.rule rows c.in-Some.is c.rules.ensures.plan c.in-Some.ensures.found.0
      (subst (λ (s : Store). match_at plan.rules c.in-Some.rule (tree_at s row) ≡ Some (map (tree_at s) rows)) u c.in-Some.ensures.found.1)
      (subst (λ (s : Store). All (IsHeld s) rows) u c.in-Some.ensures.held));
  smaller = search rules;
  spots_room = refl;
  matcher = c.find_rule.ensures.automaton;
  unchanged = c.find_rule.ensures.unchanged ∙ c.head-head.ensures.unchanged;
  same = g.met.T.Terms.same_in_turn _ _ _ c.head-head.ensures.same c.find_rule.ensures.same;
}

pub returns-in-None : goal.returns-in-None
returns-in-None g c =
    let now = g.T.Terms.store c.args.terms.now in
    let f : Spot = record { row = c.args.row; argument = 0; room = c.args.room } in
    let u : left_of (g.T.Terms.store c.find_rule.new.terms) c.push_reserved.new.self.items ≡ left_of now (c.args.spots.now.items ++ f ∷ []) = ap (λ (s : Store). left_of s c.push_reserved.new.self.items) (c.find_rule.ensures.unchanged ∙ c.head-head.ensures.unchanged) ∙ ap (left_of now) c.push_reserved.ensures.items in
    let p = left_push now c.args.spots.now.items f in
    let n = nodes_arguments (tree_at now c.args.row) in
    record {
      state = λ depth root' e.
          let plan = c.args.plan.now in
          let row = c.args.row in
          let u = c.head-head.ensures.unchanged in
          subst (λ (s : Store). IsWalking plan depth root' s c.push_reserved.new.self.items) (sym (c.find_rule.ensures.unchanged ∙ u))
          (subst (λ (fs : List Spot). IsWalking plan depth root' (g.T.Terms.store c.args.terms.now) fs) (sym c.push_reserved.ensures.items)
          (tries_on plan depth root' (g.T.Terms.store c.args.terms.now) c.args.spots.now.items row c.args.room e (omega (arith, c.if-room-eq0.false)) c.head-head.result c.head-head.ensures.head c.first.result c.find_rule.result c.first.ensures.none
          (λ k l m. ap (λ (s : Store). match_at plan.rules k (tree_at s row)) (sym u) ∙ c.find_rule.ensures.passed k l m)
          c.in-None.is));
      smaller = omega (arith, u, p, n);
      spots_room = c.push_reserved.ensures.capacity;
      matcher = c.find_rule.ensures.automaton;
      unchanged = c.find_rule.ensures.unchanged ∙ c.head-head.ensures.unchanged;
      same = g.met.T.Terms.same_in_turn _ _ _ c.head-head.ensures.same c.find_rule.ensures.same;
    }
