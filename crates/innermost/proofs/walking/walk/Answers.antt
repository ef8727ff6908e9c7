use Rattle.std.proofs.Common.{List, refl, sym, ◌∙◌, ap, subst, arith}
use Rattle.terms_api.specs.Terms.{Store, tree_at}
use Rattle.innermost.specs.declared.spots.Spot.{Spot}
use Rattle.innermost.specs.declared.spots.Walk.{Walk}
use Rattle.innermost.specs.Walking.{IsTrying, IsWalk}
use Rattle.innermost.proofs.Walks.{walk_begins}
use Rattle.rule_automaton.specs.Automata.{IsAutomaton}
use Rattle.innermost.proofs.walking.walk.Goals as goal

pub try_at-found-requires : goal.try_at-found-requires
try_at-found-requires g c =
    let now = g.T.Terms.store c.args.terms.now in
    record {
      inside = c.requires.inside;
      matcher = c.requires.matcher;
      state = let t = tree_at now c.args.row in (
        c.args.depth,
        t,
        omega (arith, c.requires.spots_room, c.clear.ensures.capacity),
        subst (λ (fs : List Spot). IsTrying c.args.plan.now c.args.depth t now fs c.args.row c.args.depth) (sym c.clear.ensures.items) (walk_begins c.args.plan.now c.args.depth t now c.args.row c.requires.held refl),
      );
    }

pub walk-init : goal.walk-init
walk-init g c =
    let now = g.T.Terms.store c.args.terms.now in
    let t = tree_at now c.args.row in
    let e = c.try_at-found.ensures in
    record {
      inside = ap (λ (q : Store). q.inside) e.unchanged ∙ c.requires.inside;
      spots_room = e.spots_room ∙ c.clear.ensures.capacity;
      matcher = e.matcher;
      unchanged = e.unchanged;
      state = e.state c.args.depth t (subst (λ (fs : List Spot). IsTrying c.args.plan.now c.args.depth t now fs c.args.row c.args.depth) (sym c.clear.ensures.items) (walk_begins c.args.plan.now c.args.depth t now c.args.row c.requires.held refl));
      same = e.same;
    }

pub walk_on-found-requires : goal.walk_on-found-requires
walk_on-found-requires g c =
    let i = c.walk.invariant in
    record {
      inside = c.walk.invariant.inside;
      matcher = subst (IsAutomaton c.args.plan.now.rules) (sym c.walk.invariant.matcher) c.requires.matcher;
      state = let t = tree_at (g.T.Terms.store c.args.terms.now) c.args.row in (
        c.args.depth,
        t,
        omega (arith, c.requires.spots_room, i.spots_room),
        subst (λ (w : Walk). IsWalk c.args.plan.now c.args.depth t (g.T.Terms.store c.walk.terms) c.walk.spots.items c.walk.matcher.rows w) c.in-On.is i.state,
      );
    }

pub walk-preserved : goal.walk-preserved
walk-preserved g c =
    let i = c.walk.invariant in
    let e = c.walk_on-found.ensures in
    let t = tree_at (g.T.Terms.store c.args.terms.now) c.args.row in
    record {
      inside = ap (λ (q : Store). q.inside) e.unchanged ∙ i.inside;
      spots_room = e.spots_room ∙ i.spots_room;
      matcher = e.matcher ∙ i.matcher;
      unchanged = e.unchanged ∙ i.unchanged;
      state = e.state c.args.depth t (subst (λ (w : Walk). IsWalk c.args.plan.now c.args.depth t (g.T.Terms.store c.walk.terms) c.walk.spots.items c.walk.matcher.rows w) c.in-On.is i.state);
      same = g.met.T.Terms.same_in_turn _ _ _ i.same e.same;
    }
