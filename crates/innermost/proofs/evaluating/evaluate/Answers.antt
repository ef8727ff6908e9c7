use Rattle.std.proofs.Common.{◌∙◌, subst, arith, refl, ℕ, ◌≤◌, sym}
use Rattle.std.proofs.lemmas.Result.{err_from_is_err_and}
use Rattle.innermost.specs.declared.normal.Normal.{Normal}
use Rattle.innermost.specs.Evaluating.{evaluation_of, IsEvaluated}
use Rattle.innermost.proofs.Evaluations.{evaluation_begins, evaluation_ends, evaluated_end, evaluated_inside}
use Rattle.rule_automaton.specs.Automata.{IsAutomaton}
use Rattle.innermost.proofs.evaluating.evaluate.Goals as goal

pub nodes-init : goal.nodes-init
nodes-init g c =
    let n = c.node_count-count.ensures.nodes in
    let fits = c.node_count-count.type_inv in
    record {
      within = omega arith;
      inside = c.requires.inside;
      frames_room = refl;
      matcher = refl;
      path_room = c.requires.path_room;
      window = c.requires.window;
      shows = λ i low high l. absurd (omega (arith, n, fits, low, high));
      state = evaluation_begins c.args.plan.now c.args.code.now c.args.term.now c.args.parts.now.left (g.T.Terms.store c.args.terms.now) c.requires.ready c.depth.ensures.sound c.requires.inside c.requires.no_variables c.requires.plain;
      same = g.met.T.Terms.same_as_itself _;
    }

pub returns-in_err-end : goal.returns-in_err-end
returns-in_err-end g c =
    let p = err_from_is_err_and c.from_residual.result c.from_residual.ensures.1 in
    record {
      state = rw p.1 tt;
      fault = rw (p.1, p.2) (c.in_err-end.ensures.fault _ c.nodes.invariant.state);
      frames_room = c.evaluate_node.ensures.frames_room ∙ c.nodes.invariant.frames_room;
      matcher = c.evaluate_node.ensures.matcher ∙ c.nodes.invariant.matcher;
      path_room = c.depth_at-down.ensures.room;
      window = c.depth_at-down.ensures.some;
      same = g.met.T.Terms.same_in_turn _ _ _ c.nodes.invariant.same c.evaluate_node.ensures.same;
    }

pub returns-in_default : goal.returns-in_default
returns-in_default g c =
    let i = c.nodes.invariant in
    let e = c.in_ok-end.ensures in
    let now = g.T.Terms.store c.evaluate_node.new.terms in
    let job = evaluation_of c.args.plan.now.rules c.args.term.now c.args.parts.now.left c.args.code.now.depth (g.T.Terms.store c.args.terms.now) in
    record {
      state = evaluated_end c.args.plan.now c.args.code.now job c.args.term.now c.nodes.at now c.in_ok-end.end (e.state job i.state) c.in_default.not-Value;
      fault = tt;
      frames_room = e.frames_room ∙ i.frames_room;
      matcher = e.matcher ∙ i.matcher;
      path_room = c.depth_at-down.ensures.room;
      window = c.depth_at-down.ensures.some;
      same = g.met.T.Terms.same_in_turn _ _ _ i.same e.same;
    }

pub nodes-preserved : goal.nodes-preserved
nodes-preserved g c =
    let i = c.nodes.invariant in
    let e = c.in_ok-end.ensures in
    let now = g.T.Terms.store c.evaluate_node.new.terms in
    let job = evaluation_of c.args.plan.now.rules c.args.term.now c.args.parts.now.left c.args.code.now.depth (g.T.Terms.store c.args.terms.now) in
    let s = e.state job i.state in
    record {
      within = omega (arith, c.node_count-count.ensures.nodes, c.nodes-test.true);
      inside = evaluated_inside c.args.plan.now c.args.code.now job c.args.term.now c.nodes.at now c.in_ok-end.end s;
      frames_room = e.frames_room ∙ i.frames_room;
      matcher = e.matcher ∙ i.matcher;
      path_room = c.depth_at-down.ensures.room;
      window = c.depth_at-down.ensures.some;
      shows = c.depth_at-down.ensures.shows;
      state = subst (λ (end : Normal). IsEvaluated c.args.plan.now c.args.code.now job c.args.term.now c.nodes.at now end) c.in-Value.is s;
      same = g.met.T.Terms.same_in_turn _ _ _ i.same e.same;
    }

pub returns : goal.returns
returns g c = record {
  state = evaluation_ends c.args.plan.now c.args.code.now c.args.term.now c.args.parts.now.left c.nodes.at c.nodes.parts.left (g.T.Terms.store c.args.terms.now) (g.T.Terms.store c.nodes.terms) c.requires.plain (omega (arith, c.node_count-count.ensures.nodes, c.nodes-test.false)) c.nodes.invariant.within c.nodes.invariant.state;
  fault = tt;
  frames_room = c.nodes.invariant.frames_room;
  matcher = c.nodes.invariant.matcher;
  path_room = c.nodes.invariant.path_room;
  window = c.nodes.invariant.window;
  same = c.nodes.invariant.same;
}

pub depth_at-down-requires : goal.depth_at-down-requires
depth_at-down-requires g c = record {
  plain = (c.args.plan.now.widest, c.requires.plain);
  node = omega (arith, c.node_count-count.ensures.nodes, c.nodes-test.true);
  some = c.nodes.invariant.window;
  room = c.nodes.invariant.path_room;
  shows = c.nodes.invariant.shows;
}

pub evaluate_node-requires : goal.evaluate_node-requires
evaluate_node-requires g c = record {
  inside = c.nodes.invariant.inside;
  frames_room = subst (λ (n : ℕ). c.args.code.now.depth ≤ n) (sym c.nodes.invariant.frames_room) c.requires.frames_room;
  matcher = subst (IsAutomaton c.args.plan.now.rules) (sym c.nodes.invariant.matcher) c.requires.matcher;
  node = omega (arith, c.node_count-count.ensures.nodes, c.nodes-test.true);
  no_variables = c.requires.no_variables;
  plain = c.requires.plain;
  down = c.depth_at-down.ensures.depth;
  state = (_, c.nodes.invariant.state);
}
