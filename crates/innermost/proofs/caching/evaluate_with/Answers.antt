use Rattle.std.proofs.Common.{◌∙◌, subst, arith, refl, ℕ, ◌≤◌, sym}
use Rattle.std.proofs.lemmas.Result.{err_from_is_err_and}
use Rattle.innermost.specs.declared.normal.Normal.{Normal}
use Rattle.innermost.specs.Caching.{CachesNext}
use Rattle.innermost.proofs.Evaluations.{evaluation_begins}
use Rattle.innermost.proofs.Cachings.{caching_begins, caching_end, caching_inside, caching_all}
use Rattle.rule_automaton.specs.Automata.{IsAutomaton}
use Rattle.innermost.proofs.caching.evaluate_with.Goals as goal

pub nodes-init : goal.nodes-init
nodes-init g c =
    let n = c.node_count-count.ensures.nodes in
    let fits = c.node_count-count.type_inv in
    let now = g.T.Terms.store c.args.terms.now in
    record {
      within = omega arith;
      inside = c.requires.inside;
      frames_room = refl;
      matcher = refl;
      path_room = c.requires.path_room;
      window = c.requires.window;
      shows = λ i low high l. absurd (omega (arith, n, fits, low, high));
      state = caching_begins c.args.rules.now.plan.now c.args.rules.now.code.now now c.args.term.now c.args.parts.now.left (g.M.Memo.map c.args.memo.now) c.args.epoch.now 0 c.args.parts.now.left now
          (evaluation_begins c.args.rules.now.plan.now c.args.rules.now.code.now c.args.term.now c.args.parts.now.left now c.requires.ready c.depth.ensures.sound c.requires.inside c.requires.no_variables c.requires.plain) c.requires.memory;
      same = g.met.T.Terms.same_as_itself _;
    }

pub returns-in_err-end : goal.returns-in_err-end
returns-in_err-end g c =
    let p = err_from_is_err_and c.from_residual.result c.from_residual.ensures.1 in
    record {
      state = rw p.1 tt;
      fault = rw (p.1, p.2) (c.in_err-end.ensures.fault _ _ c.nodes.invariant.state);
      frames_room = c.cache_node.ensures.frames_room ∙ c.nodes.invariant.frames_room;
      matcher = c.cache_node.ensures.matcher ∙ c.nodes.invariant.matcher;
      path_room = c.depth_at-down.ensures.room;
      window = c.depth_at-down.ensures.some;
      same = g.met.T.Terms.same_in_turn _ _ _ c.nodes.invariant.same c.cache_node.ensures.same;
    }

pub returns-in_default : goal.returns-in_default
returns-in_default g c =
    let i = c.nodes.invariant in
    let e = c.in_ok-end.ensures in
    let now = g.T.Terms.store c.cache_node.new.terms in
    let start = g.T.Terms.store c.args.terms.now in
    record {
      state = caching_end c.args.rules.now.plan.now c.args.rules.now.code.now start c.args.term.now c.args.parts.now.left (g.M.Memo.map c.cache_node.new.memo) c.cache_node.new.epoch c.nodes.at now c.in_ok-end.end (e.state start c.args.parts.now.left i.state) c.in_default.not-Value;
      fault = tt;
      frames_room = e.frames_room ∙ i.frames_room;
      matcher = e.matcher ∙ i.matcher;
      path_room = c.depth_at-down.ensures.room;
      window = c.depth_at-down.ensures.some;
      same = g.met.T.Terms.same_in_turn _ _ _ i.same e.same;
    }

pub nodes-preserved : goal.nodes-preserved
nodes-preserved g c =
    let i = c.nodes.invariant in
    let e = c.in_ok-end.ensures in
    let now = g.T.Terms.store c.cache_node.new.terms in
    let start = g.T.Terms.store c.args.terms.now in
    let s = e.state start c.args.parts.now.left i.state in
    record {
      within = omega (arith, c.node_count-count.ensures.nodes, c.nodes-test.true);
      inside = caching_inside c.args.rules.now.plan.now c.args.rules.now.code.now start c.args.term.now c.args.parts.now.left (g.M.Memo.map c.cache_node.new.memo) c.cache_node.new.epoch c.nodes.at now c.in_ok-end.end s;
      frames_room = e.frames_room ∙ i.frames_room;
      matcher = e.matcher ∙ i.matcher;
      path_room = c.depth_at-down.ensures.room;
      window = c.depth_at-down.ensures.some;
      shows = c.depth_at-down.ensures.shows;
      state = subst (λ (end : Normal). CachesNext c.args.rules.now.plan.now c.args.rules.now.code.now start c.args.term.now c.args.parts.now.left (g.M.Memo.map c.cache_node.new.memo) c.cache_node.new.epoch c.nodes.at now end) c.in-Value.is s;
      same = g.met.T.Terms.same_in_turn _ _ _ i.same e.same;
    }

pub returns : goal.returns
returns g c = record {
  state = caching_all c.args.rules.now.plan.now c.args.rules.now.code.now (g.T.Terms.store c.args.terms.now) c.args.term.now c.args.parts.now.left (g.M.Memo.map c.nodes.memo) c.nodes.epoch c.nodes.at c.nodes.parts.left (g.T.Terms.store c.nodes.terms) (omega (arith, c.node_count-count.ensures.nodes, c.nodes-test.false)) c.nodes.invariant.within c.nodes.invariant.state;
  fault = tt;
  frames_room = c.nodes.invariant.frames_room;
  matcher = c.nodes.invariant.matcher;
  path_room = c.nodes.invariant.path_room;
  window = c.nodes.invariant.window;
  same = c.nodes.invariant.same;
}

pub depth_at-down-requires : goal.depth_at-down-requires
depth_at-down-requires g c = record {
  plain = (c.args.rules.now.plan.now.widest, c.requires.plain);
  node = omega (arith, c.node_count-count.ensures.nodes, c.nodes-test.true);
  some = c.nodes.invariant.window;
  room = c.nodes.invariant.path_room;
  shows = c.nodes.invariant.shows;
}

pub cache_node-requires : goal.cache_node-requires
cache_node-requires g c = record {
  inside = c.nodes.invariant.inside;
  frames_room = subst (λ (n : ℕ). c.args.rules.now.code.now.depth ≤ n) (sym c.nodes.invariant.frames_room) c.requires.frames_room;
  matcher = subst (IsAutomaton c.args.rules.now.plan.now.rules) (sym c.nodes.invariant.matcher) c.requires.matcher;
  node = omega (arith, c.node_count-count.ensures.nodes, c.nodes-test.true);
  no_variables = c.requires.no_variables;
  plain = c.requires.plain;
  down = c.depth_at-down.ensures.depth;
  state = (_, _, c.nodes.invariant.state);
}
