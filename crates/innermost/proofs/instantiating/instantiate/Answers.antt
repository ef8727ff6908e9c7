use Rattle.std.proofs.Common.{subst, arith}
use Rattle.innermost.specs.Instances.{HasBuilt}
use Rattle.innermost.proofs.Sites.{site_begins, site_ends, site_contains}
use Rattle.std.proofs.lemmas.Result.{err_from_is_err_and}
use Rattle.innermost.proofs.instantiating.instantiate.Goals as goal

pub nodes-init : goal.nodes-init
nodes-init g c =
    let n = c.node_count-count.ensures.nodes in
    let fits = c.node_count-count.type_inv in
    record {
      within = omega arith;
      inside = c.requires.inside;
      path_room = c.requires.path_room;
      window = c.requires.window;
      shows = λ i low high l. absurd (omega (arith, n, fits, low, high));
      state = λ site b. site_begins site (g.T.Terms.store c.args.terms.now) c.args.rows.now c.args.pattern.now c.args.room b;
      keeps = λ root k r t part h. h;
      same = g.met.T.Terms.same_as_itself _;
    }

pub returns-in_err-build_node : goal.returns-in_err-build_node
returns-in_err-build_node g c =
    let p = err_from_is_err_and c.from_residual.result c.from_residual.ensures.1 in
    record {
      state = rw p.1 tt;
      fault = rw (p.1, p.2) (λ site b. c.in_err-build_node.ensures.fault site (c.nodes.invariant.state site b));
      keeps = λ root k r t part h.
          let s = c.requires.state in
          let i = c.nodes.invariant in
          c.build_node.ensures.keeps root (site_contains s.0 (g.T.Terms.store c.args.terms.now) (g.T.Terms.store c.nodes.terms) c.args.rows.now c.args.pattern.now c.args.room c.nodes.at root s.1 (i.state s.0 s.1) k) r t part (i.keeps root k r t part h);
      path_room = c.depth_at-down.ensures.room;
      window = c.depth_at-down.ensures.some;
      same = g.met.T.Terms.same_in_turn _ _ _ c.nodes.invariant.same c.build_node.ensures.same;
    }

pub returns-then-not-branch : goal.returns-then-not-branch
returns-then-not-branch g c = record {
  state = λ site b.
      subst (λ x. HasBuilt site (g.T.Terms.store c.build_node.new.terms) c.args.rows.now c.args.pattern.now c.args.room c.nodes.at x) c.if-not-branch.true (c.in_ok-build_node.ensures.state site (c.nodes.invariant.state site b));
  fault = tt;
  keeps = λ root k r t part h.
      let s = c.requires.state in
      let i = c.nodes.invariant in
      c.build_node.ensures.keeps root (site_contains s.0 (g.T.Terms.store c.args.terms.now) (g.T.Terms.store c.nodes.terms) c.args.rows.now c.args.pattern.now c.args.room c.nodes.at root s.1 (i.state s.0 s.1) k) r t part (i.keeps root k r t part h);
  path_room = c.depth_at-down.ensures.room;
  window = c.depth_at-down.ensures.some;
  same = g.met.T.Terms.same_in_turn _ _ _ c.nodes.invariant.same c.build_node.ensures.same;
}

pub nodes-preserved : goal.nodes-preserved
nodes-preserved g c =
    let s = c.requires.state in
    let i = c.nodes.invariant in
    let new = g.T.Terms.store c.build_node.new.terms in
    record {
      within = omega (arith, c.node_count-count.ensures.nodes, c.nodes-test.true);
      inside = (subst (λ x. HasBuilt s.0 new c.args.rows.now c.args.pattern.now c.args.room c.nodes.at x) c.if-not-branch.false (c.in_ok-build_node.ensures.state s.0 (i.state s.0 s.1))).goes.stands.numbers.inside;
      path_room = c.depth_at-down.ensures.room;
      window = c.depth_at-down.ensures.some;
      shows = c.depth_at-down.ensures.shows;
      state = λ site b. subst (λ x. HasBuilt site new c.args.rows.now c.args.pattern.now c.args.room c.nodes.at x) c.if-not-branch.false (c.in_ok-build_node.ensures.state site (i.state site b));
      keeps = λ root k r t part h. c.build_node.ensures.keeps root (site_contains s.0 (g.T.Terms.store c.args.terms.now) (g.T.Terms.store c.nodes.terms) c.args.rows.now c.args.pattern.now c.args.room c.nodes.at root s.1 (i.state s.0 s.1) k) r t part (i.keeps root k r t part h);
      same = g.met.T.Terms.same_in_turn _ _ _ i.same c.in_ok-build_node.ensures.same;
    }

pub returns : goal.returns
returns g c = record {
  state = λ site b.
      site_ends site (g.T.Terms.store c.nodes.terms) c.args.rows.now c.args.pattern.now c.args.room c.nodes.at (omega (arith, c.node_count-count.ensures.nodes, c.nodes-test.false)) c.nodes.invariant.within (c.nodes.invariant.state site b);
  fault = tt;
  keeps = c.nodes.invariant.keeps;
  path_room = c.nodes.invariant.path_room;
  window = c.nodes.invariant.window;
  same = c.nodes.invariant.same;
}

pub depth_at-down-requires : goal.depth_at-down-requires
depth_at-down-requires g c = record {
  plain = c.requires.plain;
  node = omega (arith, c.node_count-count.ensures.nodes, c.nodes-test.true);
  some = c.nodes.invariant.window;
  room = c.nodes.invariant.path_room;
  shows = c.nodes.invariant.shows;
}

pub build_node-requires : goal.build_node-requires
build_node-requires g c = record {
  inside = c.nodes.invariant.inside;
  node = omega (arith, c.node_count-count.ensures.nodes, c.nodes-test.true);
  down = (c.args.limit, omega (arith, c.ranges.limit.fits), c.requires.limit, c.depth_at-down.ensures.depth);
  state = (c.requires.state.0, c.nodes.invariant.state c.requires.state.0 c.requires.state.1);
}
