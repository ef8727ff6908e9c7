use Rattle.std.proofs.Common.{◌≡◌, ◌-◌, ap, ◌∙◌, arith}
use Rattle.terms_api.specs.Terms.{trees}
use Rattle.term_building.proofs.Lists.{rolled, all_left, next_of, next_rolled}
use Rattle.term_building.proofs.building.build_list.Goals as goal

pub loop-cell-init : goal.loop-cell-init
loop-cell-init g c =
    let ts = trees (g.T.Terms.store c.args.store.now) in
    let all : c.args.count ≡ c.args.count - 0 = omega arith in
    record {
      inside = c.build_empty.ensures.inside;
      wide = c.build_empty.ensures.wide;
      same = c.build_empty.ensures.same;
      rolled = all_left ts (trees (g.T.Terms.store c.build_empty.new.store)) c.args.count c.requires.there c.in_ok-build_empty.ensures.built ∙ ap (rolled ts c.args.count) all;
    }

pub build_cell-requires-clause-cell : goal.build_cell-requires-clause-cell
build_cell-requires-clause-cell g c =
    next_of (trees (g.T.Terms.store c.args.store.now)) (trees (g.T.Terms.store c.loop-cell.store)) c.args.count c.loop-cell._cell c.requires.there c.loop-cell-test.true c.loop-cell.invariant.rolled

pub loop-cell-preserved : goal.loop-cell-preserved
loop-cell-preserved g c =
    let i = c.loop-cell.invariant in
    let ts = trees (g.T.Terms.store c.args.store.now) in
    let now = trees (g.T.Terms.store c.loop-cell.store) in
    record {
      inside = c.build_cell.ensures.inside;
      wide = c.build_cell.ensures.wide ∙ i.wide;
      same = g.met.T.Terms.same_in_turn _ _ _ i.same c.build_cell.ensures.same;
      rolled =
          c.in_ok-build_cell.ensures.built (next_of ts now c.args.count c.loop-cell._cell c.requires.there c.loop-cell-test.true i.rolled)
          ∙ next_rolled ts now c.args.count c.loop-cell._cell c.requires.there c.loop-cell-test.true i.rolled;
    }

pub returns : goal.returns
returns g c =
    let i = c.loop-cell.invariant in
    let ts = trees (g.T.Terms.store c.args.store.now) in
    let none : c.args.count - c.loop-cell._cell ≡ 0 = omega (arith, c.loop-cell-test.false) in
    record {
      built = i.rolled ∙ ap (rolled ts c.args.count) none;
      inside = i.inside;
      wide = i.wide;
      same = i.same;
    }
