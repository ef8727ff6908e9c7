use Rattle.std.proofs.Common.{List, ◌∙◌, subst}
use Rattle.std.proofs.lemmas.Result.{err_from_is_err_and}
use Rattle.innermost.specs.Rebuilding.{Change, IsRebuilt}
use Rattle.innermost.specs.Walking.{Crumb}
use Rattle.term_model.specs.Tree.{Tree}
use Rattle.innermost.specs.Rebuilding.{IsChanged}
use Rattle.innermost.proofs.Changes.{way_splits}
use Rattle.innermost.proofs.rebuilding.rebuild.Goals as goal

pub build_again-requires : goal.build_again-requires
build_again-requires g c =
    let s = c.requires.state in
    let q = c.spots.invariant.state s.0 s.1 s.2 s.3 in
    let v = way_splits s.0 q.0 q.1 (g.T.Terms.store c.spots.terms) c.spots.spots.items c.pop.new.self.items c.in-Some.spot c.in-Some.ensures.items q.2 in
    record {
      inside = c.spots.invariant.inside;
      state = (s.0, v.0, v.1, q.1, c.pop.new.self.items, v.2);
    }

pub returns-in_err-build_again : goal.returns-in_err-build_again
returns-in_err-build_again g c =
    let p = err_from_is_err_and c.from_residual.result c.from_residual.ensures.1 in
    record {
      state = rw p.1 tt;
      fault = rw (p.1, p.2) (λ change way tree e.
          let q = c.spots.invariant.state change way tree e in
          let v = way_splits change q.0 q.1 (g.T.Terms.store c.spots.terms) c.spots.spots.items c.pop.new.self.items c.in-Some.spot c.in-Some.ensures.items q.2 in
          c.in_err-build_again.ensures.fault change v.0 v.1 q.1 c.pop.new.self.items v.2);
      spots_room = c.pop.ensures.capacity ∙ c.spots.invariant.spots_room;
      same = g.met.T.Terms.same_in_turn _ _ _ c.spots.invariant.same c.build_again.ensures.same;
    }

pub returns-then-not-branch : goal.returns-then-not-branch
returns-then-not-branch g c = record {
  state = λ change way tree e.
      let q = c.spots.invariant.state change way tree e in
      let v = way_splits change q.0 q.1 (g.T.Terms.store c.spots.terms) c.spots.spots.items c.pop.new.self.items c.in-Some.spot c.in-Some.ensures.items q.2 in
      subst (λ b. IsRebuilt change v.1 (g.T.Terms.store c.build_again.new.terms) c.pop.new.self.items b) c.if-not-branch.true (c.in_ok-build_again.ensures.state change v.0 v.1 q.1 c.pop.new.self.items v.2);
  fault = tt;
  spots_room = c.pop.ensures.capacity ∙ c.spots.invariant.spots_room;
  same = g.met.T.Terms.same_in_turn _ _ _ c.spots.invariant.same c.build_again.ensures.same;
}

pub spots-preserved : goal.spots-preserved
spots-preserved g c =
    let s = c.requires.state in
    let i = c.spots.invariant in
    let new = g.T.Terms.store c.build_again.new.terms in
    let go : (change : Change) (way : List Crumb) (tree : Tree) → IsChanged change way tree (g.T.Terms.store c.args.terms.now) c.args.spots.now.items → (w : List Crumb) × (t : Tree) × IsChanged change w t new c.pop.new.self.items =
    (λ change way tree e.
    let q = i.state change way tree e in
    let v = way_splits change q.0 q.1 (g.T.Terms.store c.spots.terms) c.spots.spots.items c.pop.new.self.items c.in-Some.spot c.in-Some.ensures.items q.2 in
    let r = subst (λ b. IsRebuilt change v.1 new c.pop.new.self.items b) c.if-not-branch.false (c.in_ok-build_again.ensures.state change v.0 v.1 q.1 c.pop.new.self.items v.2) in
    (v.1, r.0, r.1)) in
    record {
      inside = (go s.0 s.1 s.2 s.3).2.goes.stands.numbers.inside;
      spots_room = c.pop.ensures.capacity ∙ i.spots_room;
      state = go;
      same = g.met.T.Terms.same_in_turn _ _ _ i.same c.in_ok-build_again.ensures.same;
    }

pub returns-clause-same : goal.returns-clause-same
returns-clause-same g c = c.spots.invariant.same
