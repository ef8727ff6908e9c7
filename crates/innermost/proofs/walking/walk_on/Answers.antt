use Rattle.std.proofs.Common.{◌≡◌, ◌+◌, List, length, sym, ◌∙◌, ap, subst, arith, Some, refl}
use Rattle.std.specs.Prelude.{slice_get}
use Rattle.term_model.specs.Tree.{arguments, nodes}
use Rattle.terms_api.specs.Terms.{Store, IsHeld, tree_at}
use Rattle.innermost.specs.declared.spots.Spot.{Spot}
use Rattle.innermost.specs.Walking.{IsWalking, IsTrying, left_of}
use Rattle.innermost.proofs.Walks.{last_held, walk_leaves, walk_goes_in}
use Rattle.innermost.proofs.Lefts.{left_push, nodes_drop}
use Rattle.innermost.proofs.walking.walk_on.Goals as goal

pub returns-then-spot-count : goal.returns-then-spot-count
returns-then-spot-count g c =
    let now = g.T.Terms.store c.args.terms.now in
    let u = ap (λ (s : Store). left_of s c.pop.new.self.items) c.count.ensures.unchanged in
    let i = ap (left_of now) c.in-Some.ensures.items in
    let p = left_push now c.pop.new.self.items c.in-Some.spot in
    record {
      state = λ depth root w.
          subst (λ (s : Store). IsWalking c.args.plan.now depth root s c.pop.new.self.items) (sym c.count.ensures.unchanged)
          (walk_leaves c.args.plan.now depth root (g.T.Terms.store c.args.terms.now) c.args.spots.now.items c.pop.new.self.items c.in-Some.spot c.in-Some.ensures.items w (omega (arith, c.count.ensures.count, c.if-spot-count.true)));
      smaller = omega (arith, u, i, p);
      spots_room = c.pop.ensures.capacity;
      matcher = refl;
      unchanged = c.count.ensures.unchanged;
      same = c.count.ensures.same;
    }

pub try_at-requires : goal.try_at-requires
try_at-requires g c =
    let s = c.requires.state in
    let now = g.T.Terms.store c.args.terms.now in
    record {
      inside = ap (λ (q : Store). q.inside) (c.child-argument.ensures.unchanged ∙ c.count.ensures.unchanged) ∙ c.requires.inside;
      matcher = c.requires.matcher;
      state = let u = c.child-argument.ensures.unchanged ∙ c.count.ensures.unchanged in (
        s.0,
        s.1,
        omega (arith, s.2, c.push_reserved.ensures.capacity, c.in-Some.ensures.capacity),
        subst (λ (q : Store). IsTrying c.args.plan.now s.0 s.1 q c.push_reserved.new.self.items c.child-argument.result c.saturating_sub.result) (sym u)
            (subst (λ (fs : List Spot). IsTrying c.args.plan.now s.0 s.1 now fs c.child-argument.result c.saturating_sub.result) (sym c.push_reserved.ensures.items)
            (walk_goes_in c.args.plan.now s.0 s.1 now c.args.spots.now.items c.pop.new.self.items c.in-Some.spot c.in-Some.ensures.items s.3 c.child-argument.result c.saturating_sub.result
            (omega (arith, c.count.ensures.count, c.if-spot-count.false))
            (subst (λ (q : Store). IsHeld q c.child-argument.result) c.count.ensures.unchanged c.child-argument.ensures.held)
            (subst (λ (q : Store). slice_get (arguments (tree_at q c.in-Some.spot.row)) c.in-Some.spot.argument ≡ Some (tree_at q c.child-argument.result)) c.count.ensures.unchanged c.child-argument.ensures.tree)
            c.saturating_sub.ensures)),
      );
    }

pub returns : goal.returns
returns g c =
    let now = g.T.Terms.store c.args.terms.now in
    let f = c.in-Some.spot in
    let fs = c.pop.new.self.items in
    let new : Spot = record { row = f.row; argument = f.argument + 1; room = f.room } in
    let u = c.child-argument.ensures.unchanged ∙ c.count.ensures.unchanged in
    let a = ap (λ (s : Store). left_of s c.push_reserved.new.self.items) u in
    let b = ap (left_of now) c.push_reserved.ensures.items in
    let p = left_push now fs new in
    let q = left_push now fs f in
    let i = ap (left_of now) c.in-Some.ensures.items in
    let at : slice_get (arguments (tree_at now f.row)) f.argument ≡ Some (tree_at now c.child-argument.result) = subst (λ (s : Store). slice_get (arguments (tree_at s f.row)) f.argument ≡ Some (tree_at s c.child-argument.result)) c.count.ensures.unchanged c.child-argument.ensures.tree in
    let n = nodes_drop (arguments (tree_at now f.row)) f.argument (tree_at now c.child-argument.result) at in
    let t = ap (λ (s : Store). nodes (tree_at s c.child-argument.result)) u in
    record {
      state = λ depth root w.
          let now = g.T.Terms.store c.args.terms.now in
          let u = c.child-argument.ensures.unchanged ∙ c.count.ensures.unchanged in
          c.try_at.ensures.state depth root
          (subst (λ (q : Store). IsTrying c.args.plan.now depth root q c.push_reserved.new.self.items c.child-argument.result c.saturating_sub.result) (sym u)
          (subst (λ (fs : List Spot). IsTrying c.args.plan.now depth root now fs c.child-argument.result c.saturating_sub.result) (sym c.push_reserved.ensures.items)
          (walk_goes_in c.args.plan.now depth root now c.args.spots.now.items c.pop.new.self.items c.in-Some.spot c.in-Some.ensures.items w c.child-argument.result c.saturating_sub.result
          (omega (arith, c.count.ensures.count, c.if-spot-count.false))
          (subst (λ (q : Store). IsHeld q c.child-argument.result) c.count.ensures.unchanged c.child-argument.ensures.held)
          (subst (λ (q : Store). slice_get (arguments (tree_at q c.in-Some.spot.row)) c.in-Some.spot.argument ≡ Some (tree_at q c.child-argument.result)) c.count.ensures.unchanged c.child-argument.ensures.tree)
          c.saturating_sub.ensures)));
      smaller = omega (arith, c.try_at.ensures.smaller, a, b, p, q, i, n, t);
      spots_room = c.try_at.ensures.spots_room ∙ c.push_reserved.ensures.capacity ∙ c.pop.ensures.capacity;
      matcher = c.try_at.ensures.matcher;
      unchanged = c.try_at.ensures.unchanged ∙ c.child-argument.ensures.unchanged ∙ c.count.ensures.unchanged;
      same = g.met.T.Terms.same_in_turn _ _ _ (g.met.T.Terms.same_in_turn _ _ _ c.count.ensures.same c.child-argument.ensures.same) c.try_at.ensures.same;
    }

pub returns-in_default-clause-same : goal.returns-in_default-clause-same
returns-in_default-clause-same g c = g.met.T.Terms.same_as_itself _

pub count-requires : goal.count-requires
count-requires g c =
    let s = c.requires.state in
    let now = g.T.Terms.store c.args.terms.now in
    let held = last_held c.args.plan.now s.0 s.1 now c.args.spots.now.items c.pop.new.self.items c.in-Some.spot c.in-Some.ensures.items s.3 in
    record {
      inside = c.requires.inside;
      held = held;
    }

pub child-argument-requires : goal.child-argument-requires
child-argument-requires g c =
    let s = c.requires.state in
    let now = g.T.Terms.store c.args.terms.now in
    let held = last_held c.args.plan.now s.0 s.1 now c.args.spots.now.items c.pop.new.self.items c.in-Some.spot c.in-Some.ensures.items s.3 in
    let n = ap (λ (q : Store). length (arguments (tree_at q c.in-Some.spot.row))) c.count.ensures.unchanged in
    record {
      inside = ap (λ (q : Store). q.inside) c.count.ensures.unchanged ∙ c.requires.inside;
      held = subst (λ (q : Store). IsHeld q c.in-Some.spot.row) (sym c.count.ensures.unchanged) held;
      below = omega (arith, n, c.count.ensures.count, c.if-spot-count.false);
    }
