use Rattle.std.proofs.Common.{◌≡◌, ◌-◌, List, [], ◌∷◌, get_or, sym, ap, subst, refl, inl, inr, arith}
use Rattle.std.proofs.lemmas.Result.{err_from_is_err_and}
use Rattle.std.proofs.lemmas.List.{get_or_default}
use Rattle.term_model.specs.declared.Row.{Row}
use Rattle.term_model.specs.Tree.{Tree, Leaf}
use Rattle.rewrite_model.specs.Rule.{Rule}
use Rattle.innermost.specs.Instances.{IsBegun, IsInstance}
use Rattle.innermost.specs.Rebuilding.{IsRebuiltAll}
use Rattle.innermost.proofs.Points.{height}
use Rattle.innermost.proofs.Rewrites.{on_height, root_stands, no_fuel, right_site, right_begins, right_change, right_changes, rewritten}
use Rattle.innermost.proofs.outward.replace.Goals as goal

pub returns-then-parts-eq0 : goal.returns-then-parts-eq0
returns-then-parts-eq0 g c = record {
  state = λ run e.
      let d : Rule = record { left = Leaf 0; right = Leaf 0; conditions = []; vars = 0 } in
      let r = get_or c.args.plan.now.rules c.args.found.rule d in
      let q : r ≡ get_or c.args.plan.now.rules c.args.found.rule r = get_or_default c.args.plan.now.rules c.args.found.rule d r (e).found.within in
      no_fuel run c.args.plan.now c.args.depth c.args.parts.now.left (g.T.Terms.store c.args.terms.now) c.args.spots.now.items c.args.parts.now.matcher.rows c.args.found.rule c.args.found.room e r q c.if-parts-eq0.true;
  fault = tt;
  smaller = inr refl;
  frames_room = refl;
  matcher = refl;
  spots_room = refl;
  path_room = c.requires.path_room;
  window = c.requires.window;
  same = g.met.T.Terms.same_as_itself _;
}

pub right_of-right-requires : goal.right_of-right-requires
right_of-right-requires g c = let s = c.requires.state in s.1.found.within

pub instantiate-requires : goal.instantiate-requires
instantiate-requires g c =
    let s = c.requires.state in
    let d : Rule = record { left = Leaf 0; right = Leaf 0; conditions = []; vars = 0 } in
    let r = get_or c.args.plan.now.rules c.args.found.rule d in
    let q : r ≡ get_or c.args.plan.now.rules c.args.found.rule r = get_or_default c.args.plan.now.rules c.args.found.rule d r (s.1).found.within in
    let site = right_site s.0 c.args.plan.now c.args.depth c.args.parts.now.left (g.T.Terms.store c.args.terms.now) c.args.spots.now.items c.args.parts.now.matcher.rows c.args.found.rule c.args.found.room s.1 (c.args.parts.now.left - 1) (omega (arith, c.if-parts-eq0.false)) r q in
    let begun : IsBegun site (g.T.Terms.store c.args.terms.now) c.rows-rows.result.now c.right_of-right.result.now (c.args.found.room - 1) = subst (λ (rs : List Row). IsBegun site (g.T.Terms.store c.args.terms.now) rs c.right_of-right.result.now (c.args.found.room - 1)) (sym c.rows-rows.ensures) (subst (λ (p : Tree). IsBegun site (g.T.Terms.store c.args.terms.now) c.args.parts.now.matcher.rows p (c.args.found.room - 1)) (sym (c.right_of-right.ensures r q)) (right_begins s.0 c.args.plan.now c.args.depth c.args.parts.now.left (g.T.Terms.store c.args.terms.now) c.args.spots.now.items c.args.parts.now.matcher.rows c.args.found.rule c.args.found.room s.1 (c.args.parts.now.left - 1) (omega (arith, c.if-parts-eq0.false)) r q)) in
    let m = s.1.found.most in
    record {
      inside = c.requires.inside;
      plain = (c.args.plan.now.widest, begun.plain);
      limit = omega (arith, m);
      path_room = c.requires.path_room;
      window = c.requires.window;
      state = (site, begun);
    }

pub returns-in_err-instantiate : goal.returns-in_err-instantiate
returns-in_err-instantiate g c =
    let p = err_from_is_err_and c.from_residual.result c.from_residual.ensures.1 in
    record {
      state = rw p.1 tt;
      fault = rw (p.1, p.2) (λ run e.
          let d : Rule = record { left = Leaf 0; right = Leaf 0; conditions = []; vars = 0 } in
          let r = get_or c.args.plan.now.rules c.args.found.rule d in
          let q : r ≡ get_or c.args.plan.now.rules c.args.found.rule r = get_or_default c.args.plan.now.rules c.args.found.rule d r (e).found.within in
          let site = right_site run c.args.plan.now c.args.depth c.args.parts.now.left (g.T.Terms.store c.args.terms.now) c.args.spots.now.items c.args.parts.now.matcher.rows c.args.found.rule c.args.found.room e (c.args.parts.now.left - 1) (omega (arith, c.if-parts-eq0.false)) r q in
          let begun : IsBegun site (g.T.Terms.store c.args.terms.now) c.rows-rows.result.now c.right_of-right.result.now (c.args.found.room - 1) = subst (λ (rs : List Row). IsBegun site (g.T.Terms.store c.args.terms.now) rs c.right_of-right.result.now (c.args.found.room - 1)) (sym c.rows-rows.ensures) (subst (λ (p : Tree). IsBegun site (g.T.Terms.store c.args.terms.now) c.args.parts.now.matcher.rows p (c.args.found.room - 1)) (sym (c.right_of-right.ensures r q)) (right_begins run c.args.plan.now c.args.depth c.args.parts.now.left (g.T.Terms.store c.args.terms.now) c.args.spots.now.items c.args.parts.now.matcher.rows c.args.found.rule c.args.found.room e (c.args.parts.now.left - 1) (omega (arith, c.if-parts-eq0.false)) r q)) in
          c.in_err-instantiate.ensures.fault site begun);
      smaller = rw p.1 tt;
      frames_room = refl;
      matcher = refl;
      spots_room = refl;
      path_room = c.instantiate.ensures.path_room;
      window = c.instantiate.ensures.window;
      same = c.instantiate.ensures.same;
    }

pub returns-then-not-branch : goal.returns-then-not-branch
returns-then-not-branch g c = record {
  state = λ run e.
      let d : Rule = record { left = Leaf 0; right = Leaf 0; conditions = []; vars = 0 } in
      let r = get_or c.args.plan.now.rules c.args.found.rule d in
      let q : r ≡ get_or c.args.plan.now.rules c.args.found.rule r = get_or_default c.args.plan.now.rules c.args.found.rule d r (e).found.within in
      let site = right_site run c.args.plan.now c.args.depth c.args.parts.now.left (g.T.Terms.store c.args.terms.now) c.args.spots.now.items c.args.parts.now.matcher.rows c.args.found.rule c.args.found.room e (c.args.parts.now.left - 1) (omega (arith, c.if-parts-eq0.false)) r q in
      let begun : IsBegun site (g.T.Terms.store c.args.terms.now) c.rows-rows.result.now c.right_of-right.result.now (c.args.found.room - 1) = subst (λ (rs : List Row). IsBegun site (g.T.Terms.store c.args.terms.now) rs c.right_of-right.result.now (c.args.found.room - 1)) (sym c.rows-rows.ensures) (subst (λ (p : Tree). IsBegun site (g.T.Terms.store c.args.terms.now) c.args.parts.now.matcher.rows p (c.args.found.room - 1)) (sym (c.right_of-right.ensures r q)) (right_begins run c.args.plan.now c.args.depth c.args.parts.now.left (g.T.Terms.store c.args.terms.now) c.args.spots.now.items c.args.parts.now.matcher.rows c.args.found.rule c.args.found.room e (c.args.parts.now.left - 1) (omega (arith, c.if-parts-eq0.false)) r q)) in
      subst (λ b. IsInstance site (g.T.Terms.store c.instantiate.new.terms) b) c.if-not-branch.true (c.in_ok-instantiate.ensures.state site begun);
  fault = tt;
  smaller = inr refl;
  frames_room = refl;
  matcher = refl;
  spots_room = refl;
  path_room = c.instantiate.ensures.path_room;
  window = c.instantiate.ensures.window;
  same = c.instantiate.ensures.same;
}

pub rebuild-requires : goal.rebuild-requires
rebuild-requires g c =
    let s = c.requires.state in
    let d : Rule = record { left = Leaf 0; right = Leaf 0; conditions = []; vars = 0 } in
    let r = get_or c.args.plan.now.rules c.args.found.rule d in
    let q : r ≡ get_or c.args.plan.now.rules c.args.found.rule r = get_or_default c.args.plan.now.rules c.args.found.rule d r (s.1).found.within in
    let site = right_site s.0 c.args.plan.now c.args.depth c.args.parts.now.left (g.T.Terms.store c.args.terms.now) c.args.spots.now.items c.args.parts.now.matcher.rows c.args.found.rule c.args.found.room s.1 (c.args.parts.now.left - 1) (omega (arith, c.if-parts-eq0.false)) r q in
    let begun : IsBegun site (g.T.Terms.store c.args.terms.now) c.rows-rows.result.now c.right_of-right.result.now (c.args.found.room - 1) = subst (λ (rs : List Row). IsBegun site (g.T.Terms.store c.args.terms.now) rs c.right_of-right.result.now (c.args.found.room - 1)) (sym c.rows-rows.ensures) (subst (λ (p : Tree). IsBegun site (g.T.Terms.store c.args.terms.now) c.args.parts.now.matcher.rows p (c.args.found.room - 1)) (sym (c.right_of-right.ensures r q)) (right_begins s.0 c.args.plan.now c.args.depth c.args.parts.now.left (g.T.Terms.store c.args.terms.now) c.args.spots.now.items c.args.parts.now.matcher.rows c.args.found.rule c.args.found.room s.1 (c.args.parts.now.left - 1) (omega (arith, c.if-parts-eq0.false)) r q)) in
    let mid = g.T.Terms.store c.instantiate.new.terms in
    let change = right_change s.0 c.args.plan.now c.args.depth c.args.parts.now.left (g.T.Terms.store c.args.terms.now) c.args.spots.now.items c.args.parts.now.matcher.rows c.args.found.rule c.args.found.room s.1 (c.args.parts.now.left - 1) (omega (arith, c.if-parts-eq0.false)) r q in
    let made = subst (λ b. IsInstance site mid b) c.if-not-branch.false (c.in_ok-instantiate.ensures.state site begun) in
    let changed = right_changes s.0 c.args.plan.now c.args.depth c.args.parts.now.left (g.T.Terms.store c.args.terms.now) c.args.spots.now.items c.args.parts.now.matcher.rows c.args.found.rule c.args.found.room s.1 (c.args.parts.now.left - 1) (omega (arith, c.if-parts-eq0.false)) r q mid (c.in_ok-instantiate.ensures.keeps (s.1).on.tree (root_stands s.0 c.args.plan.now c.args.depth c.args.parts.now.left (g.T.Terms.store c.args.terms.now) (s.1).on)) made in
    record {
      inside = made.goes.stands.numbers.inside;
      state = (change, s.1.found.crumbs, made.tree, changed);
    }

pub returns-in_err-rebuild : goal.returns-in_err-rebuild
returns-in_err-rebuild g c =
    let p = err_from_is_err_and c.from_residual-in_err-rebuild.result c.from_residual-in_err-rebuild.ensures.1 in
    record {
      state = rw p.1 tt;
      fault = rw (p.1, p.2) (λ run e.
          let d : Rule = record { left = Leaf 0; right = Leaf 0; conditions = []; vars = 0 } in
          let r = get_or c.args.plan.now.rules c.args.found.rule d in
          let q : r ≡ get_or c.args.plan.now.rules c.args.found.rule r = get_or_default c.args.plan.now.rules c.args.found.rule d r (e).found.within in
          let site = right_site run c.args.plan.now c.args.depth c.args.parts.now.left (g.T.Terms.store c.args.terms.now) c.args.spots.now.items c.args.parts.now.matcher.rows c.args.found.rule c.args.found.room e (c.args.parts.now.left - 1) (omega (arith, c.if-parts-eq0.false)) r q in
          let begun : IsBegun site (g.T.Terms.store c.args.terms.now) c.rows-rows.result.now c.right_of-right.result.now (c.args.found.room - 1) = subst (λ (rs : List Row). IsBegun site (g.T.Terms.store c.args.terms.now) rs c.right_of-right.result.now (c.args.found.room - 1)) (sym c.rows-rows.ensures) (subst (λ (p : Tree). IsBegun site (g.T.Terms.store c.args.terms.now) c.args.parts.now.matcher.rows p (c.args.found.room - 1)) (sym (c.right_of-right.ensures r q)) (right_begins run c.args.plan.now c.args.depth c.args.parts.now.left (g.T.Terms.store c.args.terms.now) c.args.spots.now.items c.args.parts.now.matcher.rows c.args.found.rule c.args.found.room e (c.args.parts.now.left - 1) (omega (arith, c.if-parts-eq0.false)) r q)) in
          let mid = g.T.Terms.store c.instantiate.new.terms in
          let change = right_change run c.args.plan.now c.args.depth c.args.parts.now.left (g.T.Terms.store c.args.terms.now) c.args.spots.now.items c.args.parts.now.matcher.rows c.args.found.rule c.args.found.room e (c.args.parts.now.left - 1) (omega (arith, c.if-parts-eq0.false)) r q in
          let made = subst (λ b. IsInstance site mid b) c.if-not-branch.false (c.in_ok-instantiate.ensures.state site begun) in
          let changed = right_changes run c.args.plan.now c.args.depth c.args.parts.now.left (g.T.Terms.store c.args.terms.now) c.args.spots.now.items c.args.parts.now.matcher.rows c.args.found.rule c.args.found.room e (c.args.parts.now.left - 1) (omega (arith, c.if-parts-eq0.false)) r q mid (c.in_ok-instantiate.ensures.keeps (e).on.tree (root_stands run c.args.plan.now c.args.depth c.args.parts.now.left (g.T.Terms.store c.args.terms.now) (e).on)) made in
          c.in_err-rebuild.ensures.fault change e.found.crumbs made.tree changed);
      smaller = rw p.1 tt;
      frames_room = refl;
      matcher = refl;
      spots_room = c.rebuild.ensures.spots_room;
      path_room = c.instantiate.ensures.path_room;
      window = c.instantiate.ensures.window;
      same = g.met.T.Terms.same_in_turn _ _ _ c.instantiate.ensures.same c.rebuild.ensures.same;
    }

pub returns-then-not-branch-2 : goal.returns-then-not-branch-2
returns-then-not-branch-2 g c = record {
  state = λ run e.
      let d : Rule = record { left = Leaf 0; right = Leaf 0; conditions = []; vars = 0 } in
      let r = get_or c.args.plan.now.rules c.args.found.rule d in
      let q : r ≡ get_or c.args.plan.now.rules c.args.found.rule r = get_or_default c.args.plan.now.rules c.args.found.rule d r (e).found.within in
      let site = right_site run c.args.plan.now c.args.depth c.args.parts.now.left (g.T.Terms.store c.args.terms.now) c.args.spots.now.items c.args.parts.now.matcher.rows c.args.found.rule c.args.found.room e (c.args.parts.now.left - 1) (omega (arith, c.if-parts-eq0.false)) r q in
      let begun : IsBegun site (g.T.Terms.store c.args.terms.now) c.rows-rows.result.now c.right_of-right.result.now (c.args.found.room - 1) = subst (λ (rs : List Row). IsBegun site (g.T.Terms.store c.args.terms.now) rs c.right_of-right.result.now (c.args.found.room - 1)) (sym c.rows-rows.ensures) (subst (λ (p : Tree). IsBegun site (g.T.Terms.store c.args.terms.now) c.args.parts.now.matcher.rows p (c.args.found.room - 1)) (sym (c.right_of-right.ensures r q)) (right_begins run c.args.plan.now c.args.depth c.args.parts.now.left (g.T.Terms.store c.args.terms.now) c.args.spots.now.items c.args.parts.now.matcher.rows c.args.found.rule c.args.found.room e (c.args.parts.now.left - 1) (omega (arith, c.if-parts-eq0.false)) r q)) in
      let mid = g.T.Terms.store c.instantiate.new.terms in
      let change = right_change run c.args.plan.now c.args.depth c.args.parts.now.left (g.T.Terms.store c.args.terms.now) c.args.spots.now.items c.args.parts.now.matcher.rows c.args.found.rule c.args.found.room e (c.args.parts.now.left - 1) (omega (arith, c.if-parts-eq0.false)) r q in
      let made = subst (λ b. IsInstance site mid b) c.if-not-branch.false (c.in_ok-instantiate.ensures.state site begun) in
      let changed = right_changes run c.args.plan.now c.args.depth c.args.parts.now.left (g.T.Terms.store c.args.terms.now) c.args.spots.now.items c.args.parts.now.matcher.rows c.args.found.rule c.args.found.room e (c.args.parts.now.left - 1) (omega (arith, c.if-parts-eq0.false)) r q mid (c.in_ok-instantiate.ensures.keeps (e).on.tree (root_stands run c.args.plan.now c.args.depth c.args.parts.now.left (g.T.Terms.store c.args.terms.now) (e).on)) made in
      subst (λ b. IsRebuiltAll change (g.T.Terms.store c.rebuild.new.terms) b) c.if-not-branch-2.true (c.in_ok-rebuild.ensures.state change e.found.crumbs made.tree changed);
  fault = tt;
  smaller = inr refl;
  frames_room = refl;
  matcher = refl;
  spots_room = c.rebuild.ensures.spots_room;
  path_room = c.instantiate.ensures.path_room;
  window = c.instantiate.ensures.window;
  same = g.met.T.Terms.same_in_turn _ _ _ c.instantiate.ensures.same c.rebuild.ensures.same;
}

pub keep-requires : goal.keep-requires
keep-requires g c =
    let s = c.requires.state in
    let d : Rule = record { left = Leaf 0; right = Leaf 0; conditions = []; vars = 0 } in
    let r = get_or c.args.plan.now.rules c.args.found.rule d in
    let q : r ≡ get_or c.args.plan.now.rules c.args.found.rule r = get_or_default c.args.plan.now.rules c.args.found.rule d r (s.1).found.within in
    let site = right_site s.0 c.args.plan.now c.args.depth c.args.parts.now.left (g.T.Terms.store c.args.terms.now) c.args.spots.now.items c.args.parts.now.matcher.rows c.args.found.rule c.args.found.room s.1 (c.args.parts.now.left - 1) (omega (arith, c.if-parts-eq0.false)) r q in
    let begun : IsBegun site (g.T.Terms.store c.args.terms.now) c.rows-rows.result.now c.right_of-right.result.now (c.args.found.room - 1) = subst (λ (rs : List Row). IsBegun site (g.T.Terms.store c.args.terms.now) rs c.right_of-right.result.now (c.args.found.room - 1)) (sym c.rows-rows.ensures) (subst (λ (p : Tree). IsBegun site (g.T.Terms.store c.args.terms.now) c.args.parts.now.matcher.rows p (c.args.found.room - 1)) (sym (c.right_of-right.ensures r q)) (right_begins s.0 c.args.plan.now c.args.depth c.args.parts.now.left (g.T.Terms.store c.args.terms.now) c.args.spots.now.items c.args.parts.now.matcher.rows c.args.found.rule c.args.found.room s.1 (c.args.parts.now.left - 1) (omega (arith, c.if-parts-eq0.false)) r q)) in
    let mid = g.T.Terms.store c.instantiate.new.terms in
    let change = right_change s.0 c.args.plan.now c.args.depth c.args.parts.now.left (g.T.Terms.store c.args.terms.now) c.args.spots.now.items c.args.parts.now.matcher.rows c.args.found.rule c.args.found.room s.1 (c.args.parts.now.left - 1) (omega (arith, c.if-parts-eq0.false)) r q in
    let made = subst (λ b. IsInstance site mid b) c.if-not-branch.false (c.in_ok-instantiate.ensures.state site begun) in
    let changed = right_changes s.0 c.args.plan.now c.args.depth c.args.parts.now.left (g.T.Terms.store c.args.terms.now) c.args.spots.now.items c.args.parts.now.matcher.rows c.args.found.rule c.args.found.room s.1 (c.args.parts.now.left - 1) (omega (arith, c.if-parts-eq0.false)) r q mid (c.in_ok-instantiate.ensures.keeps (s.1).on.tree (root_stands s.0 c.args.plan.now c.args.depth c.args.parts.now.left (g.T.Terms.store c.args.terms.now) (s.1).on)) made in
    let all = subst (λ b. IsRebuiltAll change (g.T.Terms.store c.rebuild.new.terms) b) c.if-not-branch-2.false (c.in_ok-rebuild.ensures.state change s.1.found.crumbs made.tree changed) in
    let h = height (s.0).start (g.T.Terms.store c.rebuild.new.terms) (s.1.on.tree ∷ all.tree ∷ []) all.goes.stands.upper in
    let n = on_height s.0 c.args.plan.now c.args.depth c.args.parts.now.left (g.T.Terms.store c.args.terms.now) s.1.on in
    record {
      inside = (subst (λ b. IsRebuiltAll change (g.T.Terms.store c.rebuild.new.terms) b) c.if-not-branch-2.false (c.in_ok-rebuild.ensures.state change s.1.found.crumbs made.tree changed)).goes.stands.numbers.inside;
      places = omega (arith, h, n, c.depth-place.ensures.depth);
    }

pub returns : goal.returns
returns g c = record {
  state = λ run e.
      let d : Rule = record { left = Leaf 0; right = Leaf 0; conditions = []; vars = 0 } in
      let r = get_or c.args.plan.now.rules c.args.found.rule d in
      let q : r ≡ get_or c.args.plan.now.rules c.args.found.rule r = get_or_default c.args.plan.now.rules c.args.found.rule d r (e).found.within in
      let site = right_site run c.args.plan.now c.args.depth c.args.parts.now.left (g.T.Terms.store c.args.terms.now) c.args.spots.now.items c.args.parts.now.matcher.rows c.args.found.rule c.args.found.room e (c.args.parts.now.left - 1) (omega (arith, c.if-parts-eq0.false)) r q in
      let begun : IsBegun site (g.T.Terms.store c.args.terms.now) c.rows-rows.result.now c.right_of-right.result.now (c.args.found.room - 1) = subst (λ (rs : List Row). IsBegun site (g.T.Terms.store c.args.terms.now) rs c.right_of-right.result.now (c.args.found.room - 1)) (sym c.rows-rows.ensures) (subst (λ (p : Tree). IsBegun site (g.T.Terms.store c.args.terms.now) c.args.parts.now.matcher.rows p (c.args.found.room - 1)) (sym (c.right_of-right.ensures r q)) (right_begins run c.args.plan.now c.args.depth c.args.parts.now.left (g.T.Terms.store c.args.terms.now) c.args.spots.now.items c.args.parts.now.matcher.rows c.args.found.rule c.args.found.room e (c.args.parts.now.left - 1) (omega (arith, c.if-parts-eq0.false)) r q)) in
      let mid = g.T.Terms.store c.instantiate.new.terms in
      let change = right_change run c.args.plan.now c.args.depth c.args.parts.now.left (g.T.Terms.store c.args.terms.now) c.args.spots.now.items c.args.parts.now.matcher.rows c.args.found.rule c.args.found.room e (c.args.parts.now.left - 1) (omega (arith, c.if-parts-eq0.false)) r q in
      let made = subst (λ b. IsInstance site mid b) c.if-not-branch.false (c.in_ok-instantiate.ensures.state site begun) in
      let changed = right_changes run c.args.plan.now c.args.depth c.args.parts.now.left (g.T.Terms.store c.args.terms.now) c.args.spots.now.items c.args.parts.now.matcher.rows c.args.found.rule c.args.found.room e (c.args.parts.now.left - 1) (omega (arith, c.if-parts-eq0.false)) r q mid (c.in_ok-instantiate.ensures.keeps (e).on.tree (root_stands run c.args.plan.now c.args.depth c.args.parts.now.left (g.T.Terms.store c.args.terms.now) (e).on)) made in
      let all = subst (λ b. IsRebuiltAll change (g.T.Terms.store c.rebuild.new.terms) b) c.if-not-branch-2.false (c.in_ok-rebuild.ensures.state change e.found.crumbs made.tree changed) in
      rewritten run c.args.plan.now c.args.depth c.args.parts.now.left (g.T.Terms.store c.args.terms.now) c.args.spots.now.items c.args.parts.now.matcher.rows c.args.found.rule c.args.found.room e (c.args.parts.now.left - 1) (omega (arith, c.if-parts-eq0.false)) r q (g.T.Terms.store c.rebuild.new.terms) (g.T.Terms.store c.keep.new.self) (c.depth-place.result - 1) all (ap (λ k. k - 1) c.depth-place.ensures.depth) c.keep.ensures.kept c.keep.ensures.sound;
  fault = tt;
  smaller = inl (omega (arith, c.if-parts-eq0.false));
  frames_room = refl;
  matcher = refl;
  spots_room = c.rebuild.ensures.spots_room;
  path_room = c.instantiate.ensures.path_room;
  window = c.instantiate.ensures.window;
  same = g.met.T.Terms.same_in_turn _ _ _ (g.met.T.Terms.same_in_turn _ _ _ c.instantiate.ensures.same c.rebuild.ensures.same) c.keep.ensures.same;
}

pub overflow_sub-found : goal.overflow_sub-found
overflow_sub-found g c =
    let some = c.requires.state.1.found.some in
    omega (arith, some)
