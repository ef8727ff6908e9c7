use Rattle.std.proofs.Common.{◌∙◌, subst, arith, refl, Option}
use Rattle.std.proofs.lemmas.Result.{err_from_is_err_and}
use Rattle.innermost.specs.declared.normal.Normal.{Normal}
use Rattle.innermost.specs.Instances.{IsInstance}
use Rattle.innermost.specs.Rewriting.{GoesOn}
use Rattle.innermost.proofs.Rewrites.{whole_run, term_site, term_begins, term_stands}
use Rattle.innermost.proofs.outward.rewrite.Goals as goal

pub instantiate-requires-clause-state : goal.instantiate-requires-clause-state
instantiate-requires-clause-state g c = ((term_site c.args.plan.now c.args.term.now c.args.parts.now.left c.args.depth (g.T.Terms.store c.args.terms.now)), (term_begins c.args.plan.now c.args.term.now c.args.parts.now.left c.args.depth (g.T.Terms.store c.args.terms.now) c.requires.sound c.requires.inside c.requires.no_variables c.requires.plain c.requires.wide c.requires.free (omega (arith, c.ranges.depth.fits))))

pub returns-in_err-instantiate : goal.returns-in_err-instantiate
returns-in_err-instantiate g c =
    let p = err_from_is_err_and c.from_residual.result c.from_residual.ensures.1 in
    record {
      state = rw p.1 tt;
      fault = rw (p.1, p.2) (c.in_err-instantiate.ensures.fault (term_site c.args.plan.now c.args.term.now c.args.parts.now.left c.args.depth (g.T.Terms.store c.args.terms.now)) (term_begins c.args.plan.now c.args.term.now c.args.parts.now.left c.args.depth (g.T.Terms.store c.args.terms.now) c.requires.sound c.requires.inside c.requires.no_variables c.requires.plain c.requires.wide c.requires.free (omega (arith, c.ranges.depth.fits))));
      frames_room = refl;
      spots_room = refl;
      matcher = refl;
      path_room = c.instantiate.ensures.path_room;
      window = c.instantiate.ensures.window;
      same = c.instantiate.ensures.same;
    }

pub returns-then-not-branch : goal.returns-then-not-branch
returns-then-not-branch g c = record {
  state = subst (λ b. IsInstance (term_site c.args.plan.now c.args.term.now c.args.parts.now.left c.args.depth (g.T.Terms.store c.args.terms.now)) (g.T.Terms.store c.instantiate.new.terms) b) c.if-not-branch.true (c.in_ok-instantiate.ensures.state (term_site c.args.plan.now c.args.term.now c.args.parts.now.left c.args.depth (g.T.Terms.store c.args.terms.now)) (term_begins c.args.plan.now c.args.term.now c.args.parts.now.left c.args.depth (g.T.Terms.store c.args.terms.now) c.requires.sound c.requires.inside c.requires.no_variables c.requires.plain c.requires.wide c.requires.free (omega (arith, c.ranges.depth.fits))));
  fault = tt;
  frames_room = refl;
  spots_room = refl;
  matcher = refl;
  path_room = c.instantiate.ensures.path_room;
  window = c.instantiate.ensures.window;
  same = c.instantiate.ensures.same;
}

pub steps-init : goal.steps-init
steps-init g c =
    let mid = g.T.Terms.store c.instantiate.new.terms in
    let made = subst (λ b. IsInstance (term_site c.args.plan.now c.args.term.now c.args.parts.now.left c.args.depth (g.T.Terms.store c.args.terms.now)) mid b) c.if-not-branch.false (c.in_ok-instantiate.ensures.state (term_site c.args.plan.now c.args.term.now c.args.parts.now.left c.args.depth (g.T.Terms.store c.args.terms.now)) (term_begins c.args.plan.now c.args.term.now c.args.parts.now.left c.args.depth (g.T.Terms.store c.args.terms.now) c.requires.sound c.requires.inside c.requires.no_variables c.requires.plain c.requires.wide c.requires.free (omega (arith, c.ranges.depth.fits)))) in
    record {
      inside = made.goes.stands.numbers.inside;
      frames_room = refl;
      spots_room = refl;
      matcher = refl;
      path_room = c.in_ok-instantiate.ensures.path_room;
      window = c.in_ok-instantiate.ensures.window;
      state = term_stands c.args.plan.now c.args.term.now c.args.parts.now.left c.args.depth (g.T.Terms.store c.args.terms.now) mid c.rules.ensures.plan c.requires.wide c.requires.free (omega (arith, c.ranges.depth.fits)) made;
      same = c.in_ok-instantiate.ensures.same;
    }

pub returns-in_err-end : goal.returns-in_err-end
returns-in_err-end g c =
    let p = err_from_is_err_and c.from_residual-in_err-end.result c.from_residual-in_err-end.ensures.1 in
    record {
      state = rw p.1 tt;
      fault = rw (p.1, p.2) (c.in_err-end.ensures.fault (whole_run c.args.plan.now c.args.term.now c.args.parts.now.left c.args.depth (g.T.Terms.store c.args.terms.now)) c.steps.invariant.state);
      frames_room = c.step.ensures.frames_room ∙ c.steps.invariant.frames_room;
      spots_room = c.step.ensures.spots_room ∙ c.steps.invariant.spots_room;
      matcher = c.step.ensures.matcher ∙ c.steps.invariant.matcher;
      path_room = c.step.ensures.path_room;
      window = c.step.ensures.window;
      same = g.met.T.Terms.same_in_turn _ _ _ c.steps.invariant.same c.step.ensures.same;
    }

pub returns-in-Some : goal.returns-in-Some
returns-in-Some g c = record {
  state = subst (λ (o : Option Normal). GoesOn (whole_run c.args.plan.now c.args.term.now c.args.parts.now.left c.args.depth (g.T.Terms.store c.args.terms.now)) c.args.plan.now c.args.depth c.step.new.parts.left (g.T.Terms.store c.step.new.terms) o) c.in-Some.is (c.in_ok-end.ensures.state (whole_run c.args.plan.now c.args.term.now c.args.parts.now.left c.args.depth (g.T.Terms.store c.args.terms.now)) c.steps.invariant.state);
  fault = tt;
  frames_room = c.step.ensures.frames_room ∙ c.steps.invariant.frames_room;
  spots_room = c.step.ensures.spots_room ∙ c.steps.invariant.spots_room;
  matcher = c.step.ensures.matcher ∙ c.steps.invariant.matcher;
  path_room = c.step.ensures.path_room;
  window = c.step.ensures.window;
  same = g.met.T.Terms.same_in_turn _ _ _ c.steps.invariant.same c.step.ensures.same;
}

pub steps-preserved : goal.steps-preserved
steps-preserved g c =
    let i = c.steps.invariant in
    let e = c.in_ok-end.ensures in
    let on = subst (λ (o : Option Normal). GoesOn (whole_run c.args.plan.now c.args.term.now c.args.parts.now.left c.args.depth (g.T.Terms.store c.args.terms.now)) c.args.plan.now c.args.depth c.step.new.parts.left (g.T.Terms.store c.step.new.terms) o) c.in-None.is (e.state (whole_run c.args.plan.now c.args.term.now c.args.parts.now.left c.args.depth (g.T.Terms.store c.args.terms.now)) i.state) in
    record {
      inside = on.goes.stands.numbers.inside;
      frames_room = e.frames_room ∙ i.frames_room;
      spots_room = e.spots_room ∙ i.spots_room;
      matcher = e.matcher ∙ i.matcher;
      path_room = e.path_room;
      window = e.window;
      state = on;
      same = g.met.T.Terms.same_in_turn _ _ _ i.same e.same;
    }
