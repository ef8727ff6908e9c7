use Rattle.std.proofs.Common.{◌≡◌, ◌-◌, length, sym, ◌∙◌, ap, subst, Some, arith, refl, inr}
use Rattle.std.specs.Prelude.{slice_get}
use Rattle.std.proofs.lemmas.Result.{IfOk-weaker, IfErr-weaker}
use Rattle.term_model.specs.Tree.{Tree}
use Rattle.terms_api.specs.Terms.{Store, tree_at}
use Rattle.rewrite_model.specs.Run.{done, ends, TooDeep}
use Rattle.rewrite_model.specs.Outermost.{Same, step}
use Rattle.innermost.specs.Outward.{Stops, Finishes}
use Rattle.innermost.specs.Walking.{IsFound}
use Rattle.innermost.specs.Rewriting.{IsReplacing}
use Rattle.innermost.proofs.Rewrites.{on_tree, on_stops, on_finishes, on_height}
use Rattle.terms_api.proofs.Callers.{held-stack}
use Rattle.innermost.proofs.outward.step.Goals as goal

pub replace-requires-clause-state : goal.replace-requires-clause-state
replace-requires-clause-state g c =
    let s = c.requires.state in
    let now = g.T.Terms.store c.args.terms.now in
    let at : slice_get now.stack (length now.stack - 1) ≡ Some c.at-row.result = subst (λ k. slice_get now.stack (k - 1) ≡ Some c.at-row.result) c.depth-place.ensures.depth c.at-row.ensures.row in
    let tree : tree_at (g.T.Terms.store c.at-row.new.self) c.at-row.result ≡ (s.1).tree = ap (λ (q : Store). tree_at q c.at-row.result) c.at-row.ensures.unchanged ∙ on_tree s.0 c.args.plan.now c.args.depth c.args.parts.now.left now s.1 c.at-row.result at in
    let found = subst (λ (t : Tree). IsFound c.args.plan.now c.args.depth t (g.T.Terms.store c.walk.new.terms) c.walk.new.spots.items c.walk.new.matcher.rows c.in-Found.rule c.in-Found.room) tree c.in-Found.ensures.state in
    let found' = subst (λ (q : Store). IsFound c.args.plan.now c.args.depth (s.1).tree q c.walk.new.spots.items c.walk.new.matcher.rows c.in-Found.rule c.in-Found.room) (c.walk.ensures.unchanged ∙ c.at-row.ensures.unchanged) found in
    let all : IsReplacing (s.0) c.args.plan.now c.args.depth c.args.parts.now.left now c.walk.new.spots.items c.walk.new.matcher.rows c.in-Found.rule c.in-Found.room = record { on = s.1; found = found' } in
    let replacing = subst (λ (q : Store). IsReplacing (s.0) c.args.plan.now c.args.depth c.args.parts.now.left q c.walk.new.spots.items c.walk.new.matcher.rows c.in-Found.rule c.in-Found.room) (sym (c.walk.ensures.unchanged ∙ c.at-row.ensures.unchanged)) all in
    (s.0, replacing)

pub returns-in-Found : goal.returns-in-Found
returns-in-Found g c = record {
  state = IfOk-weaker c.replace.result _ _ (λ end h run e.
      let now = g.T.Terms.store c.args.terms.now in
      let at : slice_get now.stack (length now.stack - 1) ≡ Some c.at-row.result = subst (λ k. slice_get now.stack (k - 1) ≡ Some c.at-row.result) c.depth-place.ensures.depth c.at-row.ensures.row in
      let tree : tree_at (g.T.Terms.store c.at-row.new.self) c.at-row.result ≡ (e).tree = ap (λ (q : Store). tree_at q c.at-row.result) c.at-row.ensures.unchanged ∙ on_tree run c.args.plan.now c.args.depth c.args.parts.now.left now e c.at-row.result at in
      let found = subst (λ (t : Tree). IsFound c.args.plan.now c.args.depth t (g.T.Terms.store c.walk.new.terms) c.walk.new.spots.items c.walk.new.matcher.rows c.in-Found.rule c.in-Found.room) tree c.in-Found.ensures.state in
      let found' = subst (λ (q : Store). IsFound c.args.plan.now c.args.depth (e).tree q c.walk.new.spots.items c.walk.new.matcher.rows c.in-Found.rule c.in-Found.room) (c.walk.ensures.unchanged ∙ c.at-row.ensures.unchanged) found in
      let all : IsReplacing (run) c.args.plan.now c.args.depth c.args.parts.now.left now c.walk.new.spots.items c.walk.new.matcher.rows c.in-Found.rule c.in-Found.room = record { on = e; found = found' } in
      let replacing = subst (λ (q : Store). IsReplacing (run) c.args.plan.now c.args.depth c.args.parts.now.left q c.walk.new.spots.items c.walk.new.matcher.rows c.in-Found.rule c.in-Found.room) (sym (c.walk.ensures.unchanged ∙ c.at-row.ensures.unchanged)) all in
      h run replacing) c.replace.ensures.state;
  fault = IfErr-weaker c.replace.result _ _ (λ fault h run e.
      let now = g.T.Terms.store c.args.terms.now in
      let at : slice_get now.stack (length now.stack - 1) ≡ Some c.at-row.result = subst (λ k. slice_get now.stack (k - 1) ≡ Some c.at-row.result) c.depth-place.ensures.depth c.at-row.ensures.row in
      let tree : tree_at (g.T.Terms.store c.at-row.new.self) c.at-row.result ≡ (e).tree = ap (λ (q : Store). tree_at q c.at-row.result) c.at-row.ensures.unchanged ∙ on_tree run c.args.plan.now c.args.depth c.args.parts.now.left now e c.at-row.result at in
      let found = subst (λ (t : Tree). IsFound c.args.plan.now c.args.depth t (g.T.Terms.store c.walk.new.terms) c.walk.new.spots.items c.walk.new.matcher.rows c.in-Found.rule c.in-Found.room) tree c.in-Found.ensures.state in
      let found' = subst (λ (q : Store). IsFound c.args.plan.now c.args.depth (e).tree q c.walk.new.spots.items c.walk.new.matcher.rows c.in-Found.rule c.in-Found.room) (c.walk.ensures.unchanged ∙ c.at-row.ensures.unchanged) found in
      let all : IsReplacing (run) c.args.plan.now c.args.depth c.args.parts.now.left now c.walk.new.spots.items c.walk.new.matcher.rows c.in-Found.rule c.in-Found.room = record { on = e; found = found' } in
      let replacing = subst (λ (q : Store). IsReplacing (run) c.args.plan.now c.args.depth c.args.parts.now.left q c.walk.new.spots.items c.walk.new.matcher.rows c.in-Found.rule c.in-Found.room) (sym (c.walk.ensures.unchanged ∙ c.at-row.ensures.unchanged)) all in
      h run replacing) c.replace.ensures.fault;
  smaller = c.replace.ensures.smaller;
  spots_room = c.replace.ensures.spots_room ∙ c.walk.ensures.spots_room;
  matcher = c.replace.ensures.matcher ∙ c.walk.ensures.matcher;
  frames_room = c.replace.ensures.frames_room;
  path_room = c.replace.ensures.path_room;
  window = c.replace.ensures.window;
  same = g.met.T.Terms.same_in_turn _ _ _ (g.met.T.Terms.same_in_turn _ _ _ c.at-row.ensures.same c.walk.ensures.same) c.replace.ensures.same;
}

pub returns-in-TooDeep : goal.returns-in-TooDeep
returns-in-TooDeep g c = record {
  state = λ run e.
      let now = g.T.Terms.store c.args.terms.now in
      let at : slice_get now.stack (length now.stack - 1) ≡ Some c.at-row.result = subst (λ k. slice_get now.stack (k - 1) ≡ Some c.at-row.result) c.depth-place.ensures.depth c.at-row.ensures.row in
      let tree : tree_at (g.T.Terms.store c.at-row.new.self) c.at-row.result ≡ (e).tree = ap (λ (q : Store). tree_at q c.at-row.result) c.at-row.ensures.unchanged ∙ on_tree run c.args.plan.now c.args.depth c.args.parts.now.left now e c.at-row.result at in
      let stop : step c.args.plan.now.rules e.tree c.args.parts.now.left c.args.depth ≡ ends TooDeep = subst (λ (t : Tree). step c.args.plan.now.rules t c.args.parts.now.left c.args.depth ≡ ends TooDeep) tree (c.in-TooDeep.ensures.state c.args.parts.now.left) in
      subst (λ (q : Store). Stops run.start q run.whole TooDeep) (sym (c.walk.ensures.unchanged ∙ c.at-row.ensures.unchanged)) (on_stops run c.args.plan.now c.args.depth c.args.parts.now.left now e stop);
  fault = tt;
  smaller = inr refl;
  spots_room = c.walk.ensures.spots_room;
  matcher = c.walk.ensures.matcher;
  frames_room = refl;
  path_room = c.requires.path_room;
  window = c.requires.window;
  same = g.met.T.Terms.same_in_turn _ _ _ c.at-row.ensures.same c.walk.ensures.same;
}

pub returns-in-Same : goal.returns-in-Same
returns-in-Same g c = record {
  state = λ run e.
      let now = g.T.Terms.store c.args.terms.now in
      let at : slice_get now.stack (length now.stack - 1) ≡ Some c.at-row.result = subst (λ k. slice_get now.stack (k - 1) ≡ Some c.at-row.result) c.depth-place.ensures.depth c.at-row.ensures.row in
      let tree : tree_at (g.T.Terms.store c.at-row.new.self) c.at-row.result ≡ (e).tree = ap (λ (q : Store). tree_at q c.at-row.result) c.at-row.ensures.unchanged ∙ on_tree run c.args.plan.now c.args.depth c.args.parts.now.left now e c.at-row.result at in
      let same : step c.args.plan.now.rules e.tree c.args.parts.now.left c.args.depth ≡ done Same c.args.parts.now.left = subst (λ (t : Tree). step c.args.plan.now.rules t c.args.parts.now.left c.args.depth ≡ done Same c.args.parts.now.left) tree (c.in-Same.ensures.state c.args.parts.now.left) in
      subst (λ (q : Store). Finishes run.start q run.whole c.args.parts.now.left) (sym (c.walk.ensures.unchanged ∙ c.at-row.ensures.unchanged)) (on_finishes run c.args.plan.now c.args.depth c.args.parts.now.left now e same);
  fault = tt;
  smaller = inr refl;
  spots_room = c.walk.ensures.spots_room;
  matcher = c.walk.ensures.matcher;
  frames_room = refl;
  path_room = c.requires.path_room;
  window = c.requires.window;
  same = g.met.T.Terms.same_in_turn _ _ _ c.at-row.ensures.same c.walk.ensures.same;
}

pub unreachable-requires : goal.unreachable-requires
unreachable-requires g c = c.walk.ensures.on c.in-On.is

pub overflow_sub-place : goal.overflow_sub-place
overflow_sub-place g c =
    let s = c.requires.state in
    omega (arith, c.depth-place.ensures.depth, on_height s.0 c.args.plan.now c.args.depth c.args.parts.now.left (g.T.Terms.store c.args.terms.now) s.1)

pub at-row-requires : goal.at-row-requires
at-row-requires g c =
    let s = c.requires.state in
    record {
      inside = c.requires.inside;
      place = omega (arith, c.depth-place.ensures.depth, on_height s.0 c.args.plan.now c.args.depth c.args.parts.now.left (g.T.Terms.store c.args.terms.now) s.1);
    }

pub walk-requires-clause-held : goal.walk-requires-clause-held
walk-requires-clause-held g c =
    let at = c.at-row.ensures in
    held-stack (g.T.Terms.store c.at-row.new.self) _ c.at-row.result at.sound (ap (λ (q : Store). slice_get q.stack (c.depth-place.result - 1)) at.unchanged ∙ at.row)
