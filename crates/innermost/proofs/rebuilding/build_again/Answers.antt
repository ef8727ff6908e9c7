use Rattle.std.proofs.Common.{◌≡◌, ◌-◌, ◌<◌, ◌∷◌, [], length, take, drop, sym, ◌∙◌, ap, subst, arith, Some}
use Rattle.std.specs.Prelude.{slice_get}
use Rattle.std.proofs.lemmas.List.{length_push}
use Rattle.std.proofs.lemmas.Option.{same_Some}
use Rattle.std.proofs.lemmas.Result.{err_from_is_err_and}
use Rattle.term_model.specs.Tree.{arguments, root}
use Rattle.term_model.specs.declared.Head.{Head}
use Rattle.terms_api.specs.Terms.{Store, IsHeld, tree_at, kept, MayBuild}
use Rattle.terms_api.proofs.Callers.{held-has}
use Rattle.rewrite_model.specs.Run.{TooDeep}
use Rattle.innermost.specs.Building.{IsPointOver}
use Rattle.innermost.specs.Outward.{Stops}
use Rattle.innermost.specs.Rebuilding.{Pushes}
use Rattle.innermost.proofs.Points.{height}
use Rattle.innermost.proofs.Pushing.{pushes_height, pushes_kept, length_taken}
use Rattle.innermost.proofs.Changes.{tree_is, spot_held, now_height, again_stops, within_arguments, some_argument, again_places, mid_stands, mid_has, pushes_held, args, rebuilt, again_point, again_over}
use Rattle.innermost.proofs.Again.{top_has, stands3, may_again, again_fault, again_built}
use Rattle.innermost.proofs.rebuilding.build_again.Goals as goal

pub returns-then-spot-count : goal.returns-then-spot-count
returns-then-spot-count g c = record {
  state = λ change cr way tree spots e.
      let now = g.T.Terms.store c.args.terms.now in
      let f = c.args.spot in
      subst (λ (q : Store). Stops change.start q change.whole TooDeep) (sym c.count-count.ensures.unchanged) (again_stops change cr way tree now spots f e (omega (arith, c.count-count.ensures.count, c.if-spot-count.true)));
  fault = tt;
  same = c.count-count.ensures.same;
}

pub push_arguments-requires : goal.push_arguments-requires
push_arguments-requires g c =
    let now = g.T.Terms.store c.args.terms.now in
    let s = c.requires.state in
    let mid = g.T.Terms.store c.keep.new.self in
    let f = c.args.spot in
    let place : c.depth-place.result - 1 ≡ length now.stack - 1 = ap (λ k. k - 1) (c.depth-place.ensures.depth ∙ ap (λ (q : Store). length q.stack) (c.head-head.ensures.unchanged ∙ c.count-count.ensures.unchanged)) in
    let is : mid ≡ kept now (length now.stack - 1) 0 = c.keep.ensures.kept ∙ ap (λ (q : Store). kept q (c.depth-place.result - 1) 0) (c.at-changed.ensures.unchanged ∙ c.head-head.ensures.unchanged ∙ c.count-count.ensures.unchanged) ∙ ap (λ k. kept now k 0) place in
    let few : length (arguments (tree_at now f.row)) < f.room = omega (arith, c.count-count.ensures.count, c.if-spot-count.false) in
    let w = within_arguments s.0 s.1 s.2 s.3 now s.4 f s.5 in
    let one = some_argument s.0 s.1 s.2 s.3 now s.4 f s.5 in
    let suffice = again_places s.0 s.1 s.2 s.3 now s.4 f s.5 few in
    let mid_at = mid_stands s.0 s.1 s.2 s.3 now s.4 f s.5 few mid c.at-changed.result is c.keep.ensures.sound in
    let h = height (s.0).start mid ((s.0).root ∷ []) mid_at.upper in
    let r0 = ap (λ (q : Store). q.room) is in
    let n = ap (λ (q : Store). length (arguments (tree_at q f.row))) is in
    record {
      inside = ap (λ (q : Store). q.inside) c.keep.ensures.kept ∙ ap (λ (q : Store). q.inside) (c.at-changed.ensures.unchanged ∙ c.head-head.ensures.unchanged ∙ c.count-count.ensures.unchanged) ∙ c.requires.inside;
      held = subst (λ (q : Store). IsHeld q c.args.spot.row) (sym c.keep.ensures.kept) (subst (λ (q : Store). IsHeld q c.args.spot.row) (sym (c.at-changed.ensures.unchanged ∙ c.head-head.ensures.unchanged ∙ c.count-count.ensures.unchanged)) (spot_held s.0 s.1 s.2 s.3 now s.4 c.args.spot s.5));
      order = omega arith;
      within = omega (arith, w, n);
      places = omega (arith, w, one, suffice, h, r0);
      sound = c.keep.ensures.sound;
    }

pub put-requires : goal.put-requires
put-requires g c =
    let s = c.requires.state in
    let now = g.T.Terms.store c.args.terms.now in
    let mid = g.T.Terms.store c.keep.new.self in
    let f = c.args.spot in
    let place : c.depth-place.result - 1 ≡ length now.stack - 1 = ap (λ k. k - 1) (c.depth-place.ensures.depth ∙ ap (λ (q : Store). length q.stack) (c.head-head.ensures.unchanged ∙ c.count-count.ensures.unchanged)) in
    let is : mid ≡ kept now (length now.stack - 1) 0 = c.keep.ensures.kept ∙ ap (λ (q : Store). kept q (c.depth-place.result - 1) 0) (c.at-changed.ensures.unchanged ∙ c.head-head.ensures.unchanged ∙ c.count-count.ensures.unchanged) ∙ ap (λ k. kept now k 0) place in
    let top : slice_get now.stack (length now.stack - 1) ≡ Some c.at-changed.result = subst (λ k. slice_get now.stack k ≡ Some c.at-changed.result) place (subst (λ (q : Store). slice_get q.stack (c.depth-place.result - 1) ≡ Some c.at-changed.result) (c.head-head.ensures.unchanged ∙ c.count-count.ensures.unchanged) c.at-changed.ensures.row) in
    let few : length (arguments (tree_at now f.row)) < f.room = omega (arith, c.count-count.ensures.count, c.if-spot-count.false) in
    let s1 = g.T.Terms.store c.push_arguments.new.terms in
    let p1 = c.push_arguments.ensures.pushed in
    let w = within_arguments s.0 s.1 s.2 s.3 now s.4 f s.5 in
    let one = some_argument s.0 s.1 s.2 s.3 now s.4 f s.5 in
    let suffice = again_places s.0 s.1 s.2 s.3 now s.4 f s.5 few in
    let mid_at = mid_stands s.0 s.1 s.2 s.3 now s.4 f s.5 few mid c.at-changed.result is c.keep.ensures.sound in
    let h = height (s.0).start mid ((s.0).root ∷ []) mid_at.upper in
    let r0 = ap (λ (q : Store). q.room) is in
    let k = pushes_height mid s1 _ p1 in
    let t = length_taken (f.argument - 1 - 0) (drop 0 (arguments (tree_at mid f.row))) in
    record {
      inside = ap (λ (q : Store). q.inside) c.push_arguments.ensures.pushed.is ∙ ap (λ (q : Store). q.inside) c.keep.ensures.kept ∙ ap (λ (q : Store). q.inside) (c.at-changed.ensures.unchanged ∙ c.head-head.ensures.unchanged ∙ c.count-count.ensures.unchanged) ∙ c.requires.inside;
      held = held-has s1 c.at-changed.result s.3 (pushes_held mid s1 _ c.at-changed.result s.3 p1 (mid_has s.0 s.1 s.2 s.3 now s.4 f s.5 few mid c.at-changed.result is c.keep.ensures.sound c.at-changed.result s.3 (top_has s.0 s.1 s.2 s.3 now s.4 f s.5 c.at-changed.result top)));
      place = omega (arith, w, one, suffice, h, r0, k.0, k.1, t);
    }

pub push_arguments-requires-2 : goal.push_arguments-requires-2
push_arguments-requires-2 g c =
    let now = g.T.Terms.store c.args.terms.now in
    let s = c.requires.state in
    let mid = g.T.Terms.store c.keep.new.self in
    let f = c.args.spot in
    let place : c.depth-place.result - 1 ≡ length now.stack - 1 = ap (λ k. k - 1) (c.depth-place.ensures.depth ∙ ap (λ (q : Store). length q.stack) (c.head-head.ensures.unchanged ∙ c.count-count.ensures.unchanged)) in
    let is : mid ≡ kept now (length now.stack - 1) 0 = c.keep.ensures.kept ∙ ap (λ (q : Store). kept q (c.depth-place.result - 1) 0) (c.at-changed.ensures.unchanged ∙ c.head-head.ensures.unchanged ∙ c.count-count.ensures.unchanged) ∙ ap (λ k. kept now k 0) place in
    let few : length (arguments (tree_at now f.row)) < f.room = omega (arith, c.count-count.ensures.count, c.if-spot-count.false) in
    let w = within_arguments s.0 s.1 s.2 s.3 now s.4 f s.5 in
    let n = ap (λ (q : Store). length (arguments (tree_at q c.args.spot.row))) c.put.ensures.pushed ∙ ap (λ (q : Store). length (arguments (tree_at q c.args.spot.row))) c.push_arguments.ensures.pushed.is ∙ ap (λ (q : Store). length (arguments (tree_at q c.args.spot.row))) c.keep.ensures.kept ∙ ap (λ (q : Store). length (arguments (tree_at q c.args.spot.row))) (c.at-changed.ensures.unchanged ∙ c.head-head.ensures.unchanged ∙ c.count-count.ensures.unchanged) in
    let s1 = g.T.Terms.store c.push_arguments.new.terms in
    let p1 = c.push_arguments.ensures.pushed in
    let one = some_argument s.0 s.1 s.2 s.3 now s.4 f s.5 in
    let suffice = again_places s.0 s.1 s.2 s.3 now s.4 f s.5 few in
    let mid_at = mid_stands s.0 s.1 s.2 s.3 now s.4 f s.5 few mid c.at-changed.result is c.keep.ensures.sound in
    let h = height (s.0).start mid ((s.0).root ∷ []) mid_at.upper in
    let r0 = ap (λ (q : Store). q.room) is in
    let k = pushes_height mid s1 _ p1 in
    let t = length_taken (f.argument - 1 - 0) (drop 0 (arguments (tree_at mid f.row))) in
    let q1 = ap (λ (q : Store). length q.stack) c.put.ensures.pushed in
    let q2 = length_push s1.stack c.at-changed.result in
    let q3 = ap (λ (q : Store). q.room) c.put.ensures.pushed in
    record {
      inside = ap (λ (q : Store). q.inside) c.put.ensures.pushed ∙ ap (λ (q : Store). q.inside) c.push_arguments.ensures.pushed.is ∙ ap (λ (q : Store). q.inside) c.keep.ensures.kept ∙ ap (λ (q : Store). q.inside) (c.at-changed.ensures.unchanged ∙ c.head-head.ensures.unchanged ∙ c.count-count.ensures.unchanged) ∙ c.requires.inside;
      held = subst (λ (q : Store). IsHeld q c.args.spot.row) (sym c.put.ensures.pushed) (pushes_kept (g.T.Terms.store c.keep.new.self) (g.T.Terms.store c.push_arguments.new.terms) _ c.args.spot.row c.push_arguments.ensures.pushed (subst (λ (q : Store). IsHeld q c.args.spot.row) (sym c.keep.ensures.kept) (subst (λ (q : Store). IsHeld q c.args.spot.row) (sym (c.at-changed.ensures.unchanged ∙ c.head-head.ensures.unchanged ∙ c.count-count.ensures.unchanged)) (spot_held s.0 s.1 s.2 s.3 now s.4 c.args.spot s.5))));
      order = omega (arith, w, c.count-count.ensures.count);
      within = omega (arith, n, c.count-count.ensures.count);
      places = omega (arith, w, one, suffice, h, r0, k.0, k.1, t, q1, q2, q3, c.count-count.ensures.count);
      sound = c.put.ensures.sound;
    }

pub build_at-requires : goal.build_at-requires
build_at-requires g c =
    let s = c.requires.state in
    let now = g.T.Terms.store c.args.terms.now in
    let mid = g.T.Terms.store c.keep.new.self in
    let f = c.args.spot in
    let place : c.depth-place.result - 1 ≡ length now.stack - 1 = ap (λ k. k - 1) (c.depth-place.ensures.depth ∙ ap (λ (q : Store). length q.stack) (c.head-head.ensures.unchanged ∙ c.count-count.ensures.unchanged)) in
    let is : mid ≡ kept now (length now.stack - 1) 0 = c.keep.ensures.kept ∙ ap (λ (q : Store). kept q (c.depth-place.result - 1) 0) (c.at-changed.ensures.unchanged ∙ c.head-head.ensures.unchanged ∙ c.count-count.ensures.unchanged) ∙ ap (λ k. kept now k 0) place in
    let top : slice_get now.stack (length now.stack - 1) ≡ Some c.at-changed.result = subst (λ k. slice_get now.stack k ≡ Some c.at-changed.result) place (subst (λ (q : Store). slice_get q.stack (c.depth-place.result - 1) ≡ Some c.at-changed.result) (c.head-head.ensures.unchanged ∙ c.count-count.ensures.unchanged) c.at-changed.ensures.row) in
    let few : length (arguments (tree_at now f.row)) < f.room = omega (arith, c.count-count.ensures.count, c.if-spot-count.false) in
    let s1 = g.T.Terms.store c.push_arguments.new.terms in
    let p1 = c.push_arguments.ensures.pushed in
    let s2 = g.T.Terms.store c.put.new.self in
    let s3 = g.T.Terms.store c.push_arguments-2.new.terms in
    let a = f.argument in
    let p2 = c.put.ensures.pushed in
    let p3 = subst (λ m. Pushes s2 s3 (take (m - a) (drop a (arguments (tree_at s2 f.row))))) c.count-count.ensures.count c.push_arguments-2.ensures.pushed in
    let head : (s.1).head ≡ c.head-head.result = same_Some (s.1).head c.head-head.result (sym (ap root (tree_is s.0 s.1 s.2 s.3 now s.4 f s.5)) ∙ subst (λ (q : Store). root (tree_at q f.row) ≡ Some c.head-head.result) c.count-count.ensures.unchanged c.head-head.ensures.head) in
    let w = within_arguments s.0 s.1 s.2 s.3 now s.4 f s.5 in
    let one = some_argument s.0 s.1 s.2 s.3 now s.4 f s.5 in
    record {
      inside = ap (λ (q : Store). q.inside) c.push_arguments-2.ensures.pushed.is ∙ ap (λ (q : Store). q.inside) c.put.ensures.pushed ∙ ap (λ (q : Store). q.inside) c.push_arguments.ensures.pushed.is ∙ ap (λ (q : Store). q.inside) c.keep.ensures.kept ∙ ap (λ (q : Store). q.inside) (c.at-changed.ensures.unchanged ∙ c.head-head.ensures.unchanged ∙ c.count-count.ensures.unchanged) ∙ c.requires.inside;
      may = subst (λ (hd : Head). MayBuild s3 hd c.count-count.result) head (may_again s.0 s.1 s.2 s.3 now s.4 f s.5 few mid s1 s2 s3 c.at-changed.result is c.keep.ensures.sound c.push_arguments.ensures.sound c.put.ensures.sound c.push_arguments-2.ensures.sound top p1 p2 p3 c.count-count.result c.count-count.ensures.count);
      place = λ z. absurd (omega (arith, w, one, z, c.count-count.ensures.count));
    }

pub returns-in_err-build_at : goal.returns-in_err-build_at
returns-in_err-build_at g c =
    let p = err_from_is_err_and c.from_residual.result c.from_residual.ensures.1 in
    record {
      state = rw p.1 tt;
      fault = rw (p.1, p.2) (λ change cr way tree spots e.
          let now = g.T.Terms.store c.args.terms.now in
          let mid = g.T.Terms.store c.keep.new.self in
          let f = c.args.spot in
          let place : c.depth-place.result - 1 ≡ length now.stack - 1 = ap (λ k. k - 1) (c.depth-place.ensures.depth ∙ ap (λ (q : Store). length q.stack) (c.head-head.ensures.unchanged ∙ c.count-count.ensures.unchanged)) in
          let is : mid ≡ kept now (length now.stack - 1) 0 = c.keep.ensures.kept ∙ ap (λ (q : Store). kept q (c.depth-place.result - 1) 0) (c.at-changed.ensures.unchanged ∙ c.head-head.ensures.unchanged ∙ c.count-count.ensures.unchanged) ∙ ap (λ k. kept now k 0) place in
          let top : slice_get now.stack (length now.stack - 1) ≡ Some c.at-changed.result = subst (λ k. slice_get now.stack k ≡ Some c.at-changed.result) place (subst (λ (q : Store). slice_get q.stack (c.depth-place.result - 1) ≡ Some c.at-changed.result) (c.head-head.ensures.unchanged ∙ c.count-count.ensures.unchanged) c.at-changed.ensures.row) in
          let few : length (arguments (tree_at now f.row)) < f.room = omega (arith, c.count-count.ensures.count, c.if-spot-count.false) in
          let s1 = g.T.Terms.store c.push_arguments.new.terms in
          let p1 = c.push_arguments.ensures.pushed in
          let s2 = g.T.Terms.store c.put.new.self in
          let s3 = g.T.Terms.store c.push_arguments-2.new.terms in
          let a = f.argument in
          let p2 = c.put.ensures.pushed in
          let p3 = subst (λ m. Pushes s2 s3 (take (m - a) (drop a (arguments (tree_at s2 f.row))))) c.count-count.ensures.count c.push_arguments-2.ensures.pushed in
          let head : (cr).head ≡ c.head-head.result = same_Some (cr).head c.head-head.result (sym (ap root (tree_is change cr way tree now spots f e)) ∙ subst (λ (q : Store). root (tree_at q f.row) ≡ Some c.head-head.result) c.count-count.ensures.unchanged c.head-head.ensures.head) in
          again_fault change cr way tree now spots f e few mid s1 s2 s3 c.at-changed.result is c.keep.ensures.sound c.push_arguments.ensures.sound c.put.ensures.sound c.push_arguments-2.ensures.sound top p1 p2 p3 (g.T.Terms.store c.build_at.new.terms) c.in_err-build_at.field-0.0 (c.in_err-build_at.ensures.built change.start e.goes.points (change.root ∷ []) (args change cr way tree now spots f e) (again_point change cr way tree now spots f e few) (stands3 change cr way tree now spots f e few mid s1 s2 s3 c.at-changed.result is c.keep.ensures.sound c.push_arguments.ensures.sound c.put.ensures.sound c.push_arguments-2.ensures.sound top p1 p2 p3) (subst (λ (hd : Head). IsPointOver change.start (change.root ∷ []) (args change cr way tree now spots f e) hd c.count-count.result (again_point change cr way tree now spots f e few)) head (again_over change cr way tree now spots f e few c.count-count.result c.count-count.ensures.count))));
      same = (g.met.T.Terms.same_in_turn _ _ _ (g.met.T.Terms.same_in_turn _ _ _ (g.met.T.Terms.same_in_turn _ _ _ (g.met.T.Terms.same_in_turn _ _ _ (g.met.T.Terms.same_in_turn _ _ _ (g.met.T.Terms.same_in_turn _ _ _ (g.met.T.Terms.same_in_turn _ _ _ c.count-count.ensures.same c.head-head.ensures.same) c.at-changed.ensures.same) c.keep.ensures.same) c.push_arguments.ensures.same) c.put.ensures.same) c.push_arguments-2.ensures.same) c.build_at.ensures.same);
    }

pub returns : goal.returns
returns g c = record {
  state = λ change cr way tree spots e.
      let now = g.T.Terms.store c.args.terms.now in
      let mid = g.T.Terms.store c.keep.new.self in
      let f = c.args.spot in
      let place : c.depth-place.result - 1 ≡ length now.stack - 1 = ap (λ k. k - 1) (c.depth-place.ensures.depth ∙ ap (λ (q : Store). length q.stack) (c.head-head.ensures.unchanged ∙ c.count-count.ensures.unchanged)) in
      let is : mid ≡ kept now (length now.stack - 1) 0 = c.keep.ensures.kept ∙ ap (λ (q : Store). kept q (c.depth-place.result - 1) 0) (c.at-changed.ensures.unchanged ∙ c.head-head.ensures.unchanged ∙ c.count-count.ensures.unchanged) ∙ ap (λ k. kept now k 0) place in
      let top : slice_get now.stack (length now.stack - 1) ≡ Some c.at-changed.result = subst (λ k. slice_get now.stack k ≡ Some c.at-changed.result) place (subst (λ (q : Store). slice_get q.stack (c.depth-place.result - 1) ≡ Some c.at-changed.result) (c.head-head.ensures.unchanged ∙ c.count-count.ensures.unchanged) c.at-changed.ensures.row) in
      let few : length (arguments (tree_at now f.row)) < f.room = omega (arith, c.count-count.ensures.count, c.if-spot-count.false) in
      let s1 = g.T.Terms.store c.push_arguments.new.terms in
      let p1 = c.push_arguments.ensures.pushed in
      let s2 = g.T.Terms.store c.put.new.self in
      let s3 = g.T.Terms.store c.push_arguments-2.new.terms in
      let a = f.argument in
      let p2 = c.put.ensures.pushed in
      let p3 = subst (λ m. Pushes s2 s3 (take (m - a) (drop a (arguments (tree_at s2 f.row))))) c.count-count.ensures.count c.push_arguments-2.ensures.pushed in
      let head : (cr).head ≡ c.head-head.result = same_Some (cr).head c.head-head.result (sym (ap root (tree_is change cr way tree now spots f e)) ∙ subst (λ (q : Store). root (tree_at q f.row) ≡ Some c.head-head.result) c.count-count.ensures.unchanged c.head-head.ensures.head) in
      (rebuilt change cr way tree now spots f e, again_built change cr way tree now spots f e few mid s1 s2 s3 c.at-changed.result is c.keep.ensures.sound c.push_arguments.ensures.sound c.put.ensures.sound c.push_arguments-2.ensures.sound top p1 p2 p3 (g.T.Terms.store c.build_at.new.terms) (c.in_ok-build_at.ensures.built change.start e.goes.points (change.root ∷ []) (args change cr way tree now spots f e) (again_point change cr way tree now spots f e few) (stands3 change cr way tree now spots f e few mid s1 s2 s3 c.at-changed.result is c.keep.ensures.sound c.push_arguments.ensures.sound c.put.ensures.sound c.push_arguments-2.ensures.sound top p1 p2 p3) (subst (λ (hd : Head). IsPointOver change.start (change.root ∷ []) (args change cr way tree now spots f e) hd c.count-count.result (again_point change cr way tree now spots f e few)) head (again_over change cr way tree now spots f e few c.count-count.result c.count-count.ensures.count))) c.build_at.ensures.keeps);
  fault = tt;
  same = (g.met.T.Terms.same_in_turn _ _ _ (g.met.T.Terms.same_in_turn _ _ _ (g.met.T.Terms.same_in_turn _ _ _ (g.met.T.Terms.same_in_turn _ _ _ (g.met.T.Terms.same_in_turn _ _ _ (g.met.T.Terms.same_in_turn _ _ _ (g.met.T.Terms.same_in_turn _ _ _ c.count-count.ensures.same c.head-head.ensures.same) c.at-changed.ensures.same) c.keep.ensures.same) c.push_arguments.ensures.same) c.put.ensures.same) c.push_arguments-2.ensures.same) c.build_at.ensures.same);
}

pub count-count-requires : goal.count-count-requires
count-count-requires g c =
    let now = g.T.Terms.store c.args.terms.now in
    let s = c.requires.state in
    record {
      inside = c.requires.inside;
      held = spot_held s.0 s.1 s.2 s.3 now s.4 c.args.spot s.5;
    }

pub head-head-requires : goal.head-head-requires
head-head-requires g c =
    let now = g.T.Terms.store c.args.terms.now in
    let s = c.requires.state in
    record {
      inside = ap (λ (q : Store). q.inside) c.count-count.ensures.unchanged ∙ c.requires.inside;
      held = subst (λ (q : Store). IsHeld q c.args.spot.row) (sym c.count-count.ensures.unchanged) (spot_held s.0 s.1 s.2 s.3 now s.4 c.args.spot s.5);
    }

pub at-changed-requires : goal.at-changed-requires
at-changed-requires g c =
    let now = g.T.Terms.store c.args.terms.now in
    let s = c.requires.state in
    let u = ap (λ (q : Store). length q.stack) (c.head-head.ensures.unchanged ∙ c.count-count.ensures.unchanged) in
    let h = now_height s.0 s.1 s.2 s.3 now s.4 c.args.spot s.5 in
    record {
      inside = ap (λ (q : Store). q.inside) (c.head-head.ensures.unchanged ∙ c.count-count.ensures.unchanged) ∙ c.requires.inside;
      place = omega (arith, c.depth-place.ensures.depth, u, h);
    }

pub overflow_sub-place : goal.overflow_sub-place
overflow_sub-place g c =
    let now = g.T.Terms.store c.args.terms.now in
    let s = c.requires.state in
    let u = ap (λ (q : Store). length q.stack) (c.head-head.ensures.unchanged ∙ c.count-count.ensures.unchanged) in
    let h = now_height s.0 s.1 s.2 s.3 now s.4 c.args.spot s.5 in
    omega (arith, c.depth-place.ensures.depth, u, h)

pub keep-requires : goal.keep-requires
keep-requires g c =
    let v = ap (λ (q : Store). length q.stack) c.at-changed.ensures.unchanged in
    record {
      inside = ap (λ (q : Store). q.inside) (c.at-changed.ensures.unchanged ∙ c.head-head.ensures.unchanged ∙ c.count-count.ensures.unchanged) ∙ c.requires.inside;
      places = omega (arith, c.depth-place.ensures.depth, v);
    }

pub overflow_sub-spot : goal.overflow_sub-spot
overflow_sub-spot g c =
    let now = g.T.Terms.store c.args.terms.now in
    let s = c.requires.state in
    some_argument s.0 s.1 s.2 s.3 now s.4 c.args.spot s.5
