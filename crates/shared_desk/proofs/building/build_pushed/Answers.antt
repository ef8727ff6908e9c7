use Rattle.std.proofs.Common.{List, length, sym, subst, arith}
use Rattle.term_model.specs.declared.Row.{Row}
use Rattle.terms_api.specs.Terms.{MayBuild, NeedsPlace}
use Rattle.shared_desk.specs.Pass.{store}
use Rattle.shared_desk.specs.Desk.{Outcome}
use Rattle.shared_desk.proofs.Pushing.{pushed_in}
use Rattle.shared_desk.proofs.building.build_pushed.Goals as goal

pub put_all-requires : goal.put_all-requires
put_all-requires g c =
    let a = c.requires.room in
    let b = c.requires.inside.right.room in
    omega arith

pub build_late-requires : goal.build_late-requires
build_late-requires g c =
    let v = g.S.SharedPass.view c.args.pass.now in
    let r = c.requires in
    let n = length c.args.rows.now in
    let d = c.put_all.ensures in
    let e = sym d.items in
    record {
      inside = pushed_in v c.args.places.now c.put_all.new.self c.args.rows.now r.inside r.held r.room d.items d.room;
      may = subst (λ (zs : List Row). MayBuild (store v zs) c.args.head n) e r.may;
      place = subst (λ (zs : List Row). NeedsPlace (store v zs) n → ⊥) e r.place;
    }

pub returns : goal.returns
returns g c =
    let v = g.S.SharedPass.view c.args.pass.now in
    let w = g.S.SharedPass.view c.build_late.new.pass in
    let b = c.build_late.ensures in
    record {
      outcome = subst (λ (zs : List Row). Outcome v w zs c.build_late.new.places.items c.args.head (length c.args.rows.now) c.build_late.result) c.put_all.ensures.items b.outcome;
      inside = b.inside;
    }
