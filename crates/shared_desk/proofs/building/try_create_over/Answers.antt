use Rattle.std.proofs.Common.{◌++◌, ap, length, refl, sym, subst, arith}
use Rattle.terms_api.specs.Terms.{asked}
use Rattle.row_stack.specs.Places.{Places}
use Rattle.shared_desk.specs.Pass.{PassView, store}
use Rattle.shared_desk.specs.Desk.{IsIn}
use Rattle.shared_desk.proofs.Placing.{placed_in}
use Rattle.shared_desk.proofs.Pushing.{pushed_in, may_create_over, place_over, placed_over}
use Rattle.shared_desk.proofs.building.try_create_over.Goals as goal

pub create-requires : goal.create-requires
create-requires g c =
    let r = c.requires in
    record {
      shared = r.inside.shared;
      may = may_create_over (g.S.SharedPass.view c.args.pass.now) c.args.places.now c.args.rows.now c.args.head r.inside r.held r.room r.may;
    }

pub put-requires : goal.put-requires
put-requires g c =
    let r = c.requires in
    let there = place_over (g.S.SharedPass.view c.args.pass.now) c.args.places.now c.args.rows.now c.args.head r.inside r.held r.room r.may r.place in
    record { some = omega arith; room = omega (arith, there) }

pub returns-in-Ok : goal.returns-in-Ok
returns-in-Ok g c =
    let r = c.requires in
    let v = g.S.SharedPass.view c.args.pass.now in
    let w = g.S.SharedPass.view c.create.new.self in
    let p = c.args.places.now in
    let rs = c.args.rows.now in
    let got = c.in-Ok.ensures.got in
    let q : Places = record { items = p.items ++ rs; room = p.room } in
    let b = placed_over v w p rs c.put.new.self.items c.args.head c.in-Ok.row r.inside r.held r.room r.may r.place got c.create.ensures.sound c.put.ensures.items in
    record {
      placed = b;
      unchanged = tt;
      stack = tt;
      inside = placed_in v w q c.put.new.self (length rs) (asked (store v (p.items ++ rs)) c.args.head (length rs)) (pushed_in v p q rs r.inside r.held r.room refl refl) b
          (ap (λ (x : PassView). x.shared) got.rest) (ap (λ (x : PassView). x.alone) got.rest) c.put.ensures.room;
    }

pub returns-in-Err : goal.returns-in-Err
returns-in-Err g c =
    let e = c.in-Err.ensures.full in
    record {
      placed = tt;
      unchanged = e;
      stack = refl;
      inside = subst (λ (z : PassView). IsIn z c.args.places.now) (sym e) c.requires.inside;
    }
