use Rattle.std.proofs.Common.{List, ap, refl, sym, subst}
use Rattle.term_model.specs.declared.Row.{Row}
use Rattle.terms_api.specs.Terms.{asked}
use Rattle.shared_desk.specs.Pass.{PassView, store, MayCreate, Got}
use Rattle.shared_desk.specs.Desk.{IsIn}
use Rattle.shared_desk.proofs.Placing.{may_create, place_there, placed, placed_in}
use Rattle.shared_desk.proofs.building.try_create.Goals as goal

pub create-requires : goal.create-requires
create-requires g c =
    let v = g.S.SharedPass.view c.args.pass.now in
    let r = c.requires in
    record {
      shared = r.inside.shared;
      may = subst (MayCreate v c.args.head) (sym c.last.ensures) (may_create v c.args.places.now.items c.args.head c.args.n r.inside.right.sound r.may);
    }

pub put-requires : goal.put-requires
put-requires g c =
    let r = c.requires in
    record {
      some = r.may.depth;
      room = place_there (g.S.SharedPass.view c.args.pass.now) c.args.places.now c.args.n c.args.head r.inside r.may r.place;
    }

pub returns-in-Ok : goal.returns-in-Ok
returns-in-Ok g c =
    let v = g.S.SharedPass.view c.args.pass.now in
    let w = g.S.SharedPass.view c.create.new.self in
    let xs = c.args.places.now.items in
    let r = c.requires in
    let got = subst (λ (rows : List Row). Got v w c.args.head rows c.in-Ok.row) c.last.ensures c.in-Ok.ensures.got in
    let b = placed v w xs c.put.new.self.items c.args.head c.args.n c.in-Ok.row r.inside.right.sound r.may r.place got c.create.ensures.sound c.put.ensures.items in
    record {
      placed = b;
      unchanged = tt;
      stack = tt;
      inside = placed_in v w c.args.places.now c.put.new.self c.args.n (asked (store v xs) c.args.head c.args.n) r.inside b
          (ap (λ (x : PassView). x.shared) got.rest) (ap (λ (x : PassView). x.alone) got.rest) c.put.ensures.room;
    }

pub returns-in-Err : goal.returns-in-Err
returns-in-Err g c =
    let e = c.in-Err.ensures.full in
    record {
      placed = tt;
      unchanged = e;
      stack = refl;
      inside = subst (λ (z : PassView). IsIn z c.args.places.now) (sym e) c.requires.inside;
    }
