use Rattle.std.proofs.Common.{◌∙◌, ◌≤◌, inr, List, length, refl, ap, sym, subst}
use Rattle.std.specs.Prelude.{All}
use Rattle.term_model.specs.declared.Row.{Row}
use Rattle.terms_api.specs.Terms.{IsHeld, asked}
use Rattle.shared_desk.specs.Pass.{PassView, own, store, MayCreate, Got, IsFilled}
use Rattle.shared_desk.specs.Desk.{IsAlone, Placed}
use Rattle.shared_desk.proofs.Passing.{rooted}
use Rattle.shared_desk.proofs.Placing.{may_create, placed, place_alone}
use Rattle.shared_desk.proofs.Sweeping.{placed_rooted, placed_alone}
use Rattle.shared_desk.proofs.building.create_alone.Goals as goal

pub create_exclusive-requires : goal.create_exclusive-requires
create_exclusive-requires g c =
    let v = g.S.SharedPass.view c.args.pass.now in
    let r = c.requires in
    record {
      alone = r.alone.alone;
      fresh = r.fresh;
      may = subst (MayCreate v c.args.head) (sym c.last.ensures) (may_create v c.args.places.now.items c.args.head c.args.n r.alone.sound r.may);
    }

pub put-requires : goal.put-requires
put-requires g c =
    let r = c.requires in
    record {
      some = r.may.depth;
      room = place_alone (g.S.SharedPass.view c.args.pass.now) c.args.places.now c.args.n c.args.head r.alone.sound.depth r.alone.room r.may r.place;
    }

pub store_roots-requires : goal.store_roots-requires
store_roots-requires g c =
    let v = g.S.SharedPass.view c.args.pass.now in
    let w = g.S.SharedPass.view c.create_exclusive.new.self in
    let r = c.requires in
    let got = subst (λ (zs : List Row). Got v w c.args.head zs c.in-Ok.row) c.last.ensures c.in-Ok.ensures.got in
    let b = placed v w c.args.places.now.items c.put.new.self.items c.args.head c.args.n c.in-Ok.row r.alone.sound r.may r.place got c.create_exclusive.ensures.sound c.put.ensures.items in
    let e = sym c.rows.ensures in
    record {
      access = inr (ap (λ (x : PassView). x.alone) got.rest ∙ r.alone.alone);
      held = subst (All (IsHeld (own w))) e b.sound.stack;
      room = subst (λ (zs : List Row). length zs ≤ w.depth) e b.sound.depth;
    }

pub returns-in-Ok : goal.returns-in-Ok
returns-in-Ok g c =
    let v = g.S.SharedPass.view c.args.pass.now in
    let w = g.S.SharedPass.view c.create_exclusive.new.self in
    let xs = c.args.places.now.items in
    let ys = c.put.new.self.items in
    let r = c.requires in
    let t = asked (store v xs) c.args.head c.args.n in
    let got = subst (λ (zs : List Row). Got v w c.args.head zs c.in-Ok.row) c.last.ensures c.in-Ok.ensures.got in
    let is = sym (c.store_roots.ensures ∙ ap (rooted w) c.rows.ensures) in
    let b = placed v w xs ys c.args.head c.args.n c.in-Ok.row r.alone.sound r.may r.place got c.create_exclusive.ensures.sound c.put.ensures.items in
    record {
      placed = subst (λ z. Placed 0 v z xs ys c.args.n t) is (placed_rooted v w xs ys c.args.n t b);
      unchanged = tt;
      stack = tt;
      filled = tt;
      alone = subst (λ z. IsAlone z c.put.new.self) is
          (placed_alone v w c.args.places.now c.put.new.self c.args.n t r.alone b (ap (λ (x : PassView). x.shared) got.rest) (ap (λ (x : PassView). x.alone) got.rest) c.put.ensures.room);
    }

pub returns-in-Err : goal.returns-in-Err
returns-in-Err g c =
    let e = c.in-Err.ensures in
    record {
      placed = tt;
      unchanged = e.unchanged;
      stack = refl;
      filled = subst (IsFilled (g.S.SharedPass.view c.args.pass.now) c.args.head) c.last.ensures e.full;
      alone = subst (λ (z : PassView). IsAlone z c.args.places.now) (sym e.unchanged) c.requires.alone;
    }
