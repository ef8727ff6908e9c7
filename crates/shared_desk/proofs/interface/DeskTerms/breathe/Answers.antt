use Rattle.std.proofs.Common.{◌∙◌, ◌≤◌, inl, List, length, refl, ap, sym, subst}
use Rattle.std.specs.Prelude.{All}
use Rattle.term_model.specs.declared.Row.{Row}
use Rattle.terms_api.specs.Terms.{IsHeld, Breathed, trees}
use Rattle.shared_desk.specs.Pass.{PassView, own, shown, Arrived, left}
use Rattle.shared_desk.specs.Code.{Contents}
use Rattle.shared_desk.specs.Desk.{store_of, IsSame, same_itself}
use Rattle.shared_desk.proofs.Passing.{rooted, crossed, right_in, trees_same}
use Rattle.shared_desk.proofs.Desks.{desk_of, sound_seen, sound_shown, same_told, breathed, breathed_not}
use Rattle.shared_desk.proofs.interface.DeskTerms.breathe.Goals as goal

pub returns-then-not-is_asked : goal.returns-then-not-is_asked
returns-then-not-is_asked g c =
    let so = sound_seen (g.S.SharedPass.view c.self.inside.pass) c.self.inside.places.items _ _ _ c.args.self.now c.self.view_is c.self.invariant.sound in
    record {
      breathed = breathed_not (store_of c.args.self.now);
      trees = refl;
      was_sound = so;
      sound = so;
      same = same_itself c.args.self.now;
    }

pub store_roots-requires : goal.store_roots-requires
store_roots-requires g c =
    let v = g.S.SharedPass.view c.self.inside.pass in
    let so = c.self.invariant.sound in
    let e = sym c.rows-rows.ensures in
    record {
      access = inl (ap (λ (x : Contents). x.pass.shared) c.self.view_is ∙ c.requires);
      held = subst (All (IsHeld (own v))) e so.stack;
      room = subst (λ (ys : List Row). length ys ≤ v.depth) e so.depth;
    }

pub leave_shared-requires : goal.leave_shared-requires
leave_shared-requires g c =
    let e = c.store_roots.ensures in
    record {
      shared = ap (λ (x : PassView). x.shared) e ∙ ap (λ (x : Contents). x.pass.shared) c.self.view_is ∙ c.requires;
      roots = ap (λ (x : PassView). x.roots) e;
    }

pub enter_shared-requires : goal.enter_shared-requires
enter_shared-requires g c =
    let e = c.leave_shared.ensures in
    record {
      shared = ap (λ (x : PassView). x.shared) e;
      alone = ap (λ (x : PassView). x.alone) e;
    }

pub invariant_of-self : goal.invariant_of-self
invariant_of-self g c =
    let v = g.S.SharedPass.view c.self.inside.pass in
    let w = g.S.SharedPass.view c.enter_shared.new.self in
    let i = c.self.invariant in
    let d = c.enter_shared.ensures in
    let e = c.leave_shared.ensures ∙ ap left c.store_roots.ensures ∙ ap (λ (ys : List Row). left (rooted v ys)) c.rows-rows.ensures in
    right_in 0 v w c.self.inside.places i.room (crossed v w c.self.inside.places.items i.sound (subst (λ x. Arrived x w) e d.arrived) d.sound) d.shared d.alone

pub returns : goal.returns
returns g c =
    let v = g.S.SharedPass.view c.self.inside.pass in
    let xs = c.self.inside.places.items in
    let k = length c.self.inside.refused.items in
    let s = c.self.inside.spent in
    let l = g.S.SharedPass.log c.self.inside.pass in
    let w = g.S.SharedPass.view c.enter_shared.new.self in
    let m = g.S.SharedPass.log c.enter_shared.new.self in
    let so = c.self.invariant.sound in
    let d = c.enter_shared.ensures in
    let is = c.self.view_is in
    let e = c.leave_shared.ensures ∙ ap left c.store_roots.ensures ∙ ap (λ (ys : List Row). left (rooted v ys)) c.rows-rows.ensures in
    let a = subst (λ x. Arrived x w) e d.arrived in
    let p = crossed v w xs so a d.sound in
    record {
      breathed = subst (λ (x : Contents). Breathed (store_of x) (shown w xs k s)) is
          (breathed v w xs k s so a d.sound (d.shared ∙ sym (ap (λ (x : Contents). x.pass.shared) is ∙ c.requires)));
      trees = trees_same 0 v w xs so p ∙ ap (λ (x : Contents). trees (store_of x)) is;
      was_sound = sound_seen v xs k s l c.args.self.now is so;
      sound = sound_shown w xs k s p.sound;
      same = subst (λ (x : Contents). IsSame x (desk_of w xs k s m)) is (same_told v w xs xs k k s l m p.same);
    }
