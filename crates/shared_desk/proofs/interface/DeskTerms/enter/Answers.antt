use Rattle.std.proofs.Common.{◌∙◌, length, ap, subst}
use Rattle.terms_api.specs.Terms.{Entered, trees}
use Rattle.shared_desk.specs.Pass.{shown}
use Rattle.shared_desk.specs.Code.{Contents}
use Rattle.shared_desk.specs.Desk.{store_of, IsSame}
use Rattle.shared_desk.proofs.Passing.{arrived, right_in, trees_same}
use Rattle.shared_desk.proofs.Desks.{desk_of, entered, sound_seen, sound_shown, same_told}
use Rattle.shared_desk.proofs.interface.DeskTerms.enter.Goals as goal

pub enter_shared-requires : goal.enter_shared-requires
enter_shared-requires g c = record {
  shared = ap (λ (x : Contents). x.pass.shared) c.self.view_is ∙ c.requires;
  alone = c.self.invariant.alone;
}

pub invariant_of-self : goal.invariant_of-self
invariant_of-self g c =
    let v = g.S.SharedPass.view c.self.inside.pass in
    let w = g.S.SharedPass.view c.enter_shared.new.self in
    let i = c.self.invariant in
    let d = c.enter_shared.ensures in
    let out = ap (λ (x : Contents). x.pass.shared) c.self.view_is ∙ c.requires in
    right_in 0 v w c.self.inside.places i.room (arrived v w c.self.inside.places.items (i.roots out) d.arrived d.sound) d.shared d.alone

pub returns : goal.returns
returns g c =
    let v = g.S.SharedPass.view c.self.inside.pass in
    let xs = c.self.inside.places.items in
    let k = length c.self.inside.refused.items in
    let s = c.self.inside.spent in
    let l = g.S.SharedPass.log c.self.inside.pass in
    let w = g.S.SharedPass.view c.enter_shared.new.self in
    let m = g.S.SharedPass.log c.enter_shared.new.self in
    let i = c.self.invariant in
    let d = c.enter_shared.ensures in
    let e = c.self.view_is in
    let p = arrived v w xs (i.roots (ap (λ (x : Contents). x.pass.shared) e ∙ c.requires)) d.arrived d.sound in
    record {
      entered = subst (λ (x : Contents). Entered (store_of x) (shown w xs k s)) e (entered v w xs k s d.arrived p d.shared);
      trees = trees_same 0 v w xs i.sound p ∙ ap (λ (x : Contents). trees (store_of x)) e;
      was_sound = sound_seen v xs k s l c.args.self.now e i.sound;
      sound = sound_shown w xs k s p.sound;
      same = subst (λ (x : Contents). IsSame x (desk_of w xs k s m)) e (same_told v w xs xs k k s l m p.same);
    }
