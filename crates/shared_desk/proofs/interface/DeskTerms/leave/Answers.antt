use Rattle.std.proofs.Common.{◌≡◌, ◌∙◌, ◌≤◌, inl, refl, List, length, ap, sym, subst}
use Rattle.std.specs.Prelude.{All}
use Rattle.term_model.specs.declared.Row.{Row}
use Rattle.terms_api.specs.Terms.{IsHeld, IsSound, Left, trees}
use Rattle.shared_desk.specs.Pass as pass
use Rattle.shared_desk.specs.Pass.{PassView, own, shown, left}
use Rattle.shared_desk.specs.Code.{Contents}
use Rattle.shared_desk.specs.Desk.{store_of, IsSame, IsRight}
use Rattle.shared_desk.proofs.Passing.{rooted, ended}
use Rattle.shared_desk.proofs.Desks.{desk_of, gone, sound_seen, sound_shown, same_told, right_left}
use Rattle.shared_desk.proofs.interface.DeskTerms.leave.Goals as goal

pub store_roots-requires : goal.store_roots-requires
store_roots-requires g c =
    let v = g.S.SharedPass.view c.self.inside.pass in
    let so = c.self.invariant.sound in
    let e = sym c.rows-rows.ensures in
    record {
      access = inl (ap (λ (x : Contents). x.pass.shared) c.self.view_is ∙ c.requires);
      held = subst (All (IsHeld (own v))) e so.stack;
      room = subst (λ (ys : List Row). length ys ≤ v.depth) e so.depth;
    }

pub leave_shared-requires : goal.leave_shared-requires
leave_shared-requires g c =
    let e = c.store_roots.ensures in
    record {
      shared = ap (λ (x : PassView). x.shared) e ∙ ap (λ (x : Contents). x.pass.shared) c.self.view_is ∙ c.requires;
      roots = ap (λ (x : PassView). x.roots) e;
    }

pub invariant_of-self : goal.invariant_of-self
invariant_of-self g c =
    let v = g.S.SharedPass.view c.self.inside.pass in
    let e = c.leave_shared.ensures ∙ ap left c.store_roots.ensures ∙ ap (λ (ys : List Row). left (rooted v ys)) c.rows-rows.ensures in
    subst (λ x. IsRight x c.self.inside.places) (sym e) (right_left v c.self.inside.places c.self.invariant)

pub returns : goal.returns
returns g c =
    let v = g.S.SharedPass.view c.self.inside.pass in
    let xs = c.self.inside.places.items in
    let k = length c.self.inside.refused.items in
    let s = c.self.inside.spent in
    let l = g.S.SharedPass.log c.self.inside.pass in
    let w = g.S.SharedPass.view c.leave_shared.new.self in
    let m = g.S.SharedPass.log c.leave_shared.new.self in
    let so = c.self.invariant.sound in
    let is = c.self.view_is in
    let e = sym (c.leave_shared.ensures ∙ ap left c.store_roots.ensures ∙ ap (λ (ys : List Row). left (rooted v ys)) c.rows-rows.ensures) in
    let p = ended v xs so in
    record {
      left = subst (λ (x : Contents). Left (store_of x) (shown w xs k s)) is (subst (λ x. Left (shown v xs k s) (shown x xs k s)) e (gone v xs k s so));
      trees = subst (λ x. trees (shown x xs k s) ≡ trees (shown v xs k s)) e refl ∙ ap (λ (x : Contents). trees (store_of x)) is;
      was_sound = sound_seen v xs k s l c.args.self.now is so;
      sound = subst (λ x. IsSound (shown x xs k s)) e (sound_shown (left (rooted v xs)) xs k s p.sound);
      same = subst (λ (x : Contents). IsSame x (desk_of w xs k s m)) is (same_told v w xs xs k k s l m (subst (pass.IsSame v) e p.same));
    }
