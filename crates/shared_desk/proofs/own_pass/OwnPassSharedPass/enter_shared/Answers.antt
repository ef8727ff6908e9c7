use Rattle.std.proofs.Common.{◌∙◌, inl, inr, ap, subst}
use Rattle.node_rows.specs.Told.{view_of}
use Rattle.shared_desk.specs.Pass.{PassView, Arrived}
use Rattle.shared_desk.specs.Passes.{seen_of}
use Rattle.shared_desk.proofs.Standing.{entered, is_out, ready_shared, sound_standing}
use Rattle.shared_desk.proofs.own_pass.OwnPassSharedPass.enter_shared.Goals as goal

pub enter_shared-requires : goal.enter_shared-requires
enter_shared-requires g c =
    let h = c.self.invariant in
    let e = c.self.view_is in
    record {
      of = h.of;
      out = is_out c.self.inside.store.now c.self.inside.pass h (ap (λ (x : PassView). x.shared) e ∙ c.requires.shared) (ap (λ (x : PassView). x.alone) e ∙ c.requires.alone);
    }

pub invariant_of-self : goal.invariant_of-self
invariant_of-self g c =
    let e = c.enter_shared.ensures in
    (entered c.self.inside.store.now c.self.inside.pass c.enter_shared.new.pass c.self.invariant e.pass e.same e.told e.crowd e.came (inr (inl (e.shared, e.ready)))).0

pub returns : goal.returns
returns g c =
    let s = c.self.inside.store.now in
    let q = c.enter_shared.new.pass in
    let e = c.enter_shared.ensures in
    let r = entered s c.self.inside.pass q c.self.invariant e.pass e.same e.told e.crowd e.came (inr (inl (e.shared, e.ready))) in
    let a = ready_shared (view_of q) e.ready.rest.stay e.shared in
    record {
      arrived = subst (λ x. Arrived x (seen_of s q)) c.self.view_is r.1;
      shared = a.0;
      alone = a.1;
      sound = sound_standing s q r.0;
    }
