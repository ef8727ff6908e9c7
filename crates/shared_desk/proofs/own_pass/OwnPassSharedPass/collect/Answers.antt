use Rattle.std.proofs.Common.{◌≡◌, ◌∙◌, inr, ap, sym, subst}
use Rattle.std.specs.Prelude.{OnOk, OnErr}
use Rattle.shared_desk.specs.Pass.{PassView, IsWorn, Swept}
use Rattle.shared_desk.specs.Passes.{seen_of}
use Rattle.node_rows.specs.declared.view.NodeView.{NodeView}
use Rattle.shared_desk.proofs.Standing.{inside_of, is_in_exclusive, sound_standing}
use Rattle.shared_desk.proofs.Calling.{Goes, last_noted, standing_collected, swept_is, worn_is, wears}
use Rattle.shared_desk.proofs.own_pass.OwnPassSharedPass.collect.Goals as goal

pub collect-requires : goal.collect-requires
collect-requires g c =
    let s = c.self.inside.store.now in
    let p = c.self.inside.pass in
    let h = c.self.invariant in
    let a = is_in_exclusive s p h (ap (λ (x : PassView). x.alone) c.self.view_is ∙ c.requires.alone) in
    record {
      inside = inside_of s p h a.1;
      granted = a.0;
      last_roots = last_noted s p (subst (λ (x : PassView). x.roots ≡ x.noted) (sym c.self.view_is) c.requires.roots);
    }

pub invariant_of-self : goal.invariant_of-self
invariant_of-self g c =
    let s = c.self.inside.store.now in
    let p = c.self.inside.pass in
    let q = c.collect.new.pass in
    let e = c.collect.ensures in
    let g' : Goes s p q = record { access = inr (ap (λ (x : PassView). x.alone) c.self.view_is ∙ c.requires.alone); inside = e.inside; same = e.same; lock = ap (λ (u : NodeView). u.lock) e.only } in
    standing_collected s p q c.self.invariant g' c.collect.result e.collects e.unchanged

pub returns : goal.returns
returns g c =
    let s = c.self.inside.store.now in
    let p = c.self.inside.pass in
    let q = c.collect.new.pass in
    let r = c.collect.result in
    let e = c.collect.ensures in
    let h = c.self.invariant in
    let same = c.self.view_is in
    let g' : Goes s p q = record { access = inr (ap (λ (x : PassView). x.alone) c.self.view_is ∙ c.requires.alone); inside = e.inside; same = e.same; lock = ap (λ (u : NodeView). u.lock) e.only } in
    record {
      swept = subst (λ (x : PassView). OnOk r (Swept x (seen_of s q))) same (swept_is s p q h g' r e.collects);
      unchanged = subst (λ (x : PassView). OnErr r (seen_of s q ≡ x)) same (worn_is s p q h g' r e.unchanged);
      worn = subst (λ (x : PassView). OnErr r (IsWorn x)) same (wears s p q h g' r e.worn);
      sound = sound_standing s q (standing_collected s p q h g' r e.collects e.unchanged);
    }
