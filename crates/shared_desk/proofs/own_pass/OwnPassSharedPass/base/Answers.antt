use Rattle.std.proofs.Common.{◌≡◌, ◌⊎◌, ◌∙◌, true, ap, sym, subst}
use Rattle.shared_desk.specs.Pass.{PassView}
use Rattle.std.proofs.Common.{⊎_elim}
use Rattle.shared_desk.proofs.Standing.{is_in_shared, is_in_exclusive}
use Rattle.shared_desk.proofs.own_pass.OwnPassSharedPass.base.Goals as goal

pub returns : goal.returns
returns g c =
    let s = c.self.inside.store.now in
    let p = c.self.inside.pass in
    let access = subst (λ (x : PassView). (x.shared ≡ true) ⊎ (x.alone ≡ true)) (sym c.self.view_is) c.requires in
    ⊎_elim (λ a. (is_in_shared s p c.self.invariant a).1.has_base) (λ a. (is_in_exclusive s p c.self.invariant a).1.has_base) access
    ∙ ap (λ (x : PassView). x.base) c.self.view_is
