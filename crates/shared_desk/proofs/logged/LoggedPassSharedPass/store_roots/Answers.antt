use Rattle.std.proofs.Common.{◌≡◌, ◌⊎◌, ◌∙◌, ◌≤◌, length, true, sym, ap, subst}
use Rattle.std.specs.Prelude.{All}
use Rattle.terms_api.specs.Terms.{IsHeld}
use Rattle.shared_desk.specs.Code.{LoggedView}
use Rattle.shared_desk.specs.Pass.{PassView, own}
use Rattle.shared_desk.specs.Logged.{AreTold}
use Rattle.shared_desk.proofs.logged.LoggedPassSharedPass.store_roots.Goals as goal

pub store_roots-requires : goal.store_roots-requires
store_roots-requires g c =
    let e = sym c.self.view_is in
    record {
      access = subst (λ (l : LoggedView). (l.pass.shared ≡ true) ⊎ (l.pass.alone ≡ true)) e c.requires.access;
      held = subst (λ (l : LoggedView). All (IsHeld (own l.pass)) c.args.rows.now) e c.requires.held;
      room = subst (λ (l : LoggedView). length c.args.rows.now ≤ l.pass.depth) e c.requires.room;
    }

pub invariant_of-self : goal.invariant_of-self
invariant_of-self g c = subst (AreTold c.self.inside.log) (sym (ap (λ (x : PassView). x.entries) c.store_roots.ensures)) c.self.invariant

pub returns : goal.returns
returns g c = c.store_roots.ensures ∙ ap (λ (l : LoggedView). record l.pass { roots = c.args.rows.now }) c.self.view_is
