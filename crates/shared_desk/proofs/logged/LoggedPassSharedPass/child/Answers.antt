use Rattle.std.proofs.Common.{◌≡◌, ◌∙◌, ◌<◌, length, Some, sym, ap, subst}
use Rattle.std.specs.Prelude.{slice_get}
use Rattle.term_model.specs.Tree.{arguments}
use Rattle.terms_api.specs.Terms.{IsHeld, tree_at}
use Rattle.shared_desk.specs.Code.{LoggedView}
use Rattle.shared_desk.specs.Pass.{PassView, own}
use Rattle.shared_desk.specs.Logged.{AreTold}
use Rattle.shared_desk.proofs.logged.LoggedPassSharedPass.child.Goals as goal

pub child-requires : goal.child-requires
child-requires g c =
    let e = c.self.view_is in
    record {
      shared = ap (λ (l : LoggedView). l.pass.shared) e ∙ c.requires.shared;
      held = subst (λ (l : LoggedView). IsHeld (own l.pass) c.args.row) (sym e) c.requires.held;
      below = subst (λ (l : LoggedView). c.args.j < length (arguments (tree_at (own l.pass) c.args.row))) (sym e) c.requires.below;
    }

pub invariant_of-self : goal.invariant_of-self
invariant_of-self g c = subst (λ (x : PassView). AreTold c.self.inside.log x.entries) (sym c.child.ensures.unchanged) c.self.invariant

pub returns : goal.returns
returns g c =
    let e = c.self.view_is in
    let r = c.child.result in
    let d = c.child.ensures in
    record {
      held = subst (λ (l : LoggedView). IsHeld (own l.pass) r) e d.held;
      tree = subst (λ (l : LoggedView). slice_get (arguments (tree_at (own l.pass) c.args.row)) c.args.j ≡ Some (tree_at (own l.pass) r)) e d.tree;
      unchanged = d.unchanged ∙ ap (λ (l : LoggedView). l.pass) e;
    }
