use Rattle.std.proofs.Common.{◌≡◌, ◌∙◌, length, Some, sym, ap, subst}
use Rattle.std.specs.Prelude.{slice_get}
use Rattle.term_model.specs.Tree.{arguments}
use Rattle.terms_api.specs.Terms.{IsHeld, tree_at}
use Rattle.shared_desk.specs.Code.{LoggedView}
use Rattle.shared_desk.specs.Pass.{PassView, own}
use Rattle.shared_desk.specs.Logged.{AreTold}
use Rattle.shared_desk.proofs.logged.LoggedPassSharedPass.pair.Goals as goal

pub pair-requires : goal.pair-requires
pair-requires g c =
    let e = c.self.view_is in
    record {
      shared = ap (λ (l : LoggedView). l.pass.shared) e ∙ c.requires.shared;
      held = subst (λ (l : LoggedView). IsHeld (own l.pass) c.args.row) (sym e) c.requires.held;
      two = subst (λ (l : LoggedView). length (arguments (tree_at (own l.pass) c.args.row)) ≡ 2) (sym e) c.requires.two;
    }

pub invariant_of-self : goal.invariant_of-self
invariant_of-self g c = subst (λ (x : PassView). AreTold c.self.inside.log x.entries) (sym c.pair.ensures.unchanged) c.self.invariant

pub returns : goal.returns
returns g c =
    let e = c.self.view_is in
    let r = c.pair.result in
    let d = c.pair.ensures in
    record {
      held = subst (λ (l : LoggedView). IsHeld (own l.pass) r.0 × IsHeld (own l.pass) r.1) e d.held;
      first = subst (λ (l : LoggedView). slice_get (arguments (tree_at (own l.pass) c.args.row)) 0 ≡ Some (tree_at (own l.pass) r.0)) e d.first;
      second = subst (λ (l : LoggedView). slice_get (arguments (tree_at (own l.pass) c.args.row)) 1 ≡ Some (tree_at (own l.pass) r.1)) e d.second;
      unchanged = d.unchanged ∙ ap (λ (l : LoggedView). l.pass) e;
    }
