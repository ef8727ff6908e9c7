use Rattle.std.proofs.Common.{◌≡◌, ◌∙◌, length, sym, ap, subst}
use Rattle.term_model.specs.Tree.{arguments}
use Rattle.terms_api.specs.Terms.{IsHeld, tree_at}
use Rattle.shared_desk.specs.Code.{LoggedView}
use Rattle.shared_desk.specs.Pass.{PassView, own}
use Rattle.shared_desk.specs.Logged.{AreTold}
use Rattle.shared_desk.proofs.logged.LoggedPassSharedPass.count.Goals as goal

pub count-requires : goal.count-requires
count-requires g c =
    let e = c.self.view_is in
    record {
      shared = ap (λ (l : LoggedView). l.pass.shared) e ∙ c.requires.shared;
      held = subst (λ (l : LoggedView). IsHeld (own l.pass) c.args.row) (sym e) c.requires.held;
    }

pub invariant_of-self : goal.invariant_of-self
invariant_of-self g c = subst (λ (x : PassView). AreTold c.self.inside.log x.entries) (sym c.count.ensures.unchanged) c.self.invariant

pub returns : goal.returns
returns g c =
    let e = c.self.view_is in
    let r = c.count.result in
    let d = c.count.ensures in
    record {
      count = subst (λ (l : LoggedView). r ≡ length (arguments (tree_at (own l.pass) c.args.row))) e d.count;
      unchanged = d.unchanged ∙ ap (λ (l : LoggedView). l.pass) e;
    }
