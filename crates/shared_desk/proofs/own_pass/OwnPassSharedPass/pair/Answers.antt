use Rattle.std.proofs.Common.{◌≡◌, ◌∙◌, Some, length, ap, sym, subst}
use Rattle.std.specs.Prelude.{slice_get}
use Rattle.term_model.specs.Tree.{arguments}
use Rattle.terms_api.specs.Terms.{IsHeld, tree_at}
use Rattle.shared_desk.specs.Pass.{PassView, own}
use Rattle.shared_desk.proofs.own_pass.OwnPassSharedPass.pair.Goals as goal

pub own_pair-requires : goal.own_pair-requires
own_pair-requires g c =
    let e = c.self.view_is in
    record {
      standing = c.self.invariant;
      shared = ap (λ (x : PassView). x.shared) e ∙ c.requires.shared;
      held = subst (λ (x : PassView). IsHeld (own x) c.args.row) (sym e) c.requires.held;
      two = subst (λ (x : PassView). length (arguments (tree_at (own x) c.args.row)) ≡ 2) (sym e) c.requires.two;
    }

pub returns : goal.returns
returns g c =
    let e = c.self.view_is in
    let r = c.own_pair.result in
    let d = c.own_pair.ensures in
    record {
      held = subst (λ (x : PassView). IsHeld (own x) r.0 × IsHeld (own x) r.1) e d.held;
      first = subst (λ (x : PassView). slice_get (arguments (tree_at (own x) c.args.row)) 0 ≡ Some (tree_at (own x) r.0)) e d.first;
      second = subst (λ (x : PassView). slice_get (arguments (tree_at (own x) c.args.row)) 1 ≡ Some (tree_at (own x) r.1)) e d.second;
      unchanged = d.unchanged ∙ e;
    }
