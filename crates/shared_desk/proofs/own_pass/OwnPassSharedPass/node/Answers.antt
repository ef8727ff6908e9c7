use Rattle.std.proofs.Common.{◌≡◌, ◌∙◌, Some, length, ap, sym, subst}
use Rattle.term_model.specs.Tree.{arguments, root}
use Rattle.terms_api.specs.Terms.{IsHeld, tree_at}
use Rattle.shared_desk.specs.Pass.{PassView, own}
use Rattle.shared_desk.proofs.own_pass.OwnPassSharedPass.node.Goals as goal

pub own_node-requires : goal.own_node-requires
own_node-requires g c =
    let e = c.self.view_is in
    record {
      standing = c.self.invariant;
      shared = ap (λ (x : PassView). x.shared) e ∙ c.requires.shared;
      held = subst (λ (x : PassView). IsHeld (own x) c.args.row) (sym e) c.requires.held;
    }

pub returns : goal.returns
returns g c =
    let e = c.self.view_is in
    let r = c.own_node.result in
    let d = c.own_node.ensures in
    record {
      head = subst (λ (x : PassView). root (tree_at (own x) c.args.row) ≡ Some r.0) e d.head;
      count = subst (λ (x : PassView). r.1 ≡ length (arguments (tree_at (own x) c.args.row))) e d.count;
      unchanged = d.unchanged ∙ e;
    }
