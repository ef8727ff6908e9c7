use Rattle.std.proofs.Common.{◌≡◌, ◌∙◌, ◌<◌, Some, length, ap, sym, subst}
use Rattle.std.specs.Prelude.{slice_get}
use Rattle.term_model.specs.Tree.{arguments}
use Rattle.terms_api.specs.Terms.{IsHeld, tree_at}
use Rattle.shared_desk.specs.Pass.{PassView, own}
use Rattle.shared_desk.specs.Passes.{seen_of}
use Rattle.shared_desk.proofs.Standing.{is_in_shared, inside_of}
use Rattle.shared_desk.proofs.Looking.{own_used, own_argument, own_child, after_child}
use Rattle.shared_desk.proofs.own_pass.OwnPassSharedPass.child.Goals as goal

pub child_of-requires : goal.child_of-requires
child_of-requires g c =
    let s = c.self.inside.store.now in
    let p = c.self.inside.pass in
    let h = c.self.invariant in
    let e = c.self.view_is in
    let held : IsHeld (own (seen_of s p)) c.args.row = subst (λ (x : PassView). IsHeld (own x) c.args.row) (sym e) c.requires.held in
    record {
      inside = inside_of s p h (is_in_shared s p h (ap (λ (x : PassView). x.shared) e ∙ c.requires.shared)).1;
      uses = own_used s p h c.args.row held;
      argument = own_argument s p h c.args.row held c.args.j (subst (λ (x : PassView). c.args.j < length (arguments (tree_at (own x) c.args.row))) (sym e) c.requires.below);
    }

pub invariant_of-self : goal.invariant_of-self
invariant_of-self g c =
    let s = c.self.inside.store.now in
    let p = c.self.inside.pass in
    let e = c.self.view_is in
    let held : IsHeld (own (seen_of s p)) c.args.row = subst (λ (x : PassView). IsHeld (own x) c.args.row) (sym e) c.requires.held in
    let d = c.child_of.ensures in
    (after_child s p c.self.invariant c.args.row held c.child_of.new.pass (ap (λ (x : PassView). x.shared) e ∙ c.requires.shared) d.inside d.same c.args.j c.child_of.result.0 d.reads).0

pub returns : goal.returns
returns g c =
    let s = c.self.inside.store.now in
    let p = c.self.inside.pass in
    let h = c.self.invariant in
    let e = c.self.view_is in
    let held : IsHeld (own (seen_of s p)) c.args.row = subst (λ (x : PassView). IsHeld (own x) c.args.row) (sym e) c.requires.held in
    let shared = ap (λ (x : PassView). x.shared) e ∙ c.requires.shared in
    let q = c.child_of.new.pass in
    let r = c.child_of.result in
    let d = c.child_of.ensures in
    let b = own_child s p h c.args.row held q shared d.inside d.same c.args.j r.0 d.reads (subst (λ (x : PassView). c.args.j < length (arguments (tree_at (own x) c.args.row))) (sym e) c.requires.below) d.tree in
    record {
      held = subst (λ (x : PassView). IsHeld (own x) r) e b.0;
      tree = subst (λ (x : PassView). slice_get (arguments (tree_at (own x) c.args.row)) c.args.j ≡ Some (tree_at (own x) r)) e b.1;
      unchanged = (after_child s p h c.args.row held q shared d.inside d.same c.args.j c.child_of.result.0 d.reads).1 ∙ e;
    }
