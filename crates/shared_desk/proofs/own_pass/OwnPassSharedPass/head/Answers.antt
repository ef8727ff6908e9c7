use Rattle.std.proofs.Common.{◌≡◌, ◌∙◌, Some, ap, sym, subst}
use Rattle.term_model.specs.Tree.{root}
use Rattle.terms_api.specs.Terms.{IsHeld, tree_at}
use Rattle.shared_desk.specs.Pass.{PassView, own}
use Rattle.shared_desk.specs.Passes.{seen_of}
use Rattle.shared_desk.proofs.Standing.{is_in_shared, inside_of}
use Rattle.shared_desk.proofs.Looking.{own_used, own_root, after_head}
use Rattle.shared_desk.proofs.own_pass.OwnPassSharedPass.head.Goals as goal

pub head_of-requires : goal.head_of-requires
head_of-requires g c =
    let s = c.self.inside.store.now in
    let p = c.self.inside.pass in
    let h = c.self.invariant in
    let e = c.self.view_is in
    let held : IsHeld (own (seen_of s p)) c.args.row = subst (λ (x : PassView). IsHeld (own x) c.args.row) (sym e) c.requires.held in
    record {
      inside = inside_of s p h (is_in_shared s p h (ap (λ (x : PassView). x.shared) e ∙ c.requires.shared)).1;
      uses = own_used s p h c.args.row held;
    }

pub invariant_of-self : goal.invariant_of-self
invariant_of-self g c =
    let s = c.self.inside.store.now in
    let p = c.self.inside.pass in
    let e = c.self.view_is in
    let held : IsHeld (own (seen_of s p)) c.args.row = subst (λ (x : PassView). IsHeld (own x) c.args.row) (sym e) c.requires.held in
    let d = c.head_of.ensures in
    (after_head s p c.self.invariant c.args.row held c.head_of.new.pass (ap (λ (x : PassView). x.shared) e ∙ c.requires.shared) d.inside d.same c.head_of.result d.reads).0

pub returns : goal.returns
returns g c =
    let s = c.self.inside.store.now in
    let p = c.self.inside.pass in
    let h = c.self.invariant in
    let e = c.self.view_is in
    let held : IsHeld (own (seen_of s p)) c.args.row = subst (λ (x : PassView). IsHeld (own x) c.args.row) (sym e) c.requires.held in
    let shared = ap (λ (x : PassView). x.shared) e ∙ c.requires.shared in
    let q = c.head_of.new.pass in
    let r = c.head_of.result in
    let d = c.head_of.ensures in
    record {
      head = subst (λ (x : PassView). root (tree_at (own x) c.args.row) ≡ Some r) e (own_root s p h c.args.row held r d.tree);
      unchanged = (after_head s p h c.args.row held q shared d.inside d.same c.head_of.result d.reads).1 ∙ e;
    }
