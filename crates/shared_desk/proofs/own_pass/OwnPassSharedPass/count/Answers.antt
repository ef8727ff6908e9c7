use Rattle.std.proofs.Common.{◌≡◌, ◌∙◌, length, ap, sym, subst}
use Rattle.term_model.specs.Tree.{arguments}
use Rattle.terms_api.specs.Terms.{IsHeld, tree_at}
use Rattle.shared_desk.specs.Pass.{PassView, own}
use Rattle.shared_desk.specs.Passes.{seen_of}
use Rattle.shared_desk.proofs.Standing.{is_in_shared, inside_of}
use Rattle.shared_desk.proofs.Looking.{own_used, own_many, after_count}
use Rattle.shared_desk.proofs.own_pass.OwnPassSharedPass.count.Goals as goal

pub count_of-requires : goal.count_of-requires
count_of-requires g c =
    let s = c.self.inside.store.now in
    let p = c.self.inside.pass in
    let h = c.self.invariant in
    let e = c.self.view_is in
    let held : IsHeld (own (seen_of s p)) c.args.row = subst (λ (x : PassView). IsHeld (own x) c.args.row) (sym e) c.requires.held in
    record {
      inside = inside_of s p h (is_in_shared s p h (ap (λ (x : PassView). x.shared) e ∙ c.requires.shared)).1;
      uses = own_used s p h c.args.row held;
    }

pub invariant_of-self : goal.invariant_of-self
invariant_of-self g c =
    let s = c.self.inside.store.now in
    let p = c.self.inside.pass in
    let e = c.self.view_is in
    let held : IsHeld (own (seen_of s p)) c.args.row = subst (λ (x : PassView). IsHeld (own x) c.args.row) (sym e) c.requires.held in
    let d = c.count_of.ensures in
    (after_count s p c.self.invariant c.args.row held c.count_of.new.pass (ap (λ (x : PassView). x.shared) e ∙ c.requires.shared) d.inside d.same c.count_of.result d.reads).0

pub returns : goal.returns
returns g c =
    let s = c.self.inside.store.now in
    let p = c.self.inside.pass in
    let h = c.self.invariant in
    let e = c.self.view_is in
    let held : IsHeld (own (seen_of s p)) c.args.row = subst (λ (x : PassView). IsHeld (own x) c.args.row) (sym e) c.requires.held in
    let shared = ap (λ (x : PassView). x.shared) e ∙ c.requires.shared in
    let q = c.count_of.new.pass in
    let r = c.count_of.result in
    let d = c.count_of.ensures in
    record {
      count = subst (λ (x : PassView). r ≡ length (arguments (tree_at (own x) c.args.row))) e (own_many s p h c.args.row held r d.tree);
      unchanged = (after_count s p h c.args.row held q shared d.inside d.same c.count_of.result d.reads).1 ∙ e;
    }
