use Rattle.std.proofs.Common.{◌≡◌, ◌∙◌, inl, ap, sym, subst}
use Rattle.std.specs.Prelude.{OnErr, IfOk}
use Rattle.shared_desk.specs.Pass.{PassView, MayCreate, Got}
use Rattle.shared_desk.specs.Passes.{seen_of}
use Rattle.node_rows.specs.Rows.{names}
use Rattle.node_rows.specs.declared.view.NodeView.{NodeView}
use Rattle.shared_desk.proofs.Standing.{inside_of, is_in_shared, sound_standing}
use Rattle.shared_desk.proofs.Calling.{Goes, may_create, may_named, standing_after, got_after, unchanged_after}
use Rattle.shared_desk.proofs.own_pass.OwnPassSharedPass.create.Goals as goal

pub create-requires : goal.create-requires
create-requires g c =
    let s = c.self.inside.store.now in
    let p = c.self.inside.pass in
    let h = c.self.invariant in
    let same = c.self.view_is in
    let a = is_in_shared s p h (ap (λ (x : PassView). x.shared) same ∙ c.requires.shared) in
    let may = subst (λ (x : PassView). MayCreate x c.args.head c.args.rows.now) (sym same) c.requires.may in
    record {
      inside = inside_of s p h a.1;
      shared = a.0;
      may = may_create s p h c.args.head (names c.args.rows.now) c.fit.ensures (may_named (seen_of s p) c.args.head c.args.rows.now may);
    }

pub invariant_of-self : goal.invariant_of-self
invariant_of-self g c =
    let s = c.self.inside.store.now in
    let p = c.self.inside.pass in
    let q = c.create.new.pass in
    let e = c.create.ensures in
    let g' : Goes s p q = record { access = inl (ap (λ (x : PassView). x.shared) c.self.view_is ∙ c.requires.shared); inside = e.inside; same = e.same; lock = ap (λ (u : NodeView). u.lock) e.only } in
    let may = subst (λ (x : PassView). MayCreate x c.args.head c.args.rows.now) (sym c.self.view_is) c.requires.may in
    standing_after s p q c.self.invariant g' c.args.head c.args.rows.now may c.fit.ensures (ap (λ (u : NodeView). u.crowd) e.only) e.rest c.create.result e.notes e.gets e.full_gets_none

pub returns : goal.returns
returns g c =
    let s = c.self.inside.store.now in
    let p = c.self.inside.pass in
    let q = c.create.new.pass in
    let r = c.create.result in
    let e = c.create.ensures in
    let h = c.self.invariant in
    let same = c.self.view_is in
    let f = c.args.head in
    let rows = c.args.rows.now in
    let fit = c.fit.ensures in
    let crowd = ap (λ (u : NodeView). u.crowd) e.only in
    let g' : Goes s p q = record { access = inl (ap (λ (x : PassView). x.shared) c.self.view_is ∙ c.requires.shared); inside = e.inside; same = e.same; lock = ap (λ (u : NodeView). u.lock) e.only } in
    let may = subst (λ (x : PassView). MayCreate x f rows) (sym same) c.requires.may in
    record {
      got = subst (λ (x : PassView). IfOk r (Got x (seen_of s q) f rows)) same (got_after s p q h g' f rows may fit crowd e.rest r e.notes e.gets);
      full = subst (λ (x : PassView). OnErr r (seen_of s q ≡ x)) same (unchanged_after s p q h g' f rows may fit crowd e.rest r e.full_gets_none);
      sound = sound_standing s q (standing_after s p q h g' f rows may fit crowd e.rest r e.notes e.gets e.full_gets_none);
    }
