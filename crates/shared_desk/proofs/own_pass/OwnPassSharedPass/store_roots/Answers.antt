use Rattle.std.proofs.Common.{◌≡◌, ◌∙◌, ◌⊎◌, ◌≤◌, true, List, length, ap, sym, subst, arith}
use Rattle.std.specs.Prelude.{All}
use Rattle.std.proofs.lemmas.List.{length-map}
use Rattle.term_model.specs.declared.Row.{Row}
use Rattle.terms_api.specs.Terms.{IsHeld}
use Rattle.store_model.specs.Machine.{In}
use Rattle.store_model.proofs.Basics.{each_map}
use Rattle.node_rows.specs.Rows.{names}
use Rattle.node_rows.specs.declared.view.NodeView.{NodeView}
use Rattle.node_rows.specs.Told.{view_of}
use Rattle.shared_desk.specs.Held.{Has}
use Rattle.shared_desk.specs.Pass.{PassView, own}
use Rattle.shared_desk.specs.Passes.{seen_of}
use Rattle.shared_desk.proofs.Standing.{inside_at}
use Rattle.shared_desk.proofs.Calling.{Goes, goes_standing, whole_rooted, rooted_is, rows_named, has_each}
use Rattle.shared_desk.proofs.own_pass.OwnPassSharedPass.store_roots.Goals as goal

pub store_roots-requires : goal.store_roots-requires
store_roots-requires g c =
    let s = c.self.inside.store.now in
    let p = c.self.inside.pass in
    let h = c.self.invariant in
    let e = sym c.self.view_is in
    let rows = c.args.rows.now in
    let v = (view_of p).store in
    record {
      inside = inside_at s p h (subst (λ (x : PassView). (x.shared ≡ true) ⊎ (x.alone ≡ true)) e c.requires.access);
      few = subst (λ (x : PassView). length rows ≤ x.depth) e c.requires.room;
      uses = each_map (Has v) (λ r. In r v.got) (names rows) (λ r i. (h.whole.rows r i).uses) (has_each s p h rows (subst (λ (x : PassView). All (IsHeld (own x)) rows) e c.requires.held));
    }

pub invariant_of-self : goal.invariant_of-self
invariant_of-self g c =
    let s = c.self.inside.store.now in
    let p = c.self.inside.pass in
    let q = c.store_roots.new.pass in
    let h = c.self.invariant in
    let same = sym c.self.view_is in
    let rows = c.args.rows.now in
    let each = has_each s p h rows (subst (λ (x : PassView). All (IsHeld (own x)) rows) same c.requires.held) in
    let few = subst (λ (x : PassView). length rows ≤ x.depth) same c.requires.room in
    let e = c.store_roots.ensures in
    let g' : Goes s p q = record { access = subst (λ (x : PassView). (x.shared ≡ true) ⊎ (x.alone ≡ true)) same c.requires.access; inside = e.inside; same = e.same; lock = ap (λ (u : NodeView). u.lock) e.keeps.only } in
    goes_standing s p q h g' (whole_rooted s p q h g' e.keeps (names rows) e.rows each (omega (arith, few, length-map rows (λ (r : Row). r.0))))

pub returns : goal.returns
returns g c =
    let s = c.self.inside.store.now in
    let p = c.self.inside.pass in
    let h = c.self.invariant in
    let rows = c.args.rows.now in
    let q = c.store_roots.new.pass in
    let e = c.store_roots.ensures in
    let g' : Goes s p q = record { access = subst (λ (x : PassView). (x.shared ≡ true) ⊎ (x.alone ≡ true)) (sym c.self.view_is) c.requires.access; inside = e.inside; same = e.same; lock = ap (λ (u : NodeView). u.lock) e.keeps.only } in
    rooted_is s p q h g' e.keeps (names rows) e.rows
    ∙ ap (λ (xs : List Row). record (seen_of s p) { roots = xs }) (rows_named rows)
    ∙ ap (λ (x : PassView). record x { roots = rows }) c.self.view_is
