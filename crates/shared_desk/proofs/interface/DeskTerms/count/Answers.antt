use Rattle.std.proofs.Common.{◌≡◌, ◌∙◌, length, sym, ap, subst}
use Rattle.term_model.specs.Tree.{arguments}
use Rattle.terms_api.specs.Terms.{IsHeld, tree_at}
use Rattle.shared_desk.specs.Code.{Contents}
use Rattle.shared_desk.specs.Desk.{store_of}
use Rattle.shared_desk.proofs.Desks.{still_seen, still_sound, still_same, still_right}
use Rattle.shared_desk.proofs.interface.DeskTerms.count.Goals as goal

pub count-requires : goal.count-requires
count-requires g c =
    let e = sym c.self.view_is in
    record {
      shared = ap (λ (x : Contents). x.pass.shared) c.self.view_is ∙ c.requires.inside;
      held = subst (λ (x : Contents). IsHeld (store_of x) c.args.row) e c.requires.held;
    }

pub invariant_of-self : goal.invariant_of-self
invariant_of-self g c = still_right (g.S.SharedPass.view c.self.inside.pass) (g.S.SharedPass.view c.count.new.self) c.self.inside.places c.count.ensures.unchanged c.self.invariant

pub returns : goal.returns
returns g c =
    let v = g.S.SharedPass.view c.self.inside.pass in
    let xs = c.self.inside.places.items in
    let k = length c.self.inside.refused.items in
    let s = c.self.inside.spent in
    let l = g.S.SharedPass.log c.self.inside.pass in
    let w = g.S.SharedPass.view c.count.new.self in
    let m = g.S.SharedPass.log c.count.new.self in
    let r = c.count.result in
    let d = c.count.ensures in
    let e = c.self.view_is in
    record {
      count = subst (λ (x : Contents). r ≡ length (arguments (tree_at (store_of x) c.args.row))) e d.count;
      unchanged = still_seen v w xs k s l m c.args.self.now e d.unchanged;
      sound = still_sound v w xs k s l m c.args.self.now e d.unchanged c.self.invariant.sound;
      same = still_same v w xs k s l m c.args.self.now e d.unchanged;
    }
