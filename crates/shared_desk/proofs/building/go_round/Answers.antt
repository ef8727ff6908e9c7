use Rattle.std.proofs.Common.{◌∙◌, ◌≤◌, inl, List, length, ap, sym, subst}
use Rattle.std.specs.Prelude.{All}
use Rattle.term_model.specs.declared.Row.{Row}
use Rattle.terms_api.specs.Terms.{IsHeld}
use Rattle.shared_desk.specs.Pass.{PassView, Arrived, left, own}
use Rattle.shared_desk.proofs.Passing.{rooted, crossed, round_in}
use Rattle.shared_desk.proofs.building.go_round.Goals as goal

pub store_roots-requires : goal.store_roots-requires
store_roots-requires g c =
    let v = g.S.SharedPass.view c.args.pass.now in
    let i = c.requires.inside in
    let e = sym c.rows-rows.ensures in
    record {
      access = inl i.shared;
      held = subst (All (IsHeld (own v))) e i.right.sound.stack;
      room = subst (λ (xs : List Row). length xs ≤ v.depth) e i.right.sound.depth;
    }

pub leave_shared-requires : goal.leave_shared-requires
leave_shared-requires g c =
    let e = c.store_roots.ensures in
    record {
      shared = ap (λ (x : PassView). x.shared) e ∙ c.requires.inside.shared;
      roots = ap (λ (x : PassView). x.roots) e;
    }

pub enter_shared-requires : goal.enter_shared-requires
enter_shared-requires g c =
    let e = c.leave_shared.ensures in
    record {
      shared = ap (λ (x : PassView). x.shared) e;
      alone = ap (λ (x : PassView). x.alone) e;
    }

pub returns : goal.returns
returns g c =
    let v = g.S.SharedPass.view c.args.pass.now in
    let w = g.S.SharedPass.view c.enter_shared.new.self in
    let p = c.args.places.now in
    let i = c.requires.inside in
    let d = c.enter_shared.ensures in
    let e = c.leave_shared.ensures ∙ ap left c.store_roots.ensures ∙ ap (λ (xs : List Row). left (rooted v xs)) c.rows-rows.ensures in
    let a = subst (λ x. Arrived x w) e d.arrived in
    record {
      inside = round_in v w p i a d.sound d.shared d.alone;
      passed = crossed v w p.items i.right.sound a d.sound;
    }
