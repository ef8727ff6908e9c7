use Rattle.std.proofs.Common.{◌∙◌, ap, sym, subst}
use Rattle.row_stack.specs.Places.{Places}
use Rattle.shared_desk.specs.Pass.{PassView}
use Rattle.shared_desk.specs.Desk.{IsAlone, Passed}
use Rattle.shared_desk.proofs.Sweeping.{may_after, place_after, swept, swept_alone, outcome_swept, outcome_full, outcome_worn}
use Rattle.shared_desk.proofs.building.sweep.Goals as goal

pub collect-requires : goal.collect-requires
collect-requires g c = record { alone = c.requires.ready.alone.alone; roots = c.requires.ready.noted }

pub create_alone-requires : goal.create_alone-requires
create_alone-requires g c =
    let v = g.S.SharedPass.view c.args.pass.now in
    let m = g.S.SharedPass.view c.collect.new.self in
    let p = c.args.places.now in
    let i = c.requires.ready.alone in
    let e = c.in-Ok.ensures.swept in
    let s = swept v m p i e c.collect.ensures.sound in
    record {
      alone = swept_alone v m p i e c.collect.ensures.sound;
      fresh = ap (λ (x : PassView). x.fresh) e.rest;
      may = may_after 1 v m p.items c.args.head c.args.n i.sound s c.requires.may;
      place = place_after 1 v m p.items c.args.n s c.requires.place;
    }

pub returns-in-Ok-create_alone : goal.returns-in-Ok-create_alone
returns-in-Ok-create_alone g c =
    let v = g.S.SharedPass.view c.args.pass.now in
    let m = g.S.SharedPass.view c.collect.new.self in
    let x = g.S.SharedPass.view c.create_alone.new.pass in
    let w = g.S.SharedPass.view c.come_back.new.pass in
    let p = c.args.places.now in
    let i = c.requires.ready.alone in
    record {
      outcome = outcome_swept v m x w p.items c.create_alone.new.places.items c.args.head c.args.n i.sound
          (swept v m p i c.in-Ok.ensures.swept c.collect.ensures.sound) c.in-Ok-create_alone.ensures.placed c.come_back.ensures.passed;
      inside = c.come_back.ensures.inside;
    }

pub returns-in-Err-create_alone : goal.returns-in-Err-create_alone
returns-in-Err-create_alone g c =
    let v = g.S.SharedPass.view c.args.pass.now in
    let m = g.S.SharedPass.view c.collect.new.self in
    let x = g.S.SharedPass.view c.create_alone.new.pass in
    let w = g.S.SharedPass.view c.come_back-in-Err-create_alone.new.pass in
    let xs = c.args.places.now.items in
    let e = c.in-Err-create_alone.ensures in
    let b = c.come_back-in-Err-create_alone.ensures in
    let s = c.in-Ok.ensures.swept in
    let passed = subst (λ z. Passed 0 z w xs) e.unchanged (subst (λ (q : Places). Passed 0 x w q.items) e.stack b.passed) in
    let o =
    outcome_full v m w xs c.args.head c.args.n c.requires.ready.alone.sound c.requires.ready.rooted
    (swept v m c.args.places.now c.requires.ready.alone s c.collect.ensures.sound)
    (ap (λ (z : PassView). z.hand) s.rest) e.filled passed
    (b.crowd ∙ ap (λ (z : PassView). z.crowd) e.unchanged) (b.hand ∙ ap (λ (z : PassView). z.hand) e.unchanged) in
    record {
      outcome = (ap (λ (q : Places). q.items) e.stack, o.0, o.1);
      inside = b.inside;
    }

pub come_back-requires-in-Err : goal.come_back-requires-in-Err
come_back-requires-in-Err g c = record { alone = subst (λ (z : PassView). IsAlone z c.args.places.now) (sym c.in-Err.ensures.unchanged) c.requires.ready.alone }

pub returns-in-Err : goal.returns-in-Err
returns-in-Err g c =
    let v = g.S.SharedPass.view c.args.pass.now in
    let w = g.S.SharedPass.view c.come_back-in-Err.new.pass in
    let xs = c.args.places.now.items in
    let e = c.in-Err.ensures in
    let b = c.come_back-in-Err.ensures in
    record {
      outcome = outcome_worn v w xs c.args.head c.args.n e.worn (subst (λ z. Passed 0 z w xs) e.unchanged b.passed);
      inside = b.inside;
    }
