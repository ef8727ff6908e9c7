use Rattle.std.proofs.Common.{◌≡◌, ◌<◌, true, false, List, ℕ, length, subst, rules, arith}
use Rattle.std.proofs.lemmas.Grind.{common_steps}
use Rattle.std.proofs.lemmas.List.{take_all}
use Rattle.store_model.specs.StoreSteps.{Leads}
use Rattle.store_model.specs.NewStore.{start_of}
use Rattle.store_core.specs.StoreValue.{state_of, Stepped, Stayed}
use Rattle.store_model.specs.declared.step.StoreStep.{StoreStep}
use Rattle.store_core.proofs.Applied.{replays_more, replays_stop, if_made, if_not_made}
use Rattle.store_core.proofs.state.replay.Goals as goal

pub returns-then-not-made : goal.returns-then-not-made
returns-then-not-made c =
    let off : c.in_ok-made.made ≡ false = first_of (search rules, grind (arith, common_steps)) in
    let there : c.loop-seat.seat-index < length c.args.steps.now = (let t = c.loop-seat-test.true in omega arith) in
    let stayed = if_not_made c.in_ok-made.made (Stepped c.loop-seat-item.result.0 c.in_ok-copy_step.field-0 c.loop-seat.store c.apply.new.self) (Stayed c.loop-seat-item.result.0 c.in_ok-copy_step.field-0 c.loop-seat.store c.apply.new.self) c.in_ok-made.ensures.step off in
    replays_stop c.args.sizes c.args.steps.now c.loop-seat.seat-index c.loop-seat.store c.apply.new.self c.loop-seat-item.result there c.loop-seat-item.is c.loop-seat.invariant.0 c.loop-seat.invariant.1
    (subst (λ (x : StoreStep). Stayed c.loop-seat-item.result.0 x c.loop-seat.store c.apply.new.self) c.in_ok-copy_step.ensures stayed)

pub loop-seat-preserved : goal.loop-seat-preserved
loop-seat-preserved c =
    let on : c.in_ok-made.made ≡ true = first_of (search rules, grind (arith, common_steps)) in
    let there : c.loop-seat.seat-index < length c.args.steps.now = (let t = c.loop-seat-test.true in omega arith) in
    let stepped = if_made c.in_ok-made.made (Stepped c.loop-seat-item.result.0 c.in_ok-copy_step.field-0 c.loop-seat.store c.apply.new.self) (Stayed c.loop-seat-item.result.0 c.in_ok-copy_step.field-0 c.loop-seat.store c.apply.new.self) c.in_ok-made.ensures.step on in
    replays_more c.args.sizes c.args.steps.now c.loop-seat.seat-index c.loop-seat.store c.apply.new.self c.loop-seat-item.result there c.loop-seat-item.is c.loop-seat.invariant.0 c.loop-seat.invariant.1
    (subst (λ (x : StoreStep). Stepped c.loop-seat-item.result.0 x c.loop-seat.store c.apply.new.self) c.in_ok-copy_step.ensures stepped)

pub returns : goal.returns
returns c = (c.loop-seat.invariant.0, subst (λ (xs : List (ℕ × StoreStep)). Leads c.args.sizes (start_of c.args.sizes) xs (state_of c.loop-seat.store)) (take_all c.loop-seat.seat-index c.args.steps.now (let t = c.loop-seat-test.false in omega arith)) c.loop-seat.invariant.1)
