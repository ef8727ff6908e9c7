use Rattle.std.specs.Prelude.{Option}
use Rattle.std.proofs.Common.{subst}
use Rattle.store_core.specs.StoreValue.{StoreValue, state_of, Stepped, Stayed}
use Rattle.store_core.specs.StoreInside.{value_of}
use Rattle.store_core.specs.Planning.{IsPlanOf}
use Rattle.store_core.specs.declared.machine.change.Change.{Change}
use Rattle.store_core.specs.declared.state.StoreState.TheInside.{Inside}
use Rattle.store_core.proofs.Applied.{stayed_none, stepped_some, held_some}
use Rattle.store_core.proofs.state.StoreState.apply.Goals as goal

pub planned-requires-clause-holds : goal.planned-requires-clause-holds
planned-requires-clause-holds c = c.self.invariant.holds

pub invariant_of-self : goal.invariant_of-self
invariant_of-self c =
    let m : Inside = record { table = c.commit.new.table; lock = c.commit.new.lock; views = c.commit.new.views } in
    let plan = subst (λ (o : Option Change). IsPlanOf c.self.inside.table.sizes (state_of (value_of c.self.inside)) c.args.seat c.args.step c.planned.new.view o) c.in-Some.is c.in_ok-planned.ensures.0 in
    held_some c.self.inside m c.args.seat c.args.step c.in-Some.change c.planned.new.view c.self.invariant c.commit.ensures.sizes c.commit.ensures.views plan c.commit.ensures.state

pub returns-in-None-clause-step : goal.returns-in-None-clause-step
returns-in-None-clause-step c =
    let plan = subst (λ (o : Option Change). IsPlanOf c.self.inside.table.sizes (state_of (value_of c.self.inside)) c.args.seat c.args.step c.planned.new.view o) c.in-None.is c.in_ok-planned.ensures.0 in
    subst (λ (t : StoreValue). Stayed c.args.seat c.args.step t t) c.self.view_is (stayed_none c.self.inside c.args.seat c.args.step c.planned.new.view plan)

pub returns-in-Some-clause-step : goal.returns-in-Some-clause-step
returns-in-Some-clause-step c =
    let m : Inside = record { table = c.commit.new.table; lock = c.commit.new.lock; views = c.commit.new.views } in
    let plan = subst (λ (o : Option Change). IsPlanOf c.self.inside.table.sizes (state_of (value_of c.self.inside)) c.args.seat c.args.step c.planned.new.view o) c.in-Some.is c.in_ok-planned.ensures.0 in
    subst (λ (t : StoreValue). Stepped c.args.seat c.args.step t (value_of m)) c.self.view_is (stepped_some c.self.inside m c.args.seat c.args.step c.in-Some.change c.planned.new.view c.commit.ensures.sizes plan c.commit.ensures.state)
