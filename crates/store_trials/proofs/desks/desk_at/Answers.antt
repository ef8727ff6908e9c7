use Rattle.std.proofs.Common.{◌≡◌, ◌≤◌, refl, ap, arith}
use Rattle.std.specs.Prelude.{IfOk, Result, Ok, Err}
use Rattle.std.proofs.Math.Nat.{le-max_right}
use Rattle.store_model.specs.Machine.{widest}
use Rattle.store_model.specs.declared.view.Sizes.{Sizes}
use Rattle.shared_desk.specs.Pass.{PassView}
use Rattle.shared_desk.specs.Passes.{seen_of}
use Rattle.store_trials.proofs.desks.desk_at.Goals as goal

-- a pass is as wide as its store, which has room for two arguments
wide_for_two : {A E : Type 0} (view : A → PassView) (v : PassView) (z : Sizes) (r : Result A E) → v.arity ≡ widest z → IfOk r (λ a. view a ≡ v) → IfOk r (λ a. 2 ≤ (view a).arity)
wide_for_two view v z (Ok a) w e = let x = ap (λ (u : PassView). u.arity) e in let two : 2 ≤ widest z = le-max_right z.arity 2 in omega (arith, x, w, two)
wide_for_two view v z (Err x) w e = tt

pub returns-clause-width : goal.returns-clause-width
returns-clause-width g c = wide_for_two (λ d. d.pass) (seen_of c.args.store.now c.args.pass) c.args.store.now.sizes c.new.result refl c.new.ensures.pass
