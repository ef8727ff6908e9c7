-- The end of a collection by what it has loaded, and plans that are handed on.
use Rattle.std.proofs.Common.{◌≡◌, ℕ, List, None, Some, ap, ◌∙◌}
use Rattle.std.specs.Prelude.{Option, Result, Ok, Err, IfOk}
use Rattle.faults.specs.declared.Memory.{Memory}
use Rattle.store_model.specs.declared.view.Place.{Place}
use Rattle.store_model.specs.declared.view.View.{View}
use Rattle.store_model.specs.declared.view.Call.TheVariants.{Storing}
use Rattle.store_model.specs.Steps.{is_storing, loads}
use Rattle.store_model.specs.Ending.{IsEnding}
use Rattle.store_core.specs.declared.machine.change.Change.{Change}
use Rattle.store_core.specs.declared.machine.change.Sight.{Sight}
use Rattle.store_core.specs.Planning.{PlansEnd, PlansClaim, sizes_seen, state_seen}

-- the end of a collection by what it has loaded is one of the whole state
pub claims : (g : Sight) (ls ss : List (Place × ℕ)) (n : ℕ) (v : View) (o : Option Change) → g.view.now.call ≡ Storing ls ss → PlansEnd g ls n v (Ok o) → PlansClaim g n v (Ok o)
claims g ls ss n v None e h = λ s k seen. let is : (s.view g.seat).call ≡ Storing ls ss = ap (λ (u : View). u.call) seen.view ∙ e in
    let ending : IsEnding (sizes_seen g) (state_seen g).words ls s g.seat = record { holds = k; words = seen.words; storing = ap is_storing is; loaded = ap loads is } in
    λ p. h s ending (p.0.1, p.1)
claims g ls ss n v (Some c) e h = λ s k seen. let is : (s.view g.seat).call ≡ Storing ls ss = ap (λ (u : View). u.call) seen.view ∙ e in
    let ending : IsEnding (sizes_seen g) (state_seen g).words ls s g.seat = record { holds = k; words = seen.words; storing = ap is_storing is; loaded = ap loads is } in
    let q = h s ending in ((ap is_storing is, q.0), q.1, q.2)

-- a plan that is handed on
pub ok_map : {A E : Type 0} (r : Result A E) (P Q : A → Type 0) → IfOk r P → ((a : A) → P a → Q a) → IfOk r Q
ok_map (Ok a) P Q h f = f a h
ok_map (Err e) P Q h f = tt

-- the plan of the end is one of the claim's store
pub claims_all : (g : Sight) (ls ss : List (Place × ℕ)) (n : ℕ) (v : View) (r : Result (Option Change) Memory) → g.view.now.call ≡ Storing ls ss → PlansEnd g ls n v r → PlansClaim g n v r
claims_all g ls ss n v (Ok o) e h = claims g ls ss n v o e h
claims_all g ls ss n v (Err x) e h = tt
