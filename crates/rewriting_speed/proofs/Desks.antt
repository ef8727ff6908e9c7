-- The new shared store, and the desk at its pass.
use Rattle.std.proofs.Common.{◌≡◌, ℕ, ◌<◌, ◌≤◌, List, [], ◌∷◌, ◌++◌, get_or, length, refl, ap, sym, subst, ◌∙◌, arith}
use Rattle.std.specs.Prelude.{Result, Ok, Err, IfOk, All, false, max}
use Rattle.std.proofs.lemmas.List.{length_push}
use Rattle.rule_match.specs.Planned.{Planned}
use Rattle.innermost.specs.Machines.{Made, IsFor}
use Rattle.store_model.specs.NewStore.{MaySize}
use Rattle.store_model.specs.Machine.{widest}
use Rattle.store_model.specs.declared.view.Sizes.{Sizes}
use Rattle.node_rows.specs.Passes.{IsStore}
use Rattle.node_rows.specs.declared.store.Store.{Store}
use Rattle.node_rows.specs.declared.store.Pass.{Pass}
use Rattle.shared_desk.specs.Code.{Contents}
use Rattle.shared_desk.specs.Desk.{store_of}
use Rattle.shared_desk.specs.Pass.{PassView}
use Rattle.shared_desk.specs.Passes.{seen_of}
use Rattle.plain_store.specs.Contents as own
use Rattle.rewriting_speed.specs.Ready.{IsReady}
use Rattle.rewriting_speed.specs.Shared.{sizes_of}

pub may_size : (w : ℕ) → w ≤ 16 → MaySize (sizes_of w)
may_size w le = record {
  rows = (omega arith, omega arith);
  buckets = (omega arith, omega arith);
  start = (omega arith, omega arith);
  seats = (omega arith, omega arith);
  depth = omega arith;
  arity = le;
  first = omega arith;
  room = omega arith;
}

-- what `Store::make` answers
pub sizes_are : {V E : Type 0} (z w : Sizes) (r : Result (Store × V) E) → z ≡ w
    → IfOk r (λ t. IsStore t.0.table.shared.table_id t.0.table.shared.key t.0.sizes × (t.0.sizes ≡ z)) → IfOk r (λ t. t.0.sizes ≡ w)
sizes_are z w (Ok t) e store = store.1 ∙ e
sizes_are z w (Err x) e store = tt

wide : (m n : ℕ) → m ≤ max m n
wide m n = grind arith

-- a new desk is ready
ready : (s : Store) (p : Pass) (d : Contents) (plan : Planned) (machine : Made) → d.pass ≡ seen_of s p → d.stack ≡ [] → (store_of d).inside ≡ false
    → IsFor plan machine → s.sizes ≡ sizes_of plan.widest → machine.depth ≤ 65536 → IsReady plan machine (store_of d)
ready s p d plan machine e stack out fits sizes depth =
    let arity : d.pass.arity ≡ max plan.widest 2 = ap (λ (u : PassView). u.arity) e ∙ ap widest sizes in
    let room : d.pass.depth ≡ 65536 = ap (λ (u : PassView). u.depth) e ∙ ap (λ (z : Sizes). z.depth) sizes in
    let more = wide plan.widest 2 in
    record { outside = out; empty = stack; fits = fits; width = omega (arith, arity, more); room = omega (arith, room, depth) }

pub ready_of : {E : Type 0} (s : Store) (p : Pass) (r : Result Contents E) (plan : Planned) (machine : Made) → IfOk r (λ d. d.pass ≡ seen_of s p) → IfOk r (λ d. d.stack ≡ [])
    → IfOk r (λ d. (store_of d).inside ≡ false) → IsFor plan machine → s.sizes ≡ sizes_of plan.widest → machine.depth ≤ 65536 → IfOk r (λ d. IsReady plan machine (store_of d))
ready_of s p (Ok d) plan machine e stack out fits sizes depth = ready s p d plan machine e stack out fits sizes depth
ready_of s p (Err x) plan machine e stack out fits sizes depth = tt

-- and so is a new store of one's own
pub own_ready : {E : Type 0} (rows depth w : ℕ) (r : Result own.Contents E) (plan : Planned) (machine : Made) → IfOk r (λ c. c ≡ own.empty rows depth (max w 2)) → w ≡ plan.widest
    → IsFor plan machine → machine.depth ≤ depth → IfOk r (λ c. IsReady plan machine (own.store_of c))
own_ready rows depth w (Ok c) plan machine e same fits few =
    let more = wide w 2 in
    let width : plan.widest ≤ max w 2 = omega (arith, same, more) in
    let made : IsReady plan machine (own.store_of (own.empty rows depth (max w 2))) = record { outside = refl; empty = refl; fits = fits; width = width; room = few } in
    subst (λ (x : own.Contents). IsReady plan machine (own.store_of x)) (sym e) made
own_ready rows depth w (Err x) plan machine e same fits few = tt

-- what holds of each holds of the last
at_end : {A : Type 0} (ys : List A) (x : A) → get_or (ys ++ x ∷ []) (length ys) x ≡ x
at_end [] x = refl
at_end (y ∷ ys) x = at_end ys x

pub last_holds : {A : Type 0} (P : A → Type 0) (xs ys : List A) (x : A) → xs ≡ ys ++ x ∷ [] → All P xs → P x
last_holds P xs ys x e all =
    let more = length_push ys x in
    let below : length ys < length (ys ++ x ∷ []) = omega (arith, more) in
    subst P (at_end ys x) (subst (All P) e all (length ys) x below)
