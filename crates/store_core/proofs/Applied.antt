-- What a store that runs keeps, and lists of its steps.
use Rattle.std.proofs.Common.{◌≡◌, ℕ, suc, ◌+◌, ◌*◌, ◌<◌, ◌≤◌, ◌^◌, Bool, true, false, cond, None, Some, List, [], ◌∷◌, ◌++◌, length, get_or, take, drop, replicate, add-one, refl, sym, ap, ◌∙◌, subst, ⊎_elim, arith, true≢false}
use Rattle.std.specs.Prelude.{MatchBool}
use Rattle.std.proofs.lemmas.Bool.{cases_lt}
use Rattle.std.proofs.lemmas.List.{take-append-drop}
use Rattle.std.proofs.Math.Seq.{take-suc, drop-cons}
use Rattle.std.proofs.Math.Nat.{mul-le-mul_left, mul-le-mul_right, le_trans}
use mathlib.Core.Path.{fun_ext}
use Rattle.lock_core.specs.Lock.{Lock}
use Rattle.lock_core.specs.Lock as lock
use Rattle.store_model.specs.declared.view.Place.{Place}
use Rattle.store_model.specs.declared.view.Place.TheVariants.{Base, FreeCount, Claim, InUse, FreePlace, Bucket, RowWord, Birth, Next, RootCount, Root}
use Rattle.store_model.specs.declared.view.View.{View}
use Rattle.store_model.specs.Machine.{State, widest}
use Rattle.store_model.specs.declared.view.Sizes.{Sizes}
use Rattle.store_model.specs.Steps.{newcomer}
use Rattle.store_model.specs.Shown.{shown, total, index_of}
use Rattle.store_core.specs.Running.{IsBegun}
use Rattle.store_model.specs.Runs.{AreSizes, at_start}
use Rattle.store_model.specs.StoreHolds.{StoreHolds}
use Rattle.store_model.specs.StoreSteps as steps
use Rattle.store_model.specs.StoreSteps.{IsInPlace, Leads}
use Rattle.store_model.specs.NewStore.{MaySize, first_words, start_of}
use Rattle.store_core.specs.StoreValue.{StoreValue, state_of, IsNew, Stepped, Stayed, Replays}
use Rattle.store_core.specs.Planning.{state_by, changed, IsPlanOf}
use Rattle.store_core.specs.StoreInside.{value_of, IsHeld}
use Rattle.store_core.specs.declared.state.StoreState.TheInside.{Inside}
use Rattle.store_model.specs.declared.step.StoreStep.{StoreStep}
use Rattle.store_core.specs.declared.machine.change.Change.{Change}
use Rattle.store_model.proofs.Eight.{eight}
use Rattle.store_model.proofs.Runs.{starts}
use Rattle.store_model.proofs.Follows.{below, not_below, holds_after, first_starts}
use Rattle.store_core.proofs.Planning.{views_first}
use Rattle.store_model.proofs.Shown.{total_is}

-- the facts hold of the fields after a change was made
pub held_after : (z y : Sizes) (l m : Lock) (had has : List ℕ) (vs us : List View) (i : ℕ) (x : StoreStep) (c : Change) (v : View) → y ≡ z → StoreHolds z (state_by z l had vs) → IsInPlace z (state_by z l had vs) i x → steps.after z (state_by z l had vs) i x ≡ changed (state_by z l had vs) i c v → state_by z m has us ≡ changed (state_by z l had vs) i c v → StoreHolds y (state_by y m has us)
held_after z y l m had has vs us i x c v same k ok after made =
    let at_z : StoreHolds z (state_by z m has us) = subst (StoreHolds z) (after ∙ sym made) (holds_after z (state_by z l had vs) i x k ok) in
    subst (λ (t : Sizes). StoreHolds t (state_by t m has us)) (sym same) at_z

-- the state after it is that of the step
pub stepped_to : (z y : Sizes) (l m : Lock) (had has : List ℕ) (vs us : List View) (i : ℕ) (x : StoreStep) (c : Change) (v : View) → y ≡ z → steps.after z (state_by z l had vs) i x ≡ changed (state_by z l had vs) i c v → state_by z m has us ≡ changed (state_by z l had vs) i c v → state_by y m has us ≡ steps.after z (state_by z l had vs) i x
stepped_to z y l m had has vs us i x c v same after made = ap (λ (t : Sizes). state_by t m has us) same ∙ (made ∙ sym after)

-- the words of a new store
module _ (z : Sizes) (words : List ℕ) (h : IsBegun z z.rows (shown z words)) where
  absent : (i : ℕ) → z.rows ≤ i → shown z words (FreePlace i) ≡ 0
  absent i l = ap (λ (b : Bool). cond b (get_or words (index_of z (FreePlace i)) 0) 0) (not_below i z.rows l)

  first_at : (p : Place) → shown z words p ≡ first_words z p
  first_at Base = h.base
  first_at FreeCount = h.count
  first_at Claim = h.claim
  first_at InUse = h.in_use
  first_at (FreePlace i) = ⊎_elim (λ l. h.place i l ∙ sym (ap (λ (b : Bool). cond b i 0) (below i z.rows l))) (λ l. absent i l ∙ sym (ap (λ (b : Bool). cond b i 0) (not_below i z.rows l))) (cases_lt i z.rows)
  first_at (Bucket b) = h.bucket b
  first_at (RowWord r k) = h.word r k
  first_at (Birth r) = h.birth r
  first_at (Next r) = h.next r
  first_at (RootCount j) = h.root_count j
  first_at (Root j k) = h.root j k

  pub first_is : shown z words ≡ first_words z
  first_is = fun_ext first_at

-- a list of steps with one more
pub leads_more : (z : Sizes) (xs : List (ℕ × StoreStep)) (s t u : State) (i : ℕ) (x : StoreStep) → Leads z s xs t → IsInPlace z t i x → u ≡ steps.after z t i x → Leads z s (xs ++ (i, x) ∷ []) u
leads_more z [] s t u i x e ok d = (subst (λ (r : State). IsInPlace z r i x) e ok, d ∙ ap (λ (r : State). steps.after z r i x) e)
leads_more z (y ∷ xs) s t u i x path ok d = (path.0, leads_more z xs (steps.after z s y.0 y.1) t u i x path.1 ok d)

-- no list goes on after a step out of place
pub leads_stuck : (z : Sizes) (xs ys : List (ℕ × StoreStep)) (s t u : State) (i : ℕ) (x : StoreStep) → Leads z s xs t → (IsInPlace z t i x → ⊥) → Leads z s (xs ++ (i, x) ∷ ys) u → ⊥
leads_stuck z [] ys s t u i x e out path = out (subst (λ (r : State). IsInPlace z r i x) (sym e) path.0)
leads_stuck z (y ∷ xs) ys s t u i x path out on = leads_stuck z xs ys (steps.after z s y.0 y.1) t u i x path.1 out on.1

-- a new store
pub new_is : (z y : Sizes) (l : Lock) (words : List ℕ) (vs : List View) → y ≡ z → IsBegun y y.rows (shown y words) → l ≡ lock.at_start z.seats → vs ≡ replicate z.seats (newcomer z) → IsNew z (record { sizes = y; lock = l; words = words; views = vs })
new_is z y l words vs same h at views = record {
  sizes = same;
  state = ap (λ (t : Sizes). state_by t l words vs) same ∙ (ap (λ (m : Lock). state_by z m words vs) at ∙ (ap (λ (us : List View). state_by z (lock.at_start z.seats) words us) views
      ∙ (ap (λ (f : ℕ → View). record { lock = lock.at_start z.seats; words = shown z words; view = f }) (views_first z.seats (newcomer z))
      ∙ ap (at_start z) (first_is z words (subst (λ (t : Sizes). IsBegun t t.rows (shown t words)) same h)))));
}

sizes_may : (z : Sizes) → MaySize z → AreSizes z
sizes_may z m = record { first = m.first; room = let a = m.room in omega arith; used = let a = m.start.0 in omega arith; within = m.start.1 }

-- the facts hold of it
pub new_holds : (z : Sizes) (t : StoreValue) → MaySize z → IsNew z t → StoreHolds t.sizes (state_of t)
new_holds z t m n = subst (λ (y : Sizes). StoreHolds y (state_of t)) (sym n.sizes) (subst (StoreHolds z) (sym n.state) (eight z (start_of z) (starts z (first_words z) (sizes_may z m) (first_starts z))))

-- its table isn't too large
pub total_small : (z : Sizes) → MaySize z → total z < 2 ^ 62
total_small z m =
    let a = m.rows.1 in let b = m.buckets.1 in let s = m.seats.1 in let d = m.depth in let n = m.arity in
    let wide : widest z + 4 ≤ 20 = omega arith in
    let rows : z.rows * (widest z + 4) ≤ 262144 * 20 = le_trans (mul-le-mul_left z.rows wide) (mul-le-mul_right 20 a) in
    let seats : z.seats * (z.depth + 1) ≤ 16 * 65537 = le_trans (mul-le-mul_left z.seats (let e : z.depth + 1 ≤ 65537 = omega arith in e)) (mul-le-mul_right 65537 s) in
    let is = total_is z in omega arith

-- a seat that isn't there makes no step
pub stayed_absent : (n : Inside) (i : ℕ) (x : StoreStep) → n.table.sizes.seats ≤ i → Stayed i x (value_of n) (value_of n)
stayed_absent n i x l = record { place = λ k. let a = k.step.present in absurd (omega arith); same = refl }

-- nor is one made that has no plan
pub stayed_none : (n : Inside) (i : ℕ) (x : StoreStep) (v : View) → IsPlanOf n.table.sizes (state_of (value_of n)) i x v None → Stayed i x (value_of n) (value_of n)
stayed_none n i x _ none = record { place = none; same = refl }

-- a plan that was made
pub stepped_some : (n m : Inside) (i : ℕ) (x : StoreStep) (c : Change) (v : View) → m.table.sizes ≡ n.table.sizes → IsPlanOf n.table.sizes (state_of (value_of n)) i x v (Some c) → state_by n.table.sizes m.lock m.table.words.items m.views.items ≡ changed (state_of (value_of n)) i c v → Stepped i x (value_of n) (value_of m)
stepped_some n m i x c v same plan made = record {
  place = plan.0;
  sizes = same;
  state = stepped_to n.table.sizes m.table.sizes n.lock m.lock n.table.words.items m.table.words.items n.views.items m.views.items i x c v same plan.1 made;
}

pub held_some : (n m : Inside) (i : ℕ) (x : StoreStep) (c : Change) (v : View) → IsHeld n → m.table.sizes ≡ n.table.sizes → length m.views.items ≡ length n.views.items → IsPlanOf n.table.sizes (state_of (value_of n)) i x v (Some c) → state_by n.table.sizes m.lock m.table.words.items m.views.items ≡ changed (state_of (value_of n)) i c v → IsHeld m
held_some n m i x c v held same long plan made = record {
  views = long ∙ (held.views ∙ ap (λ (z : Sizes). z.seats) (sym same));
  holds = held_after n.table.sizes m.table.sizes n.lock m.lock n.table.words.items m.table.words.items n.views.items m.views.items i x c v same held.holds plan.0 plan.1 made;
}

-- a new store is held
pub held_new : (z : Sizes) (n : Inside) → MaySize z → IsNew z (value_of n) → length n.views.items ≡ z.seats → IsHeld n
held_new z n may new long = record { views = long ∙ ap (λ (y : Sizes). y.seats) (sym new.sizes); holds = new_holds z (value_of n) may new }

-- a replay goes on, and stops
pub replays_more : (z : Sizes) (xs : List (ℕ × StoreStep)) (k : ℕ) (t u : StoreValue) (y : ℕ × StoreStep) → k < length xs → y ≡ get_or xs k y → t.sizes ≡ z → Leads z (start_of z) (take k xs) (state_of t) → Stepped y.0 y.1 t u → (u.sizes ≡ z) × Leads z (start_of z) (take (k + 1) xs) (state_of u)
replays_more z xs k t u y l is same path h = (
  h.sizes ∙ same,
  subst (λ (ys : List (ℕ × StoreStep)). Leads z (start_of z) ys (state_of u)) (sym (ap (λ (n : ℕ). take n xs) (add-one k) ∙ (take-suc xs k y l ∙ ap (λ (x : ℕ × StoreStep). take k xs ++ x ∷ []) (sym is))))
      (leads_more z (take k xs) (start_of z) (state_of t) (state_of u) y.0 y.1 path (subst (λ (s : Sizes). IsInPlace s (state_of t) y.0 y.1) same h.place) (h.state ∙ ap (λ (s : Sizes). steps.after s (state_of t) y.0 y.1) same)),
)

pub replays_stop : (z : Sizes) (xs : List (ℕ × StoreStep)) (k : ℕ) (t u : StoreValue) (y : ℕ × StoreStep) → k < length xs → y ≡ get_or xs k y → t.sizes ≡ z → Leads z (start_of z) (take k xs) (state_of t) → Stayed y.0 y.1 t u → Replays z xs None
replays_stop z xs k t u y l is same path h = λ s all.
    leads_stuck z (take k xs) (drop (suc k) xs) (start_of z) (state_of t) s y.0 y.1 path (λ p. h.place (subst (λ (a : Sizes). IsInPlace a (state_of t) y.0 y.1) (sym same) p))
    (subst (λ (ys : List (ℕ × StoreStep)). Leads z (start_of z) ys s) (sym (take-append-drop k xs) ∙ ap (λ (ys : List (ℕ × StoreStep)). take k xs ++ ys) (drop-cons xs k y l ∙ ap (λ (x : ℕ × StoreStep). x ∷ drop (suc k) xs) (sym is))) all)

-- what was answered
pub if_made : (b : Bool) (P Q : Type 0) → MatchBool b P Q → b ≡ true → P
if_made true P Q h e = h
if_made false P Q h e = absurd (true≢false (sym e))

pub if_not_made : (b : Bool) (P Q : Type 0) → MatchBool b P Q → b ≡ false → Q
if_not_made true P Q h e = absurd (true≢false e)
if_not_made false P Q h e = h
