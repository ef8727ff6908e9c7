-- What a seat sees decides: a plan by its own view is one of the whole state.
use Rattle.std.proofs.Common.{◌≡◌, ℕ, zero, suc, ◌<◌, Option, None, Some, List, length, get_or, set, refl, sym, ap, ◌∙◌, subst, replicate}
use Rattle.std.specs.Prelude.{MatchOption, Ok}
use Rattle.std.proofs.lemmas.List.{get_or-set_same, get_or-set_other}
use mathlib.Core.Path.{fun_ext}
use Rattle.lock_core.specs.Lock.{Lock}
use Rattle.store_model.specs.Words.{put}
use Rattle.store_model.specs.declared.view.Place.{Place}
use Rattle.store_model.specs.declared.view.View.{View}
use Rattle.store_model.specs.Machine.{State, Step, LockAlone, StoreClaim}
use Rattle.store_model.specs.declared.view.Sizes.{Sizes}
use Rattle.store_model.specs.Steps.{Permits, after, newcomer}
use Rattle.store_model.specs.StoreHolds.{StoreHolds}
use Rattle.store_model.specs.StoreSteps as steps
use Rattle.store_model.specs.StoreSteps.{meant, Fits}
use Rattle.store_model.specs.declared.step.StoreStep.{StoreStep}
use Rattle.store_model.specs.declared.step.StoreStep.TheVariants as step
use Rattle.store_core.specs.declared.machine.change.Change.{Change}
use Rattle.store_core.specs.declared.machine.change.Sight.{Sight}
use Rattle.store_core.specs.Planning.{state_seen, sizes_seen, view_after, lock_with, words_with, changed, Makes, Allows, IsPlanOf, Serves, state_by}
use Rattle.store_model.specs.Shown.{shown}
use Rattle.store_model.proofs.Basics.{put_case}

pub put_back : {A : Type 0} (f : ℕ → A) (i : ℕ) → f ≡ put f i (f i)
put_back f i = fun_ext (λ j. put_case (λ x. f j ≡ x) f i (f i) j (λ e. ap f e) (λ _. refl))

-- the state with this lock, these words and, for every seat, this view
abbrev pub alone : Lock → (Place → ℕ) → View → State
alone l w v = record { lock = l; words = w; view = λ _. v }

abbrev pub whole : Lock → (Place → ℕ) → (ℕ → View) → State
whole l w f = record { lock = l; words = w; view = f }

module _ (z : Sizes) (l : Lock) (w : Place → ℕ) (i : ℕ) (f : ℕ → View) where
  permits_to : (x : Step) → Permits z (alone l w (f i)) i x → Permits z (whole l w f) i x
  permits_to StoreClaim h = (h.0, let k = h.1 in record { meaning = k.meaning; rows = k.rows; chains = k.chains; live = k.live; base = k.base; claim = k.claim; in_use = k.in_use; base_loaded = k.base_loaded; claim_loaded = k.claim_loaded; in_use_loaded = k.in_use_loaded; base_is = k.base_is; in_use_is = k.in_use_is })
  permits_to x h = h

  permits_from : (x : Step) → Permits z (whole l w f) i x → Permits z (alone l w (f i)) i x
  permits_from StoreClaim h = (h.0, let k = h.1 in record { meaning = k.meaning; rows = k.rows; chains = k.chains; live = k.live; base = k.base; claim = k.claim; in_use = k.in_use; base_loaded = k.base_loaded; claim_loaded = k.claim_loaded; in_use_loaded = k.in_use_loaded; base_is = k.base_is; in_use_is = k.in_use_is })
  permits_from x h = h

  meant_is : (x : StoreStep) → meant (alone l w (f i)) i x ≡ meant (whole l w f) i x
  meant_is x = refl

  whole_after : (x : Step) → after z (whole l w f) i x ≡ record { lock = (after z (alone l w (f i)) i x).lock; words = (after z (alone l w (f i)) i x).words; view = put f i (view_after z w i (f i) x) }
  whole_after (LockAlone x) = ap (λ (g : ℕ → View). whole (after z (alone l w (f i)) i (LockAlone x)).lock w g) (put_back f i)
  whole_after x = refl

  -- what a plan says at one view
  pub record Said (v : View) (x : StoreStep) (c : Change) (u : View) : Type 0 where
    pub permitted : Permits z (alone l w v) i (meant (alone l w v) i x)
    pub fits : Fits z v x
    pub lock : lock_with l c.lock ≡ (after z (alone l w v) i (meant (alone l w v) i x)).lock
    pub words : words_with w c.stored ≡ (after z (alone l w v) i (meant (alone l w v) i x)).words
    pub view : u ≡ view_after z w i v (meant (alone l w v) i x)

  after_by : (x : Step) (c : Change) (u : View) → lock_with l c.lock ≡ (after z (alone l w (f i)) i x).lock → words_with w c.stored ≡ (after z (alone l w (f i)) i x).words → u ≡ view_after z w i (f i) x → after z (whole l w f) i x ≡ changed (whole l w f) i c u
  after_by x c u a b d = whole_after x ∙ (ap (λ (m : Lock). whole m (after z (alone l w (f i)) i x).words (put f i (view_after z w i (f i) x))) (sym a)
      ∙ (ap (λ (ws : Place → ℕ). whole (lock_with l c.lock) ws (put f i (view_after z w i (f i) x))) (sym b)
      ∙ ap (λ (y : View). whole (lock_with l c.lock) (words_with w c.stored) (put f i y)) (sym d)))

  in_place : (x : StoreStep) → i < z.seats → Permits z (alone l w (f i)) i (meant (alone l w (f i)) i x) → Fits z (f i) x → steps.IsInPlace z (whole l w f) i x
  in_place x there p k = record { step = record { present = there; permitted = subst (λ (y : Step). Permits z (whole l w f) i y) (meant_is x) (permits_to (meant (alone l w (f i)) i x) p) }; fits = k }

  out_of_place : (x : StoreStep) → (Permits z (alone l w (f i)) i (meant (alone l w (f i)) i x) × Fits z (f i) x → ⊥) → steps.IsInPlace z (whole l w f) i x → ⊥
  out_of_place x none k = none (permits_from (meant (alone l w (f i)) i x) (subst (λ (y : Step). Permits z (whole l w f) i y) (sym (meant_is x)) k.step.permitted), k.fits)

  said_plan : (x : StoreStep) (c : Change) (u : View) → i < z.seats → Said (f i) x c u → IsPlanOf z (whole l w f) i x u (Some c)
  said_plan x c u there h = (in_place x there h.permitted h.fits, ap (λ (y : Step). after z (whole l w f) i y) (sym (meant_is x)) ∙ after_by (meant (alone l w (f i)) i x) c u h.lock h.words h.view)

  -- the same at a view that is the seat's
  pub plan_some : (v : View) → f i ≡ v → (x : StoreStep) (c : Change) (u : View) → i < z.seats → Said v x c u → IsPlanOf z (whole l w f) i x u (Some c)
  plan_some v e x c u there h = said_plan x c u there (subst (λ (a : View). Said a x c u) (sym e) h)

  pub plan_none : (v : View) → f i ≡ v → (x : StoreStep) (u : View) → (Permits z (alone l w v) i (meant (alone l w v) i x) × Fits z v x → ⊥) → IsPlanOf z (whole l w f) i x u None
  plan_none v e x _ none = out_of_place x (subst (λ (u : View). Permits z (alone l w u) i (meant (alone l w u) i x) × Fits z u x → ⊥) (sym e) none)

  -- of the end of a collection
  pub claim_some : (v : View) → f i ≡ v → (n : ℕ) (c : Change) (u : View) → i < z.seats → Permits z (whole l w f) i StoreClaim → n ≡ 0 → lock_with l c.lock ≡ l → words_with w c.stored ≡ (after z (alone l w v) i StoreClaim).words → u ≡ view_after z w i v StoreClaim → IsPlanOf z (whole l w f) i (step.StoreClaim n) u (Some c)
  claim_some v e n c u there p none a b d = (record { step = record { present = there; permitted = p }; fits = none }, after_by StoreClaim c u a b (d ∙ ap (λ (y : View). view_after z w i y StoreClaim) (sym e)))

  pub claim_none : (n : ℕ) (u : View) → (Permits z (whole l w f) i StoreClaim × (n ≡ 0) → ⊥) → IsPlanOf z (whole l w f) i (step.StoreClaim n) u None
  claim_none n _ none k = none (k.step.permitted, k.fits)

module _ (g : Sight) (f : ℕ → View) (e : f g.seat ≡ g.view.now) (there : g.seat < g.table.now.sizes.seats) where
  abbrev pub seen_whole : State
  seen_whole = whole g.lock.now (state_seen g).words f

  plain : (x : StoreStep) (u : View) (o : Option Change) → MatchOption o (Allows g (meant (state_seen g) g.seat x) × Fits (sizes_seen g) g.view.now x → ⊥) (λ c. Allows g (meant (state_seen g) g.seat x) × Fits (sizes_seen g) g.view.now x × Makes g (meant (state_seen g) g.seat x) c u) → IsPlanOf (sizes_seen g) seen_whole g.seat x u o
  plain x u None h = plan_none (sizes_seen g) g.lock.now (state_seen g).words g.seat f g.view.now e x u h
  plain x u (Some c) h = plan_some (sizes_seen g) g.lock.now (state_seen g).words g.seat f g.view.now e x c u there (record { permitted = h.0; fits = h.1; lock = h.2.lock; words = h.2.words; view = h.2.view })

  claim : (n : ℕ) (u : View) (o : Option Change) → MatchOption o (Permits (sizes_seen g) seen_whole g.seat StoreClaim × (n ≡ 0) → ⊥) (λ c. Permits (sizes_seen g) seen_whole g.seat StoreClaim × (n ≡ 0) × Makes g StoreClaim c u) → IsPlanOf (sizes_seen g) seen_whole g.seat (step.StoreClaim n) u o
  claim n u None h = claim_none (sizes_seen g) g.lock.now (state_seen g).words g.seat f n u h
  claim n u (Some c) h = claim_some (sizes_seen g) g.lock.now (state_seen g).words g.seat f g.view.now e n c u there h.0 h.1 h.2.lock h.2.words h.2.view

  -- a plan by what the seat sees is one of the state
  pub served : StoreHolds (sizes_seen g) seen_whole → (x : StoreStep) (u : View) (o : Option Change) → Serves g x u (Ok o) → IsPlanOf (sizes_seen g) seen_whole g.seat x u o
  served k (step.StoreClaim n) u o h = claim n u o (h seen_whole k (record { lock = refl; words = refl; view = e }))
  served k x u o h = plain x u o h

-- a view in the list of all views
pub views_put : (vs : List View) (i : ℕ) (v d : View) → i < length vs → ◌≡◌ {A = ℕ → View} (λ j. get_or (set vs i v) j d) (put (λ j. get_or vs j d) i v)
views_put vs i v d l = fun_ext (λ j. put_case (λ x. get_or (set vs i v) j d ≡ x) (λ k. get_or vs k d) i v j
    (λ e. ap (λ (k : ℕ). get_or (set vs i v) k d) e ∙ get_or-set_same vs i v d l)
    (λ ne. get_or-set_other vs i j v d ne))

first_at : (n : ℕ) (v : View) (j : ℕ) → get_or (replicate n v) j v ≡ v
first_at zero v j = refl
first_at (suc n) v zero = refl
first_at (suc n) v (suc j) = first_at n v j

-- every seat of a new store has done nothing
pub views_first : (n : ℕ) (v : View) → ◌≡◌ {A = ℕ → View} (λ j. get_or (replicate n v) j v) (λ j. v)
views_first n v = fun_ext (λ j. first_at n v j)

-- what a change that is made comes to
pub committed : (z y : Sizes) (l m : Lock) (had has : List ℕ) (vs : List View) (i : ℕ) (c : Change) (v : View) → m ≡ lock_with l c.lock → shown y has ≡ words_with (shown z had) c.stored → y ≡ z → i < length vs → state_by z m has (set vs i v) ≡ changed (state_by z l had vs) i c v
committed z y l m had has vs i c v lock words same there =
    ap (λ (k : Lock). state_by z k has (set vs i v)) lock ∙ (ap (λ (w : Place → ℕ). whole (lock_with l c.lock) w (λ j. get_or (set vs i v) j (newcomer z))) (ap (λ (t : Sizes). shown t has) (sym same) ∙ words)
    ∙ ap (whole (lock_with l c.lock) (words_with (shown z had) c.stored)) (views_put vs i v (newcomer z) there))
