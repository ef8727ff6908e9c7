-- The worked runs' steps are in place.
use Rattle.std.proofs.Common.{◌≡◌, ◌⊎◌, ℕ, zero, suc, ◌<◌, ◌≤◌, Bool, true, false, cond, List, [], ◌∷◌, ◌++◌, refl, sym, ap, ◌∙◌, subst, ⊎_elim, inl, inr, arith, true≢false}
use Rattle.hash_buckets.specs.Hash.{hash_of, bucket_of}
use Rattle.store_model.specs.Words.{Place, Base, Claim, InUse, FreePlace, Bucket, RowWord, RootCount, Root}
use Rattle.store_model.specs.Calls.{bucket_below, Ready}
use Rattle.store_model.specs.Machine.{State}
use Rattle.store_model.specs.Steps.{is_storing, ReachesByWords, protected_row, argument_row, MayEnd}
use Rattle.store_model.specs.Runs.{Inductive}
use Rattle.store_model.specs.NewStore.{first_words, start_of}
use Rattle.store_model.specs.StoreSteps.{IsInPlace, Leads, after}
use Rattle.store_model.specs.Marks.{IsMarked, MarksReached, MarksFree}
use Rattle.store_model.specs.MarkedChains.{StandsIn, IsNoted, IsChained, ChainsMarked}
use Rattle.store_model.specs.Ending.{Keeps}
use Rattle.store_model.specs.Worked.{ran, run_of, constant, small, race, both, nest, nests, rooms, begins_sweep, sweeps, ends_sweep, sweep, frees_nothing, makes_again, RunsAreInPlace}
use Rattle.store_model.specs.declared.step.StoreStep.TheVariants.{Lock, StoreClaim}
use Rattle.lock_core.specs.declared.parts.LockStep.TheVariants.{Unask, Give}
use Rattle.store_model.proofs.Follows.{first_starts}
use Rattle.store_model.proofs.Placed.{the, path, joined}
use Rattle.store_model.proofs.Runs.{starts, kept_along}
use Rattle.store_model.proofs.WorkedEnds.{not_zero, below_two, no_seats, ends_so}
use Rattle.store_model.proofs.WorkedWorn.{worn_at_once, worn_then}

pub race_placed : Leads small (start_of small) race (run_of small race)
unfolding hash_of bucket_of
race_placed = the (path small (start_of small) race) refl

pub both_placed : Leads small (start_of small) both (run_of small both)
unfolding hash_of bucket_of
both_placed = the (path small (start_of small) both) refl

pub nest_placed : Leads nest (start_of nest) nests (run_of nest nests)
unfolding hash_of bucket_of
nest_placed = the (path nest (start_of nest) nests) refl

abbrev begun : State
begun = start_of rooms

-- before the claim is stored
abbrev swept : State
swept = ran rooms begun (begins_sweep ++ sweeps)

to_swept : Leads rooms begun (begins_sweep ++ sweeps) swept
unfolding hash_of bucket_of
to_swept = the (path rooms begun (begins_sweep ++ sweeps)) refl

-- and where nothing is freed
to_hoarded : Leads rooms begun frees_nothing (run_of rooms frees_nothing)
unfolding hash_of bucket_of
to_hoarded = the (path rooms begun frees_nothing) refl

starts_so : Inductive rooms begun
starts_so = starts rooms (first_words rooms)
    (record { first = omega arith; room = omega arith; used = omega arith; within = omega arith })
    (first_starts rooms)

-- With the rows 0 and 1 protected, each by a seat, and no arguments, no other is reached.
module _ (w : Place → ℕ) (first : w (RootCount 0) ≡ 1) (second : w (RootCount 1) ≡ 1) (none : (j : ℕ) → 2 ≤ j → w (RootCount j) ≡ 0) (zeroth : w (Root 0 0) ≡ 0) (next : w (Root 1 0) ≡ 1) (plain : w (RowWord 0 1) ≡ 0) (simple : w (RowWord 1 1) ≡ 0) where
  two : (r : ℕ) → ReachesByWords w r → (r ≡ 0) ⊎ (r ≡ 1)
  two r (protected_row zero k l) = inl (let e : k ≡ 0 = omega arith in ap (λ (q : ℕ). w (Root 0 q)) e ∙ zeroth)
  two r (protected_row (suc zero) k l) = inr (let e : k ≡ 0 = omega arith in ap (λ (q : ℕ). w (Root 1 q)) e ∙ next)
  two r (protected_row (suc (suc j)) k l) = absurd (let e = none (suc (suc j)) (omega arith) in omega arith)
  two r (argument_row t k y l) = absurd (⊎_elim
      (λ e. let f : w (RowWord t 1) ≡ 0 = ap (λ (q : ℕ). w (RowWord q 1)) e ∙ plain in omega arith)
      (λ e. let f : w (RowWord t 1) ≡ 0 = ap (λ (q : ℕ). w (RowWord q 1)) e ∙ simple in omega arith) (two t y))

swept_so : Inductive rooms swept
swept_so = kept_along rooms (begins_sweep ++ sweeps) begun swept starts_so to_swept

hoarded_so : Inductive rooms (run_of rooms frees_nothing)
hoarded_so = kept_along rooms frees_nothing begun (run_of rooms frees_nothing) starts_so to_hoarded

swept_stores : is_storing (swept.view 0).call ≡ true
unfolding hash_of bucket_of
swept_stores = refl

hoarded_stores : is_storing ((run_of rooms frees_nothing).view 0).call ≡ true
unfolding hash_of bucket_of
hoarded_stores = refl

-- Each load and store of a bucket was one of the only one.
swept_heads : (b : ℕ) → 1 ≤ b → swept.words (Bucket b) ≡ 0
unfolding hash_of bucket_of
swept_heads b l = subst (λ (t : Bool). ◌≡◌ {A = ℕ} (cond t 2 (cond t 3 (cond t 3 (cond t 2 (cond t 2 (cond t 1 (cond t 1 (cond t 0 0)))))))) 0) (sym (not_zero b l)) refl

abbrev live : List Bool
live = true ∷ true ∷ false ∷ false ∷ []

abbrev unused : List Bool
unused = false ∷ false ∷ true ∷ true ∷ []

-- below four, case by case
below_four : (P : ℕ → Type 0) → P 0 → P 1 → P 2 → P 3 → (k : ℕ) → k < 4 → P k
below_four P a b c d zero l = a
below_four P a b c d (suc zero) l = b
below_four P a b c d (suc (suc zero)) l = c
below_four P a b c d (suc (suc (suc zero))) l = d
below_four P a b c d (suc (suc (suc (suc k)))) l = absurd (omega arith)

marked_two : (P : ℕ → Type 0) → P 0 → P 1 → (r : ℕ) → IsMarked live r → P r
marked_two P a b zero e = a
marked_two P a b (suc zero) e = b
marked_two P a b (suc (suc zero)) e = absurd (true≢false (sym e))
marked_two P a b (suc (suc (suc zero))) e = absurd (true≢false (sym e))
marked_two P a b (suc (suc (suc (suc r)))) e = absurd (true≢false (sym e))

swept_reached : MarksReached swept.words 4 live
unfolding hash_of bucket_of
swept_reached = record {
  size = refl;
  marked = λ r. (
    marked_two (ReachesByWords swept.words) (protected_row 0 0 (omega arith)) (protected_row 1 0 (omega arith)) r,
    λ y. ⊎_elim (λ e. subst (IsMarked live) (sym e) refl) (λ e. subst (IsMarked live) (sym e) refl) (two swept.words refl refl (no_seats rooms swept swept_so swept_stores) refl refl refl refl r y),
  );
}

swept_free : MarksFree rooms swept.words unused
unfolding hash_of bucket_of
swept_free = record {
  few = omega arith;
  there = below_two (λ i. swept.words (FreePlace i) < 4) (omega arith) (omega arith);
  places = record {
    size = refl;
    marked = below_four _ refl refl refl refl;
    differ = λ i j a b. below_two (λ p. (q : ℕ) → q < 2 → swept.words (FreePlace p) ≡ swept.words (FreePlace q) → p ≡ q)
        (below_two _ (λ _. refl) (λ e. absurd (omega arith))) (below_two _ (λ e. absurd (omega arith)) (λ _. refl)) i a j b;
  };
}

stands : (r n : ℕ) → n < 4294967296 → swept.words (RowWord r 0) ≡ n → swept.words (RowWord r 1) ≡ 0 → StandsIn swept.words 1 0 r
stands r n l a b = record {
  content = constant n;
  has = record { over = l; words = below_two _ a b };
  bucket = let below = bucket_below (constant n) 1 (omega arith) in omega arith;
}

swept_chain : IsNoted rooms swept.words live live 1 0
unfolding hash_of bucket_of
swept_chain = record {
  rows = 1 ∷ 0 ∷ [];
  sound = record {
    chain = record { linked = (refl, (refl, refl)); below = below_two _ (omega arith) (omega arith) };
    marked = below_two _ refl refl;
    standing = below_two _ (stands 1 1 (omega arith) refl refl) (stands 0 0 (omega arith) refl refl);
  };
  noted = below_two _ refl refl;
}

swept_chains : ChainsMarked rooms swept.words live
unfolding hash_of bucket_of
swept_chains = record {
  uses = record { used = omega arith; within = omega arith; beyond = λ b l m. absurd (omega arith) };
  standing = live;
  chains = record {
    size = refl;
    chain = λ b l. let e : 0 ≡ b = omega arith in subst (IsNoted rooms swept.words live live 1) e swept_chain;
    only = marked_two (IsChained swept.words 1)
        (record { bucket = 0; used = omega arith; rows = 1 ∷ 0 ∷ []; linked = (refl, (refl, refl)); at = 1; within = omega arith; is = refl })
        (record { bucket = 0; used = omega arith; rows = 1 ∷ 0 ∷ []; linked = (refl, (refl, refl)); at = 0; within = omega arith; is = refl });
  };
  all = λ r m. m;
}

swept_keeps : Keeps rooms swept.words 2
unfolding hash_of bucket_of
swept_keeps = record {
  live = live;
  free = unused;
  reached = swept_reached;
  places = swept_free;
  opposite = below_four _ (λ e. true≢false e) (λ e. true≢false e) (λ e. true≢false (sym e)) (λ e. true≢false (sym e));
  chains = swept_chains;
  count = refl;
}

swept_base : swept.words Base ≡ 5
unfolding hash_of bucket_of
swept_base = refl

swept_use : swept.words InUse ≡ 1
unfolding hash_of bucket_of
swept_use = refl

swept_claim : swept.words Claim ≡ 3
unfolding hash_of bucket_of
swept_claim = refl

own_base : (swept.view 0).base ≡ 1
unfolding hash_of bucket_of
own_base = refl

own_use : (swept.view 0).in_use ≡ 1
unfolding hash_of bucket_of
own_use = refl

own_stay : (swept.view 0).stay ≡ Ready
unfolding hash_of bucket_of
own_stay = refl

swept_ends : MayEnd rooms swept 0
swept_ends = ends_so rooms swept swept_so swept_stores 1 3 1 2 own_base own_use own_stay swept_claim swept_base swept_use swept_heads swept_keeps

claim_placed : IsInPlace rooms swept 0 (StoreClaim 0)
unfolding hash_of bucket_of
claim_placed = record { step = record { present = omega arith; permitted = (swept_stores, swept_ends) }; fits = refl }

left_placed : Leads rooms (after rooms swept 0 (StoreClaim 0)) ((0, Lock (Unask 1)) ∷ (0, Lock Give) ∷ []) (run_of rooms sweep)
unfolding hash_of bucket_of
left_placed = the (path rooms (after rooms swept 0 (StoreClaim 0)) ((0, Lock (Unask 1)) ∷ (0, Lock Give) ∷ [])) refl

pub sweep_placed : Leads rooms begun sweep (run_of rooms sweep)
unfolding hash_of bucket_of
sweep_placed = joined rooms (begins_sweep ++ sweeps) ends_sweep begun swept (run_of rooms sweep) to_swept (claim_placed, left_placed)

pub again_placed : Leads rooms (run_of rooms sweep) makes_again (run_of rooms (sweep ++ makes_again))
unfolding hash_of bucket_of
again_placed = the (path rooms (run_of rooms sweep) makes_again) refl

-- a row that is in no free place, and isn't reached
pub not_unless_freed : IsInPlace rooms (run_of rooms frees_nothing) 0 (StoreClaim 0) → ⊥
unfolding hash_of bucket_of
not_unless_freed h =
    let s : State = run_of rooms frees_nothing in
    let e : MayEnd rooms s 0 = h.step.permitted.1 in
    let live = e.rows.others 2 (omega arith) (λ i l is. let f : i ≡ 0 = omega arith in absurd (let g : s.words (FreePlace 0) ≡ 2 = ap (λ (q : ℕ). s.words (FreePlace q)) (sym f) ∙ is in omega arith)) in
    ⊎_elim (λ f. absurd (omega arith)) (λ f. absurd (omega arith)) (two s.words refl refl (no_seats rooms s hoarded_so hoarded_stores) refl refl refl refl 2 ((e.live 2).0 live))

pub runs_are_in_place : RunsAreInPlace
runs_are_in_place = record {
  in_race = race_placed;
  in_both = both_placed;
  in_sweep = sweep_placed;
  after_sweep = again_placed;
  freeing_nothing = to_hoarded;
  worn_at_once = worn_at_once;
  worn_then = worn_then;
}
