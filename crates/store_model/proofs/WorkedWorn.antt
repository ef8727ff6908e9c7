-- The runs that end by Worn: their steps are in place.
use Rattle.std.proofs.Common.{◌≡◌, ℕ, zero, suc, ◌-◌, ◌^◌, ◌<◌, ◌≤◌, Bool, true, false, cond, List, [], ◌∷◌, refl, sym, subst, arith, true≢false}
use Rattle.store_model.specs.Words.{Base, FreeCount, Claim, FreePlace, Bucket, RootCount}
use Rattle.store_model.specs.Machine.{Sizes, State}
use Rattle.store_model.specs.Steps.{is_storing, ReachesByWords, protected_row, argument_row, MayEnd}
use Rattle.store_model.specs.Runs.{Inductive}
use Rattle.store_model.specs.NewStore.{first_words, start_of}
use Rattle.store_model.specs.StoreSteps.{IsInPlace, Leads, after}
use Rattle.store_model.specs.Marks.{IsMarked, MarksReached, MarksFree}
use Rattle.store_model.specs.MarkedChains.{IsNoted, ChainsMarked}
use Rattle.store_model.specs.Ending.{Keeps}
use Rattle.store_model.specs.Worked.{run_of, late, begins_to_collect, sweeps_nothing, collects_again, collects_twice}
use Rattle.store_model.specs.declared.step.StoreStep.{StoreStep}
use Rattle.store_model.specs.declared.step.StoreStep.TheVariants.{LoadAny, StoreClaim}
use Rattle.store_model.proofs.Follows.{first_starts}
use Rattle.store_model.proofs.Placed.{the, path, joined}
use Rattle.store_model.proofs.Runs.{starts, kept_along}
use Rattle.store_model.proofs.WorkedEnds.{not_zero, below_two, no_seats, ends_so}

pub worn_at_once : Leads (late (2 ^ 62 - 4)) (start_of (late (2 ^ 62 - 4))) begins_to_collect (run_of (late (2 ^ 62 - 4)) begins_to_collect)
worn_at_once = the (path (late (2 ^ 62 - 4)) (start_of (late (2 ^ 62 - 4))) begins_to_collect) refl

abbrev last : Sizes
last = late (2 ^ 62 - 5)

abbrev swept : State
swept = run_of last sweeps_nothing

to_swept : Leads last (start_of last) sweeps_nothing swept
to_swept = the (path last (start_of last) sweeps_nothing) refl

swept_so : Inductive last swept
swept_so = kept_along last sweeps_nothing (start_of last) swept
    (starts last (first_words last) (record { first = omega arith; room = omega arith; used = omega arith; within = omega arith }) (first_starts last)) to_swept

swept_stores : is_storing (swept.view 0).call ≡ true
swept_stores = refl

-- no seat protects a row, so none is reached
no_roots : (j : ℕ) → swept.words (RootCount j) ≡ 0
no_roots zero = refl
no_roots (suc j) = no_seats last swept swept_so swept_stores (suc j) (omega arith)

none_reached : (r : ℕ) → ReachesByWords swept.words r → ⊥
none_reached r (protected_row j k l) = absurd (let e = no_roots j in omega arith)
none_reached r (argument_row t k y l) = none_reached t y

abbrev live : List Bool
live = false ∷ false ∷ []

abbrev unused : List Bool
unused = true ∷ true ∷ []

none_marked : (r : ℕ) → IsMarked live r → ⊥
none_marked zero e = true≢false (sym e)
none_marked (suc zero) e = true≢false (sym e)
none_marked (suc (suc r)) e = true≢false (sym e)

swept_reached : MarksReached swept.words 2 live
swept_reached = record { size = refl; marked = λ r. (λ m. absurd (none_marked r m), λ y. absurd (none_reached r y)) }

swept_free : MarksFree last swept.words unused
swept_free = record {
  few = omega arith;
  there = below_two (λ i. swept.words (FreePlace i) < 2) (omega arith) (omega arith);
  places = record {
    size = refl;
    marked = below_two _ refl refl;
    differ = λ i j a b. below_two (λ p. (q : ℕ) → q < 2 → swept.words (FreePlace p) ≡ swept.words (FreePlace q) → p ≡ q)
        (below_two _ (λ _. refl) (λ e. absurd (omega arith))) (below_two _ (λ e. absurd (omega arith)) (λ _. refl)) i a j b;
  };
}

swept_chain : IsNoted last swept.words live live 1 0
swept_chain = record {
  rows = [];
  sound = record {
    chain = record { linked = refl; below = λ k l. absurd (omega arith) };
    marked = λ k l. absurd (omega arith);
    standing = λ k l. absurd (omega arith);
  };
  noted = λ k l. absurd (omega arith);
}

swept_chains : ChainsMarked last swept.words live
swept_chains = record {
  uses = record { used = omega arith; within = omega arith; beyond = λ b l m. absurd (omega arith) };
  standing = live;
  chains = record {
    size = refl;
    chain = λ b l. let e : 0 ≡ b = omega arith in subst (IsNoted last swept.words live live 1) e swept_chain;
    only = λ r m. absurd (none_marked r m);
  };
  all = λ r m. m;
}

swept_keeps : Keeps last swept.words 0
swept_keeps = record {
  live = live;
  free = unused;
  reached = swept_reached;
  places = swept_free;
  opposite = below_two _ (λ e. true≢false (sym e)) (λ e. true≢false (sym e));
  chains = swept_chains;
  count = refl;
}

-- the only bucket was loaded, and nothing was stored there
swept_heads : (b : ℕ) → 1 ≤ b → swept.words (Bucket b) ≡ 0
swept_heads b l = subst (λ (t : Bool). ◌≡◌ {A = ℕ} (cond t 0 0) 0) (sym (not_zero b l)) refl

swept_ends : MayEnd last swept 0
swept_ends = ends_so last swept swept_so swept_stores (2 ^ 62 - 5) 0 1 0 refl refl refl refl refl refl swept_heads swept_keeps

claim_placed : IsInPlace last swept 0 (StoreClaim 0)
claim_placed = record { step = record { present = omega arith; permitted = (swept_stores, swept_ends) }; fits = refl }

abbrev begins_again : List (ℕ × StoreStep)
begins_again = (0, LoadAny Base) ∷ (0, LoadAny Claim) ∷ (0, LoadAny FreeCount) ∷ []

then_placed : Leads last (after last swept 0 (StoreClaim 0)) begins_again (run_of last collects_twice)
then_placed = the (path last (after last swept 0 (StoreClaim 0)) begins_again) refl

pub worn_then : Leads last (start_of last) collects_twice (run_of last collects_twice)
worn_then = joined last sweeps_nothing collects_again (start_of last) swept (run_of last collects_twice) to_swept (claim_placed, then_placed)
