-- What a build comes to.
use Rattle.std.specs.Prelude.{◌≡◌, ◌+◌, ◌⊎◌, [], ◌∷◌, ◌++◌, Bool, true, false, Result, Ok, Err, Contains}
use Rattle.term_model.specs.declared.Row.{Row}
use Rattle.term_model.specs.declared.Head.{Head}
use Rattle.term_model.specs.Tree.{Tree}
use Rattle.std.specs.Prelude.{ℕ}
use Rattle.terms_api.specs.declared.terms.BuildFault.{BuildFault}
use Rattle.terms_api.specs.declared.terms.BuildFault.TheVariants.{Deep, StoreFull, Worn}
use Rattle.terms_api.specs.Terms.{HasTree, KeepsAll, IsSound, NeedsPlace, Built, NotBuilt, IsCrowded, trees, reachable, but_last, asked}
use Rattle.plain_store.specs.Contents.{Contents, store_of, IsSame, IsFilled, LosesRow, CountsLosses, IsUsedUp}

-- every tree that can be reached from the stack has a row
abbrev pub HoldsReachable : Contents → Type 0
HoldsReachable c =
    (t : Tree) → Contains (reachable (store_of c)) t → (q : Row) × HasTree (store_of c) q t

pub record IsBuilt (old new : Contents) (h : Head) (n : ℕ) : Type 0 where
  pub built : Built (store_of old) (store_of new) h n
  pub trees : trees (store_of new) ≡ but_last n (trees (store_of old))
      ++ asked (store_of old) h n ∷ []
  pub refusals : new.refusals ≡ old.refusals
  pub losses : CountsLosses old new
  pub only_used_up : LosesRow (store_of old) (store_of new) → IsUsedUp old h n
  pub sound : IsSound (store_of new)
  pub same : IsSame old new
  pub not_filled : IsFilled (store_of old) h n → ⊥
  pub place : NeedsPlace (store_of old) n → ⊥

pub record IsRefused (old new : Contents) (h : Head) (n : ℕ) : Type 0 where
  pub not_built : NotBuilt (store_of old) (store_of new) h n
  pub trees : trees (store_of new) ≡ trees (store_of old)
  pub crowded : IsCrowded (store_of old) (store_of new) h n
  pub refusals : new.refusals ≡ old.refusals + 1
  pub losses : CountsLosses old new
  pub only_used_up : LosesRow (store_of old) (store_of new) → IsUsedUp old h n
  pub sound : IsSound (store_of new)
  pub same : IsSame old new
  pub filled : IsFilled (store_of old) h n
  pub place : NeedsPlace (store_of old) n → ⊥

abbrev pub Outcome : Contents → Contents → Head → ℕ → Result (Unit {0}) BuildFault → Type 0
Outcome old new h n (Ok _) = IsBuilt old new h n
Outcome old new h n (Err Deep) = (new ≡ old) × NeedsPlace (store_of old) n
Outcome old new h n (Err StoreFull) = IsRefused old new h n
Outcome old new h n (Err Worn) = ⊥

-- The tree was built, and no row was lost: the tree had a row, or one was free.
pub record IsMade (old new : Contents) (h : Head) (n : ℕ) : Type 0 where
  pub built : IsBuilt old new h n
  pub keeps : KeepsAll (store_of old) (store_of new)
  pub raised : new.raised ≡ old.raised
  pub not_used_up : IsUsedUp old h n → ⊥

-- what a build comes to that never collects
abbrev pub Tried : Contents → Contents → Head → ℕ → Bool → Type 0
Tried old new h n true = IsMade old new h n
Tried old new h n false = (new ≡ old) × (NeedsPlace (store_of old) n ⊎ IsUsedUp old h n)
