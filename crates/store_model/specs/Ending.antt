-- What decides whether a collection may end.
use Rattle.std.specs.Prelude.{◌≡◌, ◌↔◌, ℕ, ◌+◌, Bool, true, Some, List, length}
use Rattle.store_model.specs.Words.{Place, Base, Claim, InUse, write}
use Rattle.store_model.specs.Machine.{Sizes, State}
use Rattle.store_model.specs.Meaning.{Meaning}
use Rattle.store_model.specs.Invariant.{RowsHold, ChainsHold}
use Rattle.store_model.specs.StoreHolds.{StoreHolds}
use Rattle.store_model.specs.Steps.{loads, is_storing, value_at, ReachesByWords, names_left, grown_use}
use Rattle.store_model.specs.Marks.{MarksReached, MarksFree, AreOpposite}
use Rattle.store_model.specs.MarkedChains.{ChainsMarked}

-- In the state s, of which the facts hold, seat i has a collection that has begun to store: the
-- words are w, and ls is what it has loaded.
pub record IsEnding (z : Sizes) (w : Place → ℕ) (ls : List (Place × ℕ)) (s : State)
    (i : ℕ) : Type 0 where
  pub holds : StoreHolds z s
  pub words : s.words ≡ w
  pub storing : is_storing (s.view i).call ≡ true
  pub loaded : loads (s.view i).call ≡ ls

-- the words after the claim's store are whole, and keep exactly what is reached
pub record IsWholeAgain (z : Sizes) (w : Place → ℕ) (n : Meaning) : Type 0 where
  pub rows : RowsHold z (write w Claim 0) n
  pub chains : ChainsHold z (write w Claim 0) n
  pub live : (r : ℕ) → (n.live r ≡ true) ↔ ReachesByWords w r

-- they aren't
abbrev pub IsBroken : Sizes → (Place → ℕ) → Type 0
IsBroken z w = (n : Meaning) → IsWholeAgain z w n → ⊥

-- so many rows are kept: those reached, which are the rows in no free place, each in the chain of
-- its bucket
pub record Keeps (z : Sizes) (w : Place → ℕ) (kept : ℕ) : Type 0 where
  pub live : List Bool
  pub free : List Bool
  pub reached : MarksReached w z.rows live
  pub places : MarksFree z w free
  pub opposite : AreOpposite live free
  pub chains : ChainsMarked z w live
  pub count : kept ≡ length (names_left z w)

-- the base follows from what was loaded
pub record BaseFollows (w : Place → ℕ) (ls : List (Place × ℕ)) : Type 0 where
  pub base : ℕ
  pub claim : ℕ
  pub base_loaded : value_at Base ls ≡ Some base
  pub claim_loaded : value_at Claim ls ≡ Some claim
  pub is : w Base ≡ base + claim + 1

-- and the buckets in use, with so many rows kept
pub record UseFollows (z : Sizes) (w : Place → ℕ) (ls : List (Place × ℕ)) (kept : ℕ) : Type 0 where
  pub in_use : ℕ
  pub loaded : value_at InUse ls ≡ Some in_use
  pub is : w InUse ≡ grown_use z in_use kept
