-- The chains of marked rows.
use Rattle.std.specs.Prelude.{◌≡◌, ◌↔◌, ℕ, ◌<◌, ◌≤◌, ◌^◌, Bool, true, List, ◌++◌, length, get_or}
use Rattle.term_model.specs.declared.Head.{Head}
use Rattle.term_model.specs.declared.Head.TheVariants.{App, Int, Nil, Cons}
use Rattle.store_model.specs.Words.{Place, Claim, InUse, Bucket, row_at, write}
use Rattle.store_model.specs.Calls.{Content, IsOver, bucket}
use Rattle.store_model.specs.Machine.{Sizes, Each}
use Rattle.store_model.specs.Meaning.{Meaning, Matches, Linked}
use Rattle.store_model.specs.Invariant.{ChainsHold}
use Rattle.store_model.specs.Marks.{IsMarked}

-- the words after the claim's store mean this, and exactly the marked rows are live
pub record IsMeant (z : Sizes) (w : Place → ℕ) (marks : List Bool) (n : Meaning) : Type 0 where
  pub chains : ChainsHold z (write w Claim 0) n
  pub live : (r : ℕ) → (n.live r ≡ true) ↔ IsMarked marks r

-- no meaning
abbrev pub NotMeant : Sizes → (Place → ℕ) → List Bool → Type 0
NotMeant z w marks = (n : Meaning) → IsMeant z w marks n → ⊥

-- a head with so many arguments has this symbol word, and an integer this value
abbrev pub HasWords : (symbol count value : ℕ) → Head → Type 0
HasWords symbol count value (App f) = (symbol ≡ f.0) × (symbol < 2 ^ 32)
HasWords symbol count value (Int v) = (symbol ≡ 4294967296) × (count ≡ 0) × (value ≡ v)
HasWords symbol count value Nil = (symbol ≡ 4294967297) × (count ≡ 0)
HasWords symbol count value Cons = (symbol ≡ 4294967298) × (count ≡ 2)

-- row r has the words of c
pub record HasContent (w : Place → ℕ) (r : ℕ) (c : Content) : Type 0 where
  pub over : IsOver c.head c.arguments
  pub words : Matches (row_at w r) c

-- row r has no content over rows of the store
abbrev pub HasNone : Sizes → (Place → ℕ) → ℕ → Type 0
HasNone z w r = (c : Content) → HasContent w r c → Each (λ a. a < z.rows) c.arguments → ⊥

-- a row's content is of bucket b, of u in use
pub record StandsIn (w : Place → ℕ) (u b r : ℕ) : Type 0 where
  pub content : Content
  pub has : HasContent w r content
  pub bucket : bucket content u ≡ b

-- no content of it is
abbrev pub Strays : Sizes → (Place → ℕ) → (u b r : ℕ) → Type 0
Strays z w u b r = (c : Content) → HasContent w r c → Each (λ a. a < z.rows) c.arguments
    → bucket c u ≡ b → ⊥

-- one of these rows strays
pub record OneStrays (z : Sizes) (w : Place → ℕ) (u b : ℕ) (rows : List ℕ) : Type 0 where
  pub at : ℕ
  pub within : at < length rows
  pub strays : Strays z w u b (get_or rows at 0)

-- the rows of a chain from b, as many as there may be at most
pub record IsChain (z : Sizes) (w : Place → ℕ) (b : ℕ) (rows : List ℕ) : Type 0 where
  pub linked : Linked (row_at w) (w (Bucket b)) rows
  pub below : (k : ℕ) → k < length rows → get_or rows k 0 < z.rows

-- A walk from a head has passed these rows, and come to a word: the chains of the head are those of
-- the word after these rows.
pub record HasPassed (z : Sizes) (w : Place → ℕ) (head at : ℕ) (rows : List ℕ) : Type 0 where
  pub joins : (rest : List ℕ) → Linked (row_at w) at rest → Linked (row_at w) head (rows ++ rest)
  pub splits : (chain : List ℕ) → Linked (row_at w) head chain → (rest : List ℕ)
      × (chain ≡ rows ++ rest) × Linked (row_at w) at rest
  pub below : (k : ℕ) → k < length rows → get_or rows k 0 < z.rows
  pub few : length rows ≤ z.rows

-- the chain of bucket b, whose rows are marked and stand in it
pub record IsSound (z : Sizes) (w : Place → ℕ) (marks : List Bool) (u b : ℕ)
    (rows : List ℕ) : Type 0 where
  pub chain : IsChain z w b rows
  pub marked : (k : ℕ) → k < length rows → IsMarked marks (get_or rows k 0)
  pub standing : (k : ℕ) → k < length rows → StandsIn w u b (get_or rows k 0)

-- and these rows are marked as standing
pub record IsNoted (z : Sizes) (w : Place → ℕ) (marks standing : List Bool) (u b : ℕ) : Type 0 where
  pub rows : List ℕ
  pub sound : IsSound z w marks u b rows
  pub noted : (k : ℕ) → k < length rows → IsMarked standing (get_or rows k 0)

-- a row stands in a chain of the first u
pub record IsChained (w : Place → ℕ) (u r : ℕ) : Type 0 where
  pub bucket : ℕ
  pub used : bucket < u
  pub rows : List ℕ
  pub linked : Linked (row_at w) (w (Bucket bucket)) rows
  pub at : ℕ
  pub within : at < length rows
  pub is : get_or rows at 0 ≡ r

-- the first n chains are sound, and exactly their rows are marked as standing
pub record StandInFirst (z : Sizes) (w : Place → ℕ) (marks : List Bool) (u n : ℕ)
    (standing : List Bool) : Type 0 where
  pub size : length standing ≡ z.rows
  pub chain : (b : ℕ) → b < n → IsNoted z w marks standing u b
  pub only : (r : ℕ) → IsMarked standing r → IsChained w n r

-- each marked row stands
abbrev pub AllStand : List Bool → List Bool → Type 0
AllStand marks standing = (r : ℕ) → IsMarked marks r → IsMarked standing r

-- the buckets in use are some of them, and the heads from there on are 0
pub record UsesBuckets (z : Sizes) (w : Place → ℕ) : Type 0 where
  pub used : 0 < w InUse
  pub within : w InUse ≤ z.buckets
  pub beyond : (b : ℕ) → w InUse ≤ b → b < z.buckets → w (Bucket b) ≡ 0

-- each marked row stands in the chain of its bucket, and no other row in any
pub record ChainsMarked (z : Sizes) (w : Place → ℕ) (marks : List Bool) : Type 0 where
  pub uses : UsesBuckets z w
  pub standing : List Bool
  pub chains : StandInFirst z w marks (w InUse) (w InUse) standing
  pub all : AllStand marks standing
