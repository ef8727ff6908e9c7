-- The new chains of the marked rows, as a collection works them out before it stores them.
use Rattle.std.specs.Prelude.{◌≡◌, ℕ, zero, suc, ◌<◌, Bool, List, [], ◌∷◌, ◌++◌, get_or}
use Rattle.hash_buckets.specs.Hash.{hash_of}
use Rattle.store_model.specs.declared.view.Place.{Place}
use Rattle.store_model.specs.declared.view.Place.TheVariants.{RowWord}
use Rattle.store_model.specs.declared.view.Content.{Content}
use Rattle.store_model.specs.Machine.{Each, In}
use Rattle.store_model.specs.Marks.{IsMarked}
use Rattle.store_model.specs.MarkedChains.{HasContent, StandsIn}

-- the first n arguments of row r, by the words
abbrev pub numbers_of : (Place → ℕ) → (r n : ℕ) → List ℕ
numbers_of w r zero = []
numbers_of w r (suc n) = numbers_of w r n ++ w (RowWord r (suc (suc n))) ∷ []

-- h is the hash of row r's content
pub record IsHashed (w : Place → ℕ) (r h : ℕ) : Type 0 where
  pub content : Content
  pub has : HasContent w r content
  pub hashed : h ≡ hash_of content.head content.arguments

-- a word of a chain leads to these rows, by the next words of rows
abbrev pub LeadsTo : (next : ℕ → ℕ) → ℕ → List ℕ → Type 0
LeadsTo next at [] = at ≡ 0
LeadsTo next at (r ∷ rs) = (at ≡ suc r) × LeadsTo next (next r) rs

-- r is one of the first n rows, marked, and its content is of bucket b, of u in use
pub record Belongs (w : Place → ℕ) (marks : List Bool) (u n b r : ℕ) : Type 0 where
  pub below : r < n
  pub marked : IsMarked marks r
  pub stands : StandsIn w u b r

-- the chains of u buckets hold the marked rows among the first n, each in the chain of its bucket
pub record ChainsTo (w : Place → ℕ) (marks : List Bool) (u n : ℕ)
    (heads nexts : List ℕ) : Type 0 where
  pub rows : ℕ → List ℕ
  pub leads : (b : ℕ) → b < u → LeadsTo (λ r. get_or nexts r 0) (get_or heads b 0) (rows b)
  pub belong : (b : ℕ) → b < u → Each (Belongs w marks u n b) (rows b)
  pub all : (r : ℕ) → r < n → IsMarked marks r → (b : ℕ) × (b < u) × In r (rows b)
