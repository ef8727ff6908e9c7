-- What a read of a row leaves in what its pass knows.
use Rattle.std.specs.Prelude.{◌≡◌, ℕ, suc, ◌<◌, List, [], ◌∷◌, ◌++◌}
use Rattle.term_model.specs.declared.Head.{Head}
use Rattle.term_model.specs.declared.Head.TheVariants.{App, Int, Nil, Cons}
use Rattle.store_model.specs.declared.view.KnownWord.{KnownWord}
use Rattle.store_model.specs.ByView.{KnowsWord}
use Rattle.node_rows.specs.declared.view.NodeView.{NodeView}
use Rattle.node_rows.specs.Steps.{with_store}

abbrev pub word : ℕ → ℕ → ℕ → KnownWord
word r k n = record { row = r; word = k; value = n }

-- the words that have the head of row r: the symbol word, and before it an integer's value, which
-- is read after it
abbrev pub head_words : ℕ → Head → List KnownWord
head_words r (App symbol) = word r 0 symbol.0 ∷ []
head_words r (Int value) = word r 2 value ∷ word r 0 4294967296 ∷ []
head_words r Nil = word r 0 4294967297 ∷ []
head_words r Cons = word r 0 4294967298 ∷ []

-- these words were read, and nothing else has changed
abbrev pub Reads : NodeView → NodeView → List KnownWord → Type 0
Reads v w ks = w ≡ with_store v (record v.store { knows = ks ++ v.store.knows })

-- argument j was read, and the pass has got it
abbrev pub ReadsChild : NodeView → NodeView → ℕ → ℕ → ℕ → Type 0
ReadsChild v w r j child = w
    ≡ with_store v
    (record v.store {
      knows = word r (suc (suc j)) child ∷ v.store.knows;
      got = child ∷ v.store.got;
    })

-- the pass knows of row r that it has an argument j
pub record HasArgument (ks : List KnownWord) (r j : ℕ) : Type 0 where
  pub count : ℕ
  pub known : KnowsWord r 1 count ks
  pub below : j < count
