-- The hash of a head over rows, and its bucket: Fowler, Noll and Vo's hash FNV-1a on words of 64
-- bits.
use Rattle.std.specs.Prelude.{ℕ, ◌*◌, ◌%◌, ◌^◌, bit_xor, List, [], ◌∷◌}
use Rattle.term_model.specs.declared.Head.{Head}
use Rattle.term_model.specs.declared.Head.TheVariants.{Int}
use Rattle.hash_buckets.specs.Spelled.{symbol_word}

-- the words that are hashed: the symbol word, and then an integer's value, or the row number of
-- each argument
abbrev pub hashed_words : Head → List ℕ → List ℕ
hashed_words (Int value) rows = symbol_word (Int value) ∷ value ∷ []
hashed_words head rows = symbol_word head ∷ rows

-- the hash h with one more word
abbrev pub mixed : ℕ → ℕ → ℕ
mixed h word = (bit_xor h word * 1099511628211) % 2 ^ 64

-- the hash h with more words, in order
abbrev pub mixed_all : ℕ → List ℕ → ℕ
mixed_all h [] = h
mixed_all h (word ∷ words) = mixed_all (mixed h word) words

-- the hash of a head over rows
unfoldable pub hash_of : Head → List ℕ → ℕ
hash_of head rows = mixed_all 14695981039346656037 (hashed_words head rows)

-- the bucket of a head over rows, of so many in use
unfoldable pub bucket_of : Head → List ℕ → ℕ → ℕ
bucket_of head rows in_use = hash_of head rows % in_use
