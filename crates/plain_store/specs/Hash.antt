-- The hash of a row, by its head and the rows of its arguments.
use Rattle.std.specs.Prelude.{ℕ, ◌*◌, ◌^◌, ◌%◌, List, length, fold, if◌then◌else◌, nat_le}
use Rattle.std.specs.Int.Bits.{bit_xor}
use Rattle.term_model.specs.declared.Row.{Row}
use Rattle.term_model.specs.declared.Head.{Head}
use Rattle.term_model.specs.declared.Head.TheVariants.{App, Int, Nil, Cons}
use Rattle.plain_store.specs.Pairs.{filled, pair_word}

abbrev pub head_kind : Head → ℕ
head_kind (App f) = 0
head_kind (Int n) = 1
head_kind Nil = 2
head_kind Cons = 3

-- with one word more
abbrev pub mixed : ℕ → ℕ → ℕ
mixed hash word = bit_xor hash word * 11400714819323198485 % 2 ^ 64

-- Integers and lists begin from words of their own. Unequal rows may share a hash, so heads, counts
-- and arguments are compared.
abbrev pub head_hash : Head → ℕ
head_hash (App f) = mixed 0 f.0
head_hash (Int n) = mixed (2 ^ 32) n
head_hash Nil = mixed (2 ^ 33) 0
head_hash Cons = mixed (2 ^ 33) 0

-- with the words of these rows
abbrev pub hash_by : ℕ → List Row → ℕ
hash_by start rows = fold (λ h r. mixed h r.0) start rows

abbrev pub pair_hash : Head → List Row → ℕ
pair_hash head pair = mixed (head_hash head) (pair_word pair)

-- At most two arguments are one word.
abbrev pub hash : Head → List Row → ℕ
hash head arguments =
    if nat_le (length arguments) 2
    then pair_hash head (filled arguments)
    else hash_by (head_hash head) arguments
