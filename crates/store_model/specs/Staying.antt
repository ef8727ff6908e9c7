-- What a seat still knows when its epoch ends: the rows that its protected rows lead to by the
-- words that it knows, and the words of those rows.
use Rattle.std.specs.Prelude.{ℕ, zero, suc, ◌+◌, ◌==◌, nat_lt, ◌&&◌, if◌then◌else◌, Bool, false, List, [], ◌∷◌, ◌++◌, length, filter}
use Rattle.std.specs.List.{list_any}
use Rattle.store_model.specs.declared.view.KnownWord.{KnownWord}

abbrev pub is_among : List ℕ → ℕ → Bool
is_among rows r = list_any (λ q. q == r) rows

-- c tells how many arguments k's row has, and k stands within them
abbrev pub is_within : KnownWord → KnownWord → Bool
is_within k c = (c.row == k.row) && ((c.word == 1) && nat_lt k.word (c.value + 2))

-- An argument stands past the symbol word and the count, within the count that is known. That of an
-- integer is 0, so its value is no argument.
abbrev pub is_argument : List KnownWord → KnownWord → Bool
is_argument ks k = nat_lt 1 k.word && list_any (is_within k) ks

-- it is an argument of one of these rows, and isn't among them
abbrev pub is_next : List KnownWord → List ℕ → KnownWord → Bool
is_next ks rows k =
    if is_among rows k.value then false else (is_among rows k.row && is_argument ks k)

-- these rows, and those that one look at each word in turn finds
abbrev pub joined : List KnownWord → List KnownWord → List ℕ → List ℕ
joined ks [] rows = rows
joined ks (k ∷ more) rows =
    joined ks more (if is_next ks rows k then rows ++ k.value ∷ [] else rows)

-- and those that n such looks find
abbrev pub joined_often : List KnownWord → ℕ → List ℕ → List ℕ
joined_often ks zero rows = rows
joined_often ks (suc n) rows = joined ks ks (joined_often ks n rows)

-- The rows that these lead to. No more looks than words are needed, since a look that finds no row
-- is the last.
abbrev pub led_to : List KnownWord → List ℕ → List ℕ
led_to ks rows = joined_often ks (length ks) rows

-- the words of these rows
abbrev pub words_of_rows : List ℕ → List KnownWord → List KnownWord
words_of_rows rows ks = filter (λ k. is_among rows k.row) ks
