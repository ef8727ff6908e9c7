-- The words that a row of the store has for a head over rows.
use Rattle.std.specs.Prelude.{ℕ, List, [], ◌∷◌, length}
use Rattle.term_model.specs.declared.Head.{Head}
use Rattle.term_model.specs.declared.Head.TheVariants.{App, Int, Nil, Cons}

-- the symbol word: a symbol's number, or a number above all symbols
abbrev pub symbol_word : Head → ℕ
symbol_word (App symbol) = symbol.0
symbol_word (Int value) = 4294967296
symbol_word Nil = 4294967297
symbol_word Cons = 4294967298

-- The symbol word, the count of arguments, and the arguments. An integer has no arguments, and its
-- value in the place of the first.
abbrev pub spelled : Head → List ℕ → List ℕ
spelled (App symbol) rows = symbol.0 ∷ length rows ∷ rows
spelled (Int value) rows = 4294967296 ∷ 0 ∷ value ∷ []
spelled Nil rows = 4294967297 ∷ 0 ∷ []
spelled Cons rows = 4294967298 ∷ 2 ∷ rows
