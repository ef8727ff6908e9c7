-- The word that begins the line of a creation.
use Rattle.std.specs.Prelude.{ℕ, List, Bool, true, false, codes}

-- whether it made its row
abbrev pub word_of : Bool → List ℕ
word_of true = codes "# make "
word_of false = codes "# find "
