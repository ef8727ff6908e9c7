-- What is true of all canonical texts.
use Rattle.std.specs.Prelude.{◌≡◌, List, [], ◌∷◌, All}
use Rattle.term_model.specs.Tree.{Tree}
use Rattle.symbol_pool.specs.Pool.{Named, IsPool}
use Rattle.tree_text.specs.Canonical.{canonical, canonical_lines, IsWritable}
use Rattle.term_syntax.specs.Reading.{IsReading}

-- The canonical texts of terms are read back as these terms, and no symbol is taken up.
abbrev pub CanonicalTextIsReadBack : Type 0
CanonicalTextIsReadBack =
    (names : List Named) (ts : List Tree) → IsPool names → All (IsWritable names) ts →
    IsReading (canonical_lines names ts) names names ts

-- The canonical text of a term alone, as it is written, is read back as this term.
abbrev pub WrittenTextIsReadBack : Type 0
WrittenTextIsReadBack =
    (names : List Named) (t : Tree) → IsPool names → IsWritable names t →
    IsReading (canonical names t) names names (t ∷ [])

-- Canonical texts are read back as no other terms.
abbrev pub NothingElseIsReadBack : Type 0
NothingElseIsReadBack =
    (names new : List Named) (ts us : List Tree) → IsPool names → All (IsWritable names) ts →
    IsReading (canonical_lines names ts) names new us → (new ≡ names) × (us ≡ ts)

-- Different terms have different canonical texts.
abbrev pub CanonicalTextIsOneTerms : Type 0
CanonicalTextIsOneTerms =
    (names : List Named) (t u : Tree) → IsPool names → IsWritable names t → IsWritable names u →
    canonical names t ≡ canonical names u → t ≡ u
