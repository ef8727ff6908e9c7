-- What is true of all files.
use Rattle.std.specs.Prelude.{◌≡◌, ℕ, List}
use Rattle.term_model.specs.Tree.{Tree}
use Rattle.symbol_pool.specs.Pool.{Named}
use Rattle.tree_text.specs.Canonical.{canonical_lines}
use Rattle.term_file.specs.File.{Terms, IsFile}
use Rattle.term_file.specs.NamedTree.{AreSame}

-- A list of terms has one file: right files that hold the same terms, whatever numbers their
-- symbols have, are the same bytes.
abbrev pub TermsHaveOneFile : Type 0
TermsHaveOneFile =
    (file other : List ℕ) (ts us : Terms) → IsFile file ts → IsFile other us →
    AreSame ts.symbols ts.trees us.symbols us.trees → file ≡ other

-- A file holds one list of terms.
abbrev pub FilesHaveOneList : Type 0
FilesHaveOneList = (file : List ℕ) (ts us : Terms) → IsFile file ts → IsFile file us → ts ≡ us

-- The same terms have the same canonical lines, whatever numbers their symbols have.
abbrev pub TermsHaveOneText : Type 0
TermsHaveOneText =
    (names others : List Named) (ts us : List Tree) → AreSame names ts others us →
    canonical_lines names ts ≡ canonical_lines others us
