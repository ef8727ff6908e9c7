-- The text of a tree as the lines of an output show it: each name as it is.
use Rattle.std.specs.Prelude.{ℕ, List, [], unwrap_or}
use Rattle.term_model.specs.declared.Symbol.{Symbol}
use Rattle.term_model.specs.Tree.{Tree}
use Rattle.symbol_pool.specs.Pool.{Named, name_at}
use Rattle.tree_text.specs.Text.{text_by}
-- which trees have a text, for the contracts of callers
pub use Rattle.tree_text.specs.Text.{is_named, has_names, all_have_names, HasNames}

-- the name of a symbol as it is, which a symbol that isn't held doesn't have
abbrev pub plain_name : List Named → Symbol → List ℕ
plain_name names f = unwrap_or (name_at names f) []

-- the text of a tree with its names as they are
abbrev pub text : List Named → Tree → List ℕ
text names t = text_by (plain_name names) t
