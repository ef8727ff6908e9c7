-- The specification that a syntax spells.
use Rattle.std.specs.Prelude.{ℕ, List, [], ◌∷◌, ◌++◌, length, map, nat_le, Option, Some, None, if◌then◌else◌}
use Rattle.term_model.specs.Tree.{Tree}
use Rattle.rewrite_model.specs.Rule.{Rule}
use Rattle.symbol_pool.specs.Pool.{Named}
use Rattle.rec_reader.specs.declared.syntax_tree.Node.{Node}
use Rattle.rec_reader.specs.declared.syntax_tree.Specification.{Specification}
use Rattle.rec_includes.specs.Names.{text_of}
use Rattle.rec_includes.specs.Material.{variables_by, symbols_of, specifications_at}
use Rattle.rec_check.specs.Symbols.{named_in, with_symbols}
use Rattle.rec_check.specs.Term.{all_of, tree_in}
use Rattle.rec_check.specs.Rule.{◌>>=◌, rule_in}

pub record Specified : Type 0 where
  pub symbols : List Named
  pub rules : List Rule
  pub terms : List Tree

-- no symbols, no rules and no terms
abbrev pub nothing : Specified
nothing = record { symbols = []; rules = []; terms = [] }

-- the names that a specification declares as variables
abbrev pub variables_of : List ℕ → Specification → List (List ℕ)
variables_of text s = map (λ v. text_of text v.name) (variables_by s)

-- the rules of a specification, whose variables are its own
abbrev pub rules_in : List ℕ → List Named → Specification → Option (List Rule)
rules_in text symbols s = all_of (λ r. rule_in text symbols (variables_of text s) r) s.rules

-- the rules of specifications, in order
abbrev pub rules_of : List ℕ → List Named → List Specification → Option (List Rule)
rules_of text symbols [] = Some []
rules_of text symbols (s ∷ ss) = do
  rules ← rules_in text symbols s
  more ← rules_of text symbols ss
  Some (rules ++ more)

-- a term to be rewritten has no variables
abbrev pub terms_in : List ℕ → List Named → List (List Node) → Option (List Tree)
terms_in text symbols terms = all_of (λ t. tree_in (record { text = text; symbols = symbols; variables = [] }) t) terms

-- how many rules a specification may have
abbrev pub most_rules : ℕ
most_rules = 65535

abbrev pub with_few_rules : Specified → Option Specified
with_few_rules s = if nat_le (length s.rules) most_rules then Some s else None

-- What the specifications of a material spell, with terms: the symbols that they declare, their rules, and the
-- terms. Nothing where one of these spells nothing.
abbrev pub spelled_by : List ℕ → List Specification → List ℕ → List (List Node) → Option Specified
spelled_by text specifications material terms = do
  symbols ← with_symbols [] (named_in text (symbols_of specifications material))
  rules ← rules_of text symbols (specifications_at specifications material)
  trees ← terms_in text symbols terms
  with_few_rules (record { symbols = symbols; rules = rules; terms = trees })
