-- The rule that a written rule spells.
use Rattle.std.specs.Prelude.{ℕ, List, [], length, map, filter, Option, Some, None}
use Rattle.std.specs.List.{list_any}
use Rattle.std.specs.Str.{bytes_eq}
use Rattle.term_model.specs.Tree.{root}
use Rattle.rewrite_model.specs.Rule.{Rule, Condition}
use Rattle.symbol_pool.specs.Pool.{Named}
use Rattle.rec_reader.specs.declared.syntax_tree.Node.{Node}
use Rattle.rec_reader.specs.declared.syntax_tree.Rule as written
use Rattle.rec_reader.specs.declared.syntax_tree.Condition as written_condition
use Rattle.rec_check.specs.Named.{with_names}
use Rattle.rec_includes.specs.Names.{text_of}
use Rattle.rec_check.specs.Term.{Scope, all_of, tree_in}

infixl 10 ◌>>=◌
abbrev pub ◌>>=◌ : {A B : Type 0} → Option A → (A → Option B) → Option B
None >>= f = None
(Some x) >>= f = f x

-- the names at the heads of these nodes that are declared as variables, each once, in order of first occurrence
abbrev pub variables_in : List ℕ → List (List ℕ) → List Node → List (List ℕ)
variables_in text declared nodes =
    with_names [] (filter (λ name. list_any (bytes_eq name) declared) (map (λ n. text_of text n.head) nodes))

abbrev pub condition_in : Scope → written_condition.Condition → Option Condition
condition_in scope c = do
  first ← tree_in scope c.first
  second ← tree_in scope c.second
  Some (record { first = first; second = second; equal = c.equal })

-- a rule with the variables of this scope, whose left side has a head and is no variable
abbrev pub sides_in : Scope → written.Rule → Option Rule
sides_in scope r = do
  left ← tree_in scope r.left
  right ← tree_in scope r.right
  conditions ← all_of (λ c. condition_in scope c) r.conditions
  head ← root left
  Some (record { left = left; right = right; conditions = conditions; vars = length scope.variables })

-- A rule has the variables that occur in its left side, of those that its specification declares. They
-- are numbered in order of first occurrence there.
abbrev pub rule_in : List ℕ → List Named → List (List ℕ) → written.Rule → Option Rule
rule_in text symbols declared r =
    sides_in (record { text = text; symbols = symbols; variables = variables_in text declared r.left }) r
