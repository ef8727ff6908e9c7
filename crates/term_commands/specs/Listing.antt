-- What is told of terms: the canonical line of each, and how large they are together.
use Rattle.std.specs.Prelude.{◌≡◌, ℕ, ◌≤◌, ◌<◌, List, [], ◌++◌, codes, decimal, sum_by}
use Rattle.term_model.specs.Tree.{Tree, nodes}
use Rattle.symbol_pool.specs.Pool.{Named}
use Rattle.faults.specs.declared.refusal.Refusal.{Refusal}
use Rattle.read_faults.specs.declared.fail.ReadFail.TheVariants as fail
use Rattle.tree_text.specs.Canonical.{canonical_lines}
use Rattle.term_syntax.specs.Reading.{IsReading, IsRefusal}
use Rattle.term_text.specs.Sizes.{saturated}
use Rattle.term_commands.specs.Different.{different}
use Rattle.term_commands.specs.declared.fault.TermsFault.{TermsFault}
use Rattle.term_commands.specs.declared.fault.TermsFault.TheVariants.{Refused, StoreFull, Memory}

-- these many different subtrees, and these many nodes
abbrev pub counts_line : ℕ → ℕ → List ℕ
counts_line different_ones all =
    codes "distinct " ++ decimal different_ones ++ codes " nodes " ++ decimal all ++ codes "\n"

-- those of the terms together, the nodes as far as 64 bits count
abbrev pub sizes_line : List Tree → List ℕ
sizes_line ts = counts_line (different ts) (saturated (sum_by nodes ts))

-- the input spells terms with no more different subtrees than there are rows, and this is told of
-- them
pub record IsListed (rows : ℕ) (input text : List ℕ) : Type 0 where
  pub symbols : List Named
  pub terms : List Tree
  pub read : IsReading input [] symbols terms
  pub fit : different terms ≤ rows
  pub text_is : text ≡ canonical_lines symbols terms ++ sizes_line terms

-- the input spells terms with more different subtrees than there are rows
pub record IsTooMuch (rows : ℕ) (input : List ℕ) : Type 0 where
  pub symbols : List Named
  pub terms : List Tree
  pub read : IsReading input [] symbols terms
  pub full : rows < different terms

-- the input spells no terms, or one that is refused, and this is its fault
abbrev pub IsTextFault : List ℕ → Refusal → Type 0
IsTextFault input fault = IsRefusal input [] (fail.Refused fault.kind fault.place)

-- why nothing is told of an input; want of memory needs no cause
abbrev pub IsUntold : ℕ → List ℕ → TermsFault → Type 0
IsUntold rows input (Refused fault) = IsTextFault input fault
IsUntold rows input StoreFull = IsTooMuch rows input
IsUntold rows input Memory = Unit {0}

-- why terms aren't counted
abbrev pub IsUncounted : ℕ → List Tree → TermsFault → Type 0
IsUncounted rows ts (Refused fault) = ⊥
IsUncounted rows ts StoreFull = rows < different ts
IsUncounted rows ts Memory = Unit {0}
