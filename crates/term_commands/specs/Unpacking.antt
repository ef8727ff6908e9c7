-- The lines of the terms of a file.
use Rattle.std.specs.Prelude.{◌≡◌, ℕ, ◌+◌, List, [], ◌∷◌, ◌++◌, codes, Bool, true, ◌||◌, ◌&&◌, not, nat_lt, if◌then◌else◌, Err}
use Rattle.term_model.specs.Tree.{Tree, nodes}
use Rattle.symbol_pool.specs.Pool.{Named}
use Rattle.faults.specs.declared.refusal.Refusal.{Refusal}
use Rattle.tree_text.specs.Canonical.{canonical}
use Rattle.term_file.specs.File.{Terms, IsFile}
use Rattle.term_file.specs.Reading.{read_file}
use Rattle.term_commands.specs.declared.fault.TermsFault.{TermsFault}
use Rattle.term_commands.specs.declared.fault.TermsFault.TheVariants.{Refused, StoreFull, Memory}

-- a term has more nodes than are written of one, or more than are left of those that are written of
-- all, where so many were
abbrev pub is_too_large : ℕ → Tree → Bool
is_too_large written t = nat_lt 1048576 (nodes t) || nat_lt 16777216 (written + nodes t)

-- the lines of terms in order: the canonical text of each, or `too large`, where so many nodes were
-- written before
abbrev pub lines : ℕ → List Named → List Tree → List ℕ
lines written names [] = []
lines written names (t ∷ ts) =
    if is_too_large written t then codes "too large\n" ++ lines written names ts
    else canonical names t ++ codes "\n" ++ lines (written + nodes t) names ts

-- whether none is too large
abbrev pub all_written : ℕ → List Tree → Bool
all_written written [] = true
all_written written (t ∷ ts) = not (is_too_large written t) && all_written (written + nodes t) ts

-- the bytes are a file of terms, of which these are the lines, and whether each has its text
pub record IsUnpacked (file text : List ℕ) (whole : Bool) : Type 0 where
  pub held : Terms
  pub is_file : IsFile file held
  pub text_is : text ≡ lines 0 held.symbols held.trees
  pub whole_is : whole ≡ all_written 0 held.trees

-- the bytes are no file, and this is the first fault in them
abbrev pub IsFileFault : List ℕ → Refusal → Type 0
IsFileFault file fault = read_file file ≡ Err fault

-- why a file has no lines; want of memory needs no cause
abbrev pub IsClosed : List ℕ → TermsFault → Type 0
IsClosed file (Refused fault) = IsFileFault file fault
IsClosed file StoreFull = ⊥
IsClosed file Memory = Unit {0}
