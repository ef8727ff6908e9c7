-- The specification that a syntax spells: that of its last specification, with what it includes.
use Rattle.std.specs.Prelude.{◌-◌, List, length, slice_get, Option, Some, None, All}
use Rattle.term_model.specs.Tree.{IsGround}
use Rattle.rule_match.specs.Planned.{IsPlan, IsPlain, planned}
use Rattle.rec_reader.specs.Parsed.{Parsed}
use Rattle.rec_reader.specs.declared.syntax_tree.Specification.{Specification}
use Rattle.rec_includes.specs.Material.{material_of}
use Rattle.rec_check.specs.Symbols.{widest_of}
use Rattle.rec_check.specs.Spelled.{Specified, nothing, spelled_by}

-- the last specification
abbrev pub last_of : List Specification → Option Specification
last_of specifications = slice_get specifications (length specifications - 1)

-- What a syntax spells with this last specification: the symbols and the rules of the material of the specification
-- with the greatest number, and this one's terms. Without a last specification, no symbols, rules and terms.
abbrev pub spelled_with : Parsed → Option Specification → Option Specified
spelled_with s None = Some nothing
spelled_with s (Some last) =
    spelled_by s.bytes s.specifications (material_of s.bytes s.specifications (length s.specifications - 1)) last.terms

-- the specification that a syntax spells; none where some part of it spells nothing
abbrev pub spelled_in : Parsed → Option Specified
spelled_in s = spelled_with s (last_of s.specifications)

-- What is spelled may be run: its rules make a plan, and its terms have no variables and no symbol over more
-- arguments than the greatest number.
pub record MayBeRun (s : Specified) : Type 0 where
  pub plan : IsPlan (planned s.rules (widest_of s.symbols))
  pub ground : All IsGround s.terms
  pub plain : All (IsPlain (widest_of s.symbols)) s.terms
