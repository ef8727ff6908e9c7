-- Where building stands.
use Rattle.term_building.specs.declared.builder.Stage as code
use Rattle.term_building.specs.declared.builder.Stage.TheVariants as variant
use Rattle.term_building.specs.declared.groups.Heading.{Heading}

-- after a whole term or at the start, behind an opening bracket, where a term must come, or behind
-- this name
pub data Stage : Type 0 where
  Settled : Stage
  Bracketed : Stage
  Expected : Stage
  Headed : Heading → Stage

-- the stage of a builder that keeps this name
abbrev pub stage_of : code.Stage → Heading → Stage
stage_of variant.Settled h = Settled
stage_of variant.Bracketed h = Bracketed
stage_of variant.Expected h = Expected
stage_of variant.Headed h = Headed h
