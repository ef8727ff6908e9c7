use Rattle.std.proofs.Common.{subst}
use Rattle.std.specs.Prelude.{All}
use Rattle.rec_reader.specs.Parsed.{Parsed}
use Rattle.rec_reader.specs.Whole.{HasWholeTerms}
use Rattle.rec_reader.specs.Few.{HasFewLeftNodes}
use Rattle.rec_reader.proofs.syntax_tree.Syntax.as_slice.Goals as goal

pub returns-clause-whole : goal.returns-clause-whole
returns-clause-whole c = subst (λ (v : Parsed). All HasWholeTerms v.specifications) c.self.view_is c.self.invariant.0

pub returns-clause-few : goal.returns-clause-few
returns-clause-few c = subst (λ (v : Parsed). All HasFewLeftNodes v.specifications) c.self.view_is c.self.invariant.1
