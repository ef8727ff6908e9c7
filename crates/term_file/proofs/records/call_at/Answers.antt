use Rattle.std.proofs.Common.{arith}
use Rattle.std.proofs.lemmas.Bool.{lt-ltb}
use Rattle.term_file.proofs.records.call_at.Goals as goal

pub returns-clause-right : goal.returns-clause-right
returns-clause-right c = lt-ltb _ _ (omega (arith, c.in_ok-symbol.ensures.below, c.requires))
