use Rattle.term_file.proofs.Pieces.{shorts}
use Rattle.term_file.proofs.encoding.encode.Goals as goal

pub put_file-requires-clause-short : goal.put_file-requires-clause-short
put_file-requires-clause-short c = shorts _ _ c.shared.invariant.right.symbols_right
