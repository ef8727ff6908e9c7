use Rattle.std.proofs.Common.{◌+◌, arith}
use Rattle.term_file.specs.File.{record_bytes}
use Rattle.term_file.specs.Outcome.{view}
use Rattle.term_file.proofs.Pieces.{one_piece}
use Rattle.term_file.proofs.encoding.put_records.Goals as goal

pub loop-number-preserved : goal.loop-number-preserved
loop-number-preserved c = one_piece record_bytes c.args.table.now c.loop-number.number (c.loop-number.number + 1) (view c.at.result.now) c.args.out.now.items c.loop-number.out.items c.put_record.new.out.items (omega arith) c.at.ensures c.loop-number.invariant c.in_ok-put_record.ensures
