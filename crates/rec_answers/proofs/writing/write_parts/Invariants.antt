use Rattle.std.proofs.Common.{◌≡◌}
use Rattle.std.specs.Prelude.{take}
use Rattle.std.specs.List.{flat_map}
use Rattle.std.specs.Io.KnownBytes.{Appends}
use Rattle.rec_answers.proofs.writing.write_parts.Given as goal

abbrev pub invariant-loop-part : goal.invariant-loop-part
invariant-loop-part g l = record {
  written : Appends (g.O.Sink.taken l.fn.out) (g.O.Sink.taken l.out) (flat_map (λ part. part.items) (take l.part-index l.parts));
  answered : g.O.Sink.faults l.out ≡ g.O.Sink.faults l.fn.out;
}
