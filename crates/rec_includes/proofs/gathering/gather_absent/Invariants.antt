use Rattle.rec_includes.proofs.Common.{◌≡◌, ◌++◌, with_numbers, material_of}
use Rattle.rec_includes.proofs.Walk.{IsUnderWay, weights}
use Rattle.rec_includes.proofs.gathering.gather_absent.Given as goal

abbrev pub invariant-loop-frame : goal.invariant-loop-frame
invariant-loop-frame l =
    record {
      walk : IsUnderWay l.headers.bytes l.specifications (with_numbers l.initial.material.keys (material_of l.headers.bytes l.specifications l.fn.number)) l.material.keys l.frames.items;
      added : l.material.keys ≡ l.initial.material.keys ++ l.added.items;
    }

abbrev pub decreases-loop-frame : goal.decreases-loop-frame
decreases-loop-frame l = weights l.specifications l.frames.items
