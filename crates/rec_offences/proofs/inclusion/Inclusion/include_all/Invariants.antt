use Rattle.rec_offences.proofs.Common.{◌≡◌, drop}
use Rattle.rec_offences.proofs.Along.{Along}
use Rattle.rec_offences.proofs.inclusion.Inclusion.include_all.Given as goal

abbrev pub invariant-loop-entry : goal.invariant-loop-entry
invariant-loop-entry l =
    record {
      along : Along l.headers.bytes l.specifications l.number l.entries (drop l.entry-index l.entries) l.is_there l.verdicts.items l.self;
      levels : l.self.levels ≡ l.initial.self.levels;
    }
