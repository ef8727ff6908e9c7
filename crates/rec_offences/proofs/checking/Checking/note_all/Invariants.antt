use Rattle.rec_offences.proofs.Common.{◌≡◌, drop, flat_map, least_with, offences_at}
use Rattle.rec_offences.specs.Checking.{HasSameInput, IsChecking}
use Rattle.rec_offences.proofs.checking.Checking.note_all.Given as goal

abbrev pub invariant-loop-number : goal.invariant-loop-number
invariant-loop-number l =
    record {
      checking : IsChecking l.self;
      same : HasSameInput l.initial.self l.self;
      noted : least_with l.self.found (flat_map (offences_at l.initial.self.headers.now.bytes l.initial.self.specifications.now) (drop l.number-index l.numbers))
          ≡ least_with l.initial.self.found (flat_map (offences_at l.initial.self.headers.now.bytes l.initial.self.specifications.now) l.numbers);
    }
