use Rattle.rec_offences.proofs.Common.{◌≡◌, ℕ, List, length, Specification, IsAtLevel, path_of, cut}
use Rattle.rec_offences.proofs.inclusion.Inclusion.return_to.Given as goal

abbrev pub invariant-loop-last : goal.invariant-loop-last
invariant-loop-last l =
    record {
      kept : (bytes : List ℕ) (specifications : List Specification) → IsAtLevel bytes specifications l.initial.self → IsAtLevel bytes specifications l.self;
      path : cut l.number (path_of l.self.levels.items) ≡ cut l.number (path_of l.initial.self.levels.items);
    }

-- one level less is left
abbrev pub decreases-loop-last : goal.decreases-loop-last
decreases-loop-last l = length l.self.levels.items
