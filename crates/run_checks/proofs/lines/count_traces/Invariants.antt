use Rattle.std.proofs.Common.{◌≡◌, ◌+◌, ◌≤◌, length, map, drop}
use Rattle.run_checks.specs.Form.{values_from, wrong_from}
use Rattle.log_check.specs.Words.{lines}
use Rattle.run_checks.proofs.lines.count_traces.Given as goal

abbrev pub invariant-loop-number : goal.invariant-loop-number
invariant-loop-number l =
    let ls = map (λ s. s.now) l.taken in
    let values = values_from l.number (drop l.number ls) in
    record {
      wrong : wrong_from (length l.taken + 1) (values_from 0 ls) (lines l.traces) ≡ wrong_from (l.place + 1) values (lines l.rest);
      count : length (values_from 0 ls) + length l.taken ≡ length values + l.place;
      bound : l.place ≤ length l.taken + l.number;
    }
