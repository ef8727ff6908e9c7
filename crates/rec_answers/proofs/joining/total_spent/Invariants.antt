use Rattle.std.proofs.Common.{◌≡◌, ◌*◌, ◌^◌, ◌≤◌, take}
use Rattle.std.specs.Prelude.{sum_by}
use Rattle.rec_answers.proofs.joining.total_spent.Given as goal

abbrev pub invariant-loop-line : goal.invariant-loop-line
invariant-loop-line l = record {
  is : l.total ≡ sum_by (λ k. k.spent) (take l.line-index l.lines);
  small : l.total ≤ l.line-index * 2 ^ 64;
}
