use Rattle.std.proofs.Common.{◌≤◌, length, take}
use Rattle.term_file.specs.Growing.{contents_so_far}
use Rattle.term_file.specs.Sharing.{Shares}
use Rattle.term_file.proofs.sharing.share.Given as goal

abbrev pub invariant-loop-term : goal.invariant-loop-term
invariant-loop-term l = record {
  shares : Shares l.symbols (take l.term-index l.terms) (contents_so_far l.growing);
  few : length l.growing.table ≤ l.rows;
}
