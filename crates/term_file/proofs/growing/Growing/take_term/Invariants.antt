use Rattle.std.proofs.Common.{◌≤◌, List, length, take}
use Rattle.term_model.specs.Tree.{Tree}
use Rattle.term_file.specs.Growing.{contents_so_far}
use Rattle.term_file.specs.Sharing.{Shares}
use Rattle.term_file.proofs.Shares.{Reached}
use Rattle.term_file.proofs.growing.Growing.take_term.Given as goal

abbrev pub invariant-loop-item : goal.invariant-loop-item
invariant-loop-item l = record {
  reached : (ts : List Tree) → Shares l.names ts (contents_so_far l.fn.self) → Reached l.names (take l.item-index l.item-items) ts (contents_so_far l.self);
  few : length l.self.table ≤ l.rows;
}
