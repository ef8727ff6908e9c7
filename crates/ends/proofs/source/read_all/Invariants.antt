use Rattle.std.proofs.Common.{◌≡◌, ◌≤◌, ◌-◌, vec_len}
use Rattle.std.specs.Io.KnownBytes.{Consumes}
use Rattle.ends.proofs.source.read_all.Given as goal

abbrev pub invariant-pieces : goal.invariant-pieces
invariant-pieces g l = record {
  given : Consumes (g.S.Source.left l.fn.source) (g.S.Source.left l.source) l.all.items;
  answered : g.S.Source.faults l.source ≡ g.S.Source.faults l.fn.source;
  fits : vec_len l.all ≤ l.limit;
}

abbrev pub decreases-pieces : goal.decreases-pieces
decreases-pieces g l = l.limit - vec_len l.all
