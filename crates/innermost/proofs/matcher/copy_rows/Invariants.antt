use Rattle.std.proofs.Common.{◌≡◌, take}
use Rattle.std.specs.Prelude.{vec_capacity}
use Rattle.rule_automaton.specs.Rows.{rows_at}
use Rattle.innermost.proofs.matcher.copy_rows.Given as goal

abbrev pub invariant-loop-place : goal.invariant-loop-place
invariant-loop-place l =
    record {
      rows : l.bound.items ≡ rows_at l.rows (take l.place-index l.places);
      room : vec_capacity l.bound ≡ vec_capacity l.initial.bound;
    }
