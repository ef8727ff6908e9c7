use Rattle.std.proofs.Common.{◌≤◌, ◌+◌, length, arith}
use Rattle.std.proofs.lemmas.Grind.{common_steps}
use Rattle.ends.proofs.Pieces.{left_splits, none_left}
use Rattle.memory_ends.proofs.source.MemSourceSource.read.Goals as goal

pub returns-clause-bytes : goal.returns-clause-bytes
returns-clause-bytes c =
    let n = c.min-count.result in
    let inside = c.self.inside in (
      let fits : inside.at + n ≤ length inside.bytes.items = grind (arith, common_steps) in
          rw (← c.self.view_is) (left_splits inside.at n inside.bytes.items c.copy_from_slice.new.self _ fits (grind (arith, common_steps))),
      λ z room. none_left inside.at n inside.most (length c.args.buf.now) inside.bytes.items (grind (arith, common_steps)) z c.self.invariant.1 c.requires,
    )
