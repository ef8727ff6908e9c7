use Rattle.std.proofs.Common.{◌∙◌, arith}
use Rattle.run_checks.proofs.Growing.{grows_twice}
use Rattle.run_checks.proofs.Moves.{climbed, whole_at_root}
use Rattle.run_checks.proofs.cursor.Cursor.whole.Goals as goal

pub frames-smaller : goal.frames-smaller
frames-smaller c = (climbed c.frames.table c.up.new.table c.frames.self c.up.new.self c.in_ok-up.field-0 (grind arith) c.in_ok-up.ensures).shorter

pub frames-preserved : goal.frames-preserved
frames-preserved c =
    let k = climbed c.frames.table c.up.new.table c.frames.self c.up.new.self c.in_ok-up.field-0 (grind arith) c.in_ok-up.ensures in
    let i = c.frames.invariant in
    record {
      grows = grows_twice c.args.table.now c.frames.table c.up.new.table i.grows k.grows;
      standing = k.standing;
      whole = k.same ∙ i.whole;
    }

pub returns : goal.returns
returns c =
    let i = c.frames.invariant in
    record {
      grows = i.grows;
      there = i.standing.there;
      term = whole_at_root c.frames.table c.frames.self (grind arith) ∙ i.whole;
    }
