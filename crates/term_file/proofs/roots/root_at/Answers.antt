use Rattle.std.proofs.Common.{◌∙◌, sym, arith}
use Rattle.term_file.specs.InOrder.{visits}
use Rattle.term_file.specs.Reading.{may_be_root}
use Rattle.term_file.proofs.FieldLaws.{where_is}
use Rattle.term_file.proofs.Loops.{bad_due}
use Rattle.term_file.proofs.Rooted.{past_all, comes_well}
use Rattle.term_file.proofs.roots.root_at.Goals as goal

pub returns-then-root-len-clause-read : goal.returns-then-root-len-clause-read
returns-then-root-len-clause-read c =
    bad_due _ c.bad_at.result _ _ c.bad_at.ensures
    (where_is c.args.total 4 (may_be_root (visits c.args.table.now) c.args.visited) c.args.bytes.now _ _ c.in_ok-root.ensures (past_all c.args.table.now c.args.visited c.in_ok-root.root (omega (arith, c.if-root-len.true, c.len.ensures))))

pub returns-in-Some-clause-read : goal.returns-in-Some-clause-read
returns-in-Some-clause-read c =
    where_is c.args.total 4 (may_be_root (visits c.args.table.now) c.args.visited) c.args.bytes.now _ _ c.in_ok-root.ensures
    (comes_well c.args.table.now c.args.visited c.in_ok-root.root c.in-Some.count (omega (arith, c.if-root-len.false, c.len.ensures)) (sym c.in-Some.is ∙ c.in_ok-came.ensures.came))
