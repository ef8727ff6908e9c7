use Rattle.rec_check.proofs.Common.{◌∙◌}
use Rattle.rec_check.proofs.Declaring.{takes, stands_in, passes_over}
use Rattle.rec_check.proofs.rules.variables_of.Goals.{then-has+in_ok-add_new, else-has}
use Rattle.rec_check.proofs.rules.variables_of.Goals as goal

pub loop-node-preserved : goal.loop-node-preserved
loop-node-preserved c =
    let l = c.loop-node in
    elim c.if-has.branch [
      | then-has+in_ok-add_new w ↦
          let bytes = stands_in c.args.declared.now _ _ _ c.loop-node-test.true l.variables _ c.has.ensures _ l.invariant.bytes w.in_ok-add_new.ensures.ok in
          let names = takes c.args.declared.now _ _ _ c.loop-node-test.true l.variables _ c.has.ensures _ l.invariant.bytes w.if-has.true w.in_ok-add_new.ensures.ok in
          rw w.variables-is (record { bytes = bytes; names = names ∙ l.invariant.names })
      | else-has w ↦
          let names = passes_over c.args.declared.now _ _ _ c.loop-node-test.true l.variables _ c.has.ensures w.if-has.false in
          rw w.variables-is (record { bytes = l.invariant.bytes; names = names ∙ l.invariant.names })
    ]
