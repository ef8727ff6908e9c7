use Rattle.std.proofs.Common.{◌≡◌, ◌≤◌}
use Rattle.std.specs.Prelude.{true}
use Rattle.plain_store.specs.Contents.{store_of}
use Rattle.innermost.specs.Machines.{IsFor}
use Rattle.rewriting_trials.proofs.counted.last_answer.Given as goal

abbrev pub invariant-loop-term : goal.invariant-loop-term
invariant-loop-term l =
    record {
      inside : (store_of l.store.store).inside ≡ true;
      wide : l.plan.widest ≤ (store_of l.store.store).widest;
      machine : IsFor l.plan l.machine;
      depth : l.machine.depth ≡ l.depth;
    }
