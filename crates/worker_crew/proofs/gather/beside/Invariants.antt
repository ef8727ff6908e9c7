use Rattle.std.proofs.Common.{◌≡◌, ◌≤◌, length, map}
use Rattle.std.specs.Prelude.{vec_len, vec_capacity}
use Rattle.worker_crew.specs.declared.lines.Traced.{Traced}
use Rattle.worker_crew.proofs.gather.beside.Given as goal

abbrev pub invariant-loop-made : goal.invariant-loop-made
invariant-loop-made l = record {
  list : l.list.items ≡ map (λ (t : Traced). t.line) l.yielded;
  traces : l.traces.items ≡ map (λ (t : Traced). t.events) l.yielded;
  listed : vec_len l.list ≡ length l.yielded;
  traced : vec_len l.traces ≡ length l.yielded;
  wide : vec_len l.fn.traced ≤ vec_capacity l.list;
  deep : vec_len l.fn.traced ≤ vec_capacity l.traces;
}
