use Rattle.std.proofs.Common.{ℕ, ◌+◌, [], ◌∷◌, ◌++◌, sym, ap, ◌∙◌, arith}
use Rattle.std.proofs.lemmas.List.{length_push, map_push}
use Rattle.worker_crew.specs.declared.lines.Traced.{Traced}
use Rattle.worker_crew.proofs.gather.beside.Goals as goal

pub loop-made-preserved : goal.loop-made-preserved
loop-made-preserved c =
    let loop = c.loop-made.invariant in
    let line = c.push_reserved.ensures in
    let events = c.push_reserved-in-loop-made.ensures in
    let more = length_push c.loop-made.yielded c.in-Some.made in
    record {
      list = line.items ∙ (ap (λ xs. xs ++ c.in-Some.made.line ∷ []) loop.list ∙ sym (map_push (λ (t : Traced). t.line) c.loop-made.yielded c.in-Some.made));
      traces = events.items ∙ (ap (λ xs. xs ++ c.in-Some.made.events ∷ []) loop.traces ∙ sym (map_push (λ (t : Traced). t.events) c.loop-made.yielded c.in-Some.made));
      listed = line.len ∙ (ap (λ (n : ℕ). n + 1) loop.listed ∙ sym more);
      traced = events.len ∙ (ap (λ (n : ℕ). n + 1) loop.traced ∙ sym more);
      wide = let same = line.capacity in let old = loop.wide in omega (arith, same, old);
      deep = let same = events.capacity in let old = loop.deep in omega (arith, same, old);
    }
