use Rattle.std.proofs.lemmas.Option.{IfSome_then}
use Rattle.innermost.proofs.Passing.{head_within}
use Rattle.rewriting_trials.proofs.automata.from_or_after.Goals as goal

pub returns-then-after : goal.returns-then-after
returns-then-after c = λ head e. IfSome_then c.next.result (c.next.ensures.next head e).found (λ k p. (head_within c.args.plan.now.rules k head p.1, p.1))
