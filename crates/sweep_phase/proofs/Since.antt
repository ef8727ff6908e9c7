-- A creation after a collection.
use Rattle.std.proofs.Common.{Result, Ok, Err}
use Rattle.std.specs.Prelude.{IfErr}

-- what a refusal tells of a pass that has collected, it tells of this pass
pub since_collected : {A E : Type 0} → (r : Result A E) (P Q : Type 0) → P → IfErr r (λ _. P → Q) → IfErr r (λ _. Q)
since_collected (Ok a) P Q collected h = tt
since_collected (Err e) P Q collected h = h collected
