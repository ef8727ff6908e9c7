-- Facts of a result that is Ok.
use Rattle.std.proofs.Common.{OnOk, Result, Ok, Err}

-- what follows from a fact
pub on_ok : {X E A B : Type 0} (r : Result X E) → (A → B) → OnOk r A → OnOk r B
on_ok (Ok x) f a = f a
on_ok (Err e) f a = tt
