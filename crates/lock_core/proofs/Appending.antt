-- What is appended, in parts.
use Rattle.std.proofs.Common.{◌≡◌, ℕ, List, [], ◌∷◌, ◌++◌, sym, ap, ◌∙◌, append_assoc, append-nil, arith}
use Rattle.std.specs.Prelude.{IsErr}
use denote.Bor.{Bor}
use Rattle.std.proofs.Common.{Result, Ok, Err}
use Rattle.faults.specs.declared.Memory.{Memory}
use Rattle.lock_core.specs.StateText.{Extends, Appends, joined}

pub joined_more : (xs : List (Bor (List ℕ))) (x : Bor (List ℕ)) → joined (xs ++ x ∷ []) ≡ joined xs ++ x.now
joined_more [] x = append-nil x.now
joined_more (y ∷ ys) x = ap (λ (z : List ℕ). y.now ++ z) (joined_more ys x) ∙ sym (append_assoc y.now (joined ys) x.now)

pub extends_by : (a b text : List ℕ) → b ≡ a ++ text → Extends a b
extends_by a b text e = record { more = text; is = e }

pub extends_then : (a b c text : List ℕ) → b ≡ a ++ text → Extends b c → Extends a c
extends_then a b c text e f = record { more = text ++ f.more; is = f.is ∙ (ap (λ (z : List ℕ). z ++ f.more) e ∙ append_assoc a text f.more) }

-- after a text, another
pub appends_after : (a b c x y : List ℕ) (r : Result (Unit {0}) Memory) → b ≡ a ++ x → Appends b c y r → Appends a c (x ++ y) r
appends_after a b c x y (Ok u) e f = f ∙ (ap (λ (z : List ℕ). z ++ y) e ∙ append_assoc a x y)
appends_after a b c x y (Err m) e f = extends_then a b c x e f

-- where the call gave up, a part was appended
pub gave_up : (a b x : List ℕ) (r : Result (Unit {0}) Memory) → IsErr r → Extends a b → Appends a b x r
gave_up a b x (Ok u) e f = absurd (grind arith)
gave_up a b x (Err m) e f = f
