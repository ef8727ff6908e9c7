-- What follows of an outcome.
use Rattle.std.proofs.Common.{◌≡◌, Bool, true, false, Option, None, Some, refl, sym, subst, ◌∙◌, true≢false}
use Rattle.std.specs.Prelude.{Result, Ok, Err, IfOk, MatchBool, MatchOption}

pub at_false : (b : Bool) (P Q : Type 0) → b ≡ false → MatchBool b P Q → Q
at_false true P Q e h = absurd (true≢false e)
at_false false P Q e h = h

pub at_true : (b : Bool) (P Q : Type 0) → b ≡ true → MatchBool b P Q → P
at_true true P Q e h = h
at_true false P Q e h = absurd (true≢false (sym e))

-- an outcome that says more
pub if_ok_option : {A E : Type 0} (r : Result (Option A) E) (P R : Type 0) (Q S : A → Type 0) → (P → R) → ((x : A) → Q x → S x) → IfOk r (λ o. MatchOption o P Q) → IfOk r (λ o. MatchOption o R S)
if_ok_option (Ok None) P R Q S f g h = f h
if_ok_option (Ok (Some x)) P R Q S f g h = g x h
if_ok_option (Err e) P R Q S f g h = tt

pub at_some : {A : Type 0} (o : Option A) (x : A) (P : Type 0) (Q : A → Type 0) → o ≡ Some x → MatchOption o P Q → Q x
at_some None x P Q e h = absurd (cc)
at_some (Some y) x P Q e h = subst Q (let k : y ≡ x = cc in k) h

pub at_none : {A : Type 0} (o : Option A) (P : Type 0) (Q : A → Type 0) → o ≡ None → MatchOption o P Q → P
at_none None P Q e h = h
at_none (Some y) P Q e h = absurd (cc)

pub never : (b : Bool) → b ≡ false → b ≡ true → ⊥
never b e h = true≢false (sym h ∙ e)

pub match_by : (b : Bool) (P Q : Type 0) → (b ≡ true → P) → (b ≡ false → Q) → MatchBool b P Q
match_by true P Q f g = f refl
match_by false P Q f g = g refl
