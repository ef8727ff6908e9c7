-- What the tokens from a place on come to.
use Rattle.std.proofs.Common.{◌≡◌, ◌∙◌, List, [], ◌∷◌, ◌++◌, refl, ap, sym, Option, Some, None}
use Rattle.std.specs.Prelude.{option_and_then}
use Rattle.rec_reader.specs.declared.token.Token.{Token}
use Rattle.rec_reader.specs.declared.syntax_tree.Specification.{Specification}
use Rattle.rec_reader.specs.declared.machine.Machine.{Machine}
use Rattle.rec_reader.specs.Steps.{run, step, accepted}

-- the specifications that the tokens spell from here, if all of them are read and they may end so
unfoldable pub outcome : Machine → List Token → Option (List Specification)
outcome m [] = accepted m
outcome m (t ∷ ts) = option_and_then (λ n. outcome n ts) (step m t)

pub go_on : (m : Machine) (t : Token) (ts : List Token) (n : Machine) {s : List Specification} → step m t ≡ Some n → outcome n ts ≡ Some s → outcome m (t ∷ ts) ≡ Some s
unfolding outcome
go_on m t ts n e k = ap (λ o. option_and_then (λ n. outcome n ts) o) e ∙ k

-- the same, where the next token is taken by this step
abbrev pub by_step : (Machine → Token → Option Machine) → Machine → List Token → Option (List Specification)
by_step f m [] = None
by_step f m (t ∷ ts) = option_and_then (λ n. outcome n ts) (f m t)

then_same : {A B : Type 0} (o : Option A) (f g : A → Option B) → ((x : A) → f x ≡ g x) → option_and_then (λ x. f x) o ≡ option_and_then (λ x. g x) o
then_same None f g h = refl
then_same (Some x) f g h = h x

then_assoc : {A B C : Type 0} (o : Option A) (f : A → Option B) (g : B → Option C) → option_and_then (λ y. g y) (option_and_then (λ x. f x) o) ≡ option_and_then (λ x. option_and_then (λ y. g y) (f x)) o
then_assoc None f g = refl
then_assoc (Some x) f g = refl

-- after some tokens, those that follow
pub outcome_more : (xs ys : List Token) (m : Machine) → outcome m (xs ++ ys) ≡ option_and_then (λ n. outcome n ys) (run m xs)
unfolding outcome
outcome_more [] ys m = refl
outcome_more (x ∷ xs) ys m =
    then_same (step m x) (λ n. outcome n (xs ++ ys)) (λ n. option_and_then (λ k. outcome k ys) (run n xs)) (λ n. outcome_more xs ys n)
    ∙ sym (then_assoc (step m x) (λ n. run n xs) (λ n. outcome n ys))
