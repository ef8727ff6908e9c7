-- What the tokens from a place on come to.
use Rattle.std.proofs.Common.{◌≡◌, ◌∙◌, List, [], ◌∷◌, ◌++◌, refl, ap, sym, Option, Some, None}
use Rattle.std.specs.Prelude.{option_and_then}
use Rattle.term_syntax.specs.Token.{Token}
use Rattle.term_syntax.specs.State.{Part, Machine}
use Rattle.term_syntax.specs.declared.machine.Node.{Node}
use Rattle.term_syntax.specs.Steps.{run, step, settled_at, accepted}

-- the parts and the nodes of the terms
abbrev pub Read : Type 0
Read = List Part × List (List Node)

-- what was read, if all tokens are taken from here and the input may end so
unfoldable pub outcome : Machine → List Token → Option Read
outcome m [] = accepted (settled_at m.place m)
outcome m (t ∷ ts) = option_and_then (λ n. outcome n ts) (step m t)

pub go_on : (m : Machine) (t : Token) (ts : List Token) (n : Machine) {s : Read} → step m t ≡ Some n → outcome n ts ≡ Some s → outcome m (t ∷ ts) ≡ Some s
unfolding outcome
go_on m t ts n e k = ap (λ o. option_and_then (λ n. outcome n ts) o) e ∙ k

then_same : {A B : Type 0} (o : Option A) (f g : A → Option B) → ((x : A) → f x ≡ g x) → option_and_then (λ x. f x) o ≡ option_and_then (λ x. g x) o
then_same None f g h = refl
then_same (Some x) f g h = h x

then_assoc : {A B C : Type 0} (o : Option A) (f : A → Option B) (g : B → Option C) → option_and_then (λ y. g y) (option_and_then (λ x. f x) o) ≡ option_and_then (λ x. option_and_then (λ y. g y) (f x)) o
then_assoc None f g = refl
then_assoc (Some x) f g = refl

then_some : {A : Type 0} (o : Option A) → option_and_then (λ x. Some x) o ≡ o
then_some None = refl
then_some (Some x) = refl

-- after some tokens, those that follow
pub outcome_more : (xs ys : List Token) (m : Machine) → outcome m (xs ++ ys) ≡ option_and_then (λ n. outcome n ys) (run m xs)
unfolding outcome
outcome_more [] ys m = refl
outcome_more (x ∷ xs) ys m =
    then_same (step m x) (λ n. outcome n (xs ++ ys)) (λ n. option_and_then (λ k. outcome k ys) (run n xs)) (λ n. outcome_more xs ys n)
    ∙ sym (then_assoc (step m x) (λ n. run n xs) (λ n. outcome n ys))

-- the steps at some tokens and then those at others
pub run_more : (xs ys : List Token) (m : Machine) → run m (xs ++ ys) ≡ option_and_then (λ n. run n ys) (run m xs)
run_more [] ys m = refl
run_more (x ∷ xs) ys m =
    then_same (step m x) (λ n. run n (xs ++ ys)) (λ n. option_and_then (λ k. run k ys) (run n xs)) (λ n. run_more xs ys n)
    ∙ sym (then_assoc (step m x) (λ n. run n xs) (λ n. run n ys))

-- one token more
pub run_one : (ts : List Token) (t : Token) (start m n : Machine) → run start ts ≡ Some m → step m t ≡ Some n → run start (ts ++ t ∷ []) ≡ Some n
run_one ts t start m n r s =
    run_more ts (t ∷ []) start
    ∙ ap (λ o. option_and_then (λ k. run k (t ∷ [])) o) r
    ∙ then_some (step m t)
    ∙ s
