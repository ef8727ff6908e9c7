-- Steps one after another.
use Rattle.std.proofs.Common.{◌≡◌, ◌<◌, ◌∙◌, ℕ, ◌+◌, List, [], ◌∷◌, ◌++◌, length, take, drop, get_or, refl, ap, sym, Option, Some, None}
use Rattle.std.specs.Prelude.{option_and_then}
use Rattle.std.proofs.lemmas.List.{take_more, drop_more, take-append-drop}
use Rattle.rec_reader.specs.declared.token.Token.{Token}
use Rattle.rec_reader.specs.declared.machine.Machine.{Machine}
use Rattle.rec_reader.specs.Steps.{run, start, step, StopsAt}
use Rattle.rec_reader.specs.Refusal.{place_of}

then_assoc : {A B C : Type 0} (o : Option A) (f : A → Option B) (g : B → Option C) → option_and_then (λ y. g y) (option_and_then (λ x. f x) o) ≡ option_and_then (λ x. option_and_then (λ y. g y) (f x)) o
then_assoc None f g = refl
then_assoc (Some x) f g = refl

then_some : {A : Type 0} (o : Option A) → option_and_then (λ x. Some x) o ≡ o
then_some None = refl
then_some (Some x) = refl

then_same : {A B : Type 0} (o : Option A) (f g : A → Option B) → ((x : A) → f x ≡ g x) → option_and_then (λ x. f x) o ≡ option_and_then (λ x. g x) o
then_same None f g h = refl
then_same (Some x) f g h = h x

-- the steps at some tokens and then those at others
pub run_more : (xs ys : List Token) (m : Machine) → run m (xs ++ ys) ≡ option_and_then (λ n. run n ys) (run m xs)
run_more [] ys m = refl
run_more (x ∷ xs) ys m =
    then_same (step m x) (λ n. run n (xs ++ ys)) (λ n. option_and_then (λ k. run k ys) (run n xs)) (λ n. run_more xs ys n)
    ∙ sym (then_assoc (step m x) (λ n. run n xs) (λ n. run n ys))

-- one token more
pub run_one : (tokens : List Token) (i : ℕ) (d : Token) {m n : Machine} → i < length tokens → run start (take i tokens) ≡ Some m → step m (get_or tokens i d) ≡ Some n → run start (take (i + 1) tokens) ≡ Some n
run_one tokens i d {m} {n} h r s =
    ap (run start) (take_more tokens i d h)
    ∙ run_more (take i tokens) (get_or tokens i d ∷ []) start
    ∙ ap (λ o. option_and_then (λ k. run k (get_or tokens i d ∷ [])) o) r
    ∙ then_some (step m (get_or tokens i d))
    ∙ s

-- there is no step at a token
pub stops_at : (tokens : List Token) (i : ℕ) (d : Token) {m : Machine} (offset : ℕ) → i < length tokens → run start (take i tokens) ≡ Some m → step m (get_or tokens i d) ≡ None → offset ≡ place_of (get_or tokens i d) → StopsAt tokens offset
stops_at tokens i d {m} offset h r s e = record {
  before = take i tokens;
  token = get_or tokens i d;
  after = drop (i + 1) tokens;
  is = sym (take-append-drop i tokens) ∙ ap (λ us. take i tokens ++ us) (drop_more tokens i d h);
  machine = m;
  reached = r;
  stops = s;
  place = e;
}
