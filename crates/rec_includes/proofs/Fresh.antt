-- Numbers that are added to others, each once at its first mention.
use Rattle.rec_includes.proofs.Common.{arith, ◌≡◌, ℕ, Bool, true, false, ◌||◌, cond, List, [], ◌∷◌, ◌++◌, append_assoc, append-nil, nat_eq, refl, sym, ap, ◌∙◌, eq-eqb, list_any, fresh, with_numbers}
use Rattle.std.proofs.lemmas.List.Folds.{list_any-append}

-- a number is among these
abbrev pub has : List ℕ → ℕ → Bool
has numbers n = list_any (nat_eq n) numbers

-- these and one number more, unless it is among them
abbrev pub with_number : List ℕ → ℕ → List ℕ
with_number numbers n = cond (has numbers n) numbers (numbers ++ n ∷ [])

or_false : (b : Bool) → (b || false) ≡ b
or_false b = grind arith

pub or_true : (b : Bool) → (b || true) ≡ true
or_true b = grind arith

-- the first of several numbers is added before the others
pub first_number : (ks ns : List ℕ) (n : ℕ) → with_numbers ks (n ∷ ns) ≡ with_numbers (with_number ks n) ns
first_number ks ns n = grind (arith, append_assoc)

-- to add no numbers changes nothing
pub no_numbers : (ks : List ℕ) → with_numbers ks [] ≡ ks
no_numbers ks = append-nil ks

-- to add nothing new changes nothing
pub nothing_new : (ks ns : List ℕ) → fresh ks ns ≡ [] → with_numbers ks ns ≡ ks
nothing_new ks ns e = ap (λ f. ks ++ f) e ∙ append-nil ks

-- numbers that are added together are added one list after the other
pub with_append : (m a b : List ℕ) → with_numbers m (a ++ b) ≡ with_numbers (with_numbers m a) b
with_append m [] b = ap (λ k. with_numbers k b) (sym (no_numbers m))
with_append m (n ∷ a) b = grind (arith, with_append (with_number m n) a b, first_number)

-- a number is among two lists where it is among one of them
pub has_append : (a b : List ℕ) (j : ℕ) → has (a ++ b) j ≡ (has a j || has b j)
has_append a b j = list_any-append (nat_eq j) a b

-- which numbers there are when one was added
pub has_one : (ks : List ℕ) (n j : ℕ) → has (with_number ks n) j ≡ (has ks j || nat_eq j n)
has_one ks n j = grind (arith, has_append)

-- which numbers there are when some were added: those that were there, and those that were added
pub has_with : (ks ns : List ℕ) (j : ℕ) → has (with_numbers ks ns) j ≡ (has ks j || has ns j)
has_with ks [] j = ap (λ k. has k j) (no_numbers ks) ∙ sym (or_false (has ks j))
has_with ks (n ∷ ns) j = grind (arith, has_with (with_number ks n) ns j, first_number, has_one)

-- a number that was there is there when some were added
pub has_before : (ks ns : List ℕ) (j : ℕ) → has ks j ≡ true → has (with_numbers ks ns) j ≡ true
has_before ks ns j h = has_with ks ns j ∙ ap (λ b. b || has ns j) h

-- a number that was added is there
pub has_added : (ks ns : List ℕ) (j : ℕ) → has ns j ≡ true → has (with_numbers ks ns) j ≡ true
has_added ks ns j h = has_with ks ns j ∙ ap (λ b. has ks j || b) h ∙ or_true (has ks j)

-- a number is among those that begin with it
pub has_first : (n : ℕ) (ns : List ℕ) → has (n ∷ ns) n ≡ true
has_first n ns = ap (λ b. b || has ns n) (eq-eqb n n refl)

-- what was gathered from two lists is added as the two lists are
pub with_with : (m a b : List ℕ) → with_numbers m (with_numbers a b) ≡ with_numbers (with_numbers m a) b
with_with m a [] = ap (with_numbers m) (no_numbers a) ∙ sym (no_numbers (with_numbers m a))
with_with m a (n ∷ b) = grind (arith, with_with m (with_number a n) b, first_number, has_added, with_append, no_numbers)

-- each of these numbers is among those
pub record Within (ns ms : List ℕ) : Type 0 where
  pub each : (j : ℕ) → has ns j ≡ true → has ms j ≡ true

-- no number is within any list
pub within_none : (ms : List ℕ) → Within [] ms
within_none ms = record { each = λ j h. absurd cc }

-- of two lists, where each is within
pub within_both : (a b ms : List ℕ) → Within a ms → Within b ms → Within (with_numbers a b) ms
within_both a b ms v w = grind (arith, has_with)

-- nothing is new where each is there
pub none_fresh : (ns ms : List ℕ) → Within ms ns → fresh ns ms ≡ []
none_fresh ns [] w = refl
none_fresh ns (m ∷ ms) w = grind (arith, none_fresh ns ms)

-- each is there where nothing is new
pub within_fresh : (ns ms : List ℕ) → fresh ns ms ≡ [] → Within ms ns
within_fresh ns ms e = record { each = λ j h. ap (λ k. has k j) (sym (nothing_new ns ms e)) ∙ has_added ns ms j h }
