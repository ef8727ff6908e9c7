-- Runs, one after another.
use Rattle.std.proofs.Common.{◌≡◌, ℕ, List, ◌∷◌, ◌++◌, refl, sym, ap, append_assoc, append-nil}
use Rattle.rewrite_model.specs.Run.{Run, Ended, Done, OutOfFuel, TooDeep, done, noting, after, ◌>>=◌}

-- the value, where there is one, has this
abbrev pub EndsIn : {A : Type 0} → (A → Type 0) → Ended A → Type 0
EndsIn P (Done a left) = P a
EndsIn P OutOfFuel = Unit {0}
EndsIn P TooDeep = Unit {0}

always : {A : Type 0} (e : Ended A) → EndsIn (λ (a : A). Unit {0}) e
always (Done a left) = tt
always OutOfFuel = tt
always TooDeep = tt

module _ {N : Type 0} where
  abbrev noted : {A : Type 0} → List N → Run N A → Run N A
  noted notes r = record { notes = notes ++ r.notes; end = r.end }

  after_after : {A B : Type 0} (front notes : List N) (e : Ended A) (g : A → ℕ → Run N B) → noted front (after notes e g) ≡ after (front ++ notes) e g
  after_after {A} {B} front notes (Done a left) g = ap (λ (ns : List N). let r : Run N B = record { notes = ns; end = (g a left).end } in r) (sym (append_assoc front notes (g a left).notes))
  after_after front notes OutOfFuel g = refl
  after_after front notes TooDeep g = refl

  then_after : {A B C : Type 0} (notes : List N) (e : Ended A) (g : A → ℕ → Run N B) (h : B → ℕ → Run N C) → (after notes e g >>= h) ≡ after notes e (λ a n. g a n >>= h)
  then_after notes (Done a left) g h = sym (after_after notes (g a left).notes (g a left).end h)
  then_after notes OutOfFuel g h = refl
  then_after notes TooDeep g h = refl

  -- what comes after what comes after
  pub then_then : {A B C : Type 0} (x : Run N A) (g : A → ℕ → Run N B) (h : B → ℕ → Run N C) → ((x >>= g) >>= h) ≡ (x >>= (λ a n. g a n >>= h))
  then_then x g h = then_after x.notes x.end g h

  same_after : {A B : Type 0} (P : A → Type 0) (notes : List N) (e : Ended A) (g h : A → ℕ → Run N B) → EndsIn P e → ((a : A) (n : ℕ) → P a → g a n ≡ h a n) → after notes e g ≡ after notes e h
  same_after {A} {B} P notes (Done a left) g h p s = ap (λ (r : Run N B). noted notes r) (s a left p)
  same_after P notes OutOfFuel g h p s = refl
  same_after P notes TooDeep g h p s = refl

  pub same_in : {A B : Type 0} (P : A → Type 0) (x : Run N A) (g h : A → ℕ → Run N B) → EndsIn P x.end → ((a : A) (n : ℕ) → P a → g a n ≡ h a n) → (x >>= g) ≡ (x >>= h)
  same_in P x g h p s = same_after P x.notes x.end g h p s

  pub same_then : {A B : Type 0} (x : Run N A) (g h : A → ℕ → Run N B) → ((a : A) (n : ℕ) → g a n ≡ h a n) → (x >>= g) ≡ (x >>= h)
  same_then {A} x g h s = same_in (λ (a : A). Unit {0}) x g h (always x.end) (λ a n p. s a n)

  ends_after : {A B : Type 0} (P : B → Type 0) (notes : List N) (e : Ended A) (g : A → ℕ → Run N B) → ((a : A) (n : ℕ) → EndsIn P (g a n).end) → EndsIn P (after notes e g).end
  ends_after P notes (Done a left) g h = h a left
  ends_after P notes OutOfFuel g h = tt
  ends_after P notes TooDeep g h = tt

  pub ends_then : {A B : Type 0} (P : B → Type 0) (x : Run N A) (g : A → ℕ → Run N B) → ((a : A) (n : ℕ) → EndsIn P (g a n).end) → EndsIn P (x >>= g).end
  ends_then P x g h = ends_after P x.notes x.end g h

  noting_after : {A B : Type 0} (n : N) (notes : List N) (e : Ended A) (g : A → ℕ → Run N B) → after (n ∷ notes) e g ≡ (let r : Run N B = after notes e g in record { notes = n ∷ r.notes; end = r.end })
  noting_after n notes (Done a left) g = refl
  noting_after n notes OutOfFuel g = refl
  noting_after n notes TooDeep g = refl

  -- what was noted first stays first
  pub noting_then : {A B : Type 0} (n : N) (x : Run N A) (g : A → ℕ → Run N B) → (noting n x >>= g) ≡ noting n (x >>= g)
  noting_then n x g = noting_after n x.notes x.end g

  done_after : {A : Type 0} (notes : List N) (e : Ended A) → after notes e (λ a left. done a left) ≡ (let r : Run N A = record { notes = notes; end = e } in r)
  done_after {A} notes (Done a left) = ap (λ (ns : List N). let r : Run N A = record { notes = ns; end = Done a left } in r) (append-nil notes)
  done_after notes OutOfFuel = refl
  done_after notes TooDeep = refl

  -- nothing more is done
  pub then_done : {A : Type 0} (x : Run N A) → (x >>= (λ a left. done a left)) ≡ x
  then_done x = done_after x.notes x.end
