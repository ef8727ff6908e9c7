-- The equality of terms that Rust derives is that of their fields.
use Rattle.std.proofs.Common.{◌≡◌, ℕ, List, refl}
use Rattle.std.proofs.Math.Path.{fun_ext}
use Rattle.history_core.specs.declared.slots.Root.{Root}
use Rattle.history_core.specs.declared.slots.Root.TheVariants.{App, Int, Nil, Cons}
use Rattle.history_core.specs.Named.{term_eq}
use Rattle.history_core.specs.contracts.slots.TermPartialEq.TheImpl.{eq-value}

derived_is : (a b : Root) (xs ys : List ℕ) → eq-value.it (record { root = a; args = xs }) (record { root = b; args = ys }) ≡ term_eq (record { root = a; args = xs }) (record { root = b; args = ys })
derived_is (App f) (App g) xs ys = refl
derived_is (App f) (Int w) xs ys = refl
derived_is (App f) Nil xs ys = refl
derived_is (App f) Cons xs ys = refl
derived_is (Int v) (App g) xs ys = refl
derived_is (Int v) (Int w) xs ys = refl
derived_is (Int v) Nil xs ys = refl
derived_is (Int v) Cons xs ys = refl
derived_is Nil (App g) xs ys = refl
derived_is Nil (Int w) xs ys = refl
derived_is Nil Nil xs ys = refl
derived_is Nil Cons xs ys = refl
derived_is Cons (App g) xs ys = refl
derived_is Cons (Int w) xs ys = refl
derived_is Cons Nil xs ys = refl
derived_is Cons Cons xs ys = refl

pub derived_eq : eq-value.it ≡ term_eq
derived_eq = fun_ext (λ a. fun_ext (λ b. derived_is a.root b.root a.args b.args))
