-- Rows are put on top, one after another.
use Rattle.std.proofs.Common.{◌≡◌, ℕ, zero, suc, ◌+◌, ◌-◌, ◌≤◌, List, [], ◌∷◌, ◌++◌, length, take, drop, refl, sym, ◌∙◌, ap, arith, subst, append_assoc, append-nil, Some}
use Rattle.std.specs.Prelude.{slice_get}
use Rattle.std.proofs.lemmas.List.{map-append, length-map, length-append}
use Rattle.std.proofs.lemmas.Option.{same_Some}
use Rattle.term_model.specs.Tree.{Tree}
use Rattle.term_model.specs.declared.Row.{Row}
use Rattle.terms_api.specs.Terms.{Store, IsHeld, tree_at, pushed}
use Rattle.innermost.specs.Rebuilding.{Pushes}

pub pushes_none : (s : Store) → Pushes s s []
pushes_none s = record { rows = []; is = ap (λ (rs : List Row). record s { stack = rs }) (sym (append-nil s.stack)); trees = refl }

pub pushes_more : (old now new : Store) (ts : List Tree) (r : Row) (t : Tree) → Pushes old now ts → new ≡ pushed now r → tree_at now r ≡ t → Pushes old new (ts ++ t ∷ [])
pushes_more old now new ts r t p e is =
    let same : tree_at old r ≡ t = sym (ap (λ s. tree_at s r) p.is) ∙ is in
    record {
      rows = p.rows ++ r ∷ [];
      is = e ∙ ap (λ s. pushed s r) p.is ∙ ap (λ (rs : List Row). record old { stack = rs }) (append_assoc old.stack p.rows (r ∷ []));
      trees = map-append (tree_at old) p.rows (r ∷ []) ∙ ap (λ us. us ++ tree_at old r ∷ []) p.trees ∙ ap (λ u. ts ++ u ∷ []) same;
    }

pub pushes_tree : (old now : Store) (ts : List Tree) (r : Row) → Pushes old now ts → tree_at now r ≡ tree_at old r
pushes_tree old now ts r p = ap (λ s. tree_at s r) p.is

pub pushes_kept : (old now : Store) (ts : List Tree) (r : Row) → Pushes old now ts → IsHeld old r → IsHeld now r
pushes_kept old now ts r p h = subst (λ s. IsHeld s r) (sym p.is) h

pub pushes_height : (old now : Store) (ts : List Tree) → Pushes old now ts → (length now.stack ≡ length old.stack + length ts) × (now.room ≡ old.room)
pushes_height old now ts p =
    let a = ap (λ s. length s.stack) p.is in
    let b = length-append old.stack p.rows in
    let c = length-map p.rows (tree_at old) in
    let d = ap length p.trees in
    (omega (arith, a, b, c, d), ap (λ s. s.room) p.is)

take_one : (xs : List Tree) (n : ℕ) (x : Tree) → slice_get xs n ≡ Some x → take (n + 1) xs ≡ take n xs ++ x ∷ []
take_one [] n x e = absurd (cc)
take_one (y ∷ ys) zero x e = ap (λ z. z ∷ []) (same_Some y x e)
take_one (y ∷ ys) (suc n) x e =
    let k : suc n + 1 ≡ suc (n + 1) = omega arith in
    ap (λ i. take i (y ∷ ys)) k ∙ ap (λ zs. y ∷ zs) (take_one ys n x e)

pub take_next : (from at : ℕ) (xs : List Tree) (x : Tree) → from ≤ at → slice_get xs at ≡ Some x → take (at + 1 - from) (drop from xs) ≡ take (at - from) (drop from xs) ++ x ∷ []
take_next from at [] x l e = absurd (cc)
take_next zero at (y ∷ ys) x l e =
    let a : at + 1 - 0 ≡ at + 1 = omega arith in
    let b : at - 0 ≡ at = omega arith in
    ap (λ i. take i (y ∷ ys)) a ∙ take_one (y ∷ ys) at x e ∙ ap (λ i. take i (y ∷ ys) ++ x ∷ []) (sym b)
take_next (suc f) zero (y ∷ ys) x l e = absurd (omega (arith, l))
take_next (suc f) (suc a) (y ∷ ys) x l e =
    let c : suc a + 1 - suc f ≡ a + 1 - f = omega arith in
    let d : suc a - suc f ≡ a - f = omega arith in
    ap (λ i. take i (drop f ys)) c ∙ take_next f a ys x (omega (arith, l)) e ∙ ap (λ i. take i (drop f ys) ++ x ∷ []) (sym d)

pub take_none : (k : ℕ) (xs : List Tree) → k ≡ 0 → take k xs ≡ []
take_none zero xs e = refl
take_none (suc k) xs e = absurd (omega (arith, e))

pub length_taken : (k : ℕ) (xs : List Tree) → length (take k xs) ≤ k
length_taken zero xs = omega arith
length_taken (suc k) [] = omega arith
length_taken (suc k) (x ∷ xs) = let h = length_taken k xs in omega (arith, h)
