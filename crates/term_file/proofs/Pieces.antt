-- Bytes that are written piece after piece.
use Rattle.std.proofs.Common.{◌≡◌, ℕ, zero, suc, ◌≤◌, true, leb, List, [], ◌∷◌, ◌++◌, length, slice_get, take, Option, Some, None, refl, sym, ap, subst, ◌∙◌, append_assoc, append-nil, arith}
use Rattle.std.specs.Option.{option_map}
use Rattle.std.specs.List.{flat_map, list_all, AllByRecursion}
use Rattle.std.specs.Cmp.{first_so, second_so}
use Rattle.std.proofs.lemmas.Bool.{leb-true}
use Rattle.symbol_pool.specs.Pool.{Named, named, name_at, arity_at}
use Rattle.term_model.specs.declared.Symbol.{Symbol}
use Rattle.tree_text.specs.NameBytes.{is_printable}
use Rattle.term_file.specs.Right.{all_after, is_right_symbol}
use Rattle.term_file.specs.Written.{IsShort}

flat_map-take : {X : Type 0} (f : X → List ℕ) (xs : List X) (i : ℕ) (x : X) → slice_get xs i ≡ Some x → flat_map f (take (suc i) xs) ≡ flat_map f (take i xs) ++ f x
flat_map-take f [] i x at = absurd cc
flat_map-take f (y ∷ xs) zero x at = let e : y ≡ x = cc in append-nil (f y) ∙ ap f e
flat_map-take f (y ∷ xs) (suc i) x at = ap (λ bs. f y ++ bs) (flat_map-take f xs i x at) ∙ sym (append_assoc (f y) (flat_map f (take i xs)) (f x))

-- one more piece
pub one_piece : {X : Type 0} (f : X → List ℕ) (xs : List X) (i j : ℕ) (x : X) (base before after : List ℕ) → j ≡ suc i → slice_get xs i ≡ Some x → before ≡ base ++ flat_map f (take i xs) → after ≡ before ++ f x → after ≡ base ++ flat_map f (take j xs)
one_piece f xs i j x base before after next at so_far e =
    e ∙ ap (λ bs. bs ++ f x) so_far ∙ append_assoc base (flat_map f (take i xs)) (f x)
    ∙ ap (λ bs. base ++ bs) (sym (flat_map-take f xs i x at))
    ∙ ap (λ k. base ++ flat_map f (take k xs)) (sym next)

take_whole : {X : Type 0} (xs : List X) (n : ℕ) → length xs ≤ n → take n xs ≡ xs
take_whole [] zero le = refl
take_whole [] (suc n) le = refl
take_whole (x ∷ xs) zero le = absurd (omega arith)
take_whole (x ∷ xs) (suc n) le = ap (λ ys. x ∷ ys) (take_whole xs n (omega arith))

pub all_pieces : {X : Type 0} (f : X → List ℕ) (xs : List X) (n : ℕ) (base all : List ℕ) → length xs ≤ n → all ≡ base ++ flat_map f (take n xs) → all ≡ base ++ flat_map f xs
all_pieces f xs n base all le e = e ∙ ap (λ ys. base ++ flat_map f ys) (take_whole xs n le)

-- the symbol that a name and a number of arguments were read of
pub symbol_is : (pool : List Named) (s : Symbol) (name : List ℕ) (arity : ℕ) → name_at pool s ≡ Some name → arity_at pool s ≡ Some arity → slice_get pool s.0 ≡ Some (named name arity)
symbol_is pool s name arity = by (slice_get pool s.0)
  where
    by : (o : Option Named) → option_map (λ t. t.name) o ≡ Some name → option_map (λ t. t.arity) o ≡ Some arity → o ≡ Some (named name arity)
    by None n a = absurd (let bad : None ≡ Some name = n in cc)
    by (Some t) n a =
        let p : t.name ≡ name = let h : Some t.name ≡ Some name = n in cc in
        let q : t.arity ≡ arity = let h : Some t.arity ≡ Some arity = a in cc in
        λ i. Some (named (p i) (q i))

pub holds_at : {X : Type 0} (P : X → Type 0) (xs : List X) (i : ℕ) (x : X) → AllByRecursion P xs → slice_get xs i ≡ Some x → P x
holds_at P [] i x all at = absurd cc
holds_at P (y ∷ xs) zero x all at = let e : y ≡ x = cc in subst P e all.0
holds_at P (y ∷ xs) (suc i) x all at = holds_at P xs i x all.1 at

pub shorts : (before ss : List Named) → all_after is_right_symbol before ss ≡ true → AllByRecursion IsShort ss
shorts before [] e = tt
shorts before (s ∷ ss) e =
    let here = first_so (is_right_symbol before s) _ e in
    let name = first_so (leb (length s.name) 255) _ here in
    let arity = first_so (leb s.arity 16) _ (second_so (list_all is_printable s.name) _ (second_so (leb (length s.name) 255) _ here)) in
    (record { name = leb-true _ _ name; arity = leb-true _ _ arity }, shorts (before ++ s ∷ []) ss (second_so (is_right_symbol before s) _ e))

-- seven pieces, one behind another
pub seven : (o a b c d e f g x1 x2 x3 x4 x5 x6 x7 : List ℕ) → x1 ≡ o ++ a → x2 ≡ x1 ++ b → x3 ≡ x2 ++ c → x4 ≡ x3 ++ d → x5 ≡ x4 ++ e → x6 ≡ x5 ++ f → x7 ≡ x6 ++ g → x7 ≡ o ++ (a ++ (b ++ (c ++ (d ++ (e ++ (f ++ g))))))
seven o a b c d e f g x1 x2 x3 x4 x5 x6 x7 p1 p2 p3 p4 p5 p6 p7 =
    let whole : x7 ≡ ((((((o ++ a) ++ b) ++ c) ++ d) ++ e) ++ f) ++ g = cc in
    whole ∙ simp append_assoc
