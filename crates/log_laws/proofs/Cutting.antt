-- Where lines and words are cut.
use Rattle.std.proofs.Common.{◌≡◌, ◌∙◌, ℕ, eqb, Bool, false, cond, List, [], ◌∷◌, ◌++◌, append_assoc, refl, sym, ap}
use Rattle.std.specs.List.{AllByRecursion}
use Rattle.log_check.specs.Words.{before_first, lines, words}

-- no byte is b
abbrev pub Without : ℕ → List ℕ → Type 0
Without b bytes = AllByRecursion (λ x. eqb x b ≡ false) bytes

pub without_both : (b : ℕ) (xs ys : List ℕ) → Without b xs → Without b ys → Without b (xs ++ ys)
without_both b [] ys f g = g
without_both b (x ∷ xs) ys f g = (f.0, without_both b xs ys f.1 g)

-- a line ends at its line feed
pub line_cut : (xs rest : List ℕ) → Without 10 xs → lines (xs ++ 10 ∷ rest) ≡ xs ∷ lines rest
line_cut [] rest f = refl
line_cut (x ∷ xs) rest f =
    ap (λ (b : Bool). cond b ([] ∷ lines (xs ++ 10 ∷ rest)) (before_first x (lines (xs ++ 10 ∷ rest)))) f.0
    ∙ ap (before_first x) (line_cut xs rest f.1)

-- words, each after a space
abbrev pub spaced : List (List ℕ) → List ℕ
spaced [] = []
spaced (w ∷ ws) = 32 ∷ (w ++ spaced ws)

abbrev pub AllWithout : ℕ → List (List ℕ) → Type 0
AllWithout b ws = AllByRecursion (Without b) ws

pub spaced_without : (ws : List (List ℕ)) → AllWithout 10 ws → Without 10 (spaced ws)
spaced_without [] f = tt
spaced_without (w ∷ ws) f = (refl, without_both 10 w (spaced ws) f.0 (spaced_without ws f.1))

-- a word at the front
front : (w s : List ℕ) (ws : List (List ℕ)) → Without 32 w → words s ≡ [] ∷ ws → words (w ++ s) ≡ w ∷ ws
front [] s ws f e = e
front (x ∷ xs) s ws f e =
    ap (λ (b : Bool). cond b ([] ∷ words (xs ++ s)) (before_first x (words (xs ++ s)))) f.0
    ∙ ap (before_first x) (front xs s ws f.1 e)

pub words_spaced : (ws : List (List ℕ)) → AllWithout 32 ws → words (spaced ws) ≡ [] ∷ ws
words_spaced [] f = refl
words_spaced (w ∷ ws) f = ap (λ (vs : List (List ℕ)). [] ∷ vs) (front w (spaced ws) ws f.0 (words_spaced ws f.1))

-- and the first without its space
pub words_back : (w : List ℕ) (ws : List (List ℕ)) → Without 32 w → AllWithout 32 ws → words (w ++ spaced ws) ≡ w ∷ ws
words_back w ws f g = front w (spaced ws) ws f (words_spaced ws g)

-- the parts of a line, each after a space, and its end
pub ends_last : (a b c n : List ℕ) → (a ++ 32 ∷ []) ++ ((((b ++ 32 ∷ []) ++ c) ++ n) ++ 10 ∷ []) ≡ (a ++ (32 ∷ (b ++ (32 ∷ (c ++ n))))) ++ 10 ∷ []
ends_last a b c n =
    let x = ((b ++ 32 ∷ []) ++ c) ++ n in
    let inner : x ≡ b ++ (32 ∷ (c ++ n)) = append_assoc (b ++ 32 ∷ []) c n ∙ append_assoc b (32 ∷ []) (c ++ n) in
    sym (append_assoc (a ++ 32 ∷ []) x (10 ∷ []))
    ∙ ap (λ (z : List ℕ). z ++ 10 ∷ []) (append_assoc a (32 ∷ []) x ∙ ap (λ (z : List ℕ). a ++ (32 ∷ z)) inner)
