-- A term as a path of frames from the root, each a node and the number of its argument below, and
-- what stands at its end: moves and steps there are moves and steps of the whole.
use Rattle.std.proofs.Common.{◌≡◌, ℕ, zero, suc, ◌<◌, ◌≤◌, true, false, List, [], ◌∷◌, ◌++◌, length, slice_get, Option, Some, None, refl, sym, ap, ◌∙◌, arith}
use Rattle.std.specs.Prelude.{option_and_then, slice_set}
use Rattle.std.specs.Option.{option_map}
use Rattle.term_model.specs.Tree.{Tree, Leaf, Node, Trees, End, More, arguments, list_of, trees_of}
use Rattle.rewrite_model.specs.Rule.{Rule}
use Rattle.rewrite_model.specs.Derivation.{by_rule, replace_at, replace_in}
use Rattle.rewrite_model.specs.Replay.{has, has_in, above}
use Rattle.run_checks.specs.Standing.{Framed, put_in, with_argument, whole, AreFrames, position}

-- ---- one argument

pub list_of-trees_of : (ts : List Tree) → list_of (trees_of ts) ≡ ts
list_of-trees_of [] = refl
list_of-trees_of (t ∷ ts) = ap (λ us. t ∷ us) (list_of-trees_of ts)

-- the trees of a list with one of them set
pub put_in-set : (ts : List Tree) (j : ℕ) (u : Tree) → trees_of (slice_set ts j u) ≡ put_in j u (trees_of ts)
put_in-set [] j u = refl
put_in-set (t ∷ ts) zero u = refl
put_in-set (t ∷ ts) (suc j) u = ap (More t) (put_in-set ts j u)

put_same : (ts : Trees) (j : ℕ) (u : Tree) → slice_get (list_of ts) j ≡ Some u → put_in j u ts ≡ ts
put_same End j u e = refl
put_same (More t ts) zero u e = let s : u ≡ t = cc in ap (λ v. More v ts) s
put_same (More t ts) (suc j) u e = ap (More t) (put_same ts j u e)

pub argument_same : (j : ℕ) (t u : Tree) → slice_get (arguments t) j ≡ Some u → with_argument j t u ≡ t
argument_same j (Leaf x) u e = refl
argument_same j (Node h ts) u e = ap (Node h) (put_same ts j u e)

-- what is in an argument that was put in
has_put : (js : List ℕ) (j : ℕ) (u : Tree) (ts : Trees) → j < length (list_of ts) → has_in (suc j) js (put_in j u ts) ≡ has js u
has_put js j u End lt = absurd (omega arith)
has_put js zero u (More t ts) lt = refl
has_put js (suc j) u (More t ts) lt = has_put js j u ts (omega arith)

mapped_twice : {A B C : Type 0} (f : A → B) (g : B → C) (o : Option A) → option_map g (option_map f o) ≡ option_map (λ a. g (f a)) o
mapped_twice f g None = refl
mapped_twice f g (Some a) = refl

mapped_same : {A : Type 0} (o : Option A) → option_map (λ a. a) o ≡ o
mapped_same None = refl
mapped_same (Some a) = refl

replace_put : (rules : List Rule) (js : List ℕ) (k j : ℕ) (u : Tree) (ts : Trees) → j < length (list_of ts) → replace_in rules (suc j) js k (put_in j u ts) ≡ option_map (λ v. put_in j v ts) (replace_at rules js k u)
replace_put rules js k j u End lt = absurd (omega arith)
replace_put rules js k zero u (More t ts) lt = refl
replace_put rules js k (suc j) u (More t ts) lt =
    ap (option_map (More t)) (replace_put rules js k j u ts (omega arith)) ∙ mapped_twice (λ v. put_in j v ts) (More t) (replace_at rules js k u)

-- ---- a path of frames

has_argument : (f : Framed) (u : Tree) (js : List ℕ) → f.argument < length (arguments f.tree) → has (suc f.argument ∷ js) (with_argument f.argument f.tree u) ≡ has js u
has_argument f u js lt = go f.tree lt
  where
    go : (t : Tree) → f.argument < length (arguments t) → has (suc f.argument ∷ js) (with_argument f.argument t u) ≡ has js u
    go (Leaf x) l = absurd (omega arith)
    go (Node h ts) l = has_put js f.argument u ts l

pub has_on_path : (fs : List Framed) (t : Tree) (js : List ℕ) → AreFrames fs → has (position fs ++ js) (whole fs t) ≡ has js t
has_on_path [] t js a = refl
has_on_path (f ∷ fs) t js a = has_argument f (whole fs t) (position fs ++ js) a.0 ∙ has_on_path fs t js a.1

replace_argument : (rules : List Rule) (f : Framed) (u : Tree) (js : List ℕ) (k : ℕ) → f.argument < length (arguments f.tree) → replace_at rules (suc f.argument ∷ js) k (with_argument f.argument f.tree u) ≡ option_map (λ v. with_argument f.argument f.tree v) (replace_at rules js k u)
replace_argument rules f u js k lt = go f.tree lt
  where
    go : (t : Tree) → f.argument < length (arguments t) → replace_at rules (suc f.argument ∷ js) k (with_argument f.argument t u) ≡ option_map (λ v. with_argument f.argument t v) (replace_at rules js k u)
    go (Leaf x) l = absurd (omega arith)
    go (Node h ts) l = ap (option_map (Node h)) (replace_put rules js k f.argument u ts l) ∙ mapped_twice (λ v. put_in f.argument v ts) (Node h) (replace_at rules js k u)

pub replace_on_path : (rules : List Rule) (fs : List Framed) (t : Tree) (k : ℕ) → AreFrames fs → replace_at rules (position fs) k (whole fs t) ≡ option_map (λ u. whole fs u) (by_rule rules k t)
replace_on_path rules [] t k a = sym (mapped_same (by_rule rules k t))
replace_on_path rules (f ∷ fs) t k a =
    replace_argument rules f (whole fs t) (position fs) k a.0
    ∙ ap (option_map (λ v. with_argument f.argument f.tree v)) (replace_on_path rules fs t k a.1)
    ∙ mapped_twice (λ u. whole fs u) (λ v. with_argument f.argument f.tree v) (by_rule rules k t)

pub one_frame_more : (fs : List Framed) (f : Framed) (u : Tree) → whole (fs ++ f ∷ []) u ≡ whole fs (with_argument f.argument f.tree u)
one_frame_more [] f u = refl
one_frame_more (g ∷ fs) f u = ap (λ v. with_argument g.argument g.tree v) (one_frame_more fs f u)

pub above_last : (p : List ℕ) (j : ℕ) → above (p ++ j ∷ []) ≡ Some p
above_last [] j = refl
above_last (i ∷ []) j = refl
above_last (i ∷ k ∷ ks) j = ap (option_and_then (λ ls. Some (i ∷ ls))) (above_last (k ∷ ks) j)

-- ---- an argument is there or not

has_zero : (ts : Trees) → has_in 0 [] ts ≡ false
has_zero End = refl
has_zero (More t ts) = refl

has_within : (j : ℕ) (ts : Trees) → j < length (list_of ts) → has_in (suc j) [] ts ≡ true
has_within j End lt = absurd (omega arith)
has_within zero (More t ts) lt = refl
has_within (suc j) (More t ts) lt = has_within j ts (omega arith)

has_past : (j : ℕ) (ts : Trees) → length (list_of ts) ≤ j → has_in (suc j) [] ts ≡ false
has_past j End le = refl
has_past zero (More t ts) le = absurd (omega arith)
has_past (suc j) (More t ts) le = has_past j ts (omega arith)

pub no_argument_zero : (t : Tree) → has (0 ∷ []) t ≡ false
no_argument_zero (Leaf x) = refl
no_argument_zero (Node h ts) = has_zero ts

pub argument_within : (j : ℕ) (t : Tree) → j < length (arguments t) → has (suc j ∷ []) t ≡ true
argument_within j (Leaf x) lt = absurd (omega arith)
argument_within j (Node h ts) lt = has_within j ts lt

pub argument_past : (j : ℕ) (t : Tree) → length (arguments t) ≤ j → has (suc j ∷ []) t ≡ false
argument_past j (Leaf x) le = refl
argument_past j (Node h ts) le = has_past j ts le
