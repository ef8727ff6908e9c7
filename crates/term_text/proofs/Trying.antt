-- What tests build.
use Rattle.std.proofs.Common.{◌≡◌, ℕ, ◌+◌, ◌-◌, ◌<◌, ◌≤◌, true, false, List, [], ◌∷◌, ◌++◌, Some, Result, Ok, Err, OnOk, OnErr, length, drop, get_or, refl, ap, sym, ◌∙◌, subst, arith}
use Rattle.std.specs.Prelude.{All, slice_get}
use Rattle.std.proofs.lemmas.Bool.{lt-ltb}
use Rattle.std.proofs.lemmas.Option.{slice_get-get_or}
use Rattle.std.proofs.lemmas.List.{drop_all, length-map}
use Rattle.std.proofs.lemmas.List.Elements.{All-head, All-tail, All-push, All-take, All-drop, All-get_or}
use Rattle.term_model.specs.declared.Row.{Row}
use Rattle.term_model.specs.declared.Symbol.{Symbol}
use Rattle.term_model.specs.declared.Head.{Head}
use Rattle.term_model.specs.declared.Head.TheVariants.{App, Int, Nil, Cons}
use Rattle.term_model.specs.Tree.{Tree, Leaf, Node, trees_of, root, may_be_list, is_tree_and_list}
use Rattle.term_model.proofs.Order.{both}
use Rattle.terms_api.specs.Terms.{Store, tree_at, trees, last, but_last, asked, pushed, MayBuild, Built, NotBuilt}
use Rattle.terms_api.specs.declared.terms.BuildFault.{BuildFault}
use Rattle.terms_api.specs.declared.terms.Deep.{Deep}
use Rattle.terms_api.proofs.Callers.{trees-at, trees-pushed}
use Rattle.symbol_pool.specs.Pool.{Named}
use Rattle.tree_text.specs.Text.{is_named, has_names, all_have_names, HasNames}
use Rattle.term_text.specs.Trials.{IsTried, is_list}
use Rattle.term_text.proofs.Shapes.{some_same, drop_at}

all_named : (names : List Named) (ts : List Tree) → All (HasNames names) ts → all_have_names names (trees_of ts) ≡ true
all_named names [] a = refl
all_named names (t ∷ ts) a =
    both (has_names names t) (all_have_names names (trees_of ts)) (All-head (HasNames names) t ts a) (all_named names ts (All-tail (HasNames names) t ts a))

pub held_named : (names : List Named) (f : Symbol) → f.0 < length names → is_named names (App f) ≡ true
held_named names f h = lt-ltb f.0 (length names) h

-- a build leaves what tests need
pub tried_built : (names : List Named) (s t : Store) (h : Head) (n : ℕ) (r : Result (Unit {0}) BuildFault)
    → OnOk r (Built s t h n) → OnOk r (trees t ≡ but_last n (trees s) ++ asked s h n ∷ [])
    → OnErr r (NotBuilt s t h n) → OnErr r (trees t ≡ trees s)
    → is_named names h ≡ true → IsTried names s → IsTried names t
tried_built names s t h n (Ok x) built e refused none named tried =
    let P = HasNames names in
    let ts = last n (trees s) in
    let new : HasNames names (asked s h n) =
    both (is_named names h) (all_have_names names (trees_of ts)) named (all_named names ts (All-drop P (length (trees s) - n) (trees s) tried.named)) in
    let widest = built.counts.widest in
    let rows = built.counts.rows in
    let wide = tried.widest in
    let few = tried.rows in
    record {
      inside = built.counts.inside ∙ tried.inside;
      widest = omega (arith, widest, wide);
      rows = omega (arith, rows, few);
      named = subst (All P) (sym e) (All-push P (but_last n (trees s)) (asked s h n) (All-take P (length (trees s) - n) (trees s) tried.named) new);
    }
tried_built names s t h n (Err x) built e refused none named tried =
    let widest = refused.counts.widest in
    let rows = refused.counts.rows in
    let wide = tried.widest in
    let few = tried.rows in
    record {
      inside = refused.counts.inside ∙ tried.inside;
      widest = omega (arith, widest, wide);
      rows = omega (arith, rows, few);
      named = subst (All (HasNames names)) (sym none) tried.named;
    }

pub named_place : (names : List Named) (s : Store) (i : ℕ) (r : Row) → IsTried names s → slice_get s.stack i ≡ Some r → i < length s.stack → HasNames names (tree_at s r)
named_place names s i r tried at lt =
    let there = trees-at s i r at in
    let size = length-map s.stack (tree_at s) in
    let d = tree_at s r in
    let lt' : i < length (trees s) = omega (arith, size) in
    let same : get_or (trees s) i d ≡ d = some_same _ _ (sym (slice_get-get_or (trees s) i d lt') ∙ there) in
    subst (HasNames names) same (All-get_or (HasNames names) (trees s) i d lt' tried.named)

pub tried_pushed : (names : List Named) (s t u : Store) (i : ℕ) (row : Row) (r : Result (Unit {0}) Deep)
    → u ≡ s → slice_get s.stack i ≡ Some row → i < length s.stack
    → OnOk r (t ≡ pushed u row) → OnErr r (t ≡ u) → IsTried names s → IsTried names t
tried_pushed names s t u i row (Ok x) e at lt ok err tried =
    let new : t ≡ pushed s row = ok ∙ ap (λ (v : Store). pushed v row) e in
    subst (IsTried names) (sym new) (record {
      inside = tried.inside;
      widest = tried.widest;
      rows = tried.rows;
      named = subst (All (HasNames names)) (sym (trees-pushed s row)) (All-push (HasNames names) (trees s) (tree_at s row) tried.named (named_place names s i row tried at lt));
    })
tried_pushed names s t u i row (Err x) e at lt ok err tried = subst (IsTried names) (sym (err ∙ e)) tried

pub tried_there : (names : List Named) (s t : Store) → t ≡ s → IsTried names s → IsTried names t
tried_there names s t e tried = subst (IsTried names) (sym e) tried

-- a cell over a list
list_there : (u : Tree) (h : Head) → root u ≡ Some h → is_list h ≡ true → may_be_list u ≡ true
list_there (Leaf x) h e l = refl
list_there (Node (App f) ts) h e l = absurd (let q : is_list h ≡ false = ap is_list (some_same h (App f) (sym e)) in cc)
list_there (Node (Int v) ts) h e l = absurd (let q : is_list h ≡ false = ap is_list (some_same h (Int v) (sym e)) in cc)
list_there (Node Nil ts) h e l = refl
list_there (Node Cons ts) h e l = refl

two_last : (xs : List Tree) (u : Tree) → 2 ≤ length xs → slice_get xs (length xs - 1) ≡ Some u → may_be_list u ≡ true → is_tree_and_list (trees_of (last 2 xs)) ≡ true
two_last xs u h at l =
    let k = length xs - 2 in
    let y = get_or xs k u in
    let first : drop k xs ≡ y ∷ drop (k + 1) xs = drop_at xs k y (slice_get-get_or xs k u (omega arith)) in
    let step : k + 1 ≡ length xs - 1 = omega arith in
    let next : drop (length xs - 1) xs ≡ u ∷ drop (length xs - 1 + 1) xs = drop_at xs (length xs - 1) u at in
    let none : drop (length xs - 1 + 1) xs ≡ [] = drop_all (length xs - 1 + 1) xs (omega arith) in
    let all : drop k xs ≡ y ∷ u ∷ [] = first ∙ ap (λ n. y ∷ drop n xs) step ∙ ap (λ zs. y ∷ zs) next ∙ ap (λ zs. y ∷ u ∷ zs) none in
    ap (λ zs. is_tree_and_list (trees_of zs)) all ∙ l

pub may_build_cell : (names : List Named) (s t : Store) (i : ℕ) (row : Row) (h : Head) → t ≡ s → IsTried names s → i + 1 ≡ length s.stack → 2 ≤ length s.stack
    → slice_get s.stack i ≡ Some row → root (tree_at s row) ≡ Some h → is_list h ≡ true → MayBuild t Cons 2
may_build_cell names s t i row h e tried end two at root l =
    let wide = tried.widest in
    let size = length-map s.stack (tree_at s) in
    let place : i ≡ length (trees s) - 1 = omega (arith, size, end) in
    let there : slice_get (trees s) (length (trees s) - 1) ≡ Some (tree_at s row) = subst (λ n. slice_get (trees s) n ≡ Some (tree_at s row)) place (trees-at s i row at) in
    subst (λ (x : Store). MayBuild x Cons 2) (sym e) (record {
      depth = two;
      width = omega (arith, wide);
      head = two_last (trees s) (tree_at s row) (omega (arith, size, two)) there (list_there (tree_at s row) h root l);
    })
