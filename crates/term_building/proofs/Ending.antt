-- A term is whole: it is one more in its group, or its line ends.
use Rattle.std.proofs.Common.{◌≡◌, ◌≤◌, ◌∙◌, ℕ, ◌+◌, ◌-◌, List, [], ◌∷◌, ◌++◌, take, drop, map, refl, ap, sym, arith, append_assoc, append-nil}
use Rattle.std.specs.Prelude.{codes}
use Rattle.std.proofs.lemmas.List.{map_push, take-append-drop, take-take, drop-take, drop-drop}
use Rattle.term_model.specs.Tree.{Tree}
use Rattle.symbol_pool.specs.Pool.{Named, IsPool}
use Rattle.term_syntax.specs.TakenUp.{tree_in}
use Rattle.term_syntax.specs.Written.{Written, End}
use Rattle.term_building.specs.Stages as stage
use Rattle.term_building.specs.declared.groups.Group.{Group}
use Rattle.term_building.specs.Copying.{copied}
use Rattle.term_building.specs.Progress.{Open, joined, whole}
use Rattle.term_building.specs.State.{State, ended_under}
use Rattle.term_building.specs.Text.{text_of, with_commas, after_commas, before_commas, lines_of, opening_text, text_before}
use Rattle.term_building.specs.Trees.{IsGood, AllGood, GoodSoFar, trees_so_far}
use Rattle.term_building.specs.Shows.{ShowsGroups, HasSome, Shows}

-- ---- text
lines_push : (ws : List Written) (w : Written) → (lines_of ws ++ text_of w) ++ 10 ∷ [] ≡ lines_of (ws ++ w ∷ [])
lines_push [] w = refl
lines_push (v ∷ ws) w =
    ap (λ xs. xs ++ 10 ∷ []) (append_assoc (text_of v) (10 ∷ lines_of ws) (text_of w))
    ∙ append_assoc (text_of v) (10 ∷ (lines_of ws ++ text_of w)) (10 ∷ [])
    ∙ ap (λ xs. text_of v ++ 10 ∷ xs) (lines_push ws w)

commas_push : (ws : List Written) (w : Written) → after_commas (joined (ws ++ w ∷ []) End) ≡ codes "," ++ before_commas ws ++ text_of w
commas_push [] w = ap (λ xs. codes "," ++ xs) (append-nil (text_of w))
commas_push (v ∷ ws) w =
    let more = commas_push ws w in
    let regroup : codes "," ++ text_of v ++ (codes "," ++ before_commas ws ++ text_of w) ≡ codes "," ++ before_commas (v ∷ ws) ++ text_of w = simp append_assoc in
    ap (λ xs. codes "," ++ text_of v ++ xs) more ∙ regroup

pub terms_push : (ws : List Written) (w : Written) → before_commas ws ++ text_of w ≡ with_commas (joined (ws ++ w ∷ []) End)
terms_push [] w = sym (append-nil (text_of w))
terms_push (v ∷ ws) w =
    let regroup : before_commas (v ∷ ws) ++ text_of w ≡ text_of v ++ (codes "," ++ before_commas ws ++ text_of w) = simp append_assoc in
    regroup ∙ ap (λ xs. text_of v ++ xs) (sym (commas_push ws w))

-- a comma behind the last term
pub comma_behind : (w : Written) (ws : List Written) → with_commas (joined (w ∷ ws) End) ++ codes "," ≡ before_commas (w ∷ ws)
comma_behind w [] = simp (append_assoc, append-nil)
comma_behind w (v ∷ ws) =
    let more = comma_behind v ws in
    let regroup : with_commas (joined (w ∷ v ∷ ws) End) ++ codes "," ≡ text_of w ++ codes "," ++ (with_commas (joined (v ∷ ws) End) ++ codes ",") = simp append_assoc in
    regroup ∙ ap (λ xs. text_of w ++ codes "," ++ xs) more

-- ---- copying
take_more : (i j : ℕ) (xs : List ℕ) → take (i + j) xs ≡ take i xs ++ take j (drop i xs)
take_more i j xs =
    let front : take i (take (i + j) xs) ≡ take i xs = take-take i (i + j) xs (omega arith) in
    sym (take-append-drop i (take (i + j) xs)) ∙ (λ k. front k ++ drop-take i j xs k)

pub copied_on : (text : List ℕ) (at end : ℕ) (written : List ℕ) (from : ℕ) → from ≤ at → at ≤ end → copied text end written from ≡ copied text at written from ++ take (end - at) (drop at text)
copied_on text at end written from f e =
    let split : end - from ≡ (at - from) + (end - at) = omega arith in
    let there : from + (at - from) ≡ at = omega arith in
    let front = take (at - from) (drop from text) in
    ap (λ n. written ++ take n (drop from text)) split
    ∙ ap (λ xs. written ++ xs) (take_more (at - from) (end - at) (drop from text))
    ∙ sym (append_assoc written front (take (end - at) (drop (at - from) (drop from text))))
    ∙ ap (λ xs. (written ++ front) ++ take (end - at) xs) (drop-drop (at - from) from text ∙ ap (λ n. drop n text) there)

pub copied_none : (text : List ℕ) (at : ℕ) (written : List ℕ) → copied text at written at ≡ written
copied_none text at written =
    let none : at - at ≡ 0 = omega arith in
    ap (λ n. written ++ take n (drop at text)) none ∙ append-nil written

-- ---- one more term
pub all_push : (pool : List Named) (ws : List Written) (w : Written) → AllGood pool ws → IsGood pool w → AllGood pool (ws ++ w ∷ [])
all_push pool [] w all g = (g, tt)
all_push pool (v ∷ ws) w (h, all) g = (h, all_push pool ws w all g)

some_push : (ws : List Written) (w : Written) → HasSome (ws ++ w ∷ [])
some_push [] w = tt
some_push (v ∷ ws) w = tt

abbrev pub state : stage.Stage → List Group → List ℕ → ℕ → List Named → List Tree → State
state stage groups written from symbols trees =
    record { stage = stage; groups = groups; written = written; from = from; symbols = symbols; trees = trees }

pub ended_shows : (text : List ℕ) (at : ℕ) (st : stage.Stage) (gs : List Group) (written : List ℕ) (from : ℕ) (pool : List Named) (ts : List Tree) (os : List Open) (finished : List Written) (w : Written) →
    ShowsGroups text gs os finished → GoodSoFar pool os finished → IsGood pool w → ts ≡ trees_so_far pool os finished ++ tree_in pool w ∷ [] →
    copied text at written from ≡ text_before os finished ++ text_of w → from ≤ at → IsPool pool →
    Shows text at (ended_under gs text at (state st gs written from pool ts)) (whole os finished w)
ended_shows text at st [] written from pool ts [] finished w groups good g trees text_is f p = record {
  stage = tt;
  fits = tt;
  holds = record {
    groups = tt;
    good = all_push pool finished w good g;
    trees_are = trees ∙ sym (map_push (tree_in pool) finished w);
    copied_is = copied_none text at (copied text at written from ++ 10 ∷ []) ∙ ap (λ xs. xs ++ 10 ∷ []) text_is ∙ lines_push finished w;
    from = omega arith;
    is_pool = p;
  };
}
ended_shows text at st [] written from pool ts (o ∷ os) finished w groups good g trees text_is f p = absurd groups
ended_shows text at st (h ∷ gs) written from pool ts [] finished w groups good g trees text_is f p = absurd groups
ended_shows text at st (h ∷ gs) written from pool ts (o ∷ os) finished w groups good g trees text_is f p = record {
  stage = tt;
  fits = some_push o.terms w;
  holds = record {
    groups = groups;
    good = (good.0, all_push pool o.terms w good.1 g);
    trees_are =
        trees
        ∙ append_assoc (trees_so_far pool os finished) (map (tree_in pool) o.terms) (tree_in pool w ∷ [])
        ∙ ap (λ xs. trees_so_far pool os finished ++ xs) (sym (map_push (tree_in pool) o.terms w));
    copied_is =
        text_is
        ∙ append_assoc (text_before os finished ++ opening_text o.opening) (before_commas o.terms) (text_of w)
        ∙ ap (λ xs. text_before os finished ++ opening_text o.opening ++ xs) (terms_push o.terms w);
    from = f;
    is_pool = p;
  };
}
