-- What may come after a whole term, and behind a name.
use Rattle.std.proofs.Common.{◌≡◌, ◌∙◌, ℕ, ◌-◌, List, [], ◌∷◌, ◌++◌, length, length-append, map, refl, ap, sym, subst, arith, append_assoc, true, Option, Some, None}
use Rattle.std.proofs.lemmas.List.{length-map}
use Rattle.std.specs.Prelude.{option_and_then}
use Rattle.term_model.specs.Tree as tree
use Rattle.term_model.specs.Tree.{Tree, Node}
use Rattle.term_model.specs.declared.Head.TheVariants.{Cons}
use Rattle.symbol_pool.specs.Pool.{Named}
use Rattle.terms_api.specs.Terms.{last, but_last}
use Rattle.terms_api.proofs.Callers.{last-append, but_last-append}
use Rattle.term_syntax.specs.declared.token.Shape.{Shape}
use Rattle.term_syntax.specs.declared.token.Shape.TheVariants as shape
use Rattle.term_syntax.specs.declared.token.Mark.TheVariants as mark
use Rattle.term_syntax.specs.Shown.{token_at}
use Rattle.term_syntax.specs.TakenUp.{tree_in, cells_in}
use Rattle.term_syntax.specs.Written.{Written, Call, Listed, End}
use Rattle.term_building.specs.Stages as stage
use Rattle.term_building.specs.declared.groups.Group.{Group}
use Rattle.term_building.specs.declared.groups.Heading.{Heading}
use Rattle.term_building.specs.Progress as read
use Rattle.term_building.specs.Progress.{Expected, Opening, Called, Bracket, Open, joined, whole}
use Rattle.term_building.specs.State as build
use Rattle.term_building.specs.State.{State}
use Rattle.term_building.specs.Text.{text_of, with_commas, opening_text, text_before, text_behind}
use Rattle.term_building.specs.Trees.{trees_so_far, list_tree}
use Rattle.term_building.specs.Shows.{ShowsOpening, ShowsGroups, count_so_far, HasSome, Holds, Shows}
use Rattle.term_building.proofs.Tokens.{IsToken}
use Rattle.term_building.proofs.Ending.{state, ended_shows, comma_behind}
use Rattle.term_building.proofs.Calling.{calls, made, good_joined}
use Rattle.term_building.proofs.Growing.{good_stay, trees_stay}
use Rattle.term_building.proofs.Following.{Goes, goes_on, many_trees}

abbrev group : Opening → List Written → Open
group o terms = record { opening = o; terms = terms }

-- ---- lists
list_joined : (pool : List Named) (ws : List Written) → list_tree (map (tree_in pool) ws) ≡ cells_in pool (joined ws End)
list_joined pool [] = refl
list_joined pool (w ∷ ws) = ap (λ t. Node Cons (tree.More (tree_in pool w) (tree.More t tree.End))) (list_joined pool ws)

call_text : (before : List ℕ) (p : ℕ) (n : List ℕ) (w : Written) (ws : List Written) →
    (before ++ opening_text (Called p n) ++ with_commas (joined (w ∷ ws) End)) ++ 41 ∷ [] ≡ before ++ text_of (Call p n (joined (w ∷ ws) End))
call_text before p n w ws = simp append_assoc

list_text : (before : List ℕ) (p : ℕ) (ws : List Written) → (before ++ opening_text (Bracket p) ++ with_commas (joined ws End)) ++ 93 ∷ [] ≡ before ++ text_of (Listed p (joined ws End))
list_text before p ws = simp append_assoc

-- the trees in a group are the last
count_is : (pool : List Named) (ts : List Tree) (os : List Open) (finished terms : List Written) (base : ℕ) → ts ≡ trees_so_far pool os finished ++ map (tree_in pool) terms → base ≡ count_so_far os finished → length ts - base ≡ length terms
count_is pool ts os finished terms base trees b =
    let size = ap length trees ∙ length-append (trees_so_far pool os finished) (map (tree_in pool) terms) in
    let front = many_trees pool os finished in
    let back = length-map terms (tree_in pool) in
    omega (arith, size, front, back, b)

module _ (text : List ℕ) (place end : ℕ) (gs : List Group) (written : List ℕ) (from : ℕ) (pool : List Named) (ts : List Tree) (st : stage.Stage) (os : List Open) (finished : List Written) (g : Group) where
  abbrev now : State
  now = state st (g ∷ gs) written from pool ts

  -- a whole term stands last in this group
  abbrev Behind : Opening → List Written → Type 0
  Behind o terms = Holds text place now (group o terms ∷ os) finished (text_behind (group o terms ∷ os) finished)

  pub list_closes : (h : Option Heading) (o : Opening) (terms : List Written) (r : State) → ShowsOpening text h o → Behind o terms → IsToken text place end (shape.At mark.CloseList) →
      build.close_list text end h (length ts - g.base) now ≡ Some r → Goes text end r (read.close_list o terms os finished)
  list_closes (Some h) o terms r shown b t e = absurd cc
  list_closes None (Called p n) terms r shown b t e = absurd shown
  list_closes None (Bracket p) terms r shown b t e =
      let n = length ts - g.base in
      let count : n ≡ length terms = count_is pool ts os finished terms g.base b.trees_are b.groups.1 in
      let size : length (map (tree_in pool) terms) ≡ n = length-map terms (tree_in pool) ∙ sym count in
      let lasts : last n ts ≡ map (tree_in pool) terms = ap (last n) b.trees_are ∙ last-append n (trees_so_far pool os finished) (map (tree_in pool) terms) size in
      let firsts : but_last n ts ≡ trees_so_far pool os finished = ap (but_last n) b.trees_are ∙ but_last-append n (trees_so_far pool os finished) (map (tree_in pool) terms) size in
      let made : list_tree (last n ts) ≡ cells_in pool (joined terms End) = ap list_tree lasts ∙ list_joined pool terms in
      let same : build.ended text end (build.without (build.listed n now)) ≡ r = cc in (
        _,
        refl,
        subst (λ k. Shows text end k (whole os finished (Listed p (joined terms End)))) same
            (ended_shows text end st gs written from pool _ os finished (Listed p (joined terms End)) b.groups.2 b.good.0 (good_joined pool terms b.good.1)
            (λ i. firsts i ++ made i ∷ [])
            (goes_on text place end written from (text_behind (group (Bracket p) terms ∷ os) finished) (93 ∷ []) t.after b.from b.copied_is t.is ∙ list_text (text_before os finished) p terms)
            (let f = b.from in let l = t.after in omega (arith, f, l)) b.is_pool),
      )

  call_made : (p : ℕ) (name : List ℕ) (w : Written) (ws : List Written) → Behind (Called p name) (w ∷ ws) → IsToken text place end (shape.At mark.Close) → build.may_call name (length (w ∷ ws)) now ≡ true →
      Shows text end (build.ended text end (build.without (build.called name (length (w ∷ ws)) now))) (whole os finished (Call p name (joined (w ∷ ws) End)))
  call_made p name w ws b t may =
      let c = calls now p name (trees_so_far pool os finished) (w ∷ ws) may b.trees_are b.good.1 b.is_pool in
      let new = (build.called name (length (w ∷ ws)) now).symbols in
      ended_shows text end st gs written from new _ os finished (Call p name (joined (w ∷ ws) End)) b.groups.2 (good_stay pool new c.grows os finished b.good.0) c.good
      (c.trees_are ∙ ap (λ xs. xs ++ tree_in new (Call p name (joined (w ∷ ws) End)) ∷ []) (sym (trees_stay pool new c.grows os finished b.good.0)))
      (goes_on text place end written from (text_behind (group (Called p name) (w ∷ ws) ∷ os) finished) (41 ∷ []) t.after b.from b.copied_is t.is ∙ call_text (text_before os finished) p name w ws)
      (let f = b.from in let l = t.after in omega (arith, f, l)) c.is_pool

  call_closes : (h : Option Heading) (o : Opening) (terms : List Written) (r : State) → ShowsOpening text h o → HasSome terms → Behind o terms → IsToken text place end (shape.At mark.Close) →
      build.close_call text end h (length ts - g.base) now ≡ Some r → Goes text end r (read.close_call o terms os finished)
  call_closes h o [] r shown some b t e = absurd some
  call_closes None (Called p n) (w ∷ ws) r shown some b t e = absurd cc
  call_closes None (Bracket p) (w ∷ ws) r shown some b t e = absurd cc
  call_closes (Some h) (Bracket p) (w ∷ ws) r shown some b t e = absurd shown
  call_closes (Some h) (Called p n) (w ∷ ws) r shown some b t e = (_, refl, by (build.call_named n (length (w ∷ ws)) now) refl (sym called_is ∙ e))
    where
      count : length ts - g.base ≡ length (w ∷ ws)
      count = count_is pool ts os finished (w ∷ ws) g.base b.trees_are b.groups.1

      called_is : build.close_call text end (Some h) (length ts - g.base) now ≡ option_and_then (λ k. Some (build.ended text end (build.without k))) (build.call_named n (length (w ∷ ws)) now)
      called_is = λ i. option_and_then (λ k. Some (build.ended text end (build.without k))) (build.call_named (shown i) (count i) now)

      by : (o : Option State) → build.call_named n (length (w ∷ ws)) now ≡ o → option_and_then (λ k. Some (build.ended text end (build.without k))) o ≡ Some r → Shows text end r (whole os finished (Call p n (joined (w ∷ ws) End)))
      by None f e = absurd cc
      by (Some j) f e =
          let m = made n (length (w ∷ ws)) now j f in
          let same : build.ended text end (build.without j) ≡ r = cc in
          subst (λ k. Shows text end k (whole os finished (Call p n (joined (w ∷ ws) End)))) (ap (λ k. build.ended text end (build.without k)) m.1 ∙ same) (call_made p n w ws b t m.0)

  comma_follows : (o : Opening) (terms : List Written) → ShowsGroups text (g ∷ gs) (group o terms ∷ os) finished → HasSome terms → Behind o terms → IsToken text place end (shape.At mark.Comma) →
      Shows text end (build.staged stage.Expected now) (record { stage = Expected; groups = group o terms ∷ os; finished = finished })
  comma_follows o [] groups some b t = absurd some
  comma_follows o (w ∷ ws) groups some b t = record {
    stage = tt;
    fits = tt;
    holds = record {
      groups = b.groups;
      good = b.good;
      trees_are = b.trees_are;
      copied_is =
          goes_on text place end written from (text_behind (group o (w ∷ ws) ∷ os) finished) (44 ∷ []) t.after b.from b.copied_is t.is
          ∙ append_assoc (text_before os finished ++ opening_text o) (with_commas (joined (w ∷ ws) End)) (44 ∷ [])
          ∙ ap (λ xs. text_before os finished ++ opening_text o ++ xs) (comma_behind w ws);
      from = let f = b.from in let l = t.after in omega (arith, f, l);
      is_pool = b.is_pool;
    };
  }

  pub group_follows : (o : Opening) (terms : List Written) (sh : Shape) (r : State) → HasSome terms → Behind o terms → IsToken text place end sh → build.in_group text end g sh now ≡ Some r →
      Goes text end r (read.after_term_under (group o terms ∷ os) finished (token_at text place sh))
  group_follows o terms (shape.At mark.Comma) r some b t e =
      let same : build.staged stage.Expected now ≡ r = cc in
      (_, refl, subst (λ k. Shows text end k (record { stage = Expected; groups = group o terms ∷ os; finished = finished })) same (comma_follows o terms b.groups some b t))
  group_follows o terms (shape.At mark.Close) r some b t e = call_closes g.heading o terms r b.groups.0 some b t e
  group_follows o terms (shape.At mark.CloseList) r some b t e = list_closes g.heading o terms r b.groups.0 b t e
  group_follows o terms (shape.At mark.Open) r some b t e = absurd cc
  group_follows o terms (shape.At mark.OpenList) r some b t e = absurd cc
  group_follows o terms shape.Word r some b t e = absurd cc
  group_follows o terms shape.Quoted r some b t e = absurd cc
  group_follows o terms shape.Number r some b t e = absurd cc
