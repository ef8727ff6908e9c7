-- Terms stay good, and keep their trees, in a pool with more symbols.
use Rattle.std.proofs.Common.{◌≡◌, List, [], ◌∷◌, ◌++◌, map, refl}
use Rattle.term_model.specs.Tree as tree
use Rattle.term_model.specs.Tree.{Node}
use Rattle.term_model.specs.declared.Head.TheVariants.{App, Cons}
use Rattle.symbol_pool.specs.Pool.{Named, named}
use Rattle.symbol_pool.specs.Taking.{GrowsPool}
use Rattle.symbol_pool.proofs.Taking.{stays_in}
use Rattle.term_syntax.specs.TakenUp.{tree_in, trees_in, cells_in}
use Rattle.term_syntax.specs.Written.{Written, Call, Digits, Listed, Writtens, End, More, count_of}
use Rattle.term_building.specs.Progress.{Open}
use Rattle.term_building.specs.Trees.{IsGood, AreGood, AllGood, GoodSoFar, trees_so_far}

module _ (pool new : List Named) (grows : GrowsPool pool new) where
  mutual
    pub stays_good : (w : Written) → IsGood pool w → IsGood new w
    stays_good (Call p n ws) (h, short, few, good) = ((stays_in pool new (named n (count_of ws)) grows h).1, short, few, stay_good ws good)
    stays_good (Digits p v) good = good
    stays_good (Listed p ws) good = stay_good ws good

    pub stay_good : (ws : Writtens) → AreGood pool ws → AreGood new ws
    stay_good End good = tt
    stay_good (More w ws) (g, good) = (stays_good w g, stay_good ws good)

  mutual
    keeps_tree : (w : Written) → IsGood pool w → tree_in new w ≡ tree_in pool w
    keeps_tree (Call p n ws) (h, short, few, good) =
        let a = (stays_in pool new (named n (count_of ws)) grows h).0 in
        let b = keep_trees ws good in
        λ i. Node (App (record { 0 = a i })) (b i)
    keeps_tree (Digits p v) good = refl
    keeps_tree (Listed p ws) good = keep_cells ws good

    keep_trees : (ws : Writtens) → AreGood pool ws → trees_in new ws ≡ trees_in pool ws
    keep_trees End good = refl
    keep_trees (More w ws) (g, good) =
        let a = keeps_tree w g in
        let b = keep_trees ws good in
        λ i. tree.More (a i) (b i)

    keep_cells : (ws : Writtens) → AreGood pool ws → cells_in new ws ≡ cells_in pool ws
    keep_cells End good = refl
    keep_cells (More w ws) (g, good) =
        let a = keeps_tree w g in
        let b = keep_cells ws good in
        λ i. Node Cons (tree.More (a i) (tree.More (b i) tree.End))

  pub all_stay : (ws : List Written) → AllGood pool ws → AllGood new ws
  all_stay [] good = tt
  all_stay (w ∷ ws) (g, good) = (stays_good w g, all_stay ws good)

  pub all_kept : (ws : List Written) → AllGood pool ws → map (tree_in new) ws ≡ map (tree_in pool) ws
  all_kept [] good = refl
  all_kept (w ∷ ws) (g, good) =
      let a = keeps_tree w g in
      let b = all_kept ws good in
      λ i. a i ∷ b i

  pub good_stay : (gs : List Open) (finished : List Written) → GoodSoFar pool gs finished → GoodSoFar new gs finished
  good_stay [] finished good = all_stay finished good
  good_stay (g ∷ gs) finished (good, terms) = (good_stay gs finished good, all_stay g.terms terms)

  pub trees_stay : (gs : List Open) (finished : List Written) → GoodSoFar pool gs finished → trees_so_far new gs finished ≡ trees_so_far pool gs finished
  trees_stay [] finished good = all_kept finished good
  trees_stay (g ∷ gs) finished (good, terms) =
      let a = trees_stay gs finished good in
      let b = all_kept g.terms terms in
      λ i. a i ++ b i
