-- The trees over a changed tree are built again.
use Rattle.std.proofs.Common.{◌≡◌, ℕ, zero, suc, ◌+◌, ◌-◌, ◌<◌, ◌≤◌, List, [], ◌∷◌, ◌++◌, length, take, map, reverse, refl, sym, ◌∙◌, ap, arith, subst, append_assoc}
use Rattle.std.proofs.lemmas.List.{length_push, length-append, map-append}
use Rattle.term_model.specs.Tree.{Tree, Node, Trees, count_of, list_of, trees_of, arguments}
use Rattle.term_model.specs.declared.Row.{Row}
use Rattle.term_model.proofs.Subtrees.{itself}
use Rattle.terms_api.specs.Terms.{Store, IsSound, HasTree, IsHeld, tree_at, trees, but_last, kept}
use Rattle.terms_api.proofs.Callers.{tree_at-has, held-has, but_last-append}
use Rattle.rewrite_model.specs.Run.{noting, ◌>>=◌, TooDeep}
use Rattle.rewrite_model.specs.Evaluation.{Point}
use Rattle.rewrite_model.specs.Built.{trees_at}
use Rattle.rewrite_model.specs.Outermost.{Building, Stepped, Changed}
use Rattle.innermost.specs.declared.spots.Spot.{Spot}
use Rattle.innermost.specs.Standing.{Stands}
use Rattle.innermost.specs.Building.{IsPointOver}
use Rattle.innermost.specs.Outward.{after_trees, Stops, KeepsParts}
use Rattle.innermost.specs.Instances.{IsNarrow, AreNarrow, AllNarrow}
use Rattle.innermost.specs.Walking.{Crumb, onto, crumb_tree, with_last, onward, IsSpot, AreSpots}
use Rattle.innermost.specs.Rebuilding.{Pushes, Change, IsChanged, HasChanged}
use Rattle.innermost.proofs.Points.{height}
use Rattle.innermost.proofs.Moving.{restands, stands_kept}
use Rattle.innermost.proofs.Runs.{noting_then}
use Rattle.innermost.proofs.Following.{length-list, trees_of_list}
use Rattle.innermost.proofs.Crumbs.{builds_again, not_again}
use Rattle.innermost.proofs.Parts.{narrow_part}
use Rattle.innermost.proofs.Walks.{spots_push}

-- rows on top
pub stands_pushes : (start now new : Store) (points : List Point) (above ts : List Tree) → Stands start now points above → Pushes now new ts → IsSound new → Stands start new points (above ++ ts)
stands_pushes start now new points above ts stands p sound =
    let h = height start now above stands.upper in
    let long : length start.stack ≤ length now.stack = omega (arith, h) in
    restands start now new points above (above ++ ts) (now.stack ++ p.rows) stands p.is
    (take-front (length start.stack) now.stack p.rows long ∙ stands.lower)
    (map-append (tree_at now) now.stack p.rows ∙ ap (λ us. us ++ map (tree_at now) p.rows) stands.upper ∙ ap (λ us. (trees start ++ above) ++ us) p.trees ∙ append_assoc (trees start) above ts)
    sound
  where
    take-front : (k : ℕ) (xs ys : List Row) → k ≤ length xs → take k (xs ++ ys) ≡ take k xs
    take-front zero xs ys l = refl
    take-front (suc k) [] ys l = absurd (omega (arith, l))
    take-front (suc k) (x ∷ xs) ys l = ap (λ zs. x ∷ zs) (take-front k xs ys (omega (arith, l)))

pub pushes_held : (old new : Store) (ts : List Tree) (r : Row) (t : Tree) → Pushes old new ts → HasTree old r t → HasTree new r t
pushes_held old new ts r t p h = subst (λ s. HasTree s r t) (sym p.is) h

-- a tree on the way is kept, where its parts are
pub spots_on : (depth : ℕ) (root' : Tree) (old new : Store) (fs : List Spot) (cs : List Crumb) → KeepsParts root' old new → AreSpots depth root' old fs cs → AreSpots depth root' new fs cs
spots_on depth root' old new [] [] keeps k = tt
spots_on depth root' old new [] (c ∷ cs) keeps k = absurd k
spots_on depth root' old new (f ∷ fs) [] keeps k = absurd k
spots_on depth root' old new (f ∷ fs) (c ∷ cs) keeps k =
    let s = k.0 in
    (record { has = keeps f.row (crumb_tree c) (s.under (crumb_tree c) (itself (crumb_tree c))) s.has; under = s.under; argument = s.argument; room = s.room; places = s.places; some = s.some }, spots_on depth root' old new fs cs keeps k.1)

-- the arguments of a tree on the way, with another one in place of the last that was begun
count_onto : (ts : List Tree) (us : Trees) → count_of (onto ts us) ≡ length ts + count_of us
count_onto [] us = omega arith
count_onto (t ∷ ts) us = let e = count_onto ts us in omega (arith, e)

pub list_onto : (ts : List Tree) (us : Trees) → list_of (onto ts us) ≡ ts ++ list_of us
list_onto [] us = refl
list_onto (t ∷ ts) us = ap (λ vs. t ∷ vs) (list_onto ts us)

split_last : (ts : List Tree) → 0 < length ts → (us : List Tree) × (t : Tree) × (ts ≡ us ++ t ∷ [])
split_last [] l = absurd (omega (arith, l))
split_last (t ∷ []) l = ([], t, refl)
split_last (t ∷ u ∷ us) l = let s = split_last (u ∷ us) (omega arith) in (t ∷ s.0, s.1, ap (λ vs. t ∷ vs) s.2)

narrow_onto : (widest : ℕ) (ts : List Tree) (us : Trees) → AreNarrow widest (onto ts us) → AllNarrow widest ts × AreNarrow widest us
narrow_onto widest [] us n = (tt, n)
narrow_onto widest (t ∷ ts) us n = let r = narrow_onto widest ts us n.1 in ((n.0, r.0), r.1)

onto_narrow : (widest : ℕ) (ts : List Tree) (us : Trees) → AllNarrow widest ts → AreNarrow widest us → AreNarrow widest (onto ts us)
onto_narrow widest [] us n k = k
onto_narrow widest (t ∷ ts) us n k = (n.0, onto_narrow widest ts us n.1 k)

narrow_front : (widest : ℕ) (ts us : List Tree) → AllNarrow widest (ts ++ us) → AllNarrow widest ts
narrow_front widest [] us n = tt
narrow_front widest (t ∷ ts) us n = (n.0, narrow_front widest ts us n.1)

narrow_both : (widest : ℕ) (ts us : List Tree) → AllNarrow widest ts → AllNarrow widest us → AllNarrow widest (ts ++ us)
narrow_both widest [] us n k = k
narrow_both widest (t ∷ ts) us n k = (n.0, narrow_both widest ts us n.1 k)

-- under a spot there is a tree on the way
pub way_splits : (change : Change) (way : List Crumb) (u : Tree) (now : Store) (all fs : List Spot) (f : Spot) → all ≡ fs ++ f ∷ [] → IsChanged change way u now all → (c : Crumb) × (rest : List Crumb) × IsChanged change (c ∷ rest) u now (fs ++ f ∷ [])
way_splits change [] u now all fs f is e = absurd (subst (λ gs. AreSpots change.depth change.root now gs []) (ap reverse is ∙ spots_push fs f) e.on_way)
way_splits change (c ∷ rest) u now all fs f is e = (c, rest, subst (IsChanged change (c ∷ rest) u now) is e)

-- with no spot left all trees are built again
pub way_ends : (change : Change) (way : List Crumb) (u : Tree) (now : Store) (all : List Spot) → all ≡ [] → IsChanged change way u now all → HasChanged change now
way_ends change [] u now all is e = record { tree = u; goes = e.goes; narrow = e.narrow }
way_ends change (c ∷ rest) u now all is e = absurd (subst (λ gs. AreSpots change.depth change.root now gs (c ∷ rest)) (ap reverse is) e.on_way)

module _ (change : Change) (c : Crumb) (way : List Crumb) (u : Tree) (now : Store) (fs : List Spot) (f : Spot) (e : IsChanged change (c ∷ way) u now (fs ++ f ∷ [])) where
  abbrev points : List Point
  points = e.goes.points

  pub both : IsSpot change.depth change.root now (length (reverse fs)) f c × AreSpots change.depth change.root now (reverse fs) way
  both = subst (λ gs. AreSpots change.depth change.root now gs (c ∷ way)) (spots_push fs f) e.on_way

  pub spot : IsSpot change.depth change.root now (length (reverse fs)) f c
  spot = both.0

  pub tree_is : tree_at now f.row ≡ crumb_tree c
  tree_is = tree_at-has now f.row (crumb_tree c) spot.has

  pub spot_held : IsHeld now f.row
  spot_held = held-has now f.row (crumb_tree c) spot.has

  pub spot_sound : IsSound now
  spot_sound = e.goes.stands.sound

  abbrev count : ℕ
  count = count_of (onto c.front c.rest)

  pub count_is : length (arguments (tree_at now f.row)) ≡ count
  count_is = ap (λ t. length (arguments t)) tree_is ∙ length-list (onto c.front c.rest)

  abbrev pub front : List Tree
  front = but_last 1 c.front

  pub split : (t : Tree) × (c.front ≡ front ++ t ∷ [])
  split =
      let s = split_last c.front e.begun.0 in
      let b : front ≡ s.0 = ap (but_last 1) s.2 ∙ but_last-append 1 s.0 (s.1 ∷ []) refl in
      (s.1, s.2 ∙ ap (λ ts. ts ++ s.1 ∷ []) (sym b))

  pub front_count : length front + 1 ≡ f.argument
  front_count =
      let a = spot.argument in
      let s = ap length split.1 in
      let p = length_push front split.0 in
      omega (arith, a, s, p)

  abbrev pub rebuilt : Tree
  rebuilt = Node c.head (with_last c u)

  abbrev pub args : List Tree
  args = (front ++ u ∷ []) ++ list_of c.rest

  args_are : trees_of args ≡ with_last c u
  args_are = ap trees_of (sym (list_onto (front ++ u ∷ []) c.rest)) ∙ trees_of_list (with_last c u)

  pub args_count : length args ≡ count
  args_count =
      let l1 = length-append (front ++ u ∷ []) (list_of c.rest) in
      let l2 = length_push front u in
      let l3 = length-list c.rest in
      let l4 = count_onto c.front c.rest in
      let a = spot.argument in
      let b = front_count in
      omega (arith, l1, l2, l3, l4, a, b)

  pub now_height : length now.stack ≡ length change.start.stack + 2
  now_height = height change.start now (change.root ∷ u ∷ []) e.goes.stands.upper

  pub some_argument : 1 ≤ f.argument
  some_argument = let b = front_count in omega (arith, b)

  pub within_arguments : f.argument ≤ length (arguments (tree_at now f.row))
  within_arguments =
      let l4 = count_onto c.front c.rest in
      let a = spot.argument in
      let n = count_is in
      omega (arith, l4, a, n)

  -- there is no room for it
  pub again_stops : f.room ≤ length (arguments (tree_at now f.row)) → Stops change.start now change.whole TooDeep
  again_stops l =
      let n = count_is in
      let r = spot.room in
      let low : c.room ≤ count = omega (arith, l, n, r) in
      record {
        above = change.root ∷ u ∷ [];
        goes = record {
          points = points;
          stands = e.goes.stands;
          run = e.goes.run
              ∙ ap (λ (x : Building (Stepped Tree)). after_trees (trees_at points) (x >>= change.go)) (not_again change.rules c way u change.left low);
        };
      }

  module _ (k : length (arguments (tree_at now f.row)) < f.room) where
    pub roomy : count < c.room
    roomy = let n = count_is in let r = spot.room in omega (arith, k, n, r)

    pub run_again : change.whole ≡ after_trees (trees_at points) (noting rebuilt (onward change.rules way (Changed rebuilt) change.left >>= change.go))
    run_again =
        e.goes.run
        ∙ ap (λ (x : Building (Stepped Tree)). after_trees (trees_at points) (x >>= change.go)) (builds_again change.rules c way u change.left roomy)
        ∙ ap (after_trees (trees_at points)) (noting_then rebuilt (onward change.rules way (Changed rebuilt) change.left) change.go)

    abbrev pub again_point : Point
    again_point = record { tree = rebuilt; hand = (change.root ∷ []) ++ args; room = 0 }

    pub again_over : (n : ℕ) → n ≡ length (arguments (tree_at now f.row)) → IsPointOver change.start (change.root ∷ []) args c.head n again_point
    again_over n is =
        let e1 = args_count in
        let e2 = count_is in
        record { count = omega (arith, is, e1, e2); tree = ap (Node c.head) (sym args_are); hand = λ z v i. i }

    -- the places of the stack suffice
    pub again_places : length change.start.stack + 1 + length (arguments (tree_at now f.row)) ≤ now.room
    again_places =
        let n = count_is in
        let r = roomy in
        let p = spot.places in
        let m = e.goes.stands.numbers.room in
        omega (arith, n, r, p, m, e.places)

    pub narrow_tree : IsNarrow change.widest (crumb_tree c)
    narrow_tree = narrow_part change.widest change.root (crumb_tree c) e.root_narrow (spot.under (crumb_tree c) (itself (crumb_tree c)))

    pub rebuilt_narrow : IsNarrow change.widest rebuilt
    rebuilt_narrow =
        let n = narrow_tree in
        let parts = narrow_onto change.widest c.front c.rest n.2 in
        let fn = narrow_front change.widest front (split.0 ∷ []) (subst (AllNarrow change.widest) split.1 parts.0) in
        let l1 = count_onto (front ++ u ∷ []) c.rest in
        let l2 = length_push front u in
        let l3 = count_onto c.front c.rest in
        let a = spot.argument in
        let b = front_count in
        let few = n.1 in
        (n.0, omega (arith, l1, l2, l3, a, b, few), onto_narrow change.widest (front ++ u ∷ []) c.rest (narrow_both change.widest front (u ∷ []) fn (e.narrow, tt)) parts.1)

    -- the tree that was changed is taken off, and the arguments are put on
    module _ (mid : Store) (r : Row) (is : mid ≡ kept now (length now.stack - 1) 0) (sound : IsSound mid) where
      pub mid_stands : Stands change.start mid points (change.root ∷ [])
      mid_stands =
          let h = now_height in
          let place : length now.stack - 1 ≡ length change.start.stack + length (change.root ∷ []) = omega (arith, h) in
          stands_kept change.start now mid points (change.root ∷ []) (u ∷ []) [] (length now.stack - 1) 0 e.goes.stands place refl is sound

      pub mid_has : (q : Row) (t : Tree) → HasTree now q t → HasTree mid q t
      mid_has q t h = subst (λ s. HasTree s q t) (sym is) h

      mid_tree : tree_at mid f.row ≡ crumb_tree c
      mid_tree = tree_at-has mid f.row (crumb_tree c) (mid_has f.row (crumb_tree c) spot.has)

      pub mid_args : arguments (tree_at mid f.row) ≡ c.front ++ list_of c.rest
      mid_args = ap arguments mid_tree ∙ list_onto c.front c.rest
