-- A tree is built again: what lies on the stack before, and what is left after.
use Rattle.std.proofs.Common.{◌≡◌, ℕ, zero, suc, ◌+◌, ◌-◌, ◌<◌, List, [], ◌∷◌, ◌++◌, length, take, drop, refl, sym, ◌∙◌, ap, arith, subst, append_assoc, Some}
use Rattle.std.specs.Prelude.{Contains, slice_get}
use Rattle.std.proofs.lemmas.List.{length-append, length-map}
use Rattle.std.proofs.lemmas.List.Elements.{Contains-append_right, Contains-append_left}
use Rattle.std.proofs.lemmas.Option.{same_Some}
use Rattle.std.proofs.Math.Seq.{take-append_seam, drop-append_seam, take-length}
use Rattle.term_model.specs.Tree.{Tree, list_of, arguments, trees_of}
use Rattle.term_model.specs.declared.Row.{Row}
use Rattle.terms_api.specs.Terms.{Store, IsSound, HasTree, tree_at, trees, last, pushed, kept, MayBuild}
use Rattle.terms_api.proofs.Callers.{tree_at-has, has-held, held-stack, trees-at}
use Rattle.rewrite_model.specs.Run.{◌>>=◌}
use Rattle.rewrite_model.specs.Outermost.{Changed}
use Rattle.innermost.specs.declared.spots.Spot.{Spot}
use Rattle.innermost.specs.declared.normal.RunFault.{RunFault}
use Rattle.innermost.specs.Standing.{Stands, IsRefused}
use Rattle.innermost.specs.Outward.{WasGivenUp, KeepsParts}
use Rattle.innermost.specs.Walking.{Crumb, crumb_tree, onward}
use Rattle.innermost.specs.Rebuilding.{Pushes, Change, IsChanged}
use Rattle.innermost.proofs.Points.{height}
use Rattle.innermost.proofs.Moving.{stands_pushed}
use Rattle.innermost.proofs.Builds.{symbol_over}
use Rattle.innermost.proofs.Sites.{noted_on}
use Rattle.innermost.proofs.Changes.{stands_pushes, pushes_held, spots_on, both, spot, tree_is, front, split, front_count, args, rebuilt, rebuilt_narrow, again_point, run_again, mid_stands, mid_has, mid_args, count_is, now_height, narrow_tree, list_onto, args_count}

at_last : (xs : List Tree) (u v : Tree) (i : ℕ) → i ≡ length xs + 1 → slice_get (xs ++ u ∷ v ∷ []) i ≡ Some v
at_last [] u v zero e = absurd (omega (arith, e))
at_last [] u v (suc zero) e = refl
at_last [] u v (suc (suc i)) e = absurd (omega (arith, e))
at_last (x ∷ xs) u v zero e = absurd (omega (arith, e))
at_last (x ∷ xs) u v (suc i) e = at_last xs u v i (omega (arith, e))

module _ (change : Change) (c : Crumb) (way : List Crumb) (u : Tree) (now : Store) (fs : List Spot) (f : Spot) (e : IsChanged change (c ∷ way) u now (fs ++ f ∷ [])) where
  -- the row on top has the changed tree
  pub top_has : (r : Row) → slice_get now.stack (length now.stack - 1) ≡ Some r → HasTree now r u
  top_has r at =
      let h = now_height change c way u now fs f e in
      let held = held-stack now (length now.stack - 1) r e.goes.stands.sound at in
      let there : slice_get (trees now) (length now.stack - 1) ≡ Some (tree_at now r) = trees-at now (length now.stack - 1) r at in
      let l : length now.stack - 1 ≡ length (trees change.start) + 1 = (let k = length-map change.start.stack (tree_at change.start) in omega (arith, h, k)) in
      let last' : slice_get (trees now) (length now.stack - 1) ≡ Some u =
      ap (λ ts. slice_get ts (length now.stack - 1)) e.goes.stands.upper ∙ at_last (trees change.start) change.root u (length now.stack - 1) l in
      let same : tree_at now r ≡ u = same_Some (tree_at now r) u (sym there ∙ last') in
      subst (HasTree now r) same (has-held now r held)

  abbrev a : ℕ
  a = f.argument

  abbrev n : ℕ
  n = length (arguments (tree_at now f.row))

  first_arguments : (s : Store) → arguments (tree_at s f.row) ≡ c.front ++ list_of c.rest → take (a - 1 - 0) (drop 0 (arguments (tree_at s f.row))) ≡ front change c way u now fs f e
  first_arguments s is =
      let s' = split change c way u now fs f e in
      let k : a - 1 - 0 ≡ length (front change c way u now fs f e) = (let b = front_count change c way u now fs f e in omega (arith, b)) in
      ap (λ ts. take (a - 1 - 0) ts) (is ∙ ap (λ ts. ts ++ list_of c.rest) s'.1 ∙ append_assoc (front change c way u now fs f e) (s'.0 ∷ []) (list_of c.rest))
      ∙ ap (λ i. take i (front change c way u now fs f e ++ ((s'.0 ∷ []) ++ list_of c.rest))) k
      ∙ take-append_seam (front change c way u now fs f e) ((s'.0 ∷ []) ++ list_of c.rest)

  now_args : arguments (tree_at now f.row) ≡ c.front ++ list_of c.rest
  now_args = ap arguments (tree_is change c way u now fs f e) ∙ list_onto c.front c.rest

  other_arguments : (s : Store) → arguments (tree_at s f.row) ≡ c.front ++ list_of c.rest → take (n - a) (drop a (arguments (tree_at s f.row))) ≡ list_of c.rest
  other_arguments s is =
      let arg = (spot change c way u now fs f e).argument in
      let all : n ≡ length c.front + length (list_of c.rest) = ap length now_args ∙ length-append c.front (list_of c.rest) in
      let k : n - a ≡ length (list_of c.rest) = omega (arith, all, arg) in
      ap (λ ts. take (n - a) (drop a ts)) is
      ∙ ap (λ i. take (n - a) (drop i (c.front ++ list_of c.rest))) arg
      ∙ ap (take (n - a)) (drop-append_seam c.front (list_of c.rest))
      ∙ ap (λ i. take i (list_of c.rest)) k
      ∙ take-length (list_of c.rest)

  module _ (k : n < f.room) (mid s1 s2 s3 : Store) (r : Row) (is : mid ≡ kept now (length now.stack - 1) 0) (sound0 : IsSound mid) (sound1 : IsSound s1) (sound2 : IsSound s2) (sound3 : IsSound s3) (top : slice_get now.stack (length now.stack - 1) ≡ Some r) where
    abbrev same_args : Store → Type 0
    same_args s = arguments (tree_at s f.row) ≡ c.front ++ list_of c.rest

    module _ (p1 : Pushes mid s1 (take (a - 1 - 0) (drop 0 (arguments (tree_at mid f.row))))) (p2 : s2 ≡ pushed s1 r) where
      has1 : (q : Row) (t : Tree) → HasTree now q t → HasTree s1 q t
      has1 q t h = pushes_held mid s1 _ q t p1 (mid_has change c way u now fs f e k mid r is sound0 q t h)

      pub has2 : (q : Row) (t : Tree) → HasTree now q t → HasTree s2 q t
      has2 q t h = subst (λ s. HasTree s q t) (sym p2) (has1 q t h)

      args2 : same_args s2
      args2 = ap arguments (tree_at-has s2 f.row (crumb_tree c) (has2 f.row (crumb_tree c) (spot change c way u now fs f e).has)) ∙ list_onto c.front c.rest

      stands1 : Stands change.start s1 e.goes.points ((change.root ∷ []) ++ front change c way u now fs f e)
      stands1 =
          subst (λ ts. Stands change.start s1 e.goes.points ((change.root ∷ []) ++ ts)) (first_arguments mid (mid_args change c way u now fs f e k mid r is sound0))
          (stands_pushes change.start mid s1 e.goes.points (change.root ∷ []) _ (mid_stands change c way u now fs f e k mid r is sound0) p1 sound1)

      stands2 : Stands change.start s2 e.goes.points (((change.root ∷ []) ++ front change c way u now fs f e) ++ u ∷ [])
      stands2 = stands_pushed change.start s1 s2 e.goes.points ((change.root ∷ []) ++ front change c way u now fs f e) r u stands1 p2 (tree_at-has s1 r u (has1 r u (top_has r top))) sound2

      module _ (p3 : Pushes s2 s3 (take (n - a) (drop a (arguments (tree_at s2 f.row))))) where
        pub has3 : (q : Row) (t : Tree) → HasTree now q t → HasTree s3 q t
        has3 q t h = pushes_held s2 s3 _ q t p3 (has2 q t h)

        pub stands3 : Stands change.start s3 e.goes.points ((change.root ∷ []) ++ args change c way u now fs f e)
        stands3 =
            let F = front change c way u now fs f e in
            subst (Stands change.start s3 e.goes.points)
            (append_assoc ((change.root ∷ []) ++ F) (u ∷ []) (list_of c.rest) ∙ append_assoc (change.root ∷ []) F ((u ∷ []) ++ list_of c.rest) ∙ ap (λ ts. (change.root ∷ []) ++ ts) (sym (append_assoc F (u ∷ []) (list_of c.rest))))
            (subst (λ ts. Stands change.start s3 e.goes.points ((((change.root ∷ []) ++ F) ++ u ∷ []) ++ ts)) (other_arguments s2 args2)
            (stands_pushes change.start s2 s3 e.goes.points (((change.root ∷ []) ++ F) ++ u ∷ []) _ stands2 p3 sound3))

        -- the root lies on the stack
        pub root_on_stack : Contains (trees s3) change.root
        root_on_stack = subst (λ ts. Contains ts change.root) (sym stands3.upper) (Contains-append_right (trees change.start) ((change.root ∷ []) ++ args change c way u now fs f e) change.root (Contains-append_left (change.root ∷ []) (args change c way u now fs f e) change.root (0, omega arith, refl)))

        pub may_again : (m : ℕ) → m ≡ n → MayBuild s3 c.head m
        may_again m is' =
            let h = height change.start s3 ((change.root ∷ []) ++ args change c way u now fs f e) stands3.upper in
            let l = length-append (change.root ∷ []) (args change c way u now fs f e) in
            let ac = args_count change c way u now fs f e in
            let ci = count_is change c way u now fs f e in
            let w = stands3.numbers.widest in
            let few = (narrow_tree change c way u now fs f e k).1 in
            record {
              depth = omega (arith, h, l, ac, ci, is');
              width = omega (arith, few, ci, is', w, e.wide);
              head = symbol_over c.head (trees_of (last m (trees s3))) (narrow_tree change c way u now fs f e k).0;
            }

        pub again_fault : (new : Store) (fault : RunFault) → IsRefused change.start new e.goes.points (again_point change c way u now fs f e k) fault → WasGivenUp change.start new change.whole fault
        again_fault new fault refused =
            record { points = e.goes.points; point = again_point change c way u now fs f e k; left = onward change.rules way (Changed (rebuilt change c way u now fs f e)) change.left >>= change.go; run = run_again change c way u now fs f e k; refused = refused }

        pub again_built : (new : Store) → Stands change.start new (e.goes.points ++ again_point change c way u now fs f e k ∷ []) ((change.root ∷ []) ++ rebuilt change c way u now fs f e ∷ []) → ((root' : Tree) → Contains (trees s3) root' → KeepsParts root' s3 new) → IsChanged change way (rebuilt change c way u now fs f e) new fs
        again_built new stands keeps =
            let T = rebuilt change c way u now fs f e in
            record {
              goes = record {
                points = e.goes.points ++ again_point change c way u now fs f e k ∷ [];
                stands = stands;
                run = run_again change c way u now fs f e k ∙ noted_on e.goes.points (again_point change c way u now fs f e k) (onward change.rules way (Changed T) change.left >>= change.go);
              };
              on_way = spots_on change.depth change.root now new _ way (λ q t part h. keeps change.root root_on_stack q t part (has3 q t h)) (both change c way u now fs f e).1;
              begun = e.begun.1;
              root_narrow = e.root_narrow;
              narrow = rebuilt_narrow change c way u now fs f e k;
              wide = e.wide;
              places = e.places;
            }
