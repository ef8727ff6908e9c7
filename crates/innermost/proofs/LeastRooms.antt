-- A value that was found is remembered with the least room in which its tree is reduced to it.
use Rattle.std.proofs.Common.{◌≡◌, ℕ, ◌+◌, ◌-◌, List, [], ◌∷◌, ◌++◌, length, reverse, refl, sym, ◌∙◌, ap, arith, subst, append_assoc, append-nil, Option, Some, inl, inr}
use Rattle.std.specs.Prelude.{Contains, slice_get}
use Rattle.std.proofs.lemmas.Bool.{cases_lt}
use Rattle.std.proofs.lemmas.List.{append_cancel_left}
use Rattle.std.proofs.lemmas.List.Elements.{Contains-append_right}
use Rattle.term_model.specs.Tree.{Tree}
use Rattle.term_model.specs.declared.Row.{Row}
use Rattle.terms_api.specs.Terms.{Store, trees}
use Rattle.rewrite_model.specs.Run.{Ended, Done, OutOfFuel, TooDeep, done, after}
use Rattle.rewrite_model.specs.Evaluation.{Point, Evaluated, reduction}
use Rattle.rewrite_model.specs.Built.{trees_at}
use Rattle.rewrite_model.proofs.Fuel.{begins_with_itself}
use Rattle.rewrite_cache.specs.Cached.{IsLeastRoom}
use Rattle.rewrite_cache.proofs.Alike.{is_known}
use Rattle.rewrite_cache.proofs.Least.{no_less_serves}
use Rattle.rule_match.specs.Planned.{Planned}
use Rattle.rule_code.specs.declared.compile.Code.{Code}
use Rattle.innermost.specs.declared.frames.Task.TheVariants.{Reduce}
use Rattle.innermost.specs.declared.normal.Normal.TheVariants.{Value}
use Rattle.innermost.specs.Follow.{onto}
use Rattle.innermost.specs.Reducing.{by_rules}
use Rattle.innermost.specs.State.{reduces_to, point_of}
use Rattle.innermost.specs.Tasks.{Job, HasValue}
use Rattle.innermost.specs.Spares.{Jobs, TaskSpares, EndSpares}
use Rattle.innermost.specs.Remembered.{Map}
use Rattle.innermost.specs.Caching.{IsResult, IsOnNode}
use Rattle.innermost.proofs.Runs.{then_done}
use Rattle.innermost.proofs.Memories.{top_tree}
use Rattle.innermost.proofs.Knowing.{job, job_in, reduces_in, upper_here, job_trees, first_is}

-- what comes of a reduction on a stack came of it
known_onto : (below : List Tree) (x : Evaluated Tree) (v : Tree) (left : ℕ) → (onto below x).end ≡ Done (below ++ v ∷ []) left → x.end ≡ Done v left
known_onto below x v left h = by_end x.notes x.end h
  where
    by_end : (ns : List Point) (e : Ended Tree) → (after ns e (λ t n. let r : Evaluated (List Tree) = done (below ++ t ∷ []) n in r)).end ≡ Done (below ++ v ∷ []) left → e ≡ Done v left
    by_end ns (Done u n) k =
        let same : below ++ u ∷ [] ≡ below ++ v ∷ [] = cc in
        let one = append_cancel_left below (u ∷ []) (v ∷ []) same in
        cc
    by_end ns OutOfFuel k = absurd (cc)
    by_end ns TooDeep k = absurd (cc)

deep_onto : (below : List Tree) (x : Evaluated Tree) → (onto below x).end ≡ TooDeep → x.end ≡ TooDeep
deep_onto below x h = by_end x.notes x.end h
  where
    by_end : (ns : List Point) (e : Ended Tree) → (after ns e (λ t n. let r : Evaluated (List Tree) = done (below ++ t ∷ []) n in r)).end ≡ TooDeep → e ≡ TooDeep
    by_end ns (Done u n) k = absurd (cc)
    by_end ns OutOfFuel k = absurd (cc)
    by_end ns TooDeep k = refl

first_tree : (p : Point) (ys ps : List Point) → p ∷ ys ≡ ps → Contains (trees_at ps) p.tree
first_tree p ys ps e = subst (λ (qs : List Point). Contains (trees_at qs) p.tree) e (0, omega arith, refl)

module _ (plan : Planned) (codes : Code) (start : Store) (term : Tree) (fuel : ℕ) (map' : Map) (epoch : Option ℕ) (at left : ℕ) (now : Store) (next : Option ℕ) (room : ℕ) (n : IsOnNode plan codes start term fuel map' epoch at left now next room) where
  abbrev alone_in : ℕ → Job
  alone_in wide = job_in plan codes start term fuel map' epoch at left now next room n wide

  abbrev x : ℕ → Evaluated Tree
  x wide = by_rules (reduction plan.rules) plan.rules n.below n.tree left wide

  abbrev reduced : ℕ → Evaluated Tree
  reduced wide = reduction plan.rules [] (reverse n.below) n.tree left wide

  -- the tree by itself, in the room and in less
  abbrev pub jobs : Jobs
  jobs = record { in_less = λ less. alone_in (room - less); most = room }

  pub begins_spare : TaskSpares plan codes jobs room [] left now (Reduce next room)
  begins_spare =
      record {
        within = omega arith;
        lower = λ less l. reduces_in plan codes start term fuel map' epoch at left now next room n (room - less) (omega arith);
        tight = λ l. absurd (omega arith);
      }

  ends_with_value : (wide : ℕ) (new : Store) (l : ℕ) (w : HasValue plan codes (alone_in wide) new l) → (reduced wide).end ≡ Done w.tree l
  ends_with_value wide new l w =
      let same : reduces_to plan.rules [] plan.rules n.below n.tree left wide ≡ onto n.below (x wide) = then_done (onto n.below (x wide)) in
      let on_stack : (onto n.below (x wide)).end ≡ Done (n.below ++ w.tree ∷ []) l = ap (λ (y : Evaluated (List Tree)). y.end) (sym same) ∙ ap (λ (y : Evaluated (List Tree)). y.end) w.run in
      ap (λ (y : Evaluated Tree). y.end) (begins_with_itself plan.rules [] (reverse n.below) n.tree left wide) ∙ known_onto n.below (x wide) w.tree l on_stack

  ends_deep : (wide : ℕ) → (alone_in wide).whole.end ≡ TooDeep → (reduced wide).end ≡ TooDeep
  ends_deep wide e =
      let same : reduces_to plan.rules [] plan.rules n.below n.tree left wide ≡ onto n.below (x wide) = then_done (onto n.below (x wide)) in
      ap (λ (y : Evaluated Tree). y.end) (begins_with_itself plan.rules [] (reverse n.below) n.tree left wide) ∙ deep_onto n.below (x wide) (ap (λ (y : Evaluated (List Tree)). y.end) (sym same) ∙ e)

  module _ (new : Store) (l spare : ℕ) (s : EndSpares plan codes jobs spare new (Value l)) where
    least_value : HasValue plan codes (alone_in (room - spare)) new l
    least_value = s.lower spare (omega arith)

    is_least : IsLeastRoom plan.rules n.tree (room - spare)
    is_least = elim (cases_lt spare room) [
      | inl a ↦ (let one : room - (spare + 1) + 1 ≡ room - spare = omega (arith, a) in
          let end = ends_with_value (room - spare) new l least_value in
          subst (IsLeastRoom plan.rules n.tree) one
          (no_less_serves plan.rules [] (reverse n.below) [] (reverse n.below) n.tree least_value.tree left (room - (spare + 1)) l
          (subst (λ (i : ℕ). (reduced i).end ≡ Done least_value.tree l) (sym one) end) (ends_deep (room - (spare + 1)) (s.tight a))))
      | inr b ↦ λ given kept fuel' less value rest k. absurd (omega (arith, b, k))
    ]

    -- what may be remembered
    pub value_result : (v : HasValue plan codes (job plan codes start term fuel map' epoch at left now next room n) new l) (row : Row) → slice_get now.stack (length now.stack - 1) ≡ Some row → epoch ≡ now.epoch → IsResult plan.rules (start.built ++ (n.since ++ trees_at v.points)) epoch new row (left - l) (room - spare)
    value_result v row at_top is =
        let r : Evaluated (List Tree) = done (n.below ++ v.tree ∷ []) l in
        let here = upper_here plan codes start term fuel map' epoch at left now next room n in
        let notes = (reduces_to plan.rules [] plan.rules n.below n.tree left room).notes in
        let whole : point_of [] n.below n.tree room ∷ notes ≡ v.points = first_is plan codes start term fuel map' epoch at left now next room n v.points r v.run ∙ append-nil v.points in
        let w = least_value in
        record {
          then = now;
          epoch = is;
          ages = v.stands.ages;
          tree = n.tree;
          value = w.tree;
          below = trees start ++ n.below;
          row = top_tree now (trees start ++ n.below) n.tree row n.stood.sound here at_top;
          stood = Contains-append_right start.built (n.since ++ trees_at v.points) n.tree (Contains-append_right n.since (trees_at v.points) n.tree (first_tree (point_of [] n.below n.tree room) notes v.points whole));
          top = w.stands.upper ∙ ap (λ ts. ts ++ (n.below ++ w.tree ∷ [])) (job_trees plan codes start term fuel map' epoch at left now next room n) ∙ sym (append_assoc (trees start) n.below (w.tree ∷ []));
          known = is_known plan.rules [] (reverse n.below) n.tree w.tree left (room - spare) l (ends_with_value (room - spare) new l w);
          least = is_least;
          normal = λ u. (w.told u).normal;
        }
