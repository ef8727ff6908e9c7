-- Outermost rewriting, step by step.
use Rattle.std.proofs.Common.{◌≡◌, ℕ, zero, suc, ◌+◌, ◌-◌, ◌≤◌, List, [], ◌∷◌, ◌++◌, length, get_or, refl, sym, ◌∙◌, ap, arith, subst, append-nil, Some, true, inl}
use Rattle.std.specs.Prelude.{Contains, slice_get}
use Rattle.std.proofs.lemmas.List.{length-map}
use Rattle.std.proofs.lemmas.List.Elements.{Contains-append_right, All-get_or}
use Rattle.std.proofs.lemmas.Option.{same_Some}
use Rattle.std.proofs.Math.Seq.{take-length}
use Rattle.term_model.specs.Tree.{Tree, subtrees, among, IsGround}
use Rattle.term_model.specs.declared.Row.{Row}
use Rattle.terms_api.specs.Terms.{Store, IsSound, IsHeld, tree_at, trees, kept}
use Rattle.terms_api.proofs.Callers.{held-stack, trees-at}
use Rattle.rewrite_model.specs.Rule.{Rule, IsRule, IsBelow}
use Rattle.rewrite_model.specs.Run.{done, ends, ◌>>=◌, OutOfFuel, TooDeep}
use Rattle.rewrite_model.specs.Built.{trees_at}
use Rattle.rewrite_model.specs.Outermost.{Building, Stepped, Same, Changed, build, step, go_on, steps, outermost}
use Rattle.rewrite_model.proofs.Closed.{ground_below}
use Rattle.rule_match.specs.Planned.{Planned, IsPlan, IsPlain, HasSymbolsAlone}
use Rattle.innermost.specs.declared.spots.Spot.{Spot}
use Rattle.innermost.specs.Outward.{after_trees, Stops, Finishes, KeepsParts}
use Rattle.innermost.specs.Instances.{IsNarrow, AllNarrow, AreKept, Site, IsBegun, HasInstance}
use Rattle.innermost.specs.Walking.{onward}
use Rattle.innermost.specs.Rebuilding.{Change, IsChanged, HasChanged}
use Rattle.innermost.specs.Rewriting.{Run, IsOn, IsReplacing}
use Rattle.innermost.proofs.Points.{height}
use Rattle.innermost.proofs.Moving.{stands_kept}
use Rattle.innermost.proofs.Runs.{then_then}
use Rattle.innermost.proofs.Parts.{narrow_part}
use Rattle.innermost.proofs.Changes.{spots_on}

-- what is left of a run after a step
pub steps_stop : (rules : List Rule) (left depth : ℕ) (t : Tree) → step rules t left depth ≡ ends TooDeep → steps rules left t depth ≡ ends TooDeep
steps_stop rules zero depth t e = ap (λ (x : Building (Stepped Tree)). x >>= (λ s l. go_on rules t s l (λ u. ends OutOfFuel))) e
steps_stop rules (suc f) depth t e = ap (λ (x : Building (Stepped Tree)). x >>= (λ s l. go_on rules t s l (λ u. steps rules f u depth))) e

pub steps_same : (rules : List Rule) (left depth : ℕ) (t : Tree) → step rules t left depth ≡ done Same left → steps rules left t depth ≡ done t left
steps_same rules zero depth t e = ap (λ (x : Building (Stepped Tree)). x >>= (λ s l. go_on rules t s l (λ u. ends OutOfFuel))) e
steps_same rules (suc f) depth t e = ap (λ (x : Building (Stepped Tree)). x >>= (λ s l. go_on rules t s l (λ u. steps rules f u depth))) e

kept_narrow : (widest : ℕ) (root : Tree) (s : Store) (rows : List Row) (ts : List Tree) → IsNarrow widest root → AreKept (root ∷ []) s rows ts → AllNarrow widest ts
kept_narrow widest root s [] [] n k = tt
kept_narrow widest root s [] (t ∷ ts) n k = absurd k
kept_narrow widest root s (r ∷ rs) [] n k = absurd k
kept_narrow widest root s (r ∷ rs) (t ∷ ts) n k =
    let o = k.0 in
    (narrow_part widest root t n (subst (λ x. among t (subtrees x) ≡ true) (only o.root o.stands) o.part), kept_narrow widest root s rs ts n k.1)
  where
    only : (x : Tree) → Contains (root ∷ []) x → x ≡ root
    only x (zero, l, e) = sym e
    only x (suc i, l, e) = absurd (omega (arith, l))

module _ (run : Run) (plan : Planned) (depth left : ℕ) (now : Store) (on : IsOn run plan depth left now) where
  pub on_height : length now.stack ≡ length run.start.stack + 1
  on_height = height run.start now (on.tree ∷ []) on.goes.stands.upper

  -- the tree on top
  module _ (row : Row) (at : slice_get now.stack (length now.stack - 1) ≡ Some row) where
    pub on_held : IsHeld now row
    on_held = held-stack now (length now.stack - 1) row on.goes.stands.sound at

    pub on_tree : tree_at now row ≡ on.tree
    on_tree =
        let h = on_height in
        let l : length now.stack - 1 ≡ length (trees run.start) = (let k = length-map run.start.stack (tree_at run.start) in omega (arith, h, k)) in
        same_Some (tree_at now row) on.tree (sym (trees-at now (length now.stack - 1) row at) ∙ ap (λ ts. slice_get ts (length now.stack - 1)) on.goes.stands.upper ∙ at_end (trees run.start) on.tree (length now.stack - 1) l)
      where
        at_end : (xs : List Tree) (u : Tree) (i : ℕ) → i ≡ length xs → slice_get (xs ++ u ∷ []) i ≡ Some u
        at_end [] u zero e = refl
        at_end [] u (suc i) e = absurd (omega (arith, e))
        at_end (x ∷ xs) u zero e = absurd (omega (arith, e))
        at_end (x ∷ xs) u (suc i) e = at_end xs u i (omega (arith, e))

  pub on_stops : step plan.rules on.tree left depth ≡ ends TooDeep → Stops run.start now run.whole TooDeep
  on_stops e =
      record { above = on.tree ∷ []; goes = record { points = on.goes.points; stands = on.goes.stands; run = on.goes.run ∙ ap (after_trees (trees_at on.goes.points)) (steps_stop plan.rules left depth on.tree e) } }

  pub on_finishes : step plan.rules on.tree left depth ≡ done Same left → Finishes run.start now run.whole left
  on_finishes e =
      record { tree = on.tree; goes = record { points = on.goes.points; stands = on.goes.stands; run = on.goes.run ∙ ap (after_trees (trees_at on.goes.points)) (steps_same plan.rules left depth on.tree e) } }

  pub root_stands : Contains (trees now) on.tree
  root_stands = subst (λ ts. Contains ts on.tree) (sym on.goes.stands.upper) (Contains-append_right (trees run.start) (on.tree ∷ []) on.tree (0, omega arith, refl))

module _ (run : Run) (plan : Planned) (depth left : ℕ) (now : Store) (spots : List Spot) (rows : List Row) (rule room : ℕ) (e : IsReplacing run plan depth left now spots rows rule room) where
  abbrev t : Tree
  t = e.on.tree

  pub no_fuel : (r : Rule) → r ≡ get_or plan.rules rule r → left ≡ 0 → Stops run.start now run.whole OutOfFuel
  no_fuel r q z =
      let s : step plan.rules t 0 depth ≡ ends OutOfFuel = e.found.run r q 0 in
      record {
        above = t ∷ [];
        goes = record {
          points = e.on.goes.points;
          stands = e.on.goes.stands;
          run = e.on.goes.run
              ∙ ap (λ n. after_trees (trees_at e.on.goes.points) (steps plan.rules n t depth)) z
              ∙ ap (λ (x : Building (Stepped Tree)). after_trees (trees_at e.on.goes.points) (x >>= (λ s l. go_on plan.rules t s l (λ u. ends OutOfFuel)))) s;
        };
      }

  module _ (f : ℕ) (fuel : left ≡ suc f) (r : Rule) (q : r ≡ get_or plan.rules rule r) where
    abbrev go : Stepped Tree → ℕ → Building Tree
    go s l = go_on plan.rules t s l (λ u. steps plan.rules f u depth)

    -- the right side is built
    abbrev pub right_site : Site
    right_site = record { start = run.start; whole = run.whole; below = t ∷ []; go = (λ u l. onward plan.rules e.found.crumbs (Changed u) l >>= go); widest = plan.widest; bound = e.found.bound; fuel = f }

    is_rule : IsRule r
    is_rule = subst IsRule (sym q) (All-get_or IsRule plan.rules rule r e.found.within e.on.steady.planned.rules)

    is_plain : HasSymbolsAlone plan.widest r
    is_plain = subst (HasSymbolsAlone plan.widest) (sym q) (All-get_or (HasSymbolsAlone plan.widest) plan.rules rule r e.found.within e.on.steady.planned.symbols)

    pub right_plain : IsPlain plan.widest r.right
    right_plain = is_plain.right

    pub right_begins : IsBegun right_site now rows r.right (room - 1)
    right_begins =
        let B : Building Tree = build e.found.bound r.right f (room - 1) in
        let s : step plan.rules t (suc f) depth ≡ ((B >>= (λ u l. done (Changed u) l)) >>= onward plan.rules e.found.crumbs) = e.found.run r q (suc f) in
        let v = e.found.vars r q in
        let some = e.found.some in
        let most = e.found.most in
        let p = e.on.steady.places in
        let d = e.on.steady.range in
        record {
          goes = record {
            points = e.on.goes.points;
            stands = e.on.goes.stands;
            run = e.on.goes.run
                ∙ ap (λ n. after_trees (trees_at e.on.goes.points) (steps plan.rules n t depth)) fuel
                ∙ ap (λ (x : Building (Stepped Tree)). after_trees (trees_at e.on.goes.points) (x >>= go)) s
                ∙ ap (after_trees (trees_at e.on.goes.points))
                (then_then (B >>= (λ u l. done (Changed u) l)) (onward plan.rules e.found.crumbs) go
                ∙ then_then B (λ u l. done (Changed u) l) (λ s' l. onward plan.rules e.found.crumbs s' l >>= go));
          };
          kept = e.found.kept;
          narrow = kept_narrow plan.widest t now rows e.found.bound e.on.narrow e.found.kept;
          variables = subst (λ k. IsBelow k r.right) (sym v) is_rule.right;
          plain = is_plain.right;
          wide = e.on.steady.wide;
          places = omega (arith, some, most, p);
          range = omega (arith, most, d);
        }

    abbrev pub right_change : Change
    right_change = record { start = run.start; whole = run.whole; rules = plan.rules; widest = plan.widest; depth = depth; root = t; left = f; go = go }

    -- then the trees on the way are built again
    pub right_changes : (new : Store) → KeepsParts t now new → (i : HasInstance right_site new) → IsChanged right_change e.found.crumbs i.tree new spots
    right_changes new keeps i =
        record {
          goes = i.goes;
          on_way = spots_on depth t now new _ e.found.crumbs keeps e.found.on_way;
          begun = e.found.begun;
          root_narrow = e.on.narrow;
          narrow = i.narrow;
          wide = e.on.steady.wide;
          places = e.on.steady.places;
        }

    pub rewritten : (mid new : Store) (place : ℕ) → HasChanged right_change mid → place ≡ length now.stack - 1 → new ≡ kept mid place 1 → IsSound new → IsOn run plan depth f new
    rewritten mid new place h p is sound =
        let l = on_height run plan depth left now e.on in
        let from : place ≡ length run.start.stack + length (let xs : List Tree = [] in xs) = omega (arith, p, l) in
        record {
          steady = e.on.steady;
          tree = h.tree;
          narrow = h.narrow;
          goes = record {
            points = h.goes.points;
            stands = stands_kept run.start mid new h.goes.points [] (t ∷ []) (h.tree ∷ []) place 1 h.goes.stands from refl is sound;
            run = h.goes.run;
          };
        }

-- the run begins
module _ (plan : Planned) (term : Tree) (fuel depth : ℕ) (start : Store) where
  abbrev pub whole_run : Run
  whole_run = record { start = start; whole = outermost plan.rules term fuel depth }

  abbrev pub term_site : Site
  term_site = record { start = start; whole = outermost plan.rules term fuel depth; below = []; go = (λ t l. steps plan.rules l t depth); widest = plan.widest; bound = []; fuel = fuel }

  pub term_begins : IsSound start → start.inside ≡ true → IsGround term → IsPlain plan.widest term → plan.widest ≤ start.widest → length start.stack + depth ≤ start.room → depth ≤ 4294967295 → IsBegun term_site start [] term depth
  term_begins sound inside g p w free d =
      record {
        goes = record {
          points = [];
          stands = record {
            lower = take-length start.stack;
            upper = sym (append-nil (trees start));
            sound = sound;
            numbers = record { inside = inside; rows = refl; widest = refl; room = refl; sweeps = omega arith; load = omega arith };
            ages = inl (refl, λ r t k. k);
            built = sym (append-nil start.built);
            refusals = refl;
            sweeps = omega arith;
            load = λ z. omega arith;
          };
          run = refl;
        };
        kept = tt;
        narrow = tt;
        variables = ground_below term g;
        plain = p;
        wide = w;
        places = omega (arith, free);
        range = d;
      }

  pub term_stands : (now : Store) → IsPlan plan → plan.widest ≤ start.widest → length start.stack + depth ≤ start.room → depth ≤ 4294967295 → HasInstance term_site now → IsOn whole_run plan depth fuel now
  term_stands now planned w free d i =
      record {
        steady = record { planned = planned; wide = w; places = free; range = d };
        tree = i.tree;
        narrow = i.narrow;
        goes = i.goes;
      }
