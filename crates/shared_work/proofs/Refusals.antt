-- The tree that was refused, and what was built before it, by either strategy.
use Rattle.std.proofs.Common.{◌≡◌, ℕ, Bool, true, false, List, [], ◌∷◌, ◌++◌, sym, ap, subst, ◌∙◌}
use Rattle.std.proofs.lemmas.List.{map-append, append_assoc}
use Rattle.term_model.specs.Tree.{Tree}
use Rattle.terms_api.specs.Terms.{Store}
use Rattle.rewrite_model.specs.Rule.{Rule}
use Rattle.rewrite_model.specs.Evaluation.{Point}
use Rattle.rewrite_model.specs.Built.{trees_at}
use Rattle.rewrite_cache.specs.Cached.{IsCached}
use Rattle.rewrite_cache.proofs.Joined.{all_built, joined}
use Rattle.settings.specs.declared.parts.Settings.{Settings}
use Rattle.innermost.specs.Normalized.{StoppedAt, IsFullWithout, HandIsOf}
use Rattle.innermost.specs.BuiltTrees.{StoppedBefore}
use Rattle.innermost.specs.Remembered.{StoppedAmong}
use Rattle.innermost.specs.declared.normal.RunFault.{RunFault}
use Rattle.innermost.specs.declared.normal.RunFault.TheVariants as fault
use Rattle.term_lines.specs.declared.strategy.Strategy.{Strategy}
use Rattle.term_lines.specs.declared.strategy.Strategy.TheVariants.{Innermost, Outermost}
use Rattle.term_lines.specs.Strategies.{points_of, IsBuiltBy, RefusedBy}
use Rattle.term_lines.proofs.Lists.{one_built}
use Rattle.rewrite_workers.specs.Ends.{RefusedLast}
use Rattle.work_order.specs.Works.{strategy_of, remembers_results, AreBuilt}
use Rattle.rewrite_workers.proofs.Ending.{built_over}

-- What was built is the first of such trees, and this is the next one.
pub record StopsAt (P : (before trees : List Tree) → Type 0) (old new : Store) (t : Tree) : Type 0 where
  pub front : List Tree
  pub back : List Tree
  pub are : P old.built (front ++ t ∷ back)
  pub built : new.built ≡ old.built ++ front

abbrev pub IsRefused : ((before trees : List Tree) → Type 0) → Store → Store → RunFault → Type 0
IsRefused P old new fault.StoreFull = (t : Tree) × StopsAt P old new t × IsFullWithout new t
IsRefused P old new fault.Worn = (t : Tree) × StopsAt P old new t × (new.spent ≡ true)

module _ (rules : List Rule) (term : Tree) (fuel room : ℕ) (old new : Store) where
  abbrev points : List Point
  points = points_of rules term fuel room

  abbrev Builds : Strategy → Bool → (before trees : List Tree) → Type 0
  Builds by kept = IsBuiltBy by kept rules term fuel room

  at_point : (p : Point) → StoppedAt points old new p → StopsAt (Builds Innermost false) old new p.tree
  at_point p at = record {
    front = trees_at at.front;
    back = trees_at at.back;
    are = sym (ap trees_at at.split ∙ map-append (λ (q : Point). q.tree) at.front (p ∷ at.back));
    built = at.built;
  }

  -- nothing need be left out behind it
  among_points : (p : Point) → StoppedAmong rules points old new p → StopsAt (Builds Innermost true) old new p.tree
  among_points p at = record {
    front = at.some.trees;
    back = trees_at at.back;
    are = subst (λ (ps : List Point). IsCached rules old.built ps (at.some.trees ++ p.tree ∷ trees_at at.back)) (sym at.split)
        (joined (trees_at (p ∷ at.back)) (p ∷ at.back) at.some.cached (all_built rules (old.built ++ at.some.trees) (p ∷ at.back)));
    built = at.some.built;
  }

  before_tree : (kept : Bool) (ts : List Tree) (t : Tree) → StoppedBefore ts old new t → ((trees : List Tree) → trees ≡ ts → Builds Outermost kept old.built trees) → StopsAt (Builds Outermost kept) old new t
  before_tree kept ts t at are = record { front = at.front; back = at.back; are = are (at.front ++ t ∷ at.back) (sym at.split); built = at.built }

  tree_refused : (by : Strategy) (kept : Bool) (f : RunFault) → RefusedBy by kept rules term fuel room old new f → IsRefused (Builds by kept) old new f
  tree_refused Innermost true fault.StoreFull w = (w.0.tree, among_points w.0 w.1, w.2)
  tree_refused Innermost true fault.Worn w = (w.0.tree, among_points w.0 w.1, w.2)
  tree_refused Innermost false fault.StoreFull w = (w.0.tree, at_point w.0 w.1, w.2)
  tree_refused Innermost false fault.Worn w = (w.0.tree, at_point w.0 w.1, w.2)
  tree_refused Outermost kept fault.StoreFull w = (w.0, before_tree kept _ w.0 w.1 (λ trees e. e), w.2)
  tree_refused Outermost kept fault.Worn w = (w.0, before_tree kept _ w.0 w.1 (λ trees e. e), w.2)

  -- a point of innermost rewriting, where rows were wanted
  pub record WantsRows (p : Point) : Type 0 where
    pub front : List Point
    pub back : List Point
    pub split : points ≡ front ++ p ∷ back
    pub full : IsFullWithout new p.tree
    pub hand : HandIsOf old new p

  pub wants_rows : (kept : Bool) → RefusedBy Innermost kept rules term fuel room old new fault.StoreFull → (p : Point) × WantsRows p
  wants_rows true w = (w.0, record { front = w.1.front; back = w.1.back; split = w.1.split; full = w.2; hand = w.3 })
  wants_rows false w = (w.0, record { front = w.1.front; back = w.1.back; split = w.1.split; full = w.2; hand = w.3 })

module _ (s : Settings) (rules : List Rule) (drawn : List Tree) (old new : Store) (f : RunFault) (last : RefusedLast s rules drawn old new f) where
  -- at the last of the terms that a worker drew
  pub last_refused : IsRefused (IsBuiltBy (strategy_of s.command) (remembers_results s rules) rules last.term s.fuel s.depth) last.begun new f
  last_refused = tree_refused rules last.term s.fuel s.depth last.begun new (strategy_of s.command) (remembers_results s rules) f last.refused

  module _ (t : Tree) (at : StopsAt (IsBuiltBy (strategy_of s.command) (remembers_results s rules) rules last.term s.fuel s.depth) last.begun new t) where
    abbrev pub first : List Tree
    first = last.built.trees ++ at.front

    -- what all of them build goes on with the refused tree
    pub drawn_builds : AreBuilt s rules drawn old.built (first ++ t ∷ at.back)
    drawn_builds =
        let rest : List Tree = t ∷ at.back in
        let one : AreBuilt s rules (last.term ∷ []) last.begun.built (at.front ++ rest) = one_built rules s.fuel s.depth (strategy_of s.command) (remembers_results s rules) last.term last.begun.built (at.front ++ rest) at.are in
        let all = built_over s rules last.before (last.term ∷ []) old.built last.begun.built last.built.trees (at.front ++ rest) last.built.built last.built.are one in
        subst (AreBuilt s rules drawn old.built) (sym (append_assoc last.built.trees at.front rest)) (subst (λ ts. AreBuilt s rules ts old.built (last.built.trees ++ (at.front ++ rest))) (sym last.drawn_is) all)

    pub was_built : new.built ≡ old.built ++ first
    was_built = at.built ∙ (ap (λ ts. ts ++ at.front) last.built.built ∙ append_assoc old.built last.built.trees at.front)
