-- What each strategy builds, in one word.
use Rattle.std.proofs.Common.{ℕ, List, [], Bool, true, false, refl, sym, ap, subst, ◌∙◌, Result, Ok, Err}
use Rattle.std.proofs.lemmas.List.{append-nil, map-append}
use Rattle.term_model.specs.Tree.{Tree}
use Rattle.terms_api.specs.Terms.{Store}
use Rattle.rewrite_model.specs.Rule.{Rule}
use Rattle.rewrite_model.specs.Evaluation.{Point}
use Rattle.rewrite_model.specs.Built.{trees_at}
use Rattle.rewrite_model.specs.Outermost.{outermost_built}
use Rattle.innermost.specs.Normalized.{Builds}
use Rattle.innermost.specs.BuiltTrees.{BuildsTrees}
use Rattle.innermost.specs.Traced.{BuildsFirst}
use Rattle.innermost.specs.Remembered.{BuildsSome}
use Rattle.innermost.specs.declared.normal.Normal.{Normal}
use Rattle.innermost.specs.declared.normal.RunFault.{RunFault}
use Rattle.term_lines.specs.declared.strategy.Strategy.{Strategy}
use Rattle.term_lines.specs.declared.strategy.Strategy.TheVariants.{Innermost, Outermost}
use Rattle.term_lines.specs.Strategies.{points_of, IsBuiltBy, BuildsBy}
use Rattle.term_lines.specs.Written.{BuildsWhole, BuildsFront}

pub innermost_builds : (rules : List Rule) (term : Tree) (fuel room : ℕ) (old new : Store) (r : Result Normal RunFault) → Builds (points_of rules term fuel room) old new r → BuildsBy Innermost false rules term fuel room old new r
innermost_builds rules term fuel room old new (Ok normal) b = record { trees = trees_at (points_of rules term fuel room); are = refl; built = b }
innermost_builds rules term fuel room old new (Err fault) b = b

pub outermost_builds : (rules : List Rule) (term : Tree) (fuel room : ℕ) (old new : Store) (r : Result Normal RunFault) → BuildsTrees (outermost_built rules term fuel room) old new r → BuildsBy Outermost false rules term fuel room old new r
outermost_builds rules term fuel room old new (Ok normal) b = record { trees = outermost_built rules term fuel room; are = refl; built = b }
outermost_builds rules term fuel room old new (Err fault) b = b

-- the points at which trees were built are the first of all
pub points_front : (rules : List Rule) (term : Tree) (fuel room : ℕ) (old new : Store) → BuildsFirst (points_of rules term fuel room) old new → BuildsFront Innermost true false rules term fuel room old new
points_front rules term fuel room old new b = record {
  front = trees_at b.front;
  rest = trees_at b.back;
  split = sym (ap trees_at b.split ∙ map-append (λ (p : Point). p.tree) b.front b.back);
  built = b.built;
  whole = λ e. cc;
}

-- all that a term builds is the first of it
pub whole_front : (strategy : Strategy) (told remembered : Bool) (rules : List Rule) (term : Tree) (fuel room : ℕ) (old new : Store) → BuildsWhole strategy remembered rules term fuel room old new →
    BuildsFront strategy told remembered rules term fuel room old new
whole_front strategy told remembered rules term fuel room old new h = record {
  front = h.trees;
  rest = [];
  split = subst (IsBuiltBy strategy remembered rules term fuel room old.built) (sym (append-nil h.trees)) h.are;
  built = h.built;
  whole = λ e. h;
}

-- with a memory of results
pub cached_whole : (rules : List Rule) (term : Tree) (fuel room : ℕ) (old new : Store) → BuildsSome rules (points_of rules term fuel room) old new → BuildsWhole Innermost true rules term fuel room old new
cached_whole rules term fuel room old new b = record { trees = b.trees; are = b.cached; built = b.built }
