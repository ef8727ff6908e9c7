-- What the plain program's calls for outermost evaluation come to.
use Rattle.std.specs.Prelude.{◌≡◌, ℕ, ◌≤◌, List, Option, Some, None, Result, Ok, Err}
use Rattle.term_model.specs.Tree.{Tree, Node, Trees, count_of}
use Rattle.term_model.specs.declared.Head.{Head}
use Rattle.rewrite_model.specs.Rule.{Rule}
use Rattle.rewrite_model.specs.Run.{Done, done, noting}
use Rattle.rewrite_model.specs.Outermost.{Building, build, build_all, Stepped, Same, Changed, step_at_root, rebuild, step, step_all, steps, outermost}
use Rattle.plain_rewriting.specs.Boxed.{tree_of, trees_in, trees}
use Rattle.plain_rewriting.specs.Program.{Agrees, ComesTo, Built}
use Rattle.plain_rewriting.specs.declared.boxed.Term.{Term}
use Rattle.plain_rewriting.specs.declared.boxed.Arguments.{Arguments}
use Rattle.plain_rewriting.specs.declared.ends.NoValue.{NoValue}

abbrev pub same_tree : Tree → Tree
same_tree t = t

-- what a step left: nothing where it left the term the same
abbrev pub stepped_of : Option Term → Stepped Tree
stepped_of None = Same
stepped_of (Some t) = Changed (tree_of t)

abbrev pub stepped_in : Option Arguments → Stepped Trees
stepped_in None = Same
stepped_in (Some ts) = Changed (trees_in ts)

abbrev pub Comes : {T A : Type 0} → (T → A) → Built → Built → ℕ → Result (T × ℕ) NoValue
    → Building A → Type 0
Comes view old new fuel result run =
    ComesTo same_tree view (trees old.items) (trees new.items) fuel result run

abbrev pub Builds : List Term → Term → ℕ → ℕ → Built → Built → Result (Term × ℕ) NoValue → Type 0
Builds bound p fuel room old new result =
    Comes tree_of old new fuel result (build (trees bound) (tree_of p) fuel room)

abbrev pub BuildsAll : List Term → Arguments → ℕ → ℕ → Built → Built
    → Result (Arguments × ℕ) NoValue → Type 0
BuildsAll bound ps fuel room old new result =
    Comes trees_in old new fuel result (build_all (trees bound) (trees_in ps) fuel room)

abbrev pub BuildsNode : Head → Arguments → ℕ → Built → Built → Result (Term × ℕ) NoValue → Type 0
BuildsNode h ts fuel old new result = Comes tree_of old new fuel result
    (noting (Node h (trees_in ts)) (done (Node h (trees_in ts)) fuel))

-- by the first rule that matches, whatever is done where none does
abbrev pub UsesFirst : List Rule → Term → ℕ → ℕ → Built → Built
    → Result (Option (Term × ℕ)) NoValue → Type 0
UsesFirst rs t fuel room old new (Ok None) =
    ((otherwise : Building (Stepped Tree)) → step_at_root rs (tree_of t) fuel room otherwise
    ≡ otherwise) × (trees new.items ≡ trees old.items)
UsesFirst rs t fuel room old new (Ok (Some r)) = (otherwise : Building (Stepped Tree))
    → Agrees same_tree (trees old.items) (trees new.items) (Done (Changed (tree_of r.0)) r.1)
    (step_at_root rs (tree_of t) fuel room otherwise) × (r.1 ≤ fuel)
UsesFirst rs t fuel room old new (Err e) = (otherwise : Building (Stepped Tree))
    → Comes {T = Term} (λ u. Changed (tree_of u)) old new fuel (Err e)
    (step_at_root rs (tree_of t) fuel room otherwise)

abbrev pub StepsOnce : List Rule → Term → ℕ → ℕ → Built → Built
    → Result (Option Term × ℕ) NoValue → Type 0
StepsOnce rules t fuel room old new result =
    Comes stepped_of old new fuel result (step rules (tree_of t) fuel room)

abbrev pub StepsIn : List Rule → Arguments → ℕ → ℕ → Built → Built
    → Result (Option Arguments × ℕ) NoValue → Type 0
StepsIn rules ts fuel room old new result =
    Comes stepped_in old new fuel result (step_all rules (trees_in ts) fuel room)

abbrev pub Rebuilds : Head → Arguments → Option Arguments → ℕ → ℕ → Built → Built
    → Result (Option Term × ℕ) NoValue → Type 0
Rebuilds h ts stepped fuel room old new result = Comes stepped_of old new fuel result
    (rebuild (count_of (trees_in ts)) (λ us. Node h us) (stepped_in stepped) fuel room)

abbrev pub StepsOn : List Rule → Term → ℕ → ℕ → Built → Built → Result (Term × ℕ) NoValue → Type 0
StepsOn rules t fuel room old new result =
    Comes tree_of old new fuel result (steps rules fuel (tree_of t) room)

abbrev pub Rewrites : List Rule → Term → ℕ → ℕ → Built → Built → Result (Term × ℕ) NoValue → Type 0
Rewrites rules t fuel room old new result =
    Comes tree_of old new fuel result (outermost rules (tree_of t) fuel room)
