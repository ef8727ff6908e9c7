-- What workers build has heads that a log may tell.
use Rattle.std.proofs.Common.{ℕ, zero, suc, ◌<◌, Bool, true, false, List, [], ◌∷◌, length, get_or, subst, arith}
use Rattle.std.specs.Prelude.{◌==◌, if◌then◌else◌, All, Contains}
use Rattle.std.specs.List.{AllByRecursion}
use Rattle.std.proofs.lemmas.List.Elements.{All-head, All-tail}
use Rattle.term_model.specs.Tree.{Tree}
use Rattle.rewrite_model.specs.Rule.{Rule}
use Rattle.log_laws.specs.Told.{AllHeads, WritesHeads, may_tell}
use Rattle.log_laws.proofs.Built.{told_both, innermost_told}
use Rattle.log_laws.proofs.BuiltOutermost.{outermost_told}
use Rattle.term_lines.specs.Strategies.{built_by, built_by_all}
use Rattle.term_lines.specs.declared.strategy.Strategy.{Strategy}
use Rattle.term_lines.specs.declared.strategy.Strategy.TheVariants.{Innermost, Outermost}
use Rattle.work_order.specs.Lined.{drawn_by}
use Rattle.rec_answers.proofs.ToldHeads.{told_symbol, tree_may_be_told}

abbrev pub Told : Tree → Type 0
Told t = AllHeads told_symbol t

pub drawn_told : (j : ℕ) (workers : List ℕ) (terms : List Tree) → AllByRecursion Told terms → AllByRecursion Told (drawn_by j workers terms)
drawn_told j [] terms h = tt
drawn_told j (w ∷ ws) [] h = tt
drawn_told j (w ∷ ws) (t ∷ ts) h = go (w == j) (drawn_told j ws ts h.1)
  where
    go : (b : Bool) → AllByRecursion Told (drawn_by j ws ts) → AllByRecursion Told (if b then t ∷ drawn_by j ws ts else drawn_by j ws ts)
    go true rest = (h.0, rest)
    go false rest = rest

module _ (rules : List Rule) (write : AllByRecursion (WritesHeads told_symbol) rules) (fuel room : ℕ) where
  one_built : (strategy : Strategy) (t : Tree) → Told t → AllByRecursion Told (built_by strategy rules t fuel room)
  one_built Innermost t h = innermost_told told_symbol rules t fuel room write h
  one_built Outermost t h = outermost_told told_symbol rules t fuel room write h

  pub all_built : (strategy : Strategy) (ts : List Tree) → AllByRecursion Told ts → AllByRecursion Told (built_by_all strategy rules ts fuel room)
  all_built strategy [] h = tt
  all_built strategy (t ∷ ts) h = told_both Told (built_by strategy rules t fuel room) (built_by_all strategy rules ts fuel room) (one_built strategy t h.0) (all_built strategy ts h.1)

-- some of the trees of a list
got : {A : Type 0} (P : A → Type 0) (xs : List A) (k : ℕ) (d : A) → AllByRecursion P xs → k < length xs → P (get_or xs k d)
got P [] k d h l = absurd (omega (arith, l))
got P (x ∷ xs) zero d h l = h.0
got P (x ∷ xs) (suc k) d h l = got P xs k d h.1 (omega (arith, l))

pub some_told : (all some : List Tree) → AllByRecursion Told all → All (Contains all) some → AllByRecursion (AllHeads may_tell) some
some_told all [] h c = tt
some_told all (t ∷ ts) h c =
    let at = All-head (Contains all) t ts c in
    (tree_may_be_told t (subst Told at.2 (got Told all at.0 t h at.1)), some_told all ts h (All-tail (Contains all) t ts c))
