-- What the entries of a legal history name, and that what a pass knows of trees is in the set that
-- all entries leave.
use Rattle.std.proofs.Common.{ℕ, Bool, cond, Some, [], ◌∷◌, ◌++◌, refl, ap, ◌∙◌, eq-eqb}
use Rattle.term_model.specs.Tree.{Tree}
use Rattle.history_core.specs.declared.entry.Entry.{Entry}
use Rattle.history_core.specs.declared.entry.Entry.TheVariants.{Make, Find, Roots, Collect}
use Rattle.history_core.specs.TermSet.{Names, TermSet, Holds, tree_over}
use Rattle.history_core.specs.Entry.{IsStep, after}
use Rattle.history_core.specs.Chronicle.{History, Legal, left_by}
use Rattle.history_core.proofs.Kept.{collect_keeps_reached}
use Rattle.store_model.specs.declared.view.Sizes.{Sizes}
use Rattle.store_model.specs.Laws.{held_by}
use Rattle.store_model.specs.Machine as core
use Rattle.store_model.specs.Steps.{IsAtRest, is_collecting}
use Rattle.store_model.specs.Runs.{Inductive}
use Rattle.store_model.proofs.Histories.{live_held}
use Rattle.node_rows.specs.Entries.{NamesTrees}
use Rattle.node_rows.specs.Knowing.{KnowsTree}
use Rattle.node_rows.proofs.Knowing.{tree_is}
use Rattle.node_rows.proofs.Own.{quiet_in, rest_stays, knows}

step_names : (rows : ℕ) (s : TermSet) (caller : ℕ) (e : Entry) → IsStep rows s e → NamesTrees s caller e
step_names rows s caller (Make number head args row) step = ap (λ (b : Bool). cond b (Some (tree_over s.held head args)) (s.held row)) (eq-eqb row row refl)
step_names rows s caller (Find seen head args row) step = step.1
step_names rows s caller (Roots seen names) step = step
step_names rows s caller (Collect number kept) step = λ n c.
    let reached = (step.1 n).0 c in
    (reached.below, reached.tree, (collect_keeps_reached rows s caller number kept step n reached.below).1 (reached.tree, reached))

-- each entry of a legal history
pub entry_names : (rows : ℕ) (s : TermSet) (before rest : History) (x : ℕ × Entry) → Legal rows s (before ++ x ∷ rest) → NamesTrees (left_by s before) x.0 x.1
entry_names rows s [] rest x h = step_names rows s x.0 x.1 h.0
entry_names rows s (y ∷ ys) rest x h = entry_names rows (after s y.0 y.1) ys rest x h.1

-- a tree that a pass knows
pub known_held : (z : Sizes) (t : core.State) (i : ℕ) → Inductive z t → IsAtRest (t.view i) → (r : ℕ) (tree : Tree) → KnowsTree (t.view i).knows r tree → Holds (held_by z t.view) r tree
known_held z t i k rest r tree h =
    let m = k.core.meaning in
    let chains = (quiet_in z t i k (rest_stays z t i k rest) (ap is_collecting rest.call)).chains in
    let is = tree_is z t.words m chains (t.view i).knows (knows z t i k rest) tree r h in
    ap (λ (f : Names). f r) k.core.holds.history.pairs ∙ (live_held m r is.live ∙ ap Some is.tree_is)
