-- What a collection in an access of its own leaves.
use Rattle.std.proofs.Common.{◌≡◌, ℕ, List, [], length, Result, Ok, Err, sym, ap, ◌∙◌, subst}
use Rattle.std.specs.Prelude.{IfOk, IfErr}
use Rattle.term_model.specs.Tree.{Tree}
use Rattle.history_core.specs.declared.entry.Entry.TheVariants.{Roots}
use Rattle.store_model.specs.declared.view.Sizes.{Sizes}
use Rattle.store_model.specs.declared.view.View.{View}
use Rattle.store_model.specs.Machine.{left, protected_in}
use Rattle.node_rows.specs.declared.view.NodeView.{NodeView}
use Rattle.node_rows.specs.Collecting.{IsKept}
use Rattle.node_rows.specs.Crowding.{kept_in}
use Rattle.node_rows.specs.CrowdsKept.{kept_snoc}
use Rattle.node_rows.specs.Passes.{Came, Left}
use Rattle.row_sweep.specs.declared.sweep.Kept.{Kept}
use Rattle.row_sweep.specs.declared.sweep.Worn.{Worn}
use Rattle.row_sweep.specs.Gathered.{IsWorn}
use Rattle.row_sweep.specs.Collected.{Collects, HasKept}
use Rattle.sweep_phase.specs.Now.{Leaves, Enters}

pub leaves_by : (z : Sizes) (i j : ℕ) (v m w : NodeView) (r : Result Kept Worn) → j ≡ i → IfOk r (λ kept. Collects z i v.store m.store kept.live kept.buckets) → IfErr r (λ _. IsWorn z i v.store) → IfErr r (λ _. m ≡ v) → Left m w → Leaves z j v.store w.store r
leaves_by z i j v m w (Ok kept) same h k e l = record { after = m.store; collects = subst (λ (q : ℕ). Collects z q v.store m.store kept.live kept.buckets) (sym same) h; left = l }
leaves_by z i j v m w (Err worn) same h k e l = record { worn = subst (λ (q : ℕ). IsWorn z q v.store) (sym same) k; left = l ∙ ap (λ (u : NodeView). left u.store (protected_in u.store)) e }

pub enters_by : (v m : NodeView) (base in_use : ℕ) (P : View → Type 0) → Came v m base in_use → P m.store → Enters v.store P
enters_by v m base in_use P came h = record { base = base; in_use = in_use; later = came.later; after_it = subst P came.store h }

-- a leave keeps the crowd, and that it is of the names kept
kept_left : (v w : NodeView) (live : ℕ) → HasKept v live → Left v w → w.crowd ≡ v.crowd → HasKept w live
kept_left v w live h l crowd =
    let names : kept_in v.store.entries ≡ kept_in (left v.store (protected_in v.store)).entries = sym (kept_snoc [] v.store.entries (Roots v.store.seen (protected_in v.store))) in
    let after : IsKept (kept_in (left v.store (protected_in v.store)).entries) v.store.knows v.crowd = subst (λ (ns : List ℕ). IsKept ns v.store.knows v.crowd) names h.crowd in
    record {
      crowd = subst (λ (p : View × List Tree). IsKept (kept_in p.0.entries) p.0.knows p.1) (λ q. (sym l q, sym crowd q)) after;
      live_is = ap (λ (ts : List Tree). length ts) crowd ∙ h.live_is;
    }

pub crowd_left : (m w : NodeView) (r : Result Kept Worn) → IfOk r (λ kept. HasKept m kept.live) → Left m w → w.crowd ≡ m.crowd → IfOk r (λ kept. HasKept w kept.live)
crowd_left m w (Ok kept) h l crowd = kept_left m w kept.live h l crowd
crowd_left m w (Err worn) h l crowd = tt

pub crowd_worn : (v m w : NodeView) (r : Result Kept Worn) → IfErr r (λ _. m ≡ v) → w.crowd ≡ m.crowd → IfErr r (λ _. w.crowd ≡ v.crowd)
crowd_worn v m w (Ok kept) e crowd = tt
crowd_worn v m w (Err worn) e crowd = crowd ∙ ap (λ (u : NodeView). u.crowd) e
