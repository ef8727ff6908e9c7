-- Where a store is filled after a pass's collection, its crowd fills it.
use Rattle.std.proofs.Common.{◌≡◌, ℕ, List, [], ◌∷◌, unwrap_or, refl, ap, subst}
use Rattle.term_model.specs.Tree.{Tree, Node, Leaf, Trees, End, More}
use Rattle.history_core.specs.TermSet.{Names, Holds, Lacks, tree_at, trees_at, tree_over}
use Rattle.store_model.specs.declared.view.KnownWord.{KnownWord}
use Rattle.store_model.specs.declared.view.Sizes.{Sizes}
use Rattle.node_rows.specs.Crowding.{HasCrowd}
use Rattle.node_rows.specs.CrowdFull.{FilledIsCrowded}
use Rattle.node_rows.specs.Full.{held_then}
use Rattle.node_rows.specs.Joining.{with_views}
use Rattle.node_rows.specs.Knowing.{KnowsTree, KnowsTrees}
use Rattle.node_rows.proofs.Crowding.{full_is_crowded, absent_is_not_crowded}
use Rattle.node_rows.proofs.Own.{crowd_stands}

-- the trees that a pass knows of rows are theirs
trees_held : (h : Names) (ks : List KnownWord) → ((r : ℕ) (t : Tree) → KnowsTree ks r t → Holds h r t) → (rs : List ℕ) (ts : Trees) → KnowsTrees ks rs ts → trees_at h rs ≡ ts
trees_held h ks holds [] End knows = refl
trees_held h ks holds [] (More t ts) knows = absurd knows
trees_held h ks holds (r ∷ rs) End knows = absurd knows
trees_held h ks holds (r ∷ rs) (More t ts) knows =
    let first : tree_at h r ≡ t = ap (λ o. unwrap_or o (Leaf 0)) (holds r t knows.0) in
    let rest : trees_at h rs ≡ ts = trees_held h ks holds rs ts knows.1 in
    subst (λ (p : Tree × Trees). More (tree_at h r) (trees_at h rs) ≡ More p.0 p.1) (λ q. (first q, rest q)) refl

pub filled_is_crowded : (z : Sizes) → FilledIsCrowded z
filled_is_crowded z i v c f swept =
    let m = f.moment in
    let h : HasCrowd z i v = crowd_stands z (with_views m.table m.rule.known) i v m.rule.shows m.own m.rule.crowds in
    record {
      full = full_is_crowded z i v h swept f.all;
      absent = λ ts knows has.
          let same : tree_over (held_then z i v m) c.head c.arguments ≡ Node c.head ts = ap (Node c.head) (trees_held (held_then z i v m) v.store.knows f.knows c.arguments ts knows) in
          absent_is_not_crowded z i v h swept (Node c.head ts) (subst (Lacks (held_then z i v m)) same f.absent) has;
    }
