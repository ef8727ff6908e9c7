-- What is forgotten at an entry, or by a collection, is seen as rows lost.
use Rattle.std.proofs.Common.{◌≡◌, ◌⊎◌, ◌&&◌, inl, inr, ℕ, zero, suc, ◌<◌, Bool, true, false, Some, List, [], ◌∷◌, ◌++◌, map, sym, ap, ap₂, ◌∙◌, subst, ⊎_elim, arith}
use Rattle.std.specs.Prelude.{Contains}
use Rattle.term_model.specs.declared.Row.{Row}
use Rattle.term_model.specs.Tree.{Tree}
use Rattle.history_core.specs.declared.entry.Entry.{Entry}
use Rattle.history_core.specs.declared.entry.Entry.TheVariants.{Collect}
use Rattle.history_core.specs.Entry.{IsAscending}
use Rattle.terms_api.specs.Terms.{HasTree, reachable, GainsNone, Loses}
use Rattle.terms_api.proofs.Staying.{reached_from}
use Rattle.store_model.specs.declared.view.View.{View}
use Rattle.store_model.specs.declared.view.KnownWord.{KnownWord}
use Rattle.store_model.specs.Machine.{Each, protected_in}
use Rattle.node_rows.specs.Knowing.{KnowsTree}
use Rattle.store_model.specs.Told.{Told, told, nothing, after}
use Rattle.shared_desk.specs.Held.{names, held_in, tree_in, Has, IsWhole, Forgets}
use Rattle.node_rows.specs.Crowding.{ends_in_collect}
use Rattle.node_rows.specs.CrowdsKept.{ends_snoc}
use Rattle.shared_desk.specs.Pass.{PassView, WhichStore, WhichPass, own, Arrived, Swept}
use Rattle.shared_desk.specs.Seen.{telling, noting, seen, is_swept}
use Rattle.shared_desk.proofs.Trees.{tree_within, names_within, tree_names, subtree_known}
use Rattle.shared_desk.proofs.Wholes.{told_more, whole_forgets}
use Rattle.shared_desk.proofs.Views.{has_tree, tree_has, has_known, rows_trees}

-- one of the trees of some rows is that of one of them
pub one_of : (tree : ℕ → Tree) (P : ℕ → Type 0) (rs : List ℕ) (u : Tree) → Each P rs → Contains (map tree rs) u → (r : ℕ) × P r × (tree r ≡ u)
one_of tree P [] u each (k, lt, e) = absurd (omega arith)
one_of tree P (r ∷ rs) u each (zero, lt, e) = (r, each.0, e)
one_of tree P (r ∷ rs) u each (suc k, lt, e) = one_of tree P rs u each.1 (k, omega arith, e)

pub each_both : (P Q : ℕ → Type 0) (rs : List ℕ) → Each P rs → Each Q rs → Each (λ r. P r × Q r) rs
each_both P Q [] i j = tt
each_both P Q (r ∷ rs) i j = ((i.0, j.0), each_both P Q rs i.1 j.1)

-- the pass has forgotten rows, and its entries tell the same trees
pub record Comes (v w : View) : Type 0 where
  pub forgets : Forgets v w
  pub tree : (r : ℕ) → tree_in w r ≡ tree_in v r
  pub roots : protected_in w ≡ protected_in v
  pub base : ((w.base ≡ v.base) × (w.knows ≡ v.knows)) ⊎ (v.base < w.base)

module _ (st : WhichStore) (seat : WhichPass) (a b c d : Bool) (old new : List Tree) (v w : View) (h : IsWhole st.sizes v) (m : Comes v w) where
  pub whole_comes : IsWhole st.sizes w
  whole_comes = whole_forgets st.sizes v w h m.forgets m.tree m.roots

  abbrev before : PassView
  before = seen st seat a b old v

  abbrev now : PassView
  now = seen st seat c d new w

  pub gains_none : GainsNone (own before) (own now)
  gains_none q t e =
      let x = tree_has st seat c d new w whole_comes q t e in
      let has = names_within w.knows v.knows m.forgets.knows q.0 x.0 in
      has_tree st seat a b old v h q has ∙ ap Some (sym (m.tree q.0) ∙ x.1)

  -- a row that the pass knows still has its tree
  still : (q : Row) (t : Tree) → Has w q.0 → HasTree (own before) q t → HasTree (own now) q t
  still q t has e =
      let x = tree_has st seat a b old v h q t e in
      has_tree st seat c d new w whole_comes q has ∙ ap Some (m.tree q.0 ∙ x.1)

  reached : (q : Row) (t : Tree) → HasTree (own before) q t → Contains (reachable (own before)) t → HasTree (own now) q t
  reached q t e reach =
      let from = reached_from (own before) t reach in
      let u = from.0 in
      let there : Contains (map (tree_in v) (protected_in v)) u = subst (λ (ts : List Tree). Contains ts u) (rows_trees st seat a b old v h (protected_in v) h.protects) from.1 in
      let kept = m.forgets.protects h.protects in
      let p = one_of (tree_in v) (λ r. Has v r × Has w r) (protected_in v) u (each_both (Has v) (Has w) (protected_in v) h.protects kept) there in
      let known : KnowsTree w.knows p.0 u = m.forgets.trees p.0 u p.1.1 (subst (KnowsTree v.knows p.0) p.2 (h.rows p.0 p.1.0).known) in
      let x = subtree_known w.knows u t p.0 known from.2 in
      let same : x.0 ≡ q.0 = h.one_row x.0 q.0 t (tree_within w.knows v.knows m.forgets.knows t x.0 x.1) (has_known st seat a b old v h q t e) in
      still q t (subst (Has w) same (tree_names w.knows x.0 t x.1)) e

  pub loses : Loses (own before) (own now)
  loses =
      record {
        reachable = reached;
        epoch = ⊎_elim
            (λ (e : (w.base ≡ v.base) × (w.knows ≡ v.knows)). inl (ap Some e.0, λ q t k. still q t (subst (λ (ks : List KnownWord). names q.0 ks ≡ true) (sym e.1) (tree_has st seat a b old v h q t k).0) k))
            (λ lt. inr lt) m.base;
      }

-- an entry was granted
pub arrived_seen : (st : WhichStore) (seat : WhichPass) (a b c d : Bool) (crowd : List Tree) (v w : View) → IsWhole st.sizes v → Comes v w → w.entries ≡ v.entries
    → Arrived (seen st seat a b crowd v) (seen st seat c d crowd w)
arrived_seen st seat a b c d crowd v w h m e =
    record {
      rest = ap (λ (x : PassView). noting x w) (ap₂ (λ (rs : List ℕ) (t : Told). telling st seat c d (is_swept w) w.base (held_in w) rs t crowd) m.roots (ap told e))
          ∙ ap (λ (es : List Entry). record (telling st seat c d (is_swept w) w.base (held_in w) (protected_in v) (told v.entries) crowd) { entries = es; greatest = w.seen }) e;
      none = gains_none st seat a b c d crowd crowd v w h m;
      rows = loses st seat a b c d crowd crowd v w h m;
    }

-- a collection was noted
pub swept_seen : (st : WhichStore) (seat : WhichPass) (a b : Bool) (old new : List Tree) (v w : View) (number : ℕ) (kept : List ℕ) → IsWhole st.sizes v → Comes v w
    → w.entries ≡ v.entries ++ Collect number kept ∷ [] → w.fresh ≡ true → IsAscending kept → ((r : ℕ) → Contains kept r → r < st.sizes.rows) → Swept (seen st seat a b old v) (seen st seat a b new w)
swept_seen st seat a b old new v w number kept h m e fresh ascends below =
    let swept : is_swept w ≡ true = ap₂ (λ (f : Bool) (es : List Entry). f && ends_in_collect es) fresh e ∙ ends_snoc false v.entries (Collect number kept) in
    record {
      rest = ap (λ (x : PassView). noting x w) (ap₂ (λ (rs : List ℕ) (t : Told). telling st seat a b (is_swept w) w.base (held_in w) rs t new) m.roots (ap told e ∙ told_more nothing v.entries (Collect number kept))
          ∙ ap (λ (f : Bool). telling st seat a b f w.base (held_in w) (protected_in v) (after (told v.entries) (Collect number kept)) new) swept);
      notes = (number, kept, e, ascends, below);
      none = gains_none st seat a b a b old new v w h m;
      rows = loses st seat a b a b old new v w h m;
    }

-- a Collect tells no tree of a row
pub collect_tree : (es : List Entry) (number : ℕ) (kept : List ℕ) (r : ℕ) → (told (es ++ Collect number kept ∷ [])).tree r ≡ (told es).tree r
collect_tree es number kept r = ap (λ (t : Told). t.tree r) (told_more nothing es (Collect number kept))
