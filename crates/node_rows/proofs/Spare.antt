-- After a collection in its exclusive access a pass that finds no row free has a store in which
-- each row has a tree, and lacks the tree that it asks for.
use Rattle.std.proofs.Common.{◌≡◌, ℕ, ◌<◌, ◌≤◌, get_or, true, false, None, Some, refl, sym, ap, ◌∙◌, subst, ⊎_elim, inl, inr, arith}
use mathlib.Core.Option.{some}
use lib.ListN.{get_elem?}
use Rattle.atomic_table.specs.Table.{State, Me}
use Rattle.term_model.specs.Tree.{Tree}
use Rattle.history_core.specs.TermSet.{Names, Holds, IsHeld, Lacks, tree_over}
use Rattle.store_model.specs.declared.view.Sizes.{Sizes}
use Rattle.store_model.specs.declared.view.View.{View}
use Rattle.store_model.specs.declared.view.Place.{Place}
use Rattle.store_model.specs.declared.view.Place.TheVariants.{Base, FreeCount, Claim, InUse, FreePlace}
use Rattle.store_model.specs.declared.view.Content.{Content}
use Rattle.store_model.specs.declared.view.Call.{Call}
use Rattle.store_model.specs.declared.view.Stay.TheVariants.{Away, Ready}
use Rattle.store_model.specs.declared.view.Call.TheVariants.{Idle, Comparing, Passing, Finding, Ended, Counting, Drawing, Placing, Filling, Numbering, Linking, Publishing, Loading, Storing}
use Rattle.store_model.specs.Calls.{bucket}
use Rattle.store_model.specs.Words.{row_at}
use Rattle.store_model.specs.Machine as core
use Rattle.store_model.specs.Machine.{IsCreation, action, with_call}
use Rattle.store_model.specs.Meaning.{Meaning}
use Rattle.store_model.specs.Seats.{index, wanted, SeatHolds, Walked, HasRead}
use Rattle.store_model.specs.Invariant.{Holds as FactsHold, RowsHold, names_of}
use Rattle.store_model.specs.Laws.{held_by}
use Rattle.store_model.specs.Runs.{Inductive}
use Rattle.store_model.specs.Steps.{IsFresh, head_read, is_collecting}
use Rattle.store_model.specs.Shown.{shown}
use Rattle.store_model.proofs.Basics.{each_map, where_at}
use Rattle.store_model.proofs.Eight.{inductive, in_places}
use Rattle.store_model.proofs.Histories.{live_held}
use Rattle.store_model.proofs.Wrapped.{quiet, quiet_fresh, creation_calm}
use Rattle.busy_forbidden.proofs.Goes.{same_place}
use Rattle.node_rows.specs.declared.view.NodeView.{NodeView}
use Rattle.node_rows.specs.Shown.{state_of}
use Rattle.node_rows.specs.Joining.{with_views, ShowsJoined}
use Rattle.node_rows.specs.Gathering.{not_spent, known_at}
use Rattle.node_rows.specs.Locking.{store_here}
use Rattle.node_rows.specs.Knowing.{KnowsTree}
use Rattle.node_rows.specs.Steps.{Goes}
use Rattle.node_rows.specs.Full.{FullAfter}
use Rattle.node_rows.proofs.Own.{shown_at}
use Rattle.node_rows.proofs.Knowing.{names_lack, tree_is}

-- where each place below the claim has a live row, and the claim is at least the free count, all
-- rows are live
all_live : (z : Sizes) (w : Place → ℕ) (m : Meaning) → RowsHold z w m → w FreeCount ≤ w Claim → ((k : ℕ) → k < w Claim → k < w FreeCount → m.live (w (FreePlace k)) ≡ true) → (r : ℕ) → r < z.rows → m.live r ≡ true
all_live z w m h past full r l = ⊎_elim
    (λ (t : (i : ℕ) × (i < w FreeCount) × (w (FreePlace i) ≡ r)). subst (λ (q : ℕ). m.live q ≡ true) t.2 (full t.0 (let a = t.1 in omega arith) t.1))
    (λ none. h.others r l none) (in_places (λ i. w (FreePlace i)) r (w FreeCount))

-- seat i has collected in its access, and creates: it has drawn nothing, and has read the chain
-- from this head to its end
module _ (z : Sizes) (t : core.State) (i : ℕ) (k : Inductive z t) (fresh : (t.view i).fresh ≡ true) (x : Call) (e : (t.view i).call ≡ x) (is : IsCreation x) where
  own : IsFresh t.lock k.core.kept k.core.meaning.live i (t.view i)
  own = k.core.fresh i fresh

  calm : is_collecting (t.view i).call ≡ false
  calm = ap is_collecting e ∙ creation_calm x is

  facts : FactsHold z t k.core.meaning
  facts = quiet z t k.core i (inl (inr own.alone)) calm

  now : IsFresh t.lock t.words k.core.meaning.live i (with_call (t.view i) x)
  now = subst (λ (y : Call). IsFresh t.lock t.words k.core.meaning.live i (with_call (t.view i) y)) e (quiet_fresh z t k.core i (inl (inr own.alone)) calm fresh)

  seat : SeatHolds t.words k.core.meaning i (with_call (t.view i) x)
  seat = subst (λ (y : Call). SeatHolds t.words k.core.meaning i (with_call (t.view i) y)) e (facts.seats i)

  names : held_by z t.view ≡ names_of k.core.meaning
  names = facts.history.pairs

  pub trees_held : (r : ℕ) (tree : Tree) → KnowsTree (t.view i).knows r tree → Holds (held_by z t.view) r tree
  trees_held r tree h =
      let protects = (facts.seats i).protects in
      let base = (facts.seats i).numbers.base (λ f. let no : Away ≡ Ready = sym f ∙ own.stays in grind arith) in
      let known = tree_is z t.words k.core.meaning facts.chains (t.view i).knows (protects.knows base) tree r h in
      ap (λ (h : Names). h r) names ∙ (live_held k.core.meaning r known.live ∙ ap Some known.tree_is)

  pub lacks_asked : (c : Content) (from : ℕ) → wanted x ≡ Some c → head_read x ≡ Some (c, from) → Walked (row_at t.words) (k.core.meaning.chain (bucket c (t.words InUse))) c from (t.view i).passed
      → Lacks (held_by z t.view) (tree_over (held_by z t.view) c.head c.arguments)
  lacks_asked c from wants head walk =
      let live = each_map _ _ c.arguments (λ r t. t.live) (where_at (wanted x) _ c wants seat.protects.wants).arguments in
      subst (λ (h : Names). Lacks h (tree_over h c.head c.arguments)) (sym names)
      (names_lack z t.words k.core.meaning facts.chains c live from (t.view i).passed walk (where_at (head_read x) _ (c, from) head now.head))

  pub all_held : index x ≡ None → t.words FreeCount ≤ t.words Claim → (r : ℕ) → r < z.rows → IsHeld (held_by z t.view) r
  all_held none past r l =
      let live = all_live z t.words k.core.meaning facts.rows past (λ j a b. ⊎_elim (λ f. f) (λ f. absurd (let g : None ≡ Some j = sym none ∙ f in cc)) (now.full j a b)) r l in
      (k.core.meaning.tree r, ap (λ (h : Names). h r) names ∙ live_held k.core.meaning r live)

-- by the word that was read
after_at : (z : Sizes) (s : State (Unit {0}) NodeView) (rule : ShowsJoined z s) (i : ℕ) (v : NodeView) → get_elem? rule.known i ≡ some v → (x : Call) → v.store.call ≡ x → (n : ℕ) → shown z s.words (action v.store x).place ≡ n → FullAfter z i v x n
after_at z s rule i v at (Counting c from claim) e n read = λ is_fresh past.
    let t = state_of z s.words rule.known rule.shows.lock.state in
    let k = inductive z t rule.shows.holds in
    let here : t.view i ≡ v.store = store_here z rule.known i v at in
    let f : (t.view i).fresh ≡ true = ap (λ (u : View). u.fresh) here ∙ is_fresh in
    let x : Call = Counting c from claim in
    let call : (t.view i).call ≡ x = ap (λ (u : View). u.call) here ∙ e in
    let claimed : claim ≡ t.words Claim = (now z t i k f x call tt).read in
    record {
      moment = record { table = s; rule = rule; own = at };
      all = all_held z t i k f x call tt refl (let l : t.words FreeCount ≤ t.words Claim = omega arith in l);
      absent = lacks_asked z t i k f x call tt c from refl refl (seat z t i k f x call tt).walks.walk;
      knows = λ r tree h. trees_held z t i k f x call tt r tree (subst (λ (u : View). KnowsTree u.knows r tree) (sym here) h);
    }
after_at z s rule i v at (Drawing c from count) e n read = λ is_fresh past.
    let t = state_of z s.words rule.known rule.shows.lock.state in
    let k = inductive z t rule.shows.holds in
    let here : t.view i ≡ v.store = store_here z rule.known i v at in
    let f : (t.view i).fresh ≡ true = ap (λ (u : View). u.fresh) here ∙ is_fresh in
    let x : Call = Drawing c from count in
    let call : (t.view i).call ≡ x = ap (λ (u : View). u.call) here ∙ e in
    let has : HasRead (t.words Base) (t.words FreeCount) (t.words Claim) (t.view i).overdraw x = (seat z t i k f x call tt).numbers.read in
    let counted : count ≡ t.words FreeCount = has.0 in
    record {
      moment = record { table = s; rule = rule; own = at };
      all = all_held z t i k f x call tt refl (let l : t.words FreeCount ≤ t.words Claim = omega arith in l);
      absent = lacks_asked z t i k f x call tt c from refl refl (seat z t i k f x call tt).walks.walk;
      knows = λ r tree h. trees_held z t i k f x call tt r tree (subst (λ (u : View). KnowsTree u.knows r tree) (sym here) h);
    }
after_at z s rule i v at Idle e n read = tt
after_at z s rule i v at (Comparing c d from old at_row q) e n read = tt
after_at z s rule i v at (Passing c d from old at_row dif) e n read = tt
after_at z s rule i v at (Finding c d r) e n read = tt
after_at z s rule i v at (Ended c from) e n read = tt
after_at z s rule i v at (Placing c from a) e n read = tt
after_at z s rule i v at (Filling c from a r q) e n read = tt
after_at z s rule i v at (Numbering c from a r) e n read = tt
after_at z s rule i v at (Linking c from a r) e n read = tt
after_at z s rule i v at (Publishing c from a r) e n read = tt
after_at z s rule i v at (Loading ls) e n read = tt
after_at z s rule i v at (Storing ls ss) e n read = tt

-- what a load and a draw of a creation tell besides
pub filled_here : (z : Sizes) (id : ℕ) (me : Me (Unit {0}) NodeView) (k : ℕ) → Goes z me.0.store k → (s : State (Unit {0}) NodeView) → ShowsJoined z s → get_elem? s.views id ≡ some me.0
    → (j : ℕ) → me.0.lock.number ≡ Some j → FullAfter me.0.sizes j me.0 me.0.store.call (get_or s.words k 0)
filled_here z id me k g s rule at j number =
    let t = with_views s rule.known in
    let seated : get_elem? t.views id ≡ some me.0 = known_at rule.known s.views rule.joins id me.0 at (not_spent me.0 j number) in
    let same : j ≡ id = same_place t id j me.0 rule.shows.lock seated number in
    let mine : get_elem? t.views j ≡ some me.0 = subst (λ (q : ℕ). get_elem? t.views q ≡ some me.0) (sym same) seated in
    let p : Place = (action me.0.store me.0.store.call).place in
    let read : shown z s.words p ≡ get_or s.words k 0 = shown_at z s.words p g.there ∙ ap (λ (q : ℕ). get_or s.words q 0) (sym g.word) in
    subst (λ (y : Sizes). FullAfter y j me.0 me.0.store.call (get_or s.words k 0)) (sym (rule.shows.sized j me.0 mine))
    (after_at z s rule j me.0 mine me.0.store.call refl (get_or s.words k 0) read)
