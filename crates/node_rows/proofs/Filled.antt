-- Where the only pass finds no row free each row has a tree.
use Rattle.std.proofs.Common.{◌≡◌, true, Some, ℕ, ◌+◌, ◌%◌, ◌^◌, ◌<◌, ◌≤◌, List, [], ◌∷◌, get_or, refl, sym, ap, ◌∙◌, subst, arith}
use mathlib.Core.Option.{some}
use lib.ListN.{get_elem?}
use Rattle.atomic_table.specs.Table.{State, Me, Allows}
use Rattle.history_core.specs.declared.entry.Entry.{Entry}
use Rattle.history_core.specs.TermSet.{Names}
use Rattle.history_core.specs.Chronicle.{chronicle, set_of}
use Rattle.busy_forbidden.proofs.Goes.{same_place}
use Rattle.store_model.specs.declared.view.Sizes.{Sizes}
use Rattle.store_model.specs.declared.view.View.{View}
use Rattle.store_model.specs.declared.view.Place.{Place}
use Rattle.store_model.specs.declared.view.Place.TheVariants.{Base, FreeCount, Claim}
use Rattle.store_model.specs.declared.view.Content.{Content}
use Rattle.store_model.specs.declared.view.Call.{Call}
use Rattle.store_model.specs.declared.view.Call.TheVariants.{Idle, Comparing, Passing, Finding, Ended, Counting, Drawing, Placing, Filling, Numbering, Linking, Publishing, Loading, Storing}
use Rattle.store_model.specs.Machine as core
use Rattle.store_model.specs.Machine.{Go, action}
use Rattle.store_model.specs.Seats.{HasRead}
use Rattle.store_model.specs.Invariant.{listed, names_of}
use Rattle.store_model.specs.Runs.{Inductive}
use Rattle.store_model.specs.Shown.{shown}
use Rattle.store_model.proofs.Eight.{inductive}
use Rattle.store_model.proofs.Full.{sole_words, sole_now, sole_all}
use Rattle.store_model.proofs.Histories.{live_held}
use Rattle.node_rows.specs.declared.view.NodeView.{NodeView}
use Rattle.node_rows.specs.Shown.{state_of}
use Rattle.node_rows.specs.Joining.{with_views, ShowsJoined}
use Rattle.node_rows.specs.Gathering.{not_spent, known_at}
use Rattle.node_rows.specs.Locking.{store_here, below}
use Rattle.node_rows.specs.Knowing.{held_alone}
use Rattle.node_rows.specs.Steps.{Goes, Reads, IsDraw}
use Rattle.node_rows.specs.Full.{HoldsAll, FullAlone, FullAfter}
use Rattle.node_rows.proofs.Own.{Tells, shown_at}
use Rattle.node_rows.proofs.Plays.{loads, draws}
use Rattle.node_rows.proofs.Spare.{filled_here}

module _ (z : Sizes) (t : core.State) (i : ℕ) (k : Inductive z t) (there : i < z.seats) (one : z.seats ≡ 1) where
  -- the entries of the only seat leave the live rows
  alone_is : held_alone (t.view i).entries ≡ names_of k.core.meaning
  alone_is =
      let lists : listed z.seats (λ j. (t.view j).entries) ≡ (t.view i).entries ∷ [] = ap (λ (n : ℕ). listed n (λ j. (t.view j).entries)) one ∙ ap (λ (j : ℕ). (t.view j).entries ∷ []) (let e : 0 ≡ i = omega arith in e) in
      ap (λ (ls : List (List Entry)). (set_of (chronicle ls)).held) (sym lists) ∙ k.core.holds.history.pairs

  all_held : ((r : ℕ) → r < z.rows → k.core.meaning.live r ≡ true) → HoldsAll z.rows (t.view i).entries
  all_held live r l = (k.core.meaning.tree r, ap (λ (h : Names). h r) alone_is ∙ live_held k.core.meaning r (live r l))

  counting_full : (c : Content) (from claim n : ℕ) → (t.view i).call ≡ Counting c from claim → t.words FreeCount ≡ n → n ≤ claim → HoldsAll z.rows (t.view i).entries
  counting_full c from claim n e read past =
      let x : Call = Counting c from claim in
      let words : t.words ≡ k.core.kept = sole_words z t i k.core k.remembers one there x e tt refl in
      let now : claim ≡ k.core.kept Claim = (sole_now z t i k.core k.remembers one there x e tt refl).read in
      let count : k.core.kept FreeCount ≡ n = sym (ap (λ (w : Place → ℕ). w FreeCount) words) ∙ read in
      all_held (sole_all z t i k.core k.remembers one there x e tt refl (omega arith))

  drawing_full : (c : Content) (from count n : ℕ) → (t.view i).call ≡ Drawing c from count → t.words Claim ≡ n → count ≤ n → HoldsAll z.rows (t.view i).entries
  drawing_full c from count n e read past =
      let x : Call = Drawing c from count in
      let words : t.words ≡ k.core.kept = sole_words z t i k.core k.remembers one there x e tt refl in
      let claim : k.core.kept Claim ≡ n = sym (ap (λ (w : Place → ℕ). w Claim) words) ∙ read in
      let has : HasRead (k.core.kept Base) (k.core.kept FreeCount) (k.core.kept Claim) (t.view i).overdraw x = subst (HasRead (k.core.kept Base) (k.core.kept FreeCount) (k.core.kept Claim) (t.view i).overdraw) e (k.core.holds.seats i).numbers.read in
      let same : count ≡ k.core.kept FreeCount = has.0 in
      all_held (sole_all z t i k.core k.remembers one there x e tt refl (omega arith))

-- by the word that was read
full_at : (z : Sizes) (t : core.State) (i : ℕ) → Inductive z t → i < z.seats → (v : View) → t.view i ≡ v → (x : Call) → v.call ≡ x → (n : ℕ) → t.words (action v x).place ≡ n → FullAlone z v.entries x n
full_at z t i k there v here (Counting c from claim) e n read = λ one past.
    subst (λ (u : View). HoldsAll z.rows u.entries) here (counting_full z t i k there one c from claim n (ap (λ (u : View). u.call) here ∙ e) read past)
full_at z t i k there v here (Drawing c from count) e n read = λ one past.
    subst (λ (u : View). HoldsAll z.rows u.entries) here (drawing_full z t i k there one c from count n (ap (λ (u : View). u.call) here ∙ e) read past)
full_at z t i k there v here Idle e n read = tt
full_at z t i k there v here (Comparing c d from old at q) e n read = tt
full_at z t i k there v here (Passing c d from old at dif) e n read = tt
full_at z t i k there v here (Finding c d r) e n read = tt
full_at z t i k there v here (Ended c from) e n read = tt
full_at z t i k there v here (Placing c from a) e n read = tt
full_at z t i k there v here (Filling c from a r q) e n read = tt
full_at z t i k there v here (Numbering c from a r) e n read = tt
full_at z t i k there v here (Linking c from a r) e n read = tt
full_at z t i k there v here (Publishing c from a r) e n read = tt
full_at z t i k there v here (Loading ls) e n read = tt
full_at z t i k there v here (Storing ls ss) e n read = tt

-- what a step of a creation tells besides
full_here : (z : Sizes) (id : ℕ) (me : Me (Unit {0}) NodeView) (i k : ℕ) → me.0.lock.number ≡ Some i → Goes z me.0.store k → (s : State (Unit {0}) NodeView) → ShowsJoined z s → get_elem? s.views id ≡ some me.0
    → FullAlone me.0.sizes me.0.store.entries me.0.store.call (get_or s.words k 0)
full_here z id me i k is g s rule at =
    let t = with_views s rule.known in
    let seated : get_elem? t.views id ≡ some me.0 = known_at rule.known s.views rule.joins id me.0 at (not_spent me.0 i is) in
    let same : i ≡ id = same_place t id i me.0 rule.shows.lock seated is in
    let mine : get_elem? t.views i ≡ some me.0 = subst (λ (q : ℕ). get_elem? t.views q ≡ some me.0) (sym same) seated in
    let state = state_of z t.words t.views rule.shows.lock.state in
    let p : Place = (action me.0.store me.0.store.call).place in
    let read : shown z s.words p ≡ get_or s.words k 0 = shown_at z s.words p g.there ∙ ap (λ (q : ℕ). get_or s.words q 0) (sym g.word) in
    subst (λ (y : Sizes). FullAlone y me.0.store.entries me.0.store.call (get_or s.words k 0)) (sym (rule.shows.sized i me.0 mine))
    (full_at z state i (inductive z state rule.shows.holds) (below z t i me.0 rule.shows mine) me.0.store (store_here z t.views i me.0 mine) me.0.store.call refl (get_or s.words k 0) read)

-- what a step of a creation tells, and this, and what follows for the crowd
abbrev pub TellsFull : Me (Unit {0}) NodeView → ℕ → Me (Unit {0}) NodeView → Type 0
TellsFull me n me' =
    Tells Go me n me' × FullAlone me.0.sizes me.0.store.entries me.0.store.call n
    × ((i : ℕ) → me.0.lock.number ≡ Some i → FullAfter me.0.sizes i me.0 me.0.store.call n)

pub loads_full : (z : Sizes) (slots id : ℕ) (me : Me (Unit {0}) NodeView) (i k : ℕ) → me.0.lock.number ≡ Some i → Goes z me.0.store k → Reads me.0.store → Allows (ShowsJoined z) slots id me k (λ n. n) (TellsFull me)
loads_full z slots id me i k is g r s rule homes at small =
    let t = loads z slots id me i k is g r s rule homes at small in
    (t.0, t.1, t.2, t.3, (t.4, full_here z id me i k is g s rule at, filled_here z id me k g s rule at))

pub draws_full : (z : Sizes) (slots id : ℕ) (me : Me (Unit {0}) NodeView) (i k : ℕ) → me.0.lock.number ≡ Some i → Goes z me.0.store k → IsDraw me.0.store.call → Allows (ShowsJoined z) slots id me k (λ n. (n + 1) % 2 ^ 64) (TellsFull me)
draws_full z slots id me i k is g d s rule homes at small =
    let t = draws z slots id me i k is g d s rule homes at small in
    (t.0, t.1, t.2, t.3, (t.4, full_here z id me i k is g s rule at, filled_here z id me k g s rule at))
