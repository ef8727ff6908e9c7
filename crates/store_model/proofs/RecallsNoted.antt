-- The entries that a seat notes may be noted: then all that is recalled stays so.
use Rattle.std.proofs.Common.{◌≡◌, ◌≢◌, ℕ, ◌+◌, ◌*◌, ◌<◌, ◌≤◌, max, true, false, Some, List, [], ◌∷◌, ◌++◌, refl, sym, ap, ◌∙◌, subst, arith, ⊎_elim}
use Rattle.std.specs.Prelude.{Contains}
use Rattle.term_model.specs.Tree.{Tree}
use Rattle.history_core.specs.declared.entry.Entry.{Entry}
use Rattle.history_core.specs.declared.entry.Entry.TheVariants.{Make, Find, Roots}
use Rattle.history_core.specs.Entry.{IsStep, is_collect, needed, place}
use Rattle.history_core.specs.TermSet as term_set
use Rattle.history_core.specs.TermSet.{Names, TermSet, Holds}
use Rattle.history_core.specs.Chronicle.{chronicle, noted, set_of, MayNote}
use Rattle.history_core.specs.Recording.{present}
use Rattle.history_core.proofs.Members.{contains_cases}
use Rattle.history_core.proofs.Places.{lower_goes_first, made_place, collect_place}
use Rattle.history_core.proofs.Sets.{pair_same}
use Rattle.store_model.specs.Words.{Birth, put, row_at}
use Rattle.store_model.specs.Calls.{Content, Away, Ready, View}
use Rattle.store_model.specs.Machine.{Sizes, State, Each, gained, left, protected_in}
use Rattle.store_model.specs.Meaning.{Meaning, Matches, grown}
use Rattle.store_model.specs.Seats.{IsSeen, MayWant}
use Rattle.store_model.specs.Invariant.{listed, names_of, store_of, Holds as StateHolds}
use Rattle.store_model.specs.Laws.{IsEntryOf, made, found}
use Rattle.store_model.specs.Told.{told}
use Rattle.store_model.specs.Recalls.{IsRecalled, held_in, SeatRecalls, Recalls}
use Rattle.store_model.proofs.Basics.{put_case, each_map}
use Rattle.store_model.proofs.Gains.{protected_seen}
use Rattle.store_model.proofs.Histories.{listed_length, lists_noted, live_held, dead_free, held_live, each_contains, content_once}
use Rattle.store_model.proofs.Noting.{each_held, tree_is, may_create, births, wants_live}
use Rattle.store_model.proofs.Telling.{noted_leaves, others_recall, gained_recalls, left_recalls}

-- a seat has noted one entry more
pub noted_seats : (z : Sizes) (view : ℕ → View) (i : ℕ) (v : View) (e : Entry) → i < z.seats → v.entries ≡ (view i).entries ++ e ∷ []
    → ((j : ℕ) → j ≢ i → SeatRecalls (listed z.seats (λ j. (view j).entries)) j (view j) → SeatRecalls (noted (listed z.seats (λ j. (view j).entries)) i e) j (view j))
    → SeatRecalls (noted (listed z.seats (λ j. (view j).entries)) i e) i v → Recalls z view → Recalls z (put view i v)
noted_seats z view i v e there more others own all j l =
    let with_it : List (List Entry) = noted (listed z.seats (λ j. (view j).entries)) i e in
    subst (λ (ls : List (List Entry)). SeatRecalls ls j (put view i v j)) (sym (lists_noted z.seats view i v e there more))
    (put_case (SeatRecalls with_it j) view i v j (λ same. subst (λ (k : ℕ). SeatRecalls with_it k v) (sym same) own) (λ ne. others j ne (all j l)))

module _ (z : Sizes) (s : State) (m : Meaning) (h : StateHolds z s m) (i : ℕ) (there : i < z.seats) where
  abbrev lists : List (List Entry)
  lists = listed z.seats (λ j. (s.view j).entries)

  abbrev v : View
  v = s.view i

  -- an entry above what the seat has seen, of names that it has seen, and which is a step of the
  -- present set
  may_note : v.stay ≢ Away → (e : Entry) → is_collect e ≡ false → 2 * v.seen + 1 ≤ place e → ((n : ℕ) → Contains (needed e) n → m.live n ≡ true)
      → ((n : ℕ) → Contains (needed e) n → 2 * s.words (Birth n) < place e) → IsStep z.rows (present (store_of z s.words m s.view)) e → MayNote z.rows lists i e
  may_note inside e kind above live born step = record {
    present = let a = listed_length z.seats (λ j. (s.view j).entries) in omega arith;
    kind = kind;
    own = λ d c. let a = h.history.own i d c in omega arith;
    collects = λ y n c. let low = h.history.collects y n c in let at = collect_place y.1 c in let base = (h.seats i).numbers.entered inside in lower_goes_first (i, e) y (omega arith);
    names = λ n y c k a. let low = h.history.births n y k a (m.tree n, live_held m n (live n c)) in let at = made_place y.1 n a in let b = born n c in lower_goes_first (i, e) y (omega arith);
    step = subst (λ (t : TermSet). IsStep z.rows t e) (sym (ap (λ (f : Names). record { held = f; roots = (set_of (chronicle lists)).roots }) h.history.pairs)) step;
  }

  -- a creation that ends with a row
  gains_row : (c : Content) (r number : ℕ) (e : Entry) → IsEntryOf c r e → MayNote z.rows lists i e → Holds (held_in (noted lists i e)) r (term_set.tree_over (held_in lists) c.head c.arguments)
      → Each (IsRecalled (held_in lists) (told v.entries).tree) c.arguments → Recalls z s.view → Recalls z (put s.view i (gained v c r number e))
  gains_row c r number e of may at args all =
      noted_seats z s.view i (gained v c r number e) e there refl (λ j. others_recall z.rows lists i e h.history.legal may j (s.view j))
      (gained_recalls z.rows lists i e h.history.legal may v c r number of at (all i there) args) all

  -- it found the row
  pub find_recalls : v.stay ≡ Ready → (c : Content) → MayWant s.words m v.seen c → (r : ℕ) → m.live r ≡ true → Matches (row_at s.words r) c → Each (IsRecalled (held_in lists) (told v.entries).tree) c.arguments → Recalls z s.view
      → Recalls z (put s.view i (gained v c r (s.words (Birth r)) (Find (max v.seen (s.words (Birth r))) c.head c.arguments r)))
  find_recalls stay c wants r live matches args all =
      let n : ℕ = s.words (Birth r) in
      let e : Entry = Find (max v.seen n) c.head c.arguments r in
      let arg_live = wants_live z s m h i there stay c wants in
      let same : m.content r ≡ c = content_once (row_at s.words r) (m.content r) c (h.chains.over r live) wants.over (h.chains.words r live) matches in
      let tree : m.tree r ≡ term_set.tree_over (names_of m) c.head c.arguments = h.chains.trees r live ∙ (ap (grown m.tree) same ∙ sym (tree_is m c arg_live)) in
      let at : Holds (names_of m) r (term_set.tree_over (names_of m) c.head c.arguments) = live_held m r live ∙ ap Some tree in
      let may : MayNote z.rows lists i e = may_note (λ f. let a : Away ≡ Ready = sym f ∙ stay in absurd (cc)) e refl (omega arith)
      (λ q k. ⊎_elim (λ f. subst (λ (p : ℕ). m.live p ≡ true) f live) (λ a. each_contains (λ p. m.live p ≡ true) c.arguments arg_live q a) (contains_cases r c.arguments q k))
      (λ q k. ⊎_elim (λ f. let d : s.words (Birth q) ≡ n = ap (λ (p : ℕ). s.words (Birth p)) (sym f) in omega arith)
      (λ a. let d = births z s m h i there stay c wants q a in omega arith) (contains_cases r c.arguments q k))
      (may_create z s m h i there stay c wants, at) in
      let now : Holds (held_in lists) r (term_set.tree_over (held_in lists) c.head c.arguments) = subst (λ (f : Names). Holds f r (term_set.tree_over f c.head c.arguments)) (sym h.history.pairs) at in
      gains_row c r n e (found (max v.seen n)) may (ap (λ (t : TermSet). t.held r) (noted_leaves z.rows lists i e h.history.legal may) ∙ now) args all

  -- it made the row
  pub make_recalls : v.stay ≡ Ready → (c : Content) → MayWant s.words m v.seen c → (r number : ℕ) → m.live r ≡ false → r < z.rows → v.seen < number → ((q : ℕ) → m.live q ≡ true → m.tree q ≡ grown m.tree c → ⊥)
      → Each (IsRecalled (held_in lists) (told v.entries).tree) c.arguments → Recalls z s.view → Recalls z (put s.view i (gained v c r number (Make number c.head c.arguments r)))
  make_recalls stay c wants r number dead below above none args all =
      let e : Entry = Make number c.head c.arguments r in
      let arg_live = wants_live z s m h i there stay c wants in
      let t : Tree = term_set.tree_over (names_of m) c.head c.arguments in
      let is : t ≡ grown m.tree c = tree_is m c arg_live in
      let step : IsStep z.rows (present (store_of z s.words m s.view)) e = (
        may_create z s m h i there stay c wants,
        below,
        dead_free m r dead,
        λ q k. let l = held_live m q (t, k) in
            none q l (let p : Some (m.tree q) ≡ Some t = sym (live_held m q l) ∙ k in let g : m.tree q ≡ t = cc in g ∙ is),
      ) in
      let may : MayNote z.rows lists i e = may_note (λ f. let a : Away ≡ Ready = sym f ∙ stay in absurd (cc)) e refl (omega arith)
      (λ q k. each_contains (λ p. m.live p ≡ true) c.arguments arg_live q k)
      (λ q k. let d = births z s m h i there stay c wants q k in omega arith) step in
      gains_row c r number e (made number) may
      (ap (λ (t : TermSet). t.held r) (noted_leaves z.rows lists i e h.history.legal may) ∙ pair_same (held_in lists) r (term_set.tree_over (held_in lists) c.head c.arguments)) args all

  -- it leaves
  pub leave_recalls : v.stay ≢ Away → Recalls z s.view → Recalls z (put s.view i (left v (protected_in v)))
  leave_recalls inside all =
      let rs : List ℕ = protected_in v in
      let e : Entry = Roots v.seen rs in
      let seen = protected_seen s.words m v.seen v (h.seats i).protects.keeps in
      let live : Each (λ r. m.live r ≡ true) rs = each_map (IsSeen s.words m v.seen) (λ r. m.live r ≡ true) rs (λ r k. k.live) seen in
      let may : MayNote z.rows lists i e = may_note inside e refl (omega arith)
      (λ q k. each_contains (λ p. m.live p ≡ true) rs live q k)
      (λ q k. let d = (each_contains (IsSeen s.words m v.seen) rs seen q k).birth in omega arith) (each_held m rs live) in
      noted_seats z s.view i (left v rs) e there refl (λ j. others_recall z.rows lists i e h.history.legal may j (s.view j))
      (left_recalls z.rows lists i v h.history.legal may (all i there)) all
