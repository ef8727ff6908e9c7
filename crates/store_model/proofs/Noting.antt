-- A creation that found its row, or made it, notes that.
use Rattle.std.proofs.Common.{◌≡◌, ◌≢◌, ℕ, ◌<◌, ◌≤◌, max, Bool, true, false, cond, None, Some, List, [], ◌∷◌, ◌++◌, sym, ap, ◌∙◌, subst, arith, eq-eqb, ne_eqb}
use Rattle.std.specs.Prelude.{Contains}
use mathlib.Core.Path.{fun_ext}
use mathlib.Core.Logic.{dite}
use native.Mathlib.Decide.{ℕ_discrete}
use Rattle.term_model.specs.Tree.{Tree, Node, may_stand_over}
use Rattle.history_core.specs.TermSet.{Names, IsHeld, MayCreate, tree_over, with_pair}
use Rattle.history_core.specs.declared.entry.Entry.{Entry}
use Rattle.history_core.specs.declared.entry.Entry.TheVariants.{Make, Find}
use Rattle.history_core.specs.Entry.{IsStep}
use Rattle.history_core.specs.Chronicle.{noted}
use Rattle.history_core.specs.Recording.{IsFaithful, IsIn, changed, present}
use Rattle.history_core.proofs.Recorded.{make_keeps, find_keeps}
use Rattle.store_model.specs.Words.{Base, Birth, put, row_at}
use Rattle.store_model.specs.Calls.{Content, Ready, View}
use Rattle.store_model.specs.Machine.{Sizes, State, Each}
use Rattle.store_model.specs.Meaning.{Meaning, Matches, grown}
use Rattle.store_model.specs.Seats.{IsSeen, MayWant}
use Rattle.store_model.specs.Invariant.{names_of, listed, store_of, HistoryFits, Holds}
use Rattle.store_model.proofs.Basics.{each_map}
use Rattle.store_model.proofs.Histories.{lists_noted, listed_length, seen_changed, live_held, dead_free, held_live, trees_named, each_contains, content_once}

pub each_held : (m : Meaning) (rs : List ℕ) → Each (λ r. m.live r ≡ true) rs → Each (IsHeld (names_of m)) rs
each_held m rs l = each_map (λ r. m.live r ≡ true) (IsHeld (names_of m)) rs (λ r k. (m.tree r, live_held m r k)) l

pub tree_is : (m : Meaning) (c : Content) → Each (λ r. m.live r ≡ true) c.arguments → tree_over (names_of m) c.head c.arguments ≡ grown m.tree c
tree_is m c l = ap (Node c.head) (trees_named m c.arguments l)

module _ (z : Sizes) (s : State) (m : Meaning) (h : Holds z s m) (i : ℕ) (there : i < z.seats) (stay : (s.view i).stay ≡ Ready) (c : Content) (wants : MayWant s.words m (s.view i).seen c) where
  pub wants_live : Each (λ r. m.live r ≡ true) c.arguments
  wants_live = each_map (IsSeen s.words m (s.view i).seen) (λ r. m.live r ≡ true) c.arguments (λ r k. k.live) wants.arguments

  pub may_create : MayCreate (names_of m) c.head c.arguments
  may_create = record { names = each_held m c.arguments wants_live; formed = ap (may_stand_over c.head) (trees_named m c.arguments wants_live) ∙ wants.formed }

  pub is_in : IsIn (store_of z s.words m s.view) i
  is_in = record { there = let e = listed_length z.seats (λ j. (s.view j).entries) in omega arith; base = (h.seats i).numbers.entered (λ e. let a = sym stay ∙ e in absurd (cc)) }

  pub births : (n : ℕ) → Contains c.arguments n → s.words (Birth n) ≤ (s.view i).seen
  births n k = (each_contains (IsSeen s.words m (s.view i).seen) c.arguments wants.arguments n k).birth

  -- the lists and the seen numbers, where seat i notes e and has then the view v
  pub as_noted : (m' : Meaning) (birth : ℕ → ℕ) (v : View) (e : Entry) → v.entries ≡ (s.view i).entries ++ e ∷ []
      → IsFaithful z.rows (record { names = names_of m'; birth = birth; base = s.words Base; lists = noted (listed z.seats (λ j. (s.view j).entries)) i e; seen = changed (λ j. (s.view j).seen) i v.seen })
      → IsFaithful z.rows (record { names = names_of m'; birth = birth; base = s.words Base; lists = listed z.seats (λ j. (put s.view i v j).entries); seen = λ j. (put s.view i v j).seen })
  as_noted m' birth v e more k =
      subst (λ ls. IsFaithful z.rows (record { names = names_of m'; birth = birth; base = s.words Base; lists = ls; seen = λ j. (put s.view i v j).seen })) (sym (lists_noted z.seats s.view i v e there more))
      (subst (λ (f : ℕ → ℕ). IsFaithful z.rows (record { names = names_of m'; birth = birth; base = s.words Base; lists = noted (listed z.seats (λ j. (s.view j).entries)) i e; seen = f })) (sym (seen_changed s.view i v)) k)

  pub found : (r : ℕ) (v : View) → m.live r ≡ true → Matches (row_at s.words r) c → v.seen ≡ max (s.view i).seen (s.words (Birth r))
      → v.entries ≡ (s.view i).entries ++ Find (max (s.view i).seen (s.words (Birth r))) c.head c.arguments r ∷ [] → HistoryFits z s.words m (put s.view i v)
  found r v live matches seen more =
      let n : ℕ = s.words (Birth r) in
      let e : Entry = Find (max (s.view i).seen n) c.head c.arguments r in
      let same : m.content r ≡ c = content_once (row_at s.words r) (m.content r) c (h.chains.over r live) wants.over (h.chains.words r live) matches in
      let tree : m.tree r ≡ tree_over (names_of m) c.head c.arguments = h.chains.trees r live ∙ (ap (grown m.tree) same ∙ sym (tree_is m c wants_live)) in
      as_noted m (λ q. s.words (Birth q)) v e more
      (subst (λ (k : ℕ). IsFaithful z.rows (record { names = names_of m; birth = λ q. s.words (Birth q); base = s.words Base; lists = noted (listed z.seats (λ j. (s.view j).entries)) i e; seen = changed (λ j. (s.view j).seen) i k })) (sym seen)
      (find_keeps z.rows (store_of z s.words m s.view) i c.head c.arguments r h.history is_in births (may_create, live_held m r live ∙ ap Some tree)))

  pub made_new : (r number : ℕ) (v : View) (n : Meaning) → m.live r ≡ false → r < z.rows → s.words (Birth r) ≡ number → (s.view i).seen < number → ((q : ℕ) → m.live q ≡ true → m.tree q ≡ grown m.tree c → ⊥)
      → n.live r ≡ true → n.tree r ≡ grown m.tree c → ((q : ℕ) → q ≢ r → n.live q ≡ m.live q) → ((q : ℕ) → q ≢ r → n.tree q ≡ m.tree q)
      → v.seen ≡ number → v.entries ≡ (s.view i).entries ++ Make number c.head c.arguments r ∷ [] → IsFaithful z.rows (record { names = names_of n; birth = λ q. s.words (Birth q); base = s.words Base; lists = listed z.seats (λ j. (put s.view i v j).entries); seen = λ j. (put s.view i v j).seen })
  made_new r number v n dead below birth above none live tree lives trees seen more =
      let e : Entry = Make number c.head c.arguments r in
      let t : Tree = tree_over (names_of m) c.head c.arguments in
      let is : t ≡ grown m.tree c = tree_is m c wants_live in
      let names : with_pair (names_of m) r t ≡ names_of n = fun_ext (λ q. dite (ℕ_discrete q r)
      (λ f. ap (λ (b : Bool). cond b (Some t) (names_of m q)) (eq-eqb q r f) ∙ (ap Some (is ∙ sym tree) ∙ (sym (live_held n r live) ∙ ap (names_of n) (sym f))))
      (λ ne. ap (λ (b : Bool). cond b (Some t) (names_of m q)) (ne_eqb q r ne) ∙ (ap (λ (b : Bool). cond b (Some (m.tree q)) None) (sym (lives q ne)) ∙ ap (λ (k : Tree). cond (n.live q) (Some k) None) (sym (trees q ne))))) in
      let same_births : changed (λ q. s.words (Birth q)) r number ≡ (λ q. s.words (Birth q)) = fun_ext (λ q. dite (ℕ_discrete q r)
      (λ f. ap (λ (b : Bool). cond b number (s.words (Birth q))) (eq-eqb q r f) ∙ (sym birth ∙ ap (λ (k : ℕ). s.words (Birth k)) (sym f)))
      (λ ne. ap (λ (b : Bool). cond b number (s.words (Birth q))) (ne_eqb q r ne))) in
      let step : IsStep z.rows (present (store_of z s.words m s.view)) e = (may_create, below, dead_free m r dead, λ q k. let l = held_live m q (t, k) in none q l (let p : Some (m.tree q) ≡ Some t = sym (live_held m q l) ∙ k in let g : m.tree q ≡ t = cc in g ∙ is)) in
      let k = make_keeps z.rows (store_of z s.words m s.view) i number c.head c.arguments r h.history is_in above births step in
      as_noted n (λ q. s.words (Birth q)) v e more
      (subst (λ (f : ℕ). IsFaithful z.rows (record { names = names_of n; birth = λ q. s.words (Birth q); base = s.words Base; lists = noted (listed z.seats (λ j. (s.view j).entries)) i e; seen = changed (λ j. (s.view j).seen) i f })) (sym seen)
      (subst (λ (f : ℕ → ℕ). IsFaithful z.rows (record { names = names_of n; birth = f; base = s.words Base; lists = noted (listed z.seats (λ j. (s.view j).entries)) i e; seen = changed (λ j. (s.view j).seen) i number })) same_births
      (subst (λ (f : Names). IsFaithful z.rows (record { names = f; birth = changed (λ q. s.words (Birth q)) r number; base = s.words Base; lists = noted (listed z.seats (λ j. (s.view j).entries)) i e; seen = changed (λ j. (s.view j).seen) i number })) names k)))
