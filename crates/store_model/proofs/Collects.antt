-- The last store of a collection keeps what holds of the store.
use Rattle.std.proofs.Common.{◌≡◌, ◌≢◌, ◌⊎◌, ℕ, zero, suc, ◌+◌, ◌<◌, ◌≤◌, Bool, true, false, None, Some, List, [], ◌∷◌, ◌++◌, get_or, refl, sym, ap, ap₂, ◌∙◌, subst, ⊎_elim, inl, inr, arith, true≢false}
use Rattle.std.specs.Prelude.{Contains}
use Rattle.std.proofs.lemmas.List.Elements.{Contains-append_cases, Contains-append_left, Contains-append_right}
use mathlib.Core.Path.{fun_ext}
use Rattle.term_model.specs.Tree.{Tree, Trees, Leaf, Node, End, More, list_of, subtrees, subtrees_all}
use Rattle.term_model.specs.Laws.{IsSubtree}
use Rattle.term_model.proofs.Subtrees.{subtrees_nest, arguments_are_subtrees}
use Rattle.std.proofs.lemmas.List.{get_or_past}
use Rattle.std.proofs.lemmas.Bool.{cases_lt}
use Rattle.history_core.proofs.Sound.{one_of, of_one}
use Rattle.lock_core.specs.Exclusion.{IsExclusive}
use Rattle.history_core.specs.TermSet.{Names, IsReached, with_only, is_one_of}
use Rattle.history_core.specs.declared.entry.Entry.{Entry}
use Rattle.history_core.specs.declared.entry.Entry.TheVariants.{Collect}
use Rattle.history_core.specs.Entry.{IsStep}
use Rattle.history_core.specs.Chronicle.{chronicle, set_of, noted, entries_of, NeverFalls, last_roots}
use Rattle.history_core.specs.TermSet.{empty}
use Rattle.history_core.proofs.Own.{own_order_stays, roots_are_last}
use Rattle.history_core.proofs.Places.{rising_never_falls}
use Rattle.history_core.proofs.Members.{contains_here, contains_there, contains_none, contains_cases}
use Rattle.history_core.specs.Recording.{IsFaithful, changed, present}
use Rattle.history_core.proofs.Recorded.{collect_keeps}
use Rattle.store_model.specs.Words.{Place, Base, Claim, InUse, RowWord, Birth, RootCount, Root, put, row_at}
use Rattle.store_model.specs.Calls.{Content, words_of, Call, Idle, Away, Ready, View}
use Rattle.store_model.specs.Staying.{is_among, led_to}
use Rattle.store_model.specs.Machine.{Sizes, State, Each, In, Granted, with_call, roots_of, protected_in, rows_kept, words_kept}
use Rattle.store_model.specs.Meaning.{Meaning, IsOlder, grown, trees_at}
use Rattle.store_model.specs.Seats.{IsSeen, IsKnown, SeatHolds}
use Rattle.store_model.specs.Invariant.{names_of, listed, store_of, HistoryFits, NumbersHold, Holds}
use Rattle.store_model.specs.Collection.{Reaches, protected, argument, IsCollected, RootsMatch, AreKept, collected}
use Rattle.store_model.proofs.Locks.{is_in, alone_in}
use Rattle.store_model.proofs.Basics.{choose, put_case, each_in, each_map, each_both}
use Rattle.store_model.proofs.Histories.{lists_noted, listed_length, listed_at, seen_changed, live_held, dead_free, held_live}
use Rattle.store_model.proofs.Gains.{born_below, rises_more, keys_more, two_words, enough_words, argument_at, led_seen, led_known, protected_seen}
use Rattle.store_model.proofs.Own.{each_roots}
use Rattle.store_model.proofs.Staying.{each_among, led_has, of_rows, in_rows, goes_on}
use Rattle.store_model.proofs.Views.{still_apart}

-- a live row of a tree
pub record HasTree (z : Sizes) (w : Place → ℕ) (m : Meaning) (t : Tree) : Type 0 where
  pub row : ℕ
  pub live : m.live row ≡ true
  pub reached : Reaches w m row
  pub tree : m.tree row ≡ t

pub record IsReachedRow (z : Sizes) (w : Place → ℕ) (m : Meaning) (r : ℕ) : Type 0 where
  pub live : m.live r ≡ true
  pub reached : Reaches w m r

-- an argument of a row
pub each_of : (P : ℕ → Type 0) (rs : List ℕ) → ((a : ℕ) → In a rs → P a) → Each P rs
each_of P [] f = tt
each_of P (r ∷ rs) f = (f r (inl refl), each_of P rs (λ a k. f a (inr k)))

not_true : (b : Bool) → (b ≡ true → ⊥) → b ≡ false
not_true true f = absurd (f refl)
not_true false f = refl

tree_in : (tree : ℕ → Tree) (a : ℕ) (rs : List ℕ) → In a rs → Contains (list_of (trees_at tree rs)) (tree a)
tree_in tree a [] i = absurd i
tree_in tree a (r ∷ rs) i = ⊎_elim
    (λ e. subst (λ (k : ℕ). Contains (tree k ∷ list_of (trees_at tree rs)) (tree a)) e (contains_here (tree a) (list_of (trees_at tree rs))))
    (λ k. contains_there (tree r) (list_of (trees_at tree rs)) (tree a) (tree_in tree a rs k)) i

module _ (z : Sizes) (s : State) (m : Meaning) (h : Holds z s m) where
  pub reached_live : (r : ℕ) → Reaches s.words m r → m.live r ≡ true
  reached_live r (protected j k l) = ((h.seats j).protects.roots k l).live
  reached_live a (argument r _ k i) = let l = reached_live r k in (each_in (IsOlder m.live (row_at s.words) (s.words (Birth r))) a (m.content r).arguments (h.chains.arguments r l) i).live

  arguments_reached : (r : ℕ) → Reaches s.words m r → Each (IsReachedRow z s.words m) (m.content r).arguments
  arguments_reached r k = each_of (IsReachedRow z s.words m) (m.content r).arguments (λ a i. let y : Reaches s.words m a = argument r a k i in record { live = reached_live a y; reached = y })

  -- each subtree of a reached row's tree is a reached row's
  mutual
    sub_tree : (t : Tree) (r : ℕ) → Reaches s.words m r → m.tree r ≡ t → (x : Tree) → Contains (subtrees t) x → HasTree z s.words m x
    sub_tree (Leaf n) r k e x c = absurd (let f : Leaf n ≡ Node (m.content r).head (trees_at m.tree (m.content r).arguments) = sym e ∙ h.chains.trees r (reached_live r k) in cc)
    sub_tree (Node f ts) r k e x c =
        let same : Node f ts ≡ Node (m.content r).head (trees_at m.tree (m.content r).arguments) = sym e ∙ h.chains.trees r (reached_live r k) in
        let below : ts ≡ trees_at m.tree (m.content r).arguments = cc in
        ⊎_elim (λ p. record { row = r; live = reached_live r k; reached = k; tree = e ∙ p })
        (λ c. sub_trees ts (m.content r).arguments (arguments_reached r k) (sym below) x c) (contains_cases (Node f ts) (subtrees_all ts) x c)

    sub_trees : (ts : Trees) (rs : List ℕ) → Each (IsReachedRow z s.words m) rs → trees_at m.tree rs ≡ ts → (x : Tree) → Contains (subtrees_all ts) x → HasTree z s.words m x
    sub_trees End rs k e x c = absurd (contains_none x c)
    sub_trees (More t ts) [] k e x c = absurd (cc)
    sub_trees (More t ts) (r ∷ rs) k e x c =
        let p : m.tree r ≡ t = cc in
        let q : trees_at m.tree rs ≡ ts = cc in
        ⊎_elim (λ c. sub_tree t r k.0.reached p x c) (λ c. sub_trees ts rs k.1 q x c) (Contains-append_cases (subtrees t) (subtrees_all ts) x c)

  -- the roots in the set of the history are the protected rows, of a seat that is away or has just
  -- come
  roots_known : (j : ℕ) → (j < z.seats → last_roots [] (s.view j).entries ≡ roots_of s.words j (s.words (RootCount j))) → (set_of (chronicle (listed z.seats (λ i. (s.view i).entries)))).roots j ≡ roots_of s.words j (s.words (RootCount j))
  roots_known j same =
      let lists = listed z.seats (λ i. (s.view i).entries) in
      roots_are_last empty (chronicle lists) j ∙ ⊎_elim
      (λ l. let e : entries_of lists j ≡ (s.view j).entries = listed_at z.seats (λ i. (s.view i).entries) j [] l in
      ap (last_roots []) (own_order_stays lists j (subst NeverFalls (sym e) (rising_never_falls (s.view j).entries (h.seats j).notes.rises)) ∙ e) ∙ same l)
      (λ l. let e : entries_of lists j ≡ [] = get_or_past lists j [] (let a = listed_length z.seats (λ i. (s.view i).entries) in omega arith) in
      ap (last_roots []) (own_order_stays lists j (subst NeverFalls (sym e) tt) ∙ e) ∙ ap (roots_of s.words j) (sym (h.numbers.absent j l))) (cases_lt j z.seats)

  root_in : (j n r : ℕ) → Contains (roots_of s.words j n) r → (k : ℕ) × (k < n) × (s.words (Root j k) ≡ r)
  root_in j zero r c = absurd (contains_none r c)
  root_in j (suc n) r c = ⊎_elim (λ c. let k = root_in j n r c in (k.0, omega arith, k.2))
      (λ c. ⊎_elim (λ e. (n, omega arith, e)) (λ c. absurd (contains_none r c)) (contains_cases (s.words (Root j n)) [] r c)) (Contains-append_cases (roots_of s.words j n) (s.words (Root j n) ∷ []) r c)

  in_roots : (j n k : ℕ) → k < n → Contains (roots_of s.words j n) (s.words (Root j k))
  in_roots j zero k l = absurd (omega arith)
  in_roots j (suc n) k l = ⊎_elim
      (λ less. Contains-append_left (roots_of s.words j n) (s.words (Root j n) ∷ []) (s.words (Root j k)) (in_roots j n k less))
      (λ past. let e : k ≡ n = omega arith in subst (λ (q : ℕ). Contains (roots_of s.words j n ++ s.words (Root j n) ∷ []) (s.words (Root j q))) (sym e)
      (Contains-append_right (roots_of s.words j n) (s.words (Root j n) ∷ []) (s.words (Root j n)) (contains_here (s.words (Root j n)) []))) (cases_lt k n)

  pub roots_match : ((j : ℕ) → j < z.seats → last_roots [] (s.view j).entries ≡ roots_of s.words j (s.words (RootCount j))) → RootsMatch z s.words s.view
  roots_match same j r = let e = roots_known j (same j) in (
    λ c. root_in j (s.words (RootCount j)) r (subst (λ (rs : List ℕ). Contains rs r) e c),
    λ k. subst (λ (rs : List ℕ). Contains rs r) (sym e) (subst (λ (q : ℕ). Contains (roots_of s.words j (s.words (RootCount j))) q) k.2 (in_roots j (s.words (RootCount j)) k.0 k.1)),
  )

  itself : (t : Tree) → IsSubtree t t
  itself (Leaf n) = contains_here (Leaf n) []
  itself (Node f ts) = contains_here (Node f ts) (subtrees_all ts)

  module _ (match : RootsMatch z s.words s.view) where
    -- what is reached by arguments from a protected row is reached in the set of the history
    reached_in_set : (r : ℕ) → Reaches s.words m r → IsReached (present (store_of z s.words m s.view)) r
    reached_in_set r (protected j k l) = let t : Tree = m.tree (s.words (Root j k)) in let held = live_held m (s.words (Root j k)) (reached_live (s.words (Root j k)) (protected j k l)) in record {
      caller = j;
      root = s.words (Root j k);
      below = t;
      above = t;
      rooted = (match j (s.words (Root j k))).1 (k, l, refl);
      root_tree = held;
      tree = held;
      inside = itself t;
    }
    reached_in_set a (argument r _ k i) =
        let up = reached_in_set r k in
        let l = reached_live r k in
        let same : Some up.below ≡ Some (m.tree r) = sym up.tree ∙ live_held m r l in
        let below : up.below ≡ m.tree r = cc in
        let c : Content = m.content r in
        let under : IsSubtree (m.tree a) (m.tree r) = subst (IsSubtree (m.tree a)) (sym (h.chains.trees r l)) (arguments_are_subtrees (grown m.tree c) (m.tree a) (tree_in m.tree a c.arguments i)) in
        record {
          caller = up.caller;
          root = up.root;
          below = m.tree a;
          above = up.above;
          rooted = up.rooted;
          root_tree = up.root_tree;
          tree = live_held m a (reached_live a (argument r a k i));
          inside = subtrees_nest up.above (m.tree r) (m.tree a) (subst (λ (t : Tree). IsSubtree t up.above) below up.inside) under;
        }

    set_reached : (r : ℕ) → IsReached (present (store_of z s.words m s.view)) r → Reaches s.words m r
    set_reached r k =
        let at = (match k.caller k.root).0 k.rooted in
        let root : Reaches s.words m k.root = subst (Reaches s.words m) at.2 (protected k.caller at.0 at.1) in
        let above : Some (m.tree k.root) ≡ Some k.above = sym (live_held m k.root (reached_live k.root root)) ∙ k.root_tree in
        let tree : m.tree k.root ≡ k.above = cc in
        let found : HasTree z s.words m k.below = sub_tree k.above k.root root tree k.below k.inside in
        let live : m.live r ≡ true = held_live m r (k.below, k.tree) in
        let below : Some (m.tree r) ≡ Some k.below = sym (live_held m r live) ∙ k.tree in
        let same : m.tree r ≡ k.below = cc in
        subst (Reaches s.words m) (h.chains.differ found.row r found.live live (found.tree ∙ sym same)) found.reached

  -- what the exclusive seat knows of the others
  module _ (i : ℕ) (alone : IsExclusive s.lock i) where
    others_away : (j : ℕ) → j ≢ i → (s.view j).stay ≢ Away → ⊥
    others_away j ne inside = alone_in s.lock h.lock.sound i j alone ne (is_in s.lock j (s.view j).stay (h.lock.access j) inside)

    idle_or : (x : Call) → (x ≡ Idle) ⊎ (x ≢ Idle)
    idle_or Idle = inl refl
    idle_or x = inr (λ e. absurd (cc))

    others_idle : (j : ℕ) → j ≢ i → (s.view j).call ≡ Idle
    others_idle j ne = ⊎_elim (λ e. e) (λ busy. absurd (others_away j ne (λ away. let r = (h.seats j).numbers.calls busy in let e : Away ≡ Ready = sym away ∙ r in absurd (cc)))) (idle_or (s.view j).call)

    module _ (u : Place → ℕ) (n : Meaning) (k : IsCollected z s.words u m n) (own : (j : ℕ) → protected_in (s.view j) ≡ roots_of s.words j (s.words (RootCount j))) where
      live_was : (r : ℕ) → n.live r ≡ true → m.live r ≡ true
      live_was r l = reached_live r ((k.live r).0 l)

      born_before : (r : ℕ) → n.live r ≡ true → u (Birth r) < u Base
      born_before r l = let a = born_below z s.words m s.view h.rows h.numbers r (live_was r l) in let b = k.births r in let c = k.base in omega arith

      numbers_after : (view : ℕ → View) → NumbersHold z u n view
      numbers_after view = record {
        born = λ r l. inl (born_before r l);
        differ = λ r q a b e. h.numbers.differ r q (live_was r a) (live_was q b) (sym (k.births r) ∙ (e ∙ k.births q));
        drawn = let c = k.claim in omega arith;
        room = k.room;
        absent = λ j l. k.root_counts j ∙ h.numbers.absent j l;
      }

      root_seen : (j q : ℕ) → q < u (RootCount j) → (seen : ℕ) → (s.view j).seen ≤ seen → IsSeen u n seen (u (Root j q))
      root_seen j q l seen more =
          let below : q < s.words (RootCount j) = (let a = k.root_counts j in omega arith) in
          let old = (h.seats j).protects.roots q below in
          let here : IsSeen u n seen (s.words (Root j q)) = record { live = (k.live (s.words (Root j q))).1 (protected j q below); birth = let a = k.births (s.words (Root j q)) in let b = old.birth in omega arith } in
          subst (IsSeen u n seen) (sym (k.roots j q)) here

      argument_reached : (r q : ℕ) → m.live r ≡ true → Reaches s.words m r → q < s.words (RowWord r 1) → Reaches s.words m (s.words (RowWord r (suc (suc q))))
      argument_reached r q live up l =
          let c : Content = m.content r in
          let over = h.chains.over r live in
          let count : s.words (RowWord r 1) ≡ get_or (words_of c) 1 0 = h.chains.words r live 1 (two_words c.head c.arguments) in
          let below : q < get_or (words_of c) 1 0 = omega arith in
          let is : s.words (RowWord r (suc (suc q))) ≡ get_or (words_of c) (suc (suc q)) 0 = h.chains.words r live (suc (suc q)) (enough_words c.head c.arguments q over below) in
          subst (Reaches s.words m) (sym is) (argument r (get_or (words_of c) (suc (suc q)) 0) up (argument_at c.head c.arguments q over below))

      -- what a seat keeps is reached, so it stays
      kept_reached : (j : ℕ) → Each (Reaches s.words m) (rows_kept (s.view j))
      kept_reached j = let v = s.view j in
          led_has (Reaches s.words m) v.knows (protected_in v)
          (goes_on s.words m v.knows (rows_kept v) (Reaches s.words m) argument_reached (in_rows (IsKnown s.words m) (rows_kept v) v.knows (h.seats j).protects.keeps_words))
          (subst (Each (Reaches s.words m)) (sym (own j)) (each_roots (Reaches s.words m) s.words j (s.words (RootCount j)) (λ q l. protected j q l)))

      kept_seen : (j seen : ℕ) → (s.view j).seen ≤ seen → Each (IsSeen u n seen) (rows_kept (s.view j))
      kept_seen j seen more = each_both (Reaches s.words m) (IsSeen s.words m (s.view j).seen) (IsSeen u n seen) (rows_kept (s.view j))
          (λ r y t. record { live = (k.live r).1 y; birth = let a = k.births r in let b = t.birth in omega arith }) (kept_reached j) (h.seats j).protects.keeps

      kept_known : (j : ℕ) → Each (IsKnown u n) (words_kept (s.view j))
      kept_known j = let v = s.view j in let all : List ℕ = rows_kept v in
          of_rows (IsKnown u n) all v.knows (each_map (λ q. is_among all q.row ≡ true → IsKnown s.words m q) (λ q. is_among all q.row ≡ true → IsKnown u n q) v.knows
          (λ q f one. record { live = (k.live q.row).1 (each_among (Reaches s.words m) q.row all (kept_reached j) one); value_is = k.row_words q.row q.word ∙ (f one).value_is })
          (in_rows (IsKnown s.words m) all v.knows (h.seats j).protects.keeps_words))

      roots_after : (j q : ℕ) → roots_of u j q ≡ roots_of s.words j q
      roots_after j zero = refl
      roots_after j (suc q) = ap₂ (λ (xs : List ℕ) (r : ℕ). xs ++ r ∷ []) (roots_after j q) (k.roots j q)

      other_seat : (j : ℕ) → j ≢ i → SeatHolds u n j (with_call (s.view j) Idle)
      other_seat j ne = let old = h.seats j in let own = old.numbers.own in let base = k.base in record {
        walks = record { walk = tt; look = tt };
        drawn = record { index = tt; row = tt };
        numbers = record {
          base = λ inside. absurd (others_away j ne inside);
          in_use = λ f. absurd (others_away j ne (λ g. let e : Away ≡ Ready = sym g ∙ f in absurd (cc)));
          calls = λ busy. absurd (busy refl);
          seen = let a = old.numbers.seen in omega arith;
          entered = λ inside. absurd (others_away j ne inside);
          overdraw = λ e. let a = old.numbers.over (u Base) e in absurd (omega arith);
          own = omega arith;
          over = λ b e. let a = old.numbers.over b e in omega arith;
          read = tt;
        };
        protects = record { roots = λ q l. root_seen j q l (s.view j).seen (omega arith); wants = tt; got = λ e. absurd (omega arith); knows = λ e. absurd (omega arith); keeps = kept_seen j (s.view j).seen (omega arith); keeps_words = kept_known j };
        notes = record { rises = old.notes.rises; keys = old.notes.keys; away = λ e. old.notes.away e ∙ (ap (roots_of s.words j) (sym (k.root_counts j)) ∙ sym (roots_after j (u (RootCount j)))) };
      }

      module _ (match : RootsMatch z s.words s.view) (kept : List ℕ) (are : AreKept n kept) (there : i < z.seats) where
        abbrev pub after : View
        after = collected (s.view i) (u Base) (s.words Base + s.words Claim) (u InUse) kept

        own_seat : SeatHolds u n i (collected (s.view i) (u Base) (s.words Base + s.words Claim) (u InUse) kept)
        own_seat = let old = h.seats i in let base = k.base in let claim = k.claim in let seen = old.numbers.seen in record {
          walks = record { walk = tt; look = tt };
          drawn = record { index = tt; row = tt };
          numbers = record {
            base = λ _. refl;
            in_use = λ _. refl;
            calls = λ busy. absurd (busy refl);
            seen = omega arith;
            entered = λ _. omega arith;
            overdraw = λ e. let a = old.numbers.over (u Base) e in absurd (omega arith);
            own = omega arith;
            over = λ b e. let a = old.numbers.over b e in omega arith;
            read = tt;
          };
          protects = let number : ℕ = s.words Base + s.words Claim in let v = s.view i in let rows = kept_seen i number (omega arith) in record {
            roots = λ q l. root_seen i q l number (omega arith);
            wants = tt;
            got = λ _. rows;
            knows = λ _. kept_known i;
            keeps = led_seen z u n number (words_kept v) (protected_in v) k.chains (kept_known i) (protected_seen u n number v rows);
            keeps_words = led_known u n (words_kept v) (led_to (words_kept v) (protected_in v)) (kept_known i);
          };
          notes = record {
            rises = rises_more (s.view i).entries (Collect (s.words Base + s.words Claim) kept) (s.view i).seen old.notes.rises old.notes.keys (omega arith);
            keys = keys_more (s.view i).entries (Collect (s.words Base + s.words Claim) kept) (s.view i).seen (s.words Base + s.words Claim) old.notes.keys (omega arith) (omega arith);
            away = λ e. absurd (cc);
          };
        }

        names_after : with_only (names_of m) kept ≡ names_of n
        names_after = fun_ext (λ r. choose (λ o. o ≡ names_of n r) (is_one_of kept r) (names_of m r) None
            (λ e. let l : n.live r ≡ true = (are.each r).0 (of_one kept r e) in live_held m r (live_was r l) ∙ (ap (λ (f : ℕ → Tree). Some (f r)) (sym k.tree) ∙ sym (live_held n r l)))
            (λ e. sym (dead_free n r (not_true (n.live r) (λ l. true≢false (sym (one_of kept r ((are.each r).1 l)) ∙ e))))))

        history_after : HistoryFits z u n (put s.view i after)
        history_after =
            let number : ℕ = s.words Base + s.words Claim in
            let e : Entry = Collect number kept in
            let step : IsStep z.rows (present (store_of z s.words m s.view)) e = (
              are.ascending,
              λ r. (
                λ c. reached_in_set match r ((k.live r).0 ((are.each r).0 c)),
                λ c. (are.each r).1 ((k.live r).1 (set_reached match r c)),
              ),
            ) in
            let old = collect_keeps z.rows (store_of z s.words m s.view) i number kept h.history (let a = listed_length z.seats (λ j. (s.view j).entries) in omega arith) (omega arith) (λ j. (h.seats j).numbers.seen) step in
            let births : (λ r. s.words (Birth r)) ≡ (λ r. u (Birth r)) = fun_ext (λ r. sym (k.births r)) in
            let lists = lists_noted z.seats s.view i after e there refl in
            let seen = seen_changed s.view i after in
            subst (λ ls. IsFaithful z.rows (record { names = names_of n; birth = λ r. u (Birth r); base = u Base; lists = ls; seen = λ j. (put s.view i after j).seen })) (sym lists)
            (subst (λ (f : ℕ → ℕ). IsFaithful z.rows (record { names = names_of n; birth = λ r. u (Birth r); base = u Base; lists = noted (listed z.seats (λ j. (s.view j).entries)) i e; seen = f })) (sym seen)
            (subst (λ (b : ℕ). IsFaithful z.rows (record { names = names_of n; birth = λ r. u (Birth r); base = b; lists = noted (listed z.seats (λ j. (s.view j).entries)) i e; seen = changed (λ j. (s.view j).seen) i number })) (sym k.base)
            (subst (λ (f : ℕ → ℕ). IsFaithful z.rows (record { names = names_of n; birth = f; base = number + 1; lists = noted (listed z.seats (λ j. (s.view j).entries)) i e; seen = changed (λ j. (s.view j).seen) i number })) births
            (subst (λ (f : Names). IsFaithful z.rows (record { names = f; birth = λ r. s.words (Birth r); base = number + 1; lists = noted (listed z.seats (λ j. (s.view j).entries)) i e; seen = changed (λ j. (s.view j).seen) i number })) names_after old))))

        pub collection_ends : Holds z (record { lock = s.lock; words = u; view = put s.view i after }) n
        collection_ends = record {
          lock = record { sound = h.lock.sound; seats = h.lock.seats; access = λ j. put_case (λ (p : View). Granted s.lock j p.stay) s.view i after j (λ e. inr (subst (IsExclusive s.lock) (sym e) alone)) (λ _. h.lock.access j) };
          rows = k.rows;
          chains = k.chains;
          numbers = numbers_after (put s.view i after);
          apart = still_apart z s m h i after (λ a is. absurd (cc));
          history = history_after;
          seats = λ j. put_case (SeatHolds u n j) s.view i after j (λ e. subst (λ (q : ℕ). SeatHolds u n q after) (sym e) own_seat)
              (λ ne. subst (λ (x : Call). SeatHolds u n j (with_call (s.view j) x)) (sym (others_idle j ne)) (other_seat j ne));
        }
