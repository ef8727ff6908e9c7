-- A seat enters, begins a creation, and gains a row.
use Rattle.std.proofs.Common.{◌≡◌, ◌⊎◌, ℕ, zero, suc, pred, ◌+◌, ◌*◌, ◌<◌, ◌≤◌, eqb, max, cond, true, None, List, [], ◌∷◌, ◌++◌, length, get_or, refl, sym, ap, ◌∙◌, subst, ⊎_elim, inl, inr, arith, append-nil, true≢false}
use Rattle.std.proofs.lemmas.Bool.{cases_lt}
use Rattle.history_core.specs.declared.entry.Entry.{Entry}
use Rattle.history_core.specs.declared.entry.Entry.TheVariants.{Make, Find, Roots, Collect}
use Rattle.history_core.specs.Entry.{key, place, is_numbered}
use Rattle.history_core.specs.Chronicle.{KeysRise, roots_after, last_roots}
use Rattle.term_model.specs.declared.Head.{Head}
use Rattle.term_model.specs.declared.Head.TheVariants.{App, Int, Nil, Cons}
use Rattle.term_model.specs.Tree.{Tree, Node, may_stand_over, may_be_list}
use Rattle.store_model.specs.Words.{Place, Base, FreeCount, Claim, InUse, FreePlace, Bucket, RowWord, Birth, RootCount, Root, row_at}
use Rattle.store_model.specs.Calls.{Content, words_of, IsOver, bucket, Call, Idle, Based, Ready, KnownWord, View}
use Rattle.store_model.specs.Staying.{is_among, led_to, words_of_rows}
use Rattle.hash_buckets.specs.Spelled.{spelled}
use Rattle.store_model.specs.Machine.{Sizes, Each, In, with_call, with_path, gained, based, ready, left, arrived, SecondIsList, MayName, has_got, has_protected, has_argument, MayBegin, roots_of, words_known, protected_in, rows_kept, words_kept}
use Rattle.store_model.specs.Meaning.{Meaning, IsOlder, Linked, trees_at, Matches}
use Rattle.store_model.specs.Seats.{IsSeen, SeatHolds, IsKnown}
use Rattle.store_model.specs.Invariant.{RowsHold, ChainsHold, NumbersHold}
use Rattle.store_model.proofs.Basics.{choose, each_map, each_in, each_join, eqb_is}
use Rattle.store_model.proofs.Staying.{each_often, led_has, of_rows, goes_on}
use Rattle.store_model.proofs.Chains.{comes_first, has_words}
use Rattle.store_model.proofs.Loads.{recounted, stage_arrived}
use Rattle.store_model.proofs.Views.{IsStage}

pub seen_more : (w : Place → ℕ) (m : Meaning) (a b : ℕ) → a ≤ b → (r : ℕ) → IsSeen w m a r → IsSeen w m b r
seen_more w m a b l r h = record { live = h.live; birth = let k = h.birth in omega arith }

-- a live row's number is below those that are still to be drawn
pub born_below : (z : Sizes) (w : Place → ℕ) (m : Meaning) (view : ℕ → View) → RowsHold z w m → NumbersHold z w m view → (r : ℕ) → m.live r ≡ true → w (Birth r) < w Base + w Claim
born_below z w m view rows numbers r live = ⊎_elim
    (λ a. omega arith)
    (λ (a : (i : ℕ) × (i < w FreeCount) × (w (FreePlace i) ≡ r) × (w (Birth r) ≡ w Base + i)).
    ⊎_elim (λ l. let e = a.3 in omega arith) (λ l. absurd (true≢false (sym live ∙ (ap m.live (sym a.2) ∙ rows.free a.0 l a.1)))) (cases_lt a.0 (w Claim)))
    (numbers.born r live)

below_pred : (b c : ℕ) → 0 < b + c → pred b < b + c
below_pred zero c l = l
below_pred (suc b) c l = omega arith

pred_below : (b : ℕ) → b ≤ pred b + 1
pred_below zero = omega arith
pred_below (suc b) = omega arith

-- the row of a list has a list as its tree
list_head : (f : Head) (rs : List ℕ) (t : Tree) (n : ℕ) → (n ≡ 4294967297) ⊎ (n ≡ 4294967298) → n ≡ get_or (spelled f rs) 0 0 → IsOver f rs → (tree : ℕ → Tree) → t ≡ Node f (trees_at tree rs) → may_be_list t ≡ true
list_head (App f) rs t n l e o tree is = absurd (⊎_elim (λ k. let a : f.0 < 4294967296 = o in omega arith) (λ k. let a : f.0 < 4294967296 = o in omega arith) l)
list_head (Int v) rs t n l e o tree is = absurd (⊎_elim (λ k. omega arith) (λ k. omega arith) l)
list_head Nil rs t n l e o tree is = ap may_be_list is
list_head Cons rs t n l e o tree is = ap may_be_list is

-- arguments that a head may stand over
pub formed : (z : Sizes) (w : Place → ℕ) (m : Meaning) → ChainsHold z w m → (f : Head) (rs : List ℕ) → IsOver f rs → SecondIsList w f rs → Each (λ r. m.live r ≡ true) rs → may_stand_over f (trees_at m.tree rs) ≡ true
formed z w m h (App f) rs o second live = refl
formed z w m h (Int v) rs o second live = ap (λ (qs : List ℕ). may_stand_over (Int v) (trees_at m.tree qs)) o
formed z w m h Nil rs o second live = ap (λ (qs : List ℕ). may_stand_over Nil (trees_at m.tree qs)) o
formed z w m h Cons [] o second live = absurd (omega arith)
formed z w m h Cons (a ∷ []) o second live = absurd (omega arith)
formed z w m h Cons (a ∷ b ∷ []) o second live = let l = live.1.0 in list_head (m.content b).head (m.content b).arguments (m.tree b) (w (RowWord b 0)) second (h.words b l 0 (has_words (m.content b))) (h.over b l) m.tree (h.trees b l)
formed z w m h Cons (a ∷ b ∷ c ∷ rs) o second live = absurd (omega arith)

pub in_at : (rs : List ℕ) (k : ℕ) → k < length rs → In (get_or rs k 0) rs
in_at [] k l = absurd (omega arith)
in_at (r ∷ rs) zero l = inl refl
in_at (r ∷ rs) (suc k) l = inr (in_at rs k (omega arith))

pub argument_at : (f : Head) (rs : List ℕ) (k : ℕ) → IsOver f rs → k < get_or (spelled f rs) 1 0 → In (get_or (spelled f rs) (suc (suc k)) 0) rs
argument_at (App f) rs k o l = in_at rs k l
argument_at (Int v) rs k o l = absurd (omega arith)
argument_at Nil rs k o l = absurd (omega arith)
argument_at Cons rs k o l = in_at rs k (let n : length rs ≡ 2 = o in omega arith)

pub two_words : (f : Head) (rs : List ℕ) → 1 < length (spelled f rs)
two_words (App f) rs = omega arith
two_words (Int v) rs = omega arith
two_words Nil rs = omega arith
two_words Cons rs = omega arith

pub enough_words : (f : Head) (rs : List ℕ) (k : ℕ) → IsOver f rs → k < get_or (spelled f rs) 1 0 → suc (suc k) < length (spelled f rs)
enough_words (App f) rs k o l = let n : k < length rs = l in omega arith
enough_words (Int v) rs k o l = absurd (omega arith)
enough_words Nil rs k o l = absurd (omega arith)
enough_words Cons rs k o l = let n : length rs ≡ 2 = o in omega arith

-- an argument of a row that was seen, was seen
pub argument_seen : (z : Sizes) (w : Place → ℕ) (m : Meaning) (seen : ℕ) → ChainsHold z w m → (r k : ℕ) → IsSeen w m seen r → k < w (RowWord r 1) → IsSeen w m seen (w (RowWord r (suc (suc k))))
argument_seen z w m seen h r k above l =
    let c : Content = m.content r in
    let over = h.over r above.live in
    let count : w (RowWord r 1) ≡ get_or (words_of c) 1 0 = h.words r above.live 1 (two_words c.head c.arguments) in
    let below : k < get_or (words_of c) 1 0 = omega arith in
    let is : w (RowWord r (suc (suc k))) ≡ get_or (words_of c) (suc (suc k)) 0 = h.words r above.live (suc (suc k)) (enough_words c.head c.arguments k over below) in
    let old = each_in (IsOlder m.live (row_at w) (w (Birth r))) (get_or (words_of c) (suc (suc k)) 0) c.arguments (h.arguments r above.live) (argument_at c.head c.arguments k over below) in
    subst (IsSeen w m seen) (sym is) record { live = old.live; birth = let e = old.older in let f = above.birth in omega arith }

-- what a seat may name is live, and it has seen it
pub named_seen : (z : Sizes) (w : Place → ℕ) (m : Meaning) (i : ℕ) (v : View) → ChainsHold z w m → ((k : ℕ) → k < w (RootCount i) → IsSeen w m v.seen (w (Root i k))) → Each (IsSeen w m v.seen) v.got → (r : ℕ) → MayName w i v r → IsSeen w m v.seen r
named_seen z w m i v h roots got r (has_got _ k) = each_in (IsSeen w m v.seen) r v.got got k
named_seen z w m i v h roots got r (has_protected k l) = roots k l
named_seen z w m i v h roots got a (has_argument r k n l) = argument_seen z w m v.seen h r k (named_seen z w m i v h roots got r n) l

-- where all words that a seat knows are so, the rows that it keeps are live and seen
pub led_seen : (z : Sizes) (w : Place → ℕ) (m : Meaning) (seen : ℕ) (ks : List KnownWord) (rows : List ℕ) → ChainsHold z w m → Each (IsKnown w m) ks → Each (IsSeen w m seen) rows → Each (IsSeen w m seen) (led_to ks rows)
led_seen z w m seen ks rows h known there =
    let all : List ℕ = led_to ks rows in
    let so : Each (λ q. is_among all q.row ≡ true → IsKnown w m q) ks = each_map (IsKnown w m) (λ q. is_among all q.row ≡ true → IsKnown w m q) ks (λ q k _. k) known in
    led_has (IsSeen w m seen) ks rows (goes_on w m ks all (IsSeen w m seen) (λ r j _ k l. argument_seen z w m seen h r j k l) so) there

-- and so are their words
pub led_known : (w : Place → ℕ) (m : Meaning) (ks : List KnownWord) (rows : List ℕ) → Each (IsKnown w m) ks → Each (IsKnown w m) (words_of_rows rows ks)
led_known w m ks rows known = of_rows (IsKnown w m) rows ks (each_map (IsKnown w m) (λ q. is_among rows q.row ≡ true → IsKnown w m q) ks (λ q k _. k) known)

-- it has seen the rows that it protects
pub protected_seen : (w : Place → ℕ) (m : Meaning) (seen : ℕ) (v : View) → Each (IsSeen w m seen) (rows_kept v) → Each (IsSeen w m seen) (protected_in v)
protected_seen w m seen v h = each_often (IsSeen w m seen) v.knows (length v.knows) (protected_in v) h

pub roots_last : (names : List ℕ) (es : List Entry) (seen : ℕ) (rows : List ℕ) → last_roots names (es ++ Roots seen rows ∷ []) ≡ rows
roots_last names [] seen rows = refl
roots_last names (e ∷ es) seen rows = roots_last (roots_after names e) es seen rows

-- a key that was seen, and one of an entry that stands after all that was
key_seen : (d : Entry) (seen : ℕ) → place d ≤ 2 * seen + 1 → key d ≤ seen
key_seen (Make number head args row) seen l = omega arith
key_seen (Find after head args row) seen l = omega arith
key_seen (Roots after names) seen l = omega arith
key_seen (Collect number kept) seen l = omega arith

key_after : (e : Entry) (seen : ℕ) → 2 * seen + 1 ≤ place e → (seen ≤ key e) × (is_numbered e ≡ true → seen < key e)
key_after (Make number head args row) seen l = (omega arith, λ _. omega arith)
key_after (Find after head args row) seen l = (omega arith, λ e. absurd (cc))
key_after (Roots after names) seen l = (omega arith, λ e. absurd (cc))
key_after (Collect number kept) seen l = (omega arith, λ _. omega arith)

-- the entries with one more, whose key is above theirs where it is a number, and not below them
-- else
rises_end : (es : List Entry) (e : Entry) → KeysRise es → Each (λ d. (key d ≤ key e) × (is_numbered e ≡ true → key d < key e)) es → KeysRise (es ++ e ∷ [])
rises_end [] e n a = (tt, tt)
rises_end (d ∷ es) e n a = (each_join (λ x. (key d ≤ key x) × (is_numbered x ≡ true → key d < key x)) es (e ∷ []) n.0 (a.0, tt), rises_end es e n.1 a.1)

-- the entries with one more, which stands after all that was seen
pub rises_more : (es : List Entry) (e : Entry) (seen : ℕ) → KeysRise es → Each (λ d. place d ≤ 2 * seen + 1) es → 2 * seen + 1 ≤ place e → KeysRise (es ++ e ∷ [])
rises_more es e seen n k l =
    let after = key_after e seen l in
    let above = after.0 in
    rises_end es e n (each_map (λ d. place d ≤ 2 * seen + 1) (λ d. (key d ≤ key e) × (is_numbered e ≡ true → key d < key e)) es
    (λ d a. let below = key_seen d seen a in (omega arith, λ numbered. let higher = after.1 numbered in omega arith)) k)

pub keys_more : (es : List Entry) (e : Entry) (seen later : ℕ) → Each (λ d. place d ≤ 2 * seen + 1) es → seen ≤ later → place e ≤ 2 * later + 1 → Each (λ d. place d ≤ 2 * later + 1) (es ++ e ∷ [])
keys_more es e seen later k l p = each_join (λ d. place d ≤ 2 * later + 1) es (e ∷ []) (each_map (λ d. place d ≤ 2 * seen + 1) (λ d. place d ≤ 2 * later + 1) es (λ d a. omega arith) k) (p, tt)

-- the words of a live row, from the k-th on
pub words_are_known : (w : Place → ℕ) (m : Meaning) (r k : ℕ) (ns : List ℕ) → m.live r ≡ true → ((j : ℕ) → j < length ns → w (RowWord r (k + j)) ≡ get_or ns j 0) → Each (IsKnown w m) (words_known r k ns)
words_are_known w m r k [] live same = tt
words_are_known w m r k (n ∷ ns) live same = (
  record { live = live; value_is = ap (λ (j : ℕ). w (RowWord r j)) (let e : k ≡ k + 0 = omega arith in e) ∙ same 0 (omega arith) },
  words_are_known w m r (suc k) ns live (λ j l. ap (λ (q : ℕ). w (RowWord r q)) (let e : suc k + j ≡ k + suc j = omega arith in e) ∙ same (suc j) (omega arith)),
)

pub content_known : (w : Place → ℕ) (m : Meaning) (r : ℕ) (c : Content) → m.live r ≡ true → Matches (row_at w r) c → Each (IsKnown w m) (words_known r 0 (words_of c))
content_known w m r c live same = words_are_known w m r 0 (words_of c) live (λ j l. ap (λ (q : ℕ). w (RowWord r q)) (let e : 0 + j ≡ j = omega arith in e) ∙ same j l)

module _ (w : Place → ℕ) (m : Meaning) (i : ℕ) (v : View) where
  pub gains : (z : Sizes) → ChainsHold z w m → (x : Call) → SeatHolds w m i (with_call v x) → v.stay ≡ Ready → (c : Content) → (r number : ℕ) (e : Entry) → m.live r ≡ true → Matches (row_at w r) c → w (Birth r) ≤ number → number < w Base + w Claim → 2 * v.seen + 1 ≤ place e → place e ≤ 2 * max v.seen number + 1 → SeatHolds w m i (gained v c r number e)
  gains z chains x h stay c r number e live same birth below first last =
      let more = seen_more w m v.seen (max v.seen number) (omega arith) in
      let base : v.base ≡ w Base = h.numbers.base (λ e. let a = sym stay ∙ e in absurd (cc)) in
      let knows : List KnownWord = words_known r 0 (words_of c) ++ v.knows in
      let known : Each (IsKnown w m) knows = each_join (IsKnown w m) (words_known r 0 (words_of c)) v.knows (content_known w m r c live same) (h.protects.knows base) in
      let there = each_map (IsSeen w m v.seen) (IsSeen w m (max v.seen number)) (protected_in v) more (protected_seen w m v.seen v h.protects.keeps) in record {
        walks = record { walk = tt; look = tt };
        drawn = record { index = tt; row = tt };
        numbers = record { base = h.numbers.base; in_use = h.numbers.in_use; calls = λ ne. stay; seen = let a = h.numbers.seen in omega arith; entered = λ s. let a = h.numbers.entered s in omega arith; overdraw = h.numbers.overdraw; own = h.numbers.own; over = h.numbers.over; read = tt };
        protects = record {
          roots = λ k l. more (w (Root i k)) (h.protects.roots k l);
          wants = tt;
          got = λ b. (record { live = live; birth = omega arith }, each_map (IsSeen w m v.seen) (IsSeen w m (max v.seen number)) v.got more (h.protects.got b));
          knows = λ _. known;
          keeps = led_seen z w m (max v.seen number) knows (protected_in v) chains known there;
          keeps_words = led_known w m knows (led_to knows (protected_in v)) known;
        };
        notes = record { rises = rises_more v.entries e v.seen h.notes.rises h.notes.keys first; keys = keys_more v.entries e v.seen (max v.seen number) h.notes.keys (omega arith) last; away = λ a. absurd (let b = sym stay ∙ a in cc) };
      }

  pub enters : (z : Sizes) → ChainsHold z w m → SeatHolds w m i (with_call v Idle) → SeatHolds w m i (based (with_call v Idle) (w Base))
  enters z chains h =
      let b : ℕ = w Base in
      let later : ℕ = max v.seen (pred b) in
      let more = seen_more w m v.seen later (omega arith) in
      let knows : List KnownWord = cond (eqb b v.base) v.knows (words_kept v) in
      let known : Each (IsKnown w m) knows = choose (Each (IsKnown w m)) (eqb b v.base) v.knows (words_kept v) (λ e. h.protects.knows (sym (eqb_is b v.base e))) (λ _. h.protects.keeps_words) in
      let there = each_map (IsSeen w m v.seen) (IsSeen w m later) (protected_in v) more (protected_seen w m v.seen v h.protects.keeps) in record {
        walks = record { walk = tt; look = tt };
        drawn = record { index = tt; row = tt };
        numbers = record {
          base = λ _. refl;
          in_use = λ e. absurd (cc);
          calls = λ ne. absurd (ne refl);
          seen = let a = h.numbers.seen in let p = below_pred b (w Claim) (omega arith) in omega arith;
          entered = λ _. let p = pred_below b in omega arith;
          overdraw = h.numbers.overdraw;
          own = omega arith;
          over = h.numbers.over;
          read = tt;
        };
        protects = record {
          roots = λ k l. more (w (Root i k)) (h.protects.roots k l);
          wants = tt;
          got = λ _. choose (Each (IsSeen w m later)) (eqb b v.base) v.got (rows_kept v)
              (λ e. each_map (IsSeen w m v.seen) (IsSeen w m later) v.got more (h.protects.got (sym (eqb_is b v.base e)))) (λ _. each_map (IsSeen w m v.seen) (IsSeen w m later) (rows_kept v) more h.protects.keeps);
          knows = λ _. known;
          keeps = led_seen z w m later knows (protected_in v) chains known there;
          keeps_words = led_known w m knows (led_to knows (protected_in v)) known;
        };
        notes = record { rises = h.notes.rises; keys = each_map (λ d. place d ≤ 2 * v.seen + 1) (λ d. place d ≤ 2 * max v.seen (pred b) + 1) v.entries (λ d a. omega arith) h.notes.keys; away = λ e. absurd (cc) };
      }

  pub readies : SeatHolds w m i (with_call v Idle) → v.stay ≡ Based → SeatHolds w m i (ready (with_call v Idle) (w InUse))
  readies h stay = record {
    walks = record { walk = tt; look = tt };
    drawn = record { index = tt; row = tt };
    numbers = record { base = λ _. h.numbers.base (λ e. let a = sym stay ∙ e in absurd (cc)); in_use = λ _. refl; calls = λ ne. absurd (ne refl); seen = h.numbers.seen; entered = λ _. h.numbers.entered (λ e. let a = sym stay ∙ e in absurd (cc)); overdraw = h.numbers.overdraw; own = h.numbers.own; over = h.numbers.over; read = tt };
    protects = record { roots = h.protects.roots; wants = tt; got = h.protects.got; knows = h.protects.knows; keeps = h.protects.keeps; keeps_words = h.protects.keeps_words };
    notes = record { rises = h.notes.rises; keys = h.notes.keys; away = λ e. absurd (cc) };
  }

  pub leaves : SeatHolds w m i (with_call v Idle) → (rows : List ℕ) → rows ≡ roots_of w i (w (RootCount i)) → SeatHolds w m i (left (with_call v Idle) rows)
  leaves h rows all = record {
    walks = record { walk = tt; look = tt };
    drawn = record { index = tt; row = tt };
    numbers = record { base = λ ne. absurd (ne refl); in_use = λ e. absurd (cc); calls = λ ne. absurd (ne refl); seen = h.numbers.seen; entered = λ ne. absurd (ne refl); overdraw = h.numbers.overdraw; own = h.numbers.own; over = h.numbers.over; read = tt };
    protects = record { roots = h.protects.roots; wants = tt; got = h.protects.got; knows = h.protects.knows; keeps = h.protects.keeps; keeps_words = h.protects.keeps_words };
    notes = record { rises = rises_more v.entries (Roots v.seen rows) v.seen h.notes.rises h.notes.keys (omega arith); keys = keys_more v.entries (Roots v.seen rows) v.seen v.seen h.notes.keys (omega arith) (omega arith); away = λ _. roots_last [] v.entries v.seen rows ∙ all };
  }

  -- a creation begins at the head of its chain
  pub begun : (z : Sizes) (c : Content) → ChainsHold z w m → SeatHolds w m i (with_call v Idle) → v.stay ≡ Ready
      → MayBegin z w i v c → (b : ℕ) → b ≡ bucket c (w InUse) → IsStage w m i (with_path v 0 []) Idle (arrived c None (w (Bucket b)) 0 (w (Bucket b)))
  begun z c chains h stay may b is =
      let base : v.base ≡ w Base = h.numbers.base (λ e. let a = sym stay ∙ e in absurd (cc)) in
      let arguments = each_map (MayName w i v) (IsSeen w m v.seen) c.arguments (named_seen z w m i v chains h.protects.roots (h.protects.got base)) may.named in
      let chain : List ℕ = m.chain (bucket c (w InUse)) in
      stage_arrived w m i (with_path v 0 []) Idle Idle (recounted w m i v Idle 0 [] h stay) stay chains.standing c
      record { over = may.over; formed = formed z w m chains c.head c.arguments may.over may.second (each_map (IsSeen w m v.seen) (λ r. m.live r ≡ true) c.arguments (λ r k. k.live) arguments); arguments = arguments }
      None (inl refl) record { index = tt; row = tt } (w (Bucket b)) 0 (w (Bucket b))
      (comes_first (row_at w) chain c (w (Bucket b)) 0 chain [] (sym (append-nil chain)) (subst (λ (k : ℕ). Linked (row_at w) (w (Bucket k)) chain) (sym is) (chains.linked (bucket c (w InUse)))) refl tt)
