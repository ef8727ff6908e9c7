-- What one seat may do to the words that another seat's view speaks of, and that such steps keep
-- what holds of it.
use Rattle.std.proofs.Common.{Option, ◌≡◌, ℕ, zero, suc, ◌≤◌, true, false, Some, List, [], ◌∷◌, ◌++◌, refl, sym, ap, ◌∙◌, subst, ap₂, arith, append_assoc}
use Rattle.store_model.specs.Words.{Place, Base, FreeCount, Claim, InUse, FreePlace, RootCount, Root, RowWords, row_at}
use Rattle.store_model.specs.Calls.{Content, bucket, Call, Idle, Comparing, Passing, Finding, Ended, Counting, Drawing, Placing, Filling, Numbering, Linking, Publishing, Loading, Storing, KnownWord, View}
use Rattle.store_model.specs.Machine.{Each, roots_of, rows_kept, words_kept}
use Rattle.store_model.specs.Meaning.{Meaning, Matches, Linked, trees_at}
use Rattle.term_model.specs.Tree.{More, may_stand_over}
use Rattle.store_model.specs.Seats.{wanted, drawn, index, Lacks, Walks, Walked, IsWalk, looked, Looks, LooksAt, Filled, IsDrawn, HoldsRow, IsSeen, IsKnown, HasRead, MayWant, SeatWalks, RowDrawn, SeatNumbers, SeatRows, NotesMatch, SeatHolds}
use Rattle.store_model.proofs.Basics.{each_map, each_both, each_left, each_right, where_map}

-- a chain grows at its head alone
pub record Grows (xs ys : List ℕ) : Type 0 where
  pub more : List ℕ
  pub is : ys ≡ more ++ xs

abbrev pub AreLive : Meaning → List ℕ → Type 0
AreLive m rs = Each (λ r. m.live r ≡ true) rs

-- what the words from w to u and their meanings from m to n keep for seat i with the view v
pub record Rely (i : ℕ) (v : View) (w u : Place → ℕ) (m n : Meaning) : Type 0 where
  pub base : u Base ≡ w Base
  pub count : u FreeCount ≡ w FreeCount
  pub in_use : u InUse ≡ w InUse
  pub place : (k : ℕ) → u (FreePlace k) ≡ w (FreePlace k)
  pub claim : w Claim ≤ u Claim
  pub rows : (r : ℕ) → m.live r ≡ true → row_at u r ≡ row_at w r
  pub live : (r : ℕ) → m.live r ≡ true → n.live r ≡ true
  pub tree : (r : ℕ) → m.live r ≡ true → n.tree r ≡ m.tree r
  pub chain : (b : ℕ) → Grows (m.chain b) (n.chain b)
  pub own : (d : ℕ × ℕ) → drawn v.call ≡ Some d → row_at u d.1 ≡ row_at w d.1
  pub dead : (k : ℕ) → index v.call ≡ Some k → m.live (w (FreePlace k)) ≡ false → n.live (w (FreePlace k)) ≡ false
  pub root_count : u (RootCount i) ≡ w (RootCount i)
  pub root : (k : ℕ) → u (Root i k) ≡ w (Root i k)

module _ (m : Meaning) (row row' : ℕ → RowWords) (same : (r : ℕ) → m.live r ≡ true → row' r ≡ row r) where
  pub linked_kept : (at : ℕ) (rs : List ℕ) → AreLive m rs → Linked row at rs → Linked row' at rs
  linked_kept at [] live h = h
  linked_kept at (r ∷ rs) live h = (h.0, subst (λ (q : RowWords). Linked row' q.next rs) (sym (same r live.0)) (linked_kept (row r).next rs live.1 h.1))

  pub lacks_kept : (c : Content) (rs : List ℕ) → AreLive m rs → Each (Lacks row c) rs → Each (Lacks row' c) rs
  lacks_kept c rs live h = each_both (λ r. m.live r ≡ true) (Lacks row c) (Lacks row' c) rs (λ r l k. subst (λ (q : RowWords). Matches q c → ⊥) (sym (same r l)) k) live h

  pub walks_kept : (xs ys : List ℕ) (c : Content) (from old at n : ℕ) → AreLive m xs → Grows xs ys → Walks row xs c from old at n → Walks row' ys c from old at n
  walks_kept xs ys c from old at n live g h =
      let rest : List ℕ = h.here ∷ (h.todo ++ h.settled) in
      let whole = each_right (λ r. m.live r ≡ true) h.fresh (h.walked ++ rest) (subst (AreLive m) h.chain_is live) in
      let settled = each_right (λ r. m.live r ≡ true) h.todo h.settled (each_right (λ r. m.live r ≡ true) h.walked rest whole).1 in
      record {
        fresh = g.more ++ h.fresh;
        walked = h.walked;
        here = h.here;
        todo = h.todo;
        settled = h.settled;
        at_is = h.at_is;
        count = h.count;
        chain_is = g.is ∙ (ap (λ zs. g.more ++ zs) h.chain_is ∙ sym (append_assoc g.more h.fresh (h.walked ++ rest)));
        from_head = linked_kept from (h.walked ++ rest) whole h.from_head;
        to_settled = linked_kept old h.settled settled h.to_settled;
        walked_lack = lacks_kept c h.walked (each_left (λ r. m.live r ≡ true) h.walked rest whole) h.walked_lack;
        settled_lack = lacks_kept c h.settled settled h.settled_lack;
      }

  pub walked_kept : (xs ys : List ℕ) (c : Content) (from n : ℕ) → AreLive m xs → Grows xs ys → Walked row xs c from n → Walked row' ys c from n
  walked_kept xs ys c from n live g h =
      let settled = each_right (λ r. m.live r ≡ true) h.fresh h.settled (subst (AreLive m) h.chain_is live) in
      record {
        fresh = g.more ++ h.fresh;
        settled = h.settled;
        count = h.count;
        chain_is = g.is ∙ (ap (λ zs. g.more ++ zs) h.chain_is ∙ sym (append_assoc g.more h.fresh h.settled));
        to_settled = linked_kept from h.settled settled h.to_settled;
        settled_lack = lacks_kept c h.settled settled h.settled_lack;
      }

  walk_kept : (chain chain' : ℕ → List ℕ) (u n : ℕ) (x : Call) → ((b : ℕ) → AreLive m (chain b)) → ((b : ℕ) → Grows (chain b) (chain' b)) → IsWalk row chain u n x → IsWalk row' chain' u n x
  walk_kept chain chain' u n Idle live g h = tt
  walk_kept chain chain' u n (Comparing c d from old at k) live g h = let b = bucket c u in walks_kept (chain b) (chain' b) c from old at n (live b) (g b) h
  walk_kept chain chain' u n (Passing c d from old at dif) live g h = let b = bucket c u in walks_kept (chain b) (chain' b) c from old at n (live b) (g b) h
  walk_kept chain chain' u n (Finding c d r) live g h = tt
  walk_kept chain chain' u n (Ended c from) live g h = let b = bucket c u in walked_kept (chain b) (chain' b) c from n (live b) (g b) h
  walk_kept chain chain' u n (Counting c from k) live g h = let b = bucket c u in walked_kept (chain b) (chain' b) c from n (live b) (g b) h
  walk_kept chain chain' u n (Drawing c from k) live g h = let b = bucket c u in walked_kept (chain b) (chain' b) c from n (live b) (g b) h
  walk_kept chain chain' u n (Placing c from i) live g h = let b = bucket c u in walked_kept (chain b) (chain' b) c from n (live b) (g b) h
  walk_kept chain chain' u n (Filling c from i r k) live g h = let b = bucket c u in walked_kept (chain b) (chain' b) c from n (live b) (g b) h
  walk_kept chain chain' u n (Numbering c from i r) live g h = let b = bucket c u in walked_kept (chain b) (chain' b) c from n (live b) (g b) h
  walk_kept chain chain' u n (Linking c from i r) live g h = let b = bucket c u in walked_kept (chain b) (chain' b) c from n (live b) (g b) h
  walk_kept chain chain' u n (Publishing c from i r) live g h = let b = bucket c u in walked_kept (chain b) (chain' b) c from n (live b) (g b) h
  walk_kept chain chain' u n (Loading ls) live g h = tt
  walk_kept chain chain' u n (Storing ls ss) live g h = tt

pub read_kept : (base count claim later : ℕ) (overdraw : Option ℕ) (x : Call) → claim ≤ later → HasRead base count claim overdraw x → HasRead base count later overdraw x
read_kept base count claim later overdraw (Counting c from n) l h = (h.0, let a = h.1 in omega arith)
read_kept base count claim later overdraw x l h = h

module _ (i : ℕ) (v : View) (w u : Place → ℕ) (m n : Meaning) (y : Rely i v w u m n) where
  pub seen_kept : (seen r : ℕ) → IsSeen w m seen r → IsSeen u n seen r
  seen_kept seen r h = record {
    live = y.live r h.live;
    birth = subst (λ (k : ℕ). k ≤ seen) (sym (ap (λ (q : RowWords). q.birth) (y.rows r h.live))) h.birth;
  }

  known_kept : (k : KnownWord) → IsKnown w m k → IsKnown u n k
  known_kept k h = record { live = y.live k.row h.live; value_is = ap (λ (q : RowWords). q.content k.word) (y.rows k.row h.live) ∙ h.value_is }

  trees_kept : (rs : List ℕ) → AreLive m rs → trees_at n.tree rs ≡ trees_at m.tree rs
  trees_kept [] l = refl
  trees_kept (r ∷ rs) l = ap₂ More (y.tree r l.0) (trees_kept rs l.1)

  walks_stay : ((b : ℕ) → AreLive m (m.chain b)) → SeatWalks w m v → SeatWalks u n v
  walks_stay live h = record {
    walk = subst (λ (k : ℕ). IsWalk (row_at u) n.chain k v.passed v.call) (sym y.in_use) (walk_kept m (row_at w) (row_at u) y.rows m.chain n.chain (w InUse) v.passed v.call live y.chain h.walk);
    look = where_map (looked v.call) (LooksAt (row_at w) m.live v.call) (LooksAt (row_at u) n.live v.call) (λ r _ k. record {
      live = y.live r k.live;
      looks = subst (λ (q : RowWords). Looks q v.call) (sym (y.rows r k.live)) k.looks;
    }) h.look;
  }

  drawn_stays : RowDrawn w m v → RowDrawn u n v
  drawn_stays h = record {
    index = where_map (index v.call) (IsDrawn w m v.seen) (IsDrawn u n v.seen) (λ k is d. record {
      claimed = let a = y.claim in let b = d.claimed in omega arith;
      counted = let a = y.count in let b = d.counted in omega arith;
      dead = subst (λ (r : ℕ). n.live r ≡ false) (sym (y.place k)) (y.dead k is d.dead);
      later = let a = y.base in let b = d.later in omega arith;
    }) h.index;
    row = where_map (drawn v.call) (HoldsRow w (w Base) v.call) (HoldsRow u (u Base) v.call) (λ d is k. record {
      place = k.place ∙ sym (y.place d.0);
      filled = subst (λ (b : ℕ). Filled (row_at u d.1) b v.call) (sym y.base) (subst (λ (q : RowWords). Filled q (w Base) v.call) (sym (y.own d is)) k.filled);
    }) h.row;
  }

  numbers_stay : SeatNumbers w v → SeatNumbers u v
  numbers_stay h = record {
    base = λ s. h.base s ∙ sym y.base;
    in_use = λ s. h.in_use s ∙ sym y.in_use;
    calls = h.calls;
    seen = let a = y.base in let b = y.claim in let c = h.seen in omega arith;
    entered = λ s. let a = y.base in let b = h.entered s in omega arith;
    overdraw = λ e. let k = h.overdraw (e ∙ ap Some y.base) in let a = y.count in let b = y.claim in omega arith;
    own = let a = y.base in let b = h.own in omega arith;
    over = λ b e. let a = y.base in let k = h.over b e in omega arith;
    read = read_kept (u Base) (u FreeCount) (w Claim) (u Claim) v.overdraw v.call y.claim (subst (λ (b : ℕ). HasRead b (u FreeCount) (w Claim) v.overdraw v.call) (sym y.base) (subst (λ (k : ℕ). HasRead (w Base) k (w Claim) v.overdraw v.call) (sym y.count) h.read));
  }

  protects_stay : SeatRows w m i v → SeatRows u n i v
  protects_stay h = record {
    roots = λ k l. subst (IsSeen u n v.seen) (sym (y.root k)) (seen_kept v.seen (w (Root i k)) (h.roots k (let a = y.root_count in omega arith)));
    wants = where_map (wanted v.call) (MayWant w m v.seen) (MayWant u n v.seen) (λ c _ k. record {
      over = k.over;
      formed = ap (may_stand_over c.head) (trees_kept c.arguments (each_map (IsSeen w m v.seen) (λ r. m.live r ≡ true) c.arguments (λ r q. q.live) k.arguments)) ∙ k.formed;
      arguments = each_map (IsSeen w m v.seen) (IsSeen u n v.seen) c.arguments (seen_kept v.seen) k.arguments;
    }) h.wants;
    got = λ e. each_map (IsSeen w m v.seen) (IsSeen u n v.seen) v.got (seen_kept v.seen) (h.got (e ∙ y.base));
    knows = λ e. each_map (IsKnown w m) (IsKnown u n) v.knows known_kept (h.knows (e ∙ y.base));
    keeps = each_map (IsSeen w m v.seen) (IsSeen u n v.seen) (rows_kept v) (seen_kept v.seen) h.keeps;
    keeps_words = each_map (IsKnown w m) (IsKnown u n) (words_kept v) known_kept h.keeps_words;
  }

  roots_same : (k : ℕ) → roots_of u i k ≡ roots_of w i k
  roots_same zero = refl
  roots_same (suc k) = ap₂ (λ (xs : List ℕ) (r : ℕ). xs ++ r ∷ []) (roots_same k) (y.root k)

  notes_stay : NotesMatch w i v → NotesMatch u i v
  notes_stay h = record { rises = h.rises; keys = h.keys; away = λ e. h.away e ∙ (ap (roots_of w i) (sym y.root_count) ∙ sym (roots_same (u (RootCount i)))) }

  pub stable : ((b : ℕ) → AreLive m (m.chain b)) → SeatHolds w m i v → SeatHolds u n i v
  stable live h = record { walks = walks_stay live h.walks; drawn = drawn_stays h.drawn; numbers = numbers_stay h.numbers; protects = protects_stay h.protects; notes = notes_stay h.notes }
