-- The exchange on a bucket keeps what holds of the store: where it wins, its row becomes live.
use Rattle.history_core.specs.declared.entry.Entry.TheVariants.{Make}
use Rattle.std.proofs.Common.{◌≡◌, ◌≢◌, ℕ, suc, ◌+◌, ◌<◌, eqb, Bool, true, false, cond, Some, List, [], ◌∷◌, refl, sym, ap, ◌∙◌, subst, ⊎_elim, inl, inr, arith, eq-eqb, ne_eqb}
use mathlib.Core.Logic.{dite}
use native.Mathlib.Decide.{ℕ_discrete}
use Rattle.term_model.specs.declared.Head.{Head}
use Rattle.term_model.specs.Tree.{Tree, Node, More}
use Rattle.store_model.specs.Words.{Place, Base, FreeCount, InUse, FreePlace, Bucket, Birth, write, put, row_at}
use Rattle.store_model.specs.Calls.{Content, IsOver, bucket, bucket_below, Call, Idle, Ended, Publishing, Ready, View}
use Rattle.store_model.specs.Machine.{Sizes, State, Each, In, with_call, gained, arrived, acted, action}
use Rattle.store_model.specs.Meaning.{Meaning, Matches, Linked, Stands, IsOlder, IsBorn, grown, trees_at}
use Rattle.store_model.specs.Seats.{index, Lacks, IsDrawn, IsSeen, SeatHolds}
use Rattle.store_model.specs.Invariant.{is_at, tally, RowsHold, ChainsHold, NumbersHold, Holds, IsStoreSound}
use Rattle.store_model.proofs.Basics.{put_case, put_same, put_other, where_at, each_map, each_in, eqb_is}
use Rattle.store_model.proofs.Stable.{Rely, Grows, stable}
use Rattle.store_model.proofs.Chains.{linked_once, Comes, comes_first}
use Rattle.store_model.proofs.Rows.{live_apart}
use Rattle.store_model.proofs.Loads.{stage_arrived}
use Rattle.store_model.proofs.Gains.{gains}
use Rattle.store_model.proofs.Views.{IsStage, new_call, chains_live, kept_with, same_overdrawn, loaded, apart_none, apart_stage}
use Rattle.store_model.proofs.Histories.{history_same}
use Rattle.store_model.proofs.Noting.{made_new}
use Rattle.store_model.proofs.LoadsKept.{seat_at, stays_at}

-- the meaning once row r is c, at the head of the chain b
abbrev pub made : Meaning → ℕ → ℕ → Content → Meaning
made m b r c = record { chain = put m.chain b (r ∷ m.chain b); live = put m.live r true; content = put m.content r c; tree = put m.tree r (grown m.tree c) }

-- trees of rows other than r
pub trees_same : (tree : ℕ → Tree) (r : ℕ) (t : Tree) (rs : List ℕ) → Each (λ q. q ≢ r) rs → trees_at tree rs ≡ trees_at (put tree r t) rs
trees_same tree r t [] h = refl
trees_same tree r t (q ∷ rs) h = ap (λ (k : Tree). More k (trees_at tree rs)) (sym (put_other tree r t q h.0)) ∙ ap (More (put tree r t q)) (trees_same tree r t rs h.1)

-- rows that are known by their trees
pub trees_once : (tree : ℕ → Tree) (live : ℕ → Bool) → ((r q : ℕ) → live r ≡ true → live q ≡ true → tree r ≡ tree q → r ≡ q) → (xs ys : List ℕ)
    → Each (λ r. live r ≡ true) xs → Each (λ r. live r ≡ true) ys → trees_at tree xs ≡ trees_at tree ys → xs ≡ ys
trees_once tree live d [] [] a b e = refl
trees_once tree live d [] (y ∷ ys) a b e = absurd (cc)
trees_once tree live d (x ∷ xs) [] a b e = absurd (cc)
trees_once tree live d (x ∷ xs) (y ∷ ys) a b e =
    let p : tree x ≡ tree y = cc in
    let q : trees_at tree xs ≡ trees_at tree ys = cc in
    let k : x ≡ y = d x y a.0 b.0 p in let l : xs ≡ ys = trees_once tree live d xs ys a.1 b.1 q in cc

-- a live row with the tree of c has the content c
pub content_is : (z : Sizes) (w : Place → ℕ) (m : Meaning) → ChainsHold z w m → (c : Content) → Each (λ r. m.live r ≡ true) c.arguments → (q : ℕ) → m.live q ≡ true → m.tree q ≡ grown m.tree c → m.content q ≡ c
content_is z w m h c wants q l is =
    let d : Content = m.content q in
    let same : Node d.head (trees_at m.tree d.arguments) ≡ Node c.head (trees_at m.tree c.arguments) = sym (h.trees q l) ∙ is in
    let heads : d.head ≡ c.head = cc in
    let trees : trees_at m.tree d.arguments ≡ trees_at m.tree c.arguments = cc in
    let arguments : d.arguments ≡ c.arguments = trees_once m.tree m.live h.differ d.arguments c.arguments (each_map (IsOlder m.live (row_at w) (w (Birth q))) (λ p. m.live p ≡ true) d.arguments (λ p k. k.live) (h.arguments q l)) wants trees in
    ◌∙◌ {b = record { head = c.head; arguments = d.arguments }} (ap (λ (f : Head). record { head = f; arguments = d.arguments }) heads) (ap (λ (rs : List ℕ). record { head = c.head; arguments = rs }) arguments)

module _ (z : Sizes) (s : State) (m : Meaning) (h : Holds z s m) (i : ℕ) (there : i < z.seats) (c : Content) (from a r : ℕ) (e : (s.view i).call ≡ Publishing c from a r) where
  pub seat : SeatHolds s.words m i (with_call (s.view i) (Publishing c from a r))
  seat = seat_at z s m h i (Publishing c from a r) e

  stay : (s.view i).stay ≡ Ready
  stay = stays_at z s m h i (Publishing c from a r) e (λ f. absurd (cc))

  pub b_is : bucket c (s.view i).in_use ≡ bucket c (s.words InUse)
  b_is = ap (bucket c) ((h.seats i).numbers.in_use stay)

  pub own_base : (s.view i).base ≡ s.words Base
  own_base = (h.seats i).numbers.base (λ f. let g = sym stay ∙ f in absurd (cc))

  -- the exchange found another head: a walk begins from there
  lost : (b : ℕ) → b ≡ bucket c (s.words InUse) → IsStage s.words m i (s.view i) (Publishing c from a r) (arrived c (Some (a, r)) (s.words (Bucket b)) from (s.words (Bucket b)))
  lost b is =
      let chain : List ℕ = m.chain (bucket c (s.words InUse)) in
      let n : ℕ = s.words (Bucket b) in
      let walk = seat.walks.walk in
      let held = seat.drawn in
      stage_arrived s.words m i (s.view i) (Publishing c from a r) (Publishing c from a r) seat stay h.chains.standing c seat.protects.wants (Some (a, r)) (inr refl)
      record { index = held.index; row = record { place = held.row.place; filled = held.row.filled.0 } } n from n
      (subst (λ (k : ℕ). Comes (row_at s.words) chain c n from n k) (sym walk.count) (comes_first (row_at s.words) chain c n from walk.fresh walk.settled walk.chain_is (subst (λ (k : ℕ). Linked (row_at s.words) (s.words (Bucket k)) chain) (sym is) (h.chains.linked (bucket c (s.words InUse)))) walk.to_settled walk.settled_lack))

  pub dead : m.live r ≡ false
  dead = ap m.live seat.drawn.row.place ∙ seat.drawn.index.dead

  other : (q : ℕ) → m.live q ≡ true → q ≢ r
  other q l = live_apart m.live r q dead l

  wants : Each (IsSeen s.words m (s.view i).seen) c.arguments
  wants = seat.protects.wants.arguments

  -- no live row has the tree
  module _ (head_is : s.words (Bucket (bucket c (s.words InUse))) ≡ from) where
    settled : Each (Lacks (row_at s.words) c) (m.chain (bucket c (s.words InUse)))
    settled = let walk = seat.walks.walk in let b = bucket c (s.words InUse) in
        subst (Each (Lacks (row_at s.words) c))
        (linked_once (row_at s.words) from walk.settled (m.chain b) walk.to_settled (subst (λ (n : ℕ). Linked (row_at s.words) n (m.chain b)) head_is (h.chains.linked b))) walk.settled_lack

    pub none_has : (q : ℕ) → m.live q ≡ true → m.tree q ≡ grown m.tree c → ⊥
    none_has q l is =
        let contents : m.content q ≡ c = content_is z s.words m h.chains c (each_map (IsSeen s.words m (s.view i).seen) (λ p. m.live p ≡ true) c.arguments (λ p k. k.live) wants) q l is in
        each_in (Lacks (row_at s.words) c) q (m.chain (bucket c (s.words InUse))) settled
        (subst (λ (k : Content). In q (m.chain (bucket k (s.words InUse)))) contents (h.chains.present q l))
        (subst (Matches (row_at s.words q)) contents (h.chains.words q l))

    -- the words and the meaning after the exchange
    abbrev pub won : Place → ℕ
    won = write s.words (Bucket (bucket c (s.words InUse))) (suc r)

    abbrev pub means : Meaning
    means = made m (bucket c (s.words InUse)) r c

    live_before : (q : ℕ) → q ≢ r → means.live q ≡ true → m.live q ≡ true
    live_before q ne l = sym (put_other m.live r true q ne) ∙ l

    live_after : (q : ℕ) → m.live q ≡ true → means.live q ≡ true
    live_after q l = put_other m.live r true q (other q l) ∙ l

    -- of r, and of each row that was live before
    live_case : (P : ℕ → Type 0) → P r → ((q : ℕ) → q ≢ r → m.live q ≡ true → P q) → (q : ℕ) → means.live q ≡ true → P q
    live_case P own old q l = dite (ℕ_discrete q r) (λ f. subst P (sym f) own) (λ ne. old q ne (live_before q ne l))

    content_old : (q : ℕ) → q ≢ r → means.content q ≡ m.content q
    content_old q ne = put_other m.content r c q ne

    content_own : means.content r ≡ c
    content_own = put_same m.content r c

    won_rows : RowsHold z won means
    won_rows = let held = seat.drawn in record {
      few = h.rows.few;
      there = h.rows.there;
      differ = h.rows.differ;
      others = λ q l none. live_after q (h.rows.others q l none);
      free = λ k l below. put_other m.live r true (s.words (FreePlace k))
          (λ f. let g : k ≡ a = h.rows.differ k a below held.index.counted (f ∙ held.row.place) in let claimed = held.index.claimed in absurd (omega arith)) ∙ h.rows.free k l below;
    }

    old_stands : (d q : ℕ) → Stands m (s.words InUse) d q → Stands means (s.words InUse) d q
    old_stands d q k = record { live = live_after q k.live; bucket = ap (λ (p : Content). bucket p (s.words InUse)) (content_old q (other q k.live)) ∙ k.bucket }

    older_after : (born q : ℕ) → IsOlder m.live (row_at s.words) born q → IsOlder means.live (row_at won) born q
    older_after born q k = record { live = live_after q k.live; older = k.older }

    -- a row's tree is still that of its content
    grown_after : (d : Content) → Each (λ q. m.live q ≡ true) d.arguments → grown m.tree d ≡ grown means.tree d
    grown_after d live = ap (Node d.head) (trees_same m.tree r (grown m.tree c) d.arguments (each_map (λ q. m.live q ≡ true) (λ q. q ≢ r) d.arguments other live))

    wants_live : Each (λ q. m.live q ≡ true) c.arguments
    wants_live = each_map (IsSeen s.words m (s.view i).seen) (λ p. m.live p ≡ true) c.arguments (λ p k. k.live) wants

    tree_own : means.tree r ≡ grown means.tree c
    tree_own = put_same m.tree r (grown m.tree c) ∙ grown_after c wants_live

    tree_old : (q : ℕ) → q ≢ r → means.tree q ≡ m.tree q
    tree_old q ne = put_other m.tree r (grown m.tree c) q ne

    won_chains : ChainsHold z won means
    won_chains = let held = seat.drawn in let bc : ℕ = bucket c (s.words InUse) in let old = h.chains in record {
      used = old.used;
      within = old.within;
      linked = λ d. dite (ℕ_discrete d bc)
          (λ f. subst (λ (k : ℕ). Linked (row_at won) (won (Bucket k)) (means.chain k)) (sym f)
          (subst (Linked (row_at won) (won (Bucket bc))) (sym (put_same m.chain bc (r ∷ m.chain bc))) (
            ap (λ (t : Bool). cond t (suc r) (s.words (Bucket bc))) (eq-eqb bc bc refl),
            subst (λ (k : ℕ). Linked (row_at s.words) k (m.chain bc)) (head_is ∙ sym held.row.filled.1) (old.linked bc),
          )))
          (λ ne. subst (Linked (row_at won) (won (Bucket d))) (sym (put_other m.chain bc (r ∷ m.chain bc) d ne))
          (subst (λ (k : ℕ). Linked (row_at s.words) k (m.chain d)) (sym (ap (λ (t : Bool). cond t (suc r) (s.words (Bucket d))) (ne_eqb d bc ne))) (old.linked d)));
      standing = λ d. put_case (Each (Stands means (s.words InUse) d)) m.chain bc (r ∷ m.chain bc) d
          (λ f. (
            record { live = put_same m.live r true; bucket = ap (λ (p : Content). bucket p (s.words InUse)) content_own ∙ sym f },
            each_map (Stands m (s.words InUse) d) (Stands means (s.words InUse) d) (m.chain bc) (old_stands d) (subst (λ (k : ℕ). Each (Stands m (s.words InUse) d) (m.chain k)) f (old.standing d)),
          ))
          (λ ne. each_map (Stands m (s.words InUse) d) (Stands means (s.words InUse) d) (m.chain d) (old_stands d) (old.standing d));
      beyond = λ d l. put_other m.chain bc (r ∷ m.chain bc) d (λ f. let k = bucket_below c (s.words InUse) old.used in absurd (omega arith)) ∙ old.beyond d l;
      present = live_case (λ q. In q (means.chain (bucket (means.content q) (s.words InUse))))
          (subst (λ (k : Content). In r (means.chain (bucket k (s.words InUse)))) (sym content_own) (subst (In r) (sym (put_same m.chain bc (r ∷ m.chain bc))) (inl refl)))
          (λ q ne l. subst (λ (k : Content). In q (means.chain (bucket k (s.words InUse)))) (sym (content_old q ne))
          (put_case (In q) m.chain bc (r ∷ m.chain bc) (bucket (m.content q) (s.words InUse))
          (λ f. inr (subst (λ (k : ℕ). In q (m.chain k)) f (old.present q l))) (λ _. old.present q l)));
      below = live_case (λ q. q < z.rows) (subst (λ (q : ℕ). q < z.rows) (sym held.row.place) (h.rows.there a held.index.counted)) (λ q _ l. old.below q l);
      over = live_case (λ q. IsOver (means.content q).head (means.content q).arguments)
          (subst (λ (k : Content). IsOver k.head k.arguments) (sym content_own) seat.protects.wants.over) (λ q ne l. subst (λ (k : Content). IsOver k.head k.arguments) (sym (content_old q ne)) (old.over q l));
      words = live_case (λ q. Matches (row_at s.words q) (means.content q))
          (subst (Matches (row_at s.words r)) (sym content_own) held.row.filled.0.content) (λ q ne l. subst (Matches (row_at s.words q)) (sym (content_old q ne)) (old.words q l));
      arguments = live_case (λ q. Each (IsOlder means.live (row_at won) (s.words (Birth q))) (means.content q).arguments)
          (subst (λ (k : Content). Each (IsOlder means.live (row_at won) (s.words (Birth r))) k.arguments) (sym content_own)
          (each_map (IsSeen s.words m (s.view i).seen) (IsOlder means.live (row_at won) (s.words (Birth r))) c.arguments
          (λ q k. record { live = live_after q k.live; older = let f = k.birth in let g = held.index.later in let birth = held.row.filled.0.birth in omega arith }) wants))
          (λ q ne l. subst (λ (k : Content). Each (IsOlder means.live (row_at won) (s.words (Birth q))) k.arguments) (sym (content_old q ne))
          (each_map (IsOlder m.live (row_at s.words) (s.words (Birth q))) (IsOlder means.live (row_at won) (s.words (Birth q))) (m.content q).arguments (older_after (s.words (Birth q))) (old.arguments q l)));
      trees = live_case (λ q. means.tree q ≡ grown means.tree (means.content q))
          (tree_own ∙ ap (grown means.tree) (sym content_own))
          (λ q ne l. tree_old q ne ∙ (old.trees q l ∙ (grown_after (m.content q) (each_map (IsOlder m.live (row_at s.words) (s.words (Birth q))) (λ p. m.live p ≡ true) (m.content q).arguments (λ p k. k.live) (old.arguments q l))
          ∙ ap (grown means.tree) (sym (content_old q ne)))));
      differ = λ q p l k. live_case (λ q. means.tree q ≡ means.tree p → q ≡ p)
          (live_case (λ p. means.tree r ≡ means.tree p → r ≡ p) (λ _. refl)
          (λ p ne alive f. absurd (none_has p alive (sym (tree_old p ne) ∙ (sym f ∙ put_same m.tree r (grown m.tree c))))) p k)
          (λ q ne alive. live_case (λ p. means.tree q ≡ means.tree p → q ≡ p)
          (λ f. absurd (none_has q alive (sym (tree_old q ne) ∙ (f ∙ put_same m.tree r (grown m.tree c)))))
          (λ p nep alivep f. old.differ q p alive alivep (sym (tree_old q ne) ∙ (f ∙ tree_old p nep))) p k) q l;
    }

    -- no other live row has the number
    born_apart : (q : ℕ) → m.live q ≡ true → s.words (Birth q) ≢ s.words (Birth r)
    born_apart q l f = let held = seat.drawn in let birth = held.row.filled.0.birth in ⊎_elim
        (λ k. absurd (omega arith))
        (λ (k : (p : ℕ) × (p < s.words FreeCount) × (s.words (FreePlace p) ≡ q) × (s.words (Birth q) ≡ s.words Base + p)).
        let d : k.0 ≡ a = (let g = k.3 in omega arith) in other q l (sym k.2 ∙ (ap (λ (p : ℕ). s.words (FreePlace p)) d ∙ sym held.row.place)))
        (h.numbers.born q l)

    won_numbers : (v : View) → v.overdraw ≡ (s.view i).overdraw → tally (λ j. is_at (put s.view i v j).overdraw (s.words Base)) z.seats ≡ tally (λ j. is_at (s.view j).overdraw (s.words Base)) z.seats → NumbersHold z won means (put s.view i v)
    won_numbers v same t = let held = seat.drawn in record {
      born = live_case (λ q. IsBorn (s.words Base) (s.words FreeCount) (λ k. s.words (FreePlace k)) q (s.words (Birth q)))
          (inr (a, held.index.counted, sym held.row.place, held.row.filled.0.birth)) (λ q _ l. h.numbers.born q l);
      differ = λ q p l k. live_case (λ q. s.words (Birth q) ≡ s.words (Birth p) → q ≡ p)
          (live_case (λ p. s.words (Birth r) ≡ s.words (Birth p) → r ≡ p) (λ _. refl) (λ p _ alive f. absurd (born_apart p alive (sym f))) p k)
          (λ q _ alive. live_case (λ p. s.words (Birth q) ≡ s.words (Birth p) → q ≡ p) (λ f. absurd (born_apart q alive f)) (λ p _ alivep. h.numbers.differ q p alive alivep) p k) q l;
      drawn = let k = h.numbers.drawn in omega arith;
      room = h.numbers.room;
      absent = h.numbers.absent;
    }

    won_grows : (d : ℕ) → Grows (m.chain d) (means.chain d)
    won_grows d = let bc : ℕ = bucket c (s.words InUse) in put_case (Grows (m.chain d)) m.chain bc (r ∷ m.chain bc) d
        (λ f. record { more = r ∷ []; is = ap (λ (k : ℕ). r ∷ m.chain k) (sym f) }) (λ _. record { more = []; is = refl })

    won_rely : (j : ℕ) (v : View) → ((k : ℕ) → index v.call ≡ Some k → s.words (FreePlace k) ≢ r) → Rely j v s.words won m means
    won_rely j v apart = record {
      base = refl;
      count = refl;
      in_use = refl;
      place = λ k. refl;
      claim = omega arith;
      rows = λ q _. refl;
      live = live_after;
      tree = λ q l. tree_old q (other q l);
      chain = won_grows;
      own = λ d _. refl;
      dead = λ k f l. put_other m.live r true (s.words (FreePlace k)) (apart k f) ∙ l;
      root_count = refl;
      root = λ k. refl;
    }

    others_apart : (j : ℕ) → j ≢ i → (k : ℕ) → index (s.view j).call ≡ Some k → s.words (FreePlace k) ≢ r
    others_apart j ne k f same = let held = seat.drawn in
        let is : IsDrawn s.words m (s.view j).seen k = where_at (index (s.view j).call) (IsDrawn s.words m (s.view j).seen) k f (h.seats j).drawn.index in
        let g : k ≡ a = h.rows.differ k a is.counted held.index.counted (same ∙ held.row.place) in
        h.apart i j ne a (ap index e) (f ∙ ap Some g)

    pub kept_won : IsStoreSound z m.live (record { lock = s.lock; words = won; view = put s.view i (gained (s.view i) c r ((s.view i).base + a) (Make ((s.view i).base + a) c.head c.arguments r)) })
    kept_won =
        let v = s.view i in
        let number : ℕ = v.base + a in
        let v' : View = gained v c r number (Make number c.head c.arguments r) in
        let held = seat.drawn in
        let plain : SeatHolds s.words m i (with_call v (Ended c from)) = new_call s.words m i v (Publishing c from a r) (Ended c from) seat stay (record { walk = seat.walks.walk; look = tt }) (record { index = tt; row = tt }) tt seat.protects.wants in
        let later : SeatHolds won means i (with_call v (Ended c from)) = stable i (with_call v (Ended c from)) s.words won m means (won_rely i (with_call v (Ended c from)) (λ k f. absurd (cc))) (chains_live z s m h i) plain in
        let birth = held.row.filled.0.birth in
        let claimed = held.index.claimed in
        let based = own_base in
        record {
          meaning = means;
          grows = live_after;
          holds = kept_with z s m h i v' (apart_none z s m h i Idle refl) (h.lock.access i) won means won_rows won_chains
              (won_numbers v' refl (same_overdrawn z s m h i v' (apart_none z s m h i Idle refl) (h.lock.access i) refl (s.words Base)))
              (made_new z s m h i there stay c seat.protects.wants r number v' means dead (subst (λ (q : ℕ). q < z.rows) (sym held.row.place) (h.rows.there a held.index.counted)) (birth ∙ ap (λ (k : ℕ). k + a) (sym own_base)) (let l = held.index.later in omega arith)
              none_has (put_same m.live r true) (put_same m.tree r (grown m.tree c)) (λ q ne. put_other m.live r true q ne) tree_old (let l = held.index.later in omega arith) refl)
              (λ j ne. won_rely j (s.view j) (others_apart j ne))
              (gains won means i v z won_chains (Ended c from) later stay c r number (Make number c.head c.arguments r) (put_same m.live r true) held.row.filled.0.content (omega arith) (omega arith) (let l = held.index.later in omega arith) (omega arith));
        }

  by_test : (b : ℕ) → b ≡ bucket c (s.words InUse) → (t : Bool) → eqb (s.words (Bucket b)) from ≡ t
      → IsStoreSound z m.live (record {
        lock = s.lock;
        words = write s.words (Bucket b) (cond t (suc r) (s.words (Bucket b)));
        view = put s.view i (cond t (gained (s.view i) c r ((s.view i).base + a) (Make ((s.view i).base + a) c.head c.arguments r)) (with_call (s.view i) (arrived c (Some (a, r)) (s.words (Bucket b)) from (s.words (Bucket b)))));
      })
  by_test b is true f = subst (λ (k : ℕ). IsStoreSound z m.live (record { lock = s.lock; words = write s.words (Bucket k) (suc r); view = put s.view i (gained (s.view i) c r ((s.view i).base + a) (Make ((s.view i).base + a) c.head c.arguments r)) })) (sym is)
      (kept_won (ap (λ (k : ℕ). s.words (Bucket k)) (sym is) ∙ eqb_is (s.words (Bucket b)) from f))
  by_test b is false f =
      let y : Call = arrived c (Some (a, r)) (s.words (Bucket b)) from (s.words (Bucket b)) in
      let stage = lost b is in
      record { meaning = m; grows = λ r l. l; holds = loaded z s m h i (with_call (s.view i) y) (apart_stage z s m h i y (⊎_elim inl (λ g. inr (g ∙ ap index (sym e))) stage.index)) (h.lock.access i) (Bucket b) refl (history_same z s.words s.words m s.view i (with_call (s.view i) y) h.history refl (omega arith) refl (λ q _. refl)) stage.seat }

  pub kept_publishing : IsStoreSound z m.live (acted s.words s.view i s.lock (action (s.view i) (Publishing c from a r)))
  kept_publishing = by_test (bucket c (s.view i).in_use) b_is (eqb (s.words (Bucket (bucket c (s.view i).in_use))) from) refl
