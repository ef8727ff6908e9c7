-- What the words say at the end of a collection, of the rows that were live.
use Rattle.std.proofs.Common.{Option, Some, ◌+◌, ◌≤◌, ◌^◌, ltb-false, ◌≡◌, ℕ, suc, ◌<◌, true, false, List, [], ◌∷◌, length, get_or, refl, sym, ap, ◌∙◌, subst, ⊎_elim, arith}
use Rattle.term_model.specs.declared.Head.{Head}
use Rattle.term_model.specs.declared.Head.TheVariants.{App, Int, Nil, Cons}
use Rattle.store_model.specs.Words.{Place, same_place, Base, FreeCount, Claim, InUse, RowWord, Birth, RootCount, Root, write, row_at}
use Rattle.store_model.specs.Calls.{Content, words_of, IsOver, bucket}
use Rattle.hash_buckets.specs.Spelled.{spelled}
use Rattle.store_model.specs.Machine.{Sizes, State, Each, In}
use Rattle.store_model.specs.Meaning.{Meaning, Stands, IsOlder}
use Rattle.store_model.specs.Invariant.{span, Holds, ChainsHold}
use Rattle.store_model.specs.Collection.{Reaches, protected, argument, IsCollected, AreKept}
use Rattle.store_model.specs.Steps.{loads, is_stored, is_storing, ReachesByWords, protected_row, argument_row, value_at, is_worn, worn_by, names_left, MayEnd, CoreHolds}
use Rattle.store_model.proofs.Basics.{choose, each_map, same_is}
use Rattle.store_model.proofs.Histories.{content_once}
use Rattle.store_model.proofs.Gains.{argument_at, two_words, enough_words}
use Rattle.store_model.proofs.Collects.{reached_live}
use Rattle.store_model.proofs.NamesLeft.{names_kept}

-- what was loaded is there
pub value_is : (w : Place → ℕ) (p : Place) (n : ℕ) (ls : List (Place × ℕ)) → Each (λ q. w q.0 ≡ q.1) ls → value_at p ls ≡ Some n → w p ≡ n
value_is w p n [] h e = absurd (cc)
value_is w p n (x ∷ xs) h e = choose (λ (o : Option ℕ). o ≡ Some n → w p ≡ n) (same_place x.0 p) (Some x.1) (value_at p xs)
    (λ same f. ap w (sym (same_is x.0 p same)) ∙ (h.0 ∙ (let g : x.1 ≡ n = cc in g)))
    (λ _ f. value_is w p n xs h.1 f) e

-- where an argument stands
pub record StandsAt (a : ℕ) (rs : List ℕ) : Type 0 where
  pub place : ℕ
  pub below : place < length rs
  pub is : get_or rs place 0 ≡ a

in_where : (a : ℕ) (rs : List ℕ) → In a rs → StandsAt a rs
in_where a [] i = absurd i
in_where a (r ∷ rs) i = ⊎_elim (λ e. record { place = 0; below = omega arith; is = sym e }) (λ k. let s = in_where a rs k in record { place = suc s.place; below = let b = s.below in omega arith; is = s.is }) i

-- an argument, by the words of its content
pub spelled_at : (f : Head) (rs : List ℕ) (k : ℕ) → IsOver f rs → k < length rs → (k < get_or (spelled f rs) 1 0) × (get_or (spelled f rs) (suc (suc k)) 0 ≡ get_or rs k 0)
spelled_at (App f) rs k o l = (l, refl)
spelled_at (Int v) rs k o l = absurd (let e : length rs ≡ 0 = ap length o in omega arith)
spelled_at Nil rs k o l = absurd (let e : length rs ≡ 0 = ap length o in omega arith)
spelled_at Cons rs k o l = ((let n : length rs ≡ 2 = o in omega arith), refl)

module _ (z : Sizes) (s : State) (k : CoreHolds z s) (i : ℕ) (storing : is_storing (s.view i).call ≡ true) where
  m : Meaning
  m = k.meaning

  still : (p : Place) → is_stored p ≡ false → s.words p ≡ k.kept p
  still = k.under.stored i storing

  before : Holds z (record { lock = s.lock; words = k.kept; view = s.view }) k.meaning
  before = k.holds

  pub word : (r j : ℕ) → k.meaning.live r ≡ true → j < length (words_of (k.meaning.content r)) → s.words (RowWord r j) ≡ get_or (words_of (k.meaning.content r)) j 0
  word r j l b = still (RowWord r j) refl ∙ before.chains.words r l j b

  pub from_words : (r : ℕ) → ReachesByWords s.words r → Reaches k.kept k.meaning r
  from_words r (protected_row j q l) = subst (Reaches k.kept k.meaning) (sym (still (Root j q) refl)) (protected j q (let e = still (RootCount j) refl in omega arith))
  from_words r (argument_row t q y l) =
      let up = from_words t y in
      let live = reached_live z (record { lock = s.lock; words = k.kept; view = s.view }) k.meaning before t up in
      let c : Content = k.meaning.content t in
      let over = before.chains.over t live in
      let count = word t 1 live (two_words c.head c.arguments) in
      let below : q < get_or (words_of c) 1 0 = omega arith in
      let is = word t (suc (suc q)) live (enough_words c.head c.arguments q over below) in
      subst (Reaches k.kept k.meaning) (sym is) (argument t (get_or (words_of c) (suc (suc q)) 0) up (argument_at c.head c.arguments q over below))

  pub to_words : (r : ℕ) → Reaches k.kept k.meaning r → ReachesByWords s.words r
  to_words r (protected j q l) = subst (ReachesByWords s.words) (still (Root j q) refl) (protected_row j q (let e = still (RootCount j) refl in omega arith))
  to_words a (argument t _ y inside) =
      let live = reached_live z (record { lock = s.lock; words = k.kept; view = s.view }) k.meaning before t y in
      let c : Content = k.meaning.content t in
      let over = before.chains.over t live in
      let at = in_where a c.arguments inside in
      let spell = spelled_at c.head c.arguments at.place over at.below in
      let count = word t 1 live (two_words c.head c.arguments) in
      let below : at.place < s.words (RowWord t 1) = (let b = spell.0 in omega arith) in
      let is = word t (suc (suc at.place)) live (enough_words c.head c.arguments at.place over spell.0) in
      subst (ReachesByWords s.words) (is ∙ (spell.1 ∙ at.is)) (argument_row t at.place (to_words t y) below)

  module _ (fits : worn_by z (loads (s.view i).call) ≡ false) (e : MayEnd z s i) where
    -- the chains and live rows of the new words, with the contents and trees of before
    abbrev joined : Meaning
    joined = record { chain = e.meaning.chain; live = e.meaning.live; content = k.meaning.content; tree = k.meaning.tree }

    was_live : (r : ℕ) → e.meaning.live r ≡ true → k.meaning.live r ≡ true
    was_live r l = reached_live z (record { lock = s.lock; words = k.kept; view = s.view }) k.meaning before r (from_words r ((e.live r).0 l))

    same_content : (r : ℕ) → e.meaning.live r ≡ true → e.meaning.content r ≡ k.meaning.content r
    same_content r l = content_once (row_at s.words r) (e.meaning.content r) (k.meaning.content r) (e.chains.over r l) (before.chains.over r (was_live r l)) (e.chains.words r l) (λ j b. word r j (was_live r l) b)

    joined_chains : ChainsHold z (write s.words Claim 0) joined
    joined_chains = let new = e.chains in let old = before.chains in record {
      used = new.used;
      within = new.within;
      linked = new.linked;
      standing = λ b. each_map (Stands e.meaning (s.words InUse) b) (Stands joined (s.words InUse) b) (e.meaning.chain b) (λ r t. record { live = t.live; bucket = ap (λ (c : Content). bucket c (s.words InUse)) (sym (same_content r t.live)) ∙ t.bucket }) (new.standing b);
      beyond = new.beyond;
      present = λ r l. subst (λ (c : Content). In r (e.meaning.chain (bucket c (s.words InUse)))) (same_content r l) (new.present r l);
      below = new.below;
      over = λ r l. old.over r (was_live r l);
      words = λ r l j b. word r j (was_live r l) b;
      arguments = λ r l. subst (λ (c : Content). Each (IsOlder e.meaning.live (row_at s.words) (s.words (Birth r))) c.arguments) (same_content r l) (each_map (IsOlder e.meaning.live (row_at (write s.words Claim 0)) (s.words (Birth r))) (IsOlder e.meaning.live (row_at s.words) (s.words (Birth r))) (e.meaning.content r).arguments (λ a t. record { live = t.live; older = t.older }) (new.arguments r l));
      trees = λ r l. old.trees r (was_live r l);
      differ = λ r q a b. old.differ r q (was_live r a) (was_live q b);
    }

    base_was : k.kept Base ≡ e.base
    base_was = value_is k.kept Base e.base (loads (s.view i).call) (k.under.loaded i) e.base_loaded

    claim_was : k.kept Claim ≡ e.claim
    claim_was = value_is k.kept Claim e.claim (loads (s.view i).call) (k.under.loaded i) e.claim_loaded

    -- there is room for another epoch
    room : s.words Base + span z ≤ 2 ^ 62
    room =
        let whole = k.under.whole i storing in
        let ls : List (Place × ℕ) = loads (s.view i).call in
        let worn : is_worn z (Some (k.kept Base)) (Some (k.kept Claim)) (Some (k.kept FreeCount)) ≡ worn_by z ls =
        sym (ap (λ (o : Option ℕ). is_worn z o (value_at Claim ls) (value_at FreeCount ls)) whole.base
        ∙ (ap (λ (o : Option ℕ). is_worn z (Some (k.kept Base)) o (value_at FreeCount ls)) whole.claim ∙ ap (is_worn z (Some (k.kept Base)) (Some (k.kept Claim))) whole.count)) in
        let a = ltb-false (2 ^ 62) (k.kept Base + k.kept Claim + 1 + span z) (worn ∙ fits) in
        let b = base_was in let c = claim_was in let d = e.base_is in omega arith

    pub by_words : (n : Meaning) × IsCollected z k.kept (write s.words Claim 0) k.meaning n × AreKept n (names_left z s.words)
    by_words = (
      joined,
      record {
        rows = e.rows;
        chains = joined_chains;
        content = refl;
        tree = refl;
        live = λ r. ((λ l. from_words r ((e.live r).0 l)), λ y. (e.live r).1 (to_words r y));
        births = λ r. still (Birth r) refl;
        row_words = λ r q. still (RowWord r q) refl;
        root_counts = λ j. still (RootCount j) refl;
        roots = λ j q. still (Root j q) refl;
        base = let a = base_was in let b = claim_was in let c = e.base_is in omega arith;
        claim = refl;
        room = room;
      },
      names_kept z s.words joined e.rows joined_chains,
    )
