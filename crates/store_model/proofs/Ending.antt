-- What decides whether a collection may end.
use Rattle.std.proofs.Common.{◌≡◌, ℕ, zero, suc, ◌<◌, ◌≤◌, eqb, Bool, true, false, cond, Option, None, Some, List, [], ◌∷◌, ◌++◌, length, get_or, refl, sym, ap, ◌∙◌, subst, ⊎_elim, inl, inr, arith, true≢false, eq-eqb}
use Rattle.std.specs.Prelude.{is_some}
use Rattle.std.proofs.lemmas.Bool.{cases_lt, ltb-true}
use Rattle.std.proofs.lemmas.List.{get_or_past}
use Rattle.store_model.specs.Words.{Place, Base, FreeCount, Claim, InUse, FreePlace, Bucket, RowWord, Birth, Next, RootCount, Root, row_at, same_place, write}
use Rattle.store_model.specs.Calls.{Content, bucket}
use Rattle.store_model.specs.Machine.{Sizes, State, Each, In}
use Rattle.store_model.specs.Meaning.{Meaning, Linked, Stands, IsOlder}
use Rattle.store_model.specs.Invariant.{Holds, RowsHold, ChainsHold}
use Rattle.store_model.specs.Collection.{argument}
use Rattle.store_model.specs.Shown.{shown, in_table, index_of}
use Rattle.store_model.specs.Steps.{loads, is_stored, is_storing, is_free, value_at, names_left, grown_use, MayEnd, CoreHolds}
use Rattle.store_model.specs.Marks.{IsMarked, MarksReached, MarksFree, ReachesPast, AreNotApart, AreOpposite}
use Rattle.store_model.specs.MarkedChains.{NotMeant, IsNoted}
use Rattle.store_model.specs.Ending.{IsEnding, IsWholeAgain, IsBroken, Keeps, BaseFollows, UseFollows}
use Rattle.store_model.proofs.Basics.{choose, each_in, same_is}
use Rattle.store_model.proofs.Chains.{linked_once}
use Rattle.store_model.proofs.Collects.{each_of, reached_live}
use Rattle.store_model.proofs.ByWords.{word, from_words, to_words}
use Rattle.store_model.proofs.Eight.{inductive}
use Rattle.store_model.proofs.Gains.{in_at}
use Rattle.store_model.proofs.Histories.{content_once}
use Rattle.store_model.proofs.NamesLeft.{by_bool, free_none, free_some}

not_true : (b : Bool) → (b ≡ true → ⊥) → b ≡ false
not_true true f = absurd (f refl)
not_true false f = refl

not_false : (b : Bool) → (b ≡ false → ⊥) → b ≡ true
not_false true f = refl
not_false false f = absurd (f refl)

each_at : (P : ℕ → Type 0) (xs : List ℕ) → ((k : ℕ) → k < length xs → P (get_or xs k 0)) → Each P xs
each_at P [] f = tt
each_at P (x ∷ xs) f = (f 0 (omega arith), each_at P xs (λ k l. f (suc k) (omega arith)))

free_at : (place : ℕ → ℕ) (n i : ℕ) → i < n → is_free place n (place i) ≡ true
free_at place zero i l = absurd (omega arith)
free_at place (suc n) i l = ⊎_elim
    (λ less. choose (λ (b : Bool). b ≡ true) (eqb (place n) (place i)) true (is_free place n (place i)) (λ _. refl) (λ _. free_at place n i less))
    (λ past. let e : n ≡ i = omega arith in ap (λ (b : Bool). cond b true (is_free place n (place i))) (eq-eqb (place n) (place i) (ap place e))) (cases_lt i n)

marked_below : (m : List Bool) (r : ℕ) → IsMarked m r → r < length m
marked_below m r h = ⊎_elim (λ l. l) (λ past. absurd (true≢false (sym h ∙ get_or_past m r false past))) (cases_lt r (length m))

same_itself : (p : Place) → same_place p p ≡ true
same_itself Base = refl
same_itself FreeCount = refl
same_itself Claim = refl
same_itself InUse = refl
same_itself (FreePlace i) = eq-eqb i i refl
same_itself (Bucket i) = eq-eqb i i refl
same_itself (RowWord r k) = ap (λ (b : Bool). cond b (eqb k k) false) (eq-eqb r r refl) ∙ eq-eqb k k refl
same_itself (Birth i) = eq-eqb i i refl
same_itself (Next i) = eq-eqb i i refl
same_itself (RootCount i) = eq-eqb i i refl
same_itself (Root j k) = ap (λ (b : Bool). cond b (eqb k k) false) (eq-eqb j j refl) ∙ eq-eqb k k refl

-- what was loaded first, after one more load
module _ (p : Place) where
  joined : (ls : List (Place × ℕ)) (x : Place × ℕ) (o : Option ℕ) → o ≡ value_at p ls → (is_some o ≡ true → o ≡ value_at p (ls ++ x ∷ [])) × (is_some o ≡ false → value_at p (x ∷ []) ≡ value_at p (ls ++ x ∷ []))
  joined [] x o e = ((λ s. absurd (true≢false (sym s ∙ ap is_some e))), λ _. refl)
  joined (y ∷ ls) x o e = choose (λ (v : Option ℕ). o ≡ v → (is_some o ≡ true → o ≡ cond (same_place y.0 p) (Some y.1) (value_at p (ls ++ x ∷ []))) × (is_some o ≡ false → value_at p (x ∷ []) ≡ cond (same_place y.0 p) (Some y.1) (value_at p (ls ++ x ∷ []))))
      (same_place y.0 p) (Some y.1) (value_at p ls)
      (λ t f. ((λ _. f ∙ ap (λ (b : Bool). cond b (Some y.1) (value_at p (ls ++ x ∷ []))) (sym t)), λ n. absurd (true≢false (ap is_some (sym f) ∙ n))))
      (λ t f. let k = joined ls x o f in
      ((λ s. k.0 s ∙ ap (λ (b : Bool). cond b (Some y.1) (value_at p (ls ++ x ∷ []))) (sym t)), λ s. k.1 s ∙ ap (λ (b : Bool). cond b (Some y.1) (value_at p (ls ++ x ∷ []))) (sym t))) e

  pub value_old : (ls : List (Place × ℕ)) (x : Place × ℕ) (o : Option ℕ) → o ≡ value_at p ls → {b : Bool} → b ≡ is_some o → b ≡ true → o ≡ value_at p (ls ++ x ∷ [])
  value_old ls x o e is t = (joined ls x o e).0 (sym is ∙ t)

  pub value_here : (ls : List (Place × ℕ)) (x : Place × ℕ) (o : Option ℕ) → o ≡ value_at p ls → {b : Bool} → b ≡ is_some o → b ≡ false → x.0 ≡ p → Some x.1 ≡ value_at p (ls ++ x ∷ [])
  value_here ls x o e is f same = ap (λ (b : Bool). cond b (Some x.1) None) (sym (ap (λ (q : Place). same_place q p) same ∙ same_itself p)) ∙ (joined ls x o e).1 (sym is ∙ f)

  pub value_none : (ls : List (Place × ℕ)) (x : Place × ℕ) (o : Option ℕ) → o ≡ value_at p ls → {b : Bool} → b ≡ is_some o → b ≡ false → {d : Bool} → (x.0 ≡ p → d ≡ true) → d ≡ false → None ≡ value_at p (ls ++ x ∷ [])
  value_none ls x o e is f other ne =
      ap (λ (b : Bool). cond b (Some x.1) None) (sym (not_true (same_place x.0 p) (λ t. true≢false (sym (other (same_is x.0 p t)) ∙ ne)))) ∙ (joined ls x o e).1 (sym is ∙ f)

-- what isn't a row of the store isn't reached
pub broken_past : (z : Sizes) (w : Place → ℕ) → ReachesPast w z.rows → IsBroken z w
broken_past z w p n h = let a = h.chains.below p.row ((h.live p.row).1 p.reached) in let b = p.past in omega arith

pub broken_apart : (z : Sizes) (w : Place → ℕ) → AreNotApart z w → IsBroken z w
broken_apart z w f n h = f n.live h.rows

module _ (z : Sizes) (w : Place → ℕ) (live : List Bool) (reached : MarksReached w z.rows live) where
  pub whole_opposite : (free : List Bool) → MarksFree z w free → (n : Meaning) → IsWholeAgain z w n → AreOpposite live free
  whole_opposite free f n h r l same =
      let inside : r < z.rows = (let s = reached.size in omega arith) in
      let is = f.places.marked r inside in
      let place : ℕ → ℕ = λ i. w (FreePlace i) in
      ⊎_elim
      (λ e. let t = free_some place (w FreeCount) r e in
      let there : n.live r ≡ true = (h.live r).1 ((reached.marked r).0 (same ∙ (is ∙ e))) in
      true≢false (sym there ∙ (ap n.live (sym t.2) ∙ h.rows.free t.0 (omega arith) t.1)))
      (λ e. let there : n.live r ≡ true = h.rows.others r inside (free_none place (w FreeCount) r e) in
      true≢false (sym ((reached.marked r).1 ((h.live r).0 there)) ∙ (same ∙ (is ∙ e)))) (by_bool (is_free place (w FreeCount) r))

  pub broken_chains : NotMeant z w live → IsBroken z w
  broken_chains f n h = f n record { chains = h.chains; live = λ r. ((λ l. (reached.marked r).1 ((h.live r).0 l)), λ k. (h.live r).1 ((reached.marked r).0 k)) }

-- heads past the buckets are 0
pub no_heads : (z : Sizes) (words : List ℕ) (b : ℕ) → z.buckets ≤ b → shown z words (Bucket b) ≡ 0
no_heads z words b past = choose (λ (n : ℕ). n ≡ 0) (in_table z (Bucket b)) (get_or words (index_of z (Bucket b)) 0) 0
    (λ e. let l = ltb-true b z.buckets e in absurd (omega arith)) (λ _. refl)

module _ (z : Sizes) (s : State) (k : CoreHolds z s) (i : ℕ) (storing : is_storing (s.view i).call ≡ true) (heads : (b : ℕ) → z.buckets ≤ b → s.words (Bucket b) ≡ 0) where
  still : (p : Place) → is_stored p ≡ false → s.words p ≡ k.kept p
  still = k.under.stored i storing

  before : Holds z (record { lock = s.lock; words = k.kept; view = s.view }) k.meaning
  before = k.holds

  module _ (kept : ℕ) (h : Keeps z s.words kept) where
    was_live : (r : ℕ) → IsMarked h.live r → k.meaning.live r ≡ true
    was_live r l = reached_live z (record { lock = s.lock; words = k.kept; view = s.view }) k.meaning before r (from_words z s k i storing r ((h.reached.marked r).0 l))

    chain : (b : ℕ) → b < s.words InUse → IsNoted z s.words h.live h.chains.standing (s.words InUse) b
    chain = h.chains.chains.chain

    chain_rows : ℕ → List ℕ
    chain_rows b = ⊎_elim (λ l. (chain b l).rows) (λ _. []) (cases_lt b (s.words InUse))

    chain_case : (P : List ℕ → Type 0) (b : ℕ) → ((l : b < s.words InUse) → P (chain b l).rows) → (s.words InUse ≤ b → P []) → P (chain_rows b)
    unfolding chain_rows
    chain_case P b f g = elim (cases_lt b (s.words InUse)) as (λ t. P (⊎_elim (λ l. (chain b l).rows) (λ _. []) t)) [ inl l ↦ f l | inr past ↦ g past ]

    abbrev meant : Meaning
    meant = record { chain = chain_rows; live = λ r. get_or h.live r false; content = k.meaning.content; tree = k.meaning.tree }

    -- a row of a chain is of its bucket
    of_bucket : (b : ℕ) (l : b < s.words InUse) (j : ℕ) → j < length (chain b l).rows → bucket (k.meaning.content (get_or (chain b l).rows j 0)) (s.words InUse) ≡ b
    of_bucket b l j below =
        let r : ℕ = get_or (chain b l).rows j 0 in
        let t = (chain b l).sound.standing j below in
        let live = was_live r ((chain b l).sound.marked j below) in
        let same : k.meaning.content r ≡ t.content = content_once (row_at s.words r) (k.meaning.content r) t.content (before.chains.over r live) t.has.over (λ q a. word z s k i storing r q live a) t.has.words in
        ap (λ (c : Content). bucket c (s.words InUse)) same ∙ t.bucket

    meant_rows : RowsHold z (write s.words Claim 0) meant
    meant_rows = let f = h.places in let place : ℕ → ℕ = (λ j. s.words (FreePlace j)) in record {
      few = f.few;
      there = f.there;
      differ = f.places.differ;
      others = λ r l none. not_false (get_or h.live r false) (λ e. h.opposite r (let a = h.reached.size in omega arith)
          (e ∙ (sym (not_true (is_free place (s.words FreeCount) r) (λ t. let g = free_some place (s.words FreeCount) r t in none g.0 g.1 g.2)) ∙ sym (f.places.marked r l))));
      free = λ j _ l. let r : ℕ = s.words (FreePlace j) in let inside : r < z.rows = f.there j l in
          not_true (get_or h.live r false) (λ e. h.opposite r (let a = h.reached.size in omega arith) (e ∙ (sym (free_at place (s.words FreeCount) j l) ∙ sym (f.places.marked r inside))));
    }

    present : (r : ℕ) → IsMarked h.live r → In r (chain_rows (bucket (k.meaning.content r) (s.words InUse)))
    present r l =
        let c = h.chains.chains.only r (h.chains.all r l) in
        let same : (b : c.bucket < s.words InUse) → (chain c.bucket b).rows ≡ c.rows = (λ b. linked_once (row_at s.words) (s.words (Bucket c.bucket)) (chain c.bucket b).rows c.rows (chain c.bucket b).sound.chain.linked c.linked) in
        let inside : In r c.rows = subst (λ (q : ℕ). In q c.rows) c.is (in_at c.rows c.at c.within) in
        let e = same c.used in
        let within : c.at < length (chain c.bucket c.used).rows = (let a = ap (λ (xs : List ℕ). length xs) e in let d = c.within in omega arith) in
        let is : get_or (chain c.bucket c.used).rows c.at 0 ≡ r = ap (λ (xs : List ℕ). get_or xs c.at 0) e ∙ c.is in
        let number : c.bucket ≡ bucket (k.meaning.content r) (s.words InUse) = sym (of_bucket c.bucket c.used c.at within) ∙ ap (λ (q : ℕ). bucket (k.meaning.content q) (s.words InUse)) is in
        subst (λ (b : ℕ). In r (chain_rows b)) number (chain_case (λ xs. In r xs) c.bucket (λ b. subst (λ (xs : List ℕ). In r xs) (sym (same b)) inside) (λ past. absurd (let a = c.used in omega arith)))

    older : (r : ℕ) → IsMarked h.live r → (a : ℕ) → In a (k.meaning.content r).arguments → IsOlder meant.live (row_at s.words) (s.words (Birth r)) a
    older r l a inside =
        let o = each_in (IsOlder k.meaning.live (row_at k.kept) (k.kept (Birth r))) a (k.meaning.content r).arguments (before.chains.arguments r (was_live r l)) inside in
        record {
          live = (h.reached.marked a).1 (to_words z s k i storing a (argument r a (from_words z s k i storing r ((h.reached.marked r).0 l)) inside));
          older = let b = o.older in let p = still (Birth a) refl in let q = still (Birth r) refl in omega arith;
        }

    meant_chains : ChainsHold z (write s.words Claim 0) meant
    meant_chains = let old = before.chains in let u = h.chains.uses in record {
      used = u.used;
      within = u.within;
      linked = λ b. chain_case (λ xs. Linked (row_at s.words) (s.words (Bucket b)) xs) b (λ l. (chain b l).sound.chain.linked) (λ past. ⊎_elim (λ less. u.beyond b past less) (heads b) (cases_lt b z.buckets));
      standing = λ b. chain_case (λ xs. Each (Stands meant (s.words InUse) b) xs) b
          (λ l. each_at (Stands meant (s.words InUse) b) (chain b l).rows (λ j below. record { live = (chain b l).sound.marked j below; bucket = of_bucket b l j below })) (λ _. tt);
      beyond = λ b past. chain_case (λ xs. xs ≡ []) b (λ l. absurd (omega arith)) (λ _. refl);
      present = present;
      below = λ r l. let a = marked_below h.live r l in let b = h.reached.size in omega arith;
      over = λ r l. old.over r (was_live r l);
      words = λ r l j b. word z s k i storing r j (was_live r l) b;
      arguments = λ r l. each_of (IsOlder meant.live (row_at s.words) (s.words (Birth r))) (k.meaning.content r).arguments (older r l);
      trees = λ r l. old.trees r (was_live r l);
      differ = λ r q a b. old.differ r q (was_live r a) (was_live q b);
    }

    pub ends : BaseFollows s.words (loads (s.view i).call) → UseFollows z s.words (loads (s.view i).call) kept → MayEnd z s i
    ends b u = record {
      meaning = meant;
      rows = meant_rows;
      chains = meant_chains;
      live = h.reached.marked;
      base = b.base;
      claim = b.claim;
      in_use = u.in_use;
      base_loaded = b.base_loaded;
      claim_loaded = b.claim_loaded;
      in_use_loaded = u.loaded;
      base_is = b.is;
      in_use_is = u.is ∙ ap (grown_use z u.in_use) h.count;
    }

module _ (z : Sizes) (words : List ℕ) (ls : List (Place × ℕ)) (s : State) (i : ℕ) (h : IsEnding z (shown z words) ls s i) where
  -- a collection that keeps what is reached may end where its numbers follow
  pub ends_by : (kept : ℕ) → Keeps z (shown z words) kept → BaseFollows (shown z words) ls → UseFollows z (shown z words) ls kept → MayEnd z s i
  ends_by kept k b u = ends z s (inductive z s h.holds).core i h.storing (λ b past. ap (λ (w : Place → ℕ). w (Bucket b)) h.words ∙ no_heads z words b past) kept
      (subst (λ (w : Place → ℕ). Keeps z w kept) (sym h.words) k)
      (subst (λ (w : Place → ℕ). BaseFollows w (loads (s.view i).call)) (sym h.words) (subst (BaseFollows (shown z words)) (sym h.loaded) b))
      (subst (λ (w : Place → ℕ). UseFollows z w (loads (s.view i).call) kept) (sym h.words) (subst (λ (xs : List (Place × ℕ)). UseFollows z (shown z words) xs kept) (sym h.loaded) u))

  -- and no other
  pub base_followed : MayEnd z s i → BaseFollows (shown z words) ls
  base_followed e = subst (λ (w : Place → ℕ). BaseFollows w ls) h.words (subst (BaseFollows s.words) h.loaded (record { base = e.base; claim = e.claim; base_loaded = e.base_loaded; claim_loaded = e.claim_loaded; is = e.base_is }))

  pub use_followed : (kept : ℕ) → Keeps z (shown z words) kept → MayEnd z s i → UseFollows z (shown z words) ls kept
  use_followed kept k e =
      let same : length (names_left z s.words) ≡ kept = ap (λ (w : Place → ℕ). length (names_left z w)) h.words ∙ sym k.count in
      subst (λ (w : Place → ℕ). UseFollows z w ls kept) h.words (subst (λ (xs : List (Place × ℕ)). UseFollows z s.words xs kept) h.loaded
      (record { in_use = e.in_use; loaded = e.in_use_loaded; is = e.in_use_is ∙ ap (grown_use z e.in_use) same }))

  pub ends_whole : IsBroken z (shown z words) → MayEnd z s i → ⊥
  ends_whole f e = subst (IsBroken z) (sym h.words) f e.meaning (record { rows = e.rows; chains = e.chains; live = e.live })
