-- Walks that make a chain, and the chains of marked rows.
use Rattle.std.proofs.Common.{◌≡◌, ◌↔◌, ℕ, suc, ◌+◌, ◌<◌, ◌≤◌, Bool, true, false, List, [], ◌∷◌, ◌++◌, length, get_or, take, drop, refl, sym, ap, ◌∙◌, subst, ⊎_elim, arith, append-nil, append_assoc, length-append}
use Rattle.std.specs.Prelude.{replicate, MatchBool}
use Rattle.std.proofs.lemmas.Bool.{cases_lt}
use Rattle.std.proofs.lemmas.List.{length-replicate, drop_all, take_all, length_push, get_or_push, get_or_append_left}
use Rattle.store_model.specs.Words.{row_at, write}
use Rattle.store_model.specs.declared.view.Place.{Place}
use Rattle.store_model.specs.declared.view.Place.TheVariants.{Claim, InUse, Bucket, Birth, Next}
use Rattle.store_model.specs.Calls.{bucket, bucket_below}
use Rattle.store_model.specs.Machine.{Each, In}
use Rattle.store_model.specs.declared.view.Sizes.{Sizes}
use Rattle.store_model.specs.Meaning.{Meaning, Linked, Stands, IsOlder}
use Rattle.store_model.specs.Invariant.{ChainsHold}
use Rattle.store_model.specs.Marks.{IsMarked, Marks}
use Rattle.store_model.specs.MarkedChains.{IsMeant, NotMeant, HasContent, OneStrays, IsChain, HasPassed, IsSound, IsNoted, StandInFirst, AllStand, UsesBuckets, ChainsMarked}
use Rattle.store_model.proofs.Basics.{each_in, each_map, each_right}
use Rattle.store_model.proofs.Chains.{linked_once}
use Rattle.store_model.proofs.Short.{chain_few}
use Rattle.store_model.proofs.Gains.{in_at}
use Rattle.store_core.proofs.Outcomes.{match_by, never}
use Rattle.store_model.proofs.Marked.{none_marked}

more_below : (P : ℕ → Type 0) (xs : List ℕ) (x : ℕ) → P x → ((k : ℕ) → k < length xs → P (get_or xs k 0)) → (k : ℕ) → k < length (xs ++ x ∷ []) → P (get_or (xs ++ x ∷ []) k 0)
more_below P xs x h f k l = ⊎_elim
    (λ a. subst P (sym (get_or_append_left xs (x ∷ []) 0 k a)) (f k a))
    (λ a. let e : length xs ≡ k = (let b = length_push xs x in omega arith) in subst P (sym (get_or_push xs x 0 k e)) h) (cases_lt k (length xs))

-- where an element stands
pub where_in : (xs : List ℕ) (r : ℕ) → In r xs → (k : ℕ) × (k < length xs) × (get_or xs k 0 ≡ r)
where_in [] r i = absurd i
where_in (x ∷ xs) r i = ⊎_elim (λ e. (0, omega arith, sym e)) (λ j. let t = where_in xs r j in (suc t.0, (let l = t.1 in omega arith), t.2)) i

module _ (z : Sizes) (w : Place → ℕ) (head : ℕ) where
  pub passed_none : HasPassed z w head head []
  passed_none = record { joins = λ rest h. h; splits = λ chain h. (chain, refl, h); below = λ k l. absurd (omega arith); few = omega arith }

  next_of : (at r : ℕ) (rest : List ℕ) → at ≡ suc r → Linked (row_at w) at rest → (more : List ℕ) × (rest ≡ r ∷ more) × Linked (row_at w) (w (Next r)) more
  next_of at r [] e h = absurd (let a : at ≡ 0 = h in omega arith)
  next_of at r (q ∷ rest) e h = let same : q ≡ r = (let a = h.0 in omega arith) in
      (rest, ap (λ (k : ℕ). k ∷ rest) same, subst (λ (k : ℕ). Linked (row_at w) (w (Next k)) rest) same h.1)

  pub passed_more : (at r : ℕ) (xs : List ℕ) → at ≡ suc r → r < z.rows → length xs < z.rows → HasPassed z w head at xs → HasPassed z w head (w (Next r)) (xs ++ r ∷ [])
  passed_more at r xs e b few h = record {
    joins = λ rest k. subst (λ (ys : List ℕ). Linked (row_at w) head ys) (sym (append_assoc xs (r ∷ []) rest)) (h.joins (r ∷ rest) (e, k));
    splits = λ chain k. let s = h.splits chain k in let t = next_of at r s.0 e s.2 in
        (t.0, s.1 ∙ (ap (λ (ys : List ℕ). xs ++ ys) t.1 ∙ sym (append_assoc xs (r ∷ []) t.0)), t.2);
    below = more_below (λ k. k < z.rows) xs r b h.below;
    few = let a = length_push xs r in omega arith;
  }

module _ (z : Sizes) (w : Place → ℕ) (b : ℕ) where
  pub passed_all : (at : ℕ) (xs : List ℕ) → at ≡ 0 → HasPassed z w (w (Bucket b)) at xs → IsChain z w b xs
  passed_all at xs e h = record { linked = subst (λ (ys : List ℕ). Linked (row_at w) (w (Bucket b)) ys) (append-nil xs) (h.joins [] e); below = h.below }

  module _ (n : Meaning) (c : ChainsHold z (write w Claim 0) n) where
    chain_below : Each (λ r. r < z.rows) (n.chain b)
    chain_below = each_map (Stands n (w InUse) b) (λ r. r < z.rows) (n.chain b) (λ r s. c.below r s.live) (c.standing b)

    past_in : (at : ℕ) (rest : List ℕ) → 0 < at → Linked (row_at w) at rest → Each (λ r. r < z.rows) rest → at ≤ z.rows
    past_in at [] l h e = absurd (let a : at ≡ 0 = h in omega arith)
    past_in at (q ∷ rest) l h e = let a : at ≡ suc q = h.0 in let d = e.0 in omega arith

    some_in : (at : ℕ) (rest : List ℕ) → 0 < at → Linked (row_at w) at rest → 0 < length rest
    some_in at [] l h = absurd (let a : at ≡ 0 = h in omega arith)
    some_in at (q ∷ rest) l h = omega arith

  -- a walk that comes to no row of the store
  pub passed_past : (at : ℕ) (xs : List ℕ) → 0 < at → z.rows < at → HasPassed z w (w (Bucket b)) at xs → (n : Meaning) → ChainsHold z (write w Claim 0) n → ⊥
  passed_past at xs l past h n c =
      let s = h.splits (n.chain b) (c.linked b) in
      let e = past_in n c at s.0 l s.2 (each_right (λ r. r < z.rows) xs s.0 (subst (λ (ys : List ℕ). Each (λ r. r < z.rows) ys) s.1 (chain_below n c))) in omega arith

  -- and one that passes too many
  pub passed_long : (at : ℕ) (xs : List ℕ) → 0 < at → z.rows ≤ length xs → HasPassed z w (w (Bucket b)) at xs → (n : Meaning) → ChainsHold z (write w Claim 0) n → ⊥
  passed_long at xs l long h n c =
      let s = h.splits (n.chain b) (c.linked b) in
      let few = chain_few z (write w Claim 0) n c b in
      let some = some_in n c at s.0 l s.2 in
      let a = ap (λ (ys : List ℕ). length ys) s.1 in
      let d = length-append xs s.0 in omega arith

module _ (z : Sizes) (w : Place → ℕ) (marks : List Bool) (n : Meaning) (h : IsMeant z w marks n) where
  -- the chain that was walked is the one that is meant
  pub chain_is : (b : ℕ) (xs : List ℕ) → Linked (row_at w) (w (Bucket b)) xs → n.chain b ≡ xs
  chain_is b xs k = linked_once (row_at w) (w (Bucket b)) (n.chain b) xs (h.chains.linked b) k

  stands : (b : ℕ) (xs : List ℕ) → Linked (row_at w) (w (Bucket b)) xs → (k : ℕ) → k < length xs → Stands n (w InUse) b (get_or xs k 0)
  stands b xs k i l = each_in (Stands n (w InUse) b) (get_or xs i 0) (n.chain b) (h.chains.standing b) (subst (In (get_or xs i 0)) (sym (chain_is b xs k)) (in_at xs i l))

  pub meant_marked : (b : ℕ) (xs : List ℕ) → Linked (row_at w) (w (Bucket b)) xs → (k : ℕ) → k < length xs → IsMarked marks (get_or xs k 0)
  meant_marked b xs k i l = (h.live (get_or xs i 0)).0 (stands b xs k i l).live

  has : (r : ℕ) → n.live r ≡ true → HasContent w r (n.content r)
  has r l = record { over = h.chains.over r l; words = h.chains.words r l }

  args_below : (r : ℕ) → n.live r ≡ true → Each (λ a. a < z.rows) (n.content r).arguments
  args_below r l = each_map (IsOlder n.live (row_at (write w Claim 0)) (w (Birth r))) (λ a. a < z.rows) (n.content r).arguments (λ a o. h.chains.below a o.live) (h.chains.arguments r l)

  pub meant_stands : (b : ℕ) (xs : List ℕ) → Linked (row_at w) (w (Bucket b)) xs → OneStrays z w (w InUse) b xs → ⊥
  meant_stands b xs k o =
      let s = stands b xs k o.at o.within in
      o.strays (n.content (get_or xs o.at 0)) (has (get_or xs o.at 0) s.live) (args_below (get_or xs o.at 0) s.live) s.bucket

  -- each marked row stands
  pub meant_all : (standing : List Bool) → StandInFirst z w marks (w InUse) (w InUse) standing → AllStand marks standing
  meant_all standing f r l =
      let live = (h.live r).1 l in
      let b : ℕ = bucket (n.content r) (w InUse) in
      let used : b < w InUse = bucket_below (n.content r) (w InUse) h.chains.used in
      let c = f.chain b used in
      let at = where_in c.rows r (subst (In r) (chain_is b c.rows c.sound.chain.linked) (h.chains.present r live)) in
      subst (IsMarked standing) at.2 (c.noted at.0 at.1)

pub meant_uses : (z : Sizes) (w : Place → ℕ) (marks : List Bool) (n : Meaning) → IsMeant z w marks n → UsesBuckets z w
meant_uses z w marks n h = record {
  used = h.chains.used;
  within = h.chains.within;
  beyond = λ b l _. subst (λ (ys : List ℕ). Linked (row_at w) (w (Bucket b)) ys) (h.chains.beyond b l) (h.chains.linked b);
}

module _ (z : Sizes) (w : Place → ℕ) (marks : List Bool) (u : ℕ) where
  pub first_none : StandInFirst z w marks u 0 (replicate z.rows false)
  first_none = record { size = length-replicate z.rows false; chain = λ b l. absurd (omega arith); only = λ r k. absurd (none_marked z.rows r k) }

  keeps_noted : (standing after : List Bool) (b : ℕ) → ((r : ℕ) → IsMarked standing r → IsMarked after r) → IsNoted z w marks standing u b → IsNoted z w marks after u b
  keeps_noted standing after b f h = record { rows = h.rows; sound = h.sound; noted = λ k l. f (get_or h.rows k 0) (h.noted k l) }

  pub first_more : (n : ℕ) (standing after : List Bool) (xs : List ℕ) → StandInFirst z w marks u n standing → IsSound z w marks u n xs → Marks (λ k. get_or xs k 0) (length xs) standing after → StandInFirst z w marks u (n + 1) after
  first_more n standing after xs h s m = record {
    size = m.size ∙ h.size;
    chain = λ b l. ⊎_elim (λ less. keeps_noted standing after b m.kept (h.chain b less))
        (λ past. let e : n ≡ b = omega arith in subst (IsNoted z w marks after u) e (record { rows = xs; sound = s; noted = m.all })) (cases_lt b n);
    only = λ r k. ⊎_elim (λ t. let c = h.only r t in record { bucket = c.bucket; used = (let l = c.used in omega arith); rows = c.rows; linked = c.linked; at = c.at; within = c.within; is = c.is })
        (λ (t : (k : ℕ) × (k < length xs) × (get_or xs k 0 ≡ r)). record { bucket = n; used = omega arith; rows = xs; linked = s.chain.linked; at = t.0; within = t.1; is = t.2 }) (m.only r k);
  }

-- a slice that was written whole
pub whole : (n : ℕ) (xs ys : List Bool) → n ≡ length ys → length xs ≡ length ys → take n (xs ++ drop (length xs) ys) ≡ xs
whole n xs ys e f = ap (λ (zs : List Bool). take n (xs ++ zs)) (drop_all (length xs) ys (omega arith)) ∙ (ap (take n) (append-nil xs) ∙ take_all n xs (omega arith))

pub chains_by : (z : Sizes) (w : Place → ℕ) (marks : List Bool) (u : ℕ) (standing : List Bool) (b : Bool) → u ≡ w InUse → UsesBuckets z w → StandInFirst z w marks u u standing → ((b ≡ true) ↔ AllStand marks standing) → MatchBool b (ChainsMarked z w marks) (NotMeant z w marks)
chains_by z w marks u standing b is uses first all =
    let h : StandInFirst z w marks (w InUse) (w InUse) standing = subst (λ (v : ℕ). StandInFirst z w marks v v standing) is first in
    match_by b (ChainsMarked z w marks) (NotMeant z w marks)
    (λ e. record { uses = uses; standing = standing; chains = h; all = all.0 e })
    (λ e n m. never b e (all.1 (meant_all z w marks n m standing h)))
