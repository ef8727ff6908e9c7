-- What a collection that has loaded words knows of them: that its store is sound.
use Rattle.std.proofs.Common.{◌≡◌, ◌≢◌, ℕ, zero, suc, ◌+◌, ◌≤◌, Bool, true, false, Some, List, sym, ap, ◌∙◌, subst, arith}
use Rattle.store_model.specs.declared.view.Sizes.{Sizes}
use Rattle.store_model.specs.declared.view.View.{View}
use Rattle.store_model.specs.declared.view.Place.{Place}
use Rattle.store_model.specs.declared.view.Place.TheVariants.{Base, FreeCount, Claim, InUse, RootCount}
use Rattle.store_model.specs.declared.view.Call.{Call}
use Rattle.store_model.specs.declared.view.Call.TheVariants.{Loading}
use Rattle.store_model.specs.declared.view.Stay.TheVariants.{Away, Ready}
use Rattle.store_model.specs.Machine.{State, Each}
use Rattle.store_model.specs.Invariant.{tally, one_if, is_at}
use Rattle.store_model.specs.Steps.{loads, value_at, is_storing, is_collecting}
use Rattle.store_model.specs.StoreHolds.{StoreHolds}
use Rattle.store_model.proofs.ByWords.{value_is}
use Rattle.store_model.proofs.CollectsKept.{words_still}
use Rattle.store_model.proofs.Eight.{core_of}
use Rattle.node_rows.specs.Collecting.{HasStore}

one_small : (b : Bool) → one_if b ≤ 1
one_small true = omega arith
one_small false = omega arith

tally_few : (f : ℕ → Bool) (n : ℕ) → tally f n ≤ n
tally_few f zero = omega arith
tally_few f (suc n) = let a = tally_few f n in let b = one_small (f n) in omega arith

-- Seat i of the store has loaded these words, and stored none.
module _ (z : Sizes) (i : ℕ) (v : View) (ls : List (Place × ℕ)) (call : v.call ≡ Loading ls) (h : HasStore z i v) where
  abbrev s : State
  s = h.store

  abbrev k : StoreHolds z h.store
  k = h.holds

  own_call : (s.view i).call ≡ Loading ls
  own_call = ap (λ (u : View). u.call) h.own ∙ call

  -- the words are those that the facts speak of
  pub still : s.words ≡ k.began
  still = words_still z s (core_of z s k) i (k.collection.alone i (ap is_collecting own_call)) (ap is_storing own_call)

  began_loaded : Each (λ (q : Place × ℕ). k.began q.0 ≡ q.1) ls
  began_loaded = subst (λ (y : Call). Each (λ (q : Place × ℕ). k.began q.0 ≡ q.1) (loads y)) own_call (k.collection.loaded i)

  pub loaded_there : Each (λ (q : Place × ℕ). s.words q.0 ≡ q.1) ls
  loaded_there = subst (λ (w : Place → ℕ). Each (λ (q : Place × ℕ). w q.0 ≡ q.1) ls) (sym still) began_loaded

  -- and what was loaded is there
  pub there : (p : Place) (n : ℕ) → value_at p ls ≡ Some n → s.words p ≡ n
  there p n e = value_is s.words p n ls loaded_there e

  began_at : (p : Place) → k.began p ≡ s.words p
  began_at p = ap (λ (w : Place → ℕ). w p) (sym still)

  module _ (stay : v.stay ≡ Ready) where
    inside : (s.view i).stay ≢ Away
    inside f = let a : Away ≡ Ready = sym f ∙ (ap (λ (u : View). u.stay) h.own ∙ stay) in absurd (cc)

    pub base_is : (n : ℕ) → value_at Base ls ≡ Some n → n ≡ v.base
    base_is n e = sym (there Base n e) ∙ (sym (began_at Base) ∙ (sym (k.numbers.base i inside) ∙ ap (λ (u : View). u.base) h.own))

    pub in_use_is : (n : ℕ) → value_at InUse ls ≡ Some n → n ≡ v.in_use
    in_use_is n e = sym (there InUse n e) ∙ (sym (began_at InUse) ∙ (sym (k.numbers.in_use i (ap (λ (u : View). u.stay) h.own ∙ stay)) ∙ ap (λ (u : View). u.in_use) h.own))

  pub count_few : (n : ℕ) → value_at FreeCount ls ≡ Some n → n ≤ z.rows
  count_few n e = let a = there FreeCount n e in let b = began_at FreeCount in let c = k.strengthened.holds.rows.few in omega arith

  pub claim_few : (n : ℕ) → value_at Claim ls ≡ Some n → n ≤ z.rows + z.seats
  claim_few n e =
      let a = there Claim n e in
      let b = began_at Claim in
      let c = k.strengthened.holds.rows.few in
      let d = k.strengthened.holds.numbers.drawn in
      let t = tally_few (λ j. is_at (s.view j).overdraw (k.began Base)) z.seats in omega arith

  pub root_count_few : (j n : ℕ) → value_at (RootCount j) ls ≡ Some n → n ≤ z.depth
  root_count_few j n e = let a = there (RootCount j) n e in let r = k.strengthened.remembers.own j in let b = r.count in let c = r.few in omega arith
