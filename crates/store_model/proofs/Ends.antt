-- When a collection ends with Worn, and what one that ends keeps.
use Rattle.std.proofs.Common.{◌≡◌, ◌≢◌, ℕ, ◌+◌, ◌<◌, ◌^◌, Bool, true, false, cond, Option, None, Some, List, [], ◌∷◌, ◌++◌, refl, sym, ap, ◌∙◌, arith, ltb-true, ltb-false, true≢false, length}
use Rattle.std.specs.Prelude.{nat_lt}
use Rattle.store_model.specs.Words.{Place, InUse, Base, FreeCount, Claim}
use Rattle.store_model.specs.Calls.{Call, Idle, Loading, View}
use Rattle.store_model.specs.Machine as machine
use Rattle.store_model.specs.Machine.{Sizes, State, Step, LockAlone, LowerShared, with_call}
use Rattle.store_model.specs.Invariant.{span}
use Rattle.store_model.specs.Steps as steps
use Rattle.store_model.specs.Steps.{loads, grown_use, value_at, is_worn, worn_by, loading, names_left}
use Rattle.store_model.specs.StoreSteps.{meant}
use Rattle.store_model.specs.Laws.{CollectionGrowsUse, OthersStay, IsWorn, WornChangesNothing, CollectionKeepsReached}
use Rattle.store_model.proofs.Basics.{choose, put_same, put_other, write_same}
use Rattle.store_model.proofs.NamesLeft.{names_kept}
use Rattle.store_model.proofs.ByWords.{value_is}

stays : (z : Sizes) (s : State) (i j : ℕ) (x : Step) → j ≢ i → (steps.after z s i x).view j ≡ s.view j
stays z s i j (LockAlone x) ne = refl
stays z s i j LowerShared ne = put_other s.view i _ j ne
stays z s i j x ne = put_other s.view i _ j ne

pub others_stay : OthersStay
others_stay z s i j x ne = stays z s i j (meant s i x) ne

worn_true : (z : Sizes) (a b c : Option ℕ) → is_worn z a b c ≡ true → (base : ℕ) × (claim : ℕ) × (count : ℕ) × (a ≡ Some base) × (b ≡ Some claim) × (c ≡ Some count) × (2 ^ 62 < base + claim + 1 + span z)
worn_true z None b c e = absurd (true≢false (sym e))
worn_true z (Some x) None c e = absurd (true≢false (sym e))
worn_true z (Some x) (Some y) None e = absurd (true≢false (sym e))
worn_true z (Some x) (Some y) (Some n) e = (x, y, n, refl, refl, refl, ltb-true (2 ^ 62) (x + y + 1 + span z) e)

not_false : (t : Bool) → (t ≡ false → ⊥) → t ≡ true
not_false true f = refl
not_false false f = absurd (f refl)

is_less : (a b : ℕ) → a < b → nat_lt a b ≡ true
is_less a b l = not_false (nat_lt a b) (λ e. let k = ltb-false a b e in absurd (omega arith))

ends_worn : (z : Sizes) (ls : List (Place × ℕ)) → loading z ls ≡ Idle → worn_by z ls ≡ true
ends_worn z ls = choose (λ (y : Call). y ≡ Idle → worn_by z ls ≡ true) (worn_by z ls) Idle (Loading ls) (λ e _. e) (λ _ f. absurd (cc))

module _ (z : Sizes) (s : State) (i : ℕ) (p : Place) where
  abbrev ls : List (Place × ℕ)
  ls = loads (s.view i).call ++ (p, s.words p) ∷ []

  pub worn_is_exact : (((steps.after z s i (machine.LoadAny p)).view i).call ≡ Idle → IsWorn z s i p) × (IsWorn z s i p → ((steps.after z s i (machine.LoadAny p)).view i).call ≡ Idle)
  worn_is_exact =
      let here : ((steps.after z s i (machine.LoadAny p)).view i).call ≡ loading z ls = ap (λ (v : View). v.call) (put_same s.view i (with_call (s.view i) (loading z ls))) in (
        (λ idle. let t = worn_true z (value_at Base ls) (value_at Claim ls) (value_at FreeCount ls) (ends_worn z ls (sym here ∙ idle)) in
            record { base = t.0; claim = t.1; count = t.2; base_loaded = t.3; claim_loaded = t.4; count_loaded = t.5; no_room = t.6 }),
        λ k.
            let worn : worn_by z ls ≡ true = ap (λ (o : Option ℕ). is_worn z o (value_at Claim ls) (value_at FreeCount ls)) k.base_loaded
            ∙ (ap (λ (o : Option ℕ). is_worn z (Some k.base) o (value_at FreeCount ls)) k.claim_loaded ∙ (ap (is_worn z (Some k.base) (Some k.claim)) k.count_loaded ∙ is_less (2 ^ 62) (k.base + k.claim + 1 + span z) k.no_room)) in
            here ∙ ap (λ (b : Bool). cond b Idle (Loading ls)) worn,
      )

pub worn_changes_nothing : WornChangesNothing
worn_changes_nothing z s i p idle =
    let ls : List (Place × ℕ) = loads (s.view i).call ++ (p, s.words p) ∷ [] in
    let v : View = with_call (s.view i) (loading z ls) in
    let here : (steps.after z s i (machine.LoadAny p)).view i ≡ v = put_same s.view i v in (
      write_same s.words p,
      here ∙ ap (with_call (s.view i)) (sym (ap (λ (u : View). u.call) here) ∙ idle),
    )

pub collection_keeps_reached : CollectionKeepsReached
collection_keeps_reached z s i k ok =
    let e = ok.step.permitted.1 in
    let kept = names_kept z s.words e.meaning e.rows e.chains in (
      kept.ascending,
      λ r. ((λ c. (e.live r).0 ((kept.each r).0 c)), λ y. (kept.each r).1 ((e.live r).1 y)),
    )

pub collection_grows_use : CollectionGrowsUse
collection_grows_use z s i k ok =
    let e = ok.step.permitted.1 in
    let was : k.began InUse ≡ e.in_use = value_is k.began InUse e.in_use (loads (s.view i).call) (k.collection.loaded i) e.in_use_loaded in
    e.in_use_is ∙ ap (λ (n : ℕ). grown_use z n (length (names_left z s.words))) (sym was)
