use Rattle.std.proofs.lemmas.Result.{IfOk-weaker}
use Rattle.rec_offences.proofs.Common.{◌≡◌, ℕ, ◌<◌, List, length, Option, None, Contains, ap, subst, arith, flat_map, Refusal, Parsed, Specification, least_with, fault_of, long_declared, offences_at}
use Rattle.rec_offences.proofs.AnyOrder.{in_any_order}
use Rattle.rec_offences.proofs.Leasts.{least_append}
use Rattle.rec_offences.proofs.checking.fault_with.Goals as goal

-- an order that has all numbers and no others
over_all : (syntax : Parsed) (xs : List Specification) (text bytes numbers items : List ℕ) (first found : Option Refusal) → xs ≡ syntax.specifications → text ≡ syntax.bytes → bytes ≡ syntax.bytes →
    ((n : ℕ) → n < length xs → Contains numbers n) → items ≡ numbers → first ≡ least_with None (long_declared text xs) →
    found ≡ least_with first (flat_map (offences_at bytes xs) items) → found ≡ fault_of syntax
over_all syntax xs text bytes numbers items first found is same kept all listed begun noted =
    let P : List Specification → Type 0 = λ ss. (n : ℕ) → n < length ss → Contains numbers n in
    grind (arith, least_append, in_any_order syntax numbers (subst P is all))

pub returns : goal.returns
returns c =
    IfOk-weaker _ _ _
    (λ f. over_all c.args.syntax.now _ _ _ _ _ _ f c.as_slice-specifications.ensures.specifications c.text.ensures (ap (λ h. h.bytes) c.requires) c.in_ok-numbers.ensures.all c.deref.ensures.value c.note_long_declared.ensures)
    c.note_all.ensures
