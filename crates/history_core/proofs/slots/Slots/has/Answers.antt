use Rattle.std.proofs.Common.{◌≡◌, ◌∙◌, ℕ, Bool, Some, sym, ap, subst}
use Rattle.std.specs.Prelude.{is_some}
use Rattle.std.specs.HashMap.{get}
use Rattle.history_core.specs.declared.slots.Term.{Term}
use Rattle.history_core.specs.Slots.{Slots, slot_at}
use Rattle.history_core.proofs.SlotLemmas.{has_term}
use Rattle.history_core.proofs.TermEquality.{derived_eq}
use Rattle.history_core.proofs.slots.Slots.has.Goals as goal

pub returns : goal.returns
returns c =
    let both = has_term c.self.inside.terms.items c.self.inside.names c.args.term.now c.self.invariant.agree in
    let answer = c.contains_key.ensures ∙ ap (λ (e : Term → Term → Bool). is_some (get e c.self.inside.names c.args.term.now)) derived_eq in (
      (λ h. subst (λ (s : Slots). (n : ℕ) × (slot_at s n ≡ Some c.args.term.now)) c.self.view_is (both.0 (sym answer ∙ h))),
      (λ h. answer ∙ both.1 (subst (λ (s : Slots). (n : ℕ) × (slot_at s n ≡ Some c.args.term.now)) (sym c.self.view_is) h)),
    )
