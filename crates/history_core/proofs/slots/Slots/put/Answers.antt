use Rattle.std.proofs.Common.{◌≡◌, ℕ, Bool, Some, None, length, sym, subst}
use Rattle.std.specs.Prelude.{◌<◌}
use Rattle.history_core.specs.Slots.{Slots, slot_at}
use Rattle.history_core.specs.Named.{term_eq}
use Rattle.history_core.proofs.SlotLemmas.{kept_put}
use Rattle.history_core.proofs.TermEquality.{derived_eq}
use Rattle.std.specs.HashMap.{Updates}
use Rattle.history_core.specs.declared.slots.Term.{Term}
use Rattle.history_core.proofs.slots.Slots.put.Goals as goal

pub invariant_of-self-2 : goal.invariant_of-self-2
invariant_of-self-2 c =
    let view = sym c.self.view_is in
    kept_put c.self.inside.terms.items c.self.inside.names c.insert.new.self c.args.name c.args.term c.self.invariant
    (subst (λ (s : Slots). c.args.name < length s) view c.requires.below)
    (subst (λ (s : Slots). slot_at s c.args.name ≡ None) view c.requires.free)
    (subst (λ (s : Slots). (n : ℕ) → slot_at s n ≡ Some c.args.term → ⊥) view c.requires.absent)
    c.requires.short
    (subst (λ (t : Term). Updates term_eq c.self.inside.names c.insert.new.self t (Some c.args.name)) c.in_ok-key.ensures
    (subst (λ (e : Term → Term → Bool). Updates e c.self.inside.names c.insert.new.self c.in_ok-key.key (Some c.args.name)) derived_eq c.in_ok-insert.ensures.updates))
