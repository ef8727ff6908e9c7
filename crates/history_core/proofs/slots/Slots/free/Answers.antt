use Rattle.std.proofs.Common.{◌≡◌, ◌∙◌, ◌<◌, Bool, Option, Some, None, length, set, sym, subst}
use Rattle.std.proofs.lemmas.List.{get_or_default}
use Rattle.history_core.specs.declared.slots.Term.{Term}
use Rattle.history_core.specs.Slots.{Slots, slot_at}
use Rattle.history_core.specs.Named.{IsKept}
use Rattle.history_core.proofs.SlotLemmas.{kept_less}
use Rattle.history_core.proofs.TermEquality.{derived_eq}
use Rattle.std.specs.HashMap.{Updates}
use Rattle.history_core.proofs.slots.Slots.free.Goals as goal

pub invariant_of-self : goal.invariant_of-self
invariant_of-self c =
    let slots = c.self.inside.terms.items in
    let less : c.args.name < length slots = subst (λ (s : Slots). c.args.name < length s) (sym c.self.view_is) c.requires in
    let taken : slot_at slots c.args.name ≡ Some c.in-Some.term =
    get_or_default slots c.args.name None c.index_mut.result.now less ∙ sym c.index_mut.ensures.value ∙ sym c.take.ensures.value ∙ c.in-Some.is in
    subst (λ (o : Option Term). IsKept (set slots c.args.name o) c.remove.new.self) (sym c.take.ensures.after)
    (kept_less slots c.self.inside.names c.remove.new.self c.args.name c.in-Some.term c.self.invariant taken
    (subst (λ (e : Term → Term → Bool). Updates e c.self.inside.names c.remove.new.self c.in-Some.term None) derived_eq c.remove.ensures.updates))
