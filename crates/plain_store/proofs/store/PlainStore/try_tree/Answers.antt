use Rattle.std.proofs.Common.{◌≡◌, ◌∙◌, true, false, sym, subst}
use Rattle.terms_api.specs.Terms.{NeedsPlace}
use Rattle.plain_store.specs.Contents.{Contents, store_of}
use Rattle.plain_store.specs.Outcome.{IsMade}
use Rattle.plain_store.proofs.Outcomes.{made_found}
use Rattle.plain_store.proofs.store.PlainStore.try_tree.Goals as goal

pub returns-in-Found : goal.returns-in-Found
returns-in-Found c =
    let old = c.args.self.now in
    let h = c.args.head in
    let n = c.args.n in
    let place : NeedsPlace (store_of old) n → ⊥ = λ x. (let t : true ≡ false = sym (c.needs_place.ensures.1 x) ∙ c.if-needs_place.false in absurd (cc)) in
    record {
      tried = subst (λ (x : Contents). IsMade old x h n) (sym c.place.ensures)
          (made_found old h n c.in-Found.row c.find_first.ensures.sound c.find_first.ensures.holds c.requires place c.in-Found.ensures.looks);
    }
