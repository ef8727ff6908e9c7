use Rattle.std.proofs.Common.{◌≡◌, ◌∙◌, true, false, inl, inr, ap, sym, subst}
use Rattle.std.specs.Prelude.{◌⊎◌}
use Rattle.terms_api.specs.Terms.{MayBuild, NeedsPlace, asked}
use Rattle.plain_store.specs.Contents.{Contents, store_of, placed, refused, IsAbsent, IsFreeRow, HasNoFree, IsUsedUp}
use Rattle.plain_store.specs.Outcome.{IsBuilt, IsRefused}
use Rattle.plain_store.proofs.Outcomes.{outcome_collected, outcome_refused, may_collected, absent_collected, raises_of}
use Rattle.plain_store.proofs.store.PlainStore.build_late.Goals as goal

left_used_up : {A B : Type 0} → (A → ⊥) → A ⊎ B → B
left_used_up not (inl a) = absurd (not a)
left_used_up not (inr b) = b

pub make-requires-clause-may : goal.make-requires-clause-may
make-requires-clause-may c =
    let old = c.args.self.now in
    let now = c.collect.new.self in
    let col = c.collect.ensures in
    subst (λ (x : Contents). MayBuild (store_of x) c.args.head c.args.n) (sym col.new_is) (may_collected old now.raised c.args.head c.args.n c.hash-hashed.ensures.sound c.requires.may)

pub make-requires-clause-absent : goal.make-requires-clause-absent
make-requires-clause-absent c =
    let old = c.args.self.now in
    let now = c.collect.new.self in
    let h = c.args.head in
    let n = c.args.n in
    let col = c.collect.ensures in
    let place : NeedsPlace (store_of old) n → ⊥ = λ x. (let t : true ≡ false = sym (c.needs_place.ensures.1 x) ∙ c.if-needs_place.false in absurd (cc)) in
    let used : IsUsedUp old h n = left_used_up place c.requires.late in
    subst (λ (x : Contents). IsAbsent x (asked (store_of x) h n)) (sym col.new_is) (absent_collected old now.raised h n c.hash-hashed.ensures.sound used.absent)

pub returns-in-Some : goal.returns-in-Some
returns-in-Some c =
    let old = c.args.self.now in
    let now = c.collect.new.self in
    let h = c.args.head in
    let n = c.args.n in
    let r = c.in-Some._made in
    let col = c.collect.ensures in
    let place : NeedsPlace (store_of old) n → ⊥ = λ x. (let t : true ≡ false = sym (c.needs_place.ensures.1 x) ∙ c.if-needs_place.false in absurd (cc)) in
    let used : IsUsedUp old h n = left_used_up place c.requires.late in
    let free = subst (λ (x : Contents). IsFreeRow x r) col.new_is c.in-Some.ensures.free in
    let is = c.in-Some.ensures.made ∙ ap (λ (x : Contents). placed x h n r) col.new_is in
    subst (λ (x : Contents). IsBuilt old x h n) (sym is)
    (outcome_collected old now.raised h n r c.hash-hashed.ensures.sound c.hash-hashed.ensures.holds c.requires.may place used (raises_of old now col) free)

pub returns : goal.returns
returns c =
    let old = c.args.self.now in
    let now = c.collect.new.self in
    let h = c.args.head in
    let n = c.args.n in
    let col = c.collect.ensures in
    let place : NeedsPlace (store_of old) n → ⊥ = λ x. (let t : true ≡ false = sym (c.needs_place.ensures.1 x) ∙ c.if-needs_place.false in absurd (cc)) in
    let used : IsUsedUp old h n = left_used_up place c.requires.late in
    let full = subst HasNoFree col.new_is c.in_default.ensures.full in
    let is = c.refuse.ensures ∙ ap (λ (x : Contents). refused x) (c.in_default.ensures.unchanged ∙ col.new_is) in
    subst (λ (x : Contents). IsRefused old x h n) (sym is)
    (outcome_refused old now.raised h n c.hash-hashed.ensures.sound c.hash-hashed.ensures.holds place used (raises_of old now col) full)
