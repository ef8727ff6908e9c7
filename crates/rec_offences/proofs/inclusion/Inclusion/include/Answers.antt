use Rattle.rec_offences.proofs.Common.{arith, ◌≡◌, ℕ, List, ◌++◌, length, ap, ◌∙◌, common_steps, material_of, fresh, rules_of, included_entries, counted, known, entries_of}
use Rattle.rec_offences.proofs.Levels.{scope_more, rules_more, clashing_more, passing_more, at_append}
use Rattle.rec_offences.proofs.inclusion.Inclusion.include.Goals as goal

added : goal.After-drop-added-2 → List ℕ
added c = fresh c.args.self.now.material.keys (material_of c.args.headers.now.bytes c.args.specifications.now c.args.number)

keys_are : (c : goal.After-drop-added-2) → c.gather.new.material.keys ≡ c.args.self.now.material.keys ++ added c
unfolding added
keys_are c = c.in_ok-added.ensures.material

symbols_are : (c : goal.After-drop-added-2) → entries_of c.in_ok-signatures.signatures.items ≡ included_entries c.args.specifications.now (added c)
unfolding added
symbols_are c = c.in_ok-signatures.ensures ∙ ap (included_entries c.args.specifications.now) (c.deref.ensures.value ∙ c.in_ok-added.ensures.added)

scope_is : (c : goal.After-drop-added-2) → c.add_all.new.self ≡ known c.args.headers.now.bytes (included_entries c.args.specifications.now (c.args.self.now.material.keys ++ added c))
scope_is c = scope_more _ _ _ (added c) _ _ _ c.requires.at_hand.scope c.in_ok-add_all.ensures (ap entries_of c.deref-3.ensures.value ∙ symbols_are c)

rules_are : (c : goal.After-drop-added-2) → c.count_rules-self.result ≡ counted (length (rules_of c.args.specifications.now (c.args.self.now.material.keys ++ added c)))
unfolding added
rules_are c = grind (arith, common_steps, rules_more)

pub returns-clause-kept : goal.returns-clause-kept
unfolding added
returns-clause-kept c = grind (arith, common_steps, at_append)

pub returns-clause-verdict : goal.returns-clause-verdict
unfolding added
returns-clause-verdict c =
    let bytes = c.args.headers.now.bytes in
    let e = c.args.specifications.now in
    let k = c.args.self.now.material.keys in
    let clash = c.clashes-is_clashing.ensures ∙ clashing_more bytes e k (added c) c.args.self.now.scope _ c.requires.at_hand.scope (ap entries_of c.deref-2.ensures.value ∙ symbols_are c) in
    let pass = c.one_passes-is_passing.ensures ∙ passing_more bytes e k (added c) _ _ _ _ _ _ c.requires.at_hand.scope c.len-symbols.ensures.count (scope_is c) c.len.ensures.count c.requires.at_hand.rules (rules_are c) in
    (λ i. record { entry = c.args.entry; is_clashing = clash i; is_passing = pass i })
