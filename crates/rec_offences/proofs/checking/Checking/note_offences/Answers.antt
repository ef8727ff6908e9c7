use Rattle.rec_offences.proofs.Common.{nat_tests, arith, rules, ◌≡◌, ℕ, List, [], ◌++◌, length, map, take, slice_get, Option, Some, Result, OnOk, refl, sym, ap, ◌∙◌, common_steps, slice_get_read, on_ok_weaker, take-map, length-map, option_map_or, Name, Specification, included, headers_of, symbols_by, symbols_of, sorts_of, rules_of, symbol_entry, own_entries, includes_from, least_with, included_entries, offences_after, Refusal, Verdict, declared_group, used_group, verdict_of, offences_at, Listing, listing, Known, known, header_names, includes_at, counted, headers_named, below_none, included_below}
use Rattle.rec_offences.specs.Faults.{offences_over}
use Rattle.rec_offences.proofs.Groups.{at_early, early_verdicts, declared_is, used_is}
use Rattle.rec_offences.proofs.checking.Checking.note_offences.Goals as goal

pub note_included-requires : goal.note_included-requires
note_included-requires c = grind (arith, common_steps)

entries_are : (xs : List Specification) (n : ℕ) (s : Specification) → slice_get xs n ≡ Some s → includes_at xs n ≡ s.includes
entries_are xs n s e = ap (λ o. option_map_or (λ t. t.includes) o []) e

always : {X E P : Type 0} (r : Result X E) → P → OnOk r P
always r p = grind (arith, nat_tests)

-- what is noted where the included material is at hand is the offences of the specification
noted : (bytes : List ℕ) (xs : List Specification) (n : ℕ) (s : Specification) (found now : Option Refusal) (names : List Name) (verdicts : List Verdict) (sorts : Listing) (scope : Known) (rules : ℕ) (keys : List ℕ) →
    slice_get xs n ≡ Some s → names ≡ header_names xs → keys ≡ included bytes (headers_of bytes (take n xs)) s.includes →
    verdicts ≡ map (verdict_of bytes xs) (includes_from bytes (headers_of bytes (take n xs)) [] s.includes) →
    sorts ≡ listing bytes (sorts_of xs keys) → scope ≡ known bytes (included_entries xs keys) → rules ≡ counted (length (rules_of xs keys)) →
    now ≡ least_with found (declared_group bytes (take n names) verdicts sorts.names scope.entries (own_entries s) s
    ++ used_group bytes (take n names) (length scope.entries) rules verdicts (map symbol_entry (symbols_by s)) (scope.entries ++ own_entries s) s) →
    now ≡ least_with found (offences_at bytes xs n)
unfolding offences_over
noted bytes xs n s found now names verdicts sorts scope rules keys at name_is key_is verdict_is sort_is scope_is rule_is is =
    let e = take n xs in
    let hs = headers_of bytes e in
    let k = included bytes hs s.includes in
    let early = at_early bytes xs n k (included_below bytes xs n s.includes) in
    let named : take n names ≡ map (λ h. h.name) hs = grind (arith, take-map, headers_named) in
    let judged : verdicts ≡ map (verdict_of bytes e) (includes_from bytes hs [] s.includes) = grind (arith, early_verdicts, below_none) in
    let listed : sorts.names ≡ sorts_of e k = grind (arith, early) in
    let entries : scope.entries ≡ included_entries e k = grind (arith, early) in
    let ruled : rules ≡ counted (length (rules_of e k)) = grind (arith, early) in
    let many : length scope.entries ≡ length (symbols_of e k) = grind (arith, entries, length-map) in
    let declared = declared_is bytes e hs k s _ _ _ _ _ named judged listed entries refl in
    let used = used_is bytes e hs k s _ _ _ _ _ _ _ named many ruled judged refl (ap (λ x. x ++ own_entries s) entries) in
    is ∙ (λ j. least_with found (declared j ++ used j)) ∙ ap (λ o. least_with found (option_map_or (λ t. offences_after bytes (take n xs) t) o [])) (sym at)

pub returns-clause-noted : goal.returns-clause-noted
returns-clause-noted c =
    let h = c.args.self.now.headers.now in
    let xs = c.args.self.now.specifications.now in
    let n = c.args.number in
    let f = c.args.self.now.found in
    let s = c.index-specifications-number.result in
    let i = c.include_all.new.self in
    let v = c.in_ok-verdicts.ensures in
    let earlier = headers_of h.bytes (take n xs) in
    let at : slice_get xs n ≡ Some s = slice_get_read xs (length xs) n s refl c.requires.there c.index-specifications-number.is in
    let entries = entries_are xs n s at in
    always c.enter.result (grind (arith, common_steps, entries, noted h.bytes xs n s f c.note_included.new.found h.names c.in_ok-verdicts.verdicts.items i.sorts i.scope i.rules i.material.keys at c.requires.checking.names))

pub returns-clause-checking : goal.returns-clause-checking
returns-clause-checking c = grind (arith, common_steps, slice_get_read, on_ok_weaker, entries_are, length-map)

pub returns-clause-path : goal.returns-clause-path
returns-clause-path c = grind (arith, common_steps, on_ok_weaker)
