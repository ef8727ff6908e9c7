-- Each sentence is read to its end, as what it spells.
use Rattle.std.proofs.Common.{◌≡◌, ◌∙◌, ℕ, List, [], ◌∷◌, ◌++◌, refl, ap, sym, append_assoc, append-nil, Some}
use Rattle.rec_reader.specs.declared.token.Token.{Token}
use Rattle.rec_reader.specs.declared.token.Token.TheVariants.{At}
use Rattle.rec_reader.specs.declared.token.Sign.TheVariants.{RecSpec}
use Rattle.rec_reader.specs.declared.syntax_tree.Specification.{Specification}
use Rattle.rec_reader.specs.declared.machine.Place.TheVariants.{Between, Heading, AfterHeading}
use Rattle.rec_reader.specs.declared.machine.Machine.{Machine}
use Rattle.rec_reader.specs.Grammar.{Any, none, next, IsSpecification, specification, IsInput, input}
use Rattle.rec_reader.specs.Steps.{step, start}
use Rattle.rec_reader.specs.Syntax.{blank_specification}
use Rattle.rec_reader.proofs.Outcome.{outcome, go_on}
use Rattle.rec_reader.proofs.Leaving.{at_heading}
use Rattle.rec_reader.proofs.Sections.{held, includes_read, sorts_read, constructors_read, operations_read, variables_read}
use Rattle.rec_reader.proofs.RulesRead.{any_rules_read, terms_read}

specification_read : (D : List Specification) {ts us : List Token} {x : Specification} {s : List Specification} → IsSpecification ts x us → ((m : Machine) → outcome (record m { place = Between; done = D ++ x ∷ [] }) us ≡ Some s) → (m0 m : Machine) → ((p : ℕ) → step m0 (At RecSpec p) ≡ Some (record m { place = Heading; done = D })) → outcome m0 ts ≡ Some s
specification_read D {x = x} (specification {p = p} {name = n} {a = a} includes sorts cons opns vars rules terms) k m0 m h =
    go_on _ _ _ _ (h p) (go_on _ _ _ (record (held m D (blank_specification n)) { place = AfterHeading }) refl
    (at_heading (held m D (blank_specification n)) a
    (includes_read D (blank_specification n) includes
    (sorts_read D _ sorts
    (constructors_read D _ cons
    (operations_read D _ opns
    (variables_read D _ vars
    (any_rules_read D _ rules
    (terms_read D _ terms
    (λ m1. k (record (held m1 D x) { current = blank_specification n })))))))) m)))

specifications_read : (D : List Specification) {ts : List Token} {xs : List Specification} → Any IsSpecification ts xs [] → (m : Machine) → outcome (record m { place = Between; done = D }) ts ≡ Some (D ++ xs)
unfolding outcome
specifications_read D none m = ap Some (sym (append-nil D))
specifications_read D (next {x = x} {xs = xs} h r) m =
    specification_read D h (λ m1. specifications_read (D ++ x ∷ []) r m1 ∙ ap Some (append_assoc D (x ∷ []) xs)) (record m { place = Between; done = D }) m (λ p. refl)

pub complete : {ts : List Token} {xs : List Specification} → IsInput ts xs → outcome start ts ≡ Some xs
complete (input {s = x} h r) = specification_read [] h (λ m. specifications_read (x ∷ []) r m) start start (λ p. refl)
