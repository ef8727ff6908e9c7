-- Lists of names are read to their end.
use Rattle.std.proofs.Common.{◌≡◌, ◌∙◌, List, [], ◌∷◌, refl, ap, append_assoc, Some}
use Rattle.rec_reader.specs.declared.token.Name.{Name}
use Rattle.rec_reader.specs.declared.token.Token.{Token}
use Rattle.rec_reader.specs.declared.token.Token.TheVariants.{Named}
use Rattle.rec_reader.specs.declared.syntax_tree.Specification.{Specification}
use Rattle.rec_reader.specs.declared.machine.NameList.{NameList}
use Rattle.rec_reader.specs.declared.machine.NameList.TheVariants.{IncludeNames, SortNames, DeclaredNames, ArgumentSorts, VariableNames}
use Rattle.rec_reader.specs.declared.machine.Place.{Place}
use Rattle.rec_reader.specs.declared.machine.Place.TheVariants.{AfterName, AfterComma}
use Rattle.rec_reader.specs.declared.machine.Machine.{Machine}
use Rattle.rec_reader.specs.Grammar.{Listed, last, beside, with_comma, IsName, named}
use Rattle.rec_reader.specs.Steps.{step, filled, take_name}
use Rattle.rec_reader.proofs.Outcome.{outcome, go_on}

-- a name and then others
pub filled_more : (list : NameList) (n : Name) (ns : List Name) (m : Machine) → filled list ns (filled list (n ∷ []) m) ≡ filled list (n ∷ ns) m
filled_more IncludeNames n ns m = ap (λ xs. record m { current = record m.current { includes = xs } }) (append_assoc m.current.includes (n ∷ []) ns)
filled_more SortNames n ns m = ap (λ xs. record m { current = record m.current { sorts = xs } }) (append_assoc m.current.sorts (n ∷ []) ns)
filled_more (DeclaredNames group) n ns m = ap (λ xs. record m { names = xs }) (append_assoc m.names (n ∷ []) ns)
filled_more (ArgumentSorts group) n ns m = ap (λ xs. record m { arguments = xs }) (append_assoc m.arguments (n ∷ []) ns)
filled_more VariableNames n ns m = ap (λ xs. record m { names = xs }) (append_assoc m.names (n ∷ []) ns)

take_anywhere : (list : NameList) (n : Name) (m : Machine) (p : Place) → take_name list n (record m { place = p }) ≡ take_name list n m
take_anywhere IncludeNames n m p = refl
take_anywhere SortNames n m p = refl
take_anywhere (DeclaredNames group) n m p = refl
take_anywhere (ArgumentSorts group) n m p = refl
take_anywhere VariableNames n m p = refl

-- after the names of a list, in the same place wherever they began
pub names_read : (list : NameList) {ts us : List Token} {ns : List Name} {s : List Specification} → Listed IsName ts ns us → (m0 m : Machine) → ((n : Name) → step m0 (Named n) ≡ take_name list n m) → outcome (record (filled list ns m) { place = AfterName list }) us ≡ Some s → outcome m0 ts ≡ Some s
names_read list (last named) m0 m h k = go_on _ _ _ _ (h _) k
names_read list {us = us} (beside (named {n}) r) m0 m h k =
    go_on _ _ _ _ (h n) (names_read list r (record (filled list (n ∷ []) m) { place = AfterName list }) (filled list (n ∷ []) m) (λ o. take_anywhere list o (filled list (n ∷ []) m) (AfterName list)) (ap (λ f. outcome (record f { place = AfterName list }) us) (filled_more list n _ m) ∙ k))
names_read list {us = us} (with_comma (named {n}) r) m0 m h k =
    go_on _ _ _ _ (h n) (go_on _ _ _ (record (filled list (n ∷ []) m) { place = AfterComma list }) refl (names_read list r (record (filled list (n ∷ []) m) { place = AfterComma list }) (filled list (n ∷ []) m) (λ o. take_anywhere list o (filled list (n ∷ []) m) (AfterComma list)) (ap (λ f. outcome (record f { place = AfterName list }) us) (filled_more list n _ m) ∙ k)))
