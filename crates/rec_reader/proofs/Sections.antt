-- Sections are read to their end.
use Rattle.std.proofs.Common.{◌≡◌, ◌∙◌, List, [], ◌∷◌, refl, ap, sym, Option, Some}
use Rattle.rec_reader.specs.declared.token.Name.{Name}
use Rattle.rec_reader.specs.declared.token.Token.{Token}
use Rattle.rec_reader.specs.declared.token.Sign.TheVariants.{Sorts, Cons, Opns, Vars, Colon}
use Rattle.rec_reader.specs.declared.syntax_tree.Declaration.{Declaration}
use Rattle.rec_reader.specs.declared.syntax_tree.Variables.{Variables}
use Rattle.rec_reader.specs.declared.syntax_tree.Specification.{Specification}
use Rattle.rec_reader.specs.declared.machine.Group.{Group}
use Rattle.rec_reader.specs.declared.machine.Group.TheVariants.{Constructors, Operations}
use Rattle.rec_reader.specs.declared.machine.NameList.TheVariants.{IncludeNames, SortNames, DeclaredNames, ArgumentSorts, VariableNames}
use Rattle.rec_reader.specs.declared.machine.Place.TheVariants.{BeforeNames, DeclarationSort, VariableSort}
use Rattle.rec_reader.specs.declared.machine.Machine.{Machine}
use Rattle.rec_reader.specs.Grammar.{Any, none, next, Maybe, without, with, Section, absent, present, IsNames, IsDeclaration, declaration, IsVariables, variables}
use Rattle.rec_reader.specs.Steps.{after_variables, after_operations, after_constructors, after_declarations, after_sorts, after_header, after_heading}
use Rattle.rec_reader.proofs.Outcome.{outcome, go_on, by_step}
use Rattle.rec_reader.proofs.Leaving.{skip_colon, skip_sorts, skip_constructors, skip_operations, skip_variables, no_includes, leave_includes, no_sorts, leave_sorts, leave_declarations, leave_variables}
use Rattle.rec_reader.proofs.Names.{names_read}
use Rattle.rec_reader.proofs.Values.{with_includes, with_sorts, with_declarations, with_variables, no_includes_more, no_sorts_more, no_declarations_more, no_variables_more, one_declaration, one_variables}

-- with these specifications done and this one under way, whatever else is kept, reading on comes to s
abbrev pub Leads : (Machine → Token → Option Machine) → List Specification → Specification → List Token → List Specification → Type 0
Leads f D C ts s = (m : Machine) → by_step f (record m { done = D; current = C }) ts ≡ Some s

abbrev pub held : Machine → List Specification → Specification → Machine
held m D C = record m { done = D; current = C }

-- the same of an equal specification
pub leads_same : (f : Machine → Token → Option Machine) (D : List Specification) (ts : List Token) {C E : Specification} {s : List Specification} → C ≡ E → Leads f D C ts s → Leads f D E ts s
leads_same f D ts e k m = ap (λ c. by_step f (held m D c) ts) (sym e) ∙ k m

module _ (D : List Specification) {s : List Specification} where
  pub includes_read : (C : Specification) {ts us : List Token} {xs : List Name} → Section Colon (Maybe IsNames) ts xs us → Leads after_header D (with_includes C xs) us s → Leads after_heading D C ts s
  includes_read C {us = us} absent k m = skip_colon (held m D C) us (leads_same after_header D us (no_includes_more C) k m)
  includes_read C {us = us} (present without) k m = no_includes (held m D C) us (leads_same after_header D us (no_includes_more C) k m)
  includes_read C {us = us} {xs = xs} (present (with ns)) k m =
      names_read IncludeNames ns (record (held m D C) { place = BeforeNames IncludeNames }) (held m D C) (λ n. refl) (leave_includes (held m D (with_includes C xs)) us (k m))

  pub sorts_read : (C : Specification) {ts us : List Token} {xs : List Name} → Section Sorts (Maybe IsNames) ts xs us → Leads after_sorts D (with_sorts C xs) us s → Leads after_header D C ts s
  sorts_read C {us = us} absent k m = skip_sorts (held m D C) us (leads_same after_sorts D us (no_sorts_more C) k m)
  sorts_read C {us = us} (present without) k m = no_sorts (held m D C) us (leads_same after_sorts D us (no_sorts_more C) k m)
  sorts_read C {us = us} {xs = xs} (present (with ns)) k m =
      names_read SortNames ns (record (held m D C) { place = BeforeNames SortNames }) (held m D C) (λ n. refl) (leave_sorts (held m D (with_sorts C xs)) us (k m))

  declarations_read : (group : Group) (C : Specification) {ts us : List Token} {xs : List Declaration} → Any IsDeclaration ts xs us → Leads (after_declarations group) D (with_declarations C xs) us s → (m : Machine) → outcome (record (held m D C) { place = BeforeNames (DeclaredNames group) }) ts ≡ Some s
  declarations_read group C {us = us} none k m = leave_declarations (held m D C) group us (leads_same (after_declarations group) D us (no_declarations_more C) k m)
  declarations_read group C {us = us} (next {xs = xs} (declaration {names = ns} {sort = sort} named without) r) k m =
      let d : Declaration = record { names = ns; arguments = []; sort = sort } in
      names_read (DeclaredNames group) named (record (held m D C) { place = BeforeNames (DeclaredNames group) }) (record (held m D C) { names = [] }) (λ n. refl)
      (go_on _ _ _ (record (held m D C) { place = BeforeNames (ArgumentSorts group); names = ns; arguments = [] }) refl
      (go_on _ _ _ (record (held m D C) { place = DeclarationSort group; names = ns; arguments = [] }) refl
      (go_on _ _ _ (record (held m D (with_declarations C (d ∷ []))) { place = BeforeNames (DeclaredNames group); names = []; arguments = [] }) refl
      (declarations_read group (with_declarations C (d ∷ [])) r (leads_same (after_declarations group) D us (sym (one_declaration C d xs)) k) (record m { names = []; arguments = [] })))))
  declarations_read group C {us = us} (next {xs = xs} (declaration {names = ns} {arguments = args} {sort = sort} named (with sorts)) r) k m =
      let d : Declaration = record { names = ns; arguments = args; sort = sort } in
      names_read (DeclaredNames group) named (record (held m D C) { place = BeforeNames (DeclaredNames group) }) (record (held m D C) { names = [] }) (λ n. refl)
      (go_on _ _ _ (record (held m D C) { place = BeforeNames (ArgumentSorts group); names = ns; arguments = [] }) refl
      (names_read (ArgumentSorts group) sorts (record (held m D C) { place = BeforeNames (ArgumentSorts group); names = ns; arguments = [] }) (record (held m D C) { names = ns; arguments = [] }) (λ n. refl)
      (go_on _ _ _ (record (held m D C) { place = DeclarationSort group; names = ns; arguments = args }) refl
      (go_on _ _ _ (record (held m D (with_declarations C (d ∷ []))) { place = BeforeNames (DeclaredNames group); names = []; arguments = [] }) refl
      (declarations_read group (with_declarations C (d ∷ [])) r (leads_same (after_declarations group) D us (sym (one_declaration C d xs)) k) (record m { names = []; arguments = [] }))))))

  pub constructors_read : (C : Specification) {ts us : List Token} {xs : List Declaration} → Section Cons (Any IsDeclaration) ts xs us → Leads after_constructors D (with_declarations C xs) us s → Leads after_sorts D C ts s
  constructors_read C {us = us} absent k m = skip_constructors (held m D C) us (leads_same after_constructors D us (no_declarations_more C) k m)
  constructors_read C (present ds) k m = declarations_read Constructors C ds k m

  pub operations_read : (C : Specification) {ts us : List Token} {xs : List Declaration} → Section Opns (Any IsDeclaration) ts xs us → Leads after_operations D (with_declarations C xs) us s → Leads after_constructors D C ts s
  operations_read C {us = us} absent k m = skip_operations (held m D C) us (leads_same after_operations D us (no_declarations_more C) k m)
  operations_read C (present ds) k m = declarations_read Operations C ds k m

  any_variables_read : (C : Specification) {ts us : List Token} {xs : List Variables} → Any IsVariables ts xs us → Leads after_variables D (with_variables C xs) us s → (m : Machine) → outcome (record (held m D C) { place = BeforeNames VariableNames }) ts ≡ Some s
  any_variables_read C {us = us} none k m = leave_variables (held m D C) us (leads_same after_variables D us (no_variables_more C) k m)
  any_variables_read C {us = us} (next {xs = xs} (variables {names = ns} {sort = sort} named) r) k m =
      let v : Variables = record { names = ns; sort = sort } in
      names_read VariableNames named (record (held m D C) { place = BeforeNames VariableNames }) (record (held m D C) { names = [] }) (λ n. refl)
      (go_on _ _ _ (record (held m D C) { place = VariableSort; names = ns }) refl
      (go_on _ _ _ (record (held m D (with_variables C (v ∷ []))) { place = BeforeNames VariableNames; names = [] }) refl
      (any_variables_read (with_variables C (v ∷ [])) r (leads_same after_variables D us (sym (one_variables C v xs)) k) (record m { names = [] }))))

  pub variables_read : (C : Specification) {ts us : List Token} {xs : List Variables} → Section Vars (Any IsVariables) ts xs us → Leads after_variables D (with_variables C xs) us s → Leads after_operations D C ts s
  variables_read C {us = us} absent k m = skip_variables (held m D C) us (leads_same after_variables D us (no_variables_more C) k m)
  variables_read C (present vs) k m = any_variables_read C vs k m
