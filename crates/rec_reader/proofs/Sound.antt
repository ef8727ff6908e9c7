-- What is read to its end is a sentence that spells what was read.
use Rattle.std.proofs.Common.{◌≡◌, ◌∙◌, List, [], ◌∷◌, subst, append-nil, Option, Some, None}
use Rattle.std.specs.Prelude.{option_and_then}
use Rattle.rec_reader.specs.declared.token.Token.{Token}
use Rattle.rec_reader.specs.declared.syntax_tree.Specification.{Specification}
use Rattle.rec_reader.specs.declared.machine.Place.{Place}
use Rattle.rec_reader.specs.declared.machine.Place.TheVariants.{Start, Between, Heading, AfterHeading, BeforeNames, AfterName, AfterComma, DeclarationSort, VariableSort, BeforeRule, BeforeTerms, Within}
use Rattle.rec_reader.specs.declared.machine.Machine.{Machine}
use Rattle.rec_reader.specs.Grammar.{none, IsInput}
use Rattle.rec_reader.specs.Steps.{step, step_at, start, accepted_at}
use Rattle.rec_reader.proofs.Outcome.{outcome}
use Rattle.rec_reader.proofs.Ahead.{ahead_at, Ahead, At_start, at_start, At_between, at_between}
use Rattle.rec_reader.proofs.SectionsBack.{Backs, start_backs, between_backs, on_heading_backs, heading_backs}
use Rattle.rec_reader.proofs.NamesBack.{before_names_backs, name_backs, comma_backs, declaration_sort_backs, variable_sort_backs}
use Rattle.rec_reader.proofs.TermsBack.{rule_backs, terms_backs, within_backs}

-- at each place
step_backs : (place : Place) (m : Machine) (t : Token) → Backs (step_at place m t) t (ahead_at place m)
step_backs Start m t = start_backs m t
step_backs Between m t = between_backs m t
step_backs Heading m t = on_heading_backs m t
step_backs AfterHeading m t = heading_backs m t
step_backs (BeforeNames list) m t = before_names_backs list m t
step_backs (AfterName list) m t = name_backs list m t
step_backs (AfterComma list) m t = comma_backs list m t
step_backs (DeclarationSort group) m t = declaration_sort_backs group m t
step_backs VariableSort m t = variable_sort_backs m t
step_backs BeforeRule m t = rule_backs m t
step_backs BeforeTerms m t = terms_backs m t
step_backs (Within purpose part) m t = within_backs purpose part m t

end_ahead : (place : Place) (m : Machine) (s : List Specification) → accepted_at place m.done ≡ Some s → ahead_at place m [] s
end_ahead Between m s e =
    let same : m.done ≡ s = cc in
    subst (λ d. At_between m.done [] d) (append-nil m.done ∙ same) (at_between none)
end_ahead Start m s e = absurd cc
end_ahead Heading m s e = absurd cc
end_ahead AfterHeading m s e = absurd cc
end_ahead (BeforeNames list) m s e = absurd cc
end_ahead (AfterName list) m s e = absurd cc
end_ahead (AfterComma list) m s e = absurd cc
end_ahead (DeclarationSort group) m s e = absurd cc
end_ahead VariableSort m s e = absurd cc
end_ahead BeforeRule m s e = absurd cc
end_ahead BeforeTerms m s e = absurd cc
end_ahead (Within purpose part) m s e = absurd cc

through : (o : Option Machine) (t : Token) (ts : List Token) (s : List Specification) (G : List Token → List Specification → Type 0) → Backs o t G → ((n : Machine) → outcome n ts ≡ Some s → Ahead n ts s) → option_and_then (λ n. outcome n ts) o ≡ Some s → G (t ∷ ts) s
through None t ts s G b f e = absurd cc
through (Some n) t ts s G b f e = b ts s (f n e)

ahead : (ts : List Token) (s : List Specification) (m : Machine) → outcome m ts ≡ Some s → Ahead m ts s
unfolding outcome
ahead [] s m e = end_ahead m.place m s e
ahead (t ∷ ts) s m e = through (step m t) t ts s (Ahead m) (step_backs m.place m t) (λ n. ahead ts s n) e

input_of : {ts : List Token} {s : List Specification} → At_start [] ts s → IsInput ts s
input_of (at_start h) = h

pub sound : (ts : List Token) (s : List Specification) → outcome start ts ≡ Some s → IsInput ts s
sound ts s e = input_of (ahead ts s start e)
