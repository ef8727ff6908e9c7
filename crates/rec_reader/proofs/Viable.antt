-- Each place of a sentence may be led to an end.
use Rattle.std.proofs.Common.{◌≡◌, ◌+◌, List, [], ◌∷◌, ◌++◌, refl, Some}
use Rattle.rec_reader.specs.declared.token.Name.{Name}
use Rattle.rec_reader.specs.declared.token.Token.{Token}
use Rattle.rec_reader.specs.declared.token.Token.TheVariants.{Named, At}
use Rattle.rec_reader.specs.declared.token.Sign.TheVariants.{RecSpec, EndSpec, Arrow, Colon, Close, Equal}
use Rattle.rec_reader.specs.declared.syntax_tree.Node.{Node}
use Rattle.rec_reader.specs.declared.syntax_tree.Declaration.{Declaration}
use Rattle.rec_reader.specs.declared.syntax_tree.Variables.{Variables}
use Rattle.rec_reader.specs.declared.syntax_tree.Specification.{Specification}
use Rattle.rec_reader.specs.declared.machine.Group.{Group}
use Rattle.rec_reader.specs.declared.machine.Group.TheVariants.{Constructors, Operations}
use Rattle.rec_reader.specs.declared.machine.NameList.{NameList}
use Rattle.rec_reader.specs.declared.machine.NameList.TheVariants.{IncludeNames, SortNames, DeclaredNames, ArgumentSorts, VariableNames}
use Rattle.rec_reader.specs.declared.machine.Purpose.{Purpose}
use Rattle.rec_reader.specs.declared.machine.Purpose.TheVariants.{Left, Right, First, Second, Value}
use Rattle.rec_reader.specs.declared.machine.Part.{Part}
use Rattle.rec_reader.specs.declared.machine.Part.TheVariants.{Expected, Headed, Whole}
use Rattle.rec_reader.specs.declared.machine.Place.{Place}
use Rattle.rec_reader.specs.declared.machine.Place.TheVariants.{Start, Between, Heading, AfterHeading, BeforeNames, AfterName, AfterComma, DeclarationSort, VariableSort, BeforeRule, BeforeTerms, Within}
use Rattle.rec_reader.specs.declared.machine.Machine.{Machine}
use Rattle.rec_reader.specs.Steps.{step, filled}
use Rattle.rec_reader.proofs.Outcome.{outcome, go_on}
use Rattle.rec_reader.proofs.Leaving.{settle}

-- some tokens lead from here to an end
abbrev pub Ends_somehow : Machine → Type 0
Ends_somehow m = (ts : List Token) × (s : List Specification) × (outcome m ts ≡ Some s)

group_ends : (group : Group) (m : Machine) → Ends_somehow (record m { place = BeforeNames (DeclaredNames group) })
unfolding outcome
group_ends Constructors m = (At EndSpec 0 ∷ [], _, refl)
group_ends Operations m = (At EndSpec 0 ∷ [], _, refl)

then_token : (m n : Machine) (t : Token) → step m t ≡ Some n → Ends_somehow n → Ends_somehow m
then_token m n t e (ts, s, k) = (t ∷ ts, s, go_on m t ts n e k)

sort_ends : (group : Group) (m : Machine) → Ends_somehow (record m { place = DeclarationSort group })
sort_ends group m =
    let d : Declaration = record { names = m.names; arguments = m.arguments; sort = record { start = 0; end = 0 } } in
    then_token _ _ (Named (record { start = 0; end = 0 })) refl (group_ends group (record m { current = record m.current { declarations = m.current.declarations ++ d ∷ [] }; names = []; arguments = [] }))

arguments_end : (group : Group) (m : Machine) → Ends_somehow (record m { place = BeforeNames (ArgumentSorts group) })
arguments_end group m = then_token _ _ (At Arrow 0) refl (sort_ends group m)

variables_end : (m : Machine) → Ends_somehow (record m { place = BeforeNames VariableNames })
unfolding outcome
variables_end m = (At EndSpec 0 ∷ [], _, refl)

variable_sort_ends : (m : Machine) → Ends_somehow (record m { place = VariableSort })
variable_sort_ends m =
    let v : Variables = record { names = m.names; sort = record { start = 0; end = 0 } } in
    then_token _ _ (Named (record { start = 0; end = 0 })) refl (variables_end (record m { current = record m.current { variables = m.current.variables ++ v ∷ [] }; names = [] }))

name_ends : (list : NameList) (m : Machine) → Ends_somehow (record m { place = AfterName list })
unfolding outcome
name_ends IncludeNames m = (At EndSpec 0 ∷ [], _, refl)
name_ends SortNames m = (At EndSpec 0 ∷ [], _, refl)
name_ends (DeclaredNames group) m = then_token _ _ (At Colon 0) refl (arguments_end group (record m { arguments = [] }))
name_ends (ArgumentSorts group) m = then_token _ _ (At Arrow 0) refl (sort_ends group m)
name_ends VariableNames m = then_token _ _ (At Colon 0) refl (variable_sort_ends m)

comma_ends : (list : NameList) (m : Machine) → Ends_somehow (record m { place = AfterComma list })
comma_ends list m =
    let n : Name = record { start = 0; end = 0 } in
    then_token _ _ (Named n) refl (name_ends list (filled list (n ∷ []) (record m { place = AfterComma list })))

names_end : (list : NameList) (m : Machine) → Ends_somehow (record m { place = BeforeNames list })
unfolding outcome
names_end IncludeNames m = (At EndSpec 0 ∷ [], _, refl)
names_end SortNames m = (At EndSpec 0 ∷ [], _, refl)
names_end (DeclaredNames group) m = group_ends group m
names_end (ArgumentSorts group) m = arguments_end group m
names_end VariableNames m = variables_end m

-- a whole term that is no argument
term_ends : (purpose : Purpose) (m : Machine) → Ends_somehow (record m { place = Within purpose Whole; heads = [] })
unfolding outcome
term_ends Left m = (At Arrow 0 ∷ Named (record { start = 0; end = 0 }) ∷ At EndSpec 0 ∷ [], _, refl)
term_ends Right m = (At EndSpec 0 ∷ [], _, refl)
term_ends First m = (At Equal 0 ∷ Named (record { start = 0; end = 0 }) ∷ At EndSpec 0 ∷ [], _, refl)
term_ends Second m = (At EndSpec 0 ∷ [], _, refl)
term_ends Value m = (At EndSpec 0 ∷ [], _, refl)

-- a whole term under open heads
whole_ends : (purpose : Purpose) (hs : List Node) (m : Machine) → Ends_somehow (record m { place = Within purpose Whole; heads = hs })
whole_ends purpose [] m = term_ends purpose m
whole_ends purpose (h ∷ hs) m =
    then_token _ _ (At Close 0) refl (whole_ends purpose hs (record m { nodes = m.nodes ++ record { head = h.head; count = h.count + 1 } ∷ [] }))

-- a head
headed_ends : (purpose : Purpose) (m : Machine) → Ends_somehow (record m { place = Within purpose Headed })
headed_ends purpose m = go (whole_ends purpose m.heads (record m { nodes = m.nodes ++ record { head = m.head; count = 0 } ∷ [] }))
  where
    go : Ends_somehow (record m { place = Within purpose Whole; nodes = m.nodes ++ record { head = m.head; count = 0 } ∷ [] }) → Ends_somehow (record m { place = Within purpose Headed })
    go (ts, s, k) = (ts, s, settle m purpose ts k)

-- a place in a term
part_ends : (purpose : Purpose) (part : Part) (m : Machine) → Ends_somehow (record m { place = Within purpose part })
part_ends purpose Whole m = whole_ends purpose m.heads m
part_ends purpose Headed m = headed_ends purpose m
part_ends purpose Expected m =
    then_token _ _ (Named (record { start = 0; end = 0 })) refl (headed_ends purpose (record m { head = record { start = 0; end = 0 } }))

heading_ends : (m : Machine) → Ends_somehow (record m { place = Heading })
unfolding outcome
heading_ends m = (Named (record { start = 0; end = 0 }) ∷ At EndSpec 0 ∷ [], _, refl)

place_ends : (place : Place) (m : Machine) → Ends_somehow (record m { place = place })
unfolding outcome
place_ends Start m = then_token _ _ (At RecSpec 0) refl (heading_ends m)
place_ends Between m = ([], _, refl)
place_ends Heading m = heading_ends m
place_ends AfterHeading m = (At EndSpec 0 ∷ [], _, refl)
place_ends (BeforeNames list) m = names_end list m
place_ends (AfterName list) m = name_ends list m
place_ends (AfterComma list) m = comma_ends list m
place_ends (DeclarationSort group) m = sort_ends group m
place_ends VariableSort m = variable_sort_ends m
place_ends BeforeRule m = (At EndSpec 0 ∷ [], _, refl)
place_ends BeforeTerms m = (At EndSpec 0 ∷ [], _, refl)
place_ends (Within purpose part) m = part_ends purpose part m

-- wherever the machine stands
pub viable : (m : Machine) → Ends_somehow m
viable m = place_ends m.place m
