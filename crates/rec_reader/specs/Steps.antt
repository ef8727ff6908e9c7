-- What reading does at each token.
use Rattle.std.specs.Prelude.{◌≡◌, ℕ, ◌+◌, List, [], ◌∷◌, ◌++◌, Option, Some, None, Bool, true, false, option_and_then}
use Rattle.rec_reader.specs.declared.token.Name.{Name}
use Rattle.rec_reader.specs.declared.token.Token.{Token}
use Rattle.rec_reader.specs.declared.token.Token.TheVariants.{Named, At}
use Rattle.rec_reader.specs.declared.token.Sign.TheVariants.{RecSpec, Sorts, Cons, Opns, Vars, Rules, Eval, EndSpec, If, AndIf, Joins, Parts, Arrow, Colon, Comma, Open, Close, Equal, Unequal}
use Rattle.rec_reader.specs.declared.syntax_tree.Node.{Node}
use Rattle.rec_reader.specs.declared.machine.Group.{Group}
use Rattle.rec_reader.specs.declared.machine.Group.TheVariants.{Constructors, Operations}
use Rattle.rec_reader.specs.declared.machine.NameList.{NameList}
use Rattle.rec_reader.specs.declared.machine.NameList.TheVariants.{IncludeNames, SortNames, DeclaredNames, ArgumentSorts, VariableNames}
use Rattle.rec_reader.specs.declared.machine.Purpose.{Purpose}
use Rattle.rec_reader.specs.declared.machine.Purpose.TheVariants.{Left, Right, First, Second, Value}
use Rattle.rec_reader.specs.declared.machine.Part.{Part}
use Rattle.rec_reader.specs.declared.machine.Part.TheVariants.{Expected, Headed, Whole}
use Rattle.rec_reader.specs.declared.machine.Place.{Place}
use Rattle.rec_reader.specs.declared.machine.Place.TheVariants.{Start, Between, Heading, AfterHeading, BeforeNames, AfterName, AfterComma, DeclarationSort, VariableSort, BeforeRule, BeforeTerms, Within}
use Rattle.rec_reader.specs.declared.machine.Machine.{Machine}
use Rattle.read_faults.specs.declared.fail.ReadFail.{ReadFail}
use Rattle.read_faults.specs.declared.fail.ReadFail.TheVariants.{Refused, Memory}
use Rattle.rec_reader.specs.declared.syntax_tree.Specification.{Specification}
use Rattle.rec_reader.specs.Refusal.{place_of}
use Rattle.rec_reader.specs.Syntax.{blank_rule, blank_specification}

abbrev pub at : Machine → Place → Option Machine
at m place = Some (record m { place = place })

-- END-SPEC must come
abbrev pub on_end : Machine → Token → Option Machine
on_end m (At EndSpec p) = Some (record m { place = Between; done = m.done ++ m.current ∷ []; current = blank_specification m.current.name })
on_end m _ = None

-- EVAL, or what may come after it
abbrev pub after_rules : Machine → Token → Option Machine
after_rules m (At Eval p) = at m BeforeTerms
after_rules m t = on_end m t

abbrev pub after_variables : Machine → Token → Option Machine
after_variables m (At Rules p) = at m BeforeRule
after_variables m t = after_rules m t

abbrev pub after_operations : Machine → Token → Option Machine
after_operations m (At Vars p) = at m (BeforeNames VariableNames)
after_operations m t = after_variables m t

abbrev pub after_constructors : Machine → Token → Option Machine
after_constructors m (At Opns p) = at m (BeforeNames (DeclaredNames Operations))
after_constructors m t = after_operations m t

abbrev pub after_declarations : Group → Machine → Token → Option Machine
after_declarations Constructors m t = after_constructors m t
after_declarations Operations m t = after_operations m t

abbrev pub after_sorts : Machine → Token → Option Machine
after_sorts m (At Cons p) = at m (BeforeNames (DeclaredNames Constructors))
after_sorts m t = after_constructors m t

abbrev pub after_header : Machine → Token → Option Machine
after_header m (At Sorts p) = at m (BeforeNames SortNames)
after_header m t = after_sorts m t

abbrev pub on_start : Machine → Token → Option Machine
on_start m (At RecSpec p) = at m Heading
on_start m _ = None

abbrev pub on_heading : Machine → Token → Option Machine
on_heading m (Named n) = Some (record m { place = AfterHeading; current = blank_specification n })
on_heading m _ = None

abbrev pub after_heading : Machine → Token → Option Machine
after_heading m (At Colon p) = at m (BeforeNames IncludeNames)
after_heading m t = after_header m t

-- names of a list after those that it has
abbrev pub filled : NameList → List Name → Machine → Machine
filled IncludeNames ns m = record m { current = record m.current { includes = m.current.includes ++ ns } }
filled SortNames ns m = record m { current = record m.current { sorts = m.current.sorts ++ ns } }
filled (DeclaredNames group) ns m = record m { names = m.names ++ ns }
filled (ArgumentSorts group) ns m = record m { arguments = m.arguments ++ ns }
filled VariableNames ns m = record m { names = m.names ++ ns }

-- one more name of a list
abbrev pub take_name : NameList → Name → Machine → Option Machine
take_name list n m = at (filled list (n ∷ []) m) (AfterName list)

-- the first name of a list
abbrev pub take_first_name : NameList → Name → Machine → Option Machine
take_first_name (DeclaredNames group) n m = take_name (DeclaredNames group) n (record m { names = [] })
take_first_name VariableNames n m = take_name VariableNames n (record m { names = [] })
take_first_name list n m = take_name list n m

-- the arrow after argument sorts
abbrev pub on_arrow : Group → Machine → Token → Option Machine
on_arrow group m (At Arrow p) = at m (DeclarationSort group)
on_arrow group m _ = None

-- the colon after declared names
abbrev pub on_colon : Group → Machine → Token → Option Machine
on_colon group m (At Colon p) = at (record m { arguments = [] }) (BeforeNames (ArgumentSorts group))
on_colon group m _ = None

-- the colon after names of variables
abbrev pub on_variable_colon : Machine → Token → Option Machine
on_variable_colon m (At Colon p) = at m VariableSort
on_variable_colon m _ = None

-- what may come in place of a list's first name
abbrev pub without_names : NameList → Machine → Token → Option Machine
without_names IncludeNames m t = after_header m t
without_names SortNames m t = after_sorts m t
without_names (DeclaredNames group) m t = after_declarations group m t
without_names (ArgumentSorts group) m t = on_arrow group m t
without_names VariableNames m t = after_variables m t

abbrev pub before_names : NameList → Machine → Token → Option Machine
before_names list m (Named n) = take_first_name list n m
before_names list m t = without_names list m t

-- what may come after a whole list of names
abbrev pub after_names : NameList → Machine → Token → Option Machine
after_names IncludeNames m t = after_header m t
after_names SortNames m t = after_sorts m t
after_names (DeclaredNames group) m t = on_colon group m t
after_names (ArgumentSorts group) m t = on_arrow group m t
after_names VariableNames m t = on_variable_colon m t

abbrev pub after_name : NameList → Machine → Token → Option Machine
after_name list m (Named n) = take_name list n m
after_name list m (At Comma p) = at m (AfterComma list)
after_name list m t = after_names list m t

abbrev pub after_comma : NameList → Machine → Token → Option Machine
after_comma list m (Named n) = take_name list n m
after_comma list m _ = None

abbrev pub on_declaration_sort : Group → Machine → Token → Option Machine
on_declaration_sort group m (Named n) = Some (record m {
  place = BeforeNames (DeclaredNames group);
  current = record m.current { declarations = m.current.declarations ++ record { names = m.names; arguments = m.arguments; sort = n } ∷ [] };
  names = [];
  arguments = [];
})
on_declaration_sort group m _ = None

abbrev pub on_variable_sort : Machine → Token → Option Machine
on_variable_sort m (Named n) = Some (record m {
  place = BeforeNames VariableNames;
  current = record m.current { variables = m.current.variables ++ record { names = m.names; sort = n } ∷ [] };
  names = [];
})
on_variable_sort m _ = None

-- a head comes, with which a term begins
abbrev pub begin_term : Purpose → Name → Machine → Option Machine
begin_term purpose n m = Some (record m { place = Within purpose Headed; head = n; nodes = []; heads = [] })

abbrev pub before_rule : Machine → Token → Option Machine
before_rule m (Named n) = begin_term Left n m
before_rule m t = after_rules m t

abbrev pub before_terms : Machine → Token → Option Machine
before_terms m (Named n) = begin_term Value n m
before_terms m t = on_end m t

abbrev pub after_left : Machine → Token → Option Machine
after_left m (At Arrow p) = Some (record m { place = Within Right Expected; rule = record { left = m.nodes; right = []; condition_at = None; conditions = [] }; nodes = [] })
after_left m _ = None

-- what may come after a rule
abbrev pub after_rule : Machine → Token → Option Machine
after_rule m t = before_rule (record m { current = record m.current { rules = m.current.rules ++ m.rule ∷ [] }; rule = blank_rule }) t

abbrev pub with_right : Machine → Machine
with_right m = record m { rule = record m.rule { right = m.nodes }; nodes = [] }

abbrev pub after_right : Machine → Token → Option Machine
after_right m (At If p) = Some (record m { place = Within First Expected; rule = record m.rule { right = m.nodes; condition_at = Some p }; nodes = [] })
after_right m t = after_rule (with_right m) t

-- a condition's sign comes
abbrev pub begin_second : Bool → Machine → Option Machine
begin_second same m = Some (record m { place = Within Second Expected; first = m.nodes; equal = same; nodes = [] })

abbrev pub after_first : Machine → Token → Option Machine
after_first m (At Joins p) = begin_second true m
after_first m (At Equal p) = begin_second true m
after_first m (At Parts p) = begin_second false m
after_first m (At Unequal p) = begin_second false m
after_first m _ = None

abbrev pub with_condition : Machine → Machine
with_condition m = record m {
  rule = record m.rule { conditions = m.rule.conditions ++ record { first = m.first; second = m.nodes; equal = m.equal } ∷ [] };
  first = [];
  nodes = [];
}

abbrev pub after_second : Machine → Token → Option Machine
after_second m (At Comma p) = at (with_condition m) (Within First Expected)
after_second m (At AndIf p) = at (with_condition m) (Within First Expected)
after_second m t = after_rule (with_condition m) t

abbrev pub with_term : Machine → Machine
with_term m = record m { current = record m.current { terms = m.current.terms ++ m.nodes ∷ [] }; nodes = [] }

abbrev pub after_value : Machine → Token → Option Machine
after_value m (At Comma p) = at (with_term m) (Within Value Expected)
after_value m t = before_terms (with_term m) t

-- what may come after a whole term that is no argument
abbrev pub after_term : Purpose → Machine → Token → Option Machine
after_term Left m t = after_left m t
after_term Right m t = after_right m t
after_term First m t = after_first m t
after_term Second m t = after_second m t
after_term Value m t = after_value m t

-- what may come after an argument of this head, of which as many as its count came before
abbrev pub after_argument : Purpose → Node → Machine → Token → Option Machine
after_argument purpose f m (At Comma p) = Some (record m { place = Within purpose Expected; heads = record { head = f.head; count = f.count + 1 } ∷ m.heads })
after_argument purpose f m (At Close p) = Some (record m { place = Within purpose Whole; nodes = m.nodes ++ record { head = f.head; count = f.count + 1 } ∷ [] })
after_argument purpose f m _ = None

-- what may come after a term under these open heads
abbrev pub after_whole_under : List Node → Purpose → Machine → Token → Option Machine
after_whole_under [] purpose m t = after_term purpose (record m { heads = [] }) t
after_whole_under (f ∷ fs) purpose m t = after_argument purpose f (record m { heads = fs }) t

abbrev pub after_whole : Purpose → Machine → Token → Option Machine
after_whole purpose m t = after_whole_under m.heads purpose m t

abbrev pub after_head : Purpose → Machine → Token → Option Machine
after_head purpose m (At Open p) = Some (record m { place = Within purpose Expected; heads = record { head = m.head; count = 0 } ∷ m.heads })
after_head purpose m t = after_whole purpose (record m { place = Within purpose Whole; nodes = m.nodes ++ record { head = m.head; count = 0 } ∷ [] }) t

abbrev pub on_term : Purpose → Machine → Token → Option Machine
on_term purpose m (Named n) = Some (record m { place = Within purpose Headed; head = n })
on_term purpose m _ = None

abbrev pub within_term : Purpose → Part → Machine → Token → Option Machine
within_term purpose Expected m t = on_term purpose m t
within_term purpose Headed m t = after_head purpose m t
within_term purpose Whole m t = after_whole purpose m t

abbrev pub step_at : Place → Machine → Token → Option Machine
step_at Start m t = on_start m t
step_at Between m t = on_start m t
step_at Heading m t = on_heading m t
step_at AfterHeading m t = after_heading m t
step_at (BeforeNames list) m t = before_names list m t
step_at (AfterName list) m t = after_name list m t
step_at (AfterComma list) m t = after_comma list m t
step_at (DeclarationSort group) m t = on_declaration_sort group m t
step_at VariableSort m t = on_variable_sort m t
step_at BeforeRule m t = before_rule m t
step_at BeforeTerms m t = before_terms m t
step_at (Within purpose part) m t = within_term purpose part m t

abbrev pub step : Machine → Token → Option Machine
step m t = step_at m.place m t

-- nothing was read
abbrev pub start : Machine
start = record {
  place = Start;
  done = [];
  current = blank_specification (record { start = 0; end = 0 });
  names = [];
  arguments = [];
  rule = blank_rule;
  first = [];
  equal = false;
  head = record { start = 0; end = 0 };
  nodes = [];
  heads = [];
}

-- the steps at these tokens, one after another
abbrev pub run : Machine → List Token → Option Machine
run m [] = Some m
run m (t ∷ ts) = option_and_then (λ n. run n ts) (step m t)

-- the specifications, where they may end at this place
abbrev pub accepted_at : Place → List Specification → Option (List Specification)
accepted_at Between specs = Some specs
accepted_at _ specs = None

abbrev pub accepted : Machine → Option (List Specification)
accepted m = accepted_at m.place m.done

-- there is no step at a token, which is at this place
pub record StopsAt (tokens : List Token) (offset : ℕ) : Type 0 where
  pub before : List Token
  pub token : Token
  pub after : List Token
  pub is : tokens ≡ before ++ token ∷ after
  pub machine : Machine
  pub reached : run start before ≡ Some machine
  pub stops : step machine token ≡ None
  pub place : offset ≡ place_of token

abbrev pub IsStopped : List Token → ReadFail → Type 0
IsStopped tokens (Refused kind offset) = (kind ≡ 2) × StopsAt tokens offset
IsStopped tokens Memory = Unit {0}
