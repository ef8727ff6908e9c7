-- A head has at most as many arguments as tokens were read.
use Rattle.std.proofs.Common.{◌≡◌, ◌<◌, ◌≤◌, ℕ, suc, ◌+◌, List, [], ◌∷◌, ◌++◌, arith, subst, Option, Some, None}
use Rattle.std.specs.Prelude.{All}
use Rattle.std.proofs.lemmas.List.Elements.{All-nil, All-cons, All-head, All-tail}
use Rattle.rec_reader.specs.declared.token.Name.{Name}
use Rattle.rec_reader.specs.declared.token.Token.{Token}
use Rattle.rec_reader.specs.declared.token.Token.TheVariants.{Named, At}
use Rattle.rec_reader.specs.declared.token.Sign.TheVariants.{RecSpec, Sorts, Cons, Opns, Vars, Rules, Eval, EndSpec, If, AndIf, Joins, Parts, Arrow, Colon, Comma, Open, Close, Equal, Unequal}
use Rattle.rec_reader.specs.declared.syntax_tree.Node.{Node}
use Rattle.rec_reader.specs.declared.machine.Group.{Group}
use Rattle.rec_reader.specs.declared.machine.Group.TheVariants.{Constructors, Operations}
use Rattle.rec_reader.specs.declared.machine.NameList.{NameList}
use Rattle.rec_reader.specs.declared.machine.NameList.TheVariants.{IncludeNames, SortNames, DeclaredNames, ArgumentSorts, VariableNames}
use Rattle.rec_reader.specs.declared.machine.Purpose.{Purpose}
use Rattle.rec_reader.specs.declared.machine.Purpose.TheVariants.{Left, Right, First, Second, Value}
use Rattle.rec_reader.specs.declared.machine.Part.{Part}
use Rattle.rec_reader.specs.declared.machine.Part.TheVariants.{Expected, Headed, Whole}
use Rattle.rec_reader.specs.declared.machine.Place.{Place}
use Rattle.rec_reader.specs.declared.machine.Place.TheVariants.{Start, Between, Heading, AfterHeading, BeforeNames, AfterName, AfterComma, DeclarationSort, VariableSort, BeforeRule, BeforeTerms, Within}
use Rattle.rec_reader.specs.declared.machine.Machine.{Machine}
use Rattle.rec_reader.specs.Steps.{step, step_at, on_end, after_rules, after_variables, after_operations, after_constructors, after_declarations, after_sorts, after_header, on_start, on_heading, after_heading, take_name, take_first_name, on_arrow, on_colon, on_variable_colon, without_names, before_names, after_names, after_name, after_comma, on_declaration_sort, on_variable_sort, before_rule, before_terms, after_left, after_rule, after_right, after_first, after_second, after_value, after_term, after_argument, after_whole_under, after_head, on_term, within_term, with_right, with_condition, with_term}
use Rattle.rec_reader.specs.Syntax.{blank_rule}
use Rattle.rec_reader.specs.Few.{AreCountsFew}

-- the counts of open heads are at most this
abbrev pub UpTo : ℕ → List Node → Type 0
UpTo k heads = All (λ h. h.count ≤ k) heads

abbrev Kept : ℕ → Option Machine → Type 0
Kept k None = Unit {0}
Kept k (Some m) = UpTo k m.heads

more : (k : ℕ) (hs : List Node) → UpTo k hs → UpTo (suc k) hs
more k [] h = All-nil _
more k (x ∷ xs) h =
    let first : x.count ≤ k = All-head (λ h. h.count ≤ k) x xs h in
    let rest : UpTo k xs = All-tail (λ h. h.count ≤ k) x xs h in
    All-cons (λ h. h.count ≤ suc k) x xs (omega (arith, first)) (more k xs rest)

-- a rule is taken up
abbrev with_rule : Machine → Machine
with_rule m = record m { current = record m.current { rules = m.current.rules ++ m.rule ∷ [] }; rule = blank_rule }

-- a step that leaves the open heads, or has none
module _ (k : ℕ) where
  end_keeps : (m : Machine) (t : Token) → UpTo k m.heads → Kept k (on_end m t)
  end_keeps m (Named n) h = tt
  end_keeps m (At EndSpec p) h = h
  end_keeps m (At x p) h = tt

  rules_keep : (m : Machine) (t : Token) → UpTo k m.heads → Kept k (after_rules m t)
  rules_keep m (Named n) h = tt
  rules_keep m (At Eval p) h = h
  rules_keep m (At x p) h = end_keeps m (At x p) h

  variables_keep : (m : Machine) (t : Token) → UpTo k m.heads → Kept k (after_variables m t)
  variables_keep m (Named n) h = tt
  variables_keep m (At Rules p) h = h
  variables_keep m (At x p) h = rules_keep m (At x p) h

  operations_keep : (m : Machine) (t : Token) → UpTo k m.heads → Kept k (after_operations m t)
  operations_keep m (Named n) h = tt
  operations_keep m (At Vars p) h = h
  operations_keep m (At x p) h = variables_keep m (At x p) h

  constructors_keep : (m : Machine) (t : Token) → UpTo k m.heads → Kept k (after_constructors m t)
  constructors_keep m (Named n) h = tt
  constructors_keep m (At Opns p) h = h
  constructors_keep m (At x p) h = operations_keep m (At x p) h

  declarations_keep : (group : Group) (m : Machine) (t : Token) → UpTo k m.heads → Kept k (after_declarations group m t)
  declarations_keep Constructors m t h = constructors_keep m t h
  declarations_keep Operations m t h = operations_keep m t h

  sorts_keep : (m : Machine) (t : Token) → UpTo k m.heads → Kept k (after_sorts m t)
  sorts_keep m (Named n) h = tt
  sorts_keep m (At Cons p) h = h
  sorts_keep m (At x p) h = constructors_keep m (At x p) h

  header_keeps : (m : Machine) (t : Token) → UpTo k m.heads → Kept k (after_header m t)
  header_keeps m (Named n) h = tt
  header_keeps m (At Sorts p) h = h
  header_keeps m (At x p) h = sorts_keep m (At x p) h

  start_keeps : (m : Machine) (t : Token) → UpTo k m.heads → Kept k (on_start m t)
  start_keeps m (Named n) h = tt
  start_keeps m (At RecSpec p) h = h
  start_keeps m (At x p) h = tt

  heading_keeps : (m : Machine) (t : Token) → UpTo k m.heads → Kept k (on_heading m t)
  heading_keeps m (Named n) h = h
  heading_keeps m (At x p) h = tt

  after_heading_keeps : (m : Machine) (t : Token) → UpTo k m.heads → Kept k (after_heading m t)
  after_heading_keeps m (Named n) h = tt
  after_heading_keeps m (At Colon p) h = h
  after_heading_keeps m (At x p) h = header_keeps m (At x p) h

  name_keeps : (list : NameList) (n : Name) (m : Machine) → UpTo k m.heads → Kept k (take_name list n m)
  name_keeps IncludeNames n m h = h
  name_keeps SortNames n m h = h
  name_keeps (DeclaredNames group) n m h = h
  name_keeps (ArgumentSorts group) n m h = h
  name_keeps VariableNames n m h = h

  first_name_keeps : (list : NameList) (n : Name) (m : Machine) → UpTo k m.heads → Kept k (take_first_name list n m)
  first_name_keeps IncludeNames n m h = h
  first_name_keeps SortNames n m h = h
  first_name_keeps (DeclaredNames group) n m h = h
  first_name_keeps (ArgumentSorts group) n m h = h
  first_name_keeps VariableNames n m h = h

  arrow_keeps : (group : Group) (m : Machine) (t : Token) → UpTo k m.heads → Kept k (on_arrow group m t)
  arrow_keeps group m (Named n) h = tt
  arrow_keeps group m (At Arrow p) h = h
  arrow_keeps group m (At x p) h = tt

  colon_keeps : (group : Group) (m : Machine) (t : Token) → UpTo k m.heads → Kept k (on_colon group m t)
  colon_keeps group m (Named n) h = tt
  colon_keeps group m (At Colon p) h = h
  colon_keeps group m (At x p) h = tt

  variable_colon_keeps : (m : Machine) (t : Token) → UpTo k m.heads → Kept k (on_variable_colon m t)
  variable_colon_keeps m (Named n) h = tt
  variable_colon_keeps m (At Colon p) h = h
  variable_colon_keeps m (At x p) h = tt

  without_keeps : (list : NameList) (m : Machine) (t : Token) → UpTo k m.heads → Kept k (without_names list m t)
  without_keeps IncludeNames m t h = header_keeps m t h
  without_keeps SortNames m t h = sorts_keep m t h
  without_keeps (DeclaredNames group) m t h = declarations_keep group m t h
  without_keeps (ArgumentSorts group) m t h = arrow_keeps group m t h
  without_keeps VariableNames m t h = variables_keep m t h

  before_names_keeps : (list : NameList) (m : Machine) (t : Token) → UpTo k m.heads → Kept k (before_names list m t)
  before_names_keeps list m (Named n) h = first_name_keeps list n m h
  before_names_keeps list m (At x p) h = without_keeps list m (At x p) h

  after_names_keeps : (list : NameList) (m : Machine) (t : Token) → UpTo k m.heads → Kept k (after_names list m t)
  after_names_keeps IncludeNames m t h = header_keeps m t h
  after_names_keeps SortNames m t h = sorts_keep m t h
  after_names_keeps (DeclaredNames group) m t h = colon_keeps group m t h
  after_names_keeps (ArgumentSorts group) m t h = arrow_keeps group m t h
  after_names_keeps VariableNames m t h = variable_colon_keeps m t h

  after_name_keeps : (list : NameList) (m : Machine) (t : Token) → UpTo k m.heads → Kept k (after_name list m t)
  after_name_keeps list m (Named n) h = name_keeps list n m h
  after_name_keeps list m (At Comma p) h = h
  after_name_keeps list m (At x p) h = after_names_keeps list m (At x p) h

  after_comma_keeps : (list : NameList) (m : Machine) (t : Token) → UpTo k m.heads → Kept k (after_comma list m t)
  after_comma_keeps list m (Named n) h = name_keeps list n m h
  after_comma_keeps list m (At x p) h = tt

  declaration_sort_keeps : (group : Group) (m : Machine) (t : Token) → UpTo k m.heads → Kept k (on_declaration_sort group m t)
  declaration_sort_keeps group m (Named n) h = h
  declaration_sort_keeps group m (At x p) h = tt

  variable_sort_keeps : (m : Machine) (t : Token) → UpTo k m.heads → Kept k (on_variable_sort m t)
  variable_sort_keeps m (Named n) h = h
  variable_sort_keeps m (At x p) h = tt

  before_rule_keeps : (m : Machine) (t : Token) → UpTo k m.heads → Kept k (before_rule m t)
  before_rule_keeps m (Named n) h = All-nil _
  before_rule_keeps m (At x p) h = rules_keep m (At x p) h

  before_terms_keeps : (m : Machine) (t : Token) → UpTo k m.heads → Kept k (before_terms m t)
  before_terms_keeps m (Named n) h = All-nil _
  before_terms_keeps m (At x p) h = end_keeps m (At x p) h

  left_keeps : (m : Machine) (t : Token) → UpTo k m.heads → Kept k (after_left m t)
  left_keeps m (Named n) h = tt
  left_keeps m (At Arrow p) h = h
  left_keeps m (At x p) h = tt

  rule_keeps : (m : Machine) (t : Token) → UpTo k m.heads → Kept k (after_rule m t)
  rule_keeps m t h = before_rule_keeps (with_rule m) t h

  right_keeps : (m : Machine) (t : Token) → UpTo k m.heads → Kept k (after_right m t)
  right_keeps m (Named n) h = rule_keeps (with_right m) (Named n) h
  right_keeps m (At If p) h = h
  right_keeps m (At x p) h = rule_keeps (with_right m) (At x p) h

  first_keeps : (m : Machine) (t : Token) → UpTo k m.heads → Kept k (after_first m t)
  first_keeps m (Named n) h = tt
  first_keeps m (At Joins p) h = h
  first_keeps m (At Equal p) h = h
  first_keeps m (At Parts p) h = h
  first_keeps m (At Unequal p) h = h
  first_keeps m (At x p) h = tt

  second_keeps : (m : Machine) (t : Token) → UpTo k m.heads → Kept k (after_second m t)
  second_keeps m (Named n) h = rule_keeps (with_condition m) (Named n) h
  second_keeps m (At Comma p) h = h
  second_keeps m (At AndIf p) h = h
  second_keeps m (At x p) h = rule_keeps (with_condition m) (At x p) h

  value_keeps : (m : Machine) (t : Token) → UpTo k m.heads → Kept k (after_value m t)
  value_keeps m (Named n) h = before_terms_keeps (with_term m) (Named n) h
  value_keeps m (At Comma p) h = h
  value_keeps m (At x p) h = before_terms_keeps (with_term m) (At x p) h

  term_keeps : (purpose : Purpose) (m : Machine) (t : Token) → UpTo k m.heads → Kept k (after_term purpose m t)
  term_keeps Left m t h = left_keeps m t h
  term_keeps Right m t h = right_keeps m t h
  term_keeps First m t h = first_keeps m t h
  term_keeps Second m t h = second_keeps m t h
  term_keeps Value m t h = value_keeps m t h

  on_term_keeps : (purpose : Purpose) (m : Machine) (t : Token) → UpTo k m.heads → Kept k (on_term purpose m t)
  on_term_keeps purpose m (Named n) h = h
  on_term_keeps purpose m (At x p) h = tt

-- an argument adds one to one head
module _ (k : ℕ) where
  argument_keeps : (purpose : Purpose) (f : Node) (m : Machine) (t : Token) → f.count ≤ k → UpTo k m.heads → Kept (suc k) (after_argument purpose f m t)
  argument_keeps purpose f m (Named n) c h = tt
  argument_keeps purpose f m (At Comma p) c h = All-cons (λ h. h.count ≤ suc k) (record { head = f.head; count = f.count + 1 }) m.heads (omega (arith, c)) (more k m.heads h)
  argument_keeps purpose f m (At Close p) c h = more k m.heads h
  argument_keeps purpose f m (At x p) c h = tt

  whole_keeps : (hs : List Node) (purpose : Purpose) (m : Machine) (t : Token) → UpTo k hs → Kept (suc k) (after_whole_under hs purpose m t)
  whole_keeps [] purpose m t h = term_keeps (suc k) purpose (record m { heads = [] }) t (All-nil _)
  whole_keeps (f ∷ fs) purpose m t h = argument_keeps purpose f (record m { heads = fs }) t (All-head (λ h. h.count ≤ k) f fs h) (All-tail (λ h. h.count ≤ k) f fs h)

  head_keeps : (purpose : Purpose) (m : Machine) (t : Token) → UpTo k m.heads → Kept (suc k) (after_head purpose m t)
  head_keeps purpose m (Named n) h = whole_keeps m.heads purpose _ (Named n) h
  head_keeps purpose m (At Open p) h = All-cons (λ h. h.count ≤ suc k) (record { head = m.head; count = 0 }) m.heads (omega arith) (more k m.heads h)
  head_keeps purpose m (At x p) h = whole_keeps m.heads purpose _ (At x p) h

  within_keeps : (purpose : Purpose) (part : Part) (m : Machine) (t : Token) → UpTo k m.heads → Kept (suc k) (within_term purpose part m t)
  within_keeps purpose Expected m t h = on_term_keeps (suc k) purpose m t (more k m.heads h)
  within_keeps purpose Headed m t h = head_keeps purpose m t h
  within_keeps purpose Whole m t h = whole_keeps m.heads purpose m t h

  place_keeps : (place : Place) (m : Machine) (t : Token) → UpTo k m.heads → Kept (suc k) (step_at place m t)
  place_keeps Start m t h = start_keeps (suc k) m t (more k m.heads h)
  place_keeps Between m t h = start_keeps (suc k) m t (more k m.heads h)
  place_keeps Heading m t h = heading_keeps (suc k) m t (more k m.heads h)
  place_keeps AfterHeading m t h = after_heading_keeps (suc k) m t (more k m.heads h)
  place_keeps (BeforeNames list) m t h = before_names_keeps (suc k) list m t (more k m.heads h)
  place_keeps (AfterName list) m t h = after_name_keeps (suc k) list m t (more k m.heads h)
  place_keeps (AfterComma list) m t h = after_comma_keeps (suc k) list m t (more k m.heads h)
  place_keeps (DeclarationSort group) m t h = declaration_sort_keeps (suc k) group m t (more k m.heads h)
  place_keeps VariableSort m t h = variable_sort_keeps (suc k) m t (more k m.heads h)
  place_keeps BeforeRule m t h = before_rule_keeps (suc k) m t (more k m.heads h)
  place_keeps BeforeTerms m t h = before_terms_keeps (suc k) m t (more k m.heads h)
  place_keeps (Within purpose part) m t h = within_keeps purpose part m t h

-- after one more token the counts are at most one more
pub counted_on : (k : ℕ) (m n : Machine) (t : Token) → step m t ≡ Some n → UpTo k m.heads → UpTo (k + 1) n.heads
counted_on k m n t e h =
    let kept : Kept (suc k) (Some n) = subst (Kept (suc k)) e (place_keeps k m.place m t h) in
    let same : suc k ≡ k + 1 = omega arith in
    subst (λ j. UpTo j n.heads) same kept

-- counts up to a number below 2^32 are few
pub few_of : (k : ℕ) (hs : List Node) → k < 4294967296 → UpTo k hs → AreCountsFew hs
few_of k [] l h = All-nil _
few_of k (x ∷ xs) l h =
    let first : x.count ≤ k = All-head (λ h. h.count ≤ k) x xs h in
    let rest : UpTo k xs = All-tail (λ h. h.count ≤ k) x xs h in
    All-cons (λ h. h.count < 4294967296) x xs (omega (arith, first, l)) (few_of k xs l rest)
