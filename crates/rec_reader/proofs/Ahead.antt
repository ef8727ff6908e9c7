-- What must still come at each place of a sentence, in the grammar's words, and what it then spells.
use Rattle.std.proofs.Common.{ℕ, ◌+◌, List, [], ◌∷◌, ◌++◌, Bool, Some, None}
use Rattle.rec_reader.specs.declared.token.Name.{Name}
use Rattle.rec_reader.specs.declared.token.Token.{Token}
use Rattle.rec_reader.specs.declared.token.Token.TheVariants.{Named, At}
use Rattle.rec_reader.specs.declared.token.Sign.{Sign}
use Rattle.rec_reader.specs.declared.token.Sign.TheVariants.{Sorts, Cons, Opns, Vars, Rules, Eval, EndSpec, If, Arrow, Colon, Comma, Open, Close}
use Rattle.rec_reader.specs.declared.syntax_tree.Node.{Node}
use Rattle.rec_reader.specs.declared.syntax_tree.Condition.{Condition}
use Rattle.rec_reader.specs.declared.syntax_tree.Rule.{Rule}
use Rattle.rec_reader.specs.declared.syntax_tree.Specification.{Specification}
use Rattle.rec_reader.specs.declared.machine.Group.{Group}
use Rattle.rec_reader.specs.declared.machine.Group.TheVariants.{Constructors, Operations}
use Rattle.rec_reader.specs.declared.machine.NameList.{NameList}
use Rattle.rec_reader.specs.declared.machine.NameList.TheVariants.{IncludeNames, SortNames, DeclaredNames, ArgumentSorts, VariableNames}
use Rattle.rec_reader.specs.declared.machine.Purpose.{Purpose}
use Rattle.rec_reader.specs.declared.machine.Purpose.TheVariants.{Left, Right, First, Second, Value}
use Rattle.rec_reader.specs.declared.machine.Part.{Part}
use Rattle.rec_reader.specs.declared.machine.Part.TheVariants.{Expected, Headed, Whole}
use Rattle.rec_reader.specs.declared.machine.Place.{Place}
use Rattle.rec_reader.specs.declared.machine.Place.TheVariants.{Start, Between, Heading, AfterHeading, BeforeNames, AfterName, AfterComma, DeclarationSort, VariableSort, BeforeRule, BeforeTerms, Within}
use Rattle.rec_reader.specs.declared.machine.Machine.{Machine}
use Rattle.rec_reader.specs.Grammar.{Any, Maybe, Section, Listed, IsName, IsNames, IsDeclaration, IsVariables, Arguments, IsTerm, IsArguments, IsTerms, IsRelation, IsSeparator, IsConditions, IsRule, IsSpecification, IsInput}
use Rattle.rec_reader.specs.Syntax.{blank_specification}
use Rattle.rec_reader.proofs.Values.{with_includes, with_sorts, with_declarations, with_variables, with_rules, with_terms}

-- a production, and then what depends on its value
pub data Then {A : Type 0} (Is : List Token → A → List Token → Type 0) (K : A → List Token → List Specification → Type 0) : List Token → List Specification → Type 0 where
  then : {ts us : List Token} {a : A} {s : List Specification} → Is ts a us → K a us s → Then Is K ts s

-- a sign, and then this
pub data Sign_then (sign : Sign) (K : List Token → List Specification → Type 0) : List Token → List Specification → Type 0 where
  sign : {p : ℕ} {ts : List Token} {s : List Specification} → K ts s → Sign_then sign K (At sign p ∷ ts) s

-- a name, and then what depends on it
pub data Name_then (K : Name → List Token → List Specification → Type 0) : List Token → List Specification → Type 0 where
  name : {n : Name} {ts : List Token} {s : List Specification} → K n ts s → Name_then K (Named n ∷ ts) s

-- what may follow one of a list: nothing, or others, maybe behind a comma
pub data Others {A : Type 0} (Is : List Token → A → List Token → Type 0) : List Token → List A → List Token → Type 0 where
  stop : {ts : List Token} → Others Is ts [] ts
  others : {ts us : List Token} {xs : List A} → Listed Is ts xs us → Others Is ts xs us
  behind_comma : {p : ℕ} {ts us : List Token} {xs : List A} → Listed Is ts xs us → Others Is (At Comma p ∷ ts) xs us

pub data Ends (D : List Specification) (C : Specification) : List Token → List Specification → Type 0 where
  ends : {p : ℕ} {ts : List Token} {xs : List Specification} → Any IsSpecification ts xs [] → Ends D C (At EndSpec p ∷ ts) (D ++ C ∷ xs)

abbrev pub After_rules : List Specification → Specification → List Token → List Specification → Type 0
After_rules D C = Then (Section Eval (Maybe IsTerms)) (λ xs. Ends D (with_terms C xs))

abbrev pub After_variables : List Specification → Specification → List Token → List Specification → Type 0
After_variables D C = Then (Section Rules (Any IsRule)) (λ xs. After_rules D (with_rules C xs))

abbrev pub After_operations : List Specification → Specification → List Token → List Specification → Type 0
After_operations D C = Then (Section Vars (Any IsVariables)) (λ xs. After_variables D (with_variables C xs))

abbrev pub After_constructors : List Specification → Specification → List Token → List Specification → Type 0
After_constructors D C = Then (Section Opns (Any IsDeclaration)) (λ xs. After_operations D (with_declarations C xs))

abbrev pub After_declarations : Group → List Specification → Specification → List Token → List Specification → Type 0
After_declarations Constructors D C = After_constructors D C
After_declarations Operations D C = After_operations D C

abbrev pub After_sorts : List Specification → Specification → List Token → List Specification → Type 0
After_sorts D C = Then (Section Cons (Any IsDeclaration)) (λ xs. After_constructors D (with_declarations C xs))

abbrev pub After_header : List Specification → Specification → List Token → List Specification → Type 0
After_header D C = Then (Section Sorts (Maybe IsNames)) (λ xs. After_sorts D (with_sorts C xs))

abbrev pub After_heading : List Specification → Specification → List Token → List Specification → Type 0
After_heading D C = Then (Section Colon (Maybe IsNames)) (λ xs. After_header D (with_includes C xs))

abbrev pub Declarations : Group → List Specification → Specification → List Token → List Specification → Type 0
Declarations group D C = Then (Any IsDeclaration) (λ xs. After_declarations group D (with_declarations C xs))

abbrev pub Variables_ahead : List Specification → Specification → List Token → List Specification → Type 0
Variables_ahead D C = Then (Any IsVariables) (λ xs. After_variables D (with_variables C xs))

abbrev pub Rules_ahead : List Specification → Specification → List Token → List Specification → Type 0
Rules_ahead D C = Then (Any IsRule) (λ xs. After_rules D (with_rules C xs))

abbrev pub Terms_ahead : List Specification → Specification → List Token → List Specification → Type 0
Terms_ahead D C = Then (Maybe IsTerms) (λ xs. Ends D (with_terms C xs))

-- the sort of a declaration, and what follows the declaration
abbrev pub Declaration_sort : Group → List Specification → Specification → List Name → List Name → List Token → List Specification → Type 0
Declaration_sort group D C names arguments = Name_then (λ sort. Declarations group D (with_declarations C (record { names = names; arguments = arguments; sort = sort } ∷ [])))

abbrev pub Variable_sort : List Specification → Specification → List Name → List Token → List Specification → Type 0
Variable_sort D C names = Name_then (λ sort. Variables_ahead D (with_variables C (record { names = names; sort = sort } ∷ [])))

-- what follows a list of names, of which some were read
abbrev pub After_names : NameList → List Specification → Specification → List Name → List Name → List Name → List Token → List Specification → Type 0
After_names IncludeNames D C names arguments xs = After_header D (with_includes C xs)
After_names SortNames D C names arguments xs = After_sorts D (with_sorts C xs)
After_names (DeclaredNames group) D C names arguments xs = Sign_then Colon (Then (Maybe IsNames) (λ ys. Sign_then Arrow (Declaration_sort group D C (names ++ xs) ys)))
After_names (ArgumentSorts group) D C names arguments xs = Sign_then Arrow (Declaration_sort group D C names (arguments ++ xs))
After_names VariableNames D C names arguments xs = Sign_then Colon (Variable_sort D C (names ++ xs))

abbrev pub Before_names : NameList → List Specification → Specification → List Name → List Name → List Token → List Specification → Type 0
Before_names IncludeNames D C names arguments = Then (Maybe IsNames) (After_names IncludeNames D C names arguments)
Before_names SortNames D C names arguments = Then (Maybe IsNames) (After_names SortNames D C names arguments)
Before_names (DeclaredNames group) D C names arguments = Declarations group D C
Before_names (ArgumentSorts group) D C names arguments = Then (Maybe IsNames) (After_names (ArgumentSorts group) D C names arguments)
Before_names VariableNames D C names arguments = Variables_ahead D C

-- a rule with more conditions
abbrev pub more_conditions : Rule → List Condition → Rule
more_conditions r cs = record r { conditions = r.conditions ++ cs }

abbrev pub After_rule : List Specification → Specification → Rule → List Token → List Specification → Type 0
After_rule D C r = Rules_ahead D (with_rules C (r ∷ []))

-- what follows the right side t of a rule
pub data After_right (D : List Specification) (C : Specification) (r : Rule) (t : List Node) : List Token → List Specification → Type 0 where
  no_if : {ts : List Token} {s : List Specification} → After_rule D C (record r { right = t }) ts s → After_right D C r t ts s
  if_comes : {p : ℕ} {ts us : List Token} {cs : List Condition} {s : List Specification} →
      IsConditions ts cs us → After_rule D C (record r { right = t; condition_at = Some p; conditions = r.conditions ++ cs }) us s → After_right D C r t (At If p ∷ ts) s

-- what follows a condition c
pub data After_condition (D : List Specification) (C : Specification) (r : Rule) (c : Condition) : List Token → List Specification → Type 0 where
  no_other : {ts : List Token} {s : List Specification} → After_rule D C (more_conditions r (c ∷ [])) ts s → After_condition D C r c ts s
  other : {p : ℕ} {sep : Sign} {ts us : List Token} {cs : List Condition} {s : List Specification} →
      IsSeparator sep → IsConditions ts cs us → After_rule D C (more_conditions r (c ∷ cs)) us s → After_condition D C r c (At sep p ∷ ts) s

-- what follows the first side t of a condition
pub data After_first (D : List Specification) (C : Specification) (r : Rule) (t : List Node) : List Token → List Specification → Type 0 where
  relation : {p : ℕ} {between : Sign} {same : Bool} {ts us : List Token} {u : List Node} {s : List Specification} →
      IsRelation between same → IsTerm ts u us → After_condition D C r (record { first = t; second = u; equal = same }) us s → After_first D C r t (At between p ∷ ts) s

-- what follows a term to be evaluated
abbrev pub After_value : List Specification → Specification → List Node → List Token → List Specification → Type 0
After_value D C t = Then (Others IsTerm) (λ xs. Ends D (with_terms C (t ∷ xs)))

abbrev pub fresh_rule : List Node → Rule
fresh_rule t = record { left = t; right = []; condition_at = None; conditions = [] }

-- what follows a term that is no argument
abbrev pub After_term : Purpose → List Specification → Specification → Rule → List Node → Bool → List Node → List Token → List Specification → Type 0
After_term Left D C r first same t = Sign_then Arrow (Then IsTerm (λ u. After_right D C (fresh_rule t) u))
After_term Right D C r first same t = After_right D C r t
After_term First D C r first same t = After_first D C r t
After_term Second D C r first same t = After_condition D C r (record { first = first; second = t; equal = same })
After_term Value D C r first same t = After_value D C t

-- what follows an argument of a head, with the nodes that were read
pub data After_argument (f : Node) (R : List Node → List Token → List Specification → Type 0) (e : List Node) : List Token → List Specification → Type 0 where
  close : {q : ℕ} {ts : List Token} {s : List Specification} → R (e ++ record { head = f.head; count = f.count + 1 } ∷ []) ts s → After_argument f R e (At Close q ∷ ts) s
  argument : {p q : ℕ} {ts us : List Token} {a : Arguments} {s : List Specification} →
      IsArguments ts a (At Close q ∷ us) → R ((e ++ a.nodes) ++ record { head = f.head; count = f.count + 1 + a.count } ∷ []) us s → After_argument f R e (At Comma p ∷ ts) s

-- what follows a term under open heads
abbrev pub After_whole : List Node → (List Node → List Token → List Specification → Type 0) → List Node → List Token → List Specification → Type 0
After_whole [] R e = R e
After_whole (f ∷ fs) R e = After_argument f (After_whole fs R) e

-- what follows a head h
pub data After_head (h : Name) (R : List Node → List Token → List Specification → Type 0) : List Token → List Specification → Type 0 where
  alone : {ts : List Token} {s : List Specification} → R (record { head = h; count = 0 } ∷ []) ts s → After_head h R ts s
  called : {p q : ℕ} {ts us : List Token} {a : Arguments} {s : List Specification} →
      IsArguments ts a (At Close q ∷ us) → R (a.nodes ++ record { head = h; count = a.count } ∷ []) us s → After_head h R (At Open p ∷ ts) s

-- what follows a term of the machine's, with the nodes that were read before it
abbrev pub After_term_of : Purpose → Machine → List Node → List Token → List Specification → Type 0
After_term_of purpose m = After_whole m.heads (After_term purpose m.done m.current m.rule m.first m.equal)

abbrev pub Within_term : Purpose → Part → Machine → List Token → List Specification → Type 0
Within_term purpose Expected m = Then IsTerm (λ t. After_term_of purpose m (m.nodes ++ t))
Within_term purpose Headed m = After_head m.head (λ t. After_term_of purpose m (m.nodes ++ t))
Within_term purpose Whole m = After_term_of purpose m m.nodes

pub data At_start (D : List Specification) : List Token → List Specification → Type 0 where
  at_start : {ts : List Token} {xs : List Specification} → IsInput ts xs → At_start D ts (D ++ xs)

pub data At_between (D : List Specification) : List Token → List Specification → Type 0 where
  at_between : {ts : List Token} {xs : List Specification} → Any IsSpecification ts xs [] → At_between D ts (D ++ xs)

abbrev pub At_heading : List Specification → List Token → List Specification → Type 0
At_heading D = Name_then (λ n. After_heading D (blank_specification n))

abbrev pub ahead_at : Place → Machine → List Token → List Specification → Type 0
ahead_at Start m = At_start m.done
ahead_at Between m = At_between m.done
ahead_at Heading m = At_heading m.done
ahead_at AfterHeading m = After_heading m.done m.current
ahead_at (BeforeNames list) m = Before_names list m.done m.current m.names m.arguments
ahead_at (AfterName list) m = Then (Others IsName) (After_names list m.done m.current m.names m.arguments)
ahead_at (AfterComma list) m = Then IsNames (After_names list m.done m.current m.names m.arguments)
ahead_at (DeclarationSort group) m = Declaration_sort group m.done m.current m.names m.arguments
ahead_at VariableSort m = Variable_sort m.done m.current m.names
ahead_at BeforeRule m = Rules_ahead m.done m.current
ahead_at BeforeTerms m = Terms_ahead m.done m.current
ahead_at (Within purpose part) m = Within_term purpose part m

-- what must still come, and what it then spells
abbrev pub Ahead : Machine → List Token → List Specification → Type 0
Ahead m = ahead_at m.place m
