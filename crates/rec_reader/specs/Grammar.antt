-- The grammar of specifications, a definition for each production. A production relates tokens, the value
-- that they spell, and the tokens that follow.
use Rattle.std.specs.Prelude.{ℕ, suc, List, [], ◌∷◌, ◌++◌, Some, None, Bool, true, false}
use Rattle.rec_reader.specs.declared.token.Name.{Name}
use Rattle.rec_reader.specs.declared.token.Token.{Token}
use Rattle.rec_reader.specs.declared.token.Token.TheVariants.{Named, At}
use Rattle.rec_reader.specs.declared.token.Sign.{Sign}
use Rattle.rec_reader.specs.declared.token.Sign.TheVariants.{RecSpec, Sorts, Cons, Opns, Vars, Rules, Eval, EndSpec, If, AndIf, Joins, Parts, Arrow, Colon, Comma, Open, Close, Equal, Unequal}
use Rattle.rec_reader.specs.declared.syntax_tree.Node.{Node}
use Rattle.rec_reader.specs.declared.syntax_tree.Declaration.{Declaration}
use Rattle.rec_reader.specs.declared.syntax_tree.Variables.{Variables}
use Rattle.rec_reader.specs.declared.syntax_tree.Condition.{Condition}
use Rattle.rec_reader.specs.declared.syntax_tree.Rule.{Rule}
use Rattle.rec_reader.specs.declared.syntax_tree.Specification.{Specification}

-- { x }
pub data Any {A : Type 0} (Is : List Token → A → List Token → Type 0) : List Token → List A → List Token → Type 0 where
  none : {rest : List Token} → Any Is rest [] rest
  next : {ts us rest : List Token} {x : A} {xs : List A} → Is ts x us → Any Is us xs rest → Any Is ts (x ∷ xs) rest

-- [ list ]
pub data Maybe {A : Type 0} (Is : List Token → List A → List Token → Type 0) : List Token → List A → List Token → Type 0 where
  without : {rest : List Token} → Maybe Is rest [] rest
  with : {ts rest : List Token} {xs : List A} → Is ts xs rest → Maybe Is ts xs rest

-- [ SIGN list ]
pub data Section {A : Type 0} (sign : Sign) (Is : List Token → List A → List Token → Type 0) : List Token → List A → List Token → Type 0 where
  absent : {rest : List Token} → Section sign Is rest [] rest
  present : {p : ℕ} {ts rest : List Token} {xs : List A} → Is ts xs rest → Section sign Is (At sign p ∷ ts) xs rest

-- x { [,] x }
pub data Listed {A : Type 0} (Is : List Token → A → List Token → Type 0) : List Token → List A → List Token → Type 0 where
  last : {ts rest : List Token} {x : A} → Is ts x rest → Listed Is ts (x ∷ []) rest
  beside : {ts us rest : List Token} {x : A} {xs : List A} → Is ts x us → Listed Is us xs rest → Listed Is ts (x ∷ xs) rest
  with_comma : {p : ℕ} {ts us rest : List Token} {x : A} {xs : List A} → Is ts x (At Comma p ∷ us) → Listed Is us xs rest → Listed Is ts (x ∷ xs) rest

pub data IsName : List Token → Name → List Token → Type 0 where
  named : {n : Name} {rest : List Token} → IsName (Named n ∷ rest) n rest

-- names = name { [,] name }
abbrev pub IsNames : List Token → List Name → List Token → Type 0
IsNames = Listed IsName

-- decl = names : [names] -> name
pub data IsDeclaration : List Token → Declaration → List Token → Type 0 where
  declaration : {p q : ℕ} {ts us rest : List Token} {names arguments : List Name} {sort : Name} →
      IsNames ts names (At Colon p ∷ us) → Maybe IsNames us arguments (At Arrow q ∷ Named sort ∷ rest) →
      IsDeclaration ts (record { names = names; arguments = arguments; sort = sort }) rest

-- vars = names : name
pub data IsVariables : List Token → Variables → List Token → Type 0 where
  variables : {p : ℕ} {ts rest : List Token} {names : List Name} {sort : Name} →
      IsNames ts names (At Colon p ∷ Named sort ∷ rest) →
      IsVariables ts (record { names = names; sort = sort }) rest

-- the arguments of a term: how many, and their nodes
pub record Arguments : Type 0 where
  pub nodes : List Node
  pub count : ℕ

-- term = name [ ( term { , term } ) ], with each head after its arguments
mutual
  pub data IsTerm : List Token → List Node → List Token → Type 0 where
    constant : {n : Name} {rest : List Token} → IsTerm (Named n ∷ rest) (record { head = n; count = 0 } ∷ []) rest
    call : {p q : ℕ} {n : Name} {ts rest : List Token} {a : Arguments} →
        IsArguments ts a (At Close q ∷ rest) →
        IsTerm (Named n ∷ At Open p ∷ ts) (a.nodes ++ record { head = n; count = a.count } ∷ []) rest

  pub data IsArguments : List Token → Arguments → List Token → Type 0 where
    only : {ts rest : List Token} {t : List Node} → IsTerm ts t rest → IsArguments ts (record { nodes = t; count = 1 }) rest
    more : {p : ℕ} {ts us rest : List Token} {t : List Node} {a : Arguments} →
        IsTerm ts t (At Comma p ∷ us) → IsArguments us a rest →
        IsArguments ts (record { nodes = t ++ a.nodes; count = suc a.count }) rest

-- terms = term { [,] term }
abbrev pub IsTerms : List Token → List (List Node) → List Token → Type 0
IsTerms = Listed IsTerm

-- same = -><- or =; differ = ->/<- or <>
pub data IsRelation : Sign → Bool → Type 0 where
  joins : IsRelation Joins true
  equal : IsRelation Equal true
  parts : IsRelation Parts false
  unequal : IsRelation Unequal false

-- cond = term same term, or term differ term
pub data IsCondition : List Token → Condition → List Token → Type 0 where
  condition : {p : ℕ} {sign : Sign} {same : Bool} {ts us rest : List Token} {first second : List Node} →
      IsTerm ts first (At sign p ∷ us) → IsRelation sign same → IsTerm us second rest →
      IsCondition ts (record { first = first; second = second; equal = same }) rest

-- sep = , or and-if
pub data IsSeparator : Sign → Type 0 where
  by_comma : IsSeparator Comma
  by_and_if : IsSeparator AndIf

-- cond { sep cond }
pub data IsConditions : List Token → List Condition → List Token → Type 0 where
  one : {ts rest : List Token} {c : Condition} → IsCondition ts c rest → IsConditions ts (c ∷ []) rest
  and : {p : ℕ} {sign : Sign} {ts us rest : List Token} {c : Condition} {cs : List Condition} →
      IsCondition ts c (At sign p ∷ us) → IsSeparator sign → IsConditions us cs rest → IsConditions ts (c ∷ cs) rest

-- rule = term -> term [ if cond { sep cond } ]
pub data IsRule : List Token → Rule → List Token → Type 0 where
  plain : {p : ℕ} {ts us rest : List Token} {left right : List Node} →
      IsTerm ts left (At Arrow p ∷ us) → IsTerm us right rest →
      IsRule ts (record { left = left; right = right; condition_at = None; conditions = [] }) rest
  conditional : {p q : ℕ} {ts us vs rest : List Token} {left right : List Node} {cs : List Condition} →
      IsTerm ts left (At Arrow p ∷ us) → IsTerm us right (At If q ∷ vs) → IsConditions vs cs rest →
      IsRule ts (record { left = left; right = right; condition_at = Some q; conditions = cs }) rest

-- spec = REC-SPEC name [ : [names] ] [ SORTS [names] ] [ CONS {decl} ] [ OPNS {decl} ] [ VARS {vars} ]
--        [ RULES {rule} ] [ EVAL [terms] ] END-SPEC
pub data IsSpecification : List Token → Specification → List Token → Type 0 where
  specification : {p q : ℕ} {name : Name} {a b c d e f g rest : List Token}
      {includes sorts : List Name} {cons opns : List Declaration} {vars : List Variables} {rules : List Rule} {terms : List (List Node)} →
      Section Colon (Maybe IsNames) a includes b →
      Section Sorts (Maybe IsNames) b sorts c →
      Section Cons (Any IsDeclaration) c cons d →
      Section Opns (Any IsDeclaration) d opns e →
      Section Vars (Any IsVariables) e vars f →
      Section Rules (Any IsRule) f rules g →
      Section Eval (Maybe IsTerms) g terms (At EndSpec q ∷ rest) →
      IsSpecification (At RecSpec p ∷ Named name ∷ a)
      (record { name = name; includes = includes; sorts = sorts; declarations = cons ++ opns; variables = vars; rules = rules; terms = terms }) rest

-- input = spec { spec }
pub data IsInput : List Token → List Specification → Type 0 where
  input : {ts us : List Token} {s : Specification} {ss : List Specification} →
      IsSpecification ts s us → Any IsSpecification us ss [] → IsInput ts (s ∷ ss)

-- a sentence goes on from these tokens
abbrev pub BeginsSentence : List Token → Type 0
BeginsSentence ts = (more : List Token) × (specs : List Specification) × IsInput (ts ++ more) specs

-- no sentence is these tokens
abbrev pub IsNoSentence : List Token → Type 0
IsNoSentence ts = (specs : List Specification) → IsInput ts specs → ⊥
