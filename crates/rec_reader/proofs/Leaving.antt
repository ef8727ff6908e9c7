-- Where a part of a sentence may end, the next token is taken as after it.
use Rattle.std.proofs.Common.{◌≡◌, ℕ, List, [], ◌∷◌, ◌++◌, refl, ap, sym, ◌∙◌, Some, None}
use Rattle.std.specs.Prelude.{option_and_then}
use Rattle.rec_reader.specs.declared.token.Token.{Token}
use Rattle.rec_reader.specs.declared.token.Token.TheVariants.{Named, At}
use Rattle.rec_reader.specs.declared.token.Sign.TheVariants.{Sorts, Cons, Opns, Vars, Rules, Eval, If, AndIf, Colon, Comma, Open}
use Rattle.rec_reader.specs.declared.syntax_tree.Node.{Node}
use Rattle.rec_reader.specs.declared.syntax_tree.Specification.{Specification}
use Rattle.rec_reader.specs.declared.machine.Group.{Group}
use Rattle.rec_reader.specs.declared.machine.Group.TheVariants.{Constructors, Operations}
use Rattle.rec_reader.specs.declared.machine.NameList.TheVariants.{IncludeNames, SortNames, DeclaredNames, VariableNames}
use Rattle.rec_reader.specs.declared.machine.Purpose.{Purpose}
use Rattle.rec_reader.specs.declared.machine.Purpose.TheVariants.{Left, Right, First, Second, Value}
use Rattle.rec_reader.specs.declared.machine.Part.TheVariants.{Headed, Whole}
use Rattle.rec_reader.specs.declared.machine.Place.TheVariants.{AfterHeading, BeforeNames, AfterName, BeforeRule, BeforeTerms, Within}
use Rattle.rec_reader.specs.declared.machine.Machine.{Machine}
use Rattle.rec_reader.specs.Steps.{on_end, after_rules, after_variables, after_operations, after_constructors, after_declarations, after_sorts, after_header, after_heading, after_whole_under}
use Rattle.rec_reader.specs.Syntax.{blank_rule}
use Rattle.rec_reader.proofs.Outcome.{outcome, by_step}

-- no list of arguments begins after a whole term
no_open : (hs : List Node) (purpose : Purpose) (m : Machine) (p : ℕ) → after_whole_under hs purpose m (At Open p) ≡ None
no_open [] Left m p = refl
no_open [] Right m p = refl
no_open [] First m p = refl
no_open [] Second m p = refl
no_open [] Value m p = refl
no_open (f ∷ fs) purpose m p = refl

module _ {s : List Specification} (m : Machine) where
  pub skip_eval : (ts : List Token) → by_step on_end m ts ≡ Some s → by_step after_rules m ts ≡ Some s
  skip_eval [] k = k
  skip_eval (Named n ∷ ts) k = k
  skip_eval (At Eval p ∷ ts) k = cc
  skip_eval (At x p ∷ ts) k = k

  pub skip_rules : (ts : List Token) → by_step after_rules m ts ≡ Some s → by_step after_variables m ts ≡ Some s
  skip_rules [] k = k
  skip_rules (Named n ∷ ts) k = k
  skip_rules (At Rules p ∷ ts) k = cc
  skip_rules (At x p ∷ ts) k = k

  pub skip_variables : (ts : List Token) → by_step after_variables m ts ≡ Some s → by_step after_operations m ts ≡ Some s
  skip_variables [] k = k
  skip_variables (Named n ∷ ts) k = k
  skip_variables (At Vars p ∷ ts) k = cc
  skip_variables (At x p ∷ ts) k = k

  pub skip_operations : (ts : List Token) → by_step after_operations m ts ≡ Some s → by_step after_constructors m ts ≡ Some s
  skip_operations [] k = k
  skip_operations (Named n ∷ ts) k = k
  skip_operations (At Opns p ∷ ts) k = cc
  skip_operations (At x p ∷ ts) k = k

  pub skip_constructors : (ts : List Token) → by_step after_constructors m ts ≡ Some s → by_step after_sorts m ts ≡ Some s
  skip_constructors [] k = k
  skip_constructors (Named n ∷ ts) k = k
  skip_constructors (At Cons p ∷ ts) k = cc
  skip_constructors (At x p ∷ ts) k = k

  pub skip_sorts : (ts : List Token) → by_step after_sorts m ts ≡ Some s → by_step after_header m ts ≡ Some s
  skip_sorts [] k = k
  skip_sorts (Named n ∷ ts) k = k
  skip_sorts (At Sorts p ∷ ts) k = cc
  skip_sorts (At x p ∷ ts) k = k

  pub skip_colon : (ts : List Token) → by_step after_header m ts ≡ Some s → by_step after_heading m ts ≡ Some s
  skip_colon [] k = k
  skip_colon (Named n ∷ ts) k = k
  skip_colon (At Colon p ∷ ts) k = cc
  skip_colon (At x p ∷ ts) k = k

  pub at_heading : (ts : List Token) → by_step after_heading m ts ≡ Some s → outcome (record m { place = AfterHeading }) ts ≡ Some s
  unfolding outcome
  at_heading [] k = cc
  at_heading (Named n ∷ ts) k = k
  at_heading (At x p ∷ ts) k = k

  pub no_includes : (ts : List Token) → by_step after_header m ts ≡ Some s → outcome (record m { place = BeforeNames IncludeNames }) ts ≡ Some s
  unfolding outcome
  no_includes [] k = cc
  no_includes (Named n ∷ ts) k = cc
  no_includes (At x p ∷ ts) k = k

  pub leave_includes : (ts : List Token) → by_step after_header m ts ≡ Some s → outcome (record m { place = AfterName IncludeNames }) ts ≡ Some s
  unfolding outcome
  leave_includes [] k = cc
  leave_includes (Named n ∷ ts) k = cc
  leave_includes (At Comma p ∷ ts) k = cc
  leave_includes (At x p ∷ ts) k = k

  pub no_sorts : (ts : List Token) → by_step after_sorts m ts ≡ Some s → outcome (record m { place = BeforeNames SortNames }) ts ≡ Some s
  unfolding outcome
  no_sorts [] k = cc
  no_sorts (Named n ∷ ts) k = cc
  no_sorts (At x p ∷ ts) k = k

  pub leave_sorts : (ts : List Token) → by_step after_sorts m ts ≡ Some s → outcome (record m { place = AfterName SortNames }) ts ≡ Some s
  unfolding outcome
  leave_sorts [] k = cc
  leave_sorts (Named n ∷ ts) k = cc
  leave_sorts (At Comma p ∷ ts) k = cc
  leave_sorts (At x p ∷ ts) k = k

  pub leave_declarations : (group : Group) (ts : List Token) → by_step (after_declarations group) m ts ≡ Some s → outcome (record m { place = BeforeNames (DeclaredNames group) }) ts ≡ Some s
  unfolding outcome
  leave_declarations group [] k = cc
  leave_declarations Constructors (Named n ∷ ts) k = cc
  leave_declarations Operations (Named n ∷ ts) k = cc
  leave_declarations Constructors (At x p ∷ ts) k = k
  leave_declarations Operations (At x p ∷ ts) k = k

  pub leave_variables : (ts : List Token) → by_step after_variables m ts ≡ Some s → outcome (record m { place = BeforeNames VariableNames }) ts ≡ Some s
  unfolding outcome
  leave_variables [] k = cc
  leave_variables (Named n ∷ ts) k = cc
  leave_variables (At x p ∷ ts) k = k

  pub leave_rules : (ts : List Token) → by_step after_rules m ts ≡ Some s → outcome (record m { place = BeforeRule }) ts ≡ Some s
  unfolding outcome
  leave_rules [] k = cc
  leave_rules (Named n ∷ ts) k = cc
  leave_rules (At x p ∷ ts) k = k

  pub no_terms : (ts : List Token) → by_step on_end m ts ≡ Some s → outcome (record m { place = BeforeTerms }) ts ≡ Some s
  unfolding outcome
  no_terms [] k = cc
  no_terms (Named n ∷ ts) k = cc
  no_terms (At x p ∷ ts) k = k

  -- a head is a whole term where no arguments come
  pub settle : (purpose : Purpose) (ts : List Token) → outcome (record m { place = Within purpose Whole; nodes = m.nodes ++ record { head = m.head; count = 0 } ∷ [] }) ts ≡ Some s → outcome (record m { place = Within purpose Headed }) ts ≡ Some s
  unfolding outcome
  settle purpose [] k = cc
  settle purpose (At Open p ∷ ts) k =
      let none = ap (λ o. option_and_then (λ n. outcome n ts) o) (no_open m.heads purpose (record m { place = Within purpose Whole; nodes = m.nodes ++ record { head = m.head; count = 0 } ∷ [] }) p) in
      let bad = sym none ∙ k in
      cc
  settle purpose (Named n ∷ ts) k = k
  settle purpose (At x p ∷ ts) k = k

  -- a rule ends with its right side
  pub leave_right : (ts : List Token) → outcome (record m { place = BeforeRule; current = record m.current { rules = m.current.rules ++ record m.rule { right = m.nodes } ∷ [] }; rule = blank_rule; nodes = []; heads = [] }) ts ≡ Some s → outcome (record m { place = Within Right Whole; heads = [] }) ts ≡ Some s
  unfolding outcome
  leave_right [] k = cc
  leave_right (At If p ∷ ts) k = cc
  leave_right (Named n ∷ ts) k = k
  leave_right (At x p ∷ ts) k = k

  -- a rule ends with its last condition
  pub leave_second : (ts : List Token) → outcome (record m { place = BeforeRule; current = record m.current { rules = m.current.rules ++ record m.rule { conditions = m.rule.conditions ++ record { first = m.first; second = m.nodes; equal = m.equal } ∷ [] } ∷ [] }; rule = blank_rule; first = []; nodes = []; heads = [] }) ts ≡ Some s → outcome (record m { place = Within Second Whole; heads = [] }) ts ≡ Some s
  unfolding outcome
  leave_second [] k = cc
  leave_second (At Comma p ∷ ts) k = cc
  leave_second (At AndIf p ∷ ts) k = cc
  leave_second (Named n ∷ ts) k = k
  leave_second (At x p ∷ ts) k = k

  -- the terms to be evaluated end with the last
  pub leave_value : (ts : List Token) → by_step on_end (record m { current = record m.current { terms = m.current.terms ++ m.nodes ∷ [] }; nodes = []; heads = [] }) ts ≡ Some s → outcome (record m { place = Within Value Whole; heads = [] }) ts ≡ Some s
  unfolding outcome
  leave_value [] k = cc
  leave_value (At Comma p ∷ ts) k = cc
  leave_value (Named n ∷ ts) k = cc
  leave_value (At x p ∷ ts) k = k
