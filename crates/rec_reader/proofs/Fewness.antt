-- What is read of tokens or bytes is at most as many.
use Rattle.std.proofs.Common.{◌≡◌, ◌<◌, ◌≤◌, ℕ, zero, suc, ◌+◌, List, [], ◌∷◌, length, subst, arith, Result, Ok, Err, refl}
use Rattle.std.specs.Prelude.{All}
use Rattle.std.proofs.lemmas.List.{length-append}
use Rattle.std.proofs.lemmas.List.Elements.{All-nil, All-cons}
use Rattle.rec_reader.specs.declared.token.Token.{Token}
use Rattle.rec_reader.specs.declared.token.Sign.{Sign}
use Rattle.rec_reader.specs.declared.scanner.Piece.{Piece}
use Rattle.rec_reader.specs.declared.scanner.Piece.TheVariants.{Blank, Whole, Bad}
use Rattle.rec_reader.specs.declared.syntax_tree.Node.{Node}
use Rattle.rec_reader.specs.declared.syntax_tree.Rule.{Rule}
use Rattle.rec_reader.specs.declared.syntax_tree.Specification.{Specification}
use Rattle.rec_reader.specs.Tokens.{piece_at, read_piece, after_token, tokens_from, tokens_of}
use Rattle.rec_reader.specs.Grammar.{Any, Maybe, Section, Listed, IsName, IsNames, IsDeclaration, IsVariables, IsTerm, IsArguments, Arguments, IsTerms, IsCondition, IsConditions, IsRule, IsSpecification, IsInput, none, next, without, with, absent, present, last, beside, with_comma, named, declaration, variables, constant, call, only, more, condition, one, and, plain, conditional, specification, input}
use Rattle.rec_reader.specs.Few.{HasFewNodes, HasFewLeftNodes}

-- each token has a byte
few_after : (n : ℕ) (t : Token) (r : Result (List Token) ℕ) (ts : List Token) → ((us : List Token) → r ≡ Ok us → length us ≤ n) → after_token t r ≡ Ok ts → length ts ≤ suc n
few_after n t (Ok us) ts f e =
    let g = f us refl in
    let same : t ∷ us ≡ ts = cc in
    subst (λ xs. length xs ≤ suc n) same (omega (arith, g))
few_after n t (Err at) ts f e = absurd cc

few_behind : (n at : ℕ) (p : Piece) (rest : ℕ → Result (List Token) ℕ) (ts : List Token) → ((within : ℕ) (us : List Token) → rest within ≡ Ok us → length us ≤ n) → read_piece at p rest ≡ Ok ts → length ts ≤ suc n
few_behind n at (Blank within) rest ts f e = let g = f within ts e in omega (arith, g)
few_behind n at (Whole t within) rest ts f e = few_after n t (rest within) ts (f within) e
few_behind n at Bad rest ts f e = absurd cc

few_from : (bytes : List ℕ) (at within : ℕ) (ts : List Token) → tokens_from at within bytes ≡ Ok ts → length ts ≤ length bytes
few_from [] at within ts e = let same : [] ≡ ts = cc in subst (λ us. length us ≤ 0) same (omega arith)
few_from (b ∷ bs) at (suc within) ts e = let f = few_from bs (at + 1) within ts e in omega (arith, f)
few_from (b ∷ bs) at zero ts e = few_behind (length bs) at (piece_at at (b ∷ bs)) (λ k. tokens_from (at + 1) k bs) ts (λ k us e. few_from bs (at + 1) k us e) e

pub few_tokens : (bytes : List ℕ) (ts : List Token) → tokens_of bytes ≡ Ok ts → length ts ≤ length bytes
few_tokens bytes ts e = few_from bytes 0 0 ts e

-- no production gives back more tokens than it was given
abbrev Shrinks : {A : Type 0} → (List Token → A → List Token → Type 0) → Type 0
Shrinks {A} Is = (ts : List Token) (x : A) (rest : List Token) → Is ts x rest → length rest ≤ length ts

module _ {A : Type 0} (Is : List Token → A → List Token → Type 0) (f : Shrinks Is) where
  any_shrinks : Shrinks (Any Is)
  any_shrinks _ _ _ none = omega arith
  any_shrinks _ _ _ (next h hs) = let a = f _ _ _ h in let b = any_shrinks _ _ _ hs in omega (arith, a, b)

  listed_shrinks : Shrinks (Listed Is)
  listed_shrinks _ _ _ (last h) = f _ _ _ h
  listed_shrinks _ _ _ (beside h hs) = let a = f _ _ _ h in let b = listed_shrinks _ _ _ hs in omega (arith, a, b)
  listed_shrinks _ _ _ (with_comma h hs) = let a = f _ _ _ h in let b = listed_shrinks _ _ _ hs in omega (arith, a, b)

module _ {A : Type 0} (Is : List Token → List A → List Token → Type 0) (f : Shrinks Is) where
  maybe_shrinks : Shrinks (Maybe Is)
  maybe_shrinks _ _ _ without = omega arith
  maybe_shrinks _ _ _ (with h) = f _ _ _ h

  section_shrinks : (sign : Sign) → Shrinks (Section sign Is)
  section_shrinks sign _ _ _ absent = omega arith
  section_shrinks sign _ _ _ (present h) = let a = f _ _ _ h in omega (arith, a)

name_shrinks : Shrinks IsName
name_shrinks _ _ _ named = omega arith

declaration_shrinks : Shrinks IsDeclaration
declaration_shrinks _ _ _ (declaration n a) =
    let x = listed_shrinks IsName name_shrinks _ _ _ n in
    let y = maybe_shrinks IsNames (listed_shrinks IsName name_shrinks) _ _ _ a in
    omega (arith, x, y)

variables_shrinks : Shrinks IsVariables
variables_shrinks _ _ _ (variables n) = let x = listed_shrinks IsName name_shrinks _ _ _ n in omega (arith, x)

-- a term has at most as many nodes as tokens
mutual
  term_few : (ts : List Token) (nodes : List Node) (rest : List Token) → IsTerm ts nodes rest → length nodes + length rest ≤ length ts
  term_few _ _ _ constant = omega arith
  term_few _ _ _ (call {n = name} {a = a} h) =
      let f = arguments_few _ a _ h in
      let n = length-append a.nodes (record { head = name; count = a.count } ∷ []) in
      omega (arith, f, n)

  arguments_few : (ts : List Token) (a : Arguments) (rest : List Token) → IsArguments ts a rest → length a.nodes + length rest ≤ length ts
  arguments_few _ _ _ (only h) = term_few _ _ _ h
  arguments_few _ _ _ (more {t = t} {a = a} h hs) =
      let f = term_few _ t _ h in
      let g = arguments_few _ a _ hs in
      let n = length-append t a.nodes in
      omega (arith, f, g, n)

term_shrinks : Shrinks IsTerm
term_shrinks ts nodes rest h = let f = term_few ts nodes rest h in omega (arith, f)

condition_shrinks : Shrinks IsCondition
condition_shrinks _ _ _ (condition f r s) = let a = term_shrinks _ _ _ f in let b = term_shrinks _ _ _ s in omega (arith, a, b)

conditions_shrink : Shrinks IsConditions
conditions_shrink _ _ _ (one h) = condition_shrinks _ _ _ h
conditions_shrink _ _ _ (and h s hs) = let a = condition_shrinks _ _ _ h in let b = conditions_shrink _ _ _ hs in omega (arith, a, b)

rule_shrinks : Shrinks IsRule
rule_shrinks _ _ _ (plain l r) = let a = term_shrinks _ _ _ l in let b = term_shrinks _ _ _ r in omega (arith, a, b)
rule_shrinks _ _ _ (conditional l r cs) = let a = term_shrinks _ _ _ l in let b = term_shrinks _ _ _ r in let c = conditions_shrink _ _ _ cs in omega (arith, a, b, c)

-- an input of fewer than 2^32 tokens
module _ (k : ℕ) (below : k < 4294967296) where
  left_few : (ts : List Token) (r : Rule) (rest : List Token) → length ts ≤ k → IsRule ts r rest → HasFewNodes r
  left_few _ _ _ l (plain h r) = let f = term_few _ _ _ h in omega (arith, f, l, below)
  left_few _ _ _ l (conditional h r cs) = let f = term_few _ _ _ h in omega (arith, f, l, below)

  rules_few : (ts : List Token) (rs : List Rule) (rest : List Token) → length ts ≤ k → Any IsRule ts rs rest → All HasFewNodes rs
  rules_few _ _ _ l none = All-nil HasFewNodes
  rules_few _ _ _ l (next {x = r} {xs = rs} h hs) = let s = rule_shrinks _ _ _ h in All-cons HasFewNodes r rs (left_few _ _ _ l h) (rules_few _ _ _ (omega (arith, s, l)) hs)

  section_few : (sign : Sign) (ts : List Token) (rs : List Rule) (rest : List Token) → length ts ≤ k → Section sign (Any IsRule) ts rs rest → All HasFewNodes rs
  section_few sign _ _ _ l absent = All-nil HasFewNodes
  section_few sign _ _ _ l (present h) = rules_few _ _ _ (omega (arith, l)) h

  specification_few : (ts : List Token) (s : Specification) (rest : List Token) → length ts ≤ k → IsSpecification ts s rest → HasFewLeftNodes s
  specification_few _ _ _ l (specification i s c o v r t) =
      let names = maybe_shrinks IsNames (listed_shrinks IsName name_shrinks) in
      let x1 = section_shrinks (Maybe IsNames) names _ _ _ _ i in
      let x2 = section_shrinks (Maybe IsNames) names _ _ _ _ s in
      let x3 = section_shrinks (Any IsDeclaration) (any_shrinks IsDeclaration declaration_shrinks) _ _ _ _ c in
      let x4 = section_shrinks (Any IsDeclaration) (any_shrinks IsDeclaration declaration_shrinks) _ _ _ _ o in
      let x5 = section_shrinks (Any IsVariables) (any_shrinks IsVariables variables_shrinks) _ _ _ _ v in
      record { rules = section_few _ _ _ _ (omega (arith, x1, x2, x3, x4, x5, l)) r }

  specification_shrinks : (ts : List Token) (s : Specification) (rest : List Token) → IsSpecification ts s rest → length rest ≤ length ts
  specification_shrinks _ _ _ (specification i s c o v r t) =
      let names = maybe_shrinks IsNames (listed_shrinks IsName name_shrinks) in
      let terms = maybe_shrinks IsTerms (listed_shrinks IsTerm term_shrinks) in
      let x1 = section_shrinks (Maybe IsNames) names _ _ _ _ i in
      let x2 = section_shrinks (Maybe IsNames) names _ _ _ _ s in
      let x3 = section_shrinks (Any IsDeclaration) (any_shrinks IsDeclaration declaration_shrinks) _ _ _ _ c in
      let x4 = section_shrinks (Any IsDeclaration) (any_shrinks IsDeclaration declaration_shrinks) _ _ _ _ o in
      let x5 = section_shrinks (Any IsVariables) (any_shrinks IsVariables variables_shrinks) _ _ _ _ v in
      let x6 = section_shrinks (Any IsRule) (any_shrinks IsRule rule_shrinks) _ _ _ _ r in
      let x7 = section_shrinks (Maybe IsTerms) terms _ _ _ _ t in
      omega (arith, x1, x2, x3, x4, x5, x6, x7)

  specifications_few : (ts : List Token) (ss : List Specification) (rest : List Token) → length ts ≤ k → Any IsSpecification ts ss rest → All HasFewLeftNodes ss
  specifications_few _ _ _ l none = All-nil HasFewLeftNodes
  specifications_few _ _ _ l (next {x = s} {xs = ss} h hs) =
      let d = specification_shrinks _ _ _ h in
      All-cons HasFewLeftNodes s ss (specification_few _ _ _ l h) (specifications_few _ _ _ (omega (arith, d, l)) hs)

  pub input_few : (ts : List Token) (ss : List Specification) → length ts ≤ k → IsInput ts ss → All HasFewLeftNodes ss
  input_few _ _ l (input {s = s} {ss = ss} h hs) =
      let d = specification_shrinks _ _ _ h in
      All-cons HasFewLeftNodes s ss (specification_few _ _ _ l h) (specifications_few _ _ _ (omega (arith, d, l)) hs)
