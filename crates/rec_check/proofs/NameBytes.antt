-- The names of tokens, and of the declarations that they spell, have no space and no line feed.
use Rattle.rec_reader.specs.Grammar.{named as name_read}
use Rattle.rec_check.proofs.Common.{[], nat_tests, ◌≡◌, ℕ, zero, suc, slice_get, ◌+◌, ◌<◌, Bool, true, List, ◌∷◌, ◌++◌, length, drop, Option, Some, None, Ok, refl, sym, subst, arith, nat_lt, list_all, AllByRecursion, option_to_list, Name, Token, Declaration, Specification, is_name_byte, tokens_of, Any, none, next, Maybe, without, with, Section, absent, present, Listed, last, beside, with_comma, IsName, IsNames, IsDeclaration, declaration, IsVariables, variables, IsTerm, constant, call, IsArguments, only, more, IsTerms, IsCondition, condition, IsConditions, one, and, IsRule, plain, conditional, IsSpecification, specification, IsInput, input, text_of, specifications_at, drop-append_seam, take-append_seam}
use Rattle.std.proofs.Common.{append_assoc}
use Rattle.std.proofs.lemmas.List.{length-append}
use Rattle.rec_reader.specs.declared.token.Token.TheVariants as token
use Rattle.rec_reader.specs.declared.token.Sign.{Sign}
use Rattle.rec_reader.specs.Cut.{Part, IsPart, joined, tokens_in, AreParts, IsCut}
use Rattle.rec_reader.proofs.Cutting.{tokens_are_cut}

-- ---- what holds of each of a list

pub all_both : {A : Type 0} (P : A → Type 0) (xs ys : List A) → AllByRecursion P xs → AllByRecursion P ys
    → AllByRecursion P (xs ++ ys)
all_both P [] ys a b = b
all_both P (x ∷ xs) ys a b = (a.0, all_both P xs ys a.1 b)

one_at : {A : Type 0} (P : A → Type 0) (xs : List A) (n : ℕ) → AllByRecursion P xs
    → AllByRecursion P (option_to_list (slice_get xs n))
one_at P [] n a = tt
one_at P (x ∷ xs) zero a = (a.0, tt)
one_at P (x ∷ xs) (suc n) a = one_at P xs n a.1

-- of the specifications of a material
pub all_at : (P : Specification → Type 0) (ss : List Specification) (ns : List ℕ)
    → AllByRecursion P ss → AllByRecursion P (specifications_at ss ns)
all_at P ss [] a = tt
all_at P ss (n ∷ ns) a =
    all_both P (option_to_list (slice_get ss n)) (specifications_at ss ns) (one_at P ss n a) (all_at P ss ns a)

-- ---- bytes above the space

-- no space, no line feed, and no byte below them
abbrev pub is_clear : List ℕ → Bool
is_clear bytes = list_all (λ b. nat_lt 32 b) bytes

abbrev pub IsClear : List ℕ → Type 0
IsClear bytes = is_clear bytes ≡ true

text_clear : (text rest : List ℕ)
    → ((k : ℕ) → k < length text → is_name_byte (drop k (text ++ rest)) ≡ true) → IsClear text
text_clear [] rest each = refl
text_clear (b ∷ bs) rest each =
    let more = text_clear bs rest (λ k lt. each (suc k) (omega (arith, lt))) in
    grind (arith, nat_tests, more, each 0)

-- ---- the names of tokens

module _ (bytes : List ℕ) where
  abbrev pub ClearName : Name → Type 0
  ClearName n = IsClear (text_of bytes n)

  abbrev ClearToken : Token → Type 0
  ClearToken (token.Named n) = ClearName n
  ClearToken (token.At sign p) = Unit {0}

  abbrev ClearTokens : List Token → Type 0
  ClearTokens [] = Unit {0}
  ClearTokens (t ∷ ts) = ClearToken t × ClearTokens ts

  cut_out : (before text rest : List ℕ) (n : Name) → bytes ≡ before ++ (text ++ rest)
      → n.start ≡ length before → n.end ≡ length before + length text → text_of bytes n ≡ text
  cut_out before text rest n is start end =
      grind (arith, drop-append_seam before (text ++ rest), take-append_seam text rest)

  one_part : (before text rest : List ℕ) (o : Option Token) (ts : List Token)
      → bytes ≡ before ++ (text ++ rest) → IsPart (length before) text rest o → ClearTokens ts
      → ClearTokens (option_to_list o ++ ts)
  one_part before text rest None ts is p c = c
  one_part before text rest (Some (token.Named n)) ts is p c =
      (grind (arith, cut_out before text rest n is p.0 p.1, text_clear text rest p.2.each), c)
  one_part before text rest (Some (token.At sign at)) ts is p c = (tt, c)

  parts_clear : (before : List ℕ) (ps : List Part) → AreParts (length before) ps
      → bytes ≡ before ++ joined ps → ClearTokens (tokens_in ps)
  parts_clear before [] a is = tt
  parts_clear before (p ∷ ps) a is =
      let rest = parts_clear (before ++ p.text) ps in
      one_part before p.text (joined ps) p.token (tokens_in ps) is a.0
      (grind (arith, rest, a.1, length-append before p.text, append_assoc before p.text (joined ps)))

  pub tokens_clear : (tokens : List Token) → tokens_of bytes ≡ Ok tokens → ClearTokens tokens
  tokens_clear tokens e =
      let c : IsCut 0 bytes tokens = tokens_are_cut bytes tokens e in
      subst ClearTokens c.spelled (parts_clear [] c.parts c.each (sym c.join))

  -- ---- what a production leaves has clear names

  abbrev Keeps : {A : Type 0} → (List Token → A → List Token → Type 0) → Type 0
  Keeps {A} Is = (ts : List Token) (x : A) (rest : List Token) → Is ts x rest → ClearTokens ts
      → ClearTokens rest

  any_keeps : {A : Type 0} (Is : List Token → A → List Token → Type 0) → Keeps Is → Keeps (Any Is)
  any_keeps Is f _ _ _ none c = c
  any_keeps Is f _ _ _ (next h hs) c = any_keeps Is f _ _ _ hs (f _ _ _ h c)

  listed_keeps : {A : Type 0} (Is : List Token → A → List Token → Type 0) → Keeps Is
      → Keeps (Listed Is)
  listed_keeps Is f _ _ _ (last h) c = f _ _ _ h c
  listed_keeps Is f _ _ _ (beside h hs) c = listed_keeps Is f _ _ _ hs (f _ _ _ h c)
  listed_keeps Is f _ _ _ (with_comma h hs) c = listed_keeps Is f _ _ _ hs (f _ _ _ h c).1

  maybe_keeps : {A : Type 0} (Is : List Token → List A → List Token → Type 0) → Keeps Is
      → Keeps (Maybe Is)
  maybe_keeps Is f _ _ _ without c = c
  maybe_keeps Is f _ _ _ (with h) c = f _ _ _ h c

  section_keeps : {A : Type 0} (Is : List Token → List A → List Token → Type 0) → Keeps Is
      → (sign : Sign) → Keeps (Section sign Is)
  section_keeps Is f sign _ _ _ absent c = c
  section_keeps Is f sign _ _ _ (present h) c = f _ _ _ h c.1

  name_keeps : Keeps IsName
  name_keeps _ _ _ name_read c = c.1

  names_keep : Keeps (Maybe IsNames)
  names_keep = maybe_keeps IsNames (listed_keeps IsName name_keeps)

  declaration_keeps : Keeps IsDeclaration
  declaration_keeps _ _ _ (declaration n a) c =
      (names_keep _ _ _ a (listed_keeps IsName name_keeps _ _ _ n c).1).1.1

  variables_keep : Keeps IsVariables
  variables_keep _ _ _ (variables n) c = (listed_keeps IsName name_keeps _ _ _ n c).1.1

  mutual
    term_keeps : Keeps IsTerm
    term_keeps _ _ _ constant c = c.1
    term_keeps _ _ _ (call {a = a} h) c = (arguments_keep _ a _ h c.1.1).1

    arguments_keep : Keeps IsArguments
    arguments_keep _ _ _ (only h) c = term_keeps _ _ _ h c
    arguments_keep _ _ _ (more {t = t} {a = a} h hs) c =
        arguments_keep _ a _ hs (term_keeps _ t _ h c).1

  condition_keeps : Keeps IsCondition
  condition_keeps _ _ _ (condition f r s) c = term_keeps _ _ _ s (term_keeps _ _ _ f c).1

  conditions_keep : Keeps IsConditions
  conditions_keep _ _ _ (one h) c = condition_keeps _ _ _ h c
  conditions_keep _ _ _ (and h s hs) c = conditions_keep _ _ _ hs (condition_keeps _ _ _ h c).1

  rule_keeps : Keeps IsRule
  rule_keeps _ _ _ (plain l r) c = term_keeps _ _ _ r (term_keeps _ _ _ l c).1
  rule_keeps _ _ _ (conditional l r cs) c =
      conditions_keep _ _ _ cs (term_keeps _ _ _ r (term_keeps _ _ _ l c).1).1

  -- ---- the names of declarations

  abbrev pub ClearNames : List Name → Type 0
  ClearNames ns = AllByRecursion ClearName ns

  abbrev pub ClearDeclarations : List Declaration → Type 0
  ClearDeclarations ds = AllByRecursion (λ (d : Declaration). ClearNames d.names) ds

  name_clear : (ts : List Token) (n : Name) (rest : List Token) → IsName ts n rest
      → ClearTokens ts → ClearName n
  name_clear _ _ _ name_read c = c.0

  names_clear : (ts : List Token) (ns : List Name) (rest : List Token) → IsNames ts ns rest
      → ClearTokens ts → ClearNames ns
  names_clear _ _ _ (last h) c = (name_clear _ _ _ h c, tt)
  names_clear _ _ _ (beside h hs) c =
      (name_clear _ _ _ h c, names_clear _ _ _ hs (name_keeps _ _ _ h c))
  names_clear _ _ _ (with_comma h hs) c =
      (name_clear _ _ _ h c, names_clear _ _ _ hs (name_keeps _ _ _ h c).1)

  declaration_clear : (ts : List Token) (d : Declaration) (rest : List Token)
      → IsDeclaration ts d rest → ClearTokens ts → ClearNames d.names
  declaration_clear _ _ _ (declaration n a) c = names_clear _ _ _ n c

  declarations_clear : (ts : List Token) (ds : List Declaration) (rest : List Token)
      → Any IsDeclaration ts ds rest → ClearTokens ts → ClearDeclarations ds
  declarations_clear _ _ _ none c = tt
  declarations_clear _ _ _ (next h hs) c =
      (declaration_clear _ _ _ h c, declarations_clear _ _ _ hs (declaration_keeps _ _ _ h c))

  section_clear : (sign : Sign) (ts : List Token) (ds : List Declaration) (rest : List Token)
      → Section sign (Any IsDeclaration) ts ds rest → ClearTokens ts → ClearDeclarations ds
  section_clear sign _ _ _ absent c = tt
  section_clear sign _ _ _ (present h) c = declarations_clear _ _ _ h c.1

  includes_keep : (sign : Sign) → Keeps (Section sign (Maybe IsNames))
  includes_keep = section_keeps (Maybe IsNames) names_keep

  group_keeps : (sign : Sign) → Keeps (Section sign (Any IsDeclaration))
  group_keeps = section_keeps (Any IsDeclaration) (any_keeps IsDeclaration declaration_keeps)

  specification_keeps : Keeps IsSpecification
  specification_keeps _ _ _ (specification i s d o v r t) c =
      let a1 = includes_keep _ _ _ _ i c.1.1 in
      let a2 = includes_keep _ _ _ _ s a1 in
      let a3 = group_keeps _ _ _ _ d a2 in
      let a4 = group_keeps _ _ _ _ o a3 in
      let a5 = section_keeps (Any IsVariables) (any_keeps IsVariables variables_keep) _ _ _ _ v
      a4 in
      let a6 = section_keeps (Any IsRule) (any_keeps IsRule rule_keeps) _ _ _ _ r a5 in
      (section_keeps (Maybe IsTerms) (maybe_keeps IsTerms (listed_keeps IsTerm term_keeps)) _ _ _
      _ t a6).1

  specification_clear : (ts : List Token) (s : Specification) (rest : List Token)
      → IsSpecification ts s rest → ClearTokens ts → ClearDeclarations s.declarations
  specification_clear _ _ _ (specification {cons = cons} {opns = opns} i s d o v r t) c =
      let a1 = includes_keep _ _ _ _ i c.1.1 in
      let a2 = includes_keep _ _ _ _ s a1 in
      let a3 = group_keeps _ _ _ _ d a2 in
      all_both (λ (d : Declaration). ClearNames d.names) cons opns (section_clear _ _ _ _ d a2) (section_clear _ _ _ _ o a3)

  abbrev pub ClearSpecifications : List Specification → Type 0
  ClearSpecifications ss =
      AllByRecursion (λ (s : Specification). ClearDeclarations s.declarations) ss

  specifications_clear : (ts : List Token) (ss : List Specification) (rest : List Token)
      → Any IsSpecification ts ss rest → ClearTokens ts → ClearSpecifications ss
  specifications_clear _ _ _ none c = tt
  specifications_clear _ _ _ (next h hs) c =
      (specification_clear _ _ _ h c, specifications_clear _ _ _ hs (specification_keeps _ _ _ h c))

  pub input_clear : (ts : List Token) (ss : List Specification) → IsInput ts ss → ClearTokens ts
      → ClearSpecifications ss
  input_clear _ _ (input h hs) c =
      (specification_clear _ _ _ h c, specifications_clear _ _ _ hs (specification_keeps _ _ _ h c))
