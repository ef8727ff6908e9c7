-- The names of what is spelled have no space and no line feed: their bytes are those of names of
-- the input.
use Rattle.rec_check.proofs.Common.{[], nat_tests, arith, ◌≡◌, ℕ, List, ◌∷◌, ◌++◌, map, Some, Ok, subst, flat_map, AllByRecursion, Named, Name, Token, Declaration, Specification, Parsed, tokens_of, IsInput, Declared, declared, symbols_of_declaration, symbols_by, symbols_of, specifications_at, named_in, with_symbols, Specified, spelled_in}
use Rattle.rec_check.proofs.Plans.{cc_some, last_material, of_spelled}
use Rattle.rec_check.proofs.NameBytes.{all_both, all_at, IsClear, ClearName, ClearNames, ClearDeclarations, ClearSpecifications, tokens_clear, input_clear}

module _ (bytes : List ℕ) where
  abbrev ClearDeclared : List Declared → Type 0
  ClearDeclared ds = AllByRecursion (λ (d : Declared). ClearName bytes d.name) ds

  of_names : (ns arguments : List Name) (sort : Name) → ClearNames bytes ns
      → ClearDeclared (map (λ n. declared n arguments sort) ns)
  of_names [] arguments sort a = tt
  of_names (n ∷ ns) arguments sort a = (a.0, of_names ns arguments sort a.1)

  of_declarations : (ds : List Declaration) → ClearDeclarations bytes ds
      → ClearDeclared (flat_map symbols_of_declaration ds)
  of_declarations [] a = tt
  of_declarations (d ∷ ds) a =
      all_both (λ (d : Declared). ClearName bytes d.name) (symbols_of_declaration d) (flat_map symbols_of_declaration ds)
      (of_names d.names d.arguments d.sort a.0) (of_declarations ds a.1)

  of_specifications : (ss : List Specification) → ClearSpecifications bytes ss
      → ClearDeclared (flat_map symbols_by ss)
  of_specifications [] a = tt
  of_specifications (s ∷ ss) a =
      all_both (λ (d : Declared). ClearName bytes d.name) (symbols_by s) (flat_map symbols_by ss) (of_declarations s.declarations a.0)
      (of_specifications ss a.1)

-- the names of symbols
abbrev pub ClearSymbols : List Named → Type 0
ClearSymbols symbols = AllByRecursion (λ (s : Named). IsClear s.name) symbols

are_named : (bytes : List ℕ) (ds : List Declared) → ClearDeclared bytes ds
    → ClearSymbols (named_in bytes ds)
are_named bytes [] a = tt
are_named bytes (d ∷ ds) a = (a.0, are_named bytes ds a.1)

stay_clear : (symbols ss made : List Named) → ClearSymbols symbols → ClearSymbols ss
    → with_symbols symbols ss ≡ Some made → ClearSymbols made
stay_clear symbols [] made a b h = subst ClearSymbols (cc_some symbols made h) a
stay_clear symbols (s ∷ ss) made a b h = grind (arith, nat_tests, stay_clear (symbols ++ s ∷ []) ss made, all_both (λ (t : Named). IsClear t.name) symbols (s ∷ []) a (b.0, tt), b.1)

-- the tokens of the bytes spell the names
pub names_are_clear : (syntax : Parsed) (tokens : List Token) (spec : Specified)
    → tokens_of syntax.bytes ≡ Ok tokens → IsInput tokens syntax.specifications
    → spelled_in syntax ≡ Some spec → ClearSymbols spec.symbols
names_are_clear syntax tokens spec cut read h =
    let material = last_material syntax in
    let clear = input_clear syntax.bytes tokens syntax.specifications read (tokens_clear syntax.bytes tokens cut) in
    let all = are_named syntax.bytes (symbols_of syntax.specifications material)
    (of_specifications syntax.bytes (specifications_at syntax.specifications material)
    (all_at (λ (s : Specification). ClearDeclarations syntax.bytes s.declarations) syntax.specifications material clear)) in
    of_spelled (λ made. ClearSymbols made.symbols) syntax spec tt
    (λ ts p. stay_clear [] (named_in syntax.bytes (symbols_of syntax.specifications material))
    spec.symbols tt all p.symbols) h
