-- What is spelled has no symbol of more than 16 arguments.
use Rattle.rec_check.proofs.Common.{[], ◌≡◌, ◌≤◌, List, ◌∷◌, ◌++◌, Some, subst, arith, nat_tests, Named, Parsed, symbols_of, named_in, with_symbol, with_symbols, widest_of, Specified, spelled_in}
use Rattle.rec_check.proofs.Plans.{cc_some, from_then, last_material, of_spelled}
use Rattle.rec_check.proofs.Declaring.{widest_of_push}

-- a symbol that is added has few arguments
added : (symbols more : List Named) (s : Named) → with_symbol symbols s ≡ Some more
    → (s.arity ≤ 16) × (symbols ++ s ∷ [] ≡ more)
added symbols more s h = grind (arith, nat_tests)

-- so those that are added to others stay narrow
stays : (symbols ss made : List Named) → widest_of symbols ≤ 16
    → with_symbols symbols ss ≡ Some made → widest_of made ≤ 16
stays symbols [] made few h = subst (λ m. widest_of m ≤ 16) (cc_some symbols made h) few
stays symbols (s ∷ ss) made few h =
    let a = from_then (λ more. with_symbols more ss) (with_symbol symbols s) made h in
    stays a.x ss made (grind (arith, added symbols a.x s a.is, widest_of_push symbols s)) a.gives

pub few_arguments : (syntax : Parsed) (spec : Specified) → spelled_in syntax ≡ Some spec
    → widest_of spec.symbols ≤ 16
few_arguments syntax spec h =
    of_spelled (λ made. widest_of made.symbols ≤ 16) syntax spec (omega arith)
    (λ ts p. stays [] (named_in syntax.bytes (symbols_of syntax.specifications (last_material syntax)))
    spec.symbols (omega arith) p.symbols) h
