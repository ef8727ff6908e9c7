-- Terms are stored as pairs: each symbol as its name and its arity, and each tree by its own code.
use Rattle.std.specs.Prelude.{ℕ, List, refl}
use Rattle.std.specs.Coded.{Coded, code_by, coded×, coded_ℕ, coded_list}
use Rattle.symbol_pool.specs.Pool.{Named}
use Rattle.term_model.specs.Tree.{Tree}
use Rattle.term_model.specs.Code.{tree_code}
use Rattle.term_file.specs.File.{Terms}

abbrev pub named_code : Coded Named
named_code =
    code_by (List ℕ × ℕ) (coded× (coded_list coded_ℕ) coded_ℕ) (λ s. (s.name, s.arity))
    (λ p. record { name = p.0; arity = p.1 }) (λ _. refl)

abbrev pub terms_code : Coded Terms
terms_code =
    code_by (List Named × List Tree) (coded× (coded_list named_code) (coded_list tree_code))
    (λ t. (t.symbols, t.trees)) (λ p. record { symbols = p.0; trees = p.1 }) (λ _. refl)
