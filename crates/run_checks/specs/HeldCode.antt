-- What a table holds is told apart as the terms of a file are.
use Rattle.std.specs.Prelude.{refl}
use Rattle.std.specs.Coded.{Coded, code_by}
use Rattle.term_file.specs.File.{Terms}
use Rattle.term_file.specs.TermsCode.{terms_code}
use Rattle.run_checks.specs.Held.{Held}

abbrev pub held_code : Coded Held
held_code = code_by Terms terms_code (λ h. record { symbols = h.symbols; trees = h.terms })
    (λ t. record { symbols = t.symbols; terms = t.trees }) (λ _. refl)
