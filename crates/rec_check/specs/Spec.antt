-- A specification as it is kept.
use Rattle.rec_check.specs.declared.spec.Spec.{Spec}
use Rattle.rec_check.specs.Spelled.{Specified}

abbrev pub specified : Spec → Specified
specified s = record { symbols = s.symbols; rules = s.rules.items; terms = s.terms.items }
