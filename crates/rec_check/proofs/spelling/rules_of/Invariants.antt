use Rattle.rec_check.proofs.Common.{◌≡◌, drop, specifications_at, after}
use Rattle.rec_check.specs.Spelled as spelled
use Rattle.rec_check.proofs.spelling.rules_of.Given as goal

abbrev pub invariant-loop-number : goal.invariant-loop-number
invariant-loop-number l =
    after l.rules.items (spelled.rules_of l.text l.symbols (specifications_at l.specifications (drop l.number-index l.material)))
    ≡ spelled.rules_of l.text l.symbols (specifications_at l.specifications l.material)
