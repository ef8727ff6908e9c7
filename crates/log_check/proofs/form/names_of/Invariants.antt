use Rattle.std.proofs.Common.{◌≡◌, ◌++◌, length}
use Rattle.std.specs.Option.{option_map}
use Rattle.log_check.specs.Words.{words_after}
use Rattle.log_check.specs.Form.{names_in}
use Rattle.log_check.proofs.form.names_of.Given as goal

-- the names read, before those of the words that are left
abbrev pub invariant-words : goal.invariant-words
invariant-words l = names_in (words_after l.rest) ≡ option_map (λ more. l.names ++ more) (names_in (words_after l.left))

abbrev pub decreases-words : goal.decreases-words
decreases-words l = length l.left
