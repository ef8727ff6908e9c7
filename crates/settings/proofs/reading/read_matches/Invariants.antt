use Rattle.std.proofs.Common.{◌≡◌, map, drop, fold}
use Rattle.clap.specs.Simple.{app_of, with_rule}
use Rattle.settings.specs.Line.{argument_of, app_with}
use Rattle.settings.proofs.reading.read_matches.Given as goal

-- the line with the arguments that are left is the line with all
abbrev pub invariant-loop-option : goal.invariant-loop-option
invariant-loop-option l = fold with_rule (app_of l.line) (map argument_of (drop l.option-index l.all)) ≡ app_with (map argument_of l.all)
