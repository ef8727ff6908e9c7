use Rattle.std.proofs.Common.{◌≡◌, take}
use Rattle.std.specs.List.{flat_map}
use Rattle.rec_answers.specs.Lines.{line}
use Rattle.rec_answers.proofs.joining.joined.Given as goal

abbrev pub invariant-loop-line : goal.invariant-loop-line
invariant-loop-line l = l.text.items ≡ flat_map (λ k. line k.text.items) (take l.line-index l.lines)
