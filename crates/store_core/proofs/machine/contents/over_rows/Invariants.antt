use Rattle.std.proofs.Common.{◌≡◌, ◌∷◌, map}
use Rattle.store_core.proofs.machine.contents.over_rows.Given as goal

abbrev pub invariant-loop-row : goal.invariant-loop-row
invariant-loop-row l = l.words.items ≡ l.symbol ∷ l.count ∷ map (λ row. row.now) l.yielded
