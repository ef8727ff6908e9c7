use Rattle.std.proofs.Common.{◌≡◌, ◌++◌, codes}
use Rattle.rec_drill.proofs.Numerals.{opened, closed}
use Rattle.rec_drill.proofs.drill.push_numeral.Given as goal

abbrev pub invariant-loop-i : goal.invariant-loop-i
invariant-loop-i l = l.text.items ≡ l.fn.text.items ++ opened l._i

abbrev pub invariant-loop-j : goal.invariant-loop-j
invariant-loop-j l = l.text.items ≡ l.fn.text.items ++ (opened l.count ++ (codes "z" ++ closed l._j))
