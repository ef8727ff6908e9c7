-- A table of terms that grows, once and again.
use Rattle.std.proofs.Common.{refl, ◌∙◌, arith}
use Rattle.run_checks.specs.Held.{Held, Grows}

pub grows_not : (h : Held) → Grows h h
grows_not h = record { symbols = refl; count = omega arith; same = λ n lt. refl }

pub grows_twice : (a b c : Held) → Grows a b → Grows b c → Grows a c
grows_twice a b c g h = record {
  symbols = h.symbols ∙ g.symbols;
  count = omega (arith, g.count, h.count);
  same = λ n lt. h.same n (omega (arith, lt, g.count)) ∙ g.same n lt;
}
