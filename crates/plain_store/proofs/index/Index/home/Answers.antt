use Rattle.std.proofs.Common.{ap, length, arith}
use Rattle.std.proofs.lemmas.Nat.{and_le_r}
use Rattle.plain_store.specs.Index.{Index}
use Rattle.plain_store.proofs.index.Index.home.Goals as goal

pub returns-clause-below : goal.returns-clause-below
returns-clause-below c =
    let long = ap (λ (x : Index). length x.words) c.self.view_is in
    omega (arith, and_le_r c.high.result c.self.inside.homes, c.self.invariant.homes, long)
