use Rattle.std.proofs.Common.{◌≡◌, take}
use Rattle.terms_api.specs.Terms.{IsSound, pushed_all}
use Rattle.terms_api.proofs.terms.Terms.try_build_of.Given as goal

abbrev pub invariant-loop-row : goal.invariant-loop-row
invariant-loop-row g l =
    (g.Self.Terms.store l.self ≡ pushed_all (g.Self.Terms.store l.initial.self) (take l.row-index l.rows))
    × IsSound (g.Self.Terms.store l.self)
    × g.Self.Terms.same l.initial.self l.self
