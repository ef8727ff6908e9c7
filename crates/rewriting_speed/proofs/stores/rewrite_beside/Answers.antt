use Rattle.shared_desk.specs.Telling.{MayHaveDesk}
use Rattle.rewriting_speed.proofs.Desks.{last_holds}
use Rattle.rewriting_speed.proofs.stores.rewrite_beside.Goals as goal

pub laps_at-requires-clause-may : goal.laps_at-requires-clause-may
laps_at-requires-clause-may g c =
    last_holds (MayHaveDesk c.in_ok-store.store) c.in_ok-store.passes.items c.pop.new.self.items c.in-Some.pass c.in-Some.ensures.items c.in_ok-store.ensures.may
