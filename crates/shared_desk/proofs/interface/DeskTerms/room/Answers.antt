use Rattle.std.proofs.Common.{◌∙◌, ap}
use Rattle.shared_desk.specs.Code.{Contents}
use Rattle.shared_desk.proofs.Desks.{sound_seen}
use Rattle.shared_desk.proofs.interface.DeskTerms.room.Goals as goal

pub returns : goal.returns
returns g c = record {
  room = c.depth.ensures ∙ ap (λ (x : Contents). x.pass.depth) c.self.view_is;
  sound = sound_seen (g.S.SharedPass.view c.self.inside.pass) c.self.inside.places.items _ _ _ c.args.self.now c.self.view_is c.self.invariant.sound;
}
