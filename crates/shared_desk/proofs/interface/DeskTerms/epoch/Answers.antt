use Rattle.std.proofs.Common.{◌∙◌, Some, inl, ap}
use Rattle.shared_desk.specs.Code.{Contents}
use Rattle.shared_desk.proofs.Desks.{sound_seen}
use Rattle.shared_desk.proofs.interface.DeskTerms.epoch.Goals as goal

pub base-requires : goal.base-requires
base-requires g c = inl (ap (λ (x : Contents). x.pass.shared) c.self.view_is ∙ c.requires)

pub returns : goal.returns
returns g c = record {
  epoch = ap Some (c.base.ensures ∙ ap (λ (x : Contents). x.pass.base) c.self.view_is);
  sound = sound_seen (g.S.SharedPass.view c.self.inside.pass) c.self.inside.places.items _ _ _ c.args.self.now c.self.view_is c.self.invariant.sound;
}
