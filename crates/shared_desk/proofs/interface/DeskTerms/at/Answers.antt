use Rattle.std.proofs.Common.{◌≡◌, ◌<◌, Some, length, refl, sym, subst}
use Rattle.std.specs.Prelude.{slice_get}
use Rattle.shared_desk.specs.Desk.{same_itself}
use Rattle.shared_desk.specs.Code.{Contents}
use Rattle.shared_desk.proofs.Desks.{sound_seen}
use Rattle.shared_desk.proofs.interface.DeskTerms.at.Goals as goal

pub at-requires : goal.at-requires
at-requires g c = subst (λ (x : Contents). c.args.i < length x.stack) (sym c.self.view_is) c.requires.place

pub returns : goal.returns
returns g c = record {
  row = subst (λ (x : Contents). slice_get x.stack c.args.i ≡ Some c.at.result) c.self.view_is c.at.ensures;
  unchanged = refl;
  sound = sound_seen (g.S.SharedPass.view c.self.inside.pass) c.self.inside.places.items _ _ _ c.args.self.now c.self.view_is c.self.invariant.sound;
  same = same_itself c.args.self.now;
}
