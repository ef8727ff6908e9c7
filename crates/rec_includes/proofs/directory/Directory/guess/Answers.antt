use Rattle.rec_includes.proofs.Common.{common_steps, arith}
use Rattle.rec_includes.proofs.Places.{guessed}
use Rattle.rec_includes.proofs.directory.Directory.guess.Goals as goal

pub returns-then-eq : goal.returns-then-eq
returns-then-eq c = grind (arith, common_steps, guessed c.self.inside.text.now c.self.inside.names.items c.self.inside.places.entries c.args.text.now c.in_ok-key.key.now c.in_ok-key.place.now c.self.invariant.places c.in_ok-key.ensures.value)
