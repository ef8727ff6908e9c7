use Rattle.rec_includes.proofs.Common.{common_steps, arith}
use Rattle.rec_includes.proofs.Places.{looks_again, rises_again}
use Rattle.rec_includes.proofs.directory.Directory.add.Goals as goal

pub invariant_of-self-then-has : goal.invariant_of-self-then-has
invariant_of-self-then-has c =
    let s = c.self.inside in
    let looks = looks_again s.text.now s.names.items s.places.entries c.args.name in
    record { places = grind (arith, common_steps, looks); rising = grind (arith, common_steps, rises_again) }
