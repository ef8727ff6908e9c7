use Rattle.rec_includes.proofs.Common.{arith, common_steps, nil_from_length, text_of}
use Rattle.rec_includes.proofs.directory.Directory.place.Goals as goal

pub returns-in-Some : goal.returns-in-Some
returns-in-Some c = grind (arith, common_steps)

pub returns-in-None : goal.returns-in-None
returns-in-None c = grind (arith, common_steps, nil_from_length, c.self.invariant.places (text_of c.self.inside.text.now c.args.name))

pub returns-in-None-2 : goal.returns-in-None-2
returns-in-None-2 c = grind (arith, common_steps, c.self.invariant.places (text_of c.self.inside.text.now c.args.name))
