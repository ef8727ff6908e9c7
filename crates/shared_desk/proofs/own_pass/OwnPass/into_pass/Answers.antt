use Rattle.shared_desk.proofs.Standing.{back_of}
use Rattle.shared_desk.proofs.own_pass.OwnPass.into_pass.Goals as goal

pub returns : goal.returns
returns g c =
    record { back = back_of c.self.inside.store.now c.self.inside.pass c.self.invariant c.args.self c.self.view_is c.requires.shared c.requires.alone }
