use Rattle.std.proofs.Common.{arith, inl, refl}
use Rattle.shared_desk.specs.Passes.{IsStanding}
use Rattle.shared_desk.proofs.Standing.{sound_standing}
use Rattle.shared_desk.proofs.own_pass.OwnPass.new.Goals as goal

pub invariant_of-result : goal.invariant_of-result
invariant_of-result g c = record { of = c.requires.of; told = c.requires.told; placed = inl c.requires.out; whole = c.requires.whole; small = omega arith }

pub returns : goal.returns
returns g c =
    let s = c.args.store.now in
    let standing : IsStanding s c.args.pass = record { of = c.requires.of; told = c.requires.told; placed = inl c.requires.out; whole = c.requires.whole; small = omega arith } in
    record { seen = refl; sound = sound_standing s c.args.pass standing }
