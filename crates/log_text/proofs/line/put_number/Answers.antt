use Rattle.std.proofs.Common.{◌≤◌, length, decimal, rules, arith}
use Rattle.std.proofs.lemmas.Fmt.{length-decimal-le}
use Rattle.log_text.proofs.line.put_number.Goals as goal

pub write_digits-requires : goal.write_digits-requires
write_digits-requires c =
    let short : length (decimal c.args.number) ≤ 20 = search (rules, length-decimal-le 20) in
    (omega (arith, short, c.requires.0), omega (arith, c.requires.1, c.told-bytes))

pub returns-clause-room : goal.returns-clause-room
returns-clause-room c =
    let short : length (decimal c.args.number) ≤ 20 = search (rules, length-decimal-le 20) in
    omega (arith, short, c.write_digits.ensures.start)
