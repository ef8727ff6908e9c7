use Rattle.std.proofs.Common.{◌+◌, refl, arith}
use Rattle.rule_automaton.proofs.Filling.{fills_more}
use Rattle.rule_automaton.proofs.rows.put_at.Goals as goal

pub returns-clause-more : goal.returns-clause-more
returns-clause-more c = λ s row all f held tree.
    let w = c.requires.within in
    let z = f.size in
    fills_more s s row c.args.argument c.args.base c.args.place (c.args.place + 1) all c.args.rows.now refl (omega arith) (omega (arith, w, z)) f held tree
