use Rattle.std.proofs.Common.{ap, arith}
use Rattle.term_commands.specs.Different.{different}
use Rattle.term_commands.proofs.Fitting.{fits}
use Rattle.term_commands.proofs.measuring.sizes_by.Goals as goal

pub returns-clause-fit : goal.returns-clause-fit
returns-clause-fit c =
    let few = fits c.build_terms.new.store c.build_terms.ensures.sound in
    let built = ap different c.in_ok-build_terms.ensures.built in
    let same = c.build_terms.ensures.same.0 in
    let rows = c.requires.rows in
    omega (arith, few, built, same, rows)
