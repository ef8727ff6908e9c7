use Rattle.std.proofs.Common.{arith}
use Rattle.term_syntax.proofs.Ends.{many}
use Rattle.term_syntax.proofs.nodes.Nodes.count.Goals as goal

pub returns : goal.returns
returns c =
    let m = many c.self.inside.ends.items c.self.inside.items.items c.args.self.now c.self.view_is in
    omega (arith, m, c.len.ensures)
