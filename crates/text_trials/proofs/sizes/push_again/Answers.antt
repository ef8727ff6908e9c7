use Rattle.std.proofs.Common.{◌-◌, arith}
use Rattle.term_text.proofs.Trying.{tried_pushed}
use Rattle.text_trials.proofs.sizes.push_again.Goals as goal

pub returns : goal.returns
returns g c =
    let s = g.T.Terms.store c.args.terms.now in
    tried_pushed c.args.symbols.now s (g.T.Terms.store c.push.new.self) (g.T.Terms.store c.at-top.new.self) (c.depth-depth.result - 1) c.at-top.result c.push.result
    c.at-top.ensures.unchanged c.at-top.ensures.row (omega (arith, c.depth-depth.ensures.depth)) c.push.ensures.ok c.push.ensures.err c.requires
