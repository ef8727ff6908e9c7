use Rattle.term_text.proofs.Trying.{tried_built, held_named}
use Rattle.text_trials.proofs.sizes.build_symbol.Goals as goal

pub returns : goal.returns
returns g c =
    let b = c.build.ensures in
    tried_built c.args.symbols.now (g.T.Terms.store c.args.terms.now) (g.T.Terms.store c.build.new.self) _ c.args.n c.build.result b.ok b.trees b.err b.err_trees (held_named c.args.symbols.now c.args.symbol c.requires.held) c.requires.tried
