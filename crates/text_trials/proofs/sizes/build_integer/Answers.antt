use Rattle.std.proofs.Common.{refl}
use Rattle.term_text.proofs.Trying.{tried_built}
use Rattle.text_trials.proofs.sizes.build_integer.Goals as goal

pub returns : goal.returns
returns g c =
    let b = c.build.ensures in
    tried_built c.args.symbols.now (g.T.Terms.store c.args.terms.now) (g.T.Terms.store c.build.new.self) _ 0 c.build.result b.ok b.trees b.err b.err_trees refl c.requires
