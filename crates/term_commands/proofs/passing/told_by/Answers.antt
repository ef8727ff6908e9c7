use Rattle.terms_api.specs.Terms.{trees}
use Rattle.plain_store.specs.Contents.{store_of}
use Rattle.term_commands.proofs.AtOnce.{listed}
use Rattle.term_commands.proofs.passing.told_by.Goals as goal

pub returns : goal.returns
returns c =
    let built = c.in_ok-text.ensures.built in
    let ts = trees (store_of c.build_text.new.store) in
    let told = c.in_ok-sizes.ensures in
    let sizes = c.in_ok-sizes.sizes in
    listed c.args.rows c.args.input.now _ _ built.0 ts sizes.distinct sizes.nodes built.1 told.distinct told.nodes told.fit c.in_ok-write_sizes.ensures
