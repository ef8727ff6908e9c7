use Rattle.std.proofs.Common.{◌∙◌, ap}
use Rattle.plain_store.specs.Index.{filled_count}
use Rattle.plain_store.proofs.Linking.{none_filled}
use Rattle.plain_store.proofs.Indexing.{indexed_none}
use Rattle.plain_store.proofs.index.Index.grow.Goals as goal

pub returns-clause-none : goal.returns-clause-none
returns-clause-none c =
    indexed_none _ c.clear.ensures.items (ap filled_count c.make_vacant.ensures.items ∙ none_filled _)
