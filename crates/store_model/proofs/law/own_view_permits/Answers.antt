use Rattle.store_model.proofs.Showing.{view_shows, known_words_stand, collection_sees}
use Rattle.store_model.proofs.law.own_view_permits.Goals as goal

pub returns-clause-permitted : goal.returns-clause-permitted
returns-clause-permitted c = view_shows

pub returns-clause-known : goal.returns-clause-known
returns-clause-known c = known_words_stand

pub returns-clause-seen : goal.returns-clause-seen
returns-clause-seen c = collection_sees
