use Rattle.rewrite_cache.proofs.Least.{no_less_serves, one_least}
use Rattle.rewrite_cache.proofs.laws.room_laws.Goals as goal

pub returns-clause-least : goal.returns-clause-least
returns-clause-least c = no_less_serves

pub returns-clause-one : goal.returns-clause-one
returns-clause-one c = one_least
