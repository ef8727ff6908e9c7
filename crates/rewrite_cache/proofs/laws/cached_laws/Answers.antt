use Rattle.rewrite_cache.proofs.Joined.{all_built, joined, new_built}
use Rattle.rewrite_cache.proofs.laws.cached_laws.Goals as goal

pub returns-clause-whole : goal.returns-clause-whole
returns-clause-whole c = all_built

pub returns-clause-new : goal.returns-clause-new
returns-clause-new c = λ rules earlier trees points new cached. new_built new cached

pub returns-clause-join : goal.returns-clause-join
returns-clause-join c = λ rules earlier trees more points others d e. joined more others d e
