use Rattle.std.proofs.Common.{subst}
use Rattle.terms_api.specs.Terms.{IsSound}
use Rattle.plain_store.specs.Contents.{Contents, store_of}
use Rattle.plain_store.specs.View.{contents_of}
use Rattle.plain_store.specs.Outcome.{HoldsReachable}
use Rattle.plain_store.proofs.Reaching.{reach_row}
use Rattle.plain_store.proofs.store.PlainStore.hash.Goals as goal

pub returns-clause-sound : goal.returns-clause-sound
returns-clause-sound c = subst (λ (x : Contents). IsSound (store_of x)) c.self.view_is c.self.invariant.sound

pub returns-clause-holds : goal.returns-clause-holds
returns-clause-holds c =
    let s = c.self.inside in
    subst HoldsReachable c.self.view_is (λ t h. let r = reach_row s.nodes (contents_of s) c.self.invariant.agree c.self.invariant.sound t h in (r.2.0, r.2.2))
