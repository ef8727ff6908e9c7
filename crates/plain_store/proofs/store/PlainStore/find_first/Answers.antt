use Rattle.std.proofs.Common.{subst}
use Rattle.terms_api.specs.Terms.{IsSound}
use Rattle.plain_store.specs.Contents.{Contents, store_of}
use Rattle.plain_store.specs.View.{contents_of}
use Rattle.plain_store.specs.Looks.{LooksFor}
use Rattle.plain_store.proofs.Seeking.{look_for}
use Rattle.plain_store.specs.Outcome.{HoldsReachable}
use Rattle.plain_store.proofs.Reaching.{reach_row}
use Rattle.plain_store.proofs.store.PlainStore.find_first.Goals as goal

pub returns-clause-looks : goal.returns-clause-looks
returns-clause-looks c =
    let s = c.self.inside in
    let h = c.args.head in
    let n = c.args.n in
    subst (λ (x : Contents). LooksFor x h n c.find_first.result) c.self.view_is
    (look_for s.nodes (contents_of s) h n c.last.result.now c.find_first.result c.self.invariant.agree c.self.invariant.sound c.last.ensures c.find_first.ensures)

pub returns-clause-sound : goal.returns-clause-sound
returns-clause-sound c = subst (λ (x : Contents). IsSound (store_of x)) c.self.view_is c.self.invariant.sound

pub returns-clause-holds : goal.returns-clause-holds
returns-clause-holds c =
    let s = c.self.inside in
    subst HoldsReachable c.self.view_is (λ t h. let r = reach_row s.nodes (contents_of s) c.self.invariant.agree c.self.invariant.sound t h in (r.2.0, r.2.2))
