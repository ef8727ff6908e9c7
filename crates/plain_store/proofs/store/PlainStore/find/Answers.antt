use Rattle.std.proofs.Common.{◌≡◌, ◌∙◌, ℕ, List, None, ap, sym, subst, get_or}
use Rattle.term_model.specs.declared.Row.{Row}
use Rattle.terms_api.specs.Terms.{HasTree, asked, IsSound}
use Rattle.plain_store.specs.Slots.{slot_at}
use Rattle.plain_store.specs.Contents.{Contents, store_of, IsAbsent}
use Rattle.plain_store.specs.View.{contents_of}
use Rattle.plain_store.proofs.Placing.{node_of, found_tree, absent_tree}
use Rattle.plain_store.specs.Outcome.{HoldsReachable}
use Rattle.plain_store.proofs.Reaching.{reach_row}
use Rattle.plain_store.proofs.Stepping.{if_some, if_none}
use Rattle.plain_store.proofs.store.PlainStore.find.Goals as goal

pub returns-clause-found : goal.returns-clause-found
returns-clause-found c =
    let s = c.self.inside in
    let n = c.args.n in
    let h = c.args.head in
    let args = c.last.ensures in
    if_some c.find.result (λ r. slot_at s.nodes r ≡ node_of h c.last.result.now) (λ r. HasTree (store_of c.args.self.now) r (asked (store_of c.args.self.now) h n))
    (λ r e. subst (λ (x : Contents). HasTree (store_of x) r (asked (store_of x) h n)) c.self.view_is (found_tree s.nodes (contents_of s) h n r c.self.invariant.agree (e ∙ ap (λ (xs : List Row). node_of h xs) args)))
    c.find.ensures.found

pub returns-clause-absent : goal.returns-clause-absent
returns-clause-absent c =
    let s = c.self.inside in
    let n = c.args.n in
    let h = c.args.head in
    let args = c.last.ensures in
    if_none c.find.result ((k : ℕ) → get_or s.nodes.slots k None ≡ node_of h c.last.result.now → ⊥) (IsAbsent c.args.self.now (asked (store_of c.args.self.now) h n))
    (λ none. subst (λ (x : Contents). IsAbsent x (asked (store_of x) h n)) c.self.view_is
    (absent_tree s.nodes (contents_of s) h n c.self.invariant.agree c.self.invariant.sound (λ k e. none k (e ∙ ap (λ (xs : List Row). node_of h xs) (sym args)))))
    c.find.ensures.absent

pub returns-clause-sound : goal.returns-clause-sound
returns-clause-sound c = subst (λ (x : Contents). IsSound (store_of x)) c.self.view_is c.self.invariant.sound

pub returns-clause-holds : goal.returns-clause-holds
returns-clause-holds c =
    let s = c.self.inside in
    subst HoldsReachable c.self.view_is (λ t h. let r = reach_row s.nodes (contents_of s) c.self.invariant.agree c.self.invariant.sound t h in (r.2.0, r.2.2))
