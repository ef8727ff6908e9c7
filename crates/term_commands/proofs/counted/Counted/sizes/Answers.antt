use Rattle.std.proofs.Common.{◌≤◌, ◌∙◌, length, ap, subst, arith}
use Rattle.terms_api.specs.Terms.{trees}
use Rattle.plain_store.specs.Contents.{Contents, store_of}
use Rattle.term_commands.specs.Different.{different}
use Rattle.term_commands.proofs.Fitting.{all_under, fits}
use Rattle.term_commands.proofs.counted.Counted.sizes.Goals as goal

pub returns-clause-distinct : goal.returns-clause-distinct
returns-clause-distinct c =
    let s = c.self.inside.store in
    let exact = c.self.invariant c.if-not-self.false in
    c.used.ensures.used
    ∙ all_under s c.used.ensures.sound exact.under
    ∙ ap (λ (x : Contents). different (trees (store_of x))) c.self.view_is

pub returns-clause-fit : goal.returns-clause-fit
returns-clause-fit c =
    let s = c.self.inside.store in
    let exact = c.self.invariant c.if-not-self.false in
    let few : c.used.result ≤ length s.trees = omega (arith, c.used.ensures.used, all_under s c.used.ensures.sound exact.under, fits s c.used.ensures.sound) in
    subst (λ (x : Contents). c.used.result ≤ length x.trees) c.self.view_is few
