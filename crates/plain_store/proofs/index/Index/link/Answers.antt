use Rattle.std.proofs.Common.{length, ap, arith}
use Rattle.plain_store.specs.Index.{Index, home_of}
use Rattle.plain_store.proofs.Linking.{none_vacant}
use Rattle.plain_store.proofs.index.Index.link.Goals as goal

pub returns : goal.returns
returns c =
    let x = c.args.self.now in
    let long = ap (λ (y : Index). length y.words) c.self.view_is in
    let tags = ap (λ (y : Index). y.tags) c.self.view_is in
    let all = none_vacant x (home_of x c.args.hash) (omega (arith, c.home-place.ensures.home, c.home-place.ensures.below)) (λ k lt. c.loop-passed.invariant.filled k (omega (arith, lt, c.loop-passed-test.false, long))) in
    absurd (omega (arith, all, long, tags, c.requires.places))
