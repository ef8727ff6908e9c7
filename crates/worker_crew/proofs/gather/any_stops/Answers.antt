use Rattle.std.proofs.Common.{◌≡◌, take, subst, arith, All}
use Rattle.std.specs.Prelude.{Err}
use Rattle.std.proofs.lemmas.List.{take_all}
use Rattle.worker_crew.specs.declared.share.Share.{Share}
use Rattle.worker_crew.proofs.Gathering.{falsity}
use Rattle.worker_crew.proofs.Stopping.{no_stop}
use Rattle.worker_crew.proofs.gather.any_stops.Goals as goal

pub returns : goal.returns
returns c =
    let over = c.shares-test.false in
    let whole : take c.shares.share-index c.args.shares.now ≡ c.args.shares.now = take_all c.shares.share-index c.args.shares.now (omega (arith, over)) in (
      (λ h. absurd (falsity h)),
      (λ h. absurd (no_stop c.args.shares.now c.args.stop (subst (λ xs. All (λ (s : Share). s.end ≡ Err c.args.stop → ⊥) xs) whole c.shares.invariant) h)),
    )
