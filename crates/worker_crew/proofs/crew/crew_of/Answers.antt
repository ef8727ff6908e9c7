use Rattle.std.proofs.Common.{◌≡◌, ap, subst, arith}
use Rattle.worker_crew.specs.declared.draws.Drawn.{Drawn}
use Rattle.worker_crew.specs.declared.draws.Extent.{Extent}
use Rattle.worker_crew.specs.Dealt.{undrawn}
use Rattle.worker_crew.specs.Crews.{IsAt}
use Rattle.worker_crew.proofs.crew.crew_of.Goals as goal

pub returns : goal.returns
returns c =
    let about : Extent = record { shares = c.args.workers; end = c.args.terms } in
    let begun : c.in_ok-draws.all.me.0 ≡ undrawn about = ap (λ m. m.0) c.in_ok-draws.ensures.seat.me_is in
    let shares : c.in_ok-draws.all.me.0.shares ≡ c.args.workers = ap (λ (v : Drawn). v.shares) begun in
    let left = c.in_ok-shares.ensures.left in
    record {
      all = c.in_ok-shares.ensures.all;
      cut = omega arith;
      key = ap (λ (e : Extent). e.shares) c.in_ok-draws.ensures.about;
      count = c.in_ok-shares.ensures.count;
      shares = λ k h. subst (λ n. IsAt c.in_ok-draws.draws.shared.table_id n k c.in_ok-shares.shares.items) (ap (λ (v : Drawn). v.end) begun) (c.in_ok-shares.ensures.shares k h);
      lines = c.in_ok-lines.ensures;
    }
