use Rattle.std.proofs.Common.{◌≡◌, ◌-◌, ap, ◌∙◌, refl, arith}
use Rattle.std.proofs.lemmas.Grind.{common_steps}
use Rattle.std.specs.Prelude.{Ok}
use Rattle.worker_crew.specs.Dealt.{one_less}
use Rattle.worker_crew.specs.declared.draws.Drawn.{Drawn}
use Rattle.worker_crew.specs.declared.share.Share.{Share}
use Rattle.worker_crew.proofs.Crewing.{fresh_cut, uncut_less, crew_more}
use Rattle.worker_crew.proofs.crew.shares_of.Goals as goal

pub workers-preserved : goal.workers-preserved
workers-preserved c =
    let table = c.args.draws.now.shared.table_id in
    let count = c.args.all.now.me.0.end in
    let i = c.workers.invariant in
    let v = c.workers.all.me.0 in
    let share : Share = record { worker = c.workers.worker; seat = c.cut.result; lines = c.new.result; end = Ok tt } in
    let is : c.cut.new.seat.me.0 ≡ one_less v = ap (λ m. m.0) c.cut.ensures.left.me_is in
    let less : c.cut.new.seat.me.0.shares ≡ v.shares - 1 = ap (λ (u : Drawn). u.shares) is in
    let total = i.3 in let enough = c.requires.enough in let below = c.workers-test.true in (
      (let long = i.0 in let more = c.in_ok-push.ensures.items in grind (arith, common_steps)),
      crew_more table count c.workers.worker c.workers.shares.items c.push.new.self.items share i.0 c.in_ok-push.ensures.items refl
          (fresh_cut table count v share c.cut.ensures.cut i.4 c.new.ensures.items) i.1,
      uncut_less table c.cut.new.seat.table_id c.cut.new.seat.me v c.cut.ensures.left i.2.none i.2.past,
      omega arith,
      ap (λ (u : Drawn). u.end) is ∙ i.4,
    )
