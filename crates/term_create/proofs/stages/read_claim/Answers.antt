use Rattle.store_model.specs.declared.view.Call.TheVariants.{Ended}
use Rattle.term_create.specs.Stage.{content}
use Rattle.term_create.proofs.Staged.{at_stage, moved_at}
use Rattle.term_create.proofs.stages.read_claim.Goals as goal

pub returns : goal.returns
returns g c =
    let a = c.args.asked.now in
    let v = c.args.seat.now.seat.me.0 in
    let s = c.go_load.new.seat in
    let n = c.go_load.result in
    let e = c.go_load.ensures in
    record {
      at = at_stage a s.seat e.of e.known;
      same = record { same = e.same.0; number = e.same.1; seats = e.same.2 };
      view = moved_at v s.seat.me.0 (Ended (content a) c.args.from) n c.requires.stage e.view;
      tick = c.tick.ensures;
    }
