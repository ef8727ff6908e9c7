use Rattle.std.proofs.Common.{subst}
use Rattle.store_model.specs.declared.view.Call.{Call}
use Rattle.store_model.specs.declared.view.Call.TheVariants.{Drawing}
use Rattle.store_model.specs.declared.view.Sizes.{Sizes}
use Rattle.node_rows.specs.Full.{FullAlone, FullAfter}
use Rattle.term_create.specs.Stage.{content}
use Rattle.term_create.proofs.Staged.{at_stage, moved_at}
use Rattle.term_create.proofs.stages.draw.Goals as goal

pub returns : goal.returns
returns g c =
    let a = c.args.asked.now in
    let v = c.args.seat.now.seat.me.0 in
    let s = c.go_draw.new.seat in
    let n = c.go_draw.result in
    let e = c.go_draw.ensures in
    let i = c.args.seat.now.number in
    record {
      at = at_stage a s.seat e.of e.known;
      same = record { same = e.same.0; number = e.same.1; seats = e.same.2 };
      view = moved_at v s.seat.me.0 (Drawing (content a) c.args.from c.args.count) n c.requires.stage e.view;
      alone = λ past one.
          subst (λ (x : Call). FullAlone a.store.now.sizes v.store.entries x n) c.requires.stage (subst (λ (z : Sizes). FullAlone z v.store.entries v.store.call n) a.at.told e.full) one past;
      filled = λ past fresh. record {
        passed = v.store.passed;
        path = v.store.path;
        call = v.store.call;
        filled = subst (λ (x : Call). FullAfter a.store.now.sizes i v x n) c.requires.stage (subst (λ (z : Sizes). FullAfter z i v v.store.call n) a.at.told e.filled) fresh past;
      };
      tick = c.tick.ensures;
    }
