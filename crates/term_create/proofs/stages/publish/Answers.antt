use Rattle.std.proofs.Common.{ℕ, ◌+◌, eqb, cond, Some, sym, ap, ◌∙◌}
use Rattle.history_core.specs.declared.entry.Entry.TheVariants.{Make}
use Rattle.store_model.specs.declared.view.Call.TheVariants.{Publishing}
use Rattle.store_model.specs.Machine.{arrived, gained, with_call}
use Rattle.node_rows.specs.Rows.{names}
use Rattle.node_rows.specs.Steps.{with_store}
use Rattle.term_create.specs.Stage.{content}
use Rattle.term_create.proofs.Staged.{at_stage, moved_at}
use Rattle.term_create.proofs.stages.publish.Goals as goal

pub returns : goal.returns
returns g c =
    let a = c.args.asked.now in
    let v = c.args.seat.now.seat.me.0 in
    let s = c.go_publish.new.seat in
    let n = c.go_publish.result in
    let e = c.go_publish.ensures in
    let d = c.args.drawn in
    record {
      at = at_stage a s.seat e.of e.known;
      same = record { same = e.same.0; number = e.same.1; seats = e.same.2 };
      view = moved_at v s.seat.me.0 (Publishing (content a) d.from d.index d.row) n c.requires.stage e.view
          ∙ ap (λ (b : ℕ). with_store v (cond (eqb n d.from) (gained v.store (content a) d.row (b + d.index) (Make (b + d.index) a.head (names a.args.now) d.row))
          (with_call v.store (arrived (content a) (Some (d.index, d.row)) n d.from n)))) (sym c.requires.based.base);
      tick = c.tick.ensures;
    }
