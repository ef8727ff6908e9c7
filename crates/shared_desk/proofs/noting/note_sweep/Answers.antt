use Rattle.std.proofs.Common.{◌≡◌, ℕ, List, subst}
use Rattle.term_model.specs.declared.Row.{Row}
use Rattle.history_core.specs.declared.entry.Entry.TheVariants as entry
use Rattle.node_rows.specs.declared.store.Last.TheVariants as last
use Rattle.node_rows.specs.Rows.{names}
use Rattle.log_text.specs.Lines.{Adds}
use Rattle.shared_desk.proofs.Logging.{told_collection}
use Rattle.shared_desk.proofs.noting.note_sweep.Goals as goal

pub returns-in-Ok : goal.returns-in-Ok
returns-in-Ok g c = λ es notes told.
    told_collection c.args.log.now c.note_collection.new.log es (g.S.SharedPass.view c.args.pass.now).entries (g.S.SharedPass.view c.args.pass.now).rows c.list_kept.new.kept.items c.last.result told notes c.last.ensures
    c.in-Ok.ensures
    (subst (λ (rs : List Row). (n : ℕ) → c.last.result ≡ last.Collect n → Adds c.args.log.now c.note_collection.new.log (entry.Collect n (names rs))) c.as_slice.ensures.value c.note_collection.ensures)
