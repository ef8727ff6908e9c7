use Rattle.std.proofs.Common.{◌∙◌, List, take, get_or, sym, subst}
use Rattle.std.proofs.lemmas.List.{take_more}
use Rattle.term_model.specs.declared.Row.{Row}
use Rattle.mark_phase.specs.Reachable.{AddsReached}
use Rattle.plain_store.specs.Slots.{Slots, children}
use Rattle.plain_store.specs.Marked.{MarksFrom}
use Rattle.plain_store.proofs.Reaching.{marks_more}
use Rattle.plain_store.proofs.collecting.mark_all.Goals as goal

pub loop-row-preserved : goal.loop-row-preserved
loop-row-preserved c =
    let i = c.loop-row.row-index in
    let d : Row = record { 0 = 0 } in
    let p = get_or c.args.places.now i d in
    let inv = c.loop-row.invariant in
    let adds = subst (λ (s : Slots). AddsReached (children s) p c.loop-row.marks c.mark.new.marks) inv.nodes c.mark.ensures.marked in
    record {
      nodes = c.mark.ensures.same ∙ inv.nodes;
      size = adds.rows ∙ inv.size;
      marked = subst (λ (xs : List Row). MarksFrom (children c.args.nodes.now) xs c.mark.new.marks) (sym (take_more c.args.places.now i d c.loop-row-test.true))
          (marks_more (children c.args.nodes.now) (take i c.args.places.now) p c.loop-row.marks c.mark.new.marks inv.marked adds);
    }
