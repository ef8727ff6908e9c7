use Rattle.std.proofs.Common.{◌++◌, List, ℕ, sym, ap, ◌∙◌}
use Rattle.std.specs.List.{flat_map}
use Rattle.rec_drill.specs.Drill.{opening_lines, term_line, ended}
use Rattle.rec_drill.proofs.TermLines.{bytes_more}
use Rattle.rec_drill.proofs.drill.drill_text.Goals as goal

pub loop-i-init : goal.loop-i-init
unfolding opening_lines
loop-i-init c =
    c.in_ok-extend_from_slice.ensures.items
    ∙ ap (λ (z : List ℕ). z ++ flat_map ended opening_lines) c.new-text.ensures.items

pub loop-i-preserved : goal.loop-i-preserved
loop-i-preserved c =
    c.in_ok-push_term.ensures
    ∙ (ap (λ (z : List ℕ). z ++ ended (term_line c.loop-i.i)) c.loop-i.invariant ∙ sym (bytes_more c.loop-i.i))
