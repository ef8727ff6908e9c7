use Rattle.std.proofs.Common.{◌<◌, length, get_or, arith}
use Rattle.std.proofs.lemmas.List.Elements.{Contains-get_or}
use Rattle.term_model.specs.declared.Row.{Row}
use Rattle.term_text.proofs.counting.forget.Goals as goal

pub bounds-counts-row : goal.bounds-counts-row
bounds-counts-row c =
    let d : Row = record { 0 = 0 } in
    let rows = c.args.rows.now in
    let lt : c.loop-row.row-index < length rows = omega arith in
    let below = c.requires.only (get_or rows c.loop-row.row-index d) (Contains-get_or rows c.loop-row.row-index d lt) in
    omega (arith, below, c.loop-row.invariant.size)
