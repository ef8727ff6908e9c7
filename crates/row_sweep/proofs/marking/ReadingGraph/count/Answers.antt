use Rattle.std.proofs.Common.{sym, ◌∙◌}
use Rattle.store_model.specs.declared.view.Place.TheVariants.{RowWord}
use Rattle.row_sweep.specs.Gathered.{words_of}
use Rattle.row_sweep.proofs.Reaches.{arguments_count}
use Rattle.row_sweep.proofs.marking.ReadingGraph.count.Goals as goal

pub returns-clause-count : goal.returns-clause-count
returns-clause-count c = let w = words_of c.args.self.now.seat.now.seat in let e = c.count_of.ensures.value in let n = arguments_count w c.args.row.0 (w (RowWord c.args.row.0 1)) in e ∙ sym n
