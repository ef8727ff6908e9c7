use Rattle.std.proofs.Common.{◌≡◌, ℕ, suc, ◌+◌, Some, sym, ap, ◌∙◌, arith}
use Rattle.store_model.specs.declared.view.Place.TheVariants.{RowWord}
use Rattle.row_sweep.specs.Gathered.{words_of}
use Rattle.row_sweep.specs.Marked.{row_of}
use Rattle.row_sweep.proofs.Reaches.{arguments_count, argument_is}
use Rattle.row_sweep.proofs.marking.ReadingGraph.child.Goals as goal

pub child_of-requires-clause-below : goal.child_of-requires-clause-below
child_of-requires-clause-below c = let w = words_of c.args.self.now.seat.now.seat in let n = arguments_count w c.args.row.0 (w (RowWord c.args.row.0 1)) in let l = c.requires.below in omega arith

pub returns-clause-child : goal.returns-clause-child
returns-clause-child c =
    let w = words_of c.args.self.now.seat.now.seat in
    let n = arguments_count w c.args.row.0 (w (RowWord c.args.row.0 1)) in
    let l = c.requires.below in
    let two : c.args.j + 2 ≡ suc (suc c.args.j) = omega arith in
    let e : c.child_of.result ≡ w (RowWord c.args.row.0 (suc (suc c.args.j))) = c.child_of.ensures.value ∙ ap (λ (q : ℕ). w (RowWord c.args.row.0 q)) two in
    argument_is w c.args.row.0 (w (RowWord c.args.row.0 1)) c.args.j (omega arith) ∙ ap (λ (q : ℕ). Some (row_of q)) (sym e)
