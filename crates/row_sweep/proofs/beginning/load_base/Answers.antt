use Rattle.std.proofs.Common.{[], inl, ap}
use Rattle.store_model.specs.declared.view.Place.TheVariants.{Base}
use Rattle.store_model.specs.Steps.{loads}
use Rattle.row_sweep.proofs.Begins.{begin_alone}
use Rattle.row_sweep.proofs.beginning.load_base.Goals as goal

pub returns-clause-alone : goal.returns-clause-alone
returns-clause-alone c = let s = c.args.seat.now in let t = c.load_any.new.seat in let e = c.load_any.ensures in
    begin_alone c.args.store.now s.seat s.number s.seats c.requires.alone [] (inl c.requires.call, ap loads c.requires.call) Base t.seat t.number t.seats c.load_any.result e.same.0 e.same.1 e.same.2 e.view
