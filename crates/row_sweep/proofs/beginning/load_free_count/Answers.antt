use Rattle.std.proofs.Common.{[], ◌∷◌}
use Rattle.store_model.specs.declared.view.Place.TheVariants.{Base, Claim, FreeCount}
use Rattle.row_sweep.proofs.Begins.{begin_alone, begun_loading}
use Rattle.row_sweep.proofs.beginning.load_free_count.Goals as goal

pub returns-clause-alone : goal.returns-clause-alone
returns-clause-alone c = let s = c.args.seat.now in let t = c.load_any.new.seat in let e = c.load_any.ensures in
    begin_alone c.args.store.now s.seat s.number s.seats c.requires.alone ((Base, c.args.base) ∷ (Claim, c.args.claim) ∷ []) (begun_loading s.seat.me.0.store.call ((Base, c.args.base) ∷ (Claim, c.args.claim) ∷ []) c.requires.call) FreeCount t.seat t.number t.seats c.load_any.result e.same.0 e.same.1 e.same.2 e.view
