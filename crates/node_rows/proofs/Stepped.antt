-- What a step of a seat leaves, by the new view that it tells.
use Rattle.std.proofs.Common.{◌≡◌, ℕ, sym, ap, ◌∙◌, subst}
use Rattle.atomic_table.specs.Table.{Me}
use Rattle.atomic_table.specs.Seated.{TableId}
use Rattle.atomic_table.specs.declared.shared.Seat.{Seat}
use Rattle.busy_forbidden.specs.declared.view.LockView.{LockView}
use Rattle.busy_forbidden.specs.Calls.{IsSame}
use Rattle.busy_forbidden.specs.Moves.{Fits}
use Rattle.store_model.specs.declared.view.Sizes.{Sizes}
use Rattle.store_model.specs.declared.view.View.{View}
use Rattle.node_rows.specs.declared.view.NodeView.{NodeView}
use Rattle.node_rows.specs.Steps.{with_store, Known, IsOf}

-- the seat b is the seat a, with x as its view of the store
pub record After (t : TableId) (z : Sizes) (a b : Seat (Unit {0}) NodeView) (x : View) : Type 0 where
  pub of : IsOf t z b
  pub same : IsSame a b
  pub view : b.me.0 ≡ with_store a.me.0 x
  pub known : Known z b.me.0.store

module _ (t : TableId) (z : Sizes) (a b : Seat (Unit {0}) NodeView) (x : View) (of : IsOf t z a) (table : b.table_id ≡ a.table_id) (id : b.id ≡ a.id) (me : b.me ≡ (with_store a.me.0 x, a.me.1)) where
  pub after_step : Known a.me.0.sizes b.me.0.store → After t z a b x
  after_step known = record {
    of = record { table = table ∙ of.table; sizes = ap (λ (m : Me (Unit {0}) NodeView). m.0.sizes) me ∙ of.sizes; wide = of.wide };
    same = record { table = table; id = id; slots = ap (λ (m : Me (Unit {0}) NodeView). m.1) me };
    view = ap (λ (m : Me (Unit {0}) NodeView). m.0) me;
    known = subst (λ (y : Sizes). Known y b.me.0.store) of.sizes known;
  }

  -- its lock is as it was
  pub fits_after : (i n : ℕ) → Fits a.me.0.lock i n a.table_id.words → Fits b.me.0.lock i n b.table_id.words
  fits_after i n fits = subst (λ (q : TableId × LockView). Fits q.1 i n q.0.words) (λ k. (sym table k, sym (ap (λ (m : Me (Unit {0}) NodeView). m.0.lock) me) k)) fits
