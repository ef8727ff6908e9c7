use Rattle.std.proofs.lemmas.List.Elements.{All-push}
use Rattle.std.proofs.Common.{ℕ, ◌+◌, sym, subst, arith}
use Rattle.busy_forbidden.specs.Dealt.{EachPlace}
use Rattle.busy_forbidden.proofs.Dealing.{each_push}
use Rattle.store_model.specs.declared.view.Sizes.{Sizes}
use Rattle.std.specs.Prelude.{All}
use Rattle.node_rows.specs.Told.{Tells}
use Rattle.node_rows.specs.Opening.{IsNew}
use Rattle.node_rows.proofs.make.rest_of.Goals as goal

pub loop-k-preserved : goal.loop-k-preserved
loop-k-preserved c =
    let inv = c.loop-k.invariant in
    let t = c.args.store.now.table.shared.table_id in
    let z : Sizes = c.args.store.now.sizes in
    let m : ℕ = inv.rest.0 in
    let next = c.next_pass.result in
    let place = inv.rest.1 in
    let new = subst (λ (k : ℕ). IsNew t z k next.seat.seat next.seat.number next.seat.seats) (sym place) c.next_pass.ensures.new in
    record {
      new = c.next_pass.ensures.first.0;
      first = c.next_pass.ensures.first.1;
      told = c.next_pass.ensures.told inv.told;
      each_told = subst (All Tells) (sym c.in_ok-push.ensures.items) (All-push Tells c.loop-k.rest.items next inv.each_told c.next_pass.ensures.new_told);
      rest = (
        m + 1,
        omega arith,
        subst (EachPlace (λ j p. IsNew t z (j + 1) p.seat.seat p.seat.number p.seat.seats) (m + 1)) (sym c.in_ok-push.ensures.items)
            (each_push (λ j p. IsNew t z (j + 1) p.seat.seat p.seat.number p.seat.seats) m c.loop-k.rest.items next inv.rest.2 new),
      );
    }
