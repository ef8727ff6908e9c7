use Rattle.std.proofs.lemmas.List.Elements.{All-cons}
use Rattle.std.proofs.Common.{◌≡◌, ◌+◌, ℕ, ◌∙◌, sym, ap, subst}
use Rattle.busy_forbidden.specs.Dealt.{EachPlace}
use Rattle.busy_forbidden.proofs.Dealing.{each_front, each_all}
use Rattle.store_model.specs.declared.view.Sizes.{Sizes}
use Rattle.std.specs.Prelude.{All}
use Rattle.node_rows.specs.Told.{Tells}
use Rattle.node_rows.specs.Opening.{IsNew}
use Rattle.node_rows.specs.Passes.{IsPass, IsOut}
use Rattle.node_rows.proofs.Opens.{new_ready}
use Rattle.node_rows.proofs.store.Store.make.Goals as goal

pub returns : goal.returns
returns c =
    let store = c.in_ok-store.store in
    let t = store.table.shared.table_id in
    let z : Sizes = store.sizes in
    let same : z ≡ c.args.sizes = c.in_ok-store.ensures.store.1 in
    let n : ℕ = c.args.sizes.seats in
    let first = c.rest_of.new.first in
    let e = c.in_ok-passes.ensures in
    let more = e.rest in
    let all : more.0 + 1 ≡ n = more.1 ∙ ap (λ (y : Sizes). y.seats) same in
    let each = subst (EachPlace (λ j p. IsNew t z j p.seat.seat p.seat.number p.seat.seats) (more.0 + 1)) (sym c.in_ok-insert.ensures.items)
    (each_front (λ j p. IsNew t z j p.seat.seat p.seat.number p.seat.seats) more.0 first c.in_ok-passes.passes.items e.first more.2) in
    record {
      store = c.in_ok-store.ensures.store;
      passes = subst (λ (y : Sizes × ℕ). EachPlace (λ j p. IsNew t y.0 j p.seat.seat p.seat.number p.seat.seats) y.1 c.insert.new.self.items) (λ k. (same k, all k)) each;
      ready = each_all (λ j p. IsNew t z j p.seat.seat p.seat.number p.seat.seats) (λ p. IsPass t z p.seat.seat p.seat.seats × IsOut p.seat.seat.me.0) (more.0 + 1) c.insert.new.self.items each
          (λ j p new. new_ready t z j p.seat.seat p.seat.number p.seat.seats new);
      told = subst (All Tells) (sym c.in_ok-insert.ensures.items) (All-cons Tells first c.in_ok-passes.passes.items e.told e.rest_told);
    }
