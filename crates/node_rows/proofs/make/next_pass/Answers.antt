use Rattle.std.proofs.Common.{◌≡◌, ◌<◌, ◌≤◌, ◌+◌, ℕ, vec_capacity, sym, ap, ◌∙◌, subst, arith}
use Rattle.atomic_table.specs.declared.shared.Seat.{Seat}
use Rattle.store_model.specs.Steps.{newcomer}
use Rattle.atomic_table.specs.Table.{Me, Splits}
use Rattle.store_model.specs.declared.view.Sizes.{Sizes}
use Rattle.node_rows.specs.declared.view.NodeView.{NodeView}
use Rattle.node_rows.specs.Shown.{seat_view, one_made, next_seat}
use Rattle.node_rows.specs.Joining.{ShowsJoined}
use Rattle.node_rows.proofs.Tellings.{told_same}
use Rattle.node_rows.proofs.Opens.{splits_joined}
use Rattle.node_rows.proofs.make.next_pass.Goals as goal

pub split_seat-seat-requires : goal.split_seat-seat-requires
split_seat-seat-requires c =
    let v : NodeView = c.args.first.now.seat.seat.me.0 in
    let new = c.requires.first.0 in
    let first = c.requires.first.1 in
    let wide = c.args.first.now.seat.fits.wide in
    let words = ap (λ t. t.words) new.table in
    let z : Sizes = c.args.store.now.sizes in
    let room : v.made < z.seats = let m = first.made in let b = c.requires.below in omega arith in
    let number = ap (λ (u : NodeView). u.lock.number) new.view in
    let sizes : v.sizes ≡ z = ap (λ (u : NodeView). u.sizes) new.view in (
      new.table,
      omega arith,
      subst (λ (t : Sizes × ℕ). Splits (ShowsJoined t.0) t.1 v (one_made v) (next_seat v)) (λ k. (sym c.requires.store.told k, sym first.id k)) (splits_joined z v number room sizes),
    )

pub new_pass-requires : goal.new_pass-requires
new_pass-requires c =
    let me = c.split_seat-seat.ensures.4 in
    let sizes = ap (λ (m : Me (Unit {0}) NodeView). m.0.sizes) me ∙ ap (λ (u : NodeView). u.sizes) c.requires.first.0.view in
    record {
      count = ap (λ (m : Me (Unit {0}) NodeView). m.0.store.root_count) me;
      rows = ap (λ (y : Sizes). y.rows) sizes;
      nexts = c.requires.nexts;
      heads = subst (λ (y : Sizes). y.buckets ≤ vec_capacity c.args.room.heads) (sym sizes) c.requires.heads;
    }

pub returns : goal.returns
returns c =
    let z : Sizes = c.args.store.now.sizes in
    let p = c.args.first.now in
    let v : NodeView = p.seat.seat.me.0 in
    let was = c.requires.first.0 in
    let first = c.requires.first.1 in
    let s = c.split_seat-seat.ensures in
    let n = c.new_pass.ensures in
    let seat = n.seat.0 in
    let one = ap (λ (m : Me (Unit {0}) NodeView). m.0) s.2 in
    let sizes = ap (λ (u : NodeView). u.sizes) was.view in
    let view = ap (λ (t : Seat (Unit {0}) NodeView). t.me.0) seat ∙ (ap (λ (m : Me (Unit {0}) NodeView). m.0) s.4 ∙ ap (λ (y : Sizes × ℕ). seat_view y.0 y.1 0) (λ i. (sizes i, first.made i))) in
    record {
      first = (
        record {
          table = s.0 ∙ was.table;
          place = was.place;
          count = was.count;
          none = ap (λ (m : Me (Unit {0}) NodeView). m.1) s.2 ∙ was.none;
          view = one ∙ (ap one_made was.view ∙ ap (λ (m : ℕ). seat_view z 0 m) (sym (ap (λ (u : NodeView). u.made) one)));
        },
        record { id = s.1 ∙ first.id; made = ap (λ (u : NodeView). u.made) one ∙ ap (λ (m : ℕ). m + 1) first.made },
      );
      told = told_same v.store c.split_seat-seat.new.seat.me.0.store p.rows p.seen p.last p.marks (ap (λ (u : NodeView). u.store) one);
      new = record {
        table = ap (λ (t : Seat (Unit {0}) NodeView). t.table_id) seat ∙ (s.3 ∙ was.table);
        place = n.seat.1;
        count = n.seat.2 ∙ was.count;
        none = ap (λ (t : Seat (Unit {0}) NodeView). t.me.1) seat ∙ ap (λ (m : Me (Unit {0}) NodeView). m.1) s.4;
        view = view ∙ ap (λ (m : ℕ). seat_view z c.args.k m) (sym (ap (λ (u : NodeView). u.made) view));
      };
      new_told = n.told (ap (λ (m : Me (Unit {0}) NodeView). m.0.store) s.4 ∙ ap newcomer (sym (ap (λ (m : Me (Unit {0}) NodeView). m.0.sizes) s.4))) c.requires.marks;
    }
