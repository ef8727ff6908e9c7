use Rattle.std.proofs.Common.{◌≤◌, ℕ, [], length, vec_capacity, refl, sym, ap, ◌∙◌, subst, arith}
use Rattle.atomic_table.specs.declared.shared.Seat.{Seat}
use Rattle.store_model.specs.Steps.{newcomer}
use Rattle.node_rows.specs.declared.view.NodeView.{NodeView}
use Rattle.atomic_table.specs.Table.{Me, opening}
use Rattle.node_rows.specs.Shown.{first_view, seat_view}
use Rattle.node_rows.specs.Joining.{ShowsJoined}
use Rattle.node_rows.proofs.Opens.{opens_joined}
use Rattle.node_rows.proofs.make.first_pass.Goals as goal

pub of_words-requires : goal.of_words-requires
of_words-requires c = subst (λ ws. ShowsJoined c.args.sizes.now (opening ws [] (first_view c.args.sizes.now))) (sym c.deref.ensures.value) (opens_joined c.args.sizes.now c.in_ok-words.words.items c.in_ok-words.ensures c.requires.sizes)

pub new_pass-requires : goal.new_pass-requires
new_pass-requires c =
    let me = c.in_ok-table.ensures.4 in
    let room = c.in_ok-room.ensures in
    record {
      count = ap (λ (m : Me (Unit {0}) NodeView). m.0.store.root_count) me;
      rows = ap (λ (m : Me (Unit {0}) NodeView). m.0.sizes.rows) me;
      nexts = room.nexts;
      heads = subst (λ (m : Me (Unit {0}) NodeView). m.0.sizes.buckets ≤ vec_capacity c.in_ok-room.room.heads) (sym me) room.heads;
    }

pub returns : goal.returns
returns c =
    let z = c.args.sizes.now in
    let e = c.in_ok-table.ensures in
    let n = c.new_pass.ensures in
    let seat = n.seat.0 in
    let view = ap (λ (s : Seat (Unit {0}) NodeView). s.me.0) seat ∙ ap (λ (m : Me (Unit {0}) NodeView). m.0) e.4 in
    record {
      store = (
        record {
          told = e.5;
          wide = let words = e.0 in let same = ap length c.deref.ensures.value in let long = c.in_ok-words.ensures.long in omega arith;
          small = c.requires.small;
          may = c.requires.sizes;
        },
        refl,
      );
      pass = (
        record {
          table = ap (λ (s : Seat (Unit {0}) NodeView). s.table_id) seat ∙ e.2;
          place = n.seat.1;
          count = n.seat.2;
          none = ap (λ (s : Seat (Unit {0}) NodeView). s.me.1) seat ∙ ap (λ (m : Me (Unit {0}) NodeView). m.1) e.4;
          view = view ∙ ap (λ (m : ℕ). seat_view z 0 m) (sym (ap (λ (v : NodeView). v.made) view));
        },
        record { id = ap (λ (s : Seat (Unit {0}) NodeView). s.id) seat ∙ e.3; made = ap (λ (v : NodeView). v.made) view },
      );
      told = n.told (ap (λ (m : Me (Unit {0}) NodeView). m.0.store) e.4 ∙ ap newcomer (sym (ap (λ (m : Me (Unit {0}) NodeView). m.0.sizes) e.4))) c.in_ok-room.ensures.marks;
    }
