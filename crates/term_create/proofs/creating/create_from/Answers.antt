use Rattle.std.proofs.Common.{◌++◌, ◌∙◌, ℕ, ap, sym, subst, arith}
use Rattle.atomic_table.specs.declared.shared.Seat.{Seat}
use Rattle.std.specs.Prelude.{◌≡◌, IfErr}
use Rattle.store_model.specs.declared.view.Call.{Call}
use Rattle.store_model.specs.declared.view.Call.TheVariants.{Ended}
use Rattle.store_model.specs.Machine.{widest}
use Rattle.node_rows.specs.Steps.{Few}
use Rattle.term_create.proofs.Costs.{walked_cost}
use Rattle.node_rows.specs.Full.{HoldsAll}
use Rattle.node_rows.specs.Knowing.{EndsAbsent}
use Rattle.node_rows.specs.Rows.{names}
use Rattle.node_rows.specs.declared.view.NodeView.{NodeView}
use Rattle.node_rows.proofs.Tellings.{told_on}
use Rattle.term_create.specs.Stage.{IsAt, SameSeat, Notes, content}
use Rattle.term_create.proofs.Whole.{same_joined}
use Rattle.term_create.proofs.Told.{noted_below, made_after, ends_filled, where_refused}
use Rattle.term_create.proofs.creating.create_from.Goals as goal

pub tell-requires : goal.tell-requires
tell-requires g c =
    let a = c.args.asked.now in
    noted_below a.store.now.sizes c.args.pass.now.seat.seat.me.0 c.walk.new.seat.seat.me.0 a.head (names a.args.now) c.in-Some.noted
    c.requires.stay c.walk.ensures.at.known c.in-Some.ensures.view

pub returns-in-Some : goal.returns-in-Some
returns-in-Some g c =
    let a = c.args.asked.now in
    let p = c.args.pass.now in
    let v = p.seat.seat.me.0 in
    let rs = names a.args.now in
    let w = c.walk.ensures in
    let e = c.tell.ensures in
    let notes = c.in-Some.ensures.view in
    record {
      at = subst (λ (s : Seat (Unit {0}) NodeView). IsAt a s) (sym e.same.0) w.at;
      same = subst (λ (y : Seat (Unit {0}) NodeView × ℕ × ℕ). SameSeat p.seat.seat y.0 p.seat.number y.1 p.seat.seats y.2) (λ k. (sym e.same.0 k, sym e.same.1 k, sym e.same.2 k)) w.same;
      loaded = e.loaded;
      told = e.told v a.head rs c.requires.told notes;
      view = (c.in-Some.noted, e.row, subst (λ (u : NodeView). Notes v u a.head rs c.in-Some.noted) (sym e.view) notes);
      alone = tt;
      all = tt;
      filled = tt;
      cost = omega (arith, c.in-Some.ensures.cost);
    }

pub make_told-requires-clause-told : goal.make_told-requires-clause-told
make_told-requires-clause-told g c =
    let p = c.args.pass.now in
    let h = c.in-None.ensures.view in
    told_on p.seat.seat.me.0.store c.walk.new.seat.seat.me.0.store p.rows p.seen p.last p.marks
    (ap (λ (u : NodeView). u.store.entries) h.view) (ap (λ (u : NodeView). u.store.seen) h.view) c.requires.told

pub make_told-requires-clause-base : goal.make_told-requires-clause-base
make_told-requires-clause-base g c = c.requires.base ∙ (c.requires.based.base ∙ sym (ap (λ (u : NodeView). u.store.base) c.in-None.ensures.view.view))

pub returns-in-None : goal.returns-in-None
returns-in-None g c =
    let a = c.args.asked.now in
    let z = c.args.asked.now.store.now.sizes in
    let seat = c.args.pass.now.seat in
    let v = seat.seat.me.0 in
    let h = c.in-None.ensures.view in
    let u = c.walk.new.seat.seat.me.0 in
    let few = subst (λ (x : Call). Few z.rows u.store.passed x) (ap (λ (q : NodeView). q.store.call) c.in-None.ensures.view.view) c.walk.ensures.at.known.few in
    record {
      at = record { of = c.make_told.ensures.of; known = c.make_told.ensures.known };
      same = same_joined c.walk.ensures.same c.make_told.ensures.same;
      loaded = c.make_told.ensures.loaded;
      told = c.make_told.ensures.told;
      view = made_after c.args.pass.now.seat.seat.me.0 c.walk.new.seat.seat.me.0 c.make_told.new.pass.seat.seat.me.0 a.head (names a.args.now) c.args.from c.make_told.result c.in-None.ensures.view c.make_told.ensures.view;
      alone = where_refused c.make_told.result (subst (λ (u : NodeView). z.seats ≡ 1 → EndsAbsent u.store.entries u.store.call) c.in-None.ensures.view.view c.walk.ensures.at.known.absent);
      all = subst (λ (u : NodeView). IfErr c.make_told.result (λ _. z.seats ≡ 1 → HoldsAll z.rows u.store.entries)) c.in-None.ensures.view.view c.make_told.ensures.all;
      filled = ends_filled a.store.now.sizes seat.number c.walk.new.seat.number v c.walk.new.seat.seat.me.0 a.head (names a.args.now)
          h.passed (v.store.path ++ h.path) (Ended (content a) c.args.from) c.make_told.result c.walk.ensures.same.number h.view c.make_told.ensures.filled;
      cost = walked_cost (widest z) z.rows c.args.steps.now c.walk.new.steps c.make_told.new.steps c.args.pass.now.seat.seat.me.0.store.passed u.store.passed c.make_told.result
          few c.in-None.ensures.cost c.make_told.ensures.cost;
    }

pub make_told-requires-clause-stay : goal.make_told-requires-clause-stay
make_told-requires-clause-stay g c = ap (λ (u : NodeView). u.store.stay) c.in-None.ensures.view.view ∙ c.requires.stay
