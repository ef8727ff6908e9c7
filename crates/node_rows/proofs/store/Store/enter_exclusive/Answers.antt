use Rattle.store_model.specs.declared.view.Sizes.{Sizes}
use Rattle.node_rows.proofs.Tellings.{told_same}
use Rattle.std.proofs.Common.{ℕ, ◌≤◌, inr, vec_capacity, subst, sym, ap, ◌∙◌}
use Rattle.busy_forbidden.specs.declared.view.LockView.{LockView}
use Rattle.busy_forbidden.specs.Exclusive.{IsGranted}
use Rattle.busy_forbidden.proofs.Asking.{same_again}
use Rattle.store_model.specs.declared.view.View.{View}
use Rattle.node_rows.proofs.Entering.{came_from, enters_exclusive_stays, came_last}
use Rattle.node_rows.proofs.store.Store.enter_exclusive.Goals as goal

pub arrive-requires : goal.arrive-requires
arrive-requires g c =
    let s = c.args.pass.now.seat in
    let e = c.enter_exclusive.ensures in
    let was = c.requires.of.pass in
    let t = enters_exclusive_stays s.number s.seats s.seat.me.0 c.enter_exclusive.new.seat.seat.me.0 e.steps c.requires.out.away in
    record {
      store = c.requires.of.store;
      pass = record { table = e.of.0; sizes = t.sizes ∙ was.sizes; count = e.same.2 ∙ was.count; none = e.same.0.slots ∙ was.none };
      away = t.away;
      granted = inr e.granted;
    }

pub returns : goal.returns
returns g c =
    let p = c.args.pass.now in
    let v = p.seat.seat.me.0 in
    let u = c.enter_exclusive.new.seat.seat.me.0 in
    let e = c.enter_exclusive.ensures in
    let a = c.arrive.ensures in
    let t = enters_exclusive_stays p.seat.number p.seat.seats v u e.steps c.requires.out.away in
    let came = came_from v _ _ _ _ t a.came in
    record {
      pass = a.pass;
      same = (same_again _ _ _ e.same.0 a.same.0, a.same.1 ∙ e.same.1);
      granted = subst (λ (y : LockView × ℕ × ℕ). IsGranted y.0 y.1 y.2) (λ k. (sym a.lock k, sym a.same.1 k, sym a.same.2 k)) e.granted;
      came = came;
      ready = a.ready;
      last_roots = came_last v _ _ _ came c.requires.out.roots;
      told = λ h. a.told (told_same v.store u.store p.rows p.seen p.last p.marks t.store h);
      crowd = a.crowd ∙ t.crowd;
    }

pub invariant_of-pass : goal.invariant_of-pass
invariant_of-pass g c =
    let p = c.args.pass.now in
    let t = enters_exclusive_stays p.seat.number p.seat.seats p.seat.seat.me.0 c.enter_exclusive.new.seat.seat.me.0 c.enter_exclusive.ensures.steps c.requires.out.away in
    record {
      counted = p.counted ∙ ap (λ (v : View). v.root_count) (sym t.store);
      sized = p.sized ∙ ap (λ (z : Sizes). z.rows) (sym t.sizes);
      nexts_fit = p.nexts_fit;
      heads_fit = subst (λ (z : Sizes). z.buckets ≤ vec_capacity p.heads) (sym t.sizes) p.heads_fit;
    }
