use Rattle.store_model.specs.declared.view.Sizes.{Sizes}
use Rattle.node_rows.proofs.Tellings.{told_same}
use Rattle.std.proofs.Common.{ℕ, ◌≤◌, inr, vec_capacity, subst, sym, ap, ◌∙◌, Ok, Err}
use Rattle.busy_forbidden.specs.declared.view.LockView.{LockView}
use Rattle.busy_forbidden.specs.Exclusive.{ShowsExclusive}
use Rattle.busy_forbidden.proofs.Asking.{same_again}
use Rattle.store_model.specs.declared.view.View.{View}
use Rattle.node_rows.proofs.Entering.{came_from, tries_exclusive_stays, stayed_last, came_last}
use Rattle.node_rows.proofs.store.Store.try_enter_exclusive.Goals as goal

pub arrive-requires : goal.arrive-requires
arrive-requires c =
    let s = c.args.pass.now.seat in
    let e = c.in-Ok.ensures in
    let was = c.requires.of.pass in
    let t = tries_exclusive_stays s.number s.seats s.seat.me.0 c.try_enter_exclusive.new.seat.seat.me.0 (Ok tt) e.steps c.requires.out.away in
    record {
      store = c.requires.of.store;
      pass = record { table = e.of.0; sizes = t.sizes ∙ was.sizes; count = e.same.2 ∙ was.count; none = e.same.0.slots ∙ was.none };
      away = t.away;
      granted = inr e.shows.0;
    }

pub returns-in-Ok : goal.returns-in-Ok
returns-in-Ok c =
    let p = c.args.pass.now in
    let v = p.seat.seat.me.0 in
    let u = c.try_enter_exclusive.new.seat.seat.me.0 in
    let e = c.in-Ok.ensures in
    let a = c.arrive.ensures in
    let t = tries_exclusive_stays p.seat.number p.seat.seats v u (Ok tt) e.steps c.requires.out.away in
    let came = came_from v _ _ _ _ t a.came in
    record {
      pass = a.pass;
      same = (same_again _ _ _ e.same.0 a.same.0, a.same.1 ∙ e.same.1);
      reads = subst (λ (y : LockView × ℕ × ℕ). ShowsExclusive y.1 y.2 v.lock y.0 (Ok tt)) (λ k. (sym a.lock k, sym a.same.1 k, sym a.same.2 k)) e.shows;
      refused = tt;
      came = came;
      access = a.ready;
      last_roots = came_last v _ _ _ came c.requires.out.roots;
      told = λ h. a.told (told_same v.store u.store p.rows p.seen p.last p.marks t.store h);
      crowd = a.crowd ∙ t.crowd;
    }

pub returns-in-Err : goal.returns-in-Err
returns-in-Err c =
    let p = c.args.pass.now in
    let v = p.seat.seat.me.0 in
    let u = c.try_enter_exclusive.new.seat.seat.me.0 in
    let e = c.in-Err.ensures in
    let was = c.requires.of.pass in
    let t = tries_exclusive_stays p.seat.number p.seat.seats v u (Err c.in-Err.busy) e.steps c.requires.out.away in
    record {
      pass = record { table = e.of.0; sizes = t.sizes ∙ was.sizes; count = e.same.2 ∙ was.count; none = e.same.0.slots ∙ was.none };
      same = (e.same.0, e.same.1);
      reads = e.shows;
      refused = e.steps;
      came = t.store;
      access = record { phase = e.shows.0.phase; away = t.away; roots = stayed_last v.store u.store t.store c.requires.out.roots };
      last_roots = tt;
      told = told_same v.store u.store p.rows p.seen p.last p.marks t.store;
      crowd = t.crowd;
    }

pub invariant_of-pass : goal.invariant_of-pass
invariant_of-pass c =
    let p = c.args.pass.now in
    let t = tries_exclusive_stays p.seat.number p.seat.seats p.seat.seat.me.0 c.try_enter_exclusive.new.seat.seat.me.0 c.try_enter_exclusive.result c.try_enter_exclusive.ensures.steps c.requires.out.away in
    record {
      counted = p.counted ∙ ap (λ (v : View). v.root_count) (sym t.store);
      sized = p.sized ∙ ap (λ (z : Sizes). z.rows) (sym t.sizes);
      nexts_fit = p.nexts_fit;
      heads_fit = subst (λ (z : Sizes). z.buckets ≤ vec_capacity p.heads) (sym t.sizes) p.heads_fit;
    }
