use Rattle.store_model.specs.declared.view.Sizes.{Sizes}
use Rattle.node_rows.proofs.Tellings.{told_same}
use Rattle.std.proofs.Common.{◌≤◌, inl, vec_capacity, subst, sym, ap, ◌∙◌}
use Rattle.busy_forbidden.proofs.Asking.{same_again}
use Rattle.busy_forbidden.specs.declared.view.LockView.{LockView}
use Rattle.store_model.specs.declared.view.View.{View}
use Rattle.node_rows.proofs.Entering.{came_from, enters_shared_stays}
use Rattle.node_rows.proofs.store.Store.enter_shared.Goals as goal

pub arrive-requires : goal.arrive-requires
arrive-requires g c =
    let e = c.enter_shared.ensures in
    let was = c.requires.of.pass in
    let t = enters_shared_stays c.args.pass.now.seat.seat.me.0 c.enter_shared.new.seat.seat.me.0 e.steps c.requires.out.away in
    record {
      store = c.requires.of.store;
      pass = record { table = e.of.0; sizes = t.sizes ∙ was.sizes; count = e.same.2 ∙ was.count; none = e.same.0.slots ∙ was.none };
      away = t.away;
      granted = inl e.entered;
    }

pub returns : goal.returns
returns g c =
    let p = c.args.pass.now in
    let v = p.seat.seat.me.0 in
    let u = c.enter_shared.new.seat.seat.me.0 in
    let e = c.enter_shared.ensures in
    let a = c.arrive.ensures in
    let t = enters_shared_stays v u e.steps c.requires.out.away in
    record {
      pass = a.pass;
      same = (same_again _ _ _ e.same.0 a.same.0, a.same.1 ∙ e.same.1);
      shared = ap (λ (l : LockView). l.phase) a.lock ∙ e.entered;
      came = came_from v _ _ _ _ t a.came;
      ready = a.ready;
      told = λ h. a.told (told_same v.store u.store p.rows p.seen p.last p.marks t.store h);
      crowd = a.crowd ∙ t.crowd;
    }

pub invariant_of-pass : goal.invariant_of-pass
invariant_of-pass g c =
    let p = c.args.pass.now in
    let t = enters_shared_stays p.seat.seat.me.0 c.enter_shared.new.seat.seat.me.0 c.enter_shared.ensures.steps c.requires.out.away in
    record {
      counted = p.counted ∙ ap (λ (v : View). v.root_count) (sym t.store);
      sized = p.sized ∙ ap (λ (z : Sizes). z.rows) (sym t.sizes);
      nexts_fit = p.nexts_fit;
      heads_fit = subst (λ (z : Sizes). z.buckets ≤ vec_capacity p.heads) (sym t.sizes) p.heads_fit;
    }
