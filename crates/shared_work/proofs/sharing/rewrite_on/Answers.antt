use Rattle.std.proofs.Common.{◌≡◌, ◌++◌, take, drop, length, sym, ap, subst, arith}
use Rattle.std.specs.Prelude.{All, false}
use Rattle.busy_forbidden.specs.Dealt.{EachPlace}
use Rattle.shared_desk.specs.Desk.{store_of}
use Rattle.work_desks.specs.NewDesks.{IsNewDesk, AreBack}
use Rattle.shared_work.proofs.Readying.{all_ready, all_outside, refilled, workers_are}
use Rattle.shared_work.proofs.Outcome.{are_lines}
use Rattle.shared_work.proofs.sharing.rewrite_on.Goals as goal

pub rewrite_all-lines-requires-clause-ready : goal.rewrite_all-lines-requires-clause-ready
rewrite_all-lines-requires-clause-ready g c κs within =
    all_ready c.args.work.now.settings c.args.work.now.plan.now c.args.store.now c.args.store.now.sizes.seats c.in_ok-desks.desks.items c.deref_mut.result.now c.deref_mut.ensures.value c.requires.begin.sizes c.in_ok-desks.ensures.desks

pub passes_of-passes-requires-clause-outside : goal.passes_of-passes-requires-clause-outside
passes_of-passes-requires-clause-outside g c =
    let work = c.args.work.now in
    let items = c.in_ok-desks.desks.items in
    let news = c.rewrite_all-lines.new.desks in
    let same = c.rewrite_all-lines.ensures.kept.0 in
    let given = ap length c.deref_mut.ensures.value in
    let long = c.in_ok-desks.desks.ok.0 in
    let whole : take c.in_ok-desks.desks.len (news ++ drop (length news) items) ≡ news = refilled c.in_ok-desks.desks.len news (drop (length news) items) (omega (arith, same, given, long)) in
    subst (All (λ d. (store_of d).inside ≡ false)) (sym whole) (all_outside work.settings work.plan.now news c.rewrite_all-lines.ensures.ready)

pub returns : goal.returns
returns g c =
    let work = c.args.work.now in
    let items = c.in_ok-desks.desks.items in
    let news = c.rewrite_all-lines.new.desks in
    let all = c.rewrite_all-lines.ensures in
    let same = all.kept.0 in
    let given = ap length c.deref_mut.ensures.value in
    let long = c.in_ok-desks.desks.ok.0 in
    let whole : take c.in_ok-desks.desks.len (news ++ drop (length news) items) ≡ news = refilled c.in_ok-desks.desks.len news (drop (length news) items) (omega (arith, same, given, long)) in
    record {
      lines = are_lines work c.rewrite_all-lines.result (length c.deref_mut.result.now)
          (workers_are work.settings work.plan.now c.args.store.now items c.deref_mut.result.now c.deref_mut.ensures.value c.requires.begin.sizes c.in_ok-desks.ensures.desks)
          all.lines all.traces all.workers;
      run = record {
        olds = c.deref_mut.result.now;
        news = news;
        new = subst (EachPlace (IsNewDesk c.args.store.now) c.args.store.now.sizes.seats) (sym c.deref_mut.ensures.value) c.in_ok-desks.ensures.desks;
        back = subst (λ ds. AreBack ds c.passes_of-passes.result.items) whole c.passes_of-passes.ensures.back;
        same = all.same;
        kept = all.kept;
        built = all.built;
        stopped = all.stopped;
      };
      log = tt;
    }
