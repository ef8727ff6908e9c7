use Rattle.std.proofs.Common.{length, take, drop, ◌++◌, sym, subst}
use Rattle.std.proofs.lemmas.List.Elements.{All-same}
use Rattle.worker_crew.specs.Crews.{IsAt, IsFresh}
use Rattle.rewrite_workers.specs.Shares.{Works}
use Rattle.rewrite_workers.proofs.Finishing.{all_fresh, each_back, one_share_each, places_each}
use Rattle.rewrite_workers.proofs.Outcome.{traced}
use Rattle.rewrite_workers.proofs.all.trace_by.Goals as goal

pub work_all-requires-clause-fresh : goal.work_all-requires-clause-fresh
work_all-requires-clause-fresh g c κs within =
    let crew = c.args.crew in
    let table = crew.draws.shared.table_id in
    let count = length c.args.work.now.terms.now in
    All-same (IsFresh table count) c.deref_mut.result.now crew.shares.items c.deref_mut.ensures.value
    (all_fresh table count (length c.args.desks.now) crew.shares.items c.requires.crew.count c.requires.crew.shares)

pub collect-requires-clause-shares : goal.collect-requires-clause-shares
collect-requires-clause-shares g c =
    let store = g.T.Terms.store in
    let same = g.T.Terms.same in
    let work = c.args.work.now in
    let crew = c.args.crew in
    let table = crew.draws.shared.table_id in
    let after = c.work_all.new.shares in
    one_share_each store same work.settings work.plan.now work.symbols.now work.terms.now table c.args.desks.now c.work_all.new.desks c.deref_mut.result.now
    (take crew.shares.len (after ++ drop (length after) crew.shares.items))
    (each_back (λ d e x y. same d e × Works work.settings work.plan.now work.symbols.now work.terms.now table (store d) (store e) x y) c.args.desks.now c.work_all.new.desks
    crew.shares.items c.deref_mut.result.now after crew.shares.len crew.shares.ok.0 c.deref_mut.ensures.value c.work_all.ensures)

pub collect-requires-clause-places : goal.collect-requires-clause-places
collect-requires-clause-places g c =
    let store = g.T.Terms.store in
    let same = g.T.Terms.same in
    let work = c.args.work.now in
    let crew = c.args.crew in
    let table = crew.draws.shared.table_id in
    let after = c.work_all.new.shares in
    places_each store same work.settings work.plan.now work.symbols.now work.terms.now table c.args.desks.now c.work_all.new.desks c.deref_mut.result.now
    (take crew.shares.len (after ++ drop (length after) crew.shares.items))
    (each_back (λ d e x y. same d e × Works work.settings work.plan.now work.symbols.now work.terms.now table (store d) (store e) x y) c.args.desks.now c.work_all.new.desks
    crew.shares.items c.deref_mut.result.now after crew.shares.len crew.shares.ok.0 c.deref_mut.ensures.value c.work_all.ensures)
    (length crew.lines.items) c.requires.crew.lines

pub returns : goal.returns
returns g c =
    let store = g.T.Terms.store in
    let same = g.T.Terms.same in
    let work = c.args.work.now in
    let crew = c.args.crew in
    let table = crew.draws.shared.table_id in
    let after = c.work_all.new.shares in
    traced store same work.settings work.plan.now work.symbols.now work.terms.now c.args.desks.now c.work_all.new.desks
    (take crew.shares.len (after ++ drop (length after) crew.shares.items)) crew.lines.items c.collect.result c.requires.some c.requires.crew.lines
    (record {
      table = table;
      begun = c.deref_mut.result.now;
      each = each_back (λ d e x y. same d e × Works work.settings work.plan.now work.symbols.now work.terms.now table (store d) (store e) x y) c.args.desks.now c.work_all.new.desks
          crew.shares.items c.deref_mut.result.now after crew.shares.len crew.shares.ok.0 c.deref_mut.ensures.value c.work_all.ensures;
      places = λ k h. subst (IsAt table (length work.terms.now) k) (sym c.deref_mut.ensures.value) (c.requires.crew.shares k h);
      count = c.collect.ensures.once.count;
      once = c.collect.ensures.once.once;
    })
    c.collect.ensures.ok c.collect.ensures.err
