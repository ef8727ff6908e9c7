use Rattle.std.proofs.Common.{List, sym, subst}
use Rattle.std.specs.Prelude.{All, IfSome}
use Rattle.node_rows.specs.declared.store.Pass.{Pass}
use Rattle.node_rows.specs.Told.{Tells, view_of}
use Rattle.work_desks.specs.Keys.{HasKeys}
use Rattle.shared_work.proofs.Closing.{are_out, are_all}
use Rattle.shared_work.proofs.Keyed.{are_told, told_before}
use Rattle.shared_work.proofs.Outcome.{closed, nothing}
use Rattle.shared_work.proofs.sharing.rewrite_at.Goals as goal

pub close-chronicle-requires : goal.close-chronicle-requires
close-chronicle-requires g c =
    let work = c.args.work.now in
    let left = c.in-Ok.left in
    let run = c.in-Ok.ensures.run in
    record {
      store = c.requires.store;
      passes = are_out work.settings work.plan.now.rules work.terms.now c.args.store left.lines left.passes.items run;
      all = are_all work.settings work.plan.now.rules work.terms.now c.args.store left.lines left.passes.items run;
    }

pub with_keys-log-requires : goal.with_keys-log-requires
with_keys-log-requires g c =
    let work = c.args.work.now in
    record {
      told = subst (All Tells) (sym c.deref.ensures.value)
          (are_told work.settings work.plan.now.rules work.terms.now c.args.store c.in-Ok.left.lines c.in-Ok.left.passes.items c.in-Ok.ensures.run);
    }

pub returns-in-Ok : goal.returns-in-Ok
returns-in-Ok g c =
    let left = c.in-Ok.left in
    let told = c.close-chronicle.ensures in
    closed c.args.work.now c.args.store c.args.passes.items left.lines left.passes.items left.log c.with_keys-log.result c.close-chronicle.result c.requires.begin c.in-Ok.ensures
    (record {
      count = told.count;
      legal = told.legal;
      own = told.own;
      order = told.order;
      rises = told.rises;
      told = told.told;
      crowds = told.crowds;
      numbers = told.numbers;
      bases = told.bases;
    })
    (told_before left.log c.with_keys-log.result c.deref.result.now c.with_keys-log.ensures.log)
    (subst (λ (ps : List Pass). IfSome c.with_keys-log.result (λ _. All (λ p. HasKeys (view_of p).store.entries) ps)) c.deref.ensures.value c.with_keys-log.ensures.keys)

pub returns-in-Err : goal.returns-in-Err
returns-in-Err g c =
    let none = c.nothing in
    nothing c.args.work.now none.result.lines none.result.chronicle none.result.log none.ensures.lines none.ensures.chronicle none.ensures.log
