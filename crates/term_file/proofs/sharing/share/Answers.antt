use Rattle.std.proofs.Common.{List, [], length, ap, subst, sym, ◌∙◌, arith}
use Rattle.symbol_pool.specs.Pool.{Named}
use Rattle.term_model.specs.Tree.{Tree}
use Rattle.term_file.specs.declared.fault.ShareFault.TheVariants.{StoreFull}
use Rattle.term_file.specs.Right.{IsRight}
use Rattle.term_file.specs.Growing.{contents_so_far}
use Rattle.term_file.specs.Contents.{Contents}
use Rattle.term_file.specs.Sharing.{Shares}
use Rattle.term_file.proofs.Shares.{next_shared, next_too_many, same_fault, shared_whole, is_right, shares_counted, nothing_shared}
use Rattle.term_file.proofs.sharing.share.Goals as goal

pub returns-in-Err-clause-full_only_where : goal.returns-in-Err-clause-full_only_where
returns-in-Err-clause-full_only_where c = λ e.
    next_too_many c.args.symbols.now c.args.terms.now c.as_slice-term-items.result.now c.as_slice-term-items.ensures c.loop-term.term-index c.loop-term-test.true c.term-item.result c.term-item.is
    (contents_so_far c.loop-term.growing) c.args.rows c.loop-term.invariant.shares (c.in-Err.ensures.full_only_where (same_fault c.in-Err.fault StoreFull e))

pub loop-term-preserved : goal.loop-term-preserved
loop-term-preserved c = record {
  shares =
      next_shared c.args.symbols.now c.args.terms.now c.as_slice-term-items.result.now c.as_slice-term-items.ensures c.loop-term.term-index c.loop-term-test.true c.term-item.result c.term-item.is
      (contents_so_far c.loop-term.growing) (contents_so_far c.take_term.new.self) c.loop-term.invariant.shares c.in-Ok.ensures.taken;
  few = c.in-Ok.ensures.few;
}

pub invariant_of-result : goal.invariant_of-result
invariant_of-result c =
    let size = ap (λ (ts : List Tree). length ts) c.as_slice-term-items.ensures in
    let whole = shared_whole c.args.symbols.now c.args.terms.now c.loop-term.term-index (contents_so_far c.loop-term.growing) (omega (arith, size, c.loop-term-test.false)) c.loop-term.invariant.shares in
    let right = is_right c.args.symbols.now c.args.terms.now (contents_so_far c.loop-term.growing) c.args.rows whole c.requires.terms c.loop-term.invariant.few c.requires.rows in
    record {
      right = subst (λ (ss : List Named). IsRight (record { symbols = ss; records = c.loop-term.growing.table; roots = c.loop-term.growing.stack.items })) (sym c.into_parts-symbols.ensures.symbols) right;
      count = c.into_parts-symbols.ensures.count ∙ ap (λ (ss : List Named). length ss) (sym c.into_parts-symbols.ensures.symbols);
    }

pub returns-clause-fits : goal.returns-clause-fits
returns-clause-fits c =
    let size = ap (λ (ts : List Tree). length ts) c.as_slice-term-items.ensures in
    let whole = shared_whole c.args.symbols.now c.args.terms.now c.loop-term.term-index (contents_so_far c.loop-term.growing) (omega (arith, size, c.loop-term-test.false)) c.loop-term.invariant.shares in
    omega (arith, shares_counted c.args.symbols.now c.args.terms.now (contents_so_far c.loop-term.growing) c.find-pool.ensures.pool whole, c.loop-term.invariant.few)

pub take_term-requires-clause-pool : goal.take_term-requires-clause-pool
take_term-requires-clause-pool c = c.find-pool.ensures.pool

pub take_term-requires-clause-trees : goal.take_term-requires-clause-trees
take_term-requires-clause-trees c = record { trees = _; shares = c.loop-term.invariant.shares }

pub loop-term-init : goal.loop-term-init
loop-term-init c = record {
  shares = subst (Shares c.args.symbols.now []) (sym c.new-growing.ensures) (nothing_shared c.args.symbols.now);
  few = omega (arith, ap (λ (d : Contents). length d.records) c.new-growing.ensures);
}
