use Rattle.std.proofs.Common.{refl}
use Rattle.std.proofs.lemmas.Result.{err_from_is_err_and}
use Rattle.term_model.specs.declared.Item.TheVariants.{Var}
use Rattle.std.specs.Prelude.{slice_index_or}
use Rattle.term_file.specs.Growing.{contents_so_far}
use Rattle.term_file.proofs.Shares.{writable_at, comes_on, reaches, too_many, all_reached}
use Rattle.term_file.proofs.growing.Growing.take_term.Goals as goal

pub take-requires-clause-writable : goal.take-requires-clause-writable
take-requires-clause-writable c =
    writable_at c.args.names.now c.args.term.now c.items-item-items.result.now c.loop-item.item-index (slice_index_or c.items-item-items.result.now c.loop-item.item-index (Var 0)) (Var 0) c.requires.writable c.items-item-items.ensures.items c.loop-item-test.true refl

pub take-requires-clause-next : goal.take-requires-clause-next
take-requires-clause-next c =
    comes_on c.args.names.now c.args.term.now c.items-item-items.ensures.well_formed c.items-item-items.result.now c.items-item-items.ensures.items c.loop-item.item-index c.loop-item-test.true (slice_index_or c.items-item-items.result.now c.loop-item.item-index (Var 0)) (Var 0) refl
    c.requires.trees.trees (contents_so_far c.loop-item.self) (c.loop-item.invariant.reached c.requires.trees.trees c.requires.trees.shares)

pub returns-in_err-take-clause-full_only_where : goal.returns-in_err-take-clause-full_only_where
returns-in_err-take-clause-full_only_where c =
    let p = err_from_is_err_and c.from_residual.result c.from_residual.ensures.1 in
    rw (p.1, p.2) (λ e ts s.
    too_many c.args.names.now c.args.term.now c.items-item-items.ensures.well_formed c.items-item-items.result.now c.items-item-items.ensures.items c.loop-item.item-index c.loop-item-test.true (slice_index_or c.items-item-items.result.now c.loop-item.item-index (Var 0)) (Var 0) refl
    ts (contents_so_far c.loop-item.self) (c.loop-item.invariant.reached ts s) c.args.rows (c.in_err-take.ensures.full_only_where e))

pub loop-item-preserved : goal.loop-item-preserved
loop-item-preserved c = record {
  reached = λ ts s.
      reaches c.args.names.now c.args.term.now c.items-item-items.ensures.well_formed c.items-item-items.result.now c.items-item-items.ensures.items c.loop-item.item-index c.loop-item-test.true (slice_index_or c.items-item-items.result.now c.loop-item.item-index (Var 0)) (Var 0) refl
      ts (contents_so_far c.loop-item.self) (c.loop-item.invariant.reached ts s) (contents_so_far c.take.new.self) c.in_ok-take.ensures.taken;
  few = c.in_ok-take.ensures.few;
}

pub returns : goal.returns
returns c = record {
  taken = λ ts s.
      all_reached c.args.names.now c.args.term.now c.items-item-items.result.now c.loop-item.item-index ts (contents_so_far c.loop-item.self) c.items-item-items.ensures.well_formed c.items-item-items.ensures.items c.loop-item-test.false (c.loop-item.invariant.reached ts s);
  few = c.loop-item.invariant.few;
  full_only_where = λ e. absurd (cc);
}
