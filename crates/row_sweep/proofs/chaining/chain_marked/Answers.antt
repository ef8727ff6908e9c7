use Rattle.std.proofs.Common.{ℕ, ◌+◌, List, set, sym, subst, arith, length, ap, ◌∙◌, length-set}
use Rattle.row_sweep.specs.Gathered.{words_of}
use Rattle.row_sweep.specs.Chained.{ChainsTo}
use Rattle.row_sweep.proofs.Chains.{chains_more}
use Rattle.row_sweep.proofs.chaining.chain_marked.Goals as goal

pub bucket_of_row-bucket-requires-clause-reached : goal.bucket_of_row-bucket-requires-clause-reached
bucket_of_row-bucket-requires-clause-reached c = (c.requires.marks.marked c.args.row).0 c.requires.marked

pub returns : goal.returns
returns c =
    let w = words_of c.args.seat.now.seat in
    let n = c.requires.nexts in
    let r = c.requires.row in
    let z = c.requires.marks.size in
    let e = c.bucket_of_row-bucket.ensures in
    let ms = c.args._marks.now in
    record {
      at = c.bucket_of_row-bucket.ensures.at;
      again = c.bucket_of_row-bucket.ensures.again;
      chains = subst (λ (hs : List ℕ). ChainsTo w ms c.args.in_use (c.args.row + 1) hs c.chain_row.new.nexts) (sym c.chain_row.ensures.heads)
          (subst (λ (ns : List ℕ). ChainsTo w ms c.args.in_use (c.args.row + 1) (set c.args.heads.now c.bucket_of_row-bucket.result (c.args.row + 1)) ns) (sym c.chain_row.ensures.nexts)
          (chains_more w ms c.args.in_use c.args.row c.args.heads.now c.args.nexts.now c.requires.marked c.bucket_of_row-bucket.result e.below e.stands c.requires.chains (omega arith) c.requires.used.1));
      lengths = (ap length c.chain_row.ensures.nexts ∙ length-set _ _ _, ap length c.chain_row.ensures.heads ∙ length-set _ _ _);
    }
