use Rattle.std.proofs.Common.{◌≡◌, ℕ, ◌+◌, List, length, get_or, refl, sym, ap, ◌∙◌, subst, arith}
use Rattle.std.proofs.lemmas.List.{length-replicate, get_or-replicate}
use Rattle.store_model.specs.declared.view.Sizes.{Sizes}
use Rattle.store_model.specs.declared.view.Place.{Place}
use Rattle.store_model.specs.Marks.{MarksReached}
use Rattle.row_sweep.specs.Gathered.{sizes_of, words_of}
use Rattle.row_sweep.specs.Chained.{ChainsTo}
use Rattle.row_sweep.specs.Read.{again_itself, again_in_turn}
use Rattle.row_sweep.proofs.Chains.{chains_none}
use Rattle.row_sweep.proofs.chaining.chain_all.Goals as goal

pub chain_next-requires-clause-marks : goal.chain_next-requires-clause-marks
chain_next-requires-clause-marks c = subst (λ (u : Place → ℕ). MarksReached u (sizes_of c.args.sweep.now).rows c.args.marks.now) (sym c.loop-row.invariant.again.words) c.requires.marks

pub chain_next-requires-clause-chains : goal.chain_next-requires-clause-chains
chain_next-requires-clause-chains c = subst (λ (u : Place → ℕ). ChainsTo u c.args.marks.now c.args.in_use c.loop-row.row c.loop-row.heads c.loop-row.nexts) (sym c.loop-row.invariant.again.words) c.loop-row.invariant.chains

pub loop-row-preserved : goal.loop-row-preserved
loop-row-preserved c =
    let a = c.args.seat.now in
    let t = c.loop-row.seat in
    let s = c.chain_next.new.seat in
    let i = c.loop-row.invariant in
    let e = c.chain_next.ensures in record {
      at = e.at;
      again = again_in_turn c.args.sweep.now a.seat a.number a.seats t.seat t.number t.seats s.seat s.number s.seats i.again e.again;
      chains = subst (λ (u : Place → ℕ). ChainsTo u c.args.marks.now c.args.in_use (c.loop-row.row + 1) c.chain_next.new.heads c.chain_next.new.nexts) i.again.words e.chains;
      nexts = e.lengths.0 ∙ i.nexts;
      heads = e.lengths.1 ∙ i.heads;
    }

pub loop-row-init : goal.loop-row-init
loop-row-init c =
    let s = c.args.seat.now in
    let is = c.clear.ensures in record {
      at = c.requires.at;
      again = again_itself c.args.sweep.now s.seat s.number s.seats;
      chains = chains_none (words_of s.seat) c.args.marks.now c.args.in_use c.clear.new.heads c.args.nexts.now
          (λ b l. ap (λ (hs : List ℕ). get_or hs b 0) is ∙ get_or-replicate (length c.args.heads.now) b 0 0 (let u = c.requires.used.1 in omega arith));
      nexts = refl;
      heads = ap length is ∙ length-replicate (length c.args.heads.now) 0;
    }

pub returns : goal.returns
returns c =
    let told = ap (λ (z : Sizes). z.rows) c.args.sweep.now.at.told in
    let past = c.loop-row-test.false in
    let within = c.loop-row.auto.row-end in
    let all : c.loop-row.row ≡ (sizes_of c.args.sweep.now).rows = omega arith in
    record {
      at = c.loop-row.invariant.at;
      again = c.loop-row.invariant.again;
      chains = subst (λ (n : ℕ). ChainsTo (words_of c.args.seat.now.seat) c.args.marks.now c.args.in_use n c.loop-row.heads c.loop-row.nexts) all c.loop-row.invariant.chains;
      lengths = (c.loop-row.invariant.nexts, c.loop-row.invariant.heads);
    }
