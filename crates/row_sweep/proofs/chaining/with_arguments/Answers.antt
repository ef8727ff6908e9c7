use Rattle.std.proofs.Common.{◌≡◌, ℕ, ◌+◌, refl, sym, ap, ◌∙◌, subst, arith}
use Rattle.hash_buckets.specs.Hash.{mixed, mixed_all}
use Rattle.store_model.specs.declared.view.Place.{Place}
use Rattle.store_model.specs.declared.view.Place.TheVariants.{RowWord}
use Rattle.store_model.specs.Steps.{ReachesByWords}
use Rattle.row_sweep.specs.Gathered.{words_of}
use Rattle.row_sweep.specs.Chained.{numbers_of}
use Rattle.row_sweep.specs.Read.{again_in_turn}
use Rattle.row_sweep.proofs.Chains.{numbers_more}
use Rattle.row_sweep.proofs.chaining.with_arguments.Goals as goal

pub loop-j-init : goal.loop-j-init
loop-j-init c = record { at = c.count_of-count.ensures.at; again = c.count_of-count.ensures.again; hash = refl }

pub with_argument-hash-requires-clause-reached : goal.with_argument-hash-requires-clause-reached
with_argument-hash-requires-clause-reached c = subst (λ (u : Place → ℕ). ReachesByWords u c.args.row) (sym c.loop-j.invariant.again.words) c.requires.reached

pub with_argument-hash-requires-clause-below : goal.with_argument-hash-requires-clause-below
with_argument-hash-requires-clause-below c = let e = ap (λ (u : Place → ℕ). u (RowWord c.args.row 1)) c.loop-j.invariant.again.words in let n = c.count_of-count.ensures.value in omega arith

pub loop-j-preserved : goal.loop-j-preserved
loop-j-preserved c =
    let a = c.args.seat.now in
    let t = c.loop-j.seat in
    let s = c.with_argument-hash.new.seat in
    let i = c.loop-j.invariant in
    let e = c.with_argument-hash.ensures in record {
      at = e.at;
      again = again_in_turn c.args.sweep.now a.seat a.number a.seats t.seat t.number t.seats s.seat s.number s.seats i.again e.again;
      hash = e.hash ∙ (ap (λ (u : Place → ℕ). mixed c.loop-j.hash (u (RowWord c.args.row (c.loop-j.j + 2)))) i.again.words
          ∙ (ap (λ (h : ℕ). mixed h (words_of a.seat (RowWord c.args.row (c.loop-j.j + 2)))) i.hash ∙ numbers_more (words_of a.seat) c.args.row c.loop-j.j c.args.first));
    }

pub returns : goal.returns
returns c =
    let a = c.args.seat.now in
    let n = c.count_of-count.ensures.value in
    let last : c.loop-j.j ≡ words_of a.seat (RowWord c.args.row 1) = omega arith in
    record {
      at = c.loop-j.invariant.at;
      again = c.loop-j.invariant.again;
      hash = subst (λ (k : ℕ). c.loop-j.hash ≡ mixed_all c.args.first (numbers_of (words_of a.seat) c.args.row k)) last c.loop-j.invariant.hash;
    }
