use Rattle.std.proofs.Common.{ℕ, sym, ap, ◌∙◌, subst, arith}
use Rattle.hash_buckets.specs.Hash.{mixed, mixed_all}
use Rattle.store_model.specs.declared.view.Place.TheVariants.{RowWord}
use Rattle.row_sweep.specs.Gathered.{words_of}
use Rattle.row_sweep.specs.Chained.{numbers_of, IsHashed}
use Rattle.row_sweep.proofs.Sound.{row_has_content}
use Rattle.row_sweep.proofs.Chains.{hashes_int, hashes_rows}
use Rattle.row_sweep.proofs.chaining.hash_from.Goals as goal

pub returns-then-symbol-eq-INTEGER : goal.returns-then-symbol-eq-INTEGER
returns-then-symbol-eq-INTEGER c =
    let s = c.args.seat.now in
    let w = words_of s.seat in
    let t = row_has_content c.args.sweep.now s.seat s.number s.seats c.requires.at c.args.row c.requires.reached in
    record {
      at = c.with_value.ensures.at;
      again = c.with_value.ensures.again;
      hash = subst (λ (h : ℕ). IsHashed w c.args.row h) (sym (c.with_value.ensures.hash ∙ ap (λ (h : ℕ). mixed h (w (RowWord c.args.row 2))) (c.with_word-first.ensures ∙ ap (λ (n : ℕ). mixed 14695981039346656037 n) c.requires.symbol)))
          (hashes_int w c.args.row t.0 t.1 (let e = c.requires.symbol in let f = c.if-symbol-eq-INTEGER.true in omega arith));
    }

pub returns : goal.returns
returns c =
    let s = c.args.seat.now in
    let w = words_of s.seat in
    let t = row_has_content c.args.sweep.now s.seat s.number s.seats c.requires.at c.args.row c.requires.reached in
    record {
      at = c.with_arguments.ensures.at;
      again = c.with_arguments.ensures.again;
      hash = subst (λ (h : ℕ). IsHashed w c.args.row h) (sym (c.with_arguments.ensures.hash ∙ ap (λ (h : ℕ). mixed_all h (numbers_of w c.args.row (w (RowWord c.args.row 1)))) (c.with_word-first.ensures ∙ ap (λ (n : ℕ). mixed 14695981039346656037 n) c.requires.symbol)))
          (hashes_rows w c.args.row t.0 t.1 (let e = c.requires.symbol in let f = c.if-symbol-eq-INTEGER.false in λ k. omega arith));
    }
