use Rattle.std.proofs.Common.{ℕ, sym, ap, ◌∙◌, subst}
use Rattle.store_model.specs.declared.view.Place.{Place}
use Rattle.store_model.specs.declared.view.Place.TheVariants.{RowWord}
use Rattle.store_model.specs.Steps.{ReachesByWords}
use Rattle.row_sweep.specs.Chained.{IsHashed}
use Rattle.row_sweep.specs.Read.{again_in_turn}
use Rattle.row_sweep.proofs.Sound.{row_is_below}
use Rattle.row_sweep.proofs.chaining.hash_of_row.Goals as goal

pub row_word_of-symbol-requires-clause-below : goal.row_word_of-symbol-requires-clause-below
row_word_of-symbol-requires-clause-below c = let s = c.args.seat.now in row_is_below c.args.sweep.now s.seat s.number s.seats c.requires.at c.args.row c.requires.reached

pub hash_from-requires-clause-reached : goal.hash_from-requires-clause-reached
hash_from-requires-clause-reached c = subst (λ (u : Place → ℕ). ReachesByWords u c.args.row) (sym c.row_word_of-symbol.ensures.again.words) c.requires.reached

pub hash_from-requires-clause-symbol : goal.hash_from-requires-clause-symbol
hash_from-requires-clause-symbol c = c.row_word_of-symbol.ensures.value ∙ ap (λ (u : Place → ℕ). u (RowWord c.args.row 0)) (sym c.row_word_of-symbol.ensures.again.words)

pub returns : goal.returns
returns c =
    let a = c.args.seat.now in
    let t = c.row_word_of-symbol.new.seat in
    let s = c.hash_from.new.seat in
    record {
      at = c.hash_from.ensures.at;
      again = again_in_turn c.args.sweep.now a.seat a.number a.seats t.seat t.number t.seats s.seat s.number s.seats c.row_word_of-symbol.ensures.again c.hash_from.ensures.again;
      hash = subst (λ (u : Place → ℕ). IsHashed u c.args.row c.hash_from.result) c.row_word_of-symbol.ensures.again.words c.hash_from.ensures.hash;
    }
