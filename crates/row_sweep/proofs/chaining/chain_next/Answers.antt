use Rattle.row_sweep.specs.Read.{again_itself}
use Rattle.std.proofs.Common.{◌≡◌, false, get_or, sym, ◌∙◌, ⊎_elim, true≢false, refl}
use Rattle.store_model.proofs.NamesLeft.{by_bool}
use Rattle.row_sweep.specs.Gathered.{words_of}
use Rattle.row_sweep.proofs.Chains.{chains_same}
use Rattle.row_sweep.proofs.chaining.chain_next.Goals as goal

pub returns-then-not-has : goal.returns-then-not-has
returns-then-not-has c =
    let not : get_or c.args.marks.now c.args.row false ≡ false = ⊎_elim (λ m. absurd (true≢false (sym (c.has.ensures.1 m) ∙ c.if-not-has.true))) (λ e. e) (by_bool (get_or c.args.marks.now c.args.row false)) in
    record {
      at = c.requires.at;
      again = let s = c.args.seat.now in again_itself c.args.sweep.now s.seat s.number s.seats;
      chains = chains_same (words_of c.args.seat.now.seat) c.args.marks.now c.args.in_use c.args.row c.args.heads.now c.args.nexts.now not c.requires.chains;
      lengths = (refl, refl);
    }

pub returns : goal.returns
returns c = record {
  at = c.chain_marked.ensures.at;
  again = c.chain_marked.ensures.again;
  chains = c.chain_marked.ensures.chains;
  lengths = c.chain_marked.ensures.lengths;
}
