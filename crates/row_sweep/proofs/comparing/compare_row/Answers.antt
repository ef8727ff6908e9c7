use Rattle.std.proofs.Common.{◌+◌, Bool, false, cond, get_or, sym, ap, ◌∙◌, arith, ◌≡◌, true}
use Rattle.std.proofs.lemmas.Bool.{true≢false}
use Rattle.row_sweep.proofs.Compares.{as_told}
use Rattle.row_sweep.proofs.comparing.compare_row.Goals as goal

pub compare_next-requires : goal.compare_next-requires
compare_next-requires c = record {
  at = c.requires.at;
  row = c.requires.row;
  cells = c.requires.cells;
  small = c.requires.small (as_told c.has.result (get_or c.args.marks.now c.args.row false) c.has.ensures ∙ c.if-has.true);
}

pub returns : goal.returns
returns c = record {
  at = c.compare_place.ensures.at;
  again = c.compare_place.ensures.again;
  next = λ marked. absurd (true≢false (sym marked ∙ (as_told c.has.result (get_or c.args.marks.now c.args.row false) c.has.ensures ∙ c.if-has.false)));
  place = λ _ h. c.compare_place.ensures.holds h;
  free = sym (ap (λ (b : Bool). c.args.free + cond b 0 1) (as_told c.has.result (get_or c.args.marks.now c.args.row false) c.has.ensures ∙ c.if-has.false));
  few = omega arith;
  others = c.compare_place.ensures.others;
  size = c.compare_place.ensures.size;
}

pub compare_place-requires : goal.compare_place-requires
compare_place-requires c = record { at = c.requires.at; row = let e = c.requires.cells in let l = c.requires.row in omega arith }

pub returns-then-has : goal.returns-then-has
returns-then-has c =
    let e = c.compare_next.ensures in
    let marked : get_or c.args.marks.now c.args.row false ≡ true = as_told c.has.result (get_or c.args.marks.now c.args.row false) c.has.ensures ∙ c.if-has.true in
    let none : c.args.free + cond (get_or c.args.marks.now c.args.row false) 0 1 ≡ c.args.free + 0 = ap (λ (b : Bool). c.args.free + cond b 0 1) marked in
    let same : c.args.free + 0 ≡ c.args.free = omega arith in
    record {
      at = e.at;
      again = e.again;
      next = λ _. e.tells;
      place = λ not. absurd (true≢false (sym marked ∙ not));
      free = sym (none ∙ same);
      few = omega arith;
      others = e.others;
      size = e.size;
    }
