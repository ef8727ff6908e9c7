use Rattle.std.proofs.Common.{◌≡◌, ℕ, ◌+◌, ◌<◌, false, cond, get_or, refl, ap, ◌∙◌, subst, arith}
use Rattle.store_model.specs.declared.view.Sizes.{Sizes}
use Rattle.store_model.specs.declared.view.Place.{Place}
use Rattle.store_model.specs.declared.view.Place.TheVariants.{FreePlace, Next}
use Rattle.store_model.specs.Marks.{IsMarked}
use Rattle.row_sweep.specs.Gathered.{sizes_of, words_of}
use Rattle.row_sweep.specs.Read.{again_itself, again_in_turn}
use Rattle.row_sweep.specs.Compared.{told_by, Notes}
use Rattle.row_sweep.proofs.Compares.{notes_none, notes_more, unmarked_next}
use Rattle.row_sweep.proofs.comparing.compare_rows.Goals as goal

pub compare_row-free-requires-clause-small : goal.compare_row-free-requires-clause-small
compare_row-free-requires-clause-small c = λ m. let e = c.loop-turn.invariant.notes.rest c.row_in_turn-row.result (let b = c.row_in_turn-row.ensures.back in omega arith) in let s = c.requires.small c.row_in_turn-row.result m in omega arith

pub loop-turn-init : goal.loop-turn-init
loop-turn-init c = let s = c.args.seat.now in record {
  at = c.requires.at;
  again = again_itself c.args.sweep.now s.seat s.number s.seats;
  notes = notes_none (words_of s.seat) c.args.sweep.now.count c.args.marks.now c.args.cells.now (sizes_of c.args.sweep.now) c.args.order;
  free = refl;
  few = omega arith;
  size = refl;
}

pub loop-turn-preserved : goal.loop-turn-preserved
loop-turn-preserved c =
    let a = c.args.seat.now in
    let t = c.loop-turn.seat in
    let s = c.compare_row-free.new.seat in
    let i = c.loop-turn.invariant in
    let e = c.compare_row-free.ensures in
    let r = c.row_in_turn-row.result in
    let cells = c.compare_row-free.new.cells in
    let count = c.args.sweep.now.count in
    let marks = c.args.marks.now in
    let z = (sizes_of c.args.sweep.now) in
    let next = subst (λ (u : Place → ℕ). IsMarked c.args.marks.now c.row_in_turn-row.result → told_by (u (Next c.row_in_turn-row.result)) (get_or c.compare_row-free.new.cells c.row_in_turn-row.result 0) ≡ get_or c.loop-turn.cells c.row_in_turn-row.result 0) i.again.words e.next in
    let place = subst (λ (u : Place → ℕ). get_or c.args.marks.now c.row_in_turn-row.result false ≡ false → get_or c.compare_row-free.new.cells c.row_in_turn-row.result 0 ≡ 4294967295 → (c.loop-turn.free < c.args.sweep.now.count) × (u (FreePlace c.loop-turn.free) ≡ c.row_in_turn-row.result)) i.again.words e.place in
    let here = subst (λ (k : ℕ). get_or c.args.marks.now c.row_in_turn-row.result false ≡ false → get_or c.compare_row-free.new.cells c.row_in_turn-row.result 0 ≡ 4294967295 → (k < c.args.sweep.now.count) × (words_of c.args.seat.now.seat (FreePlace k) ≡ c.row_in_turn-row.result)) i.free place in record {
      at = e.at;
      again = again_in_turn c.args.sweep.now a.seat a.number a.seats t.seat t.number t.seats s.seat s.number s.seats i.again e.again;
      notes = notes_more (words_of a.seat) count marks c.args.cells.now c.loop-turn.cells cells z c.args.order c.loop-turn.turn r c.row_in_turn-row.ensures.row i.notes next here e.others;
      free = e.free ∙ (ap (λ (q : ℕ). c.loop-turn.free + cond (get_or c.args.marks.now q false) 0 1) c.row_in_turn-row.ensures.row ∙ unmarked_next c.args.marks.now z c.args.order c.loop-turn.turn c.loop-turn.free i.free);
      few = (let f = e.few in let g = i.few in omega arith);
      size = e.size ∙ i.size;
    }

pub returns : goal.returns
returns c =
    let told = ap (λ (z : Sizes). z.rows) c.args.sweep.now.at.told in
    let past = c.loop-turn-test.false in
    let within = c.loop-turn.auto.turn-end in
    let all : c.loop-turn.turn ≡ (sizes_of c.args.sweep.now).rows = omega arith in
    record {
      at = c.loop-turn.invariant.at;
      again = c.loop-turn.invariant.again;
      notes = subst (λ (n : ℕ). Notes (words_of c.args.seat.now.seat) c.args.sweep.now.count c.args.marks.now c.args.cells.now c.loop-turn.cells (sizes_of c.args.sweep.now) c.args.order n) all c.loop-turn.invariant.notes;
      size = c.loop-turn.invariant.size;
    }
