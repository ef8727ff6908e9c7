use Rattle.std.proofs.Common.{◌≡◌, ◌∙◌, ◌+◌, ◌<◌, false, sym, ap, length, take, arith, get_or, refl, subst, List}
use Rattle.std.proofs.lemmas.List.{take-set, length-set}
use Rattle.term_model.specs.declared.Row.{Row}
use Rattle.term_model.proofs.Members.{same_test}
use Rattle.plain_store.specs.Slots.{Slots, Slot, slot_at, kept_if}
use Rattle.plain_store.specs.Index.{IsIndexed}
use Rattle.plain_store.proofs.Rows.{Sweeping, sweeping_none, sweeping_more, sweeping_all, Freed, freed_more, freed_here, freed_row}
use Rattle.plain_store.proofs.Fronts.{front_swept}
use Rattle.plain_store.proofs.nodes.sweep_rows.Goals as goal
use Rattle.plain_store.proofs.nodes.sweep_rows.Goals.{then-lost, else-lost}

pub loop-i-init : goal.loop-i-init
loop-i-init c =
    record { rows = sweeping_none c.args.marks.now c.args.table.now; some = λ h. absurd (cc); none = λ h. refl; indexed = c.requires.none; tags = refl; places = refl }

pub add-requires-clause-before : goal.add-requires-clause-before
add-requires-clause-before c =
    let was = c.loop-i.table in
    let row : Row = record { 0 = c.loop-i.i } in
    let v = kept_if c.has-kept.result (slot_at was row) in
    let same = ap (λ (s : Slots). take c.loop-i.i s.slots) c.keep_if-freed.ensures.kept ∙ take-set was.slots c.loop-i.i v in
    subst (λ (xs : List Slot). IsIndexed xs c.loop-i.index) (sym same) c.loop-i.invariant.indexed

pub add-requires-clause-room : goal.add-requires-clause-room
add-requires-clause-room c =
    let was = c.loop-i.table in
    let row : Row = record { 0 = c.loop-i.i } in
    let v = kept_if c.has-kept.result (slot_at was row) in
    let long = ap (λ (s : Slots). length s.slots) c.keep_if-freed.ensures.kept ∙ length-set was.slots c.loop-i.i v in
    omega (arith, long, c.loop-i.invariant.rows.size, c.loop-i.invariant.tags, c.requires.room)

pub loop-i-preserved : goal.loop-i-preserved
loop-i-preserved c =
    let row : Row = record { 0 = c.loop-i.i } in
    let told = same_test c.has-kept.result (get_or c.args.marks.now c.loop-i.i false) c.has-kept.ensures.0 c.has-kept.ensures.1 in
    let below : c.loop-i.i < length c.loop-i.table.slots = omega (arith, c.loop-i.invariant.rows.size, c.loop-i-test.true, c.requires.front.fits) in
    record {
      rows = subst (λ (s : Slots). Sweeping c.args.marks.now c.args.table.now s (c.loop-i.i + 1)) (sym c.keep_if-freed.ensures.kept)
          (sweeping_more c.args.marks.now c.args.table.now c.loop-i.table row c.has-kept.result c.loop-i.invariant.rows below told);
      some = elim c.if-lost.branch [
        | then-lost w ↦ (λ h. subst (λ (s : Slots). Freed c.args.table.now s (c.loop-i.i + 1)) (sym c.keep_if-freed.ensures.kept)
            (freed_more c.args.table.now c.loop-i.table row (kept_if c.has-kept.result (slot_at c.loop-i.table row)) (c.loop-i.invariant.some w.if-lost.true)))
        | else-lost w ↦ (λ h.
            let both = c.keep_if-freed.ensures.some (sym w.lost-is ∙ h) in
            subst (λ (s : Slots). Freed c.args.table.now s (c.loop-i.i + 1)) (sym c.keep_if-freed.ensures.kept)
            (freed_here c.args.marks.now c.args.table.now c.loop-i.table row c.has-kept.result c.loop-i.invariant.rows below both.0 both.1))
      ];
      none = elim c.if-lost.branch [
        | then-lost w ↦ (λ h. absurd (cc))
        | else-lost w ↦ (λ h. c.keep_if-freed.ensures.none (sym w.lost-is ∙ h) ∙ c.loop-i.invariant.none w.if-lost.false)
      ];
      indexed = c.add.ensures.indexed;
      tags = c.add.ensures.tags ∙ c.loop-i.invariant.tags;
      places = c.add.ensures.places ∙ c.loop-i.invariant.places;
    }

pub returns-clause-swept : goal.returns-clause-swept
returns-clause-swept c =
    let all : c.loop-i.i ≡ c.args.fresh = omega (arith, c.loop-i-test.false) in
    sweeping_all _ _ _ c.args.fresh (subst (Sweeping c.args.marks.now c.args.table.now c.loop-i.table) all c.loop-i.invariant.rows) c.requires.front

pub returns-clause-some : goal.returns-clause-some
returns-clause-some c = λ h. freed_row _ _ _ (c.loop-i.invariant.some h)

pub returns-clause-none : goal.returns-clause-none
returns-clause-none c = c.loop-i.invariant.none

pub returns-clause-indexed : goal.returns-clause-indexed
returns-clause-indexed c =
    let all : c.loop-i.i ≡ c.args.fresh = omega (arith, c.loop-i-test.false) in
    front_swept c.args.marks.now c.args.table.now c.loop-i.table c.args.fresh c.loop-i.index
    (subst (Sweeping c.args.marks.now c.args.table.now c.loop-i.table) all c.loop-i.invariant.rows) c.requires.front (omega (arith, c.loop-i.invariant.tags, c.requires.room)) (omega (arith, c.loop-i.invariant.places, c.requires.places))
    (subst (λ i. IsIndexed (take i c.loop-i.table.slots) c.loop-i.index) all c.loop-i.invariant.indexed)
