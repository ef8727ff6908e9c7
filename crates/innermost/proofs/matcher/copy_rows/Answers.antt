use Rattle.std.proofs.Common.{◌∷◌, [], ◌++◌, List, length, take, get_or, sym, ◌∙◌, ap, arith}
use Rattle.std.proofs.lemmas.List.{length-map, length-take-le, map_more}
use Rattle.term_model.specs.declared.Row.{Row}
use Rattle.rule_automaton.specs.Rows.{row_at}
use Rattle.innermost.proofs.matcher.copy_rows.Goals as goal

pub bounds-rows-place : goal.bounds-rows-place
bounds-rows-place c =
    c.requires.within c.loop-place.place-index 0 (omega arith)

pub push_reserved-requires : goal.push_reserved-requires
push_reserved-requires c =
    let i = c.loop-place.place-index in
    let places = c.args.places.now in
    let h = ap length c.loop-place.invariant.rows in
    let m = length-map (take i places) (row_at c.args.rows.now) in
    let t = length-take-le i places (omega arith) in
    omega (arith, h, m, t, c.loop-place.invariant.room, c.clear.ensures.capacity, c.requires.room)

pub loop-place-preserved : goal.loop-place-preserved
loop-place-preserved c =
    let i = c.loop-place.place-index in
    let places = c.args.places.now in
    record {
      rows = c.push_reserved.ensures.items
          ∙ ap (λ (rs : List Row). rs ++ row_at c.args.rows.now (get_or places i 0) ∷ []) c.loop-place.invariant.rows
          ∙ sym (map_more (row_at c.args.rows.now) places i 0 (omega arith));
      room = c.push_reserved.ensures.capacity ∙ c.loop-place.invariant.room;
    }
