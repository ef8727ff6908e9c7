use Rattle.std.proofs.Common.{◌∙◌, false, length, ap, refl, arith}
use Rattle.std.specs.Prelude.{Bool, List}
use Rattle.std.proofs.lemmas.List.{length-replicate}
use Rattle.plain_store.specs.declared.store.PlainStore.TheInside.{Inside}
use Rattle.plain_store.specs.Contents.{empty}
use Rattle.plain_store.proofs.Beginning.{right_at_first, contents_at_first}
use Rattle.plain_store.proofs.store.PlainStore.new.Goals as goal

pub invariant_of-result : goal.invariant_of-result
invariant_of-result c =
    let s : Inside = record { nodes = c.in_ok-nodes.nodes; places = c.in_ok-places.places; marks = c.in_ok-marks.marks; room = c.args.depth; widest = c.max-widest.result; inside = false; raised = 0; history = c.new-4.result } in
    let marks = ap (λ (xs : List Bool). length xs) c.in_ok-marks.ensures ∙ length-replicate {A = Bool} c.args.rows false in
    right_at_first s c.args.rows c.max-widest.result c.in_ok-nodes.ensures c.in_ok-places.ensures.empty c.new-4.ensures refl refl refl c.ranges.depth.fits (omega (arith, c.in_ok-places.ensures.room)) marks

pub returns : goal.returns
returns c =
    let s : Inside = record { nodes = c.in_ok-nodes.nodes; places = c.in_ok-places.places; marks = c.in_ok-marks.marks; room = c.args.depth; widest = c.max-widest.result; inside = false; raised = 0; history = c.new-4.result } in
    contents_at_first s c.args.rows c.max-widest.result c.in_ok-nodes.ensures c.in_ok-places.ensures.empty c.new-4.ensures refl refl refl
    ∙ ap (λ w. empty c.args.rows c.args.depth w) c.max-widest.ensures
