use Rattle.std.proofs.Common.{List, Bool, ◌≤◌, false, get_or, length, ◌∙◌, ap, rules, arith}
use Rattle.std.specs.List.{list_all}
use Rattle.std.proofs.lemmas.Grind.{common_steps}
use Rattle.store_model.specs.Calls.{IsOver}
use Rattle.store_model.specs.Machine.{widest, SecondIsList}
use Rattle.store_model.specs.Shown.{shown}
use Rattle.store_core.proofs.Deciding.{may_begin_by}
use Rattle.store_core.proofs.machine.beginning.may_begin.Goals as goal

pub returns : goal.returns
returns c =
    let g = c.args.sight.now in
    let formed : (length c.as_slice.result.now ≤ widest g.table.now.sizes) × IsOver c.args.content.now.head c.as_slice.result.now × SecondIsList (shown g.table.now.sizes g.table.now.words.items) c.args.content.now.head c.as_slice.result.now = first_of (search rules, grind (arith, common_steps)) in
    may_begin_by g.table.now.sizes (shown g.table.now.sizes g.table.now.words.items) g.seat g.view.now c.args.content.now c.as_slice.result.now c.as_slice-3.result.now c.in_ok-marks.marks.items c.all_named.result
    (c.as_slice.ensures.value ∙ c.in_ok-rows.ensures) (c.as_slice-3.ensures.value ∙ c.in_ok-rows.ensures) formed c.in_ok-marks.ensures
    (c.all_named.ensures ∙ ap (λ (m : List Bool). list_all (λ r. get_or m r false) c.as_slice-3.result.now) c.as_slice-2.ensures.value)
