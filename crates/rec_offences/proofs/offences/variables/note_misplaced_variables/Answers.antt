use Rattle.rec_offences.proofs.Common.{ap, ◌∙◌, flat_map, filter, option_to_list, is_variable, root, bare_variables, free_variables, free_variables_of, least_with, of_kind}
use Rattle.rec_offences.proofs.Leasts.{noted_after}
use Rattle.rec_offences.proofs.offences.variables.note_misplaced_variables.Goals as goal

pub returns : goal.returns
returns c =
    let s = c.args.scope.now in
    let k = c.args.specification.now in
    let f = c.args.found.now in
    noted_after f _ _ (of_kind 9 (bare_variables s.bytes s.entries k)) (of_kind 10 (free_variables s.bytes s.entries k))
    (c.note_bare_variables.ensures ∙ ap (λ rs. least_with f (of_kind 9 (flat_map (λ r. filter (is_variable s.bytes s.entries) (option_to_list (root r.left))) rs))) c.as_slice-rules.ensures)
    (c.in_ok-note_free_variables.ensures ∙ (λ i. least_with c.note_bare_variables.new.found (of_kind 10 (flat_map (free_variables_of (c.text.ensures i) s.bytes s.entries) (c.as_slice-rules.ensures i)))))
