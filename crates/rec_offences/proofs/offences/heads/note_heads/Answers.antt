use Rattle.rec_offences.proofs.Common.{[], ◌++◌, true, ap, ◌∙◌, arith, flat_map, visits, unknown_name, wrong_count, clashing_arguments, clashing_sides, terms_of, unknown_names, wrong_counts, sort_clashes, least_with, of_kind, misplaced}
use Rattle.rec_offences.proofs.Leasts.{four_kinds}
use Rattle.rec_offences.proofs.Walks.{values_variables}
use Rattle.rec_offences.proofs.offences.heads.note_heads.Goals as goal

pub returns : goal.returns
returns c =
    let s = c.args.scope.now in
    let k = c.args.specification.now in
    let f = c.args.found.now in
    four_kinds 5 7 8 11
    (unknown_name s.bytes s.entries) (wrong_count s.bytes s.entries) (clashing_arguments s.bytes s.entries)
    (λ v. misplaced true s.bytes s.entries v.node.head) (visits []) (flat_map terms_of k.rules) k.terms
    (flat_map (clashing_sides s.bytes s.entries) k.rules) f
    c.note_rules.new.found c.note_values.new.found c.note_clashing_sides.new.found (grind arith) (grind arith) (grind arith)
    ∙ ap (λ ns. least_with f (of_kind 5 (unknown_names s.bytes s.entries k) ++ of_kind 7 (wrong_counts s.bytes s.entries k) ++ of_kind 8 (sort_clashes s.bytes s.entries k) ++ of_kind 11 ns)) (values_variables s.bytes s.entries k.terms)
