-- Names that several proofs cite, passed on from one place. Declares nothing.
pub use Rattle.std.proofs.Common.{◌≡◌, ℕ, suc, ◌+◌, ◌<◌, ◌≤◌, min, length-drop, Bool, true, false, cond, List, [], ◌∷◌, ◌++◌, length, drop, get_or, Option, refl, sym, ap, ◌∙◌, add-one, arith, drop-cons, rules, ◌||◌, ◌&&◌, ◌==◌, nat_lt, Some, None, ◌⊎◌, inl, inr, subst, slice_get, ◌-◌, map, not, zero, take, append_assoc, append-nil, Contains, ◌^◌, nat_le, length-append, reverse, nat_eq, eq-eqb, Result, OnOk}
pub use Rattle.std.proofs.Math.Seq.{take-append_seam, take-length, drop-append-add, take-append-add}
pub use Rattle.std.proofs.lemmas.Bool.Decides.{nat_tests}
pub use Rattle.std.proofs.lemmas.Grind.{common_steps}
pub use Rattle.std.proofs.lemmas.List.{nil_from_length, length-map, map-append, reverse-append, take-append-drop, length-take-le, drop_more, take-map, drop-map}
pub use Rattle.std.proofs.lemmas.List.Concat.{flat_map-append}
pub use Rattle.std.proofs.lemmas.List.Elements.{filter-append, Contains-append_left, Contains-append_right, Contains-append_cases, All-head, All-tail}
pub use Rattle.std.proofs.lemmas.Option.{slice_get-map, slice_get_cases, none-some, slice_get_read}
pub use Rattle.std.proofs.lemmas.Result.{on_ok_weaker}
pub use Rattle.std.specs.List.{filter, flat_map, list_any}
pub use Rattle.std.specs.Option.{option_and_then, option_map, option_to_list, option_map_or, option_eq}
pub use Rattle.std.specs.Prelude.{All, IsSome}
pub use Rattle.faults.specs.declared.refusal.Refusal.{Refusal}
pub use Rattle.rec_includes.proofs.Brought.{material_is, brings_nothing, brings_material, headers_named, target_before}
pub use Rattle.rec_includes.proofs.Fresh.{has, has_append, has_first, or_true, no_numbers}
pub use Rattle.rec_includes.proofs.Gathered.{drop_all, at_one, drop_at, default_in}
pub use Rattle.rec_includes.proofs.Materials.{Below, below_append, below_with, brings_below, closed_material, included_below, number_new, gathered, material_once, below_none, closed_none}
pub use Rattle.rec_includes.specs.Forest.{cut}
pub use Rattle.rec_includes.specs.Listing.{place_in, Listing, listing}
pub use Rattle.rec_includes.specs.Material.{Declared, Header, symbols_by, symbols_of, sorts_of, rules_of, brought, fresh, with_numbers, headers_of, specifications_at, material_of, included, symbols_of_declaration, variables_of, variable, declared}
pub use Rattle.rec_includes.specs.Names.{same_text, is_among}
pub use Rattle.rec_includes.specs.Numbered.{IsClosed, header_names, target, first_target, includes_at}
pub use Rattle.rec_reader.specs.Parsed.{Parsed}
pub use Rattle.rec_reader.specs.declared.syntax_tree.Node.{Node}
pub use Rattle.rec_reader.specs.declared.syntax_tree.Specification.{Specification}
pub use Rattle.rec_reader.specs.declared.token.Name.{Name}
pub use Rattle.rec_offences.specs.Faults.{lesser, least_with, of_kind, offence_at, goes_before, offences_of, fault_of, included_entries, offences_declared, offences_used, offences_after, offences_from}
pub use Rattle.rec_offences.specs.Grouped.{verdict_of, limits_group, long_declared, offences_at, declared_group, used_group, earlier_headers}
pub use Rattle.rec_offences.specs.Inclusion.{counted, extent_of, IsFront, IsOn, AreLevels, last_material, last_number, path_of, IsAtLevel, IsDeclared, IsInclusion, IsPastLevel}
pub use Rattle.rec_offences.specs.Known.{Known, known, entries_of}
pub use Rattle.rec_offences.specs.Laws.{IsLeastOf, nodes_of, VisitsAreOfArguments}
pub use Rattle.rec_offences.specs.Offences.{is_unknown, Include, is_clashing, is_passing, includes_from, bare_variables, free_variables, past_limits, unknown_names, wrong_counts, sort_clashes, include, is_long, names_in, names_in_declaration, names_in_variables, terms_of, most, passes, symbol_names, clashing, repeated, unknown_name, wrong_count, clashing_arguments, clashing_sides, clashing_side}
pub use Rattle.rec_offences.specs.Scope.{heads, Entry, names_of, look_up, symbol_entry, own_entries, Visit, visits, is_variable, variable_entry, root}
pub use Rattle.rec_offences.specs.Visited.{free_variables_of}
pub use Rattle.rec_offences.specs.Walked.{clashing_sorts, sort_of, arguments_of, heads_on, misplaced, at_side, at_node, visit_over, names_with}
pub use Rattle.rec_offences.specs.declared.entries.Verdict.{Verdict}
pub use Rattle.rec_offences.specs.declared.inclusion.Inclusion.{Inclusion}
pub use Rattle.rec_offences.specs.declared.offences.heads.Argument.{Argument}
