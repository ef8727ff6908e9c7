-- Names that several proofs cite, passed on from one place. Declares nothing.
pub use Rattle.std.proofs.Common.{arith, ◌≡◌, ℕ, ◌-◌, Bool, true, false, eqb, ◌&&◌, ◌||◌, ◌⊎◌, inl, inr, List, [], ◌∷◌, ◌++◌, length, map, take, Option, Some, None, is_some, All, refl, ap, ◌∙◌, ◌+◌, ◌≤◌, slice_get, get_or, position, rules, ◌<◌, drop, sym, subst, length-append, suc, cond, zero, not, max, Result, OnOk, IfNone, Ok, fold, nat_eq, IfOk}
pub use Rattle.std.proofs.Math.Seq.{drop-append_seam, take-append_seam}
pub use Rattle.std.proofs.lemmas.Bool.{false_from_ne_true, eqb-true}
pub use Rattle.std.proofs.lemmas.Bool.Decides.{nat_tests}
pub use Rattle.std.proofs.lemmas.Grind.{common_steps, flat_map-append}
pub use Rattle.std.proofs.lemmas.List.{at_drop_more, append_assoc, map-append, nil_from_length, append-nil, length-map}
pub use Rattle.std.proofs.lemmas.List.Elements.{All-nil, All-cons, All-head, All-tail, All-weaker, All-append, All-push}
pub use Rattle.std.proofs.lemmas.List.Folds.{list_all-append, list_any-append}
pub use Rattle.std.proofs.lemmas.List.Quantifiers.{position-Some}
pub use Rattle.std.proofs.lemmas.Option.{slice_get-get_or, slice_get_within, get_or_from_slice_get, same_Some}
pub use Rattle.std.specs.Cmp.Lexicographic.{bytes_decides}
pub use Rattle.std.specs.List.{list_any, flat_map, filter, list_all, AllByRecursion}
pub use Rattle.std.specs.Option.{option_map_or, option_or, option_to_list, option_map}
pub use Rattle.std.specs.Prelude.{if◌then◌else◌, find, nat_le, option_and_then, nat_lt, min}
pub use Rattle.std.specs.Str.{bytes_eq}
pub use Rattle.rec_includes.proofs.Gathered.{drop_at, headers_more, headers_counted}
pub use Rattle.rec_includes.specs.Listing.{Listing, listing, texts, with_new, place_in}
pub use Rattle.rec_includes.specs.Material.{Declared, Variable, variables_by, declared, symbols_of_declaration, rules_of, specifications_at, material_of, variable, symbols_of, Header, headers_of, included, brought, fresh, with_numbers, symbols_by}
pub use Rattle.rec_includes.specs.Names.{text_of, same_text, is_among}
pub use Rattle.rec_offences.specs.Faults.{of_kind, included_entries, offences_after, offences_from}
pub use Rattle.rec_offences.specs.Known.{entry_of, entries_of}
pub use Rattle.rec_offences.specs.Offences.{repeated, first_past, most, includes_from, unknown_names, repeated_names, wrong_counts, bare_variables, free_variables, not_ground, past_limits, Include, symbol_names, is_clashing, is_passing, passes, terms_of, nodes_but_left, all_visits, unknown_name, wrong_count}
pub use Rattle.rec_offences.specs.Scope.{Entry, symbol_entry, variable_entry, names_of, look_up, is_variable, visits, heads, own_entries}
pub use Rattle.rec_reader.specs.Grammar.{Any, none, next, Maybe, without, with, Section, absent, present, Listed, last, beside, with_comma, IsName, IsNames, IsDeclaration, declaration, IsVariables, variables, IsTerm, constant, call, IsArguments, only, more, IsTerms, IsCondition, condition, IsConditions, one, and, IsRule, plain, conditional, IsSpecification, specification, IsInput, input}
pub use Rattle.rec_reader.specs.Parsed.{Parsed}
pub use Rattle.rec_reader.specs.Tokens.{is_name_byte, tokens_of}
pub use Rattle.rec_reader.specs.Whole.{IsWhole, terms_after, IsWholeRule, HasWholeTerms}
pub use Rattle.rec_reader.specs.declared.syntax_tree.Declaration.{Declaration}
pub use Rattle.rec_reader.specs.declared.syntax_tree.Node.{Node}
pub use Rattle.rec_reader.specs.declared.syntax_tree.Specification.{Specification}
pub use Rattle.rec_reader.specs.declared.token.Name.{Name}
pub use Rattle.rec_reader.specs.declared.token.Token.{Token}
pub use Rattle.rewrite_model.specs.Rule.{Rule, Condition, IsNode, IsBelow, IsUnconditional}
pub use Rattle.rule_match.proofs.Numbering.{counted, below, count_in, count_with}
pub use Rattle.rule_match.specs.Planned.{IsPlain, HasSymbolsAlone, HasSides, IsFit, is_plain, is_item_below}
pub use Rattle.symbol_pool.specs.Pool.{named, Named, most_symbols, Lacks, Holds, IsPool}
pub use Rattle.term_model.proofs.Order.{only_postorder}
pub use Rattle.term_model.proofs.Subtrees.{root_is_last, all_heads}
pub use Rattle.term_model.specs.Postorder.{postorder, tree_of, push_item, push_items, push_over, take_trees}
pub use Rattle.term_model.specs.Tree.{Tree, root, IsGround, Leaf, Trees, End, More}
pub use Rattle.term_model.specs.declared.Item.{Item}
pub use Rattle.term_model.specs.declared.Item.TheVariants.{Var, App}
pub use Rattle.rec_check.specs.Conditional.{ifs_of, lesser, least_with, first_if}
pub use Rattle.rec_check.specs.Named.{with_names, with_name}
pub use Rattle.rec_check.specs.Rule.{variables_in, condition_in, rule_in, ◌>>=◌, sides_in}
pub use Rattle.rec_check.specs.Run.{MayBeRun, last_of, spelled_with, spelled_in}
pub use Rattle.rec_check.specs.Scope.{seen}
pub use Rattle.rec_check.specs.Spelled.{variables_of, terms_in, rules_in, Specified, nothing, with_few_rules, most_rules, spelled_by}
pub use Rattle.rec_check.specs.Symbols.{named_in, named_by, may_be_added, with_symbol, with_symbols, widest_of}
pub use Rattle.rec_check.specs.Term.{same_symbol, most_arguments, Scope, all_of, item_in, item_by, symbol_item, tree_in, after}
