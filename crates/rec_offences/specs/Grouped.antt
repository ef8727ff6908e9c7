-- The offences of a specification as they are noted, from what is at hand.
use Rattle.std.specs.Prelude.{ℕ, List, [], ◌∷◌, ◌++◌, map, not, take, slice_get}
use Rattle.std.specs.List.{filter, flat_map}
use Rattle.std.specs.Option.{option_map, option_map_or, option_to_list, option_and_then}
use Rattle.rec_reader.specs.declared.token.Name.{Name}
use Rattle.rec_reader.specs.declared.syntax_tree.Specification.{Specification}
use Rattle.rec_offences.specs.declared.entries.Verdict.{Verdict}
use Rattle.rec_offences.specs.declared.turn.Turn.{Turn}
use Rattle.faults.specs.declared.refusal.Refusal.{Refusal}
use Rattle.rec_includes.specs.Names.{is_among}
use Rattle.rec_offences.specs.Scope.{Entry, names_of, root}
use Rattle.rec_offences.specs.Offences.{Include, is_clashing, is_passing, unknown_sorts, repeated, bare_variables, free_variables, not_ground, is_long, names_in, names_in_declaration, first_past, unknown_names, wrong_counts, sort_clashes}
use Rattle.rec_offences.specs.Faults.{of_kind, offences_after}

-- what is wrong at an entry
abbrev pub verdict_of : List ℕ → List Specification → Include → Verdict
verdict_of bytes specifications i =
    record { entry = i.entry; is_clashing = is_clashing bytes specifications i; is_passing = is_passing specifications i }

-- the entries that bring a name from another declaration, and those with which the limit is passed
abbrev pub clashing_entries : List Verdict → List Name
clashing_entries verdicts = map (λ v. v.entry) (filter (λ v. v.is_clashing) verdicts)

abbrev pub passing_entries : List Verdict → List Name
passing_entries verdicts = map (λ v. v.entry) (filter (λ v. v.is_passing) verdicts)

-- the names in declarations that are too long, which are noted before all else
abbrev pub long_declared : List ℕ → List Specification → List Refusal
long_declared bytes specifications = flat_map (λ s. of_kind 13 (filter (is_long bytes) (flat_map names_in_declaration s.declarations))) specifications

abbrev pub repeated_group : List ℕ → (headers : List Name) → List Verdict → (entries own : List Entry) → Specification → List Name
repeated_group bytes headers verdicts entries own s =
    filter (is_among bytes headers) (s.name ∷ [])
    ++ repeated bytes [] s.sorts
    ++ repeated bytes (names_of entries) (names_of own)
    ++ clashing_entries verdicts

unfoldable pub declared_group : List ℕ → (headers : List Name) → List Verdict → (sorts : List Name) → (entries own : List Entry) → Specification → List Refusal
declared_group bytes headers verdicts sorts entries own s =
    of_kind 4 (unknown_sorts bytes (sorts ++ s.sorts) s) ++ of_kind 6 (repeated_group bytes headers verdicts entries own s)

abbrev pub limits_group : List ℕ → (symbols_before rules_before : ℕ) → List Verdict → (symbols : List Entry) → Specification → List Name
limits_group bytes symbols_before rules_before verdicts symbols s =
    filter (is_long bytes) (names_in s)
    ++ flat_map (λ d. option_to_list (slice_get d.arguments 16)) s.declarations
    ++ option_to_list (option_map (λ e. e.declared.name) (first_past symbols_before symbols))
    ++ option_to_list (option_and_then (λ r. root r.left) (first_past rules_before s.rules))
    ++ option_to_list (option_and_then root (first_past 0 s.terms))
    ++ passing_entries verdicts

unfoldable pub used_group : List ℕ → (headers : List Name) → (symbols_before rules_before : ℕ) → List Verdict → (symbols entries : List Entry) → Specification → List Refusal
used_group bytes headers symbols_before rules_before verdicts symbols entries s =
    of_kind 9 (bare_variables bytes entries s)
    ++ of_kind 10 (free_variables bytes entries s)
    ++ of_kind 11 (not_ground bytes entries s)
    ++ of_kind 12 (filter (λ n. not (is_among bytes headers n)) s.includes)
    ++ of_kind 13 (limits_group bytes symbols_before rules_before verdicts symbols s)
    ++ of_kind 5 (unknown_names bytes entries s)
    ++ of_kind 7 (wrong_counts bytes entries s)
    ++ of_kind 8 (sort_clashes bytes entries s)

-- the names of the headers before the specification whose turn it is
abbrev pub earlier_headers : Turn → List Name
earlier_headers t = take t.number t.headers.now.names

-- what is repeated in it, where these names are included and these are its own
abbrev pub repeated_at : Turn → (entries own : List Entry) → List Name
repeated_at t entries own = repeated_group t.headers.now.bytes (earlier_headers t) t.verdicts.now entries own t.specification.now

-- what is wrong with its declarations, where these sorts and names are included
abbrev pub declared_at : Turn → (sorts : List Name) → (entries own : List Entry) → List Refusal
declared_at t sorts entries own = declared_group t.headers.now.bytes (earlier_headers t) t.verdicts.now sorts entries own t.specification.now

-- what passes the limits in it, where so many symbols and rules are included and these symbols are its own
abbrev pub limits_at : Turn → (symbols_before rules_before : ℕ) → (symbols : List Entry) → List Name
limits_at t symbols_before rules_before symbols = limits_group t.headers.now.bytes symbols_before rules_before t.verdicts.now symbols t.specification.now

-- what else is wrong with it, where names are declared so
abbrev pub used_at : Turn → (symbols_before rules_before : ℕ) → (symbols entries : List Entry) → List Refusal
used_at t symbols_before rules_before symbols entries =
    used_group t.headers.now.bytes (earlier_headers t) symbols_before rules_before t.verdicts.now symbols entries t.specification.now

-- the offences of the specification with this number
abbrev pub offences_at : List ℕ → List Specification → ℕ → List Refusal
offences_at bytes specifications number =
    option_map_or (λ s. offences_after bytes (take number specifications) s) (slice_get specifications number) []
