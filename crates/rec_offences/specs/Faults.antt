-- All offences of an input, and its fault, the least of them.
use Rattle.std.specs.Prelude.{ℕ, List, [], ◌∷◌, ◌++◌, Bool, ◌&&◌, ◌||◌, ◌==◌, Option, Some, None, nat_lt, map, fold, if◌then◌else◌}
use Rattle.rec_reader.specs.declared.token.Name.{Name}
use Rattle.rec_reader.specs.declared.syntax_tree.Specification.{Specification}
use Rattle.rec_reader.specs.Parsed.{Parsed}
use Rattle.faults.specs.declared.refusal.Refusal.{Refusal}
use Rattle.rec_includes.specs.Material.{Header, headers_of, included, symbols_of, sorts_of}
use Rattle.rec_offences.specs.Scope.{Entry, symbol_entry, own_entries, names_of}
use Rattle.rec_offences.specs.Offences.{includes_from, unknown_sorts, unknown_names, repeated_names, wrong_counts, sort_clashes, bare_variables, free_variables, not_ground, unknown_includes, past_limits}

abbrev pub offence_at : ℕ → Name → Refusal
offence_at kind n = record { kind = kind; place = n.start }

-- offences of this kind at these names
abbrev pub of_kind : ℕ → List Name → List Refusal
of_kind kind names = map (offence_at kind) names

-- the included symbols
abbrev pub included_entries : List Specification → List ℕ → List Entry
included_entries earlier material = map symbol_entry (symbols_of earlier material)

-- the offences of a specification's declarations after these earlier ones, where this is the included material
abbrev pub offences_declared : List ℕ → List Specification → List Header → (material : List ℕ) → Specification → List Refusal
offences_declared bytes earlier headers material s =
    of_kind 4 (unknown_sorts bytes (sorts_of earlier material ++ s.sorts) s)
    ++ of_kind 6 (repeated_names bytes earlier headers (names_of (included_entries earlier material)) (includes_from bytes headers [] s.includes) s)

-- its other offences, where names are declared so
abbrev pub offences_used : List ℕ → List Specification → List Header → (material : List ℕ) → List Entry → Specification → List Refusal
offences_used bytes earlier headers material entries s =
    of_kind 9 (bare_variables bytes entries s)
    ++ of_kind 10 (free_variables bytes entries s)
    ++ of_kind 11 (not_ground bytes entries s)
    ++ of_kind 12 (unknown_includes bytes headers s)
    ++ of_kind 13 (past_limits bytes earlier material (includes_from bytes headers [] s.includes) s)
    ++ of_kind 5 (unknown_names bytes entries s)
    ++ of_kind 7 (wrong_counts bytes entries s)
    ++ of_kind 8 (sort_clashes bytes entries s)

-- the offences of a specification after these earlier ones, where this is the included material
unfoldable pub offences_over : List ℕ → List Specification → List Header → (material : List ℕ) → Specification → List Refusal
offences_over bytes earlier headers material s =
    offences_declared bytes earlier headers material s
    ++ offences_used bytes earlier headers material (included_entries earlier material ++ own_entries s) s

-- the offences of a specification after these earlier ones
abbrev pub offences_after : List ℕ → List Specification → Specification → List Refusal
offences_after bytes earlier s =
    let headers = headers_of bytes earlier in
    offences_over bytes earlier headers (included bytes headers s.includes) s

-- the offences of specifications that come after these earlier ones
abbrev pub offences_from : List ℕ → (earlier : List Specification) → List Specification → List Refusal
offences_from bytes earlier [] = []
offences_from bytes earlier (s ∷ ss) = offences_after bytes earlier s ++ offences_from bytes (earlier ++ s ∷ []) ss

-- all offences of an input
abbrev pub offences_of : Parsed → List Refusal
offences_of syntax = offences_from syntax.bytes [] syntax.specifications

-- one goes before another: its place is less, or its kind at the same place
abbrev pub goes_before : Refusal → Refusal → Bool
goes_before a b = nat_lt a.place b.place || (a.place == b.place && nat_lt a.kind b.kind)

-- the lesser of what was found and one more
abbrev pub lesser : Option Refusal → Refusal → Option Refusal
lesser None offence = Some offence
lesser (Some found) offence = if goes_before offence found then Some offence else Some found

-- the least of what was found and more
abbrev pub least_with : Option Refusal → List Refusal → Option Refusal
least_with found offences = fold lesser found offences

abbrev pub fault_of : Parsed → Option Refusal
fault_of syntax = least_with None (offences_of syntax)
