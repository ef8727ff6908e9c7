-- The first condition of the rules that are run.
use Rattle.std.specs.Prelude.{◌≡◌, ℕ, ◌-◌, min, List, [], ◌∷◌, length, Option, Some, None}
use Rattle.std.specs.Option.{option_to_list}
use Rattle.std.specs.List.{flat_map}
use Rattle.rec_reader.specs.Parsed.{Parsed}
use Rattle.rec_reader.specs.declared.syntax_tree.Rule.{Rule}
use Rattle.read_faults.specs.declared.fail.ReadFail.{ReadFail}
use Rattle.read_faults.specs.declared.fail.ReadFail.TheVariants.{Refused, Memory}
use Rattle.rec_includes.specs.Material.{material_of, rules_of}

-- the rules that are run: those of the material of the last specification, included ones first and its own last;
-- none where there are no specifications
abbrev pub run_rules : Parsed → List Rule
run_rules s = rules_of s.specifications (material_of s.bytes s.specifications (length s.specifications - 1))

-- the places of `if` in rules
abbrev pub ifs_of : List Rule → List ℕ
ifs_of rules = flat_map (λ r. option_to_list r.condition_at) rules

-- the lesser of what was found and one more
abbrev pub lesser : Option ℕ → ℕ → Option ℕ
lesser None n = Some n
lesser (Some m) n = Some (min m n)

-- the least of what was found and more
abbrev pub least_with : Option ℕ → List ℕ → Option ℕ
least_with found [] = found
least_with found (n ∷ ns) = least_with (lesser found n) ns

-- the first `if` in the input among the rules that are run
abbrev pub first_if : Parsed → Option ℕ
first_if s = least_with None (ifs_of (run_rules s))

-- the refusal has kind 19 and is at this place; want of memory is free
abbrev pub IsConditional : Option ℕ → ReadFail → Type 0
IsConditional first (Refused kind offset) = (kind ≡ 19) × (first ≡ Some offset)
IsConditional first Memory = Unit {0}
