-- What is wrong at a node, of all kinds at once, and the free variables of a rule.
use Rattle.std.specs.Prelude.{ℕ, List, Bool, ◌++◌, ◌&&◌, not}
use Rattle.std.specs.List.{filter}
use Rattle.rec_reader.specs.declared.token.Name.{Name}
use Rattle.rec_reader.specs.declared.syntax_tree.Rule.{Rule}
use Rattle.faults.specs.declared.refusal.Refusal.{Refusal}
use Rattle.rec_includes.specs.Names.{is_among}
use Rattle.rec_offences.specs.Scope.{Entry, Visit, is_variable, heads}
use Rattle.rec_offences.specs.Offences.{unknown_name, wrong_count, clashing_arguments, nodes_but_left}
use Rattle.rec_offences.specs.Faults.{of_kind}
use Rattle.rec_includes.specs.Listing.{Listing}
use Rattle.rec_offences.specs.Known.{Known}

abbrev pub at_visit : List ℕ → List Entry → Visit → List Refusal
at_visit bytes entries v =
    of_kind 5 (unknown_name bytes entries v) ++ of_kind 7 (wrong_count bytes entries v) ++ of_kind 8 (clashing_arguments bytes entries v)

-- the name is that of a variable, and isn't among these
abbrev pub is_free : Known → (left : Listing) → Name → Bool
is_free scope left = λ n. is_variable scope.bytes scope.entries n && not (is_among left.bytes left.names n)

abbrev pub free_variables_of : (text bytes : List ℕ) → List Entry → Rule → List Name
free_variables_of text bytes entries r =
    filter (λ n. is_variable bytes entries n && not (is_among text (heads r.left) n)) (heads (nodes_but_left r))
