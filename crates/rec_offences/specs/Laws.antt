-- What is true of the fault of an input.
use Rattle.std.specs.Prelude.{◌≡◌, List, [], ◌∷◌, ◌++◌, Some, None, false, Contains, All, length, map}
use Rattle.std.specs.List.{flat_map}
use Rattle.rec_reader.specs.declared.syntax_tree.Node.{Node}
use Rattle.rec_reader.specs.Whole.{IsWhole}
use Rattle.rec_reader.specs.Parsed.{Parsed}
use Rattle.faults.specs.declared.refusal.Refusal.{Refusal}
use Rattle.rec_offences.specs.Scope.{visit, visits}
use Rattle.rec_offences.specs.Faults.{offences_of, goes_before, fault_of}

-- one of the offences, and none of them goes before it
pub record IsLeastOf (offences : List Refusal) (offence : Refusal) : Type 0 where
  pub one : Contains offences offence
  pub least : (other : Refusal) → Contains offences other → goes_before other offence ≡ false

-- The fault of an input is the least of its offences.
abbrev pub FaultIsLeast : Type 0
FaultIsLeast = (syntax : Parsed) (fault : Refusal) → fault_of syntax ≡ Some fault → IsLeastOf (offences_of syntax) fault

-- An input without a fault has no offence.
abbrev pub FaultlessHasNoOffence : Type 0
FaultlessHasNoOffence = (syntax : Parsed) → fault_of syntax ≡ None → offences_of syntax ≡ []

-- an argument of a head: the nodes before that of its own head, and that
pub record Argument : Type 0 where
  pub before : List Node
  pub last : Node

abbrev pub nodes_of : Argument → List Node
nodes_of a = a.before ++ a.last ∷ []

-- The visits of a head over whole terms are those of the terms, one after another, and then the head's with the heads
-- of the terms: the j-th of these is that of the j-th argument.
abbrev pub VisitsAreOfArguments : Type 0
VisitsAreOfArguments =
    (node : Node) (arguments : List Argument) → All (λ a. IsWhole (nodes_of a)) arguments → node.count ≡ length arguments →
    visits [] (flat_map nodes_of arguments ++ node ∷ [])
    ≡ flat_map (λ a. visits [] (nodes_of a)) arguments ++ visit node (map (λ a. a.last.head) arguments) ∷ []
