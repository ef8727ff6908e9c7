-- What reading does at each token.
use Rattle.std.specs.Prelude.{◌≡◌, ℕ, ◌+◌, List, [], ◌∷◌, ◌++◌, length, Option, Some, None, Bool, true, false, ◌&&◌, ◌==◌, Result, Ok, Err, option_and_then}
use Rattle.term_syntax.specs.Token.{Token, Word, Number, At}
use Rattle.term_syntax.specs.declared.token.Mark.TheVariants.{Open, Close, OpenList, CloseList, Comma}
use Rattle.term_syntax.specs.State.{Kind, Symbol, Integer, Brackets, Part, Machine}
use Rattle.term_syntax.specs.declared.machine.Node.{Node}
use Rattle.term_syntax.specs.declared.machine.Group.{Group}
use Rattle.term_syntax.specs.declared.machine.Place.{Place}
use Rattle.term_syntax.specs.declared.machine.Place.TheVariants.{Settled, Bracketed, Expected, Headed}
use Rattle.read_faults.specs.declared.not_taken.NotTaken.{NotTaken}
use Rattle.read_faults.specs.declared.not_taken.NotTaken.TheVariants as not_taken
use Rattle.term_syntax.specs.Counts.{with_count}
use Rattle.term_syntax.specs.Written.{Written}
use Rattle.term_syntax.specs.TermGrammar.{IsInput}
use Rattle.term_syntax.specs.Refusal.{place_of}
use Rattle.term_syntax.specs.Parts.{parts_of_input}
use Rattle.term_syntax.specs.Nodes.{nodes_of_input}

abbrev pub at : Machine → Place → Option Machine
at m place = Some (record m { place = place })

-- a term that begins under these groups is the 17th argument of a name
abbrev pub is_over : List Group → Bool
is_over [] = false
is_over (g ∷ gs) = g.called && g.count == 16

-- a term begins
abbrev pub begin : ℕ → Kind → Machine → Machine
begin place kind m =
    record m {
      parts = m.parts
          ++ record { place = place; over = is_over m.groups; kind = kind; count = 0 } ∷ [];
    }

-- a term began, with this number, or there was no memory
abbrev pub Begins : Machine → ℕ → Kind → Result ℕ NotTaken → Machine → Type 0
Begins old place kind (Ok part) new = (part ≡ length old.parts) × (new ≡ begin place kind old)
Begins old place kind (Err not_taken.Unexpected) new = ⊥
Begins old place kind (Err not_taken.Memory) new = Unit {0}

abbrev pub open_group : Bool → ℕ → Place → Machine → Option Machine
open_group called part place m =
    at (record m { groups = record { called = called; part = part; count = 0 } ∷ m.groups }) place

-- a term is whole: no argument and no element, or one more in its group
abbrev pub end_under : List Group → Machine → Machine
end_under [] m =
    record m { place = Settled; groups = []; nodes = []; terms = m.terms ++ m.nodes ∷ [] }
end_under (g ∷ gs) m = record m { place = Settled; groups = record g { count = g.count + 1 } ∷ gs }

abbrev pub ended : ℕ → ℕ → Machine → Machine
ended part cells m =
    end_under m.groups (record m { nodes = m.nodes ++ record { part = part; cells = cells } ∷ [] })

abbrev pub end : ℕ → ℕ → Machine → Option Machine
end part cells m = Some (ended part cells m)

-- a name comes
abbrev pub headed : Machine → ℕ → Kind → Option Machine
headed m place kind = at (begin place kind m) (Headed (length m.parts))

abbrev pub on_term : Machine → Token → Option Machine
on_term m (Word n p) = headed m p (Symbol n)
on_term m (Number v p) = end (length m.parts) 0 (begin p (Integer v) m)
on_term m (At OpenList p) = open_group false (length m.parts) Bracketed (begin p Brackets m)
on_term m _ = None

-- so many terms stand in a group
abbrev pub counted : Group → Machine → Machine
counted g m = record m { parts = with_count m.parts g.part g.count }

-- a group closes, which is no longer open
abbrev pub close : Group → ℕ → Machine → Option Machine
close g cells m = end g.part cells (counted g m)

abbrev pub close_call : Bool → Group → Machine → Option Machine
close_call true g m = close g 0 m
close_call false g m = None

abbrev pub close_list : Bool → Group → Machine → Option Machine
close_list true g m = None
close_list false g m = close g g.count m

-- what may come after a term in a group, which is no longer open
abbrev pub in_group : Group → Machine → Token → Option Machine
in_group g m (At Comma p) = at (record m { groups = g ∷ m.groups }) Expected
in_group g m (At Close p) = close_call g.called g m
in_group g m (At CloseList p) = close_list g.called g m
in_group g m _ = None

-- what may come after a whole term, or at the start
abbrev pub after_term_under : List Group → Machine → Token → Option Machine
after_term_under [] m t = on_term (record m { groups = [] }) t
after_term_under (g ∷ gs) m t = in_group g (record m { groups = gs }) t

abbrev pub after_term : Machine → Token → Option Machine
after_term m t = after_term_under m.groups m t

-- what may come behind an opening bracket
abbrev pub in_brackets : Machine → Token → Option Machine
in_brackets m (At CloseList p) = after_term m (At CloseList p)
in_brackets m t = on_term m t

-- what may come behind a name
abbrev pub after_name : ℕ → Machine → Token → Option Machine
after_name part m (At Open p) = open_group true part Expected m
after_name part m t = after_term (ended part 0 m) t

abbrev pub step_at : Place → Machine → Token → Option Machine
step_at Settled m t = after_term m t
step_at Bracketed m t = in_brackets m t
step_at Expected m t = on_term m t
step_at (Headed part) m t = after_name part m t

abbrev pub step : Machine → Token → Option Machine
step m t = step_at m.place m t

-- nothing was read
abbrev pub start : Machine
start = record { place = Settled; groups = []; parts = []; nodes = []; terms = [] }

-- the steps at these tokens, one after another
abbrev pub run : Machine → List Token → Option Machine
run m [] = Some m
run m (t ∷ ts) = option_and_then (λ n. run n ts) (step m t)

-- a name that stands last is a whole term
abbrev pub settled_at : Place → Machine → Machine
settled_at (Headed part) m = ended part 0 m
settled_at Settled m = m
settled_at Bracketed m = m
settled_at Expected m = m

abbrev pub settled : Machine → Option Machine
settled m = Some (settled_at m.place m)

-- the parts and the terms, where the input may end at this place
abbrev pub accepted_at : Place → List Group → Machine → Option (List Part × List (List Node))
accepted_at Settled [] m = Some (m.parts, m.terms)
accepted_at Settled (g ∷ gs) m = None
accepted_at Bracketed gs m = None
accepted_at Expected gs m = None
accepted_at (Headed part) gs m = None

abbrev pub accepted : Machine → Option (List Part × List (List Node))
accepted m = accepted_at m.place m.groups m

-- there is no step at a token, which is at this place
pub record StopsAt (tokens : List Token) (offset : ℕ) : Type 0 where
  pub before : List Token
  pub token : Token
  pub after : List Token
  pub is : tokens ≡ before ++ token ∷ after
  pub machine : Machine
  pub reached : run start before ≡ Some machine
  pub stops : step machine token ≡ None
  pub place : offset ≡ place_of token

-- the parts and the nodes of the terms that the tokens spell
abbrev pub IsRead : List Token → List Part × List (List Node) → Type 0
IsRead tokens read =
    (ws : List Written) × IsInput tokens ws × (read ≡ (parts_of_input ws, nodes_of_input 0 ws))
