-- Reading terms one token at a time: the whole terms so far, and the groups that are open.
use Rattle.std.specs.Prelude.{ℕ, Bool, true, false, List, [], ◌∷◌, ◌++◌, Option, Some, None, option_and_then}
use Rattle.term_syntax.specs.Token.{Token, Word, Number, At}
use Rattle.term_syntax.specs.declared.token.Mark.TheVariants as mark
use Rattle.term_syntax.specs.Written.{Written, Call, Digits, Listed, Writtens, End, More}

-- after a whole term or at the start, behind an opening bracket, where a term must come, or behind
-- a name that stands at a place
pub data Stage : Type 0 where
  Settled : Stage
  Bracketed : Stage
  Expected : Stage
  Headed : ℕ → List ℕ → Stage

-- parentheses behind a name, or brackets
pub data Opening : Type 0 where
  Called : ℕ → List ℕ → Opening
  Bracket : ℕ → Opening

-- a group that is open, and the whole terms in it
pub record Open : Type 0 where
  pub opening : Opening
  pub terms : List Written

-- the open groups, the innermost first, and the whole terms outside all groups
pub record Progress : Type 0 where
  pub stage : Stage
  pub groups : List Open
  pub finished : List Written

-- terms before others
abbrev pub joined : List Written → Writtens → Writtens
joined [] more = more
joined (w ∷ ws) more = More w (joined ws more)

-- the term that a group becomes with these terms in it
abbrev pub term_of : Opening → Writtens → Written
term_of (Called p n) ws = Call p n ws
term_of (Bracket p) ws = Listed p ws

-- a term is whole under these groups, after these terms
abbrev pub whole : List Open → List Written → Written → Progress
whole [] finished w = record { stage = Settled; groups = []; finished = finished ++ w ∷ [] }
whole (g ∷ gs) finished w =
    record {
      stage = Settled;
      groups = record { opening = g.opening; terms = g.terms ++ w ∷ [] }
          ∷ gs;
      finished = finished;
    }

-- a group opens
abbrev pub opened : Opening → Stage → Progress → Progress
opened opening stage m =
    record {
      stage = stage;
      groups = record { opening = opening; terms = [] } ∷ m.groups;
      finished = m.finished;
    }

-- what may come where a term begins: a name, a number or an opening bracket
abbrev pub on_term : Progress → Token → Option Progress
on_term m (Word n p) =
    Some (record { stage = Headed p n; groups = m.groups; finished = m.finished })
on_term m (Number v p) = Some (whole m.groups m.finished (Digits p v))
on_term m (At mark.OpenList p) = Some (opened (Bracket p) Bracketed m)
on_term m _ = None

-- a group closes over its terms
abbrev pub closed : Opening → List Written → List Open → List Written → Progress
closed opening terms gs finished = whole gs finished (term_of opening (joined terms End))

-- parentheses close, if the group is in parentheses
abbrev pub close_call : Opening → List Written → List Open → List Written → Option Progress
close_call (Called p n) terms gs finished = Some (closed (Called p n) terms gs finished)
close_call (Bracket p) terms gs finished = None

-- brackets close, if the group is in brackets
abbrev pub close_list : Opening → List Written → List Open → List Written → Option Progress
close_list (Called p n) terms gs finished = None
close_list (Bracket p) terms gs finished = Some (closed (Bracket p) terms gs finished)

-- what may come after a whole term, or at the start, under these groups
abbrev pub after_term_under : List Open → List Written → Token → Option Progress
after_term_under [] finished t =
    on_term (record { stage = Settled; groups = []; finished = finished }) t
after_term_under (g ∷ gs) finished (At mark.Comma p) =
    Some (record { stage = Expected; groups = g ∷ gs; finished = finished })
after_term_under (g ∷ gs) finished (At mark.Close p) = close_call g.opening g.terms gs finished
after_term_under (g ∷ gs) finished (At mark.CloseList p) = close_list g.opening g.terms gs finished
after_term_under (g ∷ gs) finished _ = None

-- what may come after a whole term, or at the start
abbrev pub after_term : Progress → Token → Option Progress
after_term m t = after_term_under m.groups m.finished t

-- what may come behind an opening bracket
abbrev pub in_brackets : Progress → Token → Option Progress
in_brackets m (At mark.CloseList p) = after_term m (At mark.CloseList p)
in_brackets m t = on_term m t

-- what may come behind a name
abbrev pub after_name : ℕ → List ℕ → Progress → Token → Option Progress
after_name p n m (At mark.Open q) = Some (opened (Called p n) Expected m)
after_name p n m t = after_term (whole m.groups m.finished (Call p n End)) t

-- what may come at a stage
abbrev pub step_at : Stage → Progress → Token → Option Progress
step_at Settled m t = after_term m t
step_at Bracketed m t = in_brackets m t
step_at Expected m t = on_term m t
step_at (Headed p n) m t = after_name p n m t

-- a name that stands last is a whole term
abbrev pub settled_at : Stage → Progress → Progress
settled_at (Headed p n) m = whole m.groups m.finished (Call p n End)
settled_at _ m = m

-- a name that stands last may be a whole term already: what follows is the same, but that no
-- parenthesis opens
abbrev pub settled_if : Bool → Progress → Progress
settled_if true m = settled_at m.stage m
settled_if false m = m

-- the step at a token, where it may come
abbrev pub step : Progress → Token → Option Progress
step m t = step_at m.stage m t

-- nothing was read
abbrev pub start : Progress
start = record { stage = Settled; groups = []; finished = [] }

-- the steps at these tokens, one after another
abbrev pub run : Progress → List Token → Option Progress
run m [] = Some m
run m (t ∷ ts) = option_and_then (λ n. run n ts) (step m t)

-- the terms at a stage and under these groups, where the input may end here
abbrev pub read_at : Stage → List Open → List Written → Option (List Written)
read_at Settled [] finished = Some finished
read_at (Headed p n) [] finished = Some (finished ++ Call p n End ∷ [])
read_at _ _ finished = None

-- the terms that were read, where the input may end here
abbrev pub all_read : Progress → Option (List Written)
all_read m = read_at m.stage m.groups m.finished
