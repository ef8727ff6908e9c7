-- What building and copying do at each token of a text.
use Rattle.std.specs.Prelude.{ℕ, ◌+◌, ◌-◌, List, [], ◌∷◌, ◌++◌, length, take, drop, nat_le, nat_lt, not, ◌&&◌, Bool, true, false, if◌then◌else◌, Option, Some, None, option_and_then}
use Rattle.sequences.specs.Lists.{is_nil}
use Rattle.term_model.specs.Tree as tree
use Rattle.term_model.specs.Tree.{Tree, Node, trees_of}
use Rattle.term_model.specs.declared.Head.TheVariants.{App, Int}
use Rattle.symbol_pool.specs.Pool.{Named, named}
use Rattle.symbol_pool.specs.Taking.{number_of, with_symbol, is_full_for}
use Rattle.tree_text.specs.Canonical.{is_plain}
use Rattle.terms_api.specs.Terms.{last, but_last}
use Rattle.term_syntax.specs.declared.token.Shape.{Shape}
use Rattle.term_syntax.specs.declared.token.Shape.TheVariants.{Word, Quoted, Number, At}
use Rattle.term_syntax.specs.declared.token.Mark.TheVariants.{Open, Close, OpenList, CloseList, Comma}
use Rattle.term_syntax.specs.Shown.{quoted_at, value_at}
use Rattle.term_building.specs.declared.builder.Builder.{Builder}
use Rattle.term_building.specs.declared.groups.Group.{Group}
use Rattle.term_building.specs.declared.groups.Heading.{Heading}
use Rattle.term_building.specs.Copying.{copied}
use Rattle.term_building.specs.Groups.{under}
use Rattle.term_building.specs.Stages.{Stage, Settled, Bracketed, Expected, Headed, stage_of}
use Rattle.term_building.specs.Trees.{list_tree}

-- where reading stands, the open groups, what was written, from where on the text is copied, the
-- symbols, and the trees on the stack
pub record State : Type 0 where
  pub stage : Stage
  pub groups : List Group
  pub written : List ℕ
  pub from : ℕ
  pub symbols : List Named
  pub trees : List Tree

-- the state of a builder, with these trees on the stack
abbrev pub state_of : Builder → List Tree → State
state_of b ts = record {
  stage = stage_of b.stage b.heading;
  groups = b.groups;
  written = b.lines.written.items;
  from = b.lines.from;
  symbols = b.symbols;
  trees = ts;
}

-- the same state at another stage
abbrev pub staged : Stage → State → State
staged stage s = record s { stage = stage }

-- a group opens after the trees that are there
abbrev pub opened : Option Heading → Stage → State → State
opened heading stage s =
    record s {
      stage = stage;
      groups = record { heading = heading; base = length s.trees } ∷ s.groups;
    }

-- so many trees stand in a group
abbrev pub count_in : Group → State → ℕ
count_in g s = length s.trees - g.base

-- a name with so many arguments may be a symbol
abbrev pub may_call : List ℕ → ℕ → State → Bool
may_call name n s =
    not (nat_lt 255 (length name)) && (not (is_full_for s.symbols (named name n)) && nat_le n 16)

-- a tree with a name over the last so many
abbrev pub called : List ℕ → ℕ → State → State
called name n s =
    let symbols = with_symbol s.symbols (named name n) in
    let head = App (record { 0 = number_of symbols (named name n) }) in
    record s {
      symbols = symbols;
      trees = but_last n s.trees ++ Node head (trees_of (last n s.trees)) ∷ [];
    }

-- the plain name between two places
abbrev pub name_at : ℕ → ℕ → Heading
name_at place end = record { place = place; end = end; quoted = false }

-- the name that stands in the text
abbrev pub name_in : List ℕ → Heading → List ℕ
name_in text h =
    if h.quoted then quoted_at text h.place else take (h.end - h.place) (drop h.place text)

-- a tree with a name over the last so many, where it may be a symbol
abbrev pub call_named : List ℕ → ℕ → State → Option State
call_named name n s = if may_call name n s then Some (called name n s) else None

-- the same of a name that stands in the text
abbrev pub call : List ℕ → Heading → ℕ → State → Option State
call text h n s = call_named (name_in text h) n s

-- a list of the last so many trees
abbrev pub listed : ℕ → State → State
listed n s = record s { trees = but_last n s.trees ++ list_tree (last n s.trees) ∷ [] }

-- the byte at a place is left out
abbrev pub left_out : List ℕ → ℕ → State → State
left_out text at s = record s { written = copied text at s.written s.from; from = at + 1 }

-- the line ends before a place
abbrev pub line_ended : List ℕ → ℕ → State → State
line_ended text at s = record s { written = copied text at s.written s.from ++ 10 ∷ []; from = at }

-- a term is whole under these groups, which ends before a place: outside all groups the line ends
abbrev pub ended_under : List Group → List ℕ → ℕ → State → State
ended_under [] text at s = record (line_ended text at s) { stage = Settled }
ended_under (g ∷ gs) text at s = record s { stage = Settled }

-- a term is whole, which ends before a place
abbrev pub ended : List ℕ → ℕ → State → State
ended text at s = ended_under s.groups text at s

-- a name was read, which stands between two places, in quotes or not
abbrev pub headed : ℕ → ℕ → Bool → State → State
headed place end quoted s =
    record s { stage = Headed (record { place = place; end = end; quoted = quoted }) }

-- a name in place of the bytes between two places
abbrev pub replaced : List ℕ → ℕ → List ℕ → ℕ → State → State
replaced text place name end s =
    record s { written = copied text place s.written s.from ++ name; from = end }

-- a name in quotes comes, which is written plain where it can be
abbrev pub on_quoted : List ℕ → ℕ → ℕ → State → State
on_quoted text place end s =
    headed place end true
    (if is_plain (quoted_at text place)
    then replaced text place (quoted_at text place) end s else s)

-- an integer stands behind the trees
abbrev pub with_integer : ℕ → State → State
with_integer v s = record s { trees = s.trees ++ Node (Int v) tree.End ∷ [] }

-- a number comes, where it has a value
abbrev pub on_value : List ℕ → ℕ → Option ℕ → State → Option State
on_value text end (Some v) s = Some (ended text end (with_integer v s))
on_value text end None s = None

-- what may come where a term begins: a name, a number or an opening bracket
abbrev pub on_term : List ℕ → ℕ → ℕ → Shape → State → Option State
on_term text place end Word s = Some (headed place end false s)
on_term text place end Quoted s = Some (on_quoted text place end s)
on_term text place end Number s = on_value text end (value_at text place) s
on_term text place end (At OpenList) s = Some (opened None Bracketed s)
on_term text place end (At _) s = None

-- the innermost group is no longer open
abbrev pub without : State → State
without s = record s { groups = under s.groups }

-- parentheses close over the last so many trees, if the group has a heading
abbrev pub close_call : List ℕ → ℕ → Option Heading → ℕ → State → Option State
close_call text end (Some h) n s =
    option_and_then (λ k. Some (ended text end (without k))) (call text h n s)
close_call text end None n s = None

-- brackets close over the last so many trees, if the group has no heading
abbrev pub close_list : List ℕ → ℕ → Option Heading → ℕ → State → Option State
close_list text end (Some h) n s = None
close_list text end None n s = Some (ended text end (without (listed n s)))

-- what may come after a term in a group
abbrev pub in_group : List ℕ → ℕ → Group → Shape → State → Option State
in_group text end g (At Comma) s = Some (staged Expected s)
in_group text end g (At Close) s = close_call text end g.heading (count_in g s) s
in_group text end g (At CloseList) s = close_list text end g.heading (count_in g s) s
in_group text end g _ s = None

-- what may come after a whole term, or at the start, under these groups
abbrev pub after_term_under : List Group → List ℕ → ℕ → ℕ → Shape → State → Option State
after_term_under [] text place end shape s = on_term text place end shape s
after_term_under (g ∷ gs) text place end shape s = in_group text end g shape s

-- what may come after a whole term, or at the start
abbrev pub after_term : List ℕ → ℕ → ℕ → Shape → State → Option State
after_term text place end shape s = after_term_under s.groups text place end shape s

-- what may come behind an opening bracket
abbrev pub in_brackets : List ℕ → ℕ → ℕ → Shape → State → Option State
in_brackets text place end (At CloseList) s = after_term text place end (At CloseList) s
in_brackets text place end shape s = on_term text place end shape s

-- a name was a whole term, which ends before a place
abbrev pub settled : List ℕ → Heading → ℕ → State → Option State
settled text h at s = option_and_then (λ k. Some (ended text at k)) (call text h 0 s)

-- what may come behind a name
abbrev pub after_name : List ℕ → Heading → ℕ → ℕ → Shape → State → Option State
after_name text h place end (At Open) s = Some (opened (Some h) Expected s)
after_name text h place end shape s =
    option_and_then (λ k. after_term text place end shape k) (settled text h place s)

-- a term may begin at this stage and under these groups
abbrev pub may_begin : Stage → List Group → Bool
may_begin Settled gs = is_nil gs
may_begin Bracketed gs = true
may_begin Expected gs = true
may_begin (Headed h) gs = false

-- what may come at a stage
abbrev pub step_at : Stage → List ℕ → ℕ → ℕ → Shape → State → Option State
step_at Settled text place end shape s = after_term text place end shape s
step_at Bracketed text place end shape s = in_brackets text place end shape s
step_at Expected text place end shape s = on_term text place end shape s
step_at (Headed h) text place end shape s = after_name text h place end shape s

-- the step at a token from a place to its end, where it may come
abbrev pub step : List ℕ → ℕ → ℕ → Shape → State → Option State
step text place end shape s = step_at s.stage text place end shape s

-- a name that stands last is a whole term
abbrev pub settled_at : Stage → List ℕ → State → Option State
settled_at (Headed h) text s = settled text h (length text) s
settled_at Settled text s = Some s
settled_at Bracketed text s = Some s
settled_at Expected text s = Some s
