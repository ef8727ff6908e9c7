-- Where a replay stands: frames from the root on, each a node and the number of its argument below,
-- and what stands at their end.
use Rattle.std.specs.Prelude.{◌≡◌, ℕ, zero, suc, ◌<◌, List, [], ◌∷◌, ◌++◌, length, map, Option, Some, None, All, Bool, true, false, option_and_then, if◌then◌else◌}
use Rattle.std.specs.Option.{option_map}
use Rattle.term_model.specs.Tree.{Tree, Leaf, Node, Trees, End, More, arguments}
use Rattle.rewrite_model.specs.Rule.{Rule}
use Rattle.rewrite_model.specs.Derivation.{replace_at}
use Rattle.rewrite_model.specs.Replay.{has, above}
use Rattle.rewrite_model.specs.declared.event.Event.{Event}
use Rattle.rewrite_model.specs.declared.event.Event.TheVariants as event
use Rattle.run_checks.specs.Form.{event_in}
use Rattle.run_checks.specs.declared.cursor.Cursor.{Cursor}
use Rattle.run_checks.specs.declared.cursor.Frame.{Frame}
use Rattle.run_checks.specs.Held.{Held, Grows, IsThere, term_at}

-- the trees with another one in the place of an argument, counted from 0
abbrev pub put_in : ℕ → Tree → Trees → Trees
put_in j u End = End
put_in zero u (More t ts) = More u ts
put_in (suc j) u (More t ts) = More t (put_in j u ts)

abbrev pub with_argument : ℕ → Tree → Tree → Tree
with_argument j (Leaf x) u = Leaf x
with_argument j (Node h ts) u = Node h (put_in j u ts)

pub record Framed : Type 0 where
  pub tree : Tree
  pub argument : ℕ

-- the whole term, with a tree at the end of the frames
abbrev pub whole : List Framed → Tree → Tree
whole [] t = t
whole (f ∷ fs) t = with_argument f.argument f.tree (whole fs t)

-- each frame's node has that argument
abbrev pub AreFrames : List Framed → Type 0
AreFrames [] = Unit {0}
AreFrames (f ∷ fs) = (f.argument < length (arguments f.tree)) × AreFrames fs

-- the position at the end of the frames, where arguments are counted from 1
abbrev pub position : List Framed → List ℕ
position fs = map (λ f. suc f.argument) fs

-- a term, and a position in it
pub record Place : Type 0 where
  pub term : Tree
  pub position : List ℕ

abbrev pub at_root : Tree → Place
at_root t = record { term = t; position = [] }

-- to an argument, counted from 1, where it is there
abbrev pub down : ℕ → Place → Option Place
down n s = if has (s.position ++ n ∷ []) s.term
    then Some (record { term = s.term; position = s.position ++ n ∷ [] }) else None

abbrev pub up : Place → Option Place
up s = option_map (λ p. record { term = s.term; position = p }) (above s.position)

abbrev pub used : List Rule → ℕ → Place → Option Place
used rules k s = option_map (λ t. record { term = t; position = s.position })
    (replace_at rules s.position k s.term)

-- where an event leads to; none where it isn't possible
abbrev pub after : List Rule → Event → Place → Option Place
after rules (event.Down n) s = down n s
after rules event.Up s = up s
after rules (event.Rule k) s = used rules k s

-- where the event that a word spells leads to
abbrev pub led : List Rule → List ℕ → Place → Option Place
led rules word s = option_and_then (λ e. after rules e s) (event_in word)

-- frames in a table of terms
abbrev pub framed : Held → Frame → Framed
framed h f = record { tree = term_at h f.number; argument = f.argument }

abbrev pub frames_of : Held → Cursor → List Framed
frames_of h c = map (framed h) c.frames.items

abbrev pub whole_of : Held → Cursor → Tree
whole_of h c = whole (frames_of h c) (term_at h c.number)

abbrev pub place_of : Held → Cursor → Place
place_of h c = record { term = whole_of h c; position = position (frames_of h c) }

pub record IsStanding (h : Held) (c : Cursor) : Type 0 where
  pub frames : AreFrames (frames_of h c)
  pub frames_there : All (λ f. IsThere h f.number) c.frames.items
  pub there : IsThere h c.number

-- it stands at this place, while the table grew
pub record StandsAt (old new : Held) (c : Cursor) (s : Place) : Type 0 where
  pub grows : Grows old new
  pub standing : IsStanding new c
  pub place : place_of new c ≡ s

-- an event that was possible led to this place; else there is none
abbrev pub Leads : Held → Held → Cursor → Option Place → Bool → Type 0
Leads old new c o false = o ≡ None
Leads old new c None true = ⊥
Leads old new c (Some s) true = StandsAt old new c s
