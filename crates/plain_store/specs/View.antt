-- What contracts see of a store: its fields, and what its history comes to.
use Rattle.std.specs.Prelude.{◌≡◌, ◌≤◌, List, [], ◌∷◌, length}
use Rattle.term_model.specs.declared.Row.{Row}
use Rattle.terms_api.specs.Terms.{IsSound}
use Rattle.plain_store.specs.declared.event.Event.{Event}
use Rattle.plain_store.specs.declared.store.PlainStore.TheInside.{Inside}
use Rattle.plain_store.specs.Contents.{Past, at_first, after, Contents, store_of}
use Rattle.plain_store.specs.Agreement.{Agree}

-- what all that happened comes to, with the stack at each moment
abbrev pub past_of : {V : Type 0} → List (V × Event) → (V → List Row) → Past → Past
past_of [] stack p = p
past_of (e ∷ es) stack p = past_of es stack (after p (stack e.0) e.1)

abbrev pub past : Inside → Past
past s = past_of s.history.items (λ v. v.items) (at_first (length s.nodes.slots))

abbrev pub contents_of : Inside → Contents
contents_of s =
    record {
      stack = s.places.items;
      trees = (past s).trees;
      inside = s.inside;
      built = (past s).built;
      hand = (past s).hand;
      refusals = (past s).refusals;
      widest = s.widest;
      room = s.room;
      raised = s.raised;
    }

-- The rows have the trees that contracts see, and the stack's room is there.
pub record IsRight (s : Inside) : Type 0 where
  pub agree : Agree s.nodes (past s).trees
  pub sound : IsSound (store_of (contents_of s))
  pub places : s.room ≤ s.places.room
  pub marks : length s.marks ≡ length s.nodes.slots
  pub widest : s.nodes.widest ≡ s.widest
