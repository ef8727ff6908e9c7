-- What each thing that happens to a store does to what contracts see of it.
use Rattle.std.proofs.Common.{◌≡◌, ℕ, ◌<◌, ◌≤◌, Bool, true, false, List, [], ◌∷◌, ◌++◌, Option, Some, None, length, get_or, refl, ap, sym, ◌∙◌, subst, arith}
use Rattle.std.specs.Prelude.{Contains, IsSome, IfSome, IfNone, if◌then◌else◌}
use Rattle.std.proofs.lemmas.List.{length-map, ext_get_or}
use Rattle.term_model.specs.declared.Row.{Row}
use Rattle.term_model.specs.Tree.{Tree, Node, trees_of, among}
use Rattle.mark_phase.specs.Reachable.{Reaches}
use Rattle.terms_api.specs.Terms.{reachable, IsSound}
use Rattle.terms_api.proofs.Callers.{has-held}
use Rattle.plain_store.specs.declared.event.Event.{Event}
use Rattle.plain_store.specs.declared.store.PlainStore.TheInside.{Inside}
use Rattle.plain_store.specs.Slots.{Slots, Slot, FreesRow, children}
use Rattle.plain_store.specs.Agreement.{Agree}
use Rattle.plain_store.specs.Contents.{Past, at_first, after, Contents, store_of, kept_trees, kept_among, collected, refused, trees_on, HasNoFree, LosesRow}
use Rattle.plain_store.specs.View.{past_of, contents_of, IsRight}
use Rattle.plain_store.proofs.Placing.{stack_held}
use Rattle.plain_store.proofs.Keeping.{kept_at}
use Rattle.plain_store.proofs.Reaching.{down}

past_more : {V : Type 0} (es : List (V × Event)) (stack : V → List Row) (p : Past) (v : V) (e : Event) → (let x : V × Event = (v, e) in past_of (es ++ x ∷ []) stack p ≡ after (past_of es stack p) (stack v) e)
past_more [] stack p v e = refl
past_more (x ∷ es) stack p v e = past_more es stack (after p (stack x.0) x.1) v e

-- one thing more has happened
pub past_step : {V : Type 0} (es fs : List (V × Event)) (stack : V → List Row) (m n : ℕ) (v : V) (e : Event) → (let x : V × Event = (v, e) in fs ≡ es ++ x ∷ []) → n ≡ m → past_of fs stack (at_first n) ≡ after (past_of es stack (at_first m)) (stack v) e
past_step es fs stack m n v e f g =
    ap (λ k. past_of fs stack (at_first k)) g ∙ ap (λ xs. past_of xs stack (at_first m)) f ∙ past_more es stack (at_first m) v e

abbrev pub shape : List Row → Past → Bool → ℕ → ℕ → ℕ → Contents
shape stack p inside widest room raised =
    record { stack = stack; trees = p.trees; inside = inside; built = p.built; hand = p.hand; refusals = p.refusals; widest = widest; room = room; raised = raised }

-- a store is right by what contracts see
pub right_from : (s : Inside) (c : Contents) → contents_of s ≡ c → Agree s.nodes c.trees → IsSound (store_of c) → s.room ≤ s.places.room → length s.marks ≡ length s.nodes.slots → s.nodes.widest ≡ s.widest → IsRight s
right_from s c e agree sound capacity marks widest =
    record {
      agree = subst (λ (x : Contents). Agree s.nodes x.trees) (sym e) agree;
      sound = subst (λ (x : Contents). IsSound (store_of x)) (sym e) sound;
      places = capacity;
      marks = marks;
      widest = widest;
    }

pub if_some : (o : Option Row) (P Q : Row → Type 0) → ((r : Row) → P r → Q r) → IfSome o P → IfSome o Q
if_some None P Q f h = h
if_some (Some r) P Q f h = f r h

pub if_none : (o : Option Row) (P Q : Type 0) → (P → Q) → IfNone o P → IfNone o Q
if_none None P Q f h = f h
if_none (Some r) P Q f h = h

pub if_none_any : (o : Option Row) (P : Type 0) → P → IfNone o P
if_none_any None P h = h
if_none_any (Some r) P h = tt

slot_none : (slots : Slots) (c : Contents) → Agree slots c.trees → ((k : ℕ) → k < length slots.slots → get_or slots.slots k None ≡ None → ⊥) → (k : ℕ) → k < length c.trees → get_or c.trees k None ≡ None → (slot : Slot) → get_or slots.slots k None ≡ slot → ⊥
slot_none slots c agree full k h e None f = full k (omega (arith, agree.size)) f
slot_none slots c agree full k h e (Some node) f =
    let r : Row = record { 0 = k } in
    let has = agree.node r node.0 node.1 f in
    absurd (let x : None ≡ Some (Node node.0 (trees_of (trees_on c.trees node.1))) = sym e ∙ has in cc)

-- where no row is free, each has a tree
pub no_free : (slots : Slots) (c : Contents) → Agree slots c.trees → ((k : ℕ) → k < length slots.slots → get_or slots.slots k None ≡ None → ⊥) → HasNoFree c
no_free slots c agree full k h e = slot_none slots c agree full k h e (get_or slots.slots k None) refl

-- what is reached from the stack is a row
pub reach_below : (slots : Slots) (c : Contents) → Agree slots c.trees → IsSound (store_of c) → (p : Row) → Contains c.stack p → (r : Row) → Reaches (children slots) p r → r.0 < length slots.slots
reach_below slots c agree sound p k r reaches =
    let s = store_of c in
    let held = (down slots c p agree (stack_held s sound p k) reaches).0 in
    let below = sound.below r _ (has-held s r held) in
    omega (arith, below, agree.size)

if_is : (b : Bool) (t u : Tree) → (if b then Some t else None) ≡ Some u → (if b then Some t else None) ≡ Some t
if_is true t u e = refl
if_is false t u e = absurd (cc)

kept_is : (ts : List Tree) (o : Option Tree) (u : Tree) → kept_among ts o ≡ Some u → kept_among ts o ≡ o
kept_is ts None u e = refl
kept_is ts (Some t) u e = if_is (among t ts) t u e

same_at : (slots : Slots) (c : Contents) → Agree slots c.trees → Agree slots (kept_trees c) → (k : ℕ) → (slot : Slot) → get_or slots.slots k None ≡ slot → get_or (kept_trees c) k None ≡ get_or c.trees k None
same_at slots c agree after' k None e =
    let r : Row = record { 0 = k } in after'.free r e ∙ sym (agree.free r e)
same_at slots c agree after' k (Some node) e =
    let r : Row = record { 0 = k } in
    let now = after'.node r node.0 node.1 e in
    kept_at c r ∙ kept_is (reachable (store_of c)) (get_or c.trees k None) (Node node.0 (trees_of (trees_on (kept_trees c) node.1))) (sym (kept_at c r) ∙ now)

-- where the rows are the same, no tree is lost
pub kept_same : (slots : Slots) (c : Contents) → Agree slots c.trees → Agree slots (kept_trees c) → kept_trees c ≡ c.trees
kept_same slots c agree after' =
    ext_get_or None (kept_trees c) c.trees (length-map c.trees (kept_among (reachable (store_of c))))
    (λ k h. same_at slots c agree after' k (get_or slots.slots k None) refl)

slot_some : {A : Type 0} (o : Option A) → IsSome o → (x : A) × (o ≡ Some x)
slot_some None h = absurd (cc)
slot_some (Some x) h = (x, refl)

-- where a row in use is freed, its tree is lost
pub row_lost : (slots swept : Slots) (c : Contents) (raised : ℕ) → Agree slots c.trees → Agree swept (kept_trees c) → FreesRow slots swept → LosesRow (store_of c) (store_of (collected c raised))
row_lost slots swept c raised agree after' f =
    let node = slot_some (get_or slots.slots f.row.0 None) f.used in
    let t = Node node.0.0 (trees_of (trees_on c.trees node.0.1)) in
    record {
      row = f.row;
      tree = t;
      had = agree.node f.row node.0.0 node.0.1 node.1;
      gone = λ k. (let e : None ≡ Some t = sym (after'.free f.row f.free) ∙ k in absurd (cc));
    }

pub sound_refused : (c : Contents) → IsSound (store_of c) → IsSound (store_of (refused c))
sound_refused c sound =
    record { stack = sound.stack; depth = sound.depth; room = sound.room; below = sound.below; one_row = sound.one_row; arguments = sound.arguments; well_formed = sound.well_formed; ground = sound.ground }
