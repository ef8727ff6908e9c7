-- The rows that were in use at some time, and those that never were.
use Rattle.std.proofs.Common.{◌≡◌, ◌≢◌, ℕ, ◌+◌, ◌<◌, ◌≤◌, List, [], ◌∷◌, ◌++◌, Some, None, length, take, get_or, sym, ◌∙◌, subst, arith}
use Rattle.std.proofs.Math.ListN.{set}
use Rattle.std.proofs.Math.Seq.{take-set-lt}
use Rattle.std.specs.Prelude.{Bool, replicate}
use Rattle.std.proofs.lemmas.List.{length-set, length-take, length-replicate, take-set, get_or-set_same, get_or-set_other}
use Rattle.term_model.specs.declared.Row.{Row}
use Rattle.plain_store.specs.Slots.{Slots, Slot}
use Rattle.plain_store.specs.Index.{Index, filled_count, HasRoom, IsLinked, IsIndexed, IsFront, IsIndexedTo}
use Rattle.plain_store.specs.Hash.{hash}
use Rattle.term_model.specs.declared.Head.{Head}
use Rattle.plain_store.proofs.Rows.{none_at, Sweeping}
use Rattle.plain_store.proofs.Linking.{linked_places, linked_tags}
use Rattle.plain_store.proofs.Indexing.{front_at, made_used, added, last_is_free, none_free}

-- a store at first
pub indexed_at_first : (rows : ℕ) (x : Index) → HasRoom x rows → 0 < length x.words → IsIndexed [] x → IsIndexedTo 0 (replicate rows None) x
indexed_at_first rows x room places h =
    let long = length-replicate {A = Slot} rows None in
    record {
      front = record { fits = omega arith; behind = λ k le. none_at rows k };
      room = omega (arith, room, long);
      places = places;
      indexed = h;
    }

front_set : (fresh now : ℕ) (slots : List Slot) (k : ℕ) (s : Slot) → k < now → fresh ≤ now → now ≤ length slots → IsFront fresh slots → IsFront now (set slots k s)
front_set fresh now slots k s lt le fits h =
    record {
      fits = omega (arith, fits, length-set slots k s);
      behind = λ j from. (let ne : j ≢ k = omega (arith, lt, from) in get_or-set_other slots k j s None ne ∙ h.behind j (omega (arith, le, from)));
    }

-- the last of the freed rows is one that was in use, and is free
pub last_of_front : (fresh : ℕ) (slots : List Slot) (x : Index) (front : List Row) (k : Row) → x.free ≡ front ++ k ∷ [] → IsIndexedTo fresh slots x → (k.0 < fresh) × (get_or slots k.0 None ≡ None)
last_of_front fresh slots x front k last h =
    let own = last_is_free (take fresh slots) x front k last h.indexed in
    (omega (arith, own.0, length-take fresh slots), sym (front_at fresh slots k.0 h.front) ∙ own.1)

-- it gets a node
pub front_reused : (fresh : ℕ) (slots : List Slot) (x y : Index) (front : List Row) (k : Row) (n : Head × List Row) → x.free ≡ front ++ k ∷ [] → IsLinked (record x { free = front }) y (hash n.0 n.1) k → IsIndexedTo fresh slots x → IsIndexedTo fresh (set slots k.0 (Some n)) y
front_reused fresh slots x y front k n last l h =
    let z : Index = record x { free = front } in
    let s : Slot = Some n in
    let own = last_of_front fresh slots x front k last h in
    record {
      front = front_set fresh fresh slots k.0 s own.0 (omega arith) h.front.fits h.front;
      room = omega (arith, h.room, length-set slots k.0 s, linked_tags z y (hash n.0 n.1) k l);
      places = omega (arith, h.places, linked_places z y (hash n.0 n.1) k l);
      indexed = subst (λ (xs : List Slot). IsIndexed xs y) (sym (take-set-lt fresh slots k.0 s own.0))
          (made_used (take fresh slots) x y front k n last l h.indexed);
    }

-- the first row that was never in use gets a node
pub front_grown : (fresh : ℕ) (slots : List Slot) (x y : Index) (n : Head × List Row) → fresh < length slots → fresh + 1 < length x.words → (let k : Row = record { 0 = fresh } in IsLinked x y (hash n.0 n.1) k) → IsIndexedTo fresh slots x → IsIndexedTo (fresh + 1) (set slots fresh (Some n)) y
front_grown fresh slots x y n lt more l h =
    let k : Row = record { 0 = fresh } in
    let s : Slot = Some n in
    let long = length-set slots fresh s in
    record {
      front = front_set fresh (fresh + 1) slots fresh s (omega arith) (omega arith) (omega (arith, lt)) h.front;
      room = omega (arith, h.room, long, linked_tags x y (hash n.0 n.1) k l);
      places = omega (arith, more, linked_places x y (hash n.0 n.1) k l);
      indexed = added (set slots fresh s) x y k n (omega (arith, lt, long)) (get_or-set_same slots fresh s None lt) l
          (subst (λ (xs : List Slot). IsIndexed xs x) (sym (take-set slots fresh s)) h.indexed);
    }

-- there is a place for one row more
pub place_left : (fresh : ℕ) (slots : List Slot) (x : Index) → IsIndexedTo fresh slots x → filled_count x.words < length x.words
place_left fresh slots x h =
    omega (arith, h.indexed.filled, length-take fresh slots, h.places)

-- no row is free where none was freed and each was in use
pub none_fresh : (fresh : ℕ) (slots : List Slot) (x : Index) → x.free ≡ [] → fresh ≡ length slots → IsIndexedTo fresh slots x → (k : ℕ) → k < length slots → get_or slots k None ≡ None → ⊥
none_fresh fresh slots x none all h k lt is =
    none_free (take fresh slots) x none h.indexed k (omega (arith, lt, all, length-take fresh slots)) (front_at fresh slots k h.front ∙ is)

-- a sweep leaves the rows alone that were never in use
pub front_swept : (marks : List Bool) (was now : Slots) (fresh : ℕ) (x : Index) → Sweeping marks was now fresh → IsFront fresh was.slots → HasRoom x (length was.slots) → fresh < length x.words → IsIndexed (take fresh now.slots) x → IsIndexedTo fresh now.slots x
front_swept marks was now fresh x s h room places indexed =
    record {
      front = record { fits = omega (arith, h.fits, s.size); behind = λ k le. s.behind k le ∙ h.behind k le };
      room = omega (arith, room, s.size);
      places = places;
      indexed = indexed;
    }
