-- What is true of all histories.
use Rattle.std.specs.Prelude.{◌≡◌, ◌==◌, if◌then◌else◌, ◌⊎◌, ◌↔◌, ℕ, ◌<◌, true, false, List, [], ◌∷◌, ◌++◌, length, Contains, replicate}
use Rattle.term_model.specs.Tree.{Tree}
use Rattle.term_model.specs.Laws.{IsSubtree}
use Rattle.history_core.specs.TermSet.{TermSet, empty, Names, Holds, IsFree, Lacks, tree_over, IsSound, IsReached}
use Rattle.history_core.specs.Entry.{Entry, Make, Find, Roots, Collect, is_collect, is_roots, needed, IsStep, after}
use Rattle.history_core.specs.Chronicle.{History, precedes, put, earlier, later, chronicle, entries_of, noted, Legal, IsLegal, left_by, set_of, NoCollect, NotMade, NoRoots, IsNoted, MayNote, MayCollect, part_of, NeverFalls, last_roots, InOrder, KeysRise}
use Rattle.history_core.specs.Told.{told, TellsNeeded, named, rooted_trees, kept_trees}

-- When a caller notes one entry more, the chronicle has it put in at its key's place.
abbrev pub NotingPutsIn : Type 0
NotingPutsIn = (lists : List (List Entry)) (caller : ℕ) (e : Entry) → caller < length lists
    → chronicle (noted lists caller e) ≡ put (caller, e) (chronicle lists)

abbrev pub NothingAtStart : Type 0
NothingAtStart = (callers : ℕ) → chronicle (replicate callers []) ≡ []

-- The chronicle has the callers' entries and no others.
abbrev pub HasTheNoted : Type 0
HasTheNoted = (lists : List (List Entry)) (y : ℕ × Entry) → Contains (chronicle lists) y
    ↔ IsNoted lists y

-- One entry more is noted, and nothing else.
abbrev pub NotedIsOneMore : Type 0
NotedIsOneMore = (lists : List (List Entry)) (caller : ℕ) (e : Entry) (y : ℕ × Entry)
    → caller < length lists → IsNoted (noted lists caller e) y
    ↔ (((caller, e) ≡ y) ⊎ IsNoted lists y)

-- Where a caller's places never fall, the chronicle has the caller's entries in their own order.
abbrev pub OwnOrderStays : Type 0
OwnOrderStays = (lists : List (List Entry)) (caller : ℕ) → NeverFalls (entries_of lists caller)
    → part_of caller (chronicle lists) ≡ entries_of lists caller

-- The chronicle is in order, and where no caller's places fall it is the one list that is and has
-- each caller's entries in their own order.
abbrev pub ChronicleIsInOrder : Type 0
ChronicleIsInOrder = (lists : List (List Entry)) → InOrder (chronicle lists)

abbrev pub ChronicleIsTheOne : Type 0
ChronicleIsTheOne = (lists : List (List Entry)) (l : History)
    → ((caller : ℕ) → NeverFalls (entries_of lists caller)) →
    InOrder l → ((caller : ℕ) → part_of caller l ≡ entries_of lists caller) → l ≡ chronicle lists

abbrev pub RisingNeverFalls : Type 0
RisingNeverFalls = (es : List Entry) → KeysRise es → NeverFalls es

-- The roots of a caller in the set left are those of its last Roots.
abbrev pub RootsAreLast : Type 0
RootsAreLast =
    (l : History) (caller : ℕ) → (set_of l).roots caller ≡ last_roots [] (part_of caller l)

-- The set that a legal history leaves has pairs of different names and trees, with all their
-- subtrees.
abbrev pub LegalIsSound : Type 0
LegalIsSound = (rows : ℕ) (l : History) → IsLegal rows l → IsSound rows (set_of l)

-- A collection keeps exactly the pairs whose tree is inside some root's.
abbrev pub CollectKeepsReached : Type 0
CollectKeepsReached = (rows : ℕ) (s : TermSet) (caller number : ℕ) (kept : List ℕ)
    → IsStep rows s (Collect number kept) → (n : ℕ) (t : Tree) →
    Holds (after s caller (Collect number kept)).held n t ↔ (Holds s.held n t × IsReached s n)

-- Over a collection a root and each tree inside it stay under their names.
abbrev pub ProtectedStay : Type 0
ProtectedStay = (rows : ℕ) (s : TermSet) (caller number : ℕ) (kept : List ℕ) → IsSound rows s
    → IsStep rows s (Collect number kept) →
    (owner root : ℕ) (t u : Tree) → Contains (s.roots owner) root → Holds s.held root t
    → IsSubtree u t →
    (n : ℕ) × Holds s.held n u × Holds (after s caller (Collect number kept)).held n u

-- What stands after the place of x in a chronicle goes after x by its key.
abbrev pub LaterGoesAfter : Type 0
LaterGoesAfter = (lists : List (List Entry)) (x y : ℕ × Entry)
    → Contains (later x (chronicle lists)) y → precedes x y ≡ true

-- A name stands for the same tree before and after a history without a Collect, unless a Make in it
-- gave the name.
abbrev pub HeldUnlessMade : Type 0
HeldUnlessMade = (s : TermSet) (l : History) (n : ℕ) → NoCollect l → NotMade n l
    → (left_by s l).held n ≡ s.held n

-- A legal history without a Collect only adds pairs.
abbrev pub PairsStay : Type 0
PairsStay = (rows : ℕ) (s : TermSet) (l : History) (n : ℕ) (t : Tree) → Legal rows s l → NoCollect l
    → Holds s.held n t → Holds (left_by s l).held n t

-- for a Make: the set left has neither its name nor the tree that its names make at its place
abbrev pub IsNew : Names → Names → Entry → Type 0
IsNew there left (Make number head args row) =
    IsFree left row × Lacks left (tree_over there head args)
IsNew there left (Find seen head args row) = Unit {0}
IsNew there left (Roots seen names) = Unit {0}
IsNew there left (Collect number kept) = Unit {0}

-- The law of insertion: an entry that its key places after the last Collect, and that is a step at
-- its place, may be put in there. For a Make the set that all entries leave must have neither its
-- tree nor its name.
abbrev pub Insertion : Type 0
Insertion = (rows : ℕ) (l : History) (x : ℕ × Entry) → IsLegal rows l → is_collect x.1 ≡ false
    → NoCollect (later x l) →
    IsStep rows (set_of (earlier x l)) x.1 → IsNew (set_of (earlier x l)).held (set_of l).held x.1
    → IsLegal rows (put x l)

-- The set left is then the one that was left before, after a step of the entry; for Roots, where no
-- later Roots of the caller stand.
abbrev pub InsertionLeaves : Type 0
InsertionLeaves = (rows : ℕ) (l : History) (x : ℕ × Entry) → IsLegal rows l → is_collect x.1 ≡ false
    → NoCollect (later x l) →
    IsStep rows (set_of (earlier x l)) x.1 → IsNew (set_of (earlier x l)).held (set_of l).held x.1 →
    (is_roots x.1 ≡ true → NoRoots x.0 (later x l)) → set_of (put x l) ≡ after (set_of l) x.0 x.1

-- Where later Roots of the caller stand, Roots that are put in change nothing of the set left.
abbrev pub LaterRootsWin : Type 0
LaterRootsWin =
    (l : History) (caller seen : ℕ) (names : List ℕ) (later_seen : ℕ) (later_names : List ℕ) →
    Contains (later (caller, Roots seen names) l) (caller, Roots later_seen later_names)
    → set_of (put (caller, Roots seen names) l) ≡ set_of l

-- The same law by the set left alone: an entry that is a step of it now may be put in, where no
-- Make after its place gave a name that it needs.
abbrev pub InsertionNow : Type 0
InsertionNow = (rows : ℕ) (l : History) (x : ℕ × Entry) → IsLegal rows l → is_collect x.1 ≡ false
    → NoCollect (later x l) →
    ((n : ℕ) → Contains (needed x.1) n → NotMade n (later x l)) → IsStep rows (set_of l) x.1
    → (is_roots x.1 ≡ true → NoRoots x.0 (later x l)) →
    IsLegal rows (put x l) × (set_of (put x l) ≡ after (set_of l) x.0 x.1)

-- An entry after which none stands is put in at the end, and whatever is a step of the set left, a
-- Collect too, may stand there.
abbrev pub LastIsPutAtEnd : Type 0
LastIsPutAtEnd = (x : ℕ × Entry) (l : History) → later x l ≡ [] → put x l ≡ l ++ x ∷ []

abbrev pub Appending : Type 0
Appending = (rows : ℕ) (l : History) (x : ℕ × Entry) → IsLegal rows l → IsStep rows (set_of l) x.1 →
    IsLegal rows (l ++ x ∷ []) × (set_of (l ++ x ∷ []) ≡ after (set_of l) x.0 x.1)

-- What a caller may note keeps the chronicle legal, and the set left is the one left before, after
-- a step of the entry.
abbrev pub NotingKeeps : Type 0
NotingKeeps = (rows : ℕ) (lists : List (List Entry)) (caller : ℕ) (e : Entry)
    → IsLegal rows (chronicle lists) → MayNote rows lists caller e →
    IsLegal rows (chronicle (noted lists caller e))
    × (set_of (chronicle (noted lists caller e)) ≡ after (set_of (chronicle lists)) caller e)

abbrev pub CollectingKeeps : Type 0
CollectingKeeps = (rows : ℕ) (lists : List (List Entry)) (caller : ℕ) (e : Entry)
    → IsLegal rows (chronicle lists) → MayCollect rows lists caller e →
    IsLegal rows (chronicle (noted lists caller e))
    × (set_of (chronicle (noted lists caller e)) ≡ after (set_of (chronicle lists)) caller e)

-- What the callers' entries tell stays as it was, each at its place, and the new entry tells at the
-- end of its caller's what it tells of the set left.
abbrev pub NotingTells : Type 0
NotingTells = (rows : ℕ) (lists : List (List Entry)) (caller : ℕ) (e : Entry)
    → IsLegal rows (chronicle lists) → MayNote rows lists caller e →
    (f : Names → Entry → List Tree) → TellsNeeded f → (other : ℕ) →
    told f other empty (chronicle (noted lists caller e)) ≡ told f other empty (chronicle lists)
    ++ (if caller == other then f (set_of (chronicle lists)).held e else [])

abbrev pub CollectingTells : Type 0
CollectingTells = (rows : ℕ) (lists : List (List Entry)) (caller : ℕ) (e : Entry)
    → MayCollect rows lists caller e → (f : Names → Entry → List Tree) → (other : ℕ) →
    told f other empty (chronicle (noted lists caller e)) ≡ told f other empty (chronicle lists)
    ++ (if caller == other then f (set_of (chronicle lists)).held e else [])

abbrev pub NamedAndRootedTell : Type 0
NamedAndRootedTell = TellsNeeded named × TellsNeeded rooted_trees × TellsNeeded kept_trees
