-- What the history of a run tells: the entries of each worker's pass, and their merge, the
-- chronicle.
use Rattle.std.specs.Prelude.{◌≡◌, ◌⊎◌, ℕ, List, [], Option, Some, Result, IfOk, IfErr, IsErrAnd, length}
use Rattle.history_core.specs.declared.entry.Entry.{Entry}
use Rattle.history_core.specs.Chronicle.{chronicle, part_of, entries_of, KeysRise, IsLegal}
use Rattle.settings.specs.Words.{settings_of}
use Rattle.settings.specs.declared.parts.Command.{Command}
use Rattle.settings.specs.declared.parts.Command.TheVariants.{Rewrite, Drill, Schedule, Terms, Pack, Unpack, CheckLog, CheckTrace, Outermost}
use Rattle.settings.specs.declared.parts.Settings.{Settings}
use Rattle.shared_work.specs.Sharing.{NamesWhatItBuilt, CollectsFew, EachRises}
use Rattle.shared_work.specs.Filling.{FillsRows}
use Rattle.shared_work.specs.Fronts.{NamesFronts}
use Rattle.rec_check.specs.Spelled.{Specified}
use Rattle.rec_answers.specs.Rewritten.{Spells}
use Rattle.rec_answers.specs.Input.{GaveInput}
use Rattle.rec_answers.specs.declared.answers.Answer.{Answer}
use Rattle.rec_answers.specs.declared.stops.Stop.{Stop}
use Rattle.rec_answers.specs.declared.stops.Stop.TheVariants.{Usage, Refused, StoreFull, ReadFault, WriteFault, Memory, Worn}

-- The chronicle is legal in as many rows as the words ask for. Where the words are refused nothing
-- is said here: `no_history` says that it is empty then.
abbrev pub HasLegalHistory : List (List ℕ) → List (List Entry) → Type 0
HasLegalHistory words lists = (settings : Settings) → settings_of words ≡ Some settings
    → IsLegal settings.rows (chronicle lists)

-- Each caller's own entries stand in the chronicle once, in the caller's order. Each is at a number
-- that isn't below those of the caller's earlier entries, and a creation that adds or a collection
-- at one above them: so it stands after all that these tell that its caller had seen.
abbrev pub StandInTurn : List (List Entry) → Type 0
StandInTurn lists = (caller : ℕ) → (part_of caller (chronicle lists) ≡ entries_of lists caller)
    × KeysRise (entries_of lists caller)

-- each of the workers that the words ask for collected at most once more than it made or found a
-- tree
abbrev pub HasFewCollects : List (List ℕ) → List (List Entry) → Type 0
HasFewCollects words lists = (settings : Settings) → settings_of words ≡ Some settings
    → CollectsFew settings lists

-- the statuses of a run that may have no workers, or no memory to tell of them
abbrev pub MayEndEarly : ℕ → Type 0
MayEndEarly status = (status ≡ 2) ⊎ (status ≡ 3) ⊎ (status ≡ 5) ⊎ (status ≡ 7)

-- The history has the entries of each worker that the words ask for, and of no other caller. At 2,
-- 3, 5 and 7 it may be empty.
abbrev pub HasEach : List (List ℕ) → (status : ℕ) → List (List Entry) → Type 0
HasEach words status lists = (settings : Settings) → settings_of words ≡ Some settings
    → (length lists ≡ settings.workers) ⊎ (MayEndEarly status × (lists ≡ []))

-- the input spells a specification of which this holds
abbrev pub SpellsSuch : List ℕ → (Specified → Type 0) → Type 0
SpellsSuch input P = (spec : Specified) × Spells input spec × P spec

-- the source gave the input whole, or the input is the drill's text, and this holds of what it
-- spells
abbrev pub GaveSuch : {S : Type 0} (s : Settings) (left : S → Option (List ℕ)) (old new : S)
    → (Specified → Type 0) → Type 0
GaveSuch s left old new P = (input : List ℕ) × GaveInput s left old new input × SpellsSuch input P

-- the words are accepted, and this holds of their settings and of what the input spells
abbrev pub HasSuch : {S : Type 0} (words : List (List ℕ)) (left : S → Option (List ℕ)) (old new : S)
    → (Settings → Specified → Type 0) → Type 0
HasSuch words left old new P =
    (settings : Settings) × (settings_of words ≡ Some settings)
    × GaveSuch settings left old new (P settings)

-- What each worker's Make and Find entries name are, in order, the built lists of the terms that it
-- drew, where these workers drew the terms; where results are remembered, a cached list of these
-- terms.
abbrev pub NamesAll : (workers : List ℕ) → List (List Entry) → Settings → Specified → Type 0
NamesAll workers lists s spec = NamesWhatItBuilt s spec.rules spec.terms workers lists

-- They are a front of such a list of terms that it drew, and no term was drawn twice.
abbrev pub NamesAllFronts : List (List Entry) → Settings → Specified → Type 0
NamesAllFronts lists s spec = NamesFronts s spec.rules spec.terms lists

-- The last Collect of some worker kept as many different trees as there are rows, all made or found
-- by workers, and the tree that it was to build next isn't among them.
abbrev pub Fills : List (List Entry) → Settings → Specified → Type 0
Fills lists s spec = FillsRows s spec.rules spec.terms lists

-- What the history tells where the terms of an input aren't all rewritten or told, for this reason.
-- The input is known by what holds of the specification that it spells.
abbrev pub TellsStop : Settings → (of : (Specified → Type 0) → Type 0) → List (List Entry)
    → Stop → Type 0
TellsStop s of lists Usage = lists ≡ []
TellsStop s of lists (Refused fault) = lists ≡ []
TellsStop s of lists StoreFull = of (Fills lists s) × of (NamesAllFronts lists s)
TellsStop s of lists ReadFault = lists ≡ []
TellsStop s of lists WriteFault = lists ≡ []
TellsStop s of lists Memory = (lists ≡ []) ⊎ of (NamesAllFronts lists s)
TellsStop s of lists Worn = of (NamesAllFronts lists s)

-- what it tells where they are
abbrev pub TellsAnswer : Settings → (of : (Specified → Type 0) → Type 0) → List (List Entry)
    → Answer → Type 0
TellsAnswer s of lists answer = of (NamesAll answer.workers lists s)

-- the reasons for which a command may have no workers, or may not tell of them
abbrev pub StopsEarly : Stop → Type 0
StopsEarly Usage = Unit {0}
StopsEarly (Refused fault) = Unit {0}
StopsEarly StoreFull = ⊥
StopsEarly ReadFault = Unit {0}
StopsEarly WriteFault = ⊥
StopsEarly Memory = Unit {0}
StopsEarly Worn = ⊥

-- There are the entries of each worker, or none, where it ended for such a reason.
abbrev pub CountsWorkers : {A : Type 0} → Settings → Result A Stop → List (List Entry) → Type 0
CountsWorkers s answer lists =
    (length lists ≡ s.workers) ⊎ (IsErrAnd answer StopsEarly × (lists ≡ []))

-- What the history tells of a command that rewrites terms, and that ended with this answer or for
-- this reason.
pub record TellsTerms (s : Settings) (of : (Specified → Type 0) → Type 0)
    (answer : Result Answer Stop) (lists : List (List Entry)) : Type 0 where
  pub legal : IsLegal s.rows (chronicle lists)
  pub rises : EachRises lists
  pub collects : CollectsFew s lists
  pub each : CountsWorkers s answer lists
  pub answered : IfOk answer (TellsAnswer s of lists)
  pub stopped : IfErr answer (TellsStop s of lists)

-- of any command: one that rewrites nothing has no history
abbrev pub TellsFor : Command → Settings → (of : (Specified → Type 0) → Type 0) → Result Answer Stop
    → List (List Entry) → Type 0
TellsFor Rewrite s of answer lists = TellsTerms s of answer lists
TellsFor Drill s of answer lists = TellsTerms s of answer lists
TellsFor Schedule s of answer lists = lists ≡ []
TellsFor Terms s of answer lists = lists ≡ []
TellsFor Pack s of answer lists = lists ≡ []
TellsFor Unpack s of answer lists = lists ≡ []
TellsFor CheckLog s of answer lists = lists ≡ []
TellsFor CheckTrace s of answer lists = lists ≡ []
TellsFor Outermost s of answer lists = TellsTerms s of answer lists

abbrev pub TellsHistory : Settings → (of : (Specified → Type 0) → Type 0) → Result Answer Stop
    → List (List Entry) → Type 0
TellsHistory s of answer lists = TellsFor s.command s of answer lists
