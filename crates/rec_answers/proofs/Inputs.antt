-- Which input a command has, and what that says of its answer.
use Rattle.std.proofs.Common.{◌≡◌, ◌≢◌, ℕ, ◌≤◌, List, Option, Some, length, refl, sym, ap, subst, ◌∙◌, arith}
use Rattle.std.specs.Prelude.{Result, Ok, Err, IfOk, IfErr}
use Rattle.std.proofs.lemmas.Option.{same_Some}
use Rattle.ends.specs.Bytes.{GaveAll}
use Rattle.settings.specs.Words.{AreInRange, settings_of}
use Rattle.settings.specs.declared.parts.Command.{Command}
use Rattle.settings.specs.declared.parts.Command.TheVariants.{Rewrite, Drill, Schedule, Terms, Pack, Unpack, CheckLog, CheckTrace, Outermost}
use Rattle.settings.specs.declared.parts.Settings.{Settings}
use Rattle.rec_drill.specs.Drill.{drill_bytes}
use Rattle.rec_drill.proofs.Lengths.{text_short}
use Rattle.rec_answers.specs.Written.{Output}
use Rattle.rec_answers.specs.Rewritten.{RowsSuffice, NumbersSuffice}
use Rattle.rec_answers.specs.Drilled.{IsDrilled}
use Rattle.rec_answers.specs.Input.{ReadsSource, GaveInputTo, GaveInput, HasInputFor, HasInput}
use Rattle.rec_answers.specs.Output.{IsOutput, IsOutputOf, HasRows, HasRowsFor, LacksRowsFor, HasNumbers, HasNumbersFor, LacksNumbersFor, limit_of}
use Rattle.rec_answers.specs.Run.{GaveOutput, AsksDrill, Rewrites}
use Rattle.rec_answers.specs.Lines.{stop_status}
use Rattle.rec_answers.specs.Answered.{IsAnswer, StopsAnswering, StopsDrilling}
use Rattle.rec_answers.specs.declared.answers.Answer.{Answer}
use Rattle.rec_answers.specs.declared.stops.Stop.{Stop}
use Rattle.rec_answers.specs.declared.stops.Stop.TheVariants.{Usage, Refused, StoreFull, ReadFault, WriteFault, Memory, Worn}

-- ---- commands that read the source
pub gave_input : {S : Type 0} (c : Command) (count : ℕ) (left : S → Option (List ℕ)) (old new : S) (input : List ℕ) → ReadsSource c → GaveAll (left old) (left new) input → GaveInputTo c count left old new input
gave_input Rewrite count left old new input reads g = g
gave_input Drill count left old new input reads g = absurd reads
gave_input Schedule count left old new input reads g = g
gave_input Terms count left old new input reads g = g
gave_input Pack count left old new input reads g = g
gave_input Unpack count left old new input reads g = g
gave_input CheckLog count left old new input reads g = g
gave_input CheckTrace count left old new input reads g = g
gave_input Outermost count left old new input reads g = g

pub has_left : {S : Type 0} (c : Command) (count : ℕ) (left : S → Option (List ℕ)) (source : S) (input : List ℕ) → ReadsSource c → HasInputFor c count left source input → left source ≡ Some input
has_left Rewrite count left source input reads h = h
has_left Drill count left source input reads h = absurd reads
has_left Schedule count left source input reads h = h
has_left Terms count left source input reads h = h
has_left Pack count left source input reads h = h
has_left Unpack count left source input reads h = h
has_left CheckLog count left source input reads h = h
has_left CheckTrace count left source input reads h = h
has_left Outermost count left source input reads h = h

-- all but a drill do
pub reads_unless : (c : Command) → (c ≡ Drill → ⊥) → ReadsSource c
reads_unless Rewrite other = tt
reads_unless Drill other = other refl
reads_unless Schedule other = tt
reads_unless Terms other = tt
reads_unless Pack other = tt
reads_unless Unpack other = tt
reads_unless CheckLog other = tt
reads_unless CheckTrace other = tt
reads_unless Outermost other = tt

-- all but the three that rewrite rewrite nothing
pub alone_unless : (c : Command) → (c ≡ Rewrite → ⊥) → (c ≡ Drill → ⊥) → (c ≡ Outermost → ⊥) → Rewrites c → ⊥
alone_unless Rewrite r d o asks = r refl
alone_unless Drill r d o asks = d refl
alone_unless Schedule r d o asks = asks
alone_unless Terms r d o asks = asks
alone_unless Pack r d o asks = asks
alone_unless Unpack r d o asks = asks
alone_unless CheckLog r d o asks = asks
alone_unless CheckTrace r d o asks = asks
alone_unless Outermost r d o asks = o refl

pub reads_under : (words : List (List ℕ)) (s t : Settings) → settings_of words ≡ Some s → settings_of words ≡ Some t → ReadsSource t.command → ReadsSource s.command
reads_under words s t e f h = subst (λ (u : Settings). ReadsSource u.command) (same_Some t s (sym f ∙ e)) h

-- ---- a drill
-- its text is no longer than an input may be
short : (s : Settings) → AreInRange s → s.command ≡ Drill → length (drill_bytes s.count) ≤ limit_of s.command
short s r e =
    let few : s.count ≤ 65535 = (let h = r.count e in grind (arith, h)) in
    let l = text_short s.count in
    let limit = ap limit_of e in
    omega (arith, few, l, limit)

pub gave_text : {S : Type 0} (s : Settings) (left : S → Option (List ℕ)) (old new : S) → s.command ≡ Drill → new ≡ old → GaveInput s left old new (drill_bytes s.count)
gave_text s left old new e same = subst (λ c. GaveInputTo c s.count left old new (drill_bytes s.count)) (sym e) (same, refl)

pub drill_made : {S : Type 0} (s : Settings) (left : S → Option (List ℕ)) (old new : S) (r : Result Answer Stop) → AreInRange s → s.command ≡ Drill → new ≡ old
    → IfOk r (λ answer. (output : Output) × IsDrilled s (drill_bytes s.count) output × IsAnswer s.workers answer output)
    → IfOk r (λ answer. (output : Output) × GaveOutput s left old new output × IsAnswer s.workers answer output)
drill_made s left old new (Ok answer) r e same h =
    let given : IsOutput s (drill_bytes s.count) h.0 = record { within = short s r e; output_is = subst (λ c. IsOutputOf c s (drill_bytes s.count) h.0) (sym e) h.1 } in
    (h.0, record { input = drill_bytes s.count; read = gave_text s left old new e same; output_is = given }, h.2)
drill_made s left old new (Err stop) r e same h = tt

drill_stop : {S : Type 0} (s : Settings) (left : S → Option (List ℕ)) (faults : S → ℕ) (old new : S) (stop : Stop) → s.command ≡ Drill → new ≡ old → StopsDrilling s stop → StopsAnswering s left faults old new stop
drill_stop s left faults old new Usage e same h = h
drill_stop s left faults old new (Refused fault) e same h = absurd h
drill_stop s left faults old new StoreFull e same h =
    record { input = drill_bytes s.count; read = gave_text s left old new e same; lacks = subst (λ c. LacksRowsFor c s (drill_bytes s.count)) (sym e) h }
drill_stop s left faults old new ReadFault e same h = absurd h
drill_stop s left faults old new WriteFault e same h = h
drill_stop s left faults old new Memory e same h = h
drill_stop s left faults old new Worn e same h =
    record { input = drill_bytes s.count; read = gave_text s left old new e same; lacks = subst (λ c. LacksNumbersFor c s (drill_bytes s.count)) (sym e) h }

pub drill_stopped : {S : Type 0} (s : Settings) (left : S → Option (List ℕ)) (faults : S → ℕ) (old new : S) (r : Result Answer Stop) → s.command ≡ Drill → new ≡ old → IfErr r (StopsDrilling s) → IfErr r (StopsAnswering s left faults old new)
drill_stopped s left faults old new (Ok answer) e same h = tt
drill_stopped s left faults old new (Err stop) e same h = drill_stop s left faults old new stop e same h

is_text : {S : Type 0} (s : Settings) (left : S → Option (List ℕ)) (source : S) (input : List ℕ) → s.command ≡ Drill → HasInput s left source input → input ≡ drill_bytes s.count
is_text s left source input e h = subst (λ c. HasInputFor c s.count left source input) e h

pub as_drilled : {S : Type 0} (s : Settings) (left : S → Option (List ℕ)) (source : S) (input : List ℕ) (output : Output) → s.command ≡ Drill → HasInput s left source input → IsOutput s input output → IsDrilled s (drill_bytes s.count) output
as_drilled s left source input output e h o =
    subst (λ text. IsDrilled s text output) (is_text s left source input e h) (subst (λ c. IsOutputOf c s input output) e o.output_is)

pub drill_rows : {S : Type 0} (s : Settings) (left : S → Option (List ℕ)) (source : S) (input : List ℕ) → s.command ≡ Drill → HasInput s left source input → HasRows s input → RowsSuffice s (drill_bytes s.count)
drill_rows s left source input e h rows =
    subst (λ text. RowsSuffice s text) (is_text s left source input e h) (subst (λ c. HasRowsFor c s input) e rows)

pub drill_numbers : {S : Type 0} (s : Settings) (left : S → Option (List ℕ)) (source : S) (input : List ℕ) → s.command ≡ Drill → HasInput s left source input → HasNumbers s input → NumbersSuffice s (drill_bytes s.count)
drill_numbers s left source input e h numbers =
    subst (λ text. NumbersSuffice s text) (is_text s left source input e h) (subst (λ c. HasNumbersFor c s input) e numbers)

-- a drill that stops is neither refused nor stopped by a read
stops_otherwise : {S : Type 0} (s : Settings) (left : S → Option (List ℕ)) (faults : S → ℕ) (old new : S) (stop : Stop) (status : ℕ) → s.command ≡ Drill → StopsAnswering s left faults old new stop → status ≡ stop_status stop
    → (status ≢ 3) × (status ≢ 5)
stops_otherwise s left faults old new Usage status e h i = (λ three. omega (arith, i, three), λ five. omega (arith, i, five))
stops_otherwise s left faults old new (Refused fault) status e h i = absurd (subst ReadsSource e h.reads)
stops_otherwise s left faults old new StoreFull status e h i = (λ three. omega (arith, i, three), λ five. omega (arith, i, five))
stops_otherwise s left faults old new ReadFault status e h i = absurd (subst ReadsSource e h.0)
stops_otherwise s left faults old new WriteFault status e h i = absurd h
stops_otherwise s left faults old new Memory status e h i = (λ three. omega (arith, i, three), λ five. omega (arith, i, five))
stops_otherwise s left faults old new Worn status e h i = (λ three. omega (arith, i, three), λ five. omega (arith, i, five))

pub drill_goes_on : {S : Type 0} (words : List (List ℕ)) (s : Settings) (left : S → Option (List ℕ)) (faults : S → ℕ) (old new : S) (stop : Stop) (status : ℕ) → settings_of words ≡ Some s
    → StopsAnswering s left faults old new stop → status ≡ stop_status stop → AsksDrill words → (status ≢ 3) × (status ≢ 5)
drill_goes_on words s left faults old new stop status ours stops is asks =
    let e : s.command ≡ Drill = ap (λ (u : Settings). u.command) (same_Some s asks.0 (sym ours ∙ asks.1)) ∙ asks.2 in
    stops_otherwise s left faults old new stop status e stops is
