-- What is found of a log.
use Rattle.std.specs.Prelude.{◌≡◌, ◌⊎◌, ℕ, zero, suc, ◌<◌, List, [], ◌∷◌, ◌++◌, length, map, get_or, ◌==◌, Result, Ok, Err}
use Rattle.std.specs.List.{filter}
use Rattle.read_faults.specs.declared.fail.ReadFail.{ReadFail}
use Rattle.read_faults.specs.declared.fail.ReadFail.TheVariants.{Refused, Memory}
use Rattle.history_core.specs.declared.entry.Entry.{Entry}
use Rattle.history_core.specs.Chronicle.{History, InOrder, part_of, KeysRise, IsGood}
use Rattle.history_core.specs.Table.{IsLegalUpTo}
use Rattle.log_check.specs.declared.log.Noted.{Noted}
use Rattle.log_check.specs.declared.verdict.LogVerdict.{LogVerdict}
use Rattle.log_check.specs.declared.verdict.LogVerdict.TheVariants.{Legal, Illegal}
use Rattle.log_check.specs.Log.{Log}

-- entries without their lines
abbrev pub history : List Noted → History
history noted = map (λ x. (x.caller, x.entry)) noted

abbrev pub line_of : Noted → ℕ
line_of x = x.line

-- the entries of one caller, with their lines
abbrev pub own : ℕ → List Noted → List Noted
own caller noted = filter (λ x. x.caller == caller) noted

-- the lists of so many callers, from this one on
abbrev pub lists_from : ℕ → ℕ → History → List (List Entry)
lists_from zero caller l = []
lists_from (suc more) caller l = part_of caller l ∷ lists_from more (suc caller) l

abbrev pub lists_of : Log → List (List Entry)
lists_of log = lists_from log.callers 0 (history log.noted)

-- each caller's keys never fall, and those of Make and Collect are above the caller's earlier ones
abbrev pub Rises : List Noted → Type 0
Rises noted = (caller : ℕ) → KeysRise (part_of caller (history noted))

-- the entry on this line is the first whose key breaks that
pub record IsFirstFall (noted : List Noted) (n : ℕ) : Type 0 where
  pub before : List Noted
  pub breaks : Noted
  pub rest : List Noted
  pub all : noted ≡ before ++ breaks ∷ rest
  pub rise : Rises before
  pub fall : Rises (before ++ breaks ∷ []) → ⊥
  pub line : breaks.line ≡ n

-- the entries in the order of the chronicle, with their lines, each caller's in their own order
pub record IsMerged (noted order : List Noted) : Type 0 where
  pub in_order : InOrder (history order)
  pub each : (caller : ℕ) → own caller order ≡ own caller noted

-- the entry on this line is the first, in the order of the chronicle, that is no step
pub record IsFirstNoStep (rows : ℕ) (noted : List Noted) (n : ℕ) : Type 0 where
  pub order : List Noted
  pub place : ℕ
  pub merged : IsMerged noted order
  pub within : place < length order
  pub legal : IsLegalUpTo rows (history order) place
  pub line : get_or (map line_of order) place 0 ≡ n

-- A log is legal, with so many entries, where it is good; else its line is the first whose key
-- breaks the rise of its caller's, and where none does the first that is no step.
abbrev pub IsVerdict : Log → LogVerdict → Type 0
IsVerdict log (Legal m) = IsGood log.rows (lists_of log) × (m ≡ length log.noted)
IsVerdict log (Illegal n) =
    IsFirstFall log.noted n ⊎ (Rises log.noted × IsFirstNoStep log.rows log.noted n)

-- the verdict on an input that is a log
abbrev pub IsFound : Result Log ℕ → LogVerdict → Type 0
IsFound (Ok log) verdict = IsVerdict log verdict
IsFound (Err n) verdict = ⊥

-- an input that is none is refused with kind 15 at its first line of a wrong form; memory may lack
-- for each
abbrev pub IsRefused : Result Log ℕ → ReadFail → Type 0
IsRefused (Ok log) (Refused kind place) = ⊥
IsRefused (Err n) (Refused kind place) = (kind ≡ 15) × (place ≡ n)
IsRefused log Memory = Unit {0}
