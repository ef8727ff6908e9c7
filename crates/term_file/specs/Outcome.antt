-- What a function of the reader gives, beside what reading gives.
use Rattle.std.specs.Prelude.{◌≡◌, List, map, Result, Ok, Err}
use Rattle.read_faults.specs.declared.fail.ReadFail.{ReadFail}
use Rattle.faults.specs.declared.refusal.Refusal.{Refusal}
use Rattle.term_model.specs.declared.Head.{Head}
use Rattle.term_model.specs.declared.Head.TheVariants as head
use Rattle.term_file.specs.declared.record.Kind.{Kind}
use Rattle.term_file.specs.declared.record.Kind.TheVariants.{Call, Integer, Empty, Cell}
use Rattle.term_file.specs.declared.record.Record as declared
use Rattle.read_faults.specs.Fault.{IsDue}
use Rattle.term_file.specs.Contents.{Record}

-- what was read, seen by the function, is what reading gives; want of memory needs no cause
abbrev pub Gives : {X Y : Type 0} → (X → Y) → Result X ReadFail → Result Y Refusal → Type 0
Gives view (Ok x) due = due ≡ Ok (view x)
Gives view (Err e) due = IsDue due e

-- a record without where it lies in memory
abbrev pub head_of : Kind → Head
head_of (Call f) = head.App (record { 0 = f })
head_of (Integer v) = head.Int v
head_of Empty = head.Nil
head_of Cell = head.Cons

abbrev pub view : declared.Record → Record
view r = record { head = head_of r.kind; arguments = r.arguments.items }

abbrev pub views : List declared.Record → List Record
views rs = map view rs
