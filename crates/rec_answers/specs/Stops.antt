-- How a run stops where words give no settings, an input is refused by a reader of bytes or of
-- lines, a command on terms has no output, or workers stop.
use Rattle.settings.specs.declared.parts.WordsFault.{WordsFault}
use Rattle.settings.specs.declared.parts.WordsFault.TheVariants as words
use Rattle.read_faults.specs.declared.fail.ReadFail.{ReadFail}
use Rattle.read_faults.specs.declared.fail.ReadFail.TheVariants as fail
use Rattle.lock_core.specs.declared.reading.LineFault.{LineFault}
use Rattle.term_commands.specs.declared.fault.TermsFault.{TermsFault}
use Rattle.term_commands.specs.declared.fault.TermsFault.TheVariants as terms
use Rattle.std.specs.Prelude.{Result, Ok, Err}
use Rattle.worker_crew.specs.declared.lines.Lines.{Lines}
use Rattle.worker_crew.specs.declared.fault.AllFault.{AllFault}
use Rattle.worker_crew.specs.declared.fault.AllFault.TheVariants as workers
use Rattle.rec_answers.specs.declared.stops.Stop.{Stop}
use Rattle.rec_answers.specs.declared.stops.Stop.TheVariants as stop

abbrev pub stop_of_fail : ReadFail → Stop
stop_of_fail (fail.Refused kind offset) = stop.Refused (record { kind = kind; place = offset })
stop_of_fail fail.Memory = stop.Memory

abbrev pub stop_of_line : LineFault → Stop
stop_of_line at = stop.Refused (record { kind = at.kind; place = at.line })

abbrev pub stop_of_terms : TermsFault → Stop
stop_of_terms (terms.Refused fault) = stop.Refused fault
stop_of_terms terms.StoreFull = stop.StoreFull
stop_of_terms terms.Memory = stop.Memory

abbrev pub stop_of_fault : AllFault → Stop
stop_of_fault workers.StoreFull = stop.StoreFull
stop_of_fault workers.Worn = stop.Worn
stop_of_fault workers.Memory = stop.Memory

abbrev pub stop_of_words : WordsFault → Stop
stop_of_words words.Usage = stop.Usage
stop_of_words words.Memory = stop.Memory

abbrev pub lines_or_stop : Result Lines AllFault → Result Lines Stop
lines_or_stop (Ok lines) = Ok lines
lines_or_stop (Err fault) = Err (stop_of_fault fault)

-- the text of a drill has no fault, so a fault of it is told as want of memory
abbrev pub stop_of_drill : Stop → Stop
stop_of_drill stop.Usage = stop.Usage
stop_of_drill (stop.Refused fault) = stop.Memory
stop_of_drill stop.StoreFull = stop.StoreFull
stop_of_drill stop.ReadFault = stop.ReadFault
stop_of_drill stop.WriteFault = stop.WriteFault
stop_of_drill stop.Memory = stop.Memory
stop_of_drill stop.Worn = stop.Worn
