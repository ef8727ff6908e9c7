-- A command on terms ends where a call of its own does.
use Rattle.read_faults.specs.declared.fail.ReadFail.{ReadFail}
use Rattle.read_faults.specs.declared.fail.ReadFail.TheVariants as fail
use Rattle.term_file.specs.declared.fault.ShareFault.{ShareFault}
use Rattle.term_file.specs.declared.fault.ShareFault.TheVariants as share
use Rattle.term_commands.specs.declared.fault.TermsFault.{TermsFault}
use Rattle.term_commands.specs.declared.fault.TermsFault.TheVariants.{Refused, StoreFull, Memory}

abbrev pub fault_of : ReadFail → TermsFault
fault_of (fail.Refused kind offset) = Refused (record { kind = kind; place = offset })
fault_of fail.Memory = Memory

abbrev pub fault_of_share : ShareFault → TermsFault
fault_of_share share.StoreFull = StoreFull
fault_of_share share.Memory = Memory
