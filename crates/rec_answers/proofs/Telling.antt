-- Commands on terms: what they answer, or why they stop, is what the definitions say of the input.
use Rattle.std.proofs.Common.{◌≡◌, ◌⊎◌, inl, inr, ℕ, List, true, false, refl, sym, ap, subst, ◌∙◌}
use Rattle.faults.specs.declared.refusal.Refusal.{Refusal}
use Rattle.term_commands.specs.declared.fault.TermsFault.{TermsFault}
use Rattle.term_commands.specs.declared.fault.TermsFault.TheVariants as terms
use Rattle.term_commands.specs.Listing.{IsListed, IsUntold, IsTextFault}
use Rattle.term_commands.specs.Packing.{IsPacked}
use Rattle.term_commands.specs.Unpacking.{IsUnpacked, IsClosed, IsFileFault}
use Rattle.term_commands.proofs.OneText.{one_text, one_fault, no_fault, not_too_much}
use Rattle.term_commands.proofs.OneFile.{one_packed, packed_fit, one_unpacked, no_file_fault, one_file_fault}
use Rattle.rec_answers.specs.Written.{Output}
use Rattle.rec_answers.specs.Sequence.{IsSplit}
use Rattle.rec_answers.specs.Output.{IsTold, IsFiled, IsUnfiled}
use Rattle.rec_answers.specs.Answered.{IsAnswer, StopsTelling, StopsUnpacking}
use Rattle.rec_answers.specs.Stops.{stop_of_terms}
use Rattle.rec_answers.specs.declared.answers.Answer.{Answer}
use Rattle.rec_answers.specs.declared.stops.Stop.TheVariants as stop

-- ---- text
pub text_stops : (rows : ℕ) (input : List ℕ) (f : TermsFault) → IsUntold rows input f → StopsTelling rows input (stop_of_terms f)
text_stops rows input (terms.Refused fault) u = u
text_stops rows input terms.StoreFull u = u
text_stops rows input terms.Memory u = u

-- text that has an output stops for want of memory alone
pub told_or_memory : (rows : ℕ) (input : List ℕ) (f : TermsFault) (output : Output) → IsUntold rows input f → IsTold rows input output → stop_of_terms f ≡ stop.Memory
told_or_memory rows input (terms.Refused fault) output u o = absurd (no_fault input o.listed.symbols o.listed.terms fault o.listed.read u)
told_or_memory rows input terms.StoreFull output u o = absurd (not_too_much rows input output.bytes o.listed u)
told_or_memory rows input terms.Memory output u o = refl

pub filed_or_memory : (rows : ℕ) (input : List ℕ) (f : TermsFault) (output : Output) → IsUntold rows input f → IsFiled rows input output → stop_of_terms f ≡ stop.Memory
filed_or_memory rows input (terms.Refused fault) output u o = absurd (no_fault input o.packed.symbols o.packed.terms fault o.packed.read u)
filed_or_memory rows input terms.StoreFull output u o = absurd (packed_fit rows input output.bytes o.packed u)
filed_or_memory rows input terms.Memory output u o = refl

-- text that has a fault stops with it, memory aside
pub text_fault_or_memory : (rows : ℕ) (input : List ℕ) (f : TermsFault) (fault : Refusal) → IsUntold rows input f → IsTextFault input fault → (stop_of_terms f ≡ stop.Refused fault) ⊎ (stop_of_terms f ≡ stop.Memory)
text_fault_or_memory rows input (terms.Refused given) fault u bad = inl (ap stop.Refused (one_fault input given fault u bad))
text_fault_or_memory rows input terms.StoreFull fault u bad = absurd (no_fault input u.symbols u.terms fault u.read bad)
text_fault_or_memory rows input terms.Memory fault u bad = inr refl

pub told_answer : (rows : ℕ) (input text : List ℕ) (count : ℕ) (answer : Answer) (output : Output) → IsListed rows input text → answer.output.items ≡ text → answer.values ≡ true → answer.refuted ≡ false → IsSplit count answer.workers 0 → IsTold rows input output → IsAnswer count answer output
told_answer rows input text count answer output l bytes values refuted workers o = record {
  bytes = bytes ∙ one_text rows input text output.bytes l o.listed;
  values = values ∙ sym o.values;
  refuted = refuted ∙ sym o.refuted;
  workers = subst (IsSplit count answer.workers) (sym o.terms) workers;
}

pub filed_answer : (rows : ℕ) (input file : List ℕ) (count : ℕ) (answer : Answer) (output : Output) → IsPacked rows input file → answer.output.items ≡ file → answer.values ≡ true → answer.refuted ≡ false → IsSplit count answer.workers 0 → IsFiled rows input output → IsAnswer count answer output
filed_answer rows input file count answer output p bytes values refuted workers o = record {
  bytes = bytes ∙ one_packed rows input file output.bytes p o.packed;
  values = values ∙ sym o.values;
  refuted = refuted ∙ sym o.refuted;
  workers = subst (IsSplit count answer.workers) (sym o.terms) workers;
}

-- ---- files
pub file_stops : (input : List ℕ) (f : TermsFault) → IsClosed input f → StopsUnpacking input (stop_of_terms f)
file_stops input (terms.Refused fault) u = u
file_stops input terms.StoreFull u = absurd u
file_stops input terms.Memory u = u

pub unfiled_or_memory : (input : List ℕ) (f : TermsFault) (output : Output) → IsClosed input f → IsUnfiled input output → stop_of_terms f ≡ stop.Memory
unfiled_or_memory input (terms.Refused fault) output u o = absurd (no_file_fault input output.bytes output.values fault o.unpacked u)
unfiled_or_memory input terms.StoreFull output u o = absurd u
unfiled_or_memory input terms.Memory output u o = refl

pub file_fault_or_memory : (input : List ℕ) (f : TermsFault) (fault : Refusal) → IsClosed input f → IsFileFault input fault → (stop_of_terms f ≡ stop.Refused fault) ⊎ (stop_of_terms f ≡ stop.Memory)
file_fault_or_memory input (terms.Refused given) fault u bad = inl (ap stop.Refused (one_file_fault input given fault u bad))
file_fault_or_memory input terms.StoreFull fault u bad = absurd u
file_fault_or_memory input terms.Memory fault u bad = inr refl

pub unfiled_answer : (input : List ℕ) (count : ℕ) (answer : Answer) (output : Output) → IsUnpacked input answer.output.items answer.values → answer.refuted ≡ false → IsSplit count answer.workers 0 → IsUnfiled input output → IsAnswer count answer output
unfiled_answer input count answer output p refuted workers o =
    let same = one_unpacked input answer.output.items output.bytes answer.values output.values p o.unpacked in
    record {
      bytes = same.0;
      values = same.1;
      refuted = refuted ∙ sym o.refuted;
      workers = subst (IsSplit count answer.workers) (sym o.terms) workers;
    }
