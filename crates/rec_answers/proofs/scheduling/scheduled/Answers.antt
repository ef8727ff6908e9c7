use Rattle.std.proofs.Common.{◌++◌, refl, sym, ap, subst, ◌∙◌, inl}
use Rattle.std.proofs.lemmas.Result.{err_from_is_err_and}
use Rattle.lock_core.specs.StateText.{state_text}
use Rattle.rec_answers.specs.Sequence.{IsSplit}
use Rattle.rec_answers.specs.declared.stops.Stop.TheVariants.{Refused}
use Rattle.rec_answers.proofs.Ending.{has_seats}
use Rattle.rec_answers.proofs.Joined.{no_workers}
use Rattle.rec_answers.proofs.OneOutcome.{one_output, no_fault, no_output, one_fault}
use Rattle.rec_answers.proofs.scheduling.scheduled.Goals as goal

pub returns-in_err-state-clause-accepted : goal.returns-in_err-state-clause-accepted
returns-in_err-state-clause-accepted c = λ output s. absurd (no_output _ _ c.in_err-state.field-0.0 output (has_seats _ c.requires).1 c.in_err-state.ensures s)

pub returns-in_err-state-clause-refused : goal.returns-in_err-state-clause-refused
returns-in_err-state-clause-refused c = λ fault s.
    let p = err_from_is_err_and c.from_residual.result c.from_residual.ensures.1 in
    rw (p.1, p.2) (inl (ap Refused (sym (one_fault _ _ c.in_err-state.field-0.0 fault (has_seats _ c.requires).1 c.in_err-state.ensures s))))

pub returns-in-Ok-clause-made : goal.returns-in-Ok-clause-made
returns-in-Ok-clause-made c =
    let made = c.in-Ok.ensures.ok ∙ ap (λ xs. xs ++ state_text c.in_ok-state.state) c.new-output.ensures.items in
    (_, record { lock = c.in_ok-state.state; comes = c.in_ok-state.ensures; output_is = refl }, record { bytes = made; values = refl; refuted = refl; workers = no_workers _ _ c.none.ensures })

pub returns-in-Ok-clause-accepted : goal.returns-in-Ok-clause-accepted
returns-in-Ok-clause-accepted c = λ output s.
    let made = c.in-Ok.ensures.ok ∙ ap (λ xs. xs ++ state_text c.in_ok-state.state) c.new-output.ensures.items in
    let is = one_output _ _ c.in_ok-state.state output (has_seats _ c.requires).1 c.in_ok-state.ensures s in
    record {
      bytes = made ∙ sym (ap (λ o. o.bytes) is);
      values = sym (ap (λ o. o.values) is);
      refuted = sym (ap (λ o. o.refuted) is);
      workers = subst (λ n. IsSplit c.args.settings.now.workers c.none.result n) (sym (ap (λ o. o.terms) is)) (no_workers _ _ c.none.ensures);
    }

pub returns-in-Ok-clause-refused : goal.returns-in-Ok-clause-refused
returns-in-Ok-clause-refused c = λ fault s. no_fault _ _ c.in_ok-state.state fault (has_seats _ c.requires).1 c.in_ok-state.ensures s
