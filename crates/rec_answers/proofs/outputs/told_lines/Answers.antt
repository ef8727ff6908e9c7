use Rattle.std.proofs.Common.{◌∙◌, List, length, map, ap, sym, subst, refl}
use Rattle.std.specs.List.{list_all}
use Rattle.term_lines.specs.Line.{is_value_kind}
use Rattle.worker_crew.specs.declared.lines.Line.{Line}
use Rattle.rec_answers.specs.Sequence.{IsSplit}
use Rattle.rec_answers.proofs.Traces.{text_is}
use Rattle.rec_answers.proofs.outputs.told_lines.Goals as goal

pub returns-clause-made : goal.returns-clause-made
returns-clause-made c = λ spec a. record {
  bytes = c.in_ok-output.ensures ∙ text_is c.args.settings.now spec c.args.lines.now a;
  values = c.are_values.ensures ∙ (ap (λ (xs : List Line). list_all (λ (l : Line). is_value_kind l.kind) xs) c.deref-2.ensures.value ∙ a.values);
  refuted = refl;
  workers = subst (λ ws. IsSplit c.args.settings.now.workers ws (length spec.terms)) (sym (c.in_ok-workers.ensures ∙ ap (λ (xs : List Line). map (λ (l : Line). l.worker) xs) c.deref.ensures.value)) a.workers;
}
