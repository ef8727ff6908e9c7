use Rattle.std.proofs.Common.{◌≡◌, ◌∙◌, length, ap, inr, Some}
use Rattle.std.proofs.lemmas.Result.{err_from_is_err_and}
use Rattle.term_syntax.specs.Shown.{machine_in}
use Rattle.term_syntax.specs.Steps.{settled_at, accepted}
use Rattle.term_syntax.specs.State.{Machine}
use Rattle.term_syntax.proofs.Passing.{stop_refusal}
use Rattle.term_syntax.proofs.Verdicts.{spelled, end_refusal}
use Rattle.term_syntax.proofs.parser.syntax.Goals as goal

pub returns-in_err-machine-clause-refused : goal.returns-in_err-machine-clause-refused
returns-in_err-machine-clause-refused c =
    let p = err_from_is_err_and c.from_residual.result c.from_residual.ensures.1 in
    rw (p.1, p.2) (stop_refusal c.args.bytes.now c.in_err-machine.field-0.0 c.in_err-machine.ensures.stopped)

same : (m n : Machine) → Some m ≡ Some n → accepted m ≡ accepted n
same m n e = let f : m ≡ n = cc in ap accepted f

pub returns-in-Some-clause-read : goal.returns-in-Some-clause-read
returns-in-Some-clause-read c =
    let bytes = c.args.bytes.now in
    let m = machine_in bytes c.in_ok-machine.machine in
    let r = c.in_ok-machine.ensures.ran in
    record {
      tokens = r.tokens;
      cut = r.cut;
      spelled =
          spelled r.tokens m _ r.ran
          (same (settled_at m.place m) (machine_in bytes c.settle.new.self) c.in-Ok.ensures ∙ c.in-Some.ensures.some);
    }

pub returns-in-None-clause-refused : goal.returns-in-None-clause-refused
returns-in-None-clause-refused c =
    let bytes = c.args.bytes.now in
    let m = machine_in bytes c.in_ok-machine.machine in
    let r = c.in_ok-machine.ensures.ran in
    rw c.refused.ensures (inr (record {
      tokens = r.tokens;
      cut = r.cut;
      refused =
          end_refusal (length bytes) r.tokens m r.ran
          (same (settled_at m.place m) (machine_in bytes c.settle.new.self) c.in-Ok.ensures ∙ c.in-None.ensures.none);
    }))
