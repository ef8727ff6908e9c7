-- What the status says of an input that was checked.
use Rattle.std.proofs.Common.{◌≡◌, ℕ, List, Bool, true, false, Option, refl, sym, ap, ◌∙◌}
use Rattle.settings.specs.declared.parts.Command.{Command}
use Rattle.settings.specs.declared.parts.Command.TheVariants.{Rewrite, Drill, Schedule, Terms, Pack, Unpack, CheckLog, CheckTrace, Outermost}
use Rattle.settings.specs.declared.parts.Settings.{Settings}
use Rattle.rec_answers.specs.Written.{Output, status_for, status_of}
use Rattle.rec_answers.specs.Output.{IsOutputOf, IsUpheldBy, IsRefutedBy}
use Rattle.rec_answers.specs.Run.{HasOutput, IsUpheld, IsRefuted}
use Rattle.rec_answers.proofs.LogVerdicts.{good_log, bad_log}
use Rattle.rec_answers.proofs.Tracing.{derived, underived}

-- at 0 the output doesn't refute the input, and at 9 it does
at_zero : (v r : Bool) → status_for v r ≡ 0 → r ≡ false
at_zero true true e = cc
at_zero false true e = cc
at_zero true false e = refl
at_zero false false e = refl

at_nine : (v r : Bool) → status_for v r ≡ 9 → r ≡ true
at_nine true true e = refl
at_nine false true e = refl
at_nine true false e = cc
at_nine false false e = cc

upheld_by : (c : Command) (s : Settings) (input : List ℕ) (output : Output) → IsOutputOf c s input output → output.refuted ≡ false → IsUpheldBy c input
upheld_by Rewrite s input output o e = tt
upheld_by Drill s input output o e = tt
upheld_by Schedule s input output o e = tt
upheld_by Terms s input output o e = tt
upheld_by Pack s input output o e = tt
upheld_by Unpack s input output o e = tt
upheld_by CheckLog s input output o e = good_log input output o e
upheld_by CheckTrace s input output o e = derived input output o e
upheld_by Outermost s input output o e = tt

never : (output : Output) → output.refuted ≡ false → output.refuted ≡ true → ⊥
never output f t = let bad : false ≡ true = sym f ∙ t in cc

refuted_by : (c : Command) (s : Settings) (input : List ℕ) (output : Output) → IsOutputOf c s input output → output.refuted ≡ true → IsRefutedBy c input
refuted_by Rewrite s input output o e = never output (ap (λ (x : Output). x.refuted) o.0.output_is) e
refuted_by Drill s input output o e = never output (ap (λ (x : Output). x.refuted) o.output_is) e
refuted_by Schedule s input output o e = never output (ap (λ (x : Output). x.refuted) o.output_is) e
refuted_by Terms s input output o e = never output o.refuted e
refuted_by Pack s input output o e = never output o.refuted e
refuted_by Unpack s input output o e = never output o.refuted e
refuted_by CheckLog s input output o e = bad_log input output o e
refuted_by CheckTrace s input output o e = underived input output o e
refuted_by Outermost s input output o e = never output (ap (λ (x : Output). x.refuted) o.0.output_is) e

module _ {S : Type 0} (words : List (List ℕ)) (left : S → Option (List ℕ)) (before after : S) (output : Output) (status : ℕ) where
  pub upheld : HasOutput words left before after output → status ≡ status_of output → status ≡ 0 → IsUpheld words left before after
  upheld has is e =
      let gave = has.2 in
      (has.0, has.1, (gave.input, gave.read, upheld_by has.0.command has.0 gave.input output gave.output_is.output_is (at_zero output.values output.refuted (sym is ∙ e))))

  pub refutes : HasOutput words left before after output → status ≡ status_of output → status ≡ 9 → IsRefuted words left before after
  refutes has is e =
      let gave = has.2 in
      (has.0, has.1, (gave.input, gave.read, refuted_by has.0.command has.0 gave.input output gave.output_is.output_is (at_nine output.values output.refuted (sym is ∙ e))))
