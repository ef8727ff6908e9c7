use Rattle.rec_offences.proofs.Common.{nat_tests, arith, ◌≡◌, ℕ, false, nat_eq, Option, Some, ap, sym, ◌∙◌, common_steps, option_eq, path_of, cut}
use Rattle.rec_offences.proofs.Levels.{cut_further, cut_there, no_level}
use Rattle.rec_offences.proofs.inclusion.Inclusion.return_to.Goals as goal

other_some : (o : Option ℕ) (n : ℕ) → option_eq nat_eq o (Some n) ≡ false → (p : ℕ) → o ≡ Some p → nat_eq p n ≡ false
other_some o n e p is = ap (λ q. option_eq nat_eq q (Some n)) (sym is) ∙ e

pub returns-clause-none : goal.returns-clause-none
returns-clause-none c = λ _. no_level c.loop-last.self.levels.items (λ n e. c.in_default.not-Some n (c.last_number.ensures ∙ e))

pub returns-then-eq-clause-path : goal.returns-then-eq-clause-path
returns-then-eq-clause-path c = grind (arith, common_steps, nat_tests, cut_there)

pub returns-clause-path : goal.returns-clause-path
returns-clause-path c = grind (arith, common_steps, no_level, nat_tests)

pub loop-last-preserved : goal.loop-last-preserved
loop-last-preserved c =
    let ls = c.loop-last.self.levels.items in
    record {
      kept = λ bytes specifications at. c.leave.ensures.kept bytes specifications (c.loop-last.invariant.kept bytes specifications at);
      path =
          ap (λ xs. cut c.args.number (path_of xs)) c.leave.ensures.levels
          ∙ cut_further c.args.number ls c.in-Some.last (sym c.last_number.ensures ∙ c.in-Some.is) (other_some c.args.number c.in-Some.last (sym c.eq.ensures ∙ c.if-eq.false))
          ∙ c.loop-last.invariant.path;
    }
