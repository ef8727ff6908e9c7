use Rattle.std.proofs.Common.{List, ℕ, refl, subst}
use Rattle.run_checks.specs.Held.{IsPut, term_over}
use Rattle.run_checks.proofs.Moves.{frame_argument, goes_up}
use Rattle.run_checks.proofs.cursor.Cursor.up.Goals as goal

pub with_number-requires : goal.with_number-requires
with_number-requires c =
    frame_argument c.args.table.now c.args.self.now c.pop.new.self.items c.in-Some.frame c.at.result.0 c.at.result.1.now c.requires c.in-Some.ensures.items c.at.ensures.term

pub returns : goal.returns
returns c =
    let old = c.args.table.now in
    let put = subst (λ (ns : List ℕ). IsPut old c.put.new.self c.in_ok-self.field-0 (term_over old c.at.result.0 ns)) c.in_ok-arguments.ensures c.in_ok-self.ensures in
    goes_up old c.put.new.self c.args.self.now (record { frames = c.pop.new.self; number = c.in_ok-self.field-0 }) c.pop.new.self.items c.in-Some.frame c.at.result.0 c.at.result.1.now c.in_ok-self.field-0 c.requires c.in-Some.ensures.items c.at.ensures.term put refl refl
