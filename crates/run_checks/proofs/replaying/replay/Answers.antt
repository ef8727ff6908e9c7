use Rattle.std.proofs.Common.{Bool, List, ℕ, ap, sym, subst, ◌∙◌}
use Rattle.log_check.specs.Words.{words_after}
use Rattle.run_checks.specs.Standing.{Place, Leads, led, place_of}
use Rattle.run_checks.proofs.Growing.{grows_twice}
use Rattle.run_checks.proofs.Replays.{traced, goes_on, stood}
use Rattle.run_checks.proofs.replaying.replay.Goals as goal

pub events-preserved : goal.events-preserved
events-preserved c =
    let i = c.events.invariant in
    let rules = c.args.plan.now.rules in
    let old = c.events.table in
    let new = c.follow.new.table in
    let at = place_of old c.events.cursor in
    let word = c.in-Some.word.now in
    let rest = words_after c.in-Some.after.now in
    let o = led rules word at in
    let s = stood old new c.follow.new.cursor o (subst (λ (b : Bool). Leads old new c.follow.new.cursor o b) c.if-not-branch.false c.in_ok-follow.ensures) in
    record {
      grows = grows_twice c.args.table.now old new i.grows s.stands.grows;
      standing = s.stands.standing;
      same =
          ap (λ (p : Place). traced rules rest p) s.stands.place
          ∙ sym (goes_on rules word rest at s.place s.is)
          ∙ ap (λ (ws : List (List ℕ)). traced rules ws at) (sym c.in-Some.ensures.words)
          ∙ i.same;
    }
