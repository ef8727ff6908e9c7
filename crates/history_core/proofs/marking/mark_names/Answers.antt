use Rattle.std.proofs.Common.{◌≡◌, ◌∙◌, ◌<◌, ℕ, List, refl, sym, subst}
use Rattle.std.specs.Prelude.{Contains}
use Rattle.mark_phase.specs.Reachable.{Reaches, AddsReached}
use Rattle.history_core.specs.Slots.{Slots, row, children}
use Rattle.history_core.specs.Marking.{AddsAll}
use Rattle.history_core.proofs.Members.{contains_here, contains_there}
use Rattle.history_core.proofs.Marked.{adds_first, closed_after, reached_below}
use Rattle.history_core.proofs.marking.mark_names.Goals as goal

pub loop-name-init : goal.loop-name-init
loop-name-init c =
    let whole : c.into_iter-name-iterator.result ≡ c.args.names.now = c.into_iter-name-iterator.ensures.into_iter_gives ∙ c.iter-name-items.ensures.rest in
    record {
      same = refl;
      size = c.requires.size;
      within = λ n k. c.requires.within n (subst (λ (ns : List ℕ). Contains ns n) whole k);
      closed = c.requires.closed;
      marked = λ new adds. subst (λ (ns : List ℕ). AddsAll (children c.args.slots.now) ns c.args.marks.now new) whole adds;
    }

pub mark-requires-clause-below : goal.mark-requires-clause-below
mark-requires-clause-below c = λ r reaches.
    let inv = c.loop-name.invariant in
    let here = subst (λ (ns : List ℕ). Contains ns c.in-Some.name.now) (sym c.in-Some.ensures.steps) (contains_here c.in-Some.name.now c.next.new.self) in
    let there = subst (λ (s : Slots). Reaches (children s) (row c.in-Some.name.now) r) inv.same reaches in
    subst (λ (k : ℕ). r.0 < k) (sym inv.size) (reached_below c.args.slots.now c.requires.args c.in-Some.name.now (inv.within c.in-Some.name.now here) there)

pub loop-name-preserved : goal.loop-name-preserved
loop-name-preserved c =
    let inv = c.loop-name.invariant in
    let n = c.in-Some.name.now in
    let rest = c.next.new.self in
    let adds : AddsReached (children c.args.slots.now) (row n) c.loop-name.marks c.mark.new.marks =
    subst (λ (s : Slots). AddsReached (children s) (row n) c.loop-name.marks c.mark.new.marks) inv.same c.mark.ensures.marked in
    record {
      same = c.mark.ensures.same ∙ inv.same;
      size = adds.rows ∙ inv.size;
      within = λ m k. inv.within m (subst (λ (ns : List ℕ). Contains ns m) (sym c.in-Some.ensures.steps) (contains_there n rest m k));
      closed = closed_after (children c.args.slots.now) n c.loop-name.marks c.mark.new.marks adds inv.closed;
      marked = λ new more. inv.marked new (subst (λ (ns : List ℕ). AddsAll (children c.args.slots.now) ns c.loop-name.marks new) (sym c.in-Some.ensures.steps)
          (adds_first (children c.args.slots.now) n rest c.loop-name.marks c.mark.new.marks new adds more));
    }
