use Rattle.std.proofs.Common.{◌≡◌, ◌∙◌, ◌<◌, ℕ, List, true, length, set, refl, sym, subst}
use Rattle.history_core.specs.Entry.{Roots, after}
use Rattle.history_core.specs.Slots.{are_taken}
use Rattle.history_core.specs.Table.{Table, Shows, IsTable}
use Rattle.history_core.proofs.Showing.{all_are_taken, all_are_held}
use Rattle.history_core.proofs.Stepping.{roots_show}
use Rattle.history_core.proofs.Tables.{table_roots}
use Rattle.history_core.proofs.term_table.TermTable.take_roots.Goals as goal

pub returns-then-not-all_taken-clause-decides : goal.returns-then-not-all_taken-clause-decides
returns-then-not-all_taken-clause-decides c = λ seen. (
  refl,
  λ s sh step.
      let t : Table = record { slots = c.self.inside.slots; roots = c.self.inside.roots.items } in
      let taken : are_taken c.self.inside.slots c.args.names.now ≡ true = all_are_taken t s (subst (λ (x : Table). Shows x s) (sym c.self.view_is) sh) c.args.names.now step in
      let yes : c.all_taken.result ≡ true = c.all_taken.ensures ∙ taken in
      let out = c.if-not-all_taken.true in
      absurd (cc),
)

pub invariant_of-self : goal.invariant_of-self
invariant_of-self c =
    let yes : c.all_taken.result ≡ true = let out = c.if-not-all_taken.false in cc in
    let less = subst (λ (t : Table). c.args.caller < length t.roots) (sym c.self.view_is) c.requires in
    subst (λ (names : List ℕ). IsTable c.self.inside.slots (set c.self.inside.roots.items c.args.caller names) c.self.inside.marks) (sym c.in_ok-self-inside.ensures)
    (table_roots c.self.inside.slots c.self.inside.roots.items c.self.inside.marks c.args.caller c.args.names.now c.self.invariant less (sym c.all_taken.ensures ∙ yes))

pub returns-clause-decides : goal.returns-clause-decides
returns-clause-decides c = λ seen s sh.
    let t : Table = record { slots = c.self.inside.slots; roots = c.self.inside.roots.items } in
    let sh' = subst (λ (x : Table). Shows x s) (sym c.self.view_is) sh in
    let yes : c.all_taken.result ≡ true = let out = c.if-not-all_taken.false in cc in
    let held = all_are_held t s sh' c.args.names.now (sym c.all_taken.ensures ∙ yes) in
    let less = subst (λ (x : Table). c.args.caller < length x.roots) (sym c.self.view_is) c.requires in (
      held,
      subst (λ (names : List ℕ). Shows (record { slots = c.self.inside.slots; roots = set c.self.inside.roots.items c.args.caller names }) (after s c.args.caller (Roots seen c.args.names.now)))
          (sym c.in_ok-self-inside.ensures) (roots_show t s sh' c.args.caller seen c.args.names.now less held),
    )
