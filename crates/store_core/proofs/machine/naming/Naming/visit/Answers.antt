use Rattle.std.proofs.Common.{List, ℕ, ◌≡◌, ◌<◌, Bool, true, false, length, get_or, set, sym, subst, arith}
use Rattle.store_model.specs.Machine.{MayName}
use Rattle.store_model.specs.Shown.{shown}
use Rattle.store_core.specs.Naming.{Visits, Halfway}
use Rattle.store_core.proofs.Naming.{visits_one, visited}
use Rattle.store_core.proofs.machine.naming.Naming.visit.Goals as goal

pub returns-clause-visits : goal.returns-clause-visits
returns-clause-visits c =
    let there : c.in_ok-row.row < length c.args.self.now.marks.items = (let e = c.args.self.now.marks.ok.0 in let l = c.len.ensures in omega arith) in
    let off : get_or c.args.self.now.marks.items c.in_ok-row.row false ≡ false = sym (subst (λ (x : Bool). x ≡ get_or c.args.self.now.marks.items c.in_ok-row.row x) c.if-index.false c.index.ensures) in
    subst (λ (ws : List ℕ). Visits c.args.self.now.marks.items (set c.args.self.now.marks.items c.in_ok-row.row true) c.args.self.now.waiting.items ws) (sym c.in_ok-push.ensures.items) (visits_one c.args.self.now.marks.items c.in_ok-row.row c.args.self.now.waiting.items there off)

pub returns-clause-halfway : goal.returns-clause-halfway
returns-clause-halfway c = λ here h.
    let there : c.in_ok-row.row < length c.args.self.now.marks.items = (let e = c.args.self.now.marks.ok.0 in let l = c.len.ensures in omega arith) in
    let w = shown c.args.table.now.sizes c.args.table.now.words.items in
    subst (λ (ws : List ℕ). Halfway w c.args.seat c.args.view.now (set c.args.self.now.marks.items c.in_ok-row.row true) ws here) (sym c.in_ok-push.ensures.items)
    (visited w c.args.seat c.args.view.now c.args.self.now.marks.items c.args.self.now.waiting.items here c.in_ok-row.row there (let P : ℕ → Type 0 = MayName w c.args.seat c.args.view.now in subst P (sym c.in_ok-row.ensures) c.requires) h)
