-- Desks at new passes are ready for workers, and are out after them.
use Rattle.std.proofs.Common.{◌≡◌, ℕ, ◌<◌, ◌≤◌, ◌^◌, List, ◌++◌, take, get_or, length, sym, ap, subst, ◌∙◌, arith}
use Rattle.std.specs.Prelude.{All, false, max}
use Rattle.std.proofs.Math.Seq.{take-append_seam}
use Rattle.std.proofs.lemmas.Option.{slice_get-get_or}
use Rattle.settings.specs.Words.{AreInRange}
use Rattle.settings.specs.declared.parts.Settings.{Settings}
use Rattle.rule_match.specs.Planned.{Planned}
use Rattle.busy_forbidden.specs.Dealt.{EachPlace}
use Rattle.store_model.specs.declared.view.Sizes.{Sizes}
use Rattle.store_model.specs.Machine.{widest}
use Rattle.node_rows.specs.declared.store.Store.{Store}
use Rattle.rewrite_workers.specs.Desks.{IsReady}
use Rattle.shared_desk.specs.Code.{Contents}
use Rattle.shared_desk.specs.Desk.{store_of}
use Rattle.work_desks.specs.NewDesks.{sizes_for, IsNewDesk}

wide : (m n : ℕ) → m ≤ max m n
wide m n = grind arith

pub is_ready : (s : Settings) (plan : Planned) (store : Store) (k : ℕ) (d : Contents) → store.sizes ≡ sizes_for s plan → IsNewDesk store k d → IsReady s plan (store_of d)
is_ready s plan store k d e new =
    let rows : d.pass.rows ≡ s.rows = new.rows ∙ ap (λ (z : Sizes). z.rows) e in
    let room : d.pass.depth ≡ s.depth = new.depth ∙ ap (λ (z : Sizes). z.depth) e in
    let width : d.pass.arity ≡ max plan.widest 2 = new.arity ∙ ap widest e in
    let more = wide plan.widest 2 in
    record { outside = new.outside; empty = new.stack; rows = omega (arith, rows); room = omega (arith, room); width = omega (arith, width, more) }

pub all_ready : (s : Settings) (plan : Planned) (store : Store) (n : ℕ) (ds es : List Contents) → es ≡ ds → store.sizes ≡ sizes_for s plan → EachPlace (IsNewDesk store) n ds → All (λ d. IsReady s plan (store_of d)) es
all_ready s plan store n ds es same e each =
    subst (All (λ d. IsReady s plan (store_of d))) (sym same)
    (λ k d lt. is_ready s plan store k (get_or ds k d) e (each.each k (get_or ds k d) (slice_get-get_or ds k d lt)))

pub all_outside : (s : Settings) (plan : Planned) (ds : List Contents) → All (λ d. IsReady s plan (store_of d)) ds → All (λ d. (store_of d).inside ≡ false) ds
all_outside s plan ds all = λ k d lt. (all k d lt).outside

pub workers_are : (s : Settings) (plan : Planned) (store : Store) (ds es : List Contents) → es ≡ ds → store.sizes ≡ sizes_for s plan → EachPlace (IsNewDesk store) store.sizes.seats ds → length es ≡ s.workers
workers_are s plan store ds es same e each = ap length same ∙ each.count ∙ ap (λ (z : Sizes). z.seats) e

pub has_workers : (s : Settings) → AreInRange s → (1 ≤ s.workers) × (s.workers ≤ 16)
has_workers s r = let h = r.workers in grind (arith, h)

pub some_workers : (s : Settings) (plan : Planned) (store : Store) (ds es : List Contents) → AreInRange s → es ≡ ds → store.sizes ≡ sizes_for s plan → EachPlace (IsNewDesk store) store.sizes.seats ds → (0 < length es) × (length es < 2 ^ 32)
some_workers s plan store ds es r same e each =
    let n = workers_are s plan store ds es same e each in
    let h = has_workers s r in
    (omega (arith, n, h.0), omega (arith, n, h.1))

-- a list that was lent whole is what came back
pub refilled : {A : Type 0} (n : ℕ) (xs rest : List A) → n ≡ length xs → take n (xs ++ rest) ≡ xs
refilled n xs rest e = ap (λ j. take j (xs ++ rest)) e ∙ take-append_seam xs rest
