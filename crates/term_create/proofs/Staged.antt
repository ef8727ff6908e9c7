-- What a stage of a creation leaves, by what its step tells.
use Rattle.std.proofs.Common.{◌≡◌, ℕ, Bool, true, false, cond, Option, length, pred, ap, ◌∙◌, subst, eq-eqb}
use Rattle.std.specs.Prelude.{MatchBool}
use Rattle.atomic_table.specs.declared.shared.Seat.{Seat}
use Rattle.store_model.specs.declared.view.Call.{Call}
use Rattle.store_model.specs.declared.view.Call.TheVariants.{Comparing, Passing, Finding}
use Rattle.store_model.specs.declared.view.Content.{Content}
use Rattle.store_model.specs.Calls.{words_of}
use Rattle.store_model.specs.declared.view.Sizes.{Sizes}
use Rattle.store_model.specs.Machine.{action}
use Rattle.node_rows.specs.declared.view.NodeView.{NodeView}
use Rattle.node_rows.specs.Steps.{IsOf, Known, with_store, went}
use Rattle.term_create.specs.declared.asked.Asked.{Asked}
use Rattle.term_create.specs.Stage.{IsAt, IsOther, at_call, stage}
use Rattle.term_create.proofs.Views.{on_call}

pub at_stage : (a : Asked) (b : Seat (Unit {0}) NodeView) → IsOf a.store.now.table.shared.table_id a.store.now.table.shared.key b → Known a.store.now.table.shared.key b.me.0.store → IsAt a b
at_stage a b of known = record { of = of; known = subst (λ (z : Sizes). Known z b.me.0.store) a.at.told known }

-- the own view after the step of the call x
pub moved_at : (v w : NodeView) (x : Call) (n : ℕ) → v.store.call ≡ x → w ≡ with_store v (went v.store n) → w ≡ with_store v ((action v.store x).moved n)
moved_at v w x n at e = e ∙ ap (λ (y : Call). with_store v ((action v.store y).moved n)) at

-- all words were compared
pub stage_end : (c : Content) (d : Option (ℕ × ℕ)) (from old at k : ℕ) → k ≡ length (words_of c) → stage c d from old at k ≡ Finding c d (pred at)
stage_end c d from old at k e = ap (λ (b : Bool). cond b (Finding c d (pred at)) (Comparing c d from old at k)) (eq-eqb k (length (words_of c)) e)

-- a comparison after another one that found the same
pub compared_on : (v u w : NodeView) (c : Content) (d : Option (ℕ × ℕ)) (from old at : ℕ) (x y : Call) (r : Bool) → u ≡ at_call v x → MatchBool r (w ≡ at_call u y) (IsOther u w c d from old at)
    → MatchBool r (w ≡ at_call v y) (IsOther v w c d from old at)
compared_on v u w c d from old at x y true e h = on_call v u w x y e h
compared_on v u w c d from old at x y false e h = record { word = h.word; found = h.found; differs = h.differs; view = on_call v u w x (Passing c d from old at (h.word, h.found)) e h.view }
