use Rattle.std.proofs.Common.{ℕ, ◌+◌, ◌<◌, ◌≤◌, ◌^◌, sym, ap, ◌∙◌, subst, ⊎_elim, arith, true≢false}
use Rattle.std.proofs.lemmas.Bool.{cases_lt}
use Rattle.store_model.specs.declared.view.Sizes.{Sizes}
use Rattle.store_model.specs.Invariant.{span}
use Rattle.node_rows.specs.declared.view.NodeView.{NodeView}
use Rattle.row_sweep.specs.Read.{stays_in_turn}
use Rattle.row_sweep.proofs.Begins.{begin_count, claim_before, worn_as, begin_gathers}
use Rattle.row_sweep.proofs.beginning.begin.Goals as goal

pub returns-then-is_worn-clause-stays : goal.returns-then-is_worn-clause-stays
returns-then-is_worn-clause-stays c = let a = c.args.seat.now in let b = c.load_base-base.new.seat in let d = c.load_claim-claim.new.seat in let e = c.load_free_count-count.new.seat in
    stays_in_turn a.seat a.number a.seats b.seat b.number b.seats e.seat e.number e.seats c.load_base-base.ensures.stays
    (stays_in_turn b.seat b.number b.seats d.seat d.number d.seats e.seat e.number e.seats c.load_claim-claim.ensures.stays c.load_free_count-count.ensures.stays)

pub returns-then-is_worn-clause-worn : goal.returns-then-is_worn-clause-worn
returns-then-is_worn-clause-worn c = let a = c.args.seat.now in let b = c.load_base-base.new.seat in let d = c.load_claim-claim.new.seat in let stays = c.load_base-base.ensures.stays in record {
  claim = c.load_claim-claim.result;
  loads = claim_before c.args.store.now.sizes a.number d.number a.seat.me.0.store b.seat.me.0.store b.seat.me.0.store.call c.load_claim-claim.result (c.load_claim-claim.ensures.stays.number ∙ stays.number) (ap (λ (v : NodeView). v.store) stays.only) c.load_claim-claim.ensures.loads;
  beyond = let l = c.is_worn.ensures.0 c.if-is_worn.true in let e = c.load_base-base.ensures.base in omega arith;
}

pub returns-then-is_worn-clause-unchanged : goal.returns-then-is_worn-clause-unchanged
returns-then-is_worn-clause-unchanged c = let a = c.args.seat.now in let b = c.load_base-base.new.seat in let d = c.load_claim-claim.new.seat in let e = c.load_free_count-count.new.seat in
    let stays = stays_in_turn a.seat a.number a.seats b.seat b.number b.seats e.seat e.number e.seats c.load_base-base.ensures.stays
    (stays_in_turn b.seat b.number b.seats d.seat d.number d.seats e.seat e.number e.seats c.load_claim-claim.ensures.stays c.load_free_count-count.ensures.stays) in
    worn_as c.args.store.now.table.shared.key a.seat.me.0 e.seat.me.0 c.load_base-base.result c.load_claim-claim.result c.load_free_count-count.result c.requires.call stays.only c.load_free_count-count.ensures.call
    (subst (λ (z : Sizes). 2 ^ 62 < c.load_base-base.result + c.load_claim-claim.result + 1 + span z) (sym c.requires.store.told) (c.is_worn.ensures.0 c.if-is_worn.true))

pub invariant_of-result-clause-room : goal.invariant_of-result-clause-room
invariant_of-result-clause-room c = let x : ℕ = c.load_base-base.result + c.load_claim-claim.result + 1 + span c.args.store.now.sizes in
    ⊎_elim (λ l. absurd (true≢false (sym (c.is_worn.ensures.1 l) ∙ c.if-is_worn.false))) (λ past. past) (cases_lt (2 ^ 62) x)

pub invariant_of-result-clause-few : goal.invariant_of-result-clause-few
invariant_of-result-clause-few c = let e = c.load_free_count-count.new.seat in let x : ℕ = c.load_base-base.result + c.load_claim-claim.result + 1 + span c.args.store.now.sizes in
    let room : c.load_base-base.result + c.load_claim-claim.result + 1 + span c.args.store.now.sizes ≤ 2 ^ 62 = ⊎_elim (λ l. absurd (true≢false (sym (c.is_worn.ensures.1 l) ∙ c.if-is_worn.false))) (λ past. past) (cases_lt (2 ^ 62) x) in
    subst (λ (z : Sizes). c.load_free_count-count.result ≤ z.rows) c.requires.store.told
    (begin_count c.args.store.now e.seat e.number e.seats c.load_free_count-count.ensures.alone c.load_free_count-count.ensures.stands c.load_base-base.result c.load_claim-claim.result c.load_free_count-count.result
    (subst (λ (z : Sizes). c.load_base-base.result + c.load_claim-claim.result + 1 + span z ≤ 2 ^ 62) (sym c.requires.store.told) room) c.load_free_count-count.ensures.call)

pub returns-clause-stays : goal.returns-clause-stays
returns-clause-stays c = let a = c.args.seat.now in let b = c.load_base-base.new.seat in let d = c.load_claim-claim.new.seat in let e = c.load_free_count-count.new.seat in
    stays_in_turn a.seat a.number a.seats b.seat b.number b.seats e.seat e.number e.seats c.load_base-base.ensures.stays
    (stays_in_turn b.seat b.number b.seats d.seat d.number d.seats e.seat e.number e.seats c.load_claim-claim.ensures.stays c.load_free_count-count.ensures.stays)

pub returns-clause-gathers : goal.returns-clause-gathers
returns-clause-gathers c = let e = c.load_free_count-count.new.seat in let f = c.load_free_count-count.ensures in begin_gathers _ e.seat e.number e.seats f.alone f.stands f.known f.call

pub invariant_of-result-clause-may : goal.invariant_of-result-clause-may
invariant_of-result-clause-may c = c.requires.store.may

pub invariant_of-result-clause-fits : goal.invariant_of-result-clause-fits
invariant_of-result-clause-fits c = λ s k r. k.strengthened.remembers.counts r

pub returns-clause-loads : goal.returns-clause-loads
returns-clause-loads c = let a = c.args.seat.now in let b = c.load_base-base.new.seat in let d = c.load_claim-claim.new.seat in let stays = c.load_base-base.ensures.stays in
    claim_before c.args.store.now.sizes a.number d.number a.seat.me.0.store b.seat.me.0.store b.seat.me.0.store.call c.load_claim-claim.result (c.load_claim-claim.ensures.stays.number ∙ stays.number) (ap (λ (v : NodeView). v.store) stays.only) c.load_claim-claim.ensures.loads
