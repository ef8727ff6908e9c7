use Rattle.std.proofs.Common.{◌≡◌, ℕ, get_or, refl, ap, ◌∙◌, subst, ⊎_elim, arith}
use Rattle.std.proofs.lemmas.Bool.{cases_lt}
use Rattle.store_model.specs.declared.view.Place.{Place}
use Rattle.store_model.specs.declared.view.Place.TheVariants.{Bucket}
use Rattle.row_sweep.specs.Gathered.{words_of}
use Rattle.row_sweep.specs.Read.{again_itself, again_in_turn}
use Rattle.row_sweep.specs.Compared.{told_by}
use Rattle.row_sweep.proofs.comparing.compare_heads.Goals as goal

pub compare_head-requires-clause-small : goal.compare_head-requires-clause-small
compare_head-requires-clause-small c = let e = c.loop-b.invariant.rest c.loop-b.b (omega arith) in let s = c.requires.small c.loop-b.b (omega arith) in omega arith

pub loop-b-init : goal.loop-b-init
loop-b-init c = let s = c.args.seat.now in record { at = c.requires.at; again = again_itself c.args.sweep.now s.seat s.number s.seats; tells = λ b l. absurd (omega arith); rest = λ b l. refl; size = refl }

pub loop-b-preserved : goal.loop-b-preserved
loop-b-preserved c =
    let a = c.args.seat.now in
    let t = c.loop-b.seat in
    let s = c.compare_head.new.seat in
    let i = c.loop-b.invariant in
    let e = c.compare_head.ensures in
    let w = words_of a.seat in
    let told : told_by (words_of a.seat (Bucket c.loop-b.b)) (get_or c.compare_head.new.heads c.loop-b.b 0) ≡ get_or c.loop-b.heads c.loop-b.b 0 =
    subst (λ (u : Place → ℕ). told_by (u (Bucket c.loop-b.b)) (get_or c.compare_head.new.heads c.loop-b.b 0) ≡ get_or c.loop-b.heads c.loop-b.b 0) i.again.words e.tells in record {
      at = e.at;
      again = again_in_turn c.args.sweep.now a.seat a.number a.seats t.seat t.number t.seats s.seat s.number s.seats i.again e.again;
      tells = λ b l. ⊎_elim (λ less. ap (told_by (w (Bucket b))) (e.others b (λ same. let x : b ≡ c.loop-b.b = same in omega arith)) ∙ i.tells b less)
          (λ past. let x : c.loop-b.b ≡ b = omega arith in subst (λ (q : ℕ). told_by (words_of a.seat (Bucket q)) (get_or c.compare_head.new.heads q 0) ≡ get_or c.args.heads.now q 0) x (told ∙ i.rest c.loop-b.b (omega arith))) (cases_lt b c.loop-b.b);
      rest = λ b l. e.others b (λ same. let x : b ≡ c.loop-b.b = same in omega arith) ∙ i.rest b (omega arith);
      size = e.size ∙ i.size;
    }

pub returns : goal.returns
returns c = record {
  at = c.loop-b.invariant.at;
  again = c.loop-b.invariant.again;
  tells = λ b l. c.loop-b.invariant.tells b (let past = c.loop-b-test.false in omega arith);
  size = c.loop-b.invariant.size;
}
