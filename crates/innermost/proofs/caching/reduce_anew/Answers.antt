use Rattle.std.proofs.Common.{◌≡◌, ℕ, ◌+◌, ◌-◌, Some, sym, subst}
use Rattle.std.proofs.lemmas.Result.{err_from_is_err_and}
use Rattle.terms_api.specs.Terms.{Store}
use Rattle.innermost.specs.declared.normal.Normal.{Normal}
use Rattle.innermost.specs.Spares.{EndSpares}
use Rattle.innermost.specs.Tasks.{IsEnd}
use Rattle.innermost.specs.Remembered.{AreRight}
use Rattle.innermost.specs.Caching.{IsResult, IsCaching}
use Rattle.innermost.proofs.Inside.{end_inside}
use Rattle.innermost.proofs.Memories.{right_now}
use Rattle.innermost.proofs.LeastRooms.{jobs, begins_spare, value_result}
use Rattle.innermost.proofs.Knowing.{job, reduces_itself, value_found, value_unkept, value_places, found_built, other_end, gave_up_so}
use Rattle.innermost.proofs.caching.reduce_anew.Goals as goal

pub reduce-requires : goal.reduce-requires
reduce-requires g c =
    let s = c.requires.state in
    record {
      inside = c.requires.inside;
      frames_room = c.requires.frames_room;
      matcher = c.requires.matcher;
      state = let now = g.T.Terms.store c.args.terms.now in (
        job c.args.rules.now.plan.now c.args.rules.now.code.now s.0 s.1 s.2 (g.M.Memo.map c.args.memo.now) c.args.epoch.now s.3 c.args.parts.now.left now (Some c.args.place.rule) c.args.place.room s.4,
        reduces_itself c.args.rules.now.plan.now c.args.rules.now.code.now s.0 s.1 s.2 (g.M.Memo.map c.args.memo.now) c.args.epoch.now s.3 c.args.parts.now.left now (Some c.args.place.rule) c.args.place.room s.4,
      );
    }

pub returns-in_err-end : goal.returns-in_err-end
returns-in_err-end g c =
    let p = err_from_is_err_and c.from_residual.result c.from_residual.ensures.1 in
    let now = g.T.Terms.store c.args.terms.now in
    record {
      state = rw p.1 tt;
      fault = rw (p.1, p.2) (λ start term fuel at n.
          let n' = n in
          gave_up_so c.args.rules.now.plan.now c.args.rules.now.code.now start term fuel (g.M.Memo.map c.args.memo.now) c.args.epoch.now at c.args.parts.now.left now (Some c.args.place.rule) c.args.place.room n' (g.T.Terms.store c.reduce.new.terms) c.in_err-end.field-0.0
          (c.in_err-end.ensures.fault (job c.args.rules.now.plan.now c.args.rules.now.code.now start term fuel (g.M.Memo.map c.args.memo.now) c.args.epoch.now at c.args.parts.now.left now (Some c.args.place.rule) c.args.place.room n')
          (reduces_itself c.args.rules.now.plan.now c.args.rules.now.code.now start term fuel (g.M.Memo.map c.args.memo.now) c.args.epoch.now at c.args.parts.now.left now (Some c.args.place.rule) c.args.place.room n')));
      frames_room = c.reduce.ensures.frames_room;
      matcher = c.reduce.ensures.matcher;
      same = c.reduce.ensures.same;
    }

pub remember-requires : goal.remember-requires
remember-requires g c =
    let s = c.requires.state in
    let now = g.T.Terms.store c.args.terms.now in
    let j = job c.args.rules.now.plan.now c.args.rules.now.code.now s.0 s.1 s.2 (g.M.Memo.map c.args.memo.now) c.args.epoch.now s.3 c.args.parts.now.left now (Some c.args.place.rule) c.args.place.room s.4 in
    let new = g.T.Terms.store c.reduce.new.terms in
    let h = c.in_ok-end.ensures.state j (reduces_itself c.args.rules.now.plan.now c.args.rules.now.code.now s.0 s.1 s.2 (g.M.Memo.map c.args.memo.now) c.args.epoch.now s.3 c.args.parts.now.left now (Some c.args.place.rule) c.args.place.room s.4) in
    record {
      inside = end_inside c.args.rules.now.plan.now c.args.rules.now.code.now j (g.T.Terms.store c.reduce.new.terms) c.in_ok-end.end
          (c.in_ok-end.ensures.state j (reduces_itself c.args.rules.now.plan.now c.args.rules.now.code.now s.0 s.1 s.2 (g.M.Memo.map c.args.memo.now) c.args.epoch.now s.3 c.args.parts.now.left now (Some c.args.place.rule) c.args.place.room s.4));
      some = value_places c.args.rules.now.plan.now c.args.rules.now.code.now s.0 s.1 s.2 (g.M.Memo.map c.args.memo.now) c.args.epoch.now s.3 c.args.parts.now.left now (Some c.args.place.rule) c.args.place.room s.4 new c.in-Value.left (subst (λ (e : Normal). IsEnd c.args.rules.now.plan.now c.args.rules.now.code.now j new e) c.in-Value.is h);
    }

pub returns-in-Value : goal.returns-in-Value
returns-in-Value g c = record {
  state = λ start term fuel at n.
      let n' = n in
      let new = g.T.Terms.store c.reduce.new.terms in
      let map2 = g.M.Memo.map c.remember.new.memo in
      let later = c.remember.new.epoch in
      let l = c.in-Value.left in
      let j = job c.args.rules.now.plan.now c.args.rules.now.code.now start term fuel (g.M.Memo.map c.args.memo.now) c.args.epoch.now at c.args.parts.now.left (g.T.Terms.store c.args.terms.now) (Some c.args.place.rule) c.args.place.room n' in
      let v = subst (λ (e : Normal). IsEnd c.args.rules.now.plan.now c.args.rules.now.code.now j new e) c.in-Value.is (c.in_ok-end.ensures.state j (reduces_itself c.args.rules.now.plan.now c.args.rules.now.code.now start term fuel (g.M.Memo.map c.args.memo.now) c.args.epoch.now at c.args.parts.now.left (g.T.Terms.store c.args.terms.now) (Some c.args.place.rule) c.args.place.room n')) in
      let e = c.remember.ensures in
      let js = jobs c.args.rules.now.plan.now c.args.rules.now.code.now start term fuel (g.M.Memo.map c.args.memo.now) c.args.epoch.now at c.args.parts.now.left (g.T.Terms.store c.args.terms.now) (Some c.args.place.rule) c.args.place.room n' in
      let spare = c.reduce.new.spare.least in
      let ends = subst (λ (e : Normal). EndSpares c.args.rules.now.plan.now c.args.rules.now.code.now js spare new e) c.in-Value.is (c.in_ok-end.ensures.spare js (begins_spare c.args.rules.now.plan.now c.args.rules.now.code.now start term fuel (g.M.Memo.map c.args.memo.now) c.args.epoch.now at c.args.parts.now.left (g.T.Terms.store c.args.terms.now) (Some c.args.place.rule) c.args.place.room n')) in
      let built = found_built c.args.rules.now.plan.now c.args.rules.now.code.now start term fuel (g.M.Memo.map c.args.memo.now) c.args.epoch.now at c.args.parts.now.left (g.T.Terms.store c.args.terms.now) (Some c.args.place.rule) c.args.place.room n' new l v in
      let result = subst (λ (i : ℕ). IsResult c.args.rules.now.plan.now.rules built c.args.epoch.now new c.args.place.row c.saturating_sub-taken.result i) (sym c.saturating_sub-least.ensures)
      (subst (λ (i : ℕ). IsResult c.args.rules.now.plan.now.rules built c.args.epoch.now new c.args.place.row i (c.args.place.room - spare)) (sym c.saturating_sub-taken.ensures) (value_result c.args.rules.now.plan.now c.args.rules.now.code.now start term fuel (g.M.Memo.map c.args.memo.now) c.args.epoch.now at c.args.parts.now.left (g.T.Terms.store c.args.terms.now) (Some c.args.place.rule) c.args.place.room n' new l spare ends v c.args.place.row c.requires.row c.requires.epoch)) in
      let right = subst (λ (s : Store). AreRight c.args.rules.now.plan.now.rules built s map2) e.unchanged (e.right c.args.rules.now.plan.now.rules built (value_unkept c.args.rules.now.plan.now c.args.rules.now.code.now start term fuel (g.M.Memo.map c.args.memo.now) c.args.epoch.now at c.args.parts.now.left (g.T.Terms.store c.args.terms.now) (Some c.args.place.rule) c.args.place.room n' new l v) result) in
      let memory = right_now c.args.rules.now.plan.now.rules built map2 later new right (subst (λ (s : Store). later ≡ s.epoch) e.unchanged e.epoch) in
      subst (λ (s : Store). IsCaching c.args.rules.now.plan.now c.args.rules.now.code.now start term fuel map2 later (at + 1) l s) (sym e.unchanged)
      (value_found c.args.rules.now.plan.now c.args.rules.now.code.now start term fuel (g.M.Memo.map c.args.memo.now) c.args.epoch.now at c.args.parts.now.left (g.T.Terms.store c.args.terms.now) (Some c.args.place.rule) c.args.place.room n' map2 later new l v memory);
  fault = tt;
  frames_room = c.reduce.ensures.frames_room;
  matcher = c.reduce.ensures.matcher;
  same = g.met.T.Terms.same_in_turn _ _ _ c.reduce.ensures.same c.remember.ensures.same;
}

pub returns-in_default : goal.returns-in_default
returns-in_default g c =
    let e = c.in_ok-end.ensures in
    record {
      state = λ start term fuel at n. (let n' = n in
          other_end c.args.rules.now.plan.now c.args.rules.now.code.now start term fuel (g.M.Memo.map c.args.memo.now) c.args.epoch.now at c.args.parts.now.left (g.T.Terms.store c.args.terms.now) (Some c.args.place.rule) c.args.place.room n' (g.T.Terms.store c.reduce.new.terms) c.in_ok-end.end (e.state (job c.args.rules.now.plan.now c.args.rules.now.code.now start term fuel (g.M.Memo.map c.args.memo.now) c.args.epoch.now at c.args.parts.now.left (g.T.Terms.store c.args.terms.now) (Some c.args.place.rule) c.args.place.room n') (reduces_itself c.args.rules.now.plan.now c.args.rules.now.code.now start term fuel (g.M.Memo.map c.args.memo.now) c.args.epoch.now at c.args.parts.now.left (g.T.Terms.store c.args.terms.now) (Some c.args.place.rule) c.args.place.room n')) c.in_default.not-Value);
      fault = tt;
      frames_room = e.frames_room;
      matcher = e.matcher;
      same = e.same;
    }
