use Rattle.std.proofs.Common.{◌≡◌, ◌-◌, ◌<◌, length, Some, sym, ◌∙◌, subst, ap, refl}
use Rattle.std.proofs.lemmas.Result.{IfOk-weaker, IfErr-weaker}
use Rattle.terms_api.specs.Terms.{Store}
use Rattle.innermost.specs.Remembered.{AreRight}
use Rattle.innermost.specs.Caching.{WasRight, IsTaken}
use Rattle.innermost.proofs.Memories.{same_right}
use Rattle.innermost.proofs.Knowing.{node_places, node_built, node_memory, node_looked, value_taken}
use Rattle.std.specs.Prelude.{slice_get}
use Rattle.innermost.proofs.caching.reduce_known.Goals as goal

pub top_row-row-requires : goal.top_row-row-requires
top_row-row-requires g c =
    let s = c.requires.state in
    record {
      inside = c.requires.inside;
      some = node_places c.args.rules.now.plan.now c.args.rules.now.code.now s.0 s.1 s.2 (g.M.Memo.map c.args.memo.now) c.args.epoch.now s.3 c.args.parts.now.left (g.T.Terms.store c.args.terms.now) (Some c.args.rule) c.args.room s.4;
    }

pub take_known-requires : goal.take_known-requires
take_known-requires g c =
    let s = c.requires.state in
    let t = c.top_row-row.ensures in
    let built = node_built c.args.rules.now.plan.now c.args.rules.now.code.now s.0 s.1 s.2 (g.M.Memo.map c.args.memo.now) c.args.epoch.now s.3 c.args.parts.now.left (g.T.Terms.store c.args.terms.now) (Some c.args.rule) c.args.room s.4 in
    record {
      inside = ap (λ (q : Store). q.inside) c.top_row-row.ensures.unchanged ∙ c.requires.inside;
      some = subst (λ (q : Store). 0 < length q.stack) (sym c.top_row-row.ensures.unchanged)
          (node_places c.args.rules.now.plan.now c.args.rules.now.code.now s.0 s.1 s.2 (g.M.Memo.map c.args.memo.now) c.args.epoch.now s.3 c.args.parts.now.left (g.T.Terms.store c.args.terms.now) (Some c.args.rule) c.args.room s.4);
      right = (c.args.rules.now.plan.now.rules, built, c.refresh.ensures.right c.args.rules.now.plan.now.rules built (subst (λ (q : Store). WasRight c.args.rules.now.plan.now.rules built (g.M.Memo.map c.args.memo.now) c.args.epoch.now q) (sym t.unchanged) (node_memory c.args.rules.now.plan.now c.args.rules.now.code.now s.0 s.1 s.2 (g.M.Memo.map c.args.memo.now) c.args.epoch.now s.3 c.args.parts.now.left (g.T.Terms.store c.args.terms.now) (Some c.args.rule) c.args.room s.4)));
    }

pub returns-then-take_known : goal.returns-then-take_known
returns-then-take_known g c = record {
  state = λ start term fuel at n.
      let n' = n in
      let t = c.top_row-row.ensures in
      let now = g.T.Terms.store c.args.terms.now in
      let rules = c.args.rules.now.plan.now.rules in
      let built = node_built c.args.rules.now.plan.now c.args.rules.now.code.now start term fuel (g.M.Memo.map c.args.memo.now) c.args.epoch.now at c.args.parts.now.left (g.T.Terms.store c.args.terms.now) (Some c.args.rule) c.args.room n' in
      let map1 = g.M.Memo.map c.refresh.new.memo in
      let map2 = g.M.Memo.map c.take_known.new.memo in
      let right = c.refresh.ensures.right rules built (subst (λ (q : Store). WasRight rules built (g.M.Memo.map c.args.memo.now) c.args.epoch.now q) (sym t.unchanged) (node_memory c.args.rules.now.plan.now c.args.rules.now.code.now start term fuel (g.M.Memo.map c.args.memo.now) c.args.epoch.now at c.args.parts.now.left (g.T.Terms.store c.args.terms.now) (Some c.args.rule) c.args.room n')) in
      let taken = c.take_known.ensures.taken c.if-take_known.true rules built right in
      let here = subst (λ (q : Store). AreRight rules built q map1) t.unchanged right in
      value_taken c.args.rules.now.plan.now c.args.rules.now.code.now start term fuel (g.M.Memo.map c.args.memo.now) c.args.epoch.now at c.args.parts.now.left (g.T.Terms.store c.args.terms.now) (Some c.args.rule) c.args.room n' (g.T.Terms.store c.take_known.new.terms) c.top_row-row.result c.take_known.new.left map2 c.refresh.new.epoch
      (subst (λ (q : Store). IsTaken rules built q (g.T.Terms.store c.take_known.new.terms) c.top_row-row.result c.args.room c.args.parts.now.left c.take_known.new.left) t.unchanged taken)
      t.row (same_right rules built now map1 map2 c.take_known.ensures.map here) (subst (λ (q : Store). c.refresh.new.epoch ≡ q.epoch) t.unchanged c.refresh.ensures.epoch);
  fault = tt;
  frames_room = refl;
  matcher = refl;
  same = g.met.T.Terms.same_in_turn _ _ _ c.top_row-row.ensures.same c.take_known.ensures.same;
}

pub reduce_anew-requires : goal.reduce_anew-requires
reduce_anew-requires g c =
    let t = c.top_row-row.ensures in
    record {
      inside = ap (λ (q : Store). q.inside) (c.take_known.ensures.store c.if-take_known.false ∙ c.top_row-row.ensures.unchanged) ∙ c.requires.inside;
      frames_room = c.requires.frames_room;
      matcher = c.requires.matcher;
      row = subst (λ (q : Store). slice_get q.stack (length q.stack - 1) ≡ Some c.top_row-row.result) (sym (c.take_known.ensures.store c.if-take_known.false ∙ t.unchanged)) t.row;
      epoch = subst (λ (q : Store). c.refresh.new.epoch ≡ q.epoch) (sym (c.take_known.ensures.store c.if-take_known.false)) c.refresh.ensures.epoch;
      state = let s = c.requires.state in (
        s.0,
        s.1,
        s.2,
        s.3,
        node_looked c.args.rules.now.plan.now c.args.rules.now.code.now s.0 s.1 s.2 (g.M.Memo.map c.args.memo.now) c.args.epoch.now s.3 c.args.parts.now.left (g.T.Terms.store c.args.terms.now) (Some c.args.rule) c.args.room s.4 (g.M.Memo.map c.take_known.new.memo) c.refresh.new.epoch c.take_known.new.left (g.T.Terms.store c.take_known.new.terms)
            (same_right c.args.rules.now.plan.now.rules (node_built c.args.rules.now.plan.now c.args.rules.now.code.now s.0 s.1 s.2 (g.M.Memo.map c.args.memo.now) c.args.epoch.now s.3 c.args.parts.now.left (g.T.Terms.store c.args.terms.now) (Some c.args.rule) c.args.room s.4) (g.T.Terms.store c.args.terms.now) (g.M.Memo.map c.refresh.new.memo) (g.M.Memo.map c.take_known.new.memo) c.take_known.ensures.map
            (subst (λ (q : Store). AreRight c.args.rules.now.plan.now.rules (node_built c.args.rules.now.plan.now c.args.rules.now.code.now s.0 s.1 s.2 (g.M.Memo.map c.args.memo.now) c.args.epoch.now s.3 c.args.parts.now.left (g.T.Terms.store c.args.terms.now) (Some c.args.rule) c.args.room s.4) q (g.M.Memo.map c.refresh.new.memo)) c.top_row-row.ensures.unchanged (c.refresh.ensures.right c.args.rules.now.plan.now.rules (node_built c.args.rules.now.plan.now c.args.rules.now.code.now s.0 s.1 s.2 (g.M.Memo.map c.args.memo.now) c.args.epoch.now s.3 c.args.parts.now.left (g.T.Terms.store c.args.terms.now) (Some c.args.rule) c.args.room s.4) (subst (λ (q : Store). WasRight c.args.rules.now.plan.now.rules (node_built c.args.rules.now.plan.now c.args.rules.now.code.now s.0 s.1 s.2 (g.M.Memo.map c.args.memo.now) c.args.epoch.now s.3 c.args.parts.now.left (g.T.Terms.store c.args.terms.now) (Some c.args.rule) c.args.room s.4) (g.M.Memo.map c.args.memo.now) c.args.epoch.now q) (sym c.top_row-row.ensures.unchanged) (node_memory c.args.rules.now.plan.now c.args.rules.now.code.now s.0 s.1 s.2 (g.M.Memo.map c.args.memo.now) c.args.epoch.now s.3 c.args.parts.now.left (g.T.Terms.store c.args.terms.now) (Some c.args.rule) c.args.room s.4)))))
            (subst (λ (q : Store). c.refresh.new.epoch ≡ q.epoch) c.top_row-row.ensures.unchanged c.refresh.ensures.epoch)
            (c.take_known.ensures.left c.if-take_known.false) (c.take_known.ensures.store c.if-take_known.false ∙ c.top_row-row.ensures.unchanged),
      );
    }

pub returns : goal.returns
returns g c = record {
  state = IfOk-weaker c.reduce_anew.result _ _ (λ end h start term fuel at n.
      let n' = n in
      h start term fuel at (node_looked c.args.rules.now.plan.now c.args.rules.now.code.now start term fuel (g.M.Memo.map c.args.memo.now) c.args.epoch.now at c.args.parts.now.left (g.T.Terms.store c.args.terms.now) (Some c.args.rule) c.args.room n' (g.M.Memo.map c.take_known.new.memo) c.refresh.new.epoch c.take_known.new.left (g.T.Terms.store c.take_known.new.terms)
      (same_right c.args.rules.now.plan.now.rules (node_built c.args.rules.now.plan.now c.args.rules.now.code.now start term fuel (g.M.Memo.map c.args.memo.now) c.args.epoch.now at c.args.parts.now.left (g.T.Terms.store c.args.terms.now) (Some c.args.rule) c.args.room n') (g.T.Terms.store c.args.terms.now) (g.M.Memo.map c.refresh.new.memo) (g.M.Memo.map c.take_known.new.memo) c.take_known.ensures.map
      (subst (λ (q : Store). AreRight c.args.rules.now.plan.now.rules (node_built c.args.rules.now.plan.now c.args.rules.now.code.now start term fuel (g.M.Memo.map c.args.memo.now) c.args.epoch.now at c.args.parts.now.left (g.T.Terms.store c.args.terms.now) (Some c.args.rule) c.args.room n') q (g.M.Memo.map c.refresh.new.memo)) c.top_row-row.ensures.unchanged (c.refresh.ensures.right c.args.rules.now.plan.now.rules (node_built c.args.rules.now.plan.now c.args.rules.now.code.now start term fuel (g.M.Memo.map c.args.memo.now) c.args.epoch.now at c.args.parts.now.left (g.T.Terms.store c.args.terms.now) (Some c.args.rule) c.args.room n') (subst (λ (q : Store). WasRight c.args.rules.now.plan.now.rules (node_built c.args.rules.now.plan.now c.args.rules.now.code.now start term fuel (g.M.Memo.map c.args.memo.now) c.args.epoch.now at c.args.parts.now.left (g.T.Terms.store c.args.terms.now) (Some c.args.rule) c.args.room n') (g.M.Memo.map c.args.memo.now) c.args.epoch.now q) (sym c.top_row-row.ensures.unchanged) (node_memory c.args.rules.now.plan.now c.args.rules.now.code.now start term fuel (g.M.Memo.map c.args.memo.now) c.args.epoch.now at c.args.parts.now.left (g.T.Terms.store c.args.terms.now) (Some c.args.rule) c.args.room n')))))
      (subst (λ (q : Store). c.refresh.new.epoch ≡ q.epoch) c.top_row-row.ensures.unchanged c.refresh.ensures.epoch)
      (c.take_known.ensures.left c.if-take_known.false) (c.take_known.ensures.store c.if-take_known.false ∙ c.top_row-row.ensures.unchanged)))
      c.reduce_anew.ensures.state;
  fault = IfErr-weaker c.reduce_anew.result _ _ (λ fault h start term fuel at n.
      let n' = n in
      h start term fuel at (node_looked c.args.rules.now.plan.now c.args.rules.now.code.now start term fuel (g.M.Memo.map c.args.memo.now) c.args.epoch.now at c.args.parts.now.left (g.T.Terms.store c.args.terms.now) (Some c.args.rule) c.args.room n' (g.M.Memo.map c.take_known.new.memo) c.refresh.new.epoch c.take_known.new.left (g.T.Terms.store c.take_known.new.terms)
      (same_right c.args.rules.now.plan.now.rules (node_built c.args.rules.now.plan.now c.args.rules.now.code.now start term fuel (g.M.Memo.map c.args.memo.now) c.args.epoch.now at c.args.parts.now.left (g.T.Terms.store c.args.terms.now) (Some c.args.rule) c.args.room n') (g.T.Terms.store c.args.terms.now) (g.M.Memo.map c.refresh.new.memo) (g.M.Memo.map c.take_known.new.memo) c.take_known.ensures.map
      (subst (λ (q : Store). AreRight c.args.rules.now.plan.now.rules (node_built c.args.rules.now.plan.now c.args.rules.now.code.now start term fuel (g.M.Memo.map c.args.memo.now) c.args.epoch.now at c.args.parts.now.left (g.T.Terms.store c.args.terms.now) (Some c.args.rule) c.args.room n') q (g.M.Memo.map c.refresh.new.memo)) c.top_row-row.ensures.unchanged (c.refresh.ensures.right c.args.rules.now.plan.now.rules (node_built c.args.rules.now.plan.now c.args.rules.now.code.now start term fuel (g.M.Memo.map c.args.memo.now) c.args.epoch.now at c.args.parts.now.left (g.T.Terms.store c.args.terms.now) (Some c.args.rule) c.args.room n') (subst (λ (q : Store). WasRight c.args.rules.now.plan.now.rules (node_built c.args.rules.now.plan.now c.args.rules.now.code.now start term fuel (g.M.Memo.map c.args.memo.now) c.args.epoch.now at c.args.parts.now.left (g.T.Terms.store c.args.terms.now) (Some c.args.rule) c.args.room n') (g.M.Memo.map c.args.memo.now) c.args.epoch.now q) (sym c.top_row-row.ensures.unchanged) (node_memory c.args.rules.now.plan.now c.args.rules.now.code.now start term fuel (g.M.Memo.map c.args.memo.now) c.args.epoch.now at c.args.parts.now.left (g.T.Terms.store c.args.terms.now) (Some c.args.rule) c.args.room n')))))
      (subst (λ (q : Store). c.refresh.new.epoch ≡ q.epoch) c.top_row-row.ensures.unchanged c.refresh.ensures.epoch)
      (c.take_known.ensures.left c.if-take_known.false) (c.take_known.ensures.store c.if-take_known.false ∙ c.top_row-row.ensures.unchanged)))
      c.reduce_anew.ensures.fault;
  frames_room = c.reduce_anew.ensures.frames_room;
  matcher = c.reduce_anew.ensures.matcher;
  same = g.met.T.Terms.same_in_turn _ _ _ (g.met.T.Terms.same_in_turn _ _ _ c.top_row-row.ensures.same c.take_known.ensures.same) c.reduce_anew.ensures.same;
}

pub refresh-requires : goal.refresh-requires
refresh-requires g c = record { inside = ap (λ (q : Store). q.inside) c.top_row-row.ensures.unchanged ∙ c.requires.inside }
