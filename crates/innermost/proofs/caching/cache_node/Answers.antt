use Rattle.std.proofs.Common.{◌≡◌, ℕ, Option, Some, ◌∙◌, ap, subst, refl}
use Rattle.std.proofs.lemmas.Result.{err_from_is_err_and, IfOk-weaker, IfErr-weaker}
use Rattle.innermost.specs.declared.frames.Task.{Task}
use Rattle.innermost.specs.declared.frames.Task.TheVariants.{Reduce}
use Rattle.innermost.specs.Opened.{Opens}
use Rattle.innermost.proofs.Evaluations.{begun_inside, begun_gives_up}
use Rattle.innermost.proofs.Cachings.{afresh, begins_afresh, gives_up_so, node_caches, node_opened}
use Rattle.innermost.proofs.caching.cache_node.Goals as goal

pub begin_node-requires-clause-state : goal.begin_node-requires-clause-state
begin_node-requires-clause-state g c =
    let s = c.requires.state in
    let now = g.T.Terms.store c.args.terms.now in (
      afresh c.args.rules.now.plan.now c.args.rules.now.code.now s.0 c.args.term.now s.1 (g.M.Memo.map c.args.memo.now) c.args.epoch.now c.args.node.at c.args.parts.now.left now s.2,
      c.args.parts.now.left,
      begins_afresh c.args.rules.now.plan.now c.args.rules.now.code.now s.0 c.args.term.now s.1 (g.M.Memo.map c.args.memo.now) c.args.epoch.now c.args.node.at c.args.parts.now.left now s.2,
    )

pub returns-in_err-task : goal.returns-in_err-task
returns-in_err-task g c =
    let p = err_from_is_err_and c.from_residual.result c.from_residual.ensures.1 in
    let now = g.T.Terms.store c.args.terms.now in
    record {
      state = rw p.1 tt;
      fault = rw (p.1, p.2) (λ start fuel k.
          let k' = k in
          gives_up_so c.args.rules.now.plan.now c.args.rules.now.code.now start c.args.term.now fuel (g.M.Memo.map c.args.memo.now) c.args.epoch.now c.args.node.at c.args.parts.now.left now k' (g.T.Terms.store c.begin_node.new.terms) c.in_err-task.field-0.0
          (c.in_err-task.ensures.fault (afresh c.args.rules.now.plan.now c.args.rules.now.code.now start c.args.term.now fuel (g.M.Memo.map c.args.memo.now) c.args.epoch.now c.args.node.at c.args.parts.now.left now k') c.args.parts.now.left
          (begins_afresh c.args.rules.now.plan.now c.args.rules.now.code.now start c.args.term.now fuel (g.M.Memo.map c.args.memo.now) c.args.epoch.now c.args.node.at c.args.parts.now.left now k')));
      frames_room = refl;
      matcher = refl;
      same = c.begin_node.ensures.same;
    }

pub reduce-requires : goal.reduce-requires
reduce-requires g c =
    let s = c.requires.state in
    let now = g.T.Terms.store c.args.terms.now in
    let b = c.in_ok-task.ensures.state (afresh c.args.rules.now.plan.now c.args.rules.now.code.now s.0 c.args.term.now s.1 (g.M.Memo.map c.args.memo.now) c.args.epoch.now c.args.node.at c.args.parts.now.left now s.2) c.args.parts.now.left (begins_afresh c.args.rules.now.plan.now c.args.rules.now.code.now s.0 c.args.term.now s.1 (g.M.Memo.map c.args.memo.now) c.args.epoch.now c.args.node.at c.args.parts.now.left now s.2) in
    record {
      inside = begun_inside c.args.rules.now.plan.now c.args.rules.now.code.now (afresh c.args.rules.now.plan.now c.args.rules.now.code.now s.0 c.args.term.now s.1 (g.M.Memo.map c.args.memo.now) c.args.epoch.now c.args.node.at c.args.parts.now.left now s.2) c.args.term.now c.args.node.at c.args.parts.now.left (g.T.Terms.store c.begin_node.new.terms) c.in_ok-task.task (c.in_ok-task.ensures.state (afresh c.args.rules.now.plan.now c.args.rules.now.code.now s.0 c.args.term.now s.1 (g.M.Memo.map c.args.memo.now) c.args.epoch.now c.args.node.at c.args.parts.now.left now s.2) c.args.parts.now.left (begins_afresh c.args.rules.now.plan.now c.args.rules.now.code.now s.0 c.args.term.now s.1 (g.M.Memo.map c.args.memo.now) c.args.epoch.now c.args.node.at c.args.parts.now.left now s.2));
      frames_room = c.requires.frames_room;
      matcher = c.requires.matcher;
      state = (b.inner, b.task);
    }

pub returns-in_default : goal.returns-in_default
returns-in_default g c =
    let now = g.T.Terms.store c.args.terms.now in
    record {
      state = IfOk-weaker c.reduce.result _ _ (λ end h start fuel k.
          let k' = k in
          let b = c.in_ok-task.ensures.state (afresh c.args.rules.now.plan.now c.args.rules.now.code.now start c.args.term.now fuel (g.M.Memo.map c.args.memo.now) c.args.epoch.now c.args.node.at c.args.parts.now.left now k') c.args.parts.now.left (begins_afresh c.args.rules.now.plan.now c.args.rules.now.code.now start c.args.term.now fuel (g.M.Memo.map c.args.memo.now) c.args.epoch.now c.args.node.at c.args.parts.now.left now k') in
          node_caches c.args.rules.now.plan.now c.args.rules.now.code.now start c.args.term.now fuel (g.M.Memo.map c.args.memo.now) c.args.epoch.now c.args.node.at c.args.parts.now.left now k' (g.T.Terms.store c.reduce.new.terms) end (b.ends (g.T.Terms.store c.reduce.new.terms) end (h b.inner b.task)))
          c.reduce.ensures.state;
      fault = IfErr-weaker c.reduce.result _ _ (λ fault h start fuel k.
          let k' = k in
          let b = c.in_ok-task.ensures.state (afresh c.args.rules.now.plan.now c.args.rules.now.code.now start c.args.term.now fuel (g.M.Memo.map c.args.memo.now) c.args.epoch.now c.args.node.at c.args.parts.now.left now k') c.args.parts.now.left (begins_afresh c.args.rules.now.plan.now c.args.rules.now.code.now start c.args.term.now fuel (g.M.Memo.map c.args.memo.now) c.args.epoch.now c.args.node.at c.args.parts.now.left now k') in
          gives_up_so c.args.rules.now.plan.now c.args.rules.now.code.now start c.args.term.now fuel (g.M.Memo.map c.args.memo.now) c.args.epoch.now c.args.node.at c.args.parts.now.left now k' (g.T.Terms.store c.reduce.new.terms) fault
          (begun_gives_up c.args.rules.now.plan.now c.args.rules.now.code.now (afresh c.args.rules.now.plan.now c.args.rules.now.code.now start c.args.term.now fuel (g.M.Memo.map c.args.memo.now) c.args.epoch.now c.args.node.at c.args.parts.now.left now k') c.args.term.now c.args.node.at c.args.parts.now.left (g.T.Terms.store c.begin_node.new.terms) c.in_ok-task.task b (g.T.Terms.store c.reduce.new.terms) fault (h b.inner b.task)))
          c.reduce.ensures.fault;
      frames_room = c.reduce.ensures.frames_room;
      matcher = c.reduce.ensures.matcher;
      same = g.met.T.Terms.same_in_turn _ _ _ c.begin_node.ensures.same c.reduce.ensures.same;
    }

pub reduce_known-requires : goal.reduce_known-requires
reduce_known-requires g c =
    let s = c.requires.state in
    let now = g.T.Terms.store c.args.terms.now in
    let some : c.in-Reduce-Some-default.field-0 ≡ Some c.in-Reduce-Some-default.rule = rw c.in-Reduce-Some-default.is at c.in-Reduce-Some-default.field-0-is in
    let task_is : c.in_ok-task.task ≡ Reduce (Some c.in-Reduce-Some-default.rule) c.in-Reduce-Some-default.room = c.in-Reduce-Some-default.is ∙ ap (λ (o : Option ℕ). Reduce o c.in-Reduce-Some-default.room) some in
    record {
      inside = begun_inside c.args.rules.now.plan.now c.args.rules.now.code.now (afresh c.args.rules.now.plan.now c.args.rules.now.code.now s.0 c.args.term.now s.1 (g.M.Memo.map c.args.memo.now) c.args.epoch.now c.args.node.at c.args.parts.now.left now s.2) c.args.term.now c.args.node.at c.args.parts.now.left (g.T.Terms.store c.begin_node.new.terms) c.in_ok-task.task (c.in_ok-task.ensures.state (afresh c.args.rules.now.plan.now c.args.rules.now.code.now s.0 c.args.term.now s.1 (g.M.Memo.map c.args.memo.now) c.args.epoch.now c.args.node.at c.args.parts.now.left now s.2) c.args.parts.now.left (begins_afresh c.args.rules.now.plan.now c.args.rules.now.code.now s.0 c.args.term.now s.1 (g.M.Memo.map c.args.memo.now) c.args.epoch.now c.args.node.at c.args.parts.now.left now s.2));
      frames_room = c.requires.frames_room;
      matcher = c.requires.matcher;
      state = (s.0, c.args.term.now, s.1, c.args.node.at, node_opened c.args.rules.now.plan.now c.args.rules.now.code.now s.0 c.args.term.now s.1 (g.M.Memo.map c.args.memo.now) c.args.epoch.now c.args.node.at c.args.parts.now.left now s.2 (g.T.Terms.store c.begin_node.new.terms) (Some c.in-Reduce-Some-default.rule) c.in-Reduce-Some-default.room (begins_afresh c.args.rules.now.plan.now c.args.rules.now.code.now s.0 c.args.term.now s.1 (g.M.Memo.map c.args.memo.now) c.args.epoch.now c.args.node.at c.args.parts.now.left now s.2).points (subst (λ (t : Task). Opens c.args.rules.now.plan.now c.args.rules.now.code.now (afresh c.args.rules.now.plan.now c.args.rules.now.code.now s.0 c.args.term.now s.1 (g.M.Memo.map c.args.memo.now) c.args.epoch.now c.args.node.at c.args.parts.now.left now s.2) c.args.term.now c.args.node.at c.args.parts.now.left (begins_afresh c.args.rules.now.plan.now c.args.rules.now.code.now s.0 c.args.term.now s.1 (g.M.Memo.map c.args.memo.now) c.args.epoch.now c.args.node.at c.args.parts.now.left now s.2).points (g.T.Terms.store c.begin_node.new.terms) t) task_is (c.in_ok-task.ensures.opened (afresh c.args.rules.now.plan.now c.args.rules.now.code.now s.0 c.args.term.now s.1 (g.M.Memo.map c.args.memo.now) c.args.epoch.now c.args.node.at c.args.parts.now.left now s.2) c.args.parts.now.left (begins_afresh c.args.rules.now.plan.now c.args.rules.now.code.now s.0 c.args.term.now s.1 (g.M.Memo.map c.args.memo.now) c.args.epoch.now c.args.node.at c.args.parts.now.left now s.2))));
    }

pub returns : goal.returns
returns g c =
    let now = g.T.Terms.store c.args.terms.now in
    let some : c.in-Reduce-Some-default.field-0 ≡ Some c.in-Reduce-Some-default.rule = rw c.in-Reduce-Some-default.is at c.in-Reduce-Some-default.field-0-is in
    let task_is : c.in_ok-task.task ≡ Reduce (Some c.in-Reduce-Some-default.rule) c.in-Reduce-Some-default.room = c.in-Reduce-Some-default.is ∙ ap (λ (o : Option ℕ). Reduce o c.in-Reduce-Some-default.room) some in
    record {
      state = IfOk-weaker c.reduce_known.result _ _ (λ end h start fuel k.
          let k' = k in
          h start c.args.term.now fuel c.args.node.at (node_opened c.args.rules.now.plan.now c.args.rules.now.code.now start c.args.term.now fuel (g.M.Memo.map c.args.memo.now) c.args.epoch.now c.args.node.at c.args.parts.now.left now k' (g.T.Terms.store c.begin_node.new.terms) (Some c.in-Reduce-Some-default.rule) c.in-Reduce-Some-default.room (begins_afresh c.args.rules.now.plan.now c.args.rules.now.code.now start c.args.term.now fuel (g.M.Memo.map c.args.memo.now) c.args.epoch.now c.args.node.at c.args.parts.now.left now k').points (subst (λ (t : Task). Opens c.args.rules.now.plan.now c.args.rules.now.code.now (afresh c.args.rules.now.plan.now c.args.rules.now.code.now start c.args.term.now fuel (g.M.Memo.map c.args.memo.now) c.args.epoch.now c.args.node.at c.args.parts.now.left now k') c.args.term.now c.args.node.at c.args.parts.now.left (begins_afresh c.args.rules.now.plan.now c.args.rules.now.code.now start c.args.term.now fuel (g.M.Memo.map c.args.memo.now) c.args.epoch.now c.args.node.at c.args.parts.now.left now k').points (g.T.Terms.store c.begin_node.new.terms) t) task_is (c.in_ok-task.ensures.opened (afresh c.args.rules.now.plan.now c.args.rules.now.code.now start c.args.term.now fuel (g.M.Memo.map c.args.memo.now) c.args.epoch.now c.args.node.at c.args.parts.now.left now k') c.args.parts.now.left (begins_afresh c.args.rules.now.plan.now c.args.rules.now.code.now start c.args.term.now fuel (g.M.Memo.map c.args.memo.now) c.args.epoch.now c.args.node.at c.args.parts.now.left now k')))))
          c.reduce_known.ensures.state;
      fault = IfErr-weaker c.reduce_known.result _ _ (λ fault h start fuel k.
          let k' = k in
          h start c.args.term.now fuel c.args.node.at (node_opened c.args.rules.now.plan.now c.args.rules.now.code.now start c.args.term.now fuel (g.M.Memo.map c.args.memo.now) c.args.epoch.now c.args.node.at c.args.parts.now.left now k' (g.T.Terms.store c.begin_node.new.terms) (Some c.in-Reduce-Some-default.rule) c.in-Reduce-Some-default.room (begins_afresh c.args.rules.now.plan.now c.args.rules.now.code.now start c.args.term.now fuel (g.M.Memo.map c.args.memo.now) c.args.epoch.now c.args.node.at c.args.parts.now.left now k').points (subst (λ (t : Task). Opens c.args.rules.now.plan.now c.args.rules.now.code.now (afresh c.args.rules.now.plan.now c.args.rules.now.code.now start c.args.term.now fuel (g.M.Memo.map c.args.memo.now) c.args.epoch.now c.args.node.at c.args.parts.now.left now k') c.args.term.now c.args.node.at c.args.parts.now.left (begins_afresh c.args.rules.now.plan.now c.args.rules.now.code.now start c.args.term.now fuel (g.M.Memo.map c.args.memo.now) c.args.epoch.now c.args.node.at c.args.parts.now.left now k').points (g.T.Terms.store c.begin_node.new.terms) t) task_is (c.in_ok-task.ensures.opened (afresh c.args.rules.now.plan.now c.args.rules.now.code.now start c.args.term.now fuel (g.M.Memo.map c.args.memo.now) c.args.epoch.now c.args.node.at c.args.parts.now.left now k') c.args.parts.now.left (begins_afresh c.args.rules.now.plan.now c.args.rules.now.code.now start c.args.term.now fuel (g.M.Memo.map c.args.memo.now) c.args.epoch.now c.args.node.at c.args.parts.now.left now k')))))
          c.reduce_known.ensures.fault;
      frames_room = c.reduce_known.ensures.frames_room;
      matcher = c.reduce_known.ensures.matcher;
      same = g.met.T.Terms.same_in_turn _ _ _ c.begin_node.ensures.same c.reduce_known.ensures.same;
    }
