use Rattle.std.proofs.Common.{refl}
use Rattle.std.proofs.lemmas.Result.{err_from_is_err_and, IfOk-weaker, IfErr-weaker}
use Rattle.innermost.proofs.Evaluations.{begun_inside, begun_gives_up}
use Rattle.innermost.proofs.evaluating.evaluate_node.Goals as goal

pub begin_node-requires-clause-state : goal.begin_node-requires-clause-state
begin_node-requires-clause-state g c = let s = c.requires.state in (s.0, c.args.parts.now.left, s.1)

pub returns-in_err-task : goal.returns-in_err-task
returns-in_err-task g c =
    let p = err_from_is_err_and c.from_residual.result c.from_residual.ensures.1 in
    record {
      state = rw p.1 tt;
      fault = rw (p.1, p.2) (λ job e. c.in_err-task.ensures.fault job c.args.parts.now.left e);
      frames_room = refl;
      matcher = refl;
      same = c.begin_node.ensures.same;
    }

pub reduce-requires : goal.reduce-requires
reduce-requires g c =
    let s = c.requires.state in
    let b = c.in_ok-task.ensures.state s.0 c.args.parts.now.left s.1 in
    record {
      inside = begun_inside c.args.plan.now c.args.code.now s.0 c.args.term.now c.args.at c.args.parts.now.left (g.T.Terms.store c.begin_node.new.terms) c.in_ok-task.task (c.in_ok-task.ensures.state s.0 c.args.parts.now.left s.1);
      frames_room = c.requires.frames_room;
      matcher = c.requires.matcher;
      state = (b.inner, b.task);
    }

pub returns : goal.returns
returns g c = record {
  state = IfOk-weaker c.reduce.result _ _ (λ end h job e.
      let b = c.in_ok-task.ensures.state job c.args.parts.now.left e in
      b.ends (g.T.Terms.store c.reduce.new.terms) end (h b.inner b.task))
      c.reduce.ensures.state;
  fault = IfErr-weaker c.reduce.result _ _ (λ fault h job e.
      let b = c.in_ok-task.ensures.state job c.args.parts.now.left e in
      begun_gives_up c.args.plan.now c.args.code.now job c.args.term.now c.args.at c.args.parts.now.left (g.T.Terms.store c.begin_node.new.terms) c.in_ok-task.task b (g.T.Terms.store c.reduce.new.terms) fault (h b.inner b.task))
      c.reduce.ensures.fault;
  frames_room = c.reduce.ensures.frames_room;
  matcher = c.reduce.ensures.matcher;
  same = g.met.T.Terms.same_in_turn _ _ _ c.begin_node.ensures.same c.reduce.ensures.same;
}
