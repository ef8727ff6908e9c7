use Rattle.std.proofs.Common.{◌≡◌, ℕ, Result, length, drop, sym, ap, subst, arith, ◌≤◌, ◌∙◌}
use Rattle.std.specs.Prelude.{Vec}
use Rattle.std.specs.Global.{Global}
use Rattle.rewrite_model.specs.declared.event.Event.{Event}
use Rattle.rewrite_model.specs.Evaluation.{evaluation}
use Rattle.rewrite_model.specs.Built.{need}
use Rattle.rewrite_model.specs.Uses.{replaced_in_room}
use Rattle.innermost.specs.Normalized.{LoadsNeedAtMost}
use Rattle.innermost.specs.Traced.{TracedAnswers, TracedBuilds, RefusedOnlyWhereTold, TracedSweeps, Tells}
use Rattle.rule_code.specs.Coded.{HasCode}
use Rattle.rule_automaton.specs.Automata.{Made as Automaton, IsAutomaton}
use Rattle.innermost.specs.Machines.{Made}
use Rattle.innermost.specs.declared.normal.Normal.{Normal}
use Rattle.innermost.specs.declared.normal.TraceFault.{TraceFault}
use Rattle.innermost.specs.Uses.{trees_between}
use Rattle.innermost.proofs.NodeHalts.{settled_built}
use Rattle.innermost.proofs.TracedEnds.{traced_left, traced_from, traced_inside, traced_sound, traced_high}
use Rattle.innermost.proofs.normalizing.Machine.normalize_traced.Goals as goal

pub trace-end-requires : goal.trace-end-requires
trace-end-requires g c =
    let depth : c.self.inside.code.depth ≡ c.args.self.now.depth = ap (λ (m : Made). m.depth) c.self.view_is in
    record {
      inside = c.requires.inside;
      frames_room = c.self.invariant.0;
      matcher = subst (λ (m : Made). IsAutomaton c.args.plan.now.rules m.automaton) (sym c.self.view_is) c.requires.machine.automaton;
      path_room = c.self.invariant.1;
      window = c.self.invariant.2;
      ready = record {
        planned = c.rules.ensures.plan;
        coded = subst (λ (m : Made). HasCode c.args.plan.now m.steps m.starts) (sym c.self.view_is) c.requires.machine.code;
        ops = c.self.invariant.4;
        free = omega (arith, depth, c.requires.free);
        wide = c.requires.wide;
        depth = omega (arith, depth, c.requires.free, c.depth-base.ensures.sound.room);
        short = omega (arith, c.len.ensures, c.len.type_inv, c.self.inside.code.steps.ok.0);
      };
      no_variables = c.requires.no_variables;
      plain = c.requires.plain;
    }

pub settle-requires : goal.settle-requires
settle-requires g c =
    let h = traced_high c.args.plan.now c.self.inside.code c.args.term.now c.args.fuel (g.T.Terms.store c.args.terms.now) (g.T.Terms.store c.trace-end.new.terms) c.trace-end.result (traced_from c.args.plan.now c.self.inside.code c.args.term.now c.args.fuel (g.T.Terms.store c.args.terms.now) (g.T.Terms.store c.trace-end.new.terms) c.trace-end.result c.trace-end.ensures.state c.trace-end.ensures.fault) in
    record {
      inside = traced_inside c.args.plan.now c.self.inside.code c.args.term.now c.args.fuel (g.T.Terms.store c.args.terms.now) (g.T.Terms.store c.trace-end.new.terms) c.trace-end.result (traced_from c.args.plan.now c.self.inside.code c.args.term.now c.args.fuel (g.T.Terms.store c.args.terms.now) (g.T.Terms.store c.trace-end.new.terms) c.trace-end.result c.trace-end.ensures.state c.trace-end.ensures.fault);
      base = omega (arith, h, c.depth-base.ensures.depth);
      sound = traced_sound c.args.plan.now c.self.inside.code c.args.term.now c.args.fuel (g.T.Terms.store c.args.terms.now) (g.T.Terms.store c.trace-end.new.terms) c.trace-end.result (traced_from c.args.plan.now c.self.inside.code c.args.term.now c.args.fuel (g.T.Terms.store c.args.terms.now) (g.T.Terms.store c.trace-end.new.terms) c.trace-end.result c.trace-end.ensures.state c.trace-end.ensures.fault);
    }

pub returns : goal.returns
returns g c =
    let code = c.self.inside.code in
    let made : Automaton → Made = λ a. record { steps = code.steps.items; starts = code.starts.items; depth = code.depth; automaton = a } in
    let left = traced_left c.args.plan.now c.self.inside.code c.args.term.now c.args.fuel (g.T.Terms.store c.args.terms.now) (g.T.Terms.store c.trace-end.new.terms) (g.T.Terms.store c.settle.new.terms) c.depth-base.result c.trace-end.result (traced_from c.args.plan.now c.self.inside.code c.args.term.now c.args.fuel (g.T.Terms.store c.args.terms.now) (g.T.Terms.store c.trace-end.new.terms) c.trace-end.result c.trace-end.ensures.state c.trace-end.ensures.fault) c.depth-base.ensures.depth c.settle.ensures.settled c.settle.ensures.sound in
    record {
      answer = let P : ℕ → Result Normal TraceFault → Type 0 = λ d r. TracedAnswers (evaluation c.args.plan.now.rules c.args.term.now c.args.fuel d).end (g.T.Terms.store c.args.terms.now) (g.T.Terms.store c.settle.new.terms) r in
          subst (λ d. P d c.settle.result) (ap (λ (m : Made). m.depth) c.self.view_is) (subst (λ r. P c.self.inside.code.depth r) (sym c.settle.ensures.end) left.answer);
      built = let P : ℕ → Result Normal TraceFault → Type 0 = λ d r. TracedBuilds (evaluation c.args.plan.now.rules c.args.term.now c.args.fuel d).notes (g.T.Terms.store c.args.terms.now) (g.T.Terms.store c.settle.new.terms) r in
          subst (λ d. P d c.settle.result) (ap (λ (m : Made). m.depth) c.self.view_is) (subst (λ r. P c.self.inside.code.depth r) (sym c.settle.ensures.end) left.built);
      faults = let P : ℕ → Result Normal TraceFault → Type 0 = λ d r. RefusedOnlyWhereTold (g.T.Terms.store c.args.terms.now) (g.T.Terms.store c.settle.new.terms) r in
          subst (λ d. P d c.settle.result) (ap (λ (m : Made). m.depth) c.self.view_is) (subst (λ r. P c.self.inside.code.depth r) (sym c.settle.ensures.end) left.faults);
      sweeps = let P : ℕ → Result Normal TraceFault → Type 0 = λ d r. TracedSweeps (g.T.Terms.store c.args.terms.now) (g.T.Terms.store c.settle.new.terms) r in
          subst (λ d. P d c.settle.result) (ap (λ (m : Made). m.depth) c.self.view_is) (subst (λ r. P c.self.inside.code.depth r) (sym c.settle.ensures.end) left.sweeps);
      load = let P : ℕ → Result Normal TraceFault → Type 0 = λ d r. LoadsNeedAtMost (need c.args.plan.now.rules c.args.term.now c.args.fuel d) (g.T.Terms.store c.args.terms.now) (g.T.Terms.store c.settle.new.terms) in
          subst (λ d. P d c.settle.result) (ap (λ (m : Made). m.depth) c.self.view_is) (subst (λ r. P c.self.inside.code.depth r) (sym c.settle.ensures.end) left.load);
      numbers = left.numbers;
      sound = c.settle.ensures.sound;
      machine = ap made c.trace-end.ensures.matcher ∙ c.self.view_is;
      same = g.met.T.Terms.same_in_turn _ _ _ c.trace-end.ensures.same c.settle.ensures.same;
      events = λ u.
          let rules = c.args.plan.now.rules in
          let start = g.T.Terms.store c.args.terms.now in
          let replaced : ℕ → ℕ = λ d. replaced_in_room rules c.args.term.now c.args.fuel d in
          let trees = ap (λ b. drop (length start.built) b) (settled_built (g.T.Terms.store c.trace-end.new.terms) (g.T.Terms.store c.settle.new.terms) c.depth-base.result c.trace-end.result c.settle.ensures.settled) in
          let traced =
          subst (λ (vs : Vec Event Global). Tells rules c.args.term.now c.args.fuel (replaced c.self.inside.code.depth) (trees_between start (g.T.Terms.store c.trace-end.new.terms)) c.args.trace.now.items vs.items c.trace-end.result) (sym c.swap-2.ensures.y_after)
          (subst (λ (vs : Vec Event Global). Tells rules c.args.term.now c.args.fuel (replaced c.self.inside.code.depth) (trees_between start (g.T.Terms.store c.trace-end.new.terms)) vs.items c.trace-end.new.telling.events.items c.trace-end.result) c.swap.ensures.x_after (c.trace-end.ensures.events u)) in
          subst (λ d. Tells rules c.args.term.now c.args.fuel (replaced d) (trees_between start (g.T.Terms.store c.settle.new.terms)) c.args.trace.now.items c.swap-2.new.y.items c.settle.result) (ap (λ (m : Made). m.depth) c.self.view_is)
          (subst (λ ts. Tells rules c.args.term.now c.args.fuel (replaced c.self.inside.code.depth) ts c.args.trace.now.items c.swap-2.new.y.items c.settle.result) (sym trees)
          (subst (λ r. Tells rules c.args.term.now c.args.fuel (replaced c.self.inside.code.depth) (trees_between start (g.T.Terms.store c.trace-end.new.terms)) c.args.trace.now.items c.swap-2.new.y.items r) (sym c.settle.ensures.end) traced));
    }

pub invariant_of-self : goal.invariant_of-self
invariant_of-self g c =
    let i = c.self.invariant in
    let e = c.trace-end.ensures in
    (subst (λ (n : ℕ). c.self.inside.code.depth ≤ n) (sym e.frames_room) i.0, e.path_room, e.window, i.3, i.4)
