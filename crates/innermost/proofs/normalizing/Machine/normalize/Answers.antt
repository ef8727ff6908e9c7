use Rattle.std.proofs.Common.{◌≡◌, ℕ, Result, sym, ap, subst, arith, ◌≤◌, ◌∙◌}
use Rattle.rewrite_model.specs.Evaluation.{evaluation}
use Rattle.rewrite_model.specs.Built.{need}
use Rattle.innermost.specs.Normalized.{Answers, Builds, FaultOnlyWhereRefused, SweepsAtMost, LoadsNeedAtMost}
use Rattle.rule_code.specs.Coded.{HasCode}
use Rattle.rule_automaton.specs.Automata.{Made as Automaton, IsAutomaton}
use Rattle.innermost.specs.Machines.{Made}
use Rattle.innermost.specs.declared.normal.Normal.{Normal}
use Rattle.innermost.specs.declared.normal.RunFault.{RunFault}
use Rattle.innermost.proofs.Endings.{all_left, end_from, end_inside, end_sound, end_high}
use Rattle.innermost.proofs.normalizing.Machine.normalize.Goals as goal

pub evaluate-end-requires : goal.evaluate-end-requires
evaluate-end-requires g c =
    let depth : c.self.inside.code.depth ≡ c.args.self.now.depth = ap (λ (m : Made). m.depth) c.self.view_is in
    record {
      inside = c.requires.inside;
      frames_room = c.self.invariant.0;
      matcher = subst (λ (m : Made). IsAutomaton c.args.plan.now.rules m.automaton) (sym c.self.view_is) c.requires.machine.automaton;
      path_room = c.self.invariant.1;
      window = c.self.invariant.2;
      ready = record {
        planned = c.rules.ensures.plan;
        coded = subst (λ (m : Made). HasCode c.args.plan.now m.steps m.starts) (sym c.self.view_is) c.requires.machine.code;
        ops = c.self.invariant.4;
        free = omega (arith, depth, c.requires.free);
        wide = c.requires.wide;
        depth = omega (arith, depth, c.requires.free, c.depth-base.ensures.sound.room);
        short = omega (arith, c.len.ensures, c.len.type_inv, c.self.inside.code.steps.ok.0);
      };
      no_variables = c.requires.no_variables;
      plain = c.requires.plain;
    }

pub settle-requires : goal.settle-requires
settle-requires g c =
    let h = end_high c.args.plan.now c.self.inside.code c.args.term.now c.args.fuel (g.T.Terms.store c.args.terms.now) (g.T.Terms.store c.evaluate-end.new.terms) c.evaluate-end.result (end_from c.args.plan.now c.self.inside.code c.args.term.now c.args.fuel (g.T.Terms.store c.args.terms.now) (g.T.Terms.store c.evaluate-end.new.terms) c.evaluate-end.result c.evaluate-end.ensures.state c.evaluate-end.ensures.fault) in
    record {
      inside = end_inside c.args.plan.now c.self.inside.code c.args.term.now c.args.fuel (g.T.Terms.store c.args.terms.now) (g.T.Terms.store c.evaluate-end.new.terms) c.evaluate-end.result (end_from c.args.plan.now c.self.inside.code c.args.term.now c.args.fuel (g.T.Terms.store c.args.terms.now) (g.T.Terms.store c.evaluate-end.new.terms) c.evaluate-end.result c.evaluate-end.ensures.state c.evaluate-end.ensures.fault);
      base = omega (arith, h, c.depth-base.ensures.depth);
      sound = end_sound c.args.plan.now c.self.inside.code c.args.term.now c.args.fuel (g.T.Terms.store c.args.terms.now) (g.T.Terms.store c.evaluate-end.new.terms) c.evaluate-end.result (end_from c.args.plan.now c.self.inside.code c.args.term.now c.args.fuel (g.T.Terms.store c.args.terms.now) (g.T.Terms.store c.evaluate-end.new.terms) c.evaluate-end.result c.evaluate-end.ensures.state c.evaluate-end.ensures.fault);
    }

pub returns : goal.returns
returns g c =
    let code = c.self.inside.code in
    let made : Automaton → Made = λ a. record { steps = code.steps.items; starts = code.starts.items; depth = code.depth; automaton = a } in
    let left = all_left c.args.plan.now c.self.inside.code c.args.term.now c.args.fuel (g.T.Terms.store c.args.terms.now) (g.T.Terms.store c.evaluate-end.new.terms) (g.T.Terms.store c.settle.new.terms) c.depth-base.result c.evaluate-end.result (end_from c.args.plan.now c.self.inside.code c.args.term.now c.args.fuel (g.T.Terms.store c.args.terms.now) (g.T.Terms.store c.evaluate-end.new.terms) c.evaluate-end.result c.evaluate-end.ensures.state c.evaluate-end.ensures.fault) c.depth-base.ensures.depth c.settle.ensures.settled c.settle.ensures.sound in
    record {
      answer = let P : ℕ → Result Normal RunFault → Type 0 = λ d r. Answers (evaluation c.args.plan.now.rules c.args.term.now c.args.fuel d).end (g.T.Terms.store c.args.terms.now) (g.T.Terms.store c.settle.new.terms) r in
          subst (λ d. P d c.settle.result) (ap (λ (m : Made). m.depth) c.self.view_is) (subst (λ r. P c.self.inside.code.depth r) (sym c.settle.ensures.end) left.answer);
      built = let P : ℕ → Result Normal RunFault → Type 0 = λ d r. Builds (evaluation c.args.plan.now.rules c.args.term.now c.args.fuel d).notes (g.T.Terms.store c.args.terms.now) (g.T.Terms.store c.settle.new.terms) r in
          subst (λ d. P d c.settle.result) (ap (λ (m : Made). m.depth) c.self.view_is) (subst (λ r. P c.self.inside.code.depth r) (sym c.settle.ensures.end) left.built);
      faults = let P : ℕ → Result Normal RunFault → Type 0 = λ d r. FaultOnlyWhereRefused (g.T.Terms.store c.args.terms.now) (g.T.Terms.store c.settle.new.terms) r in
          subst (λ d. P d c.settle.result) (ap (λ (m : Made). m.depth) c.self.view_is) (subst (λ r. P c.self.inside.code.depth r) (sym c.settle.ensures.end) left.faults);
      sweeps = let P : ℕ → Result Normal RunFault → Type 0 = λ d r. SweepsAtMost (g.T.Terms.store c.args.terms.now) (g.T.Terms.store c.settle.new.terms) r in
          subst (λ d. P d c.settle.result) (ap (λ (m : Made). m.depth) c.self.view_is) (subst (λ r. P c.self.inside.code.depth r) (sym c.settle.ensures.end) left.sweeps);
      load = let P : ℕ → Result Normal RunFault → Type 0 = λ d r. LoadsNeedAtMost (need c.args.plan.now.rules c.args.term.now c.args.fuel d) (g.T.Terms.store c.args.terms.now) (g.T.Terms.store c.settle.new.terms) in
          subst (λ d. P d c.settle.result) (ap (λ (m : Made). m.depth) c.self.view_is) (subst (λ r. P c.self.inside.code.depth r) (sym c.settle.ensures.end) left.load);
      numbers = left.numbers;
      sound = c.settle.ensures.sound;
      machine = ap made c.evaluate-end.ensures.matcher ∙ c.self.view_is;
      same = g.met.T.Terms.same_in_turn _ _ _ c.evaluate-end.ensures.same c.settle.ensures.same;
    }

pub invariant_of-self : goal.invariant_of-self
invariant_of-self g c =
    let i = c.self.invariant in
    let e = c.evaluate-end.ensures in
    (subst (λ (n : ℕ). c.self.inside.code.depth ≤ n) (sym e.frames_room) i.0, e.path_room, e.window, i.3, i.4)
