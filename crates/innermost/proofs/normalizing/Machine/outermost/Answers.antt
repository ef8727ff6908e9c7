use Rattle.std.proofs.Common.{◌≡◌, ℕ, Result, sym, ap, subst, arith, ◌∙◌}
use Rattle.rewrite_model.specs.Outermost.{outermost, outermost_built}
use Rattle.innermost.specs.Normalized.{Answers, FaultOnlyWhereRefused, SweepsAtMost}
use Rattle.innermost.specs.BuiltTrees.{BuildsTrees}
use Rattle.innermost.specs.Machines.{Made}
use Rattle.innermost.specs.declared.normal.Normal.{Normal}
use Rattle.innermost.specs.declared.normal.RunFault.{RunFault}
use Rattle.innermost.proofs.OutwardEnds.{all_settled, ends_from, ends_inside, ends_sound, ends_high}
use Rattle.rule_automaton.specs.Automata.{Made as Automaton, IsAutomaton}
use Rattle.innermost.proofs.normalizing.Machine.outermost.Goals as goal

pub rewrite-end-requires-clause-free : goal.rewrite-end-requires-clause-free
rewrite-end-requires-clause-free g c =
    let depth : c.self.inside.code.depth ≡ c.args.self.now.depth = ap (λ (m : Made). m.depth) c.self.view_is in
    omega (arith, depth, c.requires.free)

pub rewrite-end-requires-clause-matcher : goal.rewrite-end-requires-clause-matcher
rewrite-end-requires-clause-matcher g c = subst (λ (m : Made). IsAutomaton c.args.plan.now.rules m.automaton) (sym c.self.view_is) c.requires.machine.automaton

pub settle-requires : goal.settle-requires
settle-requires g c =
    let h = ends_high (g.T.Terms.store c.args.terms.now) (outermost c.args.plan.now.rules c.args.term.now c.args.fuel c.self.inside.code.depth) (g.T.Terms.store c.rewrite-end.new.terms) c.rewrite-end.result (ends_from (g.T.Terms.store c.args.terms.now) (outermost c.args.plan.now.rules c.args.term.now c.args.fuel c.self.inside.code.depth) (g.T.Terms.store c.rewrite-end.new.terms) c.rewrite-end.result c.rewrite-end.ensures.state c.rewrite-end.ensures.fault) in
    record {
      inside = ends_inside (g.T.Terms.store c.args.terms.now) (outermost c.args.plan.now.rules c.args.term.now c.args.fuel c.self.inside.code.depth) (g.T.Terms.store c.rewrite-end.new.terms) c.rewrite-end.result (ends_from (g.T.Terms.store c.args.terms.now) (outermost c.args.plan.now.rules c.args.term.now c.args.fuel c.self.inside.code.depth) (g.T.Terms.store c.rewrite-end.new.terms) c.rewrite-end.result c.rewrite-end.ensures.state c.rewrite-end.ensures.fault);
      base = omega (arith, h, c.depth-base.ensures.depth);
      sound = ends_sound (g.T.Terms.store c.args.terms.now) (outermost c.args.plan.now.rules c.args.term.now c.args.fuel c.self.inside.code.depth) (g.T.Terms.store c.rewrite-end.new.terms) c.rewrite-end.result (ends_from (g.T.Terms.store c.args.terms.now) (outermost c.args.plan.now.rules c.args.term.now c.args.fuel c.self.inside.code.depth) (g.T.Terms.store c.rewrite-end.new.terms) c.rewrite-end.result c.rewrite-end.ensures.state c.rewrite-end.ensures.fault);
    }

pub returns : goal.returns
returns g c =
    let code = c.self.inside.code in
    let made : Automaton → Made = λ a. record { steps = code.steps.items; starts = code.starts.items; depth = code.depth; automaton = a } in
    let left = all_settled (g.T.Terms.store c.args.terms.now) (outermost c.args.plan.now.rules c.args.term.now c.args.fuel c.self.inside.code.depth) (g.T.Terms.store c.rewrite-end.new.terms) (g.T.Terms.store c.settle.new.terms) c.depth-base.result c.rewrite-end.result (ends_from (g.T.Terms.store c.args.terms.now) (outermost c.args.plan.now.rules c.args.term.now c.args.fuel c.self.inside.code.depth) (g.T.Terms.store c.rewrite-end.new.terms) c.rewrite-end.result c.rewrite-end.ensures.state c.rewrite-end.ensures.fault) c.depth-base.ensures.depth c.settle.ensures.settled c.settle.ensures.sound in
    record {
      answer = let P : ℕ → Result Normal RunFault → Type 0 = λ d r. Answers (outermost c.args.plan.now.rules c.args.term.now c.args.fuel d).end (g.T.Terms.store c.args.terms.now) (g.T.Terms.store c.settle.new.terms) r in
          subst (λ d. P d c.settle.result) (ap (λ (m : Made). m.depth) c.self.view_is) (subst (λ r. P c.self.inside.code.depth r) (sym c.settle.ensures.end) left.answer);
      built = let P : ℕ → Result Normal RunFault → Type 0 = λ d r. BuildsTrees (outermost_built c.args.plan.now.rules c.args.term.now c.args.fuel d) (g.T.Terms.store c.args.terms.now) (g.T.Terms.store c.settle.new.terms) r in
          subst (λ d. P d c.settle.result) (ap (λ (m : Made). m.depth) c.self.view_is) (subst (λ r. P c.self.inside.code.depth r) (sym c.settle.ensures.end) left.built);
      faults = let P : ℕ → Result Normal RunFault → Type 0 = λ d r. FaultOnlyWhereRefused (g.T.Terms.store c.args.terms.now) (g.T.Terms.store c.settle.new.terms) r in
          subst (λ d. P d c.settle.result) (ap (λ (m : Made). m.depth) c.self.view_is) (subst (λ r. P c.self.inside.code.depth r) (sym c.settle.ensures.end) left.faults);
      sweeps = let P : ℕ → Result Normal RunFault → Type 0 = λ d r. SweepsAtMost (g.T.Terms.store c.args.terms.now) (g.T.Terms.store c.settle.new.terms) r in
          subst (λ d. P d c.settle.result) (ap (λ (m : Made). m.depth) c.self.view_is) (subst (λ r. P c.self.inside.code.depth r) (sym c.settle.ensures.end) left.sweeps);
      numbers = left.numbers;
      sound = c.settle.ensures.sound;
      machine = ap made c.rewrite-end.ensures.matcher ∙ c.self.view_is;
      same = g.met.T.Terms.same_in_turn _ _ _ c.rewrite-end.ensures.same c.settle.ensures.same;
    }
