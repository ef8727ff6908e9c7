use Rattle.std.proofs.Common.{◌≡◌, ℕ, List, ◌≤◌, refl, ap, ◌∙◌, subst, sym, Ok}
use Rattle.std.specs.Prelude.{max}
use Rattle.std.proofs.lemmas.Result.{err_from_is_err_and}
use Rattle.rewrite_model.specs.Run.{OutOfFuel as NoFuel, TooDeep as NoRoom}
use Rattle.rewrite_model.specs.Built.{need}
use Rattle.term_lines.specs.Line.{kind_of, spent_of}
use Rattle.terms_api.specs.Terms.{Store}
use Rattle.term_lines.specs.declared.rewriter.Rewriter.{Rewriter}
use Rattle.term_lines.specs.declared.ending.Ending.{Ending}
use Rattle.innermost.specs.Normalized.{Answers, KeepsNumbers}
use Rattle.innermost.specs.declared.normal.Normal.{Normal}
use Rattle.term_lines.specs.Strategies.{ended}
use Rattle.term_lines.specs.Tracing.{tells, remembers, Told}
use Rattle.term_lines.specs.Written.{BuildsWhole, SweepsMore}
use Rattle.term_lines.proofs.Building.{whole_front}
use Rattle.term_lines.proofs.Recalling.{kept_recalls}
use Rattle.term_lines.proofs.Spending.{less_is_left}
use Rattle.term_lines.proofs.Topmost.{has_value, top_is}
use Rattle.term_lines.proofs.Outcome.{kept_none, kept_numbers, value_line, value_written, value_kind, value_spent, value_told, none_line, none_told, stop_built, stop_refusals, stop_sweeps}
use Rattle.term_lines.proofs.rewriter.Rewriter.write_line.Goals as goal

pub write_top-requires-clause-value : goal.write_top-requires-clause-value
write_top-requires-clause-value g c =
    let old = g.T.Terms.store c.args.terms.now in
    let new = g.T.Terms.store c.rewrite.new.terms in
    let strategy = c.args.self.now.strategy in
    let end = ended strategy c.args.plan.now.rules c.args.term.now c.args.self.now.fuel c.args.self.now.machine.depth in
    let answer = subst (λ (n : Normal). Answers end old new (Ok n)) c.in-Ok-Value.field-0-is c.in-Ok-Value.ensures.rewritten.answer in
    has_value strategy old new c.args.symbols.now c.args.plan.now.rules c.args.term.now answer.0 c.args.self.now.fuel c.args.self.now.machine.depth c.in-Ok-Value.left c.requires.empty c.requires.names c.requires.named answer.1 answer.2

pub overflow_sub-spent : goal.overflow_sub-spent
overflow_sub-spent g c =
    let strategy = c.args.self.now.strategy in
    let end = ended strategy c.args.plan.now.rules c.args.term.now c.args.self.now.fuel c.args.self.now.machine.depth in
    let answer = subst (λ (n : Normal). Answers end (g.T.Terms.store c.args.terms.now) (g.T.Terms.store c.rewrite.new.terms) (Ok n)) c.in-Ok-Value.field-0-is c.in-Ok-Value.ensures.rewritten.answer in
    let less = less_is_left strategy c.args.plan.now.rules c.args.term.now answer.0 c.args.self.now.fuel c.args.self.now.machine.depth c.in-Ok-Value.left answer.1 in
    subst (λ (r : Rewriter). c.in-Ok-Value.left ≤ r.fuel) (sym c.in-Ok-Value.ensures.rewriter) less

pub returns-in_err-written-in-Ok-Value : goal.returns-in_err-written-in-Ok-Value
returns-in_err-written-in-Ok-Value g c =
    let self = c.args.self.now in
    let rules = c.args.plan.now.rules in
    let term = c.args.term.now in
    let depth = self.machine.depth in
    let end = ended self.strategy rules term self.fuel depth in
    let old = g.T.Terms.store c.args.terms.now in
    let mid = g.T.Terms.store c.rewrite.new.terms in
    let told = tells self.strategy self.traced in
    let remembered = remembers self.strategy self.traced self.remembers in
    let r = c.in-Ok-Value.ensures.rewritten in
    let new = g.T.Terms.store c.write_top.new.terms in
    let e = sym c.write_top.ensures.emptied in
    let p = err_from_is_err_and c.from_residual.result c.from_residual.ensures.1 in
    record {
      text = rw p.1 tt;
      kind = rw p.1 tt;
      spent = rw p.1 tt;
      unwritten = rw p.1 c.in_err-written-in-Ok-Value.ensures.unwritten;
      events = λ may. rw p.1 tt;
      built = rw (p.1, p.2) (whole_front self.strategy told remembered rules term self.fuel depth old new (subst (λ (s : Store). BuildsWhole self.strategy remembered rules term self.fuel depth old s) e r.built));
      refusals = rw (p.1, p.2) (subst (λ (s : Store). s.refusals ≡ old.refusals) e r.refusals);
      sweeps = rw (p.1, p.2) (subst (λ (s : Store). SweepsMore old s 0) e r.sweeps);
      load = λ i. subst (λ (s : Store). s.load ≤ max old.load (need rules term self.fuel depth)) e (r.load i c.requires.empty);
      memory = kept_recalls remembered rules mid new (g.M.Memo.map c.rewrite.new.memo) c.write_top.ensures.emptied c.in-Ok-Value.ensures.memory;
      empty = ap (λ (s : Store). s.stack) c.write_top.ensures.emptied ∙ kept_none mid;
      numbers = subst (KeepsNumbers old) e (kept_numbers old mid r.numbers);
      sound = c.write_top.ensures.sound;
      rewriter = c.write_top.ensures.rewriter ∙ c.in-Ok-Value.ensures.rewriter;
      same = g.met.T.Terms.same_in_turn _ _ _ c.rewrite.ensures.same c.write_top.ensures.same;
    }

pub returns-in_ok-written-in-Ok-Value : goal.returns-in_ok-written-in-Ok-Value
returns-in_ok-written-in-Ok-Value g c =
    let self = c.args.self.now in
    let rules = c.args.plan.now.rules in
    let term = c.args.term.now in
    let depth = self.machine.depth in
    let end = ended self.strategy rules term self.fuel depth in
    let old = g.T.Terms.store c.args.terms.now in
    let mid = g.T.Terms.store c.rewrite.new.terms in
    let told = tells self.strategy self.traced in
    let remembered = remembers self.strategy self.traced self.remembers in
    let r = c.in-Ok-Value.ensures.rewritten in
    let new = g.T.Terms.store c.write_top.new.terms in
    let e = sym c.write_top.ensures.emptied in
    let left = c.in-Ok-Value.left in
    let symbols = c.args.symbols.now in
    let out = c.args.out.now.items in
    let answer = subst (λ (n : Normal). Answers end old mid (Ok n)) c.in-Ok-Value.field-0-is r.answer in
    let t = answer.0 in
    let first = top_is old mid t c.requires.empty answer.2 in
    let was = c.rewrite.new.self in
    let itself = c.in-Ok-Value.ensures.rewriter in
    let put = c.in_ok-written-in-Ok-Value.written in
    let written = value_written was self itself mid t first left end answer.1 put c.in_ok-written-in-Ok-Value.ensures.value in
    record {
      text = value_line was self itself mid t first left end answer.1 symbols out c.write_top.new.out.items c.in_ok-written-in-Ok-Value.ensures.text;
      kind = value_kind was self itself mid t first left end answer.1 put written c.value_ending.result.kind c.value_ending.ensures.kind;
      spent = value_spent was self itself mid t first left end answer.1 put written c.value_ending.result.spent c.value_ending.ensures.spent;
      unwritten = tt;
      events = λ may. (let events = c.rewrite.new.events.items in
          value_told was self itself mid t first left end answer.1 put written told rules term events c.keep_written.new.events.items (subst (Told told rules term self.fuel events) c.in-Ok-Value.field-0-is (c.in-Ok-Value.ensures.events may)) c.keep_written.ensures);
      built = subst (λ (s : Store). BuildsWhole self.strategy remembered rules term self.fuel depth old s) e r.built;
      refusals = subst (λ (s : Store). s.refusals ≡ old.refusals) e r.refusals;
      sweeps = subst (λ (s : Store). SweepsMore old s 0) e r.sweeps;
      load = λ i. subst (λ (s : Store). s.load ≤ max old.load (need rules term self.fuel depth)) e (r.load i c.requires.empty);
      memory = kept_recalls remembered rules mid new (g.M.Memo.map c.rewrite.new.memo) c.write_top.ensures.emptied c.in-Ok-Value.ensures.memory;
      empty = ap (λ (s : Store). s.stack) c.write_top.ensures.emptied ∙ kept_none mid;
      numbers = subst (KeepsNumbers old) e (kept_numbers old mid r.numbers);
      sound = c.write_top.ensures.sound;
      rewriter = c.write_top.ensures.rewriter ∙ itself;
      same = g.met.T.Terms.same_in_turn _ _ _ c.rewrite.ensures.same c.write_top.ensures.same;
    }

pub returns-in_err-extend_from_slice-in-Ok-OutOfFuel : goal.returns-in_err-extend_from_slice-in-Ok-OutOfFuel
returns-in_err-extend_from_slice-in-Ok-OutOfFuel g c =
    let self = c.args.self.now in
    let rules = c.args.plan.now.rules in
    let term = c.args.term.now in
    let depth = self.machine.depth in
    let end = ended self.strategy rules term self.fuel depth in
    let old = g.T.Terms.store c.args.terms.now in
    let mid = g.T.Terms.store c.rewrite.new.terms in
    let told = tells self.strategy self.traced in
    let remembered = remembers self.strategy self.traced self.remembers in
    let r = c.in-Ok-OutOfFuel.ensures.rewritten in
    let answer = subst (λ (n : Normal). Answers end old mid (Ok n)) c.in-Ok-OutOfFuel.field-0-is r.answer in
    let p = err_from_is_err_and c.from_residual-in_err-extend_from_slice-in-Ok-OutOfFuel.result c.from_residual-in_err-extend_from_slice-in-Ok-OutOfFuel.ensures.1 in
    record {
      text = rw p.1 tt;
      kind = rw p.1 tt;
      spent = rw p.1 tt;
      unwritten = rw p.1 c.in_err-extend_from_slice-in-Ok-OutOfFuel.ensures.items;
      events = λ may. rw p.1 tt;
      built = rw (p.1, p.2) (whole_front self.strategy told remembered rules term self.fuel depth old mid r.built);
      refusals = rw (p.1, p.2) r.refusals;
      sweeps = rw (p.1, p.2) r.sweeps;
      load = λ i. r.load i c.requires.empty;
      memory = c.in-Ok-OutOfFuel.ensures.memory;
      empty = answer.1.rows ∙ c.requires.empty;
      numbers = r.numbers;
      sound = c.in-Ok-OutOfFuel.ensures.sound;
      rewriter = c.in-Ok-OutOfFuel.ensures.rewriter;
      same = c.rewrite.ensures.same;
    }

pub returns-in_ok-extend_from_slice-in-Ok-OutOfFuel : goal.returns-in_ok-extend_from_slice-in-Ok-OutOfFuel
returns-in_ok-extend_from_slice-in-Ok-OutOfFuel g c =
    let self = c.args.self.now in
    let rules = c.args.plan.now.rules in
    let term = c.args.term.now in
    let depth = self.machine.depth in
    let end = ended self.strategy rules term self.fuel depth in
    let old = g.T.Terms.store c.args.terms.now in
    let mid = g.T.Terms.store c.rewrite.new.terms in
    let told = tells self.strategy self.traced in
    let remembered = remembers self.strategy self.traced self.remembers in
    let r = c.in-Ok-OutOfFuel.ensures.rewritten in
    let out = c.args.out.now.items in
    let answer = subst (λ (n : Normal). Answers end old mid (Ok n)) c.in-Ok-OutOfFuel.field-0-is r.answer in
    let none = sym answer.0 in
    record {
      text = none_line self.sizes end NoFuel answer.0 c.args.symbols.now out c.extend_from_slice.new.self.items c.in_ok-extend_from_slice-in-Ok-OutOfFuel.ensures.items;
      kind = ap (λ (x : Ending). x.kind) c.without_value.ensures ∙ ap (kind_of self.sizes) none;
      spent = ap (λ (x : Ending). x.spent) c.without_value.ensures ∙ ap (spent_of self.sizes self.fuel) none;
      unwritten = tt;
      events = λ may. none_told self.sizes end NoFuel answer.0 told rules term self.fuel c.clear.new.self.items refl c.clear.ensures.items;
      built = r.built;
      refusals = r.refusals;
      sweeps = r.sweeps;
      load = λ i. r.load i c.requires.empty;
      memory = c.in-Ok-OutOfFuel.ensures.memory;
      empty = answer.1.rows ∙ c.requires.empty;
      numbers = r.numbers;
      sound = c.in-Ok-OutOfFuel.ensures.sound;
      rewriter = c.in-Ok-OutOfFuel.ensures.rewriter;
      same = c.rewrite.ensures.same;
    }

pub returns-in_err-extend_from_slice-in-Ok-TooDeep : goal.returns-in_err-extend_from_slice-in-Ok-TooDeep
returns-in_err-extend_from_slice-in-Ok-TooDeep g c =
    let self = c.args.self.now in
    let rules = c.args.plan.now.rules in
    let term = c.args.term.now in
    let depth = self.machine.depth in
    let end = ended self.strategy rules term self.fuel depth in
    let old = g.T.Terms.store c.args.terms.now in
    let mid = g.T.Terms.store c.rewrite.new.terms in
    let told = tells self.strategy self.traced in
    let remembered = remembers self.strategy self.traced self.remembers in
    let r = c.in-Ok-TooDeep.ensures.rewritten in
    let answer = subst (λ (n : Normal). Answers end old mid (Ok n)) c.in-Ok-TooDeep.field-0-is r.answer in
    let p = err_from_is_err_and c.from_residual-in_err-extend_from_slice-in-Ok-TooDeep.result c.from_residual-in_err-extend_from_slice-in-Ok-TooDeep.ensures.1 in
    record {
      text = rw p.1 tt;
      kind = rw p.1 tt;
      spent = rw p.1 tt;
      unwritten = rw p.1 c.in_err-extend_from_slice-in-Ok-TooDeep.ensures.items;
      events = λ may. rw p.1 tt;
      built = rw (p.1, p.2) (whole_front self.strategy told remembered rules term self.fuel depth old mid r.built);
      refusals = rw (p.1, p.2) r.refusals;
      sweeps = rw (p.1, p.2) r.sweeps;
      load = λ i. r.load i c.requires.empty;
      memory = c.in-Ok-TooDeep.ensures.memory;
      empty = answer.1.rows ∙ c.requires.empty;
      numbers = r.numbers;
      sound = c.in-Ok-TooDeep.ensures.sound;
      rewriter = c.in-Ok-TooDeep.ensures.rewriter;
      same = c.rewrite.ensures.same;
    }

pub returns-in_ok-extend_from_slice-in-Ok-TooDeep : goal.returns-in_ok-extend_from_slice-in-Ok-TooDeep
returns-in_ok-extend_from_slice-in-Ok-TooDeep g c =
    let self = c.args.self.now in
    let rules = c.args.plan.now.rules in
    let term = c.args.term.now in
    let depth = self.machine.depth in
    let end = ended self.strategy rules term self.fuel depth in
    let old = g.T.Terms.store c.args.terms.now in
    let mid = g.T.Terms.store c.rewrite.new.terms in
    let told = tells self.strategy self.traced in
    let remembered = remembers self.strategy self.traced self.remembers in
    let r = c.in-Ok-TooDeep.ensures.rewritten in
    let out = c.args.out.now.items in
    let answer = subst (λ (n : Normal). Answers end old mid (Ok n)) c.in-Ok-TooDeep.field-0-is r.answer in
    let none = sym answer.0 in
    record {
      text = none_line self.sizes end NoRoom answer.0 c.args.symbols.now out c.extend_from_slice-in-Ok-TooDeep.new.self.items c.in_ok-extend_from_slice-in-Ok-TooDeep.ensures.items;
      kind = ap (λ (x : Ending). x.kind) c.without_value-in-Ok-TooDeep.ensures ∙ ap (kind_of self.sizes) none;
      spent = ap (λ (x : Ending). x.spent) c.without_value-in-Ok-TooDeep.ensures ∙ ap (spent_of self.sizes self.fuel) none;
      unwritten = tt;
      events = λ may. none_told self.sizes end NoRoom answer.0 told rules term self.fuel c.clear-in-Ok-TooDeep.new.self.items refl c.clear-in-Ok-TooDeep.ensures.items;
      built = r.built;
      refusals = r.refusals;
      sweeps = r.sweeps;
      load = λ i. r.load i c.requires.empty;
      memory = c.in-Ok-TooDeep.ensures.memory;
      empty = answer.1.rows ∙ c.requires.empty;
      numbers = r.numbers;
      sound = c.in-Ok-TooDeep.ensures.sound;
      rewriter = c.in-Ok-TooDeep.ensures.rewriter;
      same = c.rewrite.ensures.same;
    }

pub returns-in-Err : goal.returns-in-Err
returns-in-Err g c =
    let self = c.args.self.now in
    let rules = c.args.plan.now.rules in
    let term = c.args.term.now in
    let depth = self.machine.depth in
    let end = ended self.strategy rules term self.fuel depth in
    let old = g.T.Terms.store c.args.terms.now in
    let mid = g.T.Terms.store c.rewrite.new.terms in
    let told = tells self.strategy self.traced in
    let remembered = remembers self.strategy self.traced self.remembers in
    let r = c.in-Err.ensures.rewritten in
    record {
      text = tt;
      kind = tt;
      spent = tt;
      unwritten = refl {A = List ℕ};
      events = λ may. tt;
      built = stop_built self.strategy told remembered rules term self.fuel depth old mid c.in-Err.stop r.built;
      refusals = stop_refusals old mid c.in-Err.stop r.refusals;
      sweeps = stop_sweeps old mid c.in-Err.stop r.sweeps;
      load = λ i. r.load i c.requires.empty;
      memory = c.in-Err.ensures.memory;
      empty = r.answer.rows ∙ c.requires.empty;
      numbers = r.numbers;
      sound = c.in-Err.ensures.sound;
      rewriter = c.in-Err.ensures.rewriter;
      same = c.rewrite.ensures.same;
    }
