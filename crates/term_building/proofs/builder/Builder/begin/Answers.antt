use Rattle.std.proofs.Common.{◌∙◌, sym, refl, IfOk, Result, Ok, Err}
use Rattle.term_syntax.specs.Shown.{value_at}
use Rattle.term_building.specs.Ready.{state_in}
use Rattle.term_building.specs.declared.builder.passing.Begun.{Begun}
use Rattle.term_building.proofs.Passing.{step_word, step_number, step_quoted, reaches_none, value_stage, begins_so}
use Rattle.term_building.proofs.builder.Builder.begin.Goals as goal

if_ok : {E : Type 0} {A B : Begun → Type 0} (r : Result Begun E) → ((b : Begun) → A b → B b) → IfOk r A → IfOk r B
if_ok (Ok b) f a = f b a
if_ok (Err e) f a = tt

pub returns-in-Word : goal.returns-in-Word
returns-in-Word g c =
    let t = c.args.token in
    let old = state_in c.args.self.now (g.T.Terms.store c.args.store.now) in
    let new = state_in c.on_word.new.self (g.T.Terms.store c.on_word.new.store) in
    let step_is = step_word c.args.text.now t.place c.args.end t.shape old (sym c.if-begins_term.ensures) c.in-Word.is in
    record {
      begun = if_ok c.on_word.result (λ b. begins_so b c.args.text.now t.place c.args.end t.shape old _ new step_is) c.on_word.ensures.begun;
      ready = c.on_word.ensures.ready;
      same = c.on_word.ensures.same;
    }

pub returns-in_ok-on_number-in-Number : goal.returns-in_ok-on_number-in-Number
returns-in_ok-on_number-in-Number g c =
    let t = c.args.token in
    let text = c.args.text.now in
    let old = state_in c.args.self.now (g.T.Terms.store c.args.store.now) in
    let new = state_in c.on_number.new.self (g.T.Terms.store c.on_number.new.store) in
    let built = c.in_ok-on_number-in-Number.ensures.built in
    record {
      begun = record {
        state = new;
        step_is = step_number text t.place c.args.end t.shape old (sym c.if-begins_term-2.ensures) c.in-Number.is ∙ built;
        begun = (reaches_none text c.args.end new new c.requires.end refl, value_stage text c.args.end (value_at text t.place) old new built);
      };
      ready = c.in_ok-on_number-in-Number.ensures.ready;
      same = c.in_ok-on_number-in-Number.ensures.same;
    }

pub returns-in_ok-on_quoted-in-Quoted : goal.returns-in_ok-on_quoted-in-Quoted
returns-in_ok-on_quoted-in-Quoted g c =
    let t = c.args.token in
    let text = c.args.text.now in
    let old = state_in c.args.self.now (g.T.Terms.store c.args.store.now) in
    let new = state_in c.on_quoted.new.self (g.T.Terms.store c.on_quoted.new.store) in
    record {
      begun = record {
        state = new;
        step_is = step_quoted text t.place c.args.end t.shape old (sym c.if-begins_term-3.ensures) c.in-Quoted.is ∙ c.in_ok-on_quoted-in-Quoted.ensures.built;
        begun = reaches_none text c.args.end new new c.requires.end refl;
      };
      ready = c.in_ok-on_quoted-in-Quoted.ensures.ready;
      same = c.in_ok-on_quoted-in-Quoted.ensures.same;
    }
