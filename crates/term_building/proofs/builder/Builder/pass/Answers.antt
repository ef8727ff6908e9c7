use Rattle.std.proofs.Common.{◌+◌, ℕ, subst, IfOk, Result, Ok, Err}
use Rattle.term_building.specs.Reached.{Passes}
use Rattle.term_building.specs.Ready.{state_in}
use Rattle.term_building.specs.Taken.{Begins}
use Rattle.term_building.proofs.Passing.{passes_blank, passes_whole, cut_place, passes_on}
use Rattle.term_building.proofs.Results.{on_ok}
use Rattle.term_building.proofs.builder.Builder.pass.Goals as goal

if_ok : {E : Type 0} {A B : ℕ → Type 0} (r : Result ℕ E) → ((n : ℕ) → A n → B n) → IfOk r A → IfOk r B
if_ok (Ok n) f a = f n a
if_ok (Err e) f a = tt

pub returns-in_ok-leave_out-in-Blank-clause-passes : goal.returns-in_ok-leave_out-in-Blank-clause-passes
returns-in_ok-leave_out-in-Blank-clause-passes g c =
    let store = g.T.Terms.store c.args.store.now in
    let cut = c.in_ok-piece_at in
    passes_blank c.args.text.now c.args.at cut.field-0 c.requires.at cut.ensures.piece (state_in c.args.self.now store) _ c.in-Blank.is (c.in_ok-leave_out-in-Blank.ensures.left_out store)

pub returns-in-Whole-2 : goal.returns-in-Whole-2
returns-in-Whole-2 g c =
    let text = c.args.text.now in
    let t = c.in-Whole.token in
    let cut = c.in_ok-piece_at in
    let old = state_in c.args.self.now (g.T.Terms.store c.args.store.now) in
    let mid = state_in c.begin.new.self (g.T.Terms.store c.begin.new.store) in
    let taken = subst (λ b. Begins b text t.place c.in-Whole.end t.shape old mid) c.in-Whole-2.is c.in_ok-begin-in-Whole.ensures.begun in
    let token = passes_whole text c.args.at cut.field-0 c.requires.at cut.ensures.piece t c.in-Whole.end c.in-Whole.is cut.ensures.begins cut.ensures.after cut.ensures.fits old taken.state taken.step_is in
    let whole = passes_on text c.args.at c.in-Whole.end c.in-Whole.end old taken.state mid token taken.begun.0 in
    record {
      passes = if_ok c.pass_behind.result (λ next. passes_on text c.args.at c.in-Whole.end next old mid _ whole) c.pass_behind.ensures.reaches;
      ready = c.pass_behind.ensures.ready;
      same = on_ok c.pass_behind.result (g.met.T.Terms.same_in_turn _ _ _ c.in_ok-begin-in-Whole.ensures.same) c.pass_behind.ensures.same;
    }

pub returns-in-Group : goal.returns-in-Group
returns-in-Group g c =
    let text = c.args.text.now in
    let t = c.in-Whole.token in
    let cut = c.in_ok-piece_at in
    let old = state_in c.args.self.now (g.T.Terms.store c.args.store.now) in
    let new = state_in c.begin.new.self (g.T.Terms.store c.begin.new.store) in
    let taken = subst (λ b. Begins b text t.place c.in-Whole.end t.shape old new) c.in-Group.is c.in_ok-begin-in-Whole.ensures.begun in
    let token = passes_whole text c.args.at cut.field-0 c.requires.at cut.ensures.piece t c.in-Whole.end c.in-Whole.is cut.ensures.begins cut.ensures.after cut.ensures.fits old taken.state taken.step_is in
    record {
      passes = passes_on text c.args.at c.in-Whole.end (c.in-Whole.end + 1) old taken.state new token taken.begun;
      ready = c.in_ok-begin-in-Whole.ensures.ready;
      same = c.in_ok-begin-in-Whole.ensures.same;
    }

pub returns-in-Name : goal.returns-in-Name
returns-in-Name g c =
    let text = c.args.text.now in
    let t = c.in-Whole.token in
    let cut = c.in_ok-piece_at in
    let old = state_in c.args.self.now (g.T.Terms.store c.args.store.now) in
    let new = state_in c.begin.new.self (g.T.Terms.store c.begin.new.store) in
    let taken = subst (λ b. Begins b text t.place c.in-Whole.end t.shape old new) c.in-Name.is c.in_ok-begin-in-Whole.ensures.begun in
    let token = passes_whole text c.args.at cut.field-0 c.requires.at cut.ensures.piece t c.in-Whole.end c.in-Whole.is cut.ensures.begins cut.ensures.after cut.ensures.fits old taken.state taken.step_is in
    record {
      passes = passes_on text c.args.at c.in-Whole.end c.in-Whole.end old taken.state new token taken.begun;
      ready = c.in_ok-begin-in-Whole.ensures.ready;
      same = c.in_ok-begin-in-Whole.ensures.same;
    }

pub begin-requires-clause-place : goal.begin-requires-clause-place
begin-requires-clause-place g c =
    let cut = c.in_ok-piece_at in
    cut_place c.args.text.now c.args.at cut.field-0 c.requires.at cut.ensures.piece c.in-Whole.token c.in-Whole.end c.in-Whole.is cut.ensures.begins cut.ensures.after cut.ensures.fits

pub pass_behind-requires-clause-stage : goal.pass_behind-requires-clause-stage
pass_behind-requires-clause-stage g c =
    let t = c.in-Whole.token in
    let old = state_in c.args.self.now (g.T.Terms.store c.args.store.now) in
    let mid = state_in c.begin.new.self (g.T.Terms.store c.begin.new.store) in
    (subst (λ b. Begins b c.args.text.now t.place c.in-Whole.end t.shape old mid) c.in-Whole-2.is c.in_ok-begin-in-Whole.ensures.begun).begun.1

pub returns-in_ok-next-in-Nothing : goal.returns-in_ok-next-in-Nothing
returns-in_ok-next-in-Nothing g c =
    let text = c.args.text.now in
    let t = c.in-Whole.token in
    let old = state_in c.args.self.now (g.T.Terms.store c.args.store.now) in
    let mid = state_in c.begin.new.self (g.T.Terms.store c.begin.new.store) in
    let new = state_in c.pass_any.new.self (g.T.Terms.store c.pass_any.new.store) in
    let nothing = subst (λ b. Begins b text t.place c.in-Whole.end t.shape old mid) c.in-Nothing.is c.in_ok-begin-in-Whole.ensures.begun in
    record {
      passes = subst (λ s. Passes text c.args.at s c.in_ok-next-in-Nothing.next new) nothing c.in_ok-next-in-Nothing.ensures.passes;
      ready = c.in_ok-next-in-Nothing.ensures.ready;
      same = g.met.T.Terms.same_in_turn _ _ _ c.in_ok-begin-in-Whole.ensures.same c.in_ok-next-in-Nothing.ensures.same;
    }
