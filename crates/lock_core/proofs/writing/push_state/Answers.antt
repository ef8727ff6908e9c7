use Rattle.std.proofs.Common.{◌≡◌, ◌++◌, List, ℕ, length, sym, ap, ◌∙◌, append_assoc, add-one, arith}
use Rattle.lock_core.specs.declared.parts.SeatState.{SeatState}
use Rattle.lock_core.specs.Lock.{seat_of}
use Rattle.lock_core.specs.StateText.{seat_lines, seat_line, mutex_text, state_text}
use Rattle.lock_core.proofs.Appending.{appends_after, extends_then, gave_up}
use Rattle.lock_core.proofs.writing.push_state.Goals as goal

pub returns-in_err-push_seat : goal.returns-in_err-push_seat
returns-in_err-push_seat c =
    gave_up c.args.out.now.items _ (state_text c.args.state.now) _ c.from_residual.ensures.0
    (extends_then c.args.out.now.items c.loop-j.out.items _ (seat_lines c.args.state.now c.loop-j.j) c.loop-j.invariant c.in_err-push_seat.ensures)

pub loop-j-preserved : goal.loop-j-preserved
loop-j-preserved c =
    let old : List ℕ = c.args.out.now.items in
    let j : ℕ = c.loop-j.j in
    let line : List ℕ = seat_line j (seat_of c.args.state.now j) in
    let e = c.in_ok-push_seat.ensures in
    e ∙ (ap (λ (s : SeatState). c.loop-j.out.items ++ seat_line j s) c.seat.ensures
    ∙ (ap (λ (z : List ℕ). z ++ line) c.loop-j.invariant
    ∙ (append_assoc old (seat_lines c.args.state.now j) line ∙ ap (λ (k : ℕ). old ++ seat_lines c.args.state.now k) (sym (add-one j)))))

pub returns-in_err-push_mutex : goal.returns-in_err-push_mutex
returns-in_err-push_mutex c =
    gave_up c.args.out.now.items _ (state_text c.args.state.now) _ c.from_residual-in_err-push_mutex.ensures.0
    (extends_then c.args.out.now.items c.loop-j.out.items _ (seat_lines c.args.state.now c.loop-j.j) c.loop-j.invariant c.in_err-push_mutex.ensures)

pub returns : goal.returns
returns c =
    let old : List ℕ = c.args.out.now.items in
    let all : c.loop-j.j ≡ length c.args.state.now.seats = omega arith in
    let seats = c.loop-j.invariant ∙ ap (λ (k : ℕ). old ++ seat_lines c.args.state.now k) all in
    let mutex = c.in_ok-push_mutex.ensures ∙ ap (λ m. c.loop-j.out.items ++ mutex_text m) c.mutex.ensures in
    appends_after old _ _ _ _ c.push_all.result seats (appends_after c.loop-j.out.items _ _ _ _ c.push_all.result mutex c.push_all.ensures)
