use Rattle.std.proofs.Common.{◌≡◌, ℕ, ◌<◌, ◌≤◌, length}
use Rattle.history_core.specs.Slots.{slot_at, kept_if, is_marked}
use Rattle.history_core.proofs.slots.keep_marked.Given as goal

abbrev pub invariant-loop-name : goal.invariant-loop-name
invariant-loop-name l =
    record {
      size : length l.slots ≡ length l.initial.slots;
      done : (n : ℕ) → n < l.name → slot_at l.slots n ≡ kept_if (is_marked l.marks n) (slot_at l.initial.slots n);
      rest : (n : ℕ) → l.name ≤ n → slot_at l.slots n ≡ slot_at l.initial.slots n;
    }
