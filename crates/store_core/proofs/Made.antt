-- What a planned change does is what its step does.
use Rattle.std.proofs.Common.{◌≡◌, ℕ, None, Some, refl, sym, ap, ◌∙◌}
use Rattle.lock_core.specs.Lock.{Lock}
use Rattle.store_model.specs.Words.{write}
use Rattle.store_model.specs.declared.view.Place.{Place}
use Rattle.store_model.specs.declared.view.View.{View}
use Rattle.store_model.specs.Machine.{Step, Go, action}
use Rattle.store_model.specs.Steps.{after}
use Rattle.store_core.specs.declared.machine.change.Change.{Change}
use Rattle.store_core.specs.declared.machine.change.Sight.{Sight}
use Rattle.store_core.specs.Planning.{state_seen, sizes_seen, view_after, lock_with, words_with, Makes}
use Rattle.store_model.proofs.Basics.{write_same}

pub two : (f : View → ℕ → View) (v u : View) (m n : ℕ) → v ≡ u → m ≡ n → f v m ≡ f u n
two f v u m n e k = ap (λ (x : View). f x m) e ∙ ap (f u) k

-- nothing but the own view
pub made_view : (g : Sight) (x : Step) (c : Change) (v : View) → c ≡ record { lock = None; stored = None } → (after (sizes_seen g) (state_seen g) g.seat x).lock ≡ g.lock.now → (after (sizes_seen g) (state_seen g) g.seat x).words ≡ (state_seen g).words → v ≡ view_after (sizes_seen g) (state_seen g).words g.seat g.view.now x → Makes g x c v
made_view g x c v e a b d = record {
  lock = ap (λ (k : Change). lock_with g.lock.now k.lock) e ∙ sym a;
  words = ap (λ (k : Change). words_with (state_seen g).words k.stored) e ∙ sym b;
  view = d;
}

-- a word too
pub made_word : (g : Sight) (x : Step) (c : Change) (p : Place) (n : ℕ) (v : View) → c ≡ record { lock = None; stored = Some (p, n) } → (after (sizes_seen g) (state_seen g) g.seat x).lock ≡ g.lock.now → (after (sizes_seen g) (state_seen g) g.seat x).words ≡ write (state_seen g).words p n → v ≡ view_after (sizes_seen g) (state_seen g).words g.seat g.view.now x → Makes g x c v
made_word g x c p n v e a b d = record {
  lock = ap (λ (k : Change). lock_with g.lock.now k.lock) e ∙ sym a;
  words = ap (λ (k : Change). words_with (state_seen g).words k.stored) e ∙ sym b;
  view = d;
}

-- the lock
pub made_lock : (g : Sight) (x : Step) (c : Change) (m : Lock) (v : View) → c ≡ record { lock = Some m; stored = None } → m ≡ (after (sizes_seen g) (state_seen g) g.seat x).lock → (after (sizes_seen g) (state_seen g) g.seat x).words ≡ (state_seen g).words → v ≡ view_after (sizes_seen g) (state_seen g).words g.seat g.view.now x → Makes g x c v
made_lock g x c m v e a b d = record {
  lock = ap (λ (k : Change). lock_with g.lock.now k.lock) e ∙ a;
  words = ap (λ (k : Change). words_with (state_seen g).words k.stored) e ∙ sym b;
  view = d;
}

-- the next action of a creation: where its word stays as it was, and where it doesn't
pub went_view : (g : Sight) (c : Change) (p : Place) (found word : ℕ) (v : View) → p ≡ (action g.view.now g.view.now.call).place → found ≡ (state_seen g).words p → word ≡ (action g.view.now g.view.now.call).written found → v ≡ (action g.view.now g.view.now.call).moved found → word ≡ found → c ≡ record { lock = None; stored = None } → Makes g Go c v
went_view g c p found word v place at written moved same e =
    let here : found ≡ (state_seen g).words (action g.view.now g.view.now.call).place = at ∙ ap (state_seen g).words place in
    let old : (action g.view.now g.view.now.call).written ((state_seen g).words (action g.view.now g.view.now.call).place) ≡ (state_seen g).words (action g.view.now g.view.now.call).place =
    ap (action g.view.now g.view.now.call).written (sym here) ∙ (sym written ∙ (same ∙ here)) in
    made_view g Go c v e refl
    (ap (write (state_seen g).words (action g.view.now g.view.now.call).place) old ∙ write_same (state_seen g).words (action g.view.now g.view.now.call).place)
    (moved ∙ ap (action g.view.now g.view.now.call).moved here)

pub went_word : (g : Sight) (c : Change) (p : Place) (found word : ℕ) (v : View) → p ≡ (action g.view.now g.view.now.call).place → found ≡ (state_seen g).words p → word ≡ (action g.view.now g.view.now.call).written found → v ≡ (action g.view.now g.view.now.call).moved found → c ≡ record { lock = None; stored = Some (p, word) } → Makes g Go c v
went_word g c p found word v place at written moved e =
    let here : found ≡ (state_seen g).words (action g.view.now g.view.now.call).place = at ∙ ap (state_seen g).words place in
    let new : word ≡ (action g.view.now g.view.now.call).written ((state_seen g).words (action g.view.now g.view.now.call).place) = written ∙ ap (action g.view.now g.view.now.call).written here in
    made_word g Go c p word v e refl
    (sym (ap (λ (q : Place). write (state_seen g).words q word) place ∙ ap (write (state_seen g).words (action g.view.now g.view.now.call).place) new))
    (moved ∙ ap (action g.view.now g.view.now.call).moved here)
