-- A store at first: every row is free.
use Rattle.std.proofs.Common.{◌≡◌, ℕ, ◌^◌, ◌<◌, ◌≤◌, false, [], Some, None, Option, length, get_or, ap, sym, ◌∙◌, subst, arith}
use Rattle.std.specs.Prelude.{replicate}
use Rattle.std.proofs.lemmas.List.{length-replicate}
use Rattle.term_model.specs.Tree.{Tree}
use Rattle.terms_api.specs.Terms.{IsSound}
use Rattle.plain_store.specs.declared.store.PlainStore.TheInside.{Inside}
use Rattle.plain_store.specs.Slots.{Slots, Slot, free_slots}
use Rattle.plain_store.specs.Agreement.{Agree}
use Rattle.plain_store.specs.Contents.{Past, at_first, Contents, store_of, empty}
use Rattle.plain_store.specs.View.{past_of, contents_of, IsRight}
use Rattle.plain_store.proofs.Rows.{none_at}
use Rattle.plain_store.proofs.Stepping.{right_from}

some_at : {A : Type 0} (n k : ℕ) (x : A) → get_or (replicate {A = Option A} n None) k None ≡ Some x → ⊥
some_at {A} n k x e = let f : None ≡ Some x = sym (none_at {A = A} n k) ∙ e in absurd (cc)

agree_at_first : (rows widest : ℕ) → Agree (free_slots rows widest) (replicate rows None)
agree_at_first rows widest =
    record {
      size = length-replicate {A = Slot} rows None ∙ sym (length-replicate {A = Option Tree} rows None);
      free = λ r e. none_at {A = Tree} rows r.0;
      node = λ r h args e. absurd (some_at rows r.0 (h, args) e);
      held = λ r h args e. absurd (some_at rows r.0 (h, args) e);
    }

sound_at_first : (rows room widest : ℕ) → room < 2 ^ 32 → IsSound (store_of (empty rows room widest))
sound_at_first rows room widest small =
    record {
      stack = λ k d lt. absurd (omega arith);
      depth = omega arith;
      room = small;
      below = λ r t e. absurd (some_at rows r.0 t e);
      one_row = λ r q t e. absurd (some_at rows r.0 t e);
      arguments = λ r t u e. absurd (some_at rows r.0 t e);
      well_formed = λ r t e. absurd (some_at rows r.0 t e);
      ground = λ r t e. absurd (some_at rows r.0 t e);
    }

pub contents_at_first : (s : Inside) (rows widest : ℕ) → s.nodes ≡ free_slots rows widest → s.places.items ≡ [] → s.history.items ≡ [] → s.inside ≡ false → s.raised ≡ 0 → s.widest ≡ widest → contents_of s ≡ empty rows s.room widest
contents_at_first s rows widest nodes places history inside raised wide =
    let long : length s.nodes.slots ≡ rows = ap (λ (x : Slots). length x.slots) nodes ∙ length-replicate {A = Slot} rows None in
    let past : past_of s.history.items (λ v. v.items) (at_first (length s.nodes.slots)) ≡ at_first rows = ap (λ es. past_of es (λ v. v.items) (at_first (length s.nodes.slots))) history ∙ ap at_first long in
    ap (λ (p : Past). let c : Contents = record { stack = s.places.items; trees = p.trees; inside = s.inside; built = p.built; hand = p.hand; refusals = p.refusals; widest = s.widest; room = s.room; raised = s.raised } in c) past
    ∙ cc

pub right_at_first : (s : Inside) (rows widest : ℕ) → s.nodes ≡ free_slots rows widest → s.places.items ≡ [] → s.history.items ≡ [] → s.inside ≡ false → s.raised ≡ 0 → s.widest ≡ widest → s.room < 2 ^ 32 → s.room ≤ s.places.room → length s.marks ≡ rows → IsRight s
right_at_first s rows widest nodes places history inside raised wide small capacity marks =
    let long : length s.nodes.slots ≡ rows = ap (λ (x : Slots). length x.slots) nodes ∙ length-replicate {A = Slot} rows None in
    let agree : Agree s.nodes (replicate rows None) = subst (λ (x : Slots). Agree x (replicate rows None)) (sym nodes) (agree_at_first rows widest) in
    right_from s (empty rows s.room widest) (contents_at_first s rows widest nodes places history inside raised wide) agree (sound_at_first rows s.room widest small) capacity (marks ∙ sym long) (ap (λ (x : Slots). x.widest) nodes ∙ sym wide)
