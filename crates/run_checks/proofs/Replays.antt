-- Events one after another, from words.
use Rattle.std.proofs.Common.{◌≡◌, ℕ, Bool, true, false, List, [], ◌∷◌, ◌++◌, Option, Some, None, refl, sym, ap, ◌∙◌}
use Rattle.std.specs.Prelude.{option_and_then, if◌then◌else◌}
use Rattle.std.specs.Option.{option_map}
use Rattle.term_model.specs.Tree.{Tree}
use Rattle.rewrite_model.specs.Rule.{Rule}
use Rattle.rewrite_model.specs.Derivation.{replace_at}
use Rattle.rewrite_model.specs.Replay.{has, above, replayed}
use Rattle.rewrite_model.specs.declared.event.Event.{Event}
use Rattle.rewrite_model.specs.declared.event.Event.TheVariants as event
use Rattle.run_checks.specs.declared.cursor.Cursor.{Cursor}
use Rattle.run_checks.specs.Form.{event_in, events_in}
use Rattle.run_checks.specs.Held.{Held}
use Rattle.run_checks.specs.Standing.{Place, after, led, Leads, StandsAt}

-- the tree to which the events of some words lead from a place
abbrev pub traced : List Rule → List (List ℕ) → Place → Option Tree
traced rules ws s = option_and_then (λ es. replayed rules es s.position s.term) (events_in ws)

module _ (rules : List Rule) where
  one_event : (e : Event) (es : List Event) (s : Place) → replayed rules (e ∷ es) s.position s.term ≡ option_and_then (λ (q : Place). replayed rules es q.position q.term) (after rules e s)
  one_event (event.Down n) es s = go (has (s.position ++ n ∷ []) s.term)
    where
      go : (b : Bool) → (if b then replayed rules es (s.position ++ n ∷ []) s.term else None) ≡ option_and_then (λ (q : Place). replayed rules es q.position q.term) (if b then Some (record { term = s.term; position = s.position ++ n ∷ [] }) else None)
      go true = refl
      go false = refl
  one_event event.Up es s = go (above s.position)
    where
      go : (o : Option (List ℕ)) → option_and_then (λ up. replayed rules es up s.term) o ≡ option_and_then (λ (q : Place). replayed rules es q.position q.term) (option_map (λ p. record { term = s.term; position = p }) o)
      go None = refl
      go (Some p) = refl
  one_event (event.Rule k) es s = go (replace_at rules s.position k s.term)
    where
      go : (o : Option Tree) → option_and_then (λ u. replayed rules es s.position u) o ≡ option_and_then (λ (q : Place). replayed rules es q.position q.term) (option_map (λ t. record { term = t; position = s.position }) o)
      go None = refl
      go (Some u) = refl

  abbrev nowhere : Place → Option Tree
  nowhere q = None

  never : (o : Option Place) → option_and_then nowhere o ≡ None
  never None = refl
  never (Some q) = refl

  -- the first word, and then the others
  pub word_first : (w : List ℕ) (ws : List (List ℕ)) (s : Place) → traced rules (w ∷ ws) s ≡ option_and_then (λ (q : Place). traced rules ws q) (led rules w s)
  word_first w ws s = go (event_in w) (events_in ws)
    where
      go : (o : Option Event) (p : Option (List Event)) → option_and_then (λ es. replayed rules es s.position s.term) (option_and_then (λ e. option_map (λ es. e ∷ es) p) o) ≡ option_and_then (λ (q : Place). option_and_then (λ es. replayed rules es q.position q.term) p) (option_and_then (λ e. after rules e s) o)
      go None p = refl
      go (Some e) None = sym (never (after rules e s))
      go (Some e) (Some es) = one_event e es s

  -- a word that leads nowhere, and one that leads to a place
  pub not_possible : (w : List ℕ) (ws : List (List ℕ)) (s : Place) → led rules w s ≡ None → traced rules (w ∷ ws) s ≡ None
  not_possible w ws s e = word_first w ws s ∙ ap (option_and_then (λ (q : Place). traced rules ws q)) e

  pub goes_on : (w : List ℕ) (ws : List (List ℕ)) (s q : Place) → led rules w s ≡ Some q → traced rules (w ∷ ws) s ≡ traced rules ws q
  goes_on w ws s q e = word_first w ws s ∙ ap (option_and_then (λ (q : Place). traced rules ws q)) e

  pub nothing_left : (s : Place) → traced rules [] s ≡ Some s.term
  nothing_left s = refl

-- where a possible event led
pub record Stood (old new : Held) (c : Cursor) (o : Option Place) : Type 0 where
  pub place : Place
  pub is : o ≡ Some place
  pub stands : StandsAt old new c place

pub stood : (old new : Held) (c : Cursor) (o : Option Place) → Leads old new c o true → Stood old new c o
stood old new c None l = absurd l
stood old new c (Some s) l = record { place = s; is = refl; stands = l }
