-- One word of a walk over a command line, and what it comes to.
use Rattle.std.proofs.Common.{◌≡◌, ◌⊎◌, ℕ, suc, Bool, true, false, cond, ◌&&◌, List, [], ◌∷◌, length, Option, Some, None, refl, ap, ap₂, ◌∙◌, inl, inr, fold}
use Rattle.std.specs.Prelude.{drop, encode_utf8, is_some, bytes_eq, slice_get, if◌then◌else◌}
use Rattle.std.specs.Option.{option_map_or}
use Rattle.std.specs.Str.{chars}
use Rattle.clap.specs.Lexer.{long_of, short_of}
use Rattle.clap.specs.Kinds.{Kinds, or_else}
use Rattle.clap.specs.Walk.{Held, Outcome, plain, Row, Rule, Step, Text, Waiting, idle, option, positional, Walk, after_flag, after_step, arg_by_long, bundle, bundle_met, bundle_step, finished, flag_met, long_met, long_or_other, option_met, plain_word, settled, short_or_plain, subcommand_met, subcommand_or_other, trailing, walked}
use Rattle.clap.specs.Faults.{bundle_fault, bundle_step_fault, check_fault, defaults_fault, flag_word_fault, flags_fault, long_fault, option_fault, other_fault, react_fault, settle_fault, short_fault, step_fault, turn_fault, walk_fault}
use Rattle.clap.specs.declared.error.kind.ErrorKind.TheVariants.{TooManyValues, UnknownArgument}
use Rattle.settings.specs.declared.options.OptionName.{OptionName}
use Rattle.settings.proofs.Arguments.{rules_of, shape_with, short_rule}

-- ---- kinds of error

abbrev pub is_nil : Kinds → Bool
is_nil [] = true
is_nil (k ∷ ks) = false

pub nil_or : (a b : Kinds) → is_nil (or_else a b) ≡ (is_nil a && is_nil b)
nil_or [] b = refl
nil_or (k ∷ ks) b = refl

or_joined : (a b c : Kinds) → or_else (or_else a b) c ≡ or_else a (or_else b c)
or_joined [] b c = refl
or_joined (k ∷ ks) b c = refl

-- x where the kinds are none
abbrev pub passing : Kinds → Option (List Row) → Option (List Row)
passing kinds x = if is_nil kinds then x else None

pub passing_first : (a b : Kinds) (x : Option (List Row)) → passing (or_else a b) x ≡ passing a (passing b x)
passing_first [] b x = refl
passing_first (k ∷ ks) b x = refl

pub passing_none : (a : Kinds) → passing a None ≡ None
passing_none [] = refl
passing_none (k ∷ ks) = refl

-- ---- what is held

abbrev pub held : List Row → Option (Text × List Text) → Held
held rows pending = record { rows = rows; pending = pending; skip = 0 }

abbrev pub bare : List Row → Held
bare rows = held rows None

abbrev pub walk_at : Waiting → Held → ℕ → Walk
walk_at waiting h place = record { held = h; waiting = waiting; position = place; is_trailing = false; stopped = None }

module _ (options : List OptionName) where
  -- the kinds that come after the last word
  abbrev pub end_fault : Held → Kinds
  end_fault h =
      or_else (settle_fault (rules_of options) false h)
      (or_else (defaults_fault (settled (rules_of options) h).rows (rules_of options))
      (check_fault (shape_with (rules_of options)) (finished (rules_of options) h) false))

  -- the walk's end
  abbrev pub ended : Walk → List Text → Held
  ended w words = (fold (walked (rules_of options) []) w words).held

  -- the rows at the end, where no word and no check fails
  abbrev pub outcome : Walk → List Text → Option (List Row)
  outcome w words =
      passing (or_else (walk_fault (shape_with (rules_of options)) [] w words) (end_fault (ended w words)))
      (Some (settled (rules_of options) (ended w words)).rows)

  pub outcome_end : (w : Walk) → outcome w [] ≡ passing (end_fault w.held) (Some (settled (rules_of options) w.held).rows)
  unfolding walk_fault
  outcome_end w = refl

  outcome_next : (w : Walk) (word : Text) (rest : List Text)
      → outcome w (word ∷ rest) ≡ passing (turn_fault (shape_with (rules_of options)) [] w word) (outcome (walked (rules_of options) [] w word) rest)
  unfolding walk_fault
  outcome_next w word rest =
      let after = walked (rules_of options) [] w word in
      let turn = turn_fault (shape_with (rules_of options)) [] w word in
      let later = walk_fault (shape_with (rules_of options)) [] after rest in
      let end = end_fault (ended after rest) in
      let rows = Some (settled (rules_of options) (ended after rest)).rows in
      ap (λ k. passing k rows) (or_joined turn later end) ∙ passing_first turn (or_else later end) rows

  -- ---- a word, by what it looks like

  abbrev pub turn_by : Waiting → ℕ → Text → Option (Text × Option Text) → Held → Kinds
  turn_by waiting place word long h =
      let met = long_or_other (rules_of options) waiting word long h in
      or_else (flag_word_fault (rules_of options) false long word h) (step_fault (shape_with (rules_of options)) place met.0 met.1)

  abbrev pub walk_by : Waiting → ℕ → Text → Option (Text × Option Text) → Held → Walk
  walk_by waiting place word long h =
      let met = long_or_other (rules_of options) waiting word long h in
      after_step (rules_of options) word (walk_at waiting h place) met.0 met.1

  abbrev pub step_by : Waiting → ℕ → Text → Option (Text × Option Text) → Held → List Text → Option (List Row)
  step_by waiting place word long h rest = passing (turn_by waiting place word long h) (outcome (walk_by waiting place word long h) rest)

  no_subcommand : (waiting : Waiting) (word : Text) → subcommand_met [] waiting word ≡ None
  no_subcommand idle word = refl
  no_subcommand (option id) word = refl
  no_subcommand positional word = refl

  turn_is : (waiting : Waiting) (h : Held) (place : ℕ) (word : Text) → bytes_eq word (45 ∷ 45 ∷ []) ≡ false
      → turn_fault (shape_with (rules_of options)) [] (walk_at waiting h place) word ≡ turn_by waiting place word (long_of word) h
  turn_is waiting h place word d =
      let r = rules_of options in
      let s = shape_with r in
      ap (λ (name : Option Text).
      let met = subcommand_or_other r name waiting place word h in
      or_else (other_fault s name word h) (step_fault s place met.0 met.1)) (no_subcommand waiting word)
      ∙ ap (λ (b : Bool).
      let met = cond {A = Held × Step} b (h, trailing place) (long_or_other r waiting word (long_of word) h) in
      or_else (cond {A = Kinds} b [] (flag_word_fault r false (long_of word) word h)) (step_fault s place met.0 met.1)) d

  walk_is : (waiting : Waiting) (h : Held) (place : ℕ) (word : Text) → bytes_eq word (45 ∷ 45 ∷ []) ≡ false
      → walked (rules_of options) [] (walk_at waiting h place) word ≡ walk_by waiting place word (long_of word) h
  unfolding walked
  walk_is waiting h place word d =
      let r = rules_of options in
      ap (λ (name : Option Text).
      let met = subcommand_or_other r name waiting place word h in
      after_step r word (walk_at waiting h place) met.0 met.1) (no_subcommand waiting word)
      ∙ ap (λ (b : Bool).
      let met = cond {A = Held × Step} b (h, trailing place) (long_or_other r waiting word (long_of word) h) in
      after_step r word (walk_at waiting h place) met.0 met.1) d

  pub outcome_step : (waiting : Waiting) (h : Held) (place : ℕ) (word : Text) (rest : List Text) → bytes_eq word (45 ∷ 45 ∷ []) ≡ false
      → outcome (walk_at waiting h place) (word ∷ rest) ≡ step_by waiting place word (long_of word) h rest
  outcome_step waiting h place word rest d =
      outcome_next (walk_at waiting h place) word rest
      ∙ ap₂ (λ (k : Kinds) (w : Walk). passing k (outcome w rest)) (turn_is waiting h place word d) (walk_is waiting h place word d)

  -- ---- a long option

  abbrev pub long_by : Waiting → ℕ → Text → Option Rule → Option Text → Held → List Text → Option (List Row)
  long_by waiting place word found v h rest =
      let met = long_met (rules_of options) found v h in
      let step = after_flag (rules_of options) waiting word met.0 met.1 in
      passing (or_else (long_fault (rules_of options) false found v h) (step_fault (shape_with (rules_of options)) place step.0 step.1))
      (outcome (after_step (rules_of options) word (walk_at waiting h place) step.0 step.1) rest)

  pub long_step : (waiting : Waiting) (place : ℕ) (word name : Text) (v : Option Text) (h : Held) (rest : List Text)
      → step_by waiting place word (Some (name, v)) h rest ≡ long_by waiting place word (arg_by_long (rules_of options) name) v h rest
  long_step waiting place word name v h rest = refl

  -- the same of a rule, by whether it takes values
  abbrev pub taken_by : Waiting → ℕ → Text → Bool → Rule → Option Text → Held → List Text → Option (List Row)
  taken_by waiting place word takes a v h rest =
      let met = if takes then option_met (rules_of options) a v h else flag_met (rules_of options) a v h in
      let step = after_flag (rules_of options) waiting word met.0 met.1 in
      passing (or_else (if takes then option_fault (rules_of options) false a v h
      else (if is_some v then TooManyValues ∷ [] else react_fault (rules_of options) false a [] h))
      (step_fault (shape_with (rules_of options)) place step.0 step.1))
      (outcome (after_step (rules_of options) word (walk_at waiting h place) step.0 step.1) rest)

  -- ---- any other word

  abbrev pub plain_step : Waiting → ℕ → Text → Held → List Text → Option (List Row)
  plain_step waiting place word h rest =
      let met = plain_word (rules_of options) waiting word h in
      passing (step_fault (shape_with (rules_of options)) place met.0 met.1)
      (outcome (after_step (rules_of options) word (walk_at waiting h place) met.0 met.1) rest)

  abbrev pub short_by : Waiting → ℕ → Text → Option Text → Held → List Text → Option (List Row)
  short_by waiting place word short h rest =
      let met = short_or_plain (rules_of options) waiting word short h in
      passing (or_else (option_map_or (λ flags. bundle_fault (rules_of options) false flags h) short [])
      (step_fault (shape_with (rules_of options)) place met.0 met.1))
      (outcome (after_step (rules_of options) word (walk_at waiting h place) met.0 met.1) rest)

  -- the word is refused wherever it stands, or it is read as one that is no flag
  abbrev pub IsRefused : Text → Type 0
  IsRefused word = (waiting : Waiting) (place : ℕ) (rows : List Row) (pending : Option (Text × List Text)) (rest : List Text)
      → step_by waiting place word None (held rows pending) rest ≡ None

  abbrev pub IsPlain : Text → Type 0
  IsPlain word = (waiting : Waiting) (place : ℕ) (rows : List Row) (pending : Option (Text × List Text)) (rest : List Text)
      → step_by waiting place word None (held rows pending) rest ≡ plain_step waiting place word (held rows pending) rest

  -- the faults and the walk of a bundle, by its first letter
  flags_by : (k : ℕ) (first : Option ℕ) (flags : Text) (h : Held) → slice_get (chars flags) 0 ≡ first
      → flags_fault (rules_of options) false (suc k) flags 0 h ≡ bundle_step_fault (rules_of options) false first flags 0 h (flags_fault (rules_of options) false k)
  unfolding flags_fault
  flags_by k first flags h e = ap (λ o. bundle_step_fault (rules_of options) false o flags 0 h (flags_fault (rules_of options) false k)) e

  met_by : (k : ℕ) (first : Option ℕ) (flags : Text) (h : Held) → slice_get (chars flags) 0 ≡ first
      → bundle_met (rules_of options) (suc k) flags 0 plain h ≡ bundle_step (rules_of options) first flags 0 plain h (bundle_met (rules_of options) k)
  unfolding bundle_met
  met_by k first flags h e = ap (λ o. bundle_step (rules_of options) o flags 0 plain h (bundle_met (rules_of options) k)) e

  no_letter_fault : (h : Held) → flags_fault (rules_of options) false 0 [] 0 h ≡ []
  unfolding flags_fault
  no_letter_fault h = refl

  no_letter_met : (h : Held) → bundle_met (rules_of options) 0 [] 0 plain h ≡ (h, plain)
  unfolding bundle_met
  no_letter_met h = refl

  abbrev short_met_by : Waiting → ℕ → Text → Kinds → Held × Outcome → List Row → Option (Text × List Text) → List Text → Option (List Row)
  short_met_by waiting place word kinds met rows pending rest =
      let step = after_flag (rules_of options) waiting word met.0 met.1 in
      passing (or_else kinds (step_fault (shape_with (rules_of options)) place step.0 step.1))
      (outcome (after_step (rules_of options) word (walk_at waiting (held rows pending) place) step.0 step.1) rest)

  letter_refused : (k x : ℕ) (flags : Text) (h : Held) → slice_get (chars flags) 0 ≡ Some x
      → flags_fault (rules_of options) false (suc k) flags 0 h ≡ UnknownArgument ∷ []
  letter_refused k x flags h e =
      let rest = drop (length (encode_utf8 x)) flags in
      flags_by k (Some x) flags h e
      ∙ ap (λ a. short_fault (rules_of options) false a rest h (flags_fault (rules_of options) false k rest 0)) (short_rule options x)

  pub short_cases : (word : Text) → long_of word ≡ None → ((flags : Text) × (short_of word ≡ Some flags) × IsRefused word) ⊎ IsPlain word
  short_cases word none = by_short (short_of word) refl
    where
      letter : (f : ℕ) (fs : Text) → short_of word ≡ Some (f ∷ fs) → (first : Option ℕ) → slice_get (chars (f ∷ fs)) 0 ≡ first
          → ((flags : Text) × (short_of word ≡ Some flags) × IsRefused word) ⊎ IsPlain word
      letter f fs s (Some x) e = inl (
        f ∷ fs,
        s,
        λ waiting place rows pending rest.
            ap (λ o. short_by waiting place word o (held rows pending) rest) s
            ∙ ap (λ kinds. short_met_by waiting place word kinds (bundle (rules_of options) (f ∷ fs) (held rows pending)) rows pending rest)
            (letter_refused (length fs) x (f ∷ fs) (held rows pending) e),
      )
      letter f fs s None e = inr (λ waiting place rows pending rest.
          ap (λ o. short_by waiting place word o (held rows pending) rest) s
          ∙ ap₂ (λ kinds met. short_met_by waiting place word kinds met rows pending rest)
          (flags_by (length fs) None (f ∷ fs) (held rows pending) e) (met_by (length fs) None (f ∷ fs) (held rows pending) e))

      by_short : (short : Option Text) → short_of word ≡ short → ((flags : Text) × (short_of word ≡ Some flags) × IsRefused word) ⊎ IsPlain word
      by_short None s = inr (λ waiting place rows pending rest. ap (λ o. short_by waiting place word o (held rows pending) rest) s)
      by_short (Some []) s = inr (λ waiting place rows pending rest.
          ap (λ o. short_by waiting place word o (held rows pending) rest) s
          ∙ ap₂ (λ kinds met. short_met_by waiting place word kinds met rows pending rest) (no_letter_fault (held rows pending)) (no_letter_met (held rows pending)))
      by_short (Some (f ∷ fs)) s = letter f fs s (slice_get (chars (f ∷ fs)) 0) refl
