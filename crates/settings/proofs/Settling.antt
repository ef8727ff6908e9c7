-- A value that is not judged yet is judged at the next word, or at the end.
use Rattle.std.proofs.Common.{◌≡◌, ℕ, Bool, true, false, ◌&&◌, List, [], ◌∷◌, Option, Some, None, refl, sym, ap, ◌∙◌, inl, inr}
use Rattle.std.specs.Prelude.{option_map, bytes_eq, if◌then◌else◌}
use Rattle.std.specs.List.{list_any}
use Rattle.std.specs.Option.{option_map_or}
use Rattle.clap.specs.Lexer.{long_of}
use Rattle.clap.specs.Kinds.{Kinds, or_else}
use Rattle.clap.specs.Walk.{Held, Row, Rule, Text, idle, positional, arg_by_index, arg_by_long, is_multiple, is_pending, next_position, pushed, settled, takes_several, takes_values, to_positional}
use Rattle.clap.specs.Faults.{positional_fault, settle_fault, stray_fault}
use Rattle.settings.specs.declared.options.OptionName.{OptionName}
use Rattle.settings.specs.Words.{Uses, takes_value, stands_alone}
use Rattle.settings.proofs.Basics.{and_none, neither}
use Rattle.settings.proofs.Arguments.{rule, rule_for, rules_of, shape_with, awaited}
use Rattle.settings.proofs.Turns.{passing, passing_first, passing_none, held, bare, walk_at, outcome, outcome_end, outcome_step, step_by, long_by, taken_by, plain_step, short_cases}

several_one : (o : OptionName) (takes alone : Bool) → takes_several (rule_for o takes alone) ≡ false
several_one o true alone = refl
several_one o false alone = refl

module _ (options : List OptionName) where
  abbrev settle : List Row → Text → Text → Kinds
  settle rows id t = settle_fault (rules_of options) false (held rows (Some (id, t ∷ [])))

  abbrev rows_then : List Row → Text → Text → List Row
  rows_then rows id t = (settled (rules_of options) (held rows (Some (id, t ∷ [])))).rows

  long_settles : (place : ℕ) (word : Text) (b : Bool) (a : Rule) (v : Option Text) (rows : List Row) (id t : Text) (rest : List Text)
      → taken_by options idle place word b a v (held rows (Some (id, t ∷ []))) rest
      ≡ passing (settle rows id t) (taken_by options idle place word b a v (bare (rows_then rows id t)) rest)
  long_settles place word true a None rows id t rest = passing_first (settle rows id t) [] _
  long_settles place word true a (Some w) rows id t rest = nested (settle rows id t) _ _
    where
      nested : (a b : Kinds) (x : Option (List Row)) → passing (or_else (or_else a b) []) x ≡ passing a (passing (or_else b []) x)
      nested [] b x = refl
      nested (k ∷ ks) b x = refl
  long_settles place word false a None rows id t rest = nested (settle rows id t) _ _
    where
      nested : (a b : Kinds) (x : Option (List Row)) → passing (or_else (or_else a b) []) x ≡ passing a (passing (or_else b []) x)
      nested [] b x = refl
      nested (k ∷ ks) b x = refl
  long_settles place word false a (Some w) rows id t rest = sym (passing_none (settle rows id t))

  found_settles : (place : ℕ) (word : Text) (found : Option Rule) (v : Option Text) (rows : List Row) (id t : Text) (rest : List Text)
      → long_by options idle place word found v (held rows (Some (id, t ∷ []))) rest
      ≡ passing (settle rows id t) (long_by options idle place word found v (bare (rows_then rows id t)) rest)
  found_settles place word None v rows id t rest = sym (passing_none (settle rows id t))
  found_settles place word (Some a) v rows id t rest = long_settles place word (takes_values a) a v rows id t rest

  -- a word for the further word, by the rule that it finds
  abbrev pub index_by : ℕ → Text → Option Rule → Held → List Text → Option (List Row)
  index_by place word found h rest =
      passing (option_map_or (λ a. positional_fault (rules_of options) false a h) found (stray_fault (shape_with (rules_of options))))
      (outcome options (to_positional (rules_of options) found word (walk_at idle h place) h) rest)

  pub index_step : (place : ℕ) (word : Text) (h : Held) (rest : List Text)
      → plain_step options idle place word h rest ≡ index_by place word (arg_by_index (rules_of options) place) h rest
  index_step place word h rest = refl

  index_settles : (place : ℕ) (word : Text) (found : Option OptionName) (rows : List Row) (id t : Text) (rest : List Text)
      → index_by place word (option_map rule found) (held rows (Some (id, t ∷ []))) rest
      ≡ passing (settle rows id t) (index_by place word (option_map rule found) (bare (rows_then rows id t)) rest)
  index_settles place word None rows id t rest = sym (passing_none (settle rows id t))
  index_settles place word (Some o) rows id t rest =
      ap (λ (b : Bool).
      passing (if b then [] else settle rows id t)
      (outcome options (record {
        held = pushed (rule o).id word (if b then held rows (Some (id, t ∷ [])) else bare (rows_then rows id t));
        waiting = if is_multiple (rule o) then positional else idle;
        position = next_position (rule o) place;
        is_trailing = false;
        stopped = None;
      }) rest)) cannot
    where
      cannot : (is_pending (rule o) (Some (id, t ∷ [])) && takes_several (rule o)) ≡ false
      cannot =
          ap (λ b. is_pending (rule o) (Some (id, t ∷ [])) && b) (several_one o (takes_value o) (stands_alone o))
          ∙ and_none (is_pending (rule o) (Some (id, t ∷ [])))

  plain_settles : (place : ℕ) (word : Text) (uses : Uses) (rows : List Row) (id t : Text) (rest : List Text)
      → arg_by_index (rules_of options) place ≡ option_map rule (awaited options uses)
      → plain_step options idle place word (held rows (Some (id, t ∷ []))) rest
      ≡ passing (settle rows id t) (plain_step options idle place word (bare (rows_then rows id t)) rest)
  plain_settles place word uses rows id t rest e =
      ap (λ found. index_by place word found (held rows (Some (id, t ∷ []))) rest) e
      ∙ (index_settles place word (awaited options uses) rows id t rest
      ∙ ap (λ found. passing (settle rows id t) (index_by place word found (bare (rows_then rows id t)) rest)) (sym e))

  word_settles : (place : ℕ) (word : Text) (long : Option (Text × Option Text)) (uses : Uses) (rows : List Row) (id t : Text) (rest : List Text)
      → long_of word ≡ long → arg_by_index (rules_of options) place ≡ option_map rule (awaited options uses)
      → step_by options idle place word long (held rows (Some (id, t ∷ []))) rest
      ≡ passing (settle rows id t) (step_by options idle place word long (bare (rows_then rows id t)) rest)
  word_settles place word (Some p) uses rows id t rest l e = found_settles place word (arg_by_long (rules_of options) p.0) p.1 rows id t rest
  word_settles place word None uses rows id t rest l e = elim (short_cases options word l) [
    | inl refused ↦
        refused.2 idle place rows (Some (id, t ∷ [])) rest
        ∙ (sym (passing_none (settle rows id t))
        ∙ ap (passing (settle rows id t)) (sym (refused.2 idle place (rows_then rows id t) None rest)))
    | inr plain ↦
        plain idle place rows (Some (id, t ∷ [])) rest
        ∙ (plain_settles place word uses rows id t rest e
        ∙ ap (passing (settle rows id t)) (sym (plain idle place (rows_then rows id t) None rest)))
  ]

  -- the walk with a value that is not judged yet is the walk after it was judged
  pub settles : (place : ℕ) (words : List Text) (uses : Uses) (rows : List Row) (id t : Text)
      → list_any (λ word. bytes_eq word (45 ∷ 45 ∷ [])) words ≡ false → arg_by_index (rules_of options) place ≡ option_map rule (awaited options uses)
      → outcome options (walk_at idle (held rows (Some (id, t ∷ []))) place) words
      ≡ passing (settle rows id t) (outcome options (walk_at idle (bare (rows_then rows id t)) place) words)
  settles place [] uses rows id t d e =
      outcome_end options (walk_at idle (held rows (Some (id, t ∷ []))) place)
      ∙ (passing_first (settle rows id t) _ _
      ∙ ap (passing (settle rows id t)) (sym (outcome_end options (walk_at idle (bare (rows_then rows id t)) place))))
  settles place (word ∷ rest) uses rows id t d e =
      let first = (neither (bytes_eq word (45 ∷ 45 ∷ [])) _ d).0 in
      outcome_step options idle (held rows (Some (id, t ∷ []))) place word rest first
      ∙ (word_settles place word (long_of word) uses rows id t rest refl e
      ∙ ap (passing (settle rows id t)) (sym (outcome_step options idle (bare (rows_then rows id t)) place word rest first)))
