-- The walk of `clap` over the words comes to the uses that the definition reads from them.
use Rattle.std.proofs.Common.{◌≡◌, ℕ, ◌+◌, min, Bool, true, false, cond, not, ◌&&◌, ◌||◌, List, [], ◌∷◌, ◌++◌, map, codes, Option, Some, None, refl, sym, ap, ap₂, ◌∙◌, inl, inr, append-nil, nat_lt}
use Rattle.std.specs.Prelude.{option_map, option_and_then, bytes_eq, if◌then◌else◌}
use Rattle.std.specs.List.{list_any}
use Rattle.std.specs.Option.{option_map_or}
use Rattle.clap.specs.Lexer.{long_of, strip_byte, usize_max}
use Rattle.clap.specs.Kinds.{Kinds, or_else}
use Rattle.clap.specs.ValueTests.{accepts}
use Rattle.clap.specs.Walk.{Row, Rule, Text, Walk, idle, option, arg_by_long, at_row, arg_by_index, has_row, more_values, option_word, takes_values, used, used_by_id, with_values, without}
use Rattle.clap.specs.Faults.{settle_fault, use_fault}
use Rattle.clap.specs.declared.builder.value_parser.ValueParser.TheVariants.{Unsigned}
use Rattle.clap.specs.declared.builder.value_parser.Reading.TheVariants.{AsWritten}
use Rattle.clap.specs.declared.parser.matches.ValueSource.TheVariants.{CommandLine}
use Rattle.clap.specs.declared.error.kind.ErrorKind.TheVariants as kind
use Rattle.settings.specs.declared.options.OptionName.{OptionName}
use Rattle.settings.specs.declared.options.OptionName.TheVariants.{Count}
use Rattle.settings.specs.Words.{Uses, name_of, takes_value, stands_alone, least_of, most_of, is_value, is_given, is_whole, option_named, before_equals_sign, in_front, begun, read_word, uses_of}
use Rattle.settings.proofs.Basics.{and_none, any_among, neither, none_either_way, same_name}
use Rattle.settings.proofs.Hyphens.{IsLong, long_is, short_begins, begins_no_value, unnamed}
use Rattle.settings.proofs.Arguments.{rule, rule_for, rules_of, long_rule, Has, id_rule, has_found, has_named, named_not_alone, Place, place_same, place_next, has_further}
use Rattle.settings.proofs.Values.{accepts_is}
use Rattle.settings.proofs.Turns.{is_nil, passing, held, bare, walk_at, end_fault, outcome, outcome_end, outcome_step, step_by, long_by, taken_by, plain_step, short_cases}
use Rattle.settings.proofs.Settling.{index_by, settles}

-- ---- uses, as rows

abbrev pub row_for : OptionName → Text → Bool → Row
row_for o t takes = record {
  id = name_of o;
  values = (if takes then t else codes "true") ∷ [];
  count = None;
  source = Some CommandLine;
  reading = AsWritten;
}

abbrev pub row : OptionName × Text → Row
row u = row_for u.0 u.1 (takes_value u.0)

abbrev pub rows : Uses → List Row
rows uses = map row uses

-- one use more is accepted
abbrev pub fits : Uses → OptionName → Text → Bool
fits uses o t = not (is_given o uses) && is_value o t

-- what the walk comes to with these uses so far, where these follow
abbrev pub told : List OptionName → Uses → Uses → Option (List Row)
told options uses [] = if is_whole options uses then Some (rows uses) else None
told options uses (u ∷ later) = if fits uses u.0 u.1 then told options (uses ++ u ∷ []) later else None

-- ---- one use

pub at_no_row : (id : Text) (change : Row → List Row) (missing rs : List Row) → has_row id rs ≡ false → at_row id change missing rs ≡ rs ++ missing
at_no_row id change missing [] e = refl
at_no_row id change missing (r ∷ rs) e =
    let parts = neither (bytes_eq r.id id) (has_row id rs) e in
    ap (λ b. cond b (change r ++ rs) (r ∷ at_row id change missing rs)) parts.0 ∙ ap (λ l. r ∷ l) (at_no_row id change missing rs parts.1)

added : (id : Text) (values : List Text) (rs : List Row) → has_row id rs ≡ false
    → with_values id AsWritten CommandLine values (without id rs) ≡ rs ++ record { id = id; values = values; count = None; source = Some CommandLine; reading = AsWritten } ∷ []
added id values rs e =
    ap (with_values id AsWritten CommandLine values) (at_no_row id (λ _. []) [] rs e ∙ append-nil rs)
    ∙ at_no_row id (more_values CommandLine values) (record { id = id; values = values; count = None; source = Some CommandLine; reading = AsWritten } ∷ []) rs e

-- the values that `clap` has of a use
abbrev values_for : Bool → Text → List Text
values_for takes t = if takes then t ∷ [] else []

used_is : (o : OptionName) (takes alone : Bool) (t : Text) (rs : List Row) → has_row (name_of o) rs ≡ false
    → used (rule_for o takes alone) (values_for takes t) rs ≡ rs ++ row_for o t takes ∷ []
used_is o true alone t rs e = added (name_of o) (t ∷ []) rs e
used_is o false alone t rs e = added (name_of o) (codes "true" ∷ []) rs e

use_is_nil : (o : OptionName) (takes alone : Bool) (t : Text) (rs : List Row)
    → is_nil (use_fault false (rule_for o takes alone) (values_for takes t) rs)
    ≡ (not (has_row (name_of o) rs) && (not takes || accepts false (Unsigned (least_of o) (most_of o)) t))
use_is_nil o true alone t rs = two (has_row (name_of o) rs) (accepts false (Unsigned (least_of o) (most_of o)) t)
  where
    two : (b c : Bool) → is_nil (or_else (if b && true then kind.ArgumentConflict ∷ [] else []) (or_else (if c then [] else kind.ValueValidation ∷ []) [])) ≡ (not b && c)
    two true c = refl
    two false true = refl
    two false false = refl
use_is_nil o false alone t rs = one (has_row (name_of o) rs)
  where
    one : (b : Bool) → is_nil (or_else (if b && true then kind.ArgumentConflict ∷ [] else []) []) ≡ (not b && true)
    one true = refl
    one false = refl

given_row : (o : OptionName) (uses : Uses) → has_row (name_of o) (rows uses) ≡ is_given o uses
given_row o uses = any_among (λ (r : Row). bytes_eq r.id (name_of o)) row uses

use_fits : (o : OptionName) (alone : Bool) (t : Text) (uses : Uses)
    → is_nil (use_fault false (rule_for o (takes_value o) alone) (values_for (takes_value o) t) (rows uses)) ≡ fits uses o t
use_fits o alone t uses =
    use_is_nil o (takes_value o) alone t (rows uses)
    ∙ ap₂ (λ b c. not b && (not (takes_value o) || c)) (given_row o uses) (accepts_is o t)

rows_more : (uses : Uses) (u : OptionName × Text) → rows uses ++ row u ∷ [] ≡ rows (uses ++ u ∷ [])
rows_more [] u = refl
rows_more (w ∷ uses) u = ap (λ l. row w ∷ l) (rows_more uses u)

module _ (options : List OptionName) where
  -- a use that fits goes on with one use more, and any other ends
  use_goes_on : (uses : Uses) (o : OptionName) (alone : Bool) (t : Text) (place : ℕ) (words : List Text)
      → passing (use_fault false (rule_for o (takes_value o) alone) (values_for (takes_value o) t) (rows uses))
      (outcome options (walk_at idle (bare (used (rule_for o (takes_value o) alone) (values_for (takes_value o) t) (rows uses))) place) words)
      ≡ (if fits uses o t then outcome options (walk_at idle (bare (rows (uses ++ (o, t) ∷ []))) place) words else None)
  use_goes_on uses o alone t place words =
      let x = outcome options (walk_at idle (bare (used (rule_for o (takes_value o) alone) (values_for (takes_value o) t) (rows uses))) place) words in
      ap (λ b. cond b x None) (use_fits o alone t uses) ∙ go (fits uses o t) refl
    where
      go : (b : Bool) → fits uses o t ≡ b
          → cond b (outcome options (walk_at idle (bare (used (rule_for o (takes_value o) alone) (values_for (takes_value o) t) (rows uses))) place) words) None
          ≡ cond b (outcome options (walk_at idle (bare (rows (uses ++ (o, t) ∷ []))) place) words) None
      go false e = refl
      go true e =
          ap (λ rs. outcome options (walk_at idle (bare rs) place) words)
          (used_is o (takes_value o) alone t (rows uses) (given_row o uses ∙ not_given (is_given o uses) e) ∙ rows_more uses (o, t))
        where
          not_given : (b : Bool) → (not b && is_value o t) ≡ true → b ≡ false
          not_given true h = cc
          not_given false h = refl

  told_front : (uses : Uses) (o : OptionName) (t : Text) (following : Option Uses)
      → option_and_then (told options uses) (in_front o t following)
      ≡ (if fits uses o t then option_and_then (told options (uses ++ (o, t) ∷ [])) following else None)
  told_front uses o t None = sym (none_either_way (fits uses o t))
  told_front uses o t (Some later) = refl

  told_no_value : (uses : Uses) (o : OptionName) (t : Text) (following : Option Uses) → is_value o t ≡ false → option_and_then (told options uses) (in_front o t following) ≡ None
  told_no_value uses o t following e =
      told_front uses o t following
      ∙ ap (λ b. cond b (option_and_then (told options (uses ++ (o, t) ∷ [])) following) None) (ap (λ b. not (is_given o uses) && b) e ∙ and_none (not (is_given o uses)))

  -- an option that waits for its value, and whose walk goes on as the definition says
  abbrev Waits : Option OptionName → Type 0
  Waits None = Unit {0}
  Waits (Some o) = Has options o × (takes_value o ≡ true) × (stands_alone o ≡ false)

  abbrev state : Uses → Option OptionName → ℕ → Walk
  state uses None place = walk_at idle (bare (rows uses)) place
  state uses (Some o) place = walk_at (option (name_of o)) (held (rows uses) (Some (name_of o, []))) place

  abbrev Goes : List Text → Type 0
  Goes words = (uses : Uses) (wait : Option OptionName) (place : ℕ) → Place options uses place → Waits wait
      → outcome options (state uses wait place) words ≡ option_and_then (told options uses) (uses_of options wait words)

  abbrev Lacks : List Text → Type 0
  Lacks words = list_any (λ word. bytes_eq word (45 ∷ 45 ∷ [])) words ≡ false

  -- a value that is not judged yet
  holds_is : (uses : Uses) (o : OptionName) (t : Text) (place : ℕ) (words : List Text) → Has options o → takes_value o ≡ true
      → Place options (uses ++ (o, t) ∷ []) place → Lacks words → Goes words
      → outcome options (walk_at idle (held (rows uses) (Some (name_of o, t ∷ []))) place) words
      ≡ option_and_then (told options uses) (in_front o t (uses_of options None words))
  holds_is uses o t place words has takes at lacks goes =
      settles options place words (uses ++ (o, t) ∷ []) (rows uses) (name_of o) t lacks at
      ∙ (ap (λ found. passing (option_map_or (λ a. use_fault false a (t ∷ []) (rows uses)) found [])
      (outcome options (walk_at idle (bare (used_by_id found (t ∷ []) (rows uses))) place) words)) (id_rule options o has)
      ∙ (ap (λ b. passing (use_fault false (rule o) (values_for b t) (rows uses))
      (outcome options (walk_at idle (bare (used (rule o) (values_for b t) (rows uses))) place) words)) (sym takes)
      ∙ (use_goes_on uses o (stands_alone o) t place words
      ∙ (ap (λ x. cond (fits uses o t) x None) (goes (uses ++ (o, t) ∷ []) None place at tt)
      ∙ sym (told_front uses o t (uses_of options None words))))))

  -- ---- a word where nothing waits

  named_is : (uses : Uses) (place : ℕ) (word : Text) (rest : List Text) (o : OptionName) (takes : Bool) (v : Option Text) → Has options o → takes_value o ≡ takes → stands_alone o ≡ false
      → Place options uses place → Goes rest
      → taken_by options idle place word takes (rule_for o takes (stands_alone o)) v (bare (rows uses)) rest
      ≡ option_and_then (told options uses) (begun o takes v (uses_of options None rest) (uses_of options (Some o) rest))
  named_is uses place word rest o true None has takes alone at goes = goes uses (Some o) place at (has, takes, alone)
  named_is uses place word rest o true (Some t) has takes alone at goes =
      react (use_fault false (rule_for o true (stands_alone o)) (t ∷ []) (rows uses)) _
      ∙ (ap (λ b. passing (use_fault false (rule_for o b (stands_alone o)) (values_for b t) (rows uses))
      (outcome options (walk_at idle (bare (used (rule_for o b (stands_alone o)) (values_for b t) (rows uses))) place) rest)) (sym takes)
      ∙ (use_goes_on uses o (stands_alone o) t place rest
      ∙ (ap (λ x. cond (fits uses o t) x None) (goes (uses ++ (o, t) ∷ []) None place (place_same options uses place o t alone at) tt)
      ∙ sym (told_front uses o t (uses_of options None rest)))))
    where
      react : (a : Kinds) (x : Option (List Row)) → passing (or_else (or_else [] a) []) x ≡ passing a x
      react [] x = refl
      react (k ∷ ks) x = refl
  named_is uses place word rest o false None has takes alone at goes =
      react (use_fault false (rule_for o false (stands_alone o)) [] (rows uses)) _
      ∙ (ap (λ b. passing (use_fault false (rule_for o b (stands_alone o)) (values_for b []) (rows uses))
      (outcome options (walk_at idle (bare (used (rule_for o b (stands_alone o)) (values_for b []) (rows uses))) place) rest)) (sym takes)
      ∙ (use_goes_on uses o (stands_alone o) [] place rest
      ∙ (ap (λ x. cond (fits uses o []) x None) (goes (uses ++ (o, []) ∷ []) None place (place_same options uses place o [] alone at) tt)
      ∙ sym (told_front uses o [] (uses_of options None rest)))))
    where
      react : (a : Kinds) (x : Option (List Row)) → passing (or_else (or_else [] a) []) x ≡ passing a x
      react [] x = refl
      react (k ∷ ks) x = refl
  named_is uses place word rest o false (Some t) has takes alone at goes = refl

  -- a word that begins with a hyphen and names no option is not accepted
  refused_word : (uses : Uses) (word : Text) (following waiting : Option Uses) → (strip_byte 45 word ≡ None → ⊥)
      → option_and_then (told options uses) (read_word options None word following waiting) ≡ None
  refused_word uses word following waiting begins = go (list_any stands_alone options)
    where
      go : (b : Bool) → option_and_then (told options uses) (cond b (in_front Count word following) None) ≡ None
      go true = told_no_value uses Count word following (begins_no_value Count word refl begins)
      go false = refl

  takes_one : (o : OptionName) (takes alone : Bool) → takes_values (rule_for o takes alone) ≡ takes
  takes_one o true alone = refl
  takes_one o false alone = refl

  by_name : (uses : Uses) (place : ℕ) (word : Text) (rest : List Text) (p : Text × Option Text) (long : IsLong word p.0 p.1) (named : Option OptionName)
      → option_named options (before_equals_sign word) ≡ named → Place options uses place → Goes rest
      → long_by options idle place word (option_map rule named) p.1 (bare (rows uses)) rest
      ≡ option_and_then (told options uses) (read_word options named word (uses_of options None rest) (uses_of options named rest))
  by_name uses place word rest p long None e at goes = sym (refused_word uses word (uses_of options None rest) (uses_of options None rest) long.begins)
  by_name uses place word rest p long (Some o) e at goes =
      ap (λ b. taken_by options idle place word b (rule o) p.1 (bare (rows uses)) rest) (takes_one o (takes_value o) (stands_alone o))
      ∙ (named_is uses place word rest o (takes_value o) p.1 (has_named options (before_equals_sign word) o e) refl (named_not_alone options (before_equals_sign word) o e) at goes
      ∙ ap (λ v. option_and_then (told options uses) (begun o (takes_value o) v (uses_of options None rest) (uses_of options (Some o) rest))) (sym long.after))

  -- a word that is no flag, by what a word at this place is for
  by_place : (uses : Uses) (place : ℕ) (word : Text) (rest : List Text) (further given : Bool) → list_any stands_alone options ≡ further → is_given Count uses ≡ given
      → Place options uses place → Lacks rest → Goes rest
      → index_by options place word (option_map rule (if further && not given then Some Count else None)) (bare (rows uses)) rest
      ≡ option_and_then (told options uses) (if further then in_front Count word (uses_of options None rest) else None)
  by_place uses place word rest false given f g at lacks goes = refl
  by_place uses place word rest true true f g at lacks goes =
      sym (told_front uses Count word (uses_of options None rest)
      ∙ ap (λ b. cond (not b && is_value Count word) (option_and_then (told options (uses ++ (Count, word) ∷ [])) (uses_of options None rest)) None) g)
  by_place uses place word rest true false f g at lacks goes =
      let found : arg_by_index (rules_of options) place ≡ Some (rule Count) = at ∙ ap₂ (λ b c. option_map rule (if b && not c then Some Count else None)) f g in
      holds_is uses Count word (min (place + 1) usize_max) rest has refl (place_next options uses place word found) lacks goes
    where
      has : Has options Count
      has = has_found stands_alone options Count (has_further options ∙ ap (λ b. cond {A = Option OptionName} b (Some Count) None) f)

  idle_word : (uses : Uses) (place : ℕ) (word : Text) (rest : List Text) (long : Option (Text × Option Text)) → long_of word ≡ long → bytes_eq word (45 ∷ 45 ∷ []) ≡ false
      → Place options uses place → Lacks rest → Goes rest
      → step_by options idle place word long (bare (rows uses)) rest
      ≡ option_and_then (told options uses) (read_word options (option_named options (before_equals_sign word)) word (uses_of options None rest) (uses_of options (option_named options (before_equals_sign word)) rest))
  idle_word uses place word rest (Some p) l d at lacks goes =
      let long = long_is word p l in
      let named = option_named options (before_equals_sign word) in
      ap (λ found. long_by options idle place word found p.1 (bare (rows uses)) rest)
      (long_rule options p.0 ∙ ap (λ text. option_map rule (option_named options text)) (sym long.before))
      ∙ by_name uses place word rest p long named refl at goes
  idle_word uses place word rest None l d at lacks goes =
      let none = unnamed options word l d in
      let following = uses_of options None rest in
      elim (short_cases options word l) [
        | inl refused ↦
            refused.2 idle place (rows uses) None rest
            ∙ (sym (refused_word uses word following following (short_begins word refused.0 refused.1))
            ∙ ap (λ named. option_and_then (told options uses) (read_word options named word following (uses_of options named rest))) (sym none))
        | inr plain ↦
            plain idle place (rows uses) None rest
            ∙ (ap (λ found. index_by options place word found (bare (rows uses)) rest) at
            ∙ (by_place uses place word rest (list_any stands_alone options) (is_given Count uses) refl refl at lacks goes
            ∙ ap (λ named. option_and_then (told options uses) (read_word options named word following (uses_of options named rest))) (sym none)))
      ]

  -- ---- a word where an option waits for its value

  abbrev lacking : Kinds
  lacking = kind.InvalidValue ∷ []

  lacking_first : (a b : Kinds) (x : Option (List Row)) → a ≡ lacking → passing (or_else a b) x ≡ None
  lacking_first a b x h = ap (λ y. passing (or_else y b) x) h

  lacking_within : (a b c : Kinds) (x : Option (List Row)) → a ≡ lacking → passing (or_else (or_else a b) c) x ≡ None
  lacking_within a b c x h = ap (λ y. passing (or_else (or_else y b) c) x) h

  waiting_fault : (uses : Uses) (o : OptionName) → Has options o → takes_value o ≡ true → settle_fault (rules_of options) false (held (rows uses) (Some (name_of o, []))) ≡ lacking
  waiting_fault uses o has takes =
      ap (λ found. option_map_or (λ a. use_fault false a [] (rows uses)) found []) (id_rule options o has)
      ∙ ap (λ b. use_fault false (rule_for o b (stands_alone o)) [] (rows uses)) takes

  waiting_long : (uses : Uses) (o : OptionName) (place : ℕ) (word : Text) (rest : List Text) (found : Option Rule) (v : Option Text)
      → settle_fault (rules_of options) false (held (rows uses) (Some (name_of o, []))) ≡ lacking
      → long_by options (option (name_of o)) place word found v (held (rows uses) (Some (name_of o, []))) rest ≡ None
  waiting_long uses o place word rest None v e = refl
  waiting_long uses o place word rest (Some a) v e = by_taken (takes_values a) v
    where
      by_taken : (takes : Bool) (w : Option Text) → taken_by options (option (name_of o)) place word takes a w (held (rows uses) (Some (name_of o, []))) rest ≡ None
      by_taken true None = lacking_first _ _ _ e
      by_taken true (Some t) = lacking_within _ _ _ _ e
      by_taken false None = lacking_within _ _ _ _ e
      by_taken false (Some t) = refl

  taken_word : (uses : Uses) (o : OptionName) (place : ℕ) (word : Text) (rest : List Text) → Has options o → takes_value o ≡ true
      → plain_step options (option (name_of o)) place word (held (rows uses) (Some (name_of o, []))) rest
      ≡ outcome options (walk_at idle (held (rows uses) (Some (name_of o, word ∷ []))) place) rest
  taken_word uses o place word rest has takes =
      ap (λ found.
      let taken = option_word found (name_of o) word (held (rows uses) (Some (name_of o, []))) in
      outcome options (walk_at taken.1 taken.0 place) rest) (id_rule options o has)
      ∙ (ap (λ b. outcome options (walk_at (if nat_lt (cond b 1 0) (if takes_value o then 1 else 0) then option (name_of o) else idle) (held (rows uses) (Some (name_of o, word ∷ []))) place) rest) (same_name o)
      ∙ ap (λ b. outcome options (walk_at (if nat_lt 1 (if b then 1 else 0) then option (name_of o) else idle) (held (rows uses) (Some (name_of o, word ∷ []))) place) rest) takes)

  waiting_word : (uses : Uses) (o : OptionName) (place : ℕ) (word : Text) (rest : List Text) (long : Option (Text × Option Text)) → long_of word ≡ long
      → Place options uses place → Waits (Some o) → Lacks rest → Goes rest
      → step_by options (option (name_of o)) place word long (held (rows uses) (Some (name_of o, []))) rest
      ≡ option_and_then (told options uses) (in_front o word (uses_of options None rest))
  waiting_word uses o place word rest (Some p) l at waits lacks goes =
      waiting_long uses o place word rest (arg_by_long (rules_of options) p.0) p.1 (waiting_fault uses o waits.0 waits.1)
      ∙ sym (told_no_value uses o word (uses_of options None rest) (begins_no_value o word waits.1 (long_is word p l).begins))
  waiting_word uses o place word rest None l at waits lacks goes = elim (short_cases options word l) [
    | inl refused ↦
        refused.2 (option (name_of o)) place (rows uses) (Some (name_of o, [])) rest
        ∙ sym (told_no_value uses o word (uses_of options None rest) (begins_no_value o word waits.1 (short_begins word refused.0 refused.1)))
    | inr plain ↦
        plain (option (name_of o)) place (rows uses) (Some (name_of o, [])) rest
        ∙ (taken_word uses o place word rest waits.0 waits.1
        ∙ holds_is uses o word place rest waits.0 waits.1 (place_same options uses place o word waits.2 at) lacks goes)
  ]

  -- ---- all words

  -- after the last word nothing fails where the further word is there
  abbrev EndsWhole : Type 0
  EndsWhole = (uses : Uses) → is_nil (end_fault options (bare (rows uses))) ≡ is_whole options uses

  pub walks : EndsWhole → (words : List Text) → Lacks words → Goes words
  walks ends [] lacks uses None place at waits =
      outcome_end options (state uses None place) ∙ ap (λ b. cond b (Some (rows uses)) None) (ends uses)
  walks ends [] lacks uses (Some o) place at waits =
      outcome_end options (state uses (Some o) place)
      ∙ lacking_first _ _ _ (waiting_fault uses o waits.0 waits.1)
  walks ends (word ∷ rest) lacks uses None place at waits =
      let parts = neither (bytes_eq word (45 ∷ 45 ∷ [])) _ lacks in
      outcome_step options idle (bare (rows uses)) place word rest parts.0
      ∙ idle_word uses place word rest (long_of word) refl parts.0 at parts.1 (walks ends rest parts.1)
  walks ends (word ∷ rest) lacks uses (Some o) place at waits =
      let parts = neither (bytes_eq word (45 ∷ 45 ∷ [])) _ lacks in
      outcome_step options (option (name_of o)) (held (rows uses) (Some (name_of o, []))) place word rest parts.0
      ∙ waiting_word uses o place word rest (long_of word) refl at waits parts.1 (walks ends rest parts.1)
