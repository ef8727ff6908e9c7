-- What the matches show: the uses of the words, and defaults of flags that are not given.
use Rattle.std.proofs.Common.{◌≡◌, ◌⊎◌, Bool, true, false, cond, not, ◌&&◌, ◌||◌, List, [], ◌∷◌, ◌++◌, map, codes, Option, Some, None, refl, sym, ap, subst, ◌∙◌, inl, inr, ⊎_elim, fold, true≢false}
use Rattle.std.specs.Prelude.{find, option_map, option_and_then, bytes_eq, if◌then◌else◌}
use Rattle.std.specs.List.{list_any}
use Rattle.std.specs.Option.{option_map_or}
use Rattle.clap.specs.Kinds.{IsAmong, Kinds, or_else}
use Rattle.clap.specs.Facts.{explicit_source}
use Rattle.clap.specs.Matches.{found_of, one_text}
use Rattle.clap.specs.Walk.{Row, Rule, Text, Walk, idle, finished, has_row, more_values, nothing_held, one_of, row_text, rows_of, settled, walk, with_default, with_values}
use Rattle.clap.specs.Takes.{is_given as is_there}
use Rattle.clap.specs.Simple.{App, matches_of, names_of}
use Rattle.clap.specs.Faults.{built_fault, check_fault, default_fault, defaults_fault, fault_of, walk_fault}
use Rattle.clap.specs.declared.builder.value_parser.Reading.TheVariants.{AsWritten}
use Rattle.clap.specs.declared.error.kind.ErrorKind.{ErrorKind}
use Rattle.clap.specs.declared.error.kind.ErrorKind.TheVariants as kind
use Rattle.clap.specs.declared.parser.matches.ArgMatches.{ArgMatches}
use Rattle.clap.specs.declared.parser.matches.Found.{Found}
use Rattle.clap.specs.declared.parser.matches.ValueSource.TheVariants.{DefaultValue}
use Rattle.clap.proofs.FaultLemmas.{leaf_fault}
use Rattle.clap.proofs.WalkLemmas.{one_text-rows}
use Rattle.settings.specs.declared.options.OptionName.{OptionName}
use Rattle.settings.specs.declared.options.OptionName.TheVariants.{Count}
use Rattle.settings.specs.Words.{Uses, name_of, takes_value, stands_alone, is_same, is_given, is_whole, are_values, are_accepted, stand_once, text_given, uses_of}
use Rattle.settings.specs.Line.{argument_of, app_with, HasFlag, Shows, ShowsWords}
use Rattle.settings.proofs.Basics.{both, and_none, any_among, any_found, found_among, found_behind, found_in_front, found_without_last, same_is, alone_is, alone_takes}
use Rattle.settings.proofs.Arguments.{rule, rule_for, rules_of, shape_with, built_with, built_is, place_first}
use Rattle.settings.proofs.Turns.{is_nil, passing, bare, walk_at, end_fault, ended, outcome}
use Rattle.settings.proofs.Walking.{row, rows, at_no_row, walks}
use Rattle.settings.proofs.Accepting.{told_all}

-- ---- defaults

abbrev default_row : OptionName → Row
default_row o = record { id = name_of o; values = codes "false" ∷ []; count = None; source = Some DefaultValue; reading = AsWritten }

-- an argument's default changes nothing, or it is one more row
abbrev default_for : OptionName → Bool → List Row → List Row
default_for o takes rs = if takes then rs else (if has_row (name_of o) rs then rs else rs ++ default_row o ∷ [])

same_rows : (b : Bool) (rs : List Row) → cond b rs rs ≡ rs
same_rows true rs = refl
same_rows false rs = refl

with_default_is : (o : OptionName) (takes alone : Bool) (rs : List Row) → with_default rs (rule_for o takes alone) ≡ default_for o takes rs
with_default_is o true alone rs = same_rows (has_row (name_of o) rs) rs
with_default_is o false alone rs = go (has_row (name_of o) rs) refl
  where
    go : (b : Bool) → has_row (name_of o) rs ≡ b
        → cond b rs (with_values (name_of o) AsWritten DefaultValue (codes "false" ∷ []) rs) ≡ (if b then rs else rs ++ default_row o ∷ [])
    go true e = refl
    go false e = at_no_row (name_of o) (more_values DefaultValue (codes "false" ∷ [])) (default_row o ∷ []) rs e

abbrev with_defaults : List OptionName → List Row → List Row
with_defaults options rs = fold with_default rs (rules_of options)

abbrev row_named : OptionName → List Row → Option Row
row_named o rs = find (λ (r : Row). bytes_eq r.id (name_of o)) rs

-- the row of an option with a value is that of its use
value_row : (o : OptionName) → takes_value o ≡ true → (options : List OptionName) (rs : List Row) → row_named o (with_defaults options rs) ≡ row_named o rs
value_row o t [] rs = refl
value_row o t (q ∷ options) rs =
    value_row o t options (with_default rs (rule q))
    ∙ (ap (row_named o) (with_default_is q (takes_value q) (stands_alone q) rs) ∙ go (takes_value q) refl)
  where
    differ : takes_value q ≡ false → (b : Bool) → is_same q o ≡ b → b ≡ false
    differ f true s = let bad : true ≡ false = sym t ∙ ap takes_value (sym (same_is q o s)) ∙ f in absurd (true≢false bad)
    differ f false s = refl

    go : (b : Bool) → takes_value q ≡ b → row_named o (default_for q b rs) ≡ row_named o rs
    go true f = refl
    go false f = by_row (has_row (name_of q) rs)
      where
        by_row : (c : Bool) → row_named o (cond c rs (rs ++ default_row q ∷ [])) ≡ row_named o rs
        by_row true = refl
        by_row false = found_without_last (λ (r : Row). bytes_eq r.id (name_of o)) rs (default_row q) (differ f (is_same q o) refl)

-- a row that is there stays
kept_row : (o : OptionName) (r : Row) (options : List OptionName) (rs : List Row) → row_named o rs ≡ Some r → row_named o (with_defaults options rs) ≡ Some r
kept_row o r [] rs e = e
kept_row o r (q ∷ options) rs e =
    kept_row o r options (with_default rs (rule q)) (ap (row_named o) (with_default_is q (takes_value q) (stands_alone q) rs) ∙ go (takes_value q) (has_row (name_of q) rs))
  where
    go : (b c : Bool) → row_named o (if b then rs else (cond c rs (rs ++ default_row q ∷ []))) ≡ Some r
    go true c = e
    go false true = e
    go false false = found_in_front (λ (x : Row). bytes_eq x.id (name_of o)) rs (default_row q ∷ []) r e

-- a flag that is not given has no row, or that of its default
abbrev Unset : OptionName → List Row → Type 0
Unset o rs = (row_named o rs ≡ None) ⊎ (row_named o rs ≡ Some (default_row o))

unset_row : (o : OptionName) (options : List OptionName) (rs : List Row) → Unset o rs → Unset o (with_defaults options rs)
unset_row o [] rs h = h
unset_row o (q ∷ options) rs h =
    unset_row o options (with_default rs (rule q)) (subst (Unset o) (sym (with_default_is q (takes_value q) (stands_alone q) rs)) (go (takes_value q) (has_row (name_of q) rs) h))
  where
    added : (s : Bool) → is_same q o ≡ s → row_named o rs ≡ None → Unset o (rs ++ default_row q ∷ [])
    added true s n = inr (behind (λ (x : Row). bytes_eq x.id (name_of o)) rs (default_row q) n s ∙ ap (λ x. Some (default_row x)) (same_is q o s))
      where
        behind : (p : Row → Bool) (xs : List Row) (y : Row) → find p xs ≡ None → p y ≡ true → find p (xs ++ y ∷ []) ≡ Some y
        behind p xs y n e = found_behind p xs (y ∷ []) n ∙ ap (λ b. cond b (Some y) None) e
    added false s n = inl (found_without_last (λ (x : Row). bytes_eq x.id (name_of o)) rs (default_row q) s ∙ n)

    go : (b c : Bool) → Unset o rs → Unset o (if b then rs else (cond c rs (rs ++ default_row q ∷ [])))
    go true c u = u
    go false true u = u
    go false false (inl n) = added (is_same q o) refl n
    go false false (inr n) = inr (found_in_front (λ (x : Row). bytes_eq x.id (name_of o)) rs (default_row q ∷ []) (default_row o) n)

-- ---- what is read of the rows

given_row_is : (o : OptionName) (uses : Uses) → row_named o (rows uses) ≡ option_map row (find (λ u. is_same u.0 o) uses)
given_row_is o uses = found_among (λ (r : Row). bytes_eq r.id (name_of o)) row uses

text_of_use : (o : OptionName) → takes_value o ≡ true → (uses : Uses) → option_and_then row_text (option_map row (find (λ u. is_same u.0 o) uses)) ≡ text_given o uses
text_of_use o t [] = refl
text_of_use o t (u ∷ uses) = go (is_same u.0 o) refl (text_of_use o t uses)
  where
    go : (b : Bool) → is_same u.0 o ≡ b → option_and_then row_text (option_map row (find (λ w. is_same w.0 o) uses)) ≡ text_given o uses
        → option_and_then row_text (option_map row (cond b (Some u) (find (λ w. is_same w.0 o) uses))) ≡ option_map (λ w. w.1) (cond b (Some u) (find (λ w. is_same w.0 o) uses))
    go true s h =
        let takes : takes_value u.0 ≡ true = ap takes_value (same_is u.0 o s) ∙ t in
        ap (λ b. Some (if b then u.1 else codes "true")) takes
    go false s h = h

value_text : (o : OptionName) → takes_value o ≡ true → (options : List OptionName) (uses : Uses) → one_of (name_of o) (with_defaults options (rows uses)) ≡ text_given o uses
value_text o t options uses =
    ap (option_and_then row_text) (value_row o t options (rows uses) ∙ given_row_is o uses) ∙ text_of_use o t uses

-- a flag that is given has the row of its use
flag_row : (o : OptionName) → takes_value o ≡ false → (uses : Uses) → is_given o uses ≡ true → (r : Row) × (row_named o (rows uses) ≡ Some r) × (row_text r ≡ Some (codes "true"))
flag_row o t [] g = absurd (true≢false (sym g))
flag_row o t (u ∷ uses) g = go (is_same u.0 o) refl g (flag_row o t uses)
  where
    go : (b : Bool) → is_same u.0 o ≡ b → (b || is_given o uses) ≡ true
        → (is_given o uses ≡ true → (r : Row) × (row_named o (rows uses) ≡ Some r) × (row_text r ≡ Some (codes "true")))
        → (r : Row) × (cond b (Some (row u)) (row_named o (rows uses)) ≡ Some r) × (row_text r ≡ Some (codes "true"))
    go true s h rest =
        let takes : takes_value u.0 ≡ false = ap takes_value (same_is u.0 o s) ∙ t in
        (row u, refl, ap (λ b. Some (if b then u.1 else codes "true")) takes)
    go false s h rest = rest h

flag_text : (o : OptionName) → takes_value o ≡ false → (options : List OptionName) (uses : Uses) (found : Found) → one_text found (name_of o) ≡ one_of (name_of o) (with_defaults options (rows uses))
    → HasFlag found o (is_given o uses)
flag_text o t options uses found e = go (is_given o uses) refl
  where
    go : (b : Bool) → is_given o uses ≡ b → HasFlag found o b
    go true g =
        let r = flag_row o t uses g in
        e ∙ (ap (option_and_then row_text) (kept_row o r.0 options (rows uses) r.1) ∙ r.2)
    go false g =
        let none : row_named o (rows uses) ≡ None = given_row_is o uses ∙ ap (option_map row) (any_found (λ u. is_same u.0 o) uses g) in
        ⊎_elim (λ n. inl (e ∙ ap (option_and_then row_text) n)) (λ d. inr (e ∙ ap (option_and_then row_text) d)) (unset_row o options (rows uses) (inl none))

pub shows : (options : List OptionName) (uses : Uses) (found : Found) → are_values uses ≡ true → rows_of found ≡ with_defaults options (rows uses) → Shows found uses
shows options uses found values e = record {
  values = values;
  texts = λ o t. one_text-rows found (name_of o) ∙ (ap (one_of (name_of o)) e ∙ value_text o t options uses);
  flags = λ o t. flag_text o t options uses found (one_text-rows found (name_of o) ∙ ap (one_of (name_of o)) e);
}

-- ---- after the last word

default_passes : (o : OptionName) (takes alone : Bool) (rs : List Row) → default_fault rs (rule_for o takes alone) ≡ []
default_passes o true alone rs = go (has_row (name_of o) rs)
  where
    go : (b : Bool) → cond {A = Kinds} (b || true) [] [] ≡ []
    go true = refl
    go false = refl
default_passes o false alone rs = go (has_row (name_of o) rs)
  where
    go : (b : Bool) → cond {A = Kinds} (b || false) [] [] ≡ []
    go true = refl
    go false = refl

defaults_pass : (options : List OptionName) (rs : List Row) → defaults_fault rs (rules_of options) ≡ []
unfolding defaults_fault
defaults_pass [] rs = refl
defaults_pass (o ∷ options) rs =
    ap (λ k. or_else k (defaults_fault (with_default rs (rule o)) (rules_of options))) (default_passes o (takes_value o) (stands_alone o) rs)
    ∙ defaults_pass options (with_default rs (rule o))

given_found : (o : OptionName) (uses : Uses) → option_map_or (λ (r : Row). explicit_source r.source) (option_map row (find (λ u. is_same u.0 o) uses)) false ≡ is_given o uses
given_found o [] = refl
given_found o (u ∷ uses) = go (is_same u.0 o) (given_found o uses)
  where
    go : (b : Bool) → option_map_or (λ (r : Row). explicit_source r.source) (option_map row (find (λ w. is_same w.0 o) uses)) false ≡ is_given o uses
        → option_map_or (λ (r : Row). explicit_source r.source) (option_map row (cond b (Some u) (find (λ w. is_same w.0 o) uses))) false ≡ (b || is_given o uses)
    go true h = refl
    go false h = h

-- an option with a value is there where it is given
present : (o : OptionName) → takes_value o ≡ true → (options : List OptionName) (uses : Uses) → is_there (name_of o) (with_defaults options (rows uses)) ≡ is_given o uses
present o t options uses =
    ap (λ x. option_map_or (λ (r : Row). explicit_source r.source) x false) (value_row o t options (rows uses) ∙ given_row_is o uses) ∙ given_found o uses

missing_one : (o : OptionName) (options : List OptionName) (uses : Uses) → (stands_alone o && not (is_there (name_of o) (with_defaults options (rows uses)))) ≡ (stands_alone o && not (is_given Count uses))
missing_one o options uses = go (stands_alone o) refl
  where
    go : (b : Bool) → stands_alone o ≡ b → (b && not (is_there (name_of o) (with_defaults options (rows uses)))) ≡ (b && not (is_given Count uses))
    go true a = ap not (present o (alone_takes o a) options uses ∙ ap (λ q. is_given q uses) (alone_is o a))
    go false a = refl

any_and : (options : List OptionName) (c : Bool) → list_any (λ o. stands_alone o && c) options ≡ (list_any stands_alone options && c)
any_and [] c = refl
any_and (o ∷ options) c = go (stands_alone o) c (any_and options c)
  where
    go : (b d : Bool) → list_any (λ q. stands_alone q && d) options ≡ (list_any stands_alone options && d)
        → ((b && d) || list_any (λ q. stands_alone q && d) options) ≡ ((b || list_any stands_alone options) && d)
    go true true h = refl
    go true false h = h ∙ and_none (list_any stands_alone options)
    go false d h = h

missing_is : (options : List OptionName) (uses : Uses)
    → list_any (λ (a : Rule). a.required && not (is_there a.id (with_defaults options (rows uses)))) (rules_of options) ≡ (list_any stands_alone options && not (is_given Count uses))
missing_is options uses =
    any_among (λ (a : Rule). a.required && not (is_there a.id (with_defaults options (rows uses)))) rule options
    ∙ ((λ i. list_any (λ o. missing_one o options uses i) options) ∙ any_and options (not (is_given Count uses)))

whole_is : (a g : Bool) → is_nil (if (a && not g) then kind.MissingRequiredArgument ∷ [] else []) ≡ (not a || g)
whole_is true true = refl
whole_is true false = refl
whole_is false g = refl

ends_whole : (options : List OptionName) (uses : Uses) → is_nil (end_fault options (bare (rows uses))) ≡ is_whole options uses
ends_whole options uses =
    ap (λ k. is_nil (or_else k (check_fault (shape_with (rules_of options)) (with_defaults options (rows uses)) false))) (defaults_pass options (rows uses))
    ∙ (ap (λ b. is_nil (if b then kind.MissingRequiredArgument ∷ [] else [])) (missing_is options uses)
    ∙ whole_is (list_any stands_alone options) (is_given Count uses))

-- ---- the whole parse

abbrev start : Walk
start = walk_at idle nothing_held 1

fault_is : (options : List OptionName) (words : List Text)
    → fault_of (app_with (map argument_of options)) words
    ≡ or_else (walk_fault (shape_with (rules_of options)) [] start words) (end_fault options (ended options start words))
fault_is options words =
    ap (λ (a : App). built_fault a nothing_held words) (built_is options) ∙ leaf_fault (built_with (rules_of options)) nothing_held words refl

matches_are : (options : List OptionName) (words : List Text)
    → matches_of (app_with (map argument_of options)) words ≡ with_defaults options (settled (rules_of options) (ended options start words)).rows
matches_are options words = ap (λ (a : App). finished a.top.rules (walk a.top.rules (names_of a) nothing_held words).held) (built_is options)

outcome_is : (options : List OptionName) (words : List Text) → list_any (λ word. bytes_eq word (45 ∷ 45 ∷ [])) words ≡ false
    → outcome options start words ≡ option_and_then (λ uses. cond (are_accepted options uses) (Some (rows uses)) None) (uses_of options None words)
outcome_is options words lacks =
    walks options (ends_whole options) words lacks [] None 1 (place_first options) tt
    ∙ (λ i. option_and_then (λ uses. told_all options uses i) (uses_of options None words))

no_kind : (kinds : Kinds) (x : List Row) → kinds ≡ [] → passing kinds (Some x) ≡ Some x
no_kind kinds x e = ap (λ k. passing k (Some x)) e

-- matches of words show the uses that the definition reads
pub ok_shows : (options : List OptionName) (words : List Text) (m : ArgMatches) → list_any (λ word. bytes_eq word (45 ∷ 45 ∷ [])) words ≡ false
    → fault_of (app_with (map argument_of options)) words ≡ [] → rows_of (found_of m) ≡ matches_of (app_with (map argument_of options)) words → ShowsWords options words (found_of m)
ok_shows options words m lacks none same = go (uses_of options None words) refl (sym come ∙ outcome_is options words lacks)
  where
    come : outcome options start words ≡ Some (settled (rules_of options) (ended options start words)).rows
    come = no_kind _ _ (sym (fault_is options words) ∙ none)

    by_test : (uses : Uses) → uses_of options None words ≡ Some uses → (b : Bool) → are_accepted options uses ≡ b
        → Some (settled (rules_of options) (ended options start words)).rows ≡ cond b (Some (rows uses)) None → ShowsWords options words (found_of m)
    by_test uses u false a e = cc
    by_test uses u true a e =
        let parts = both (stand_once uses) (are_values uses && is_whole options uses) a in
        let more = both (are_values uses) (is_whole options uses) parts.1 in
        let here : (settled (rules_of options) (ended options start words)).rows ≡ rows uses = cc in
        (uses, u, a, shows options uses (found_of m) more.0 (same ∙ (matches_are options words ∙ ap (with_defaults options) here)))

    go : (given : Option Uses) → uses_of options None words ≡ given
        → Some (settled (rules_of options) (ended options start words)).rows ≡ option_and_then (λ uses. cond (are_accepted options uses) (Some (rows uses)) None) given
        → ShowsWords options words (found_of m)
    go None u e = cc
    go (Some uses) u e = by_test uses u (are_accepted options uses) refl e

-- where a kind of error comes, the definition accepts no uses
pub err_refuses : {X : Type 0} (options : List OptionName) (words : List Text) (k : ErrorKind) (make : Uses → X) → list_any (λ word. bytes_eq word (45 ∷ 45 ∷ [])) words ≡ false
    → IsAmong k (fault_of (app_with (map argument_of options)) words)
    → option_and_then (λ uses. cond (are_accepted options uses) (Some (make uses)) None) (uses_of options None words) ≡ None
err_refuses options words k make lacks among = go (uses_of options None words) (sym (outcome_is options words lacks) ∙ come)
  where
    nothing : (kinds : Kinds) (x : Option (List Row)) → IsAmong k kinds → passing kinds x ≡ None
    nothing [] x h = absurd h
    nothing (y ∷ ys) x h = refl

    come : outcome options start words ≡ None
    come = nothing _ _ (subst (IsAmong k) (fault_is options words) among)

    by_test : (uses : Uses) (b : Bool) → cond b (Some (rows uses)) None ≡ None → cond b (Some (make uses)) None ≡ None
    by_test uses true e = cc
    by_test uses false e = refl

    go : (given : Option Uses) → option_and_then (λ uses. cond (are_accepted options uses) (Some (rows uses)) None) given ≡ None
        → option_and_then (λ uses. cond (are_accepted options uses) (Some (make uses)) None) given ≡ None
    go None e = refl
    go (Some uses) e = by_test uses (are_accepted options uses) e
