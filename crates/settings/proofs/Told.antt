-- The command line that `clap` is told, argument by argument, and what a parse of it comes to.
use Rattle.std.proofs.Common.{◌≡◌, ◌↔◌, ℕ, ◌+◌, ◌<◌, ◌≤◌, String, true, false, List, [], ◌∷◌, ◌++◌, map, suc, length, get_or, drop, codes, Option, Some, None, Result, Ok, Err, MatchResult, IfOk, refl, sym, ap, ap₂, subst, ◌∙◌, arith, inl, inr, fold, append-nil, append_assoc, drop_of_length-le}
use Rattle.std.proofs.Math.Seq.{drop-cons}
use Rattle.std.specs.Global.{Global}
use Rattle.std.specs.List.{list_any}
use Rattle.clap.specs.Walk.{Rule, Text}
use Rattle.clap.specs.Simple.{App, HasMatchesOf, app_of, app_of_fields, is_simple, matches_of, new_app, on_top, with_rule}
use Rattle.clap.specs.Faults.{fault_of, is_free_app, is_simple_and_free}
use Rattle.clap.specs.Simple.{built}
use Rattle.clap.specs.Kinds.{FailsBy, IsAmong}
use Rattle.clap.specs.Matches.{found_of}
use Rattle.clap.specs.Values.{kind_of}
use Rattle.clap.specs.declared.builder.command.Command.{Command as ClapCommand}
use Rattle.clap.specs.declared.builder.command.Command.TheViews.{out-Command}
use Rattle.clap.specs.declared.error.Error.{Error}
use Rattle.clap.specs.declared.error.kind.ErrorKind.{ErrorKind}
use Rattle.clap.specs.declared.error.kind.ErrorKind.TheVariants.{OutOfMemory}
use Rattle.clap.specs.declared.parser.matches.ArgMatches.{ArgMatches}
use Rattle.settings.specs.declared.parts.Command.{Command}
use Rattle.settings.specs.declared.parts.Settings.{Settings}
use Rattle.settings.specs.declared.parts.WordsFault.{WordsFault}
use Rattle.settings.specs.declared.parts.WordsFault.TheVariants.{Usage, Memory}
use Rattle.settings.specs.declared.options.OptionName.{OptionName}
use Rattle.settings.specs.Words.{options_of, texts, settings_with, settings_told, settings_of, AreInRange}
use Rattle.settings.specs.Line.{argument_of, app_with, is_end_of_options, ShowsWords}
use Rattle.settings.proofs.Basics.{both}
use Rattle.settings.proofs.Arguments.{simple_is}
use Rattle.settings.proofs.Showing.{ok_shows, err_refuses}

-- ---- the parse

pub parsed : (command : Command) (words : List Text) (line : App) (r : Result ArgMatches Error) → line ≡ app_with (map argument_of (options_of command)) → list_any is_end_of_options words ≡ false
    → (is_simple_and_free line ≡ true → FailsBy (fault_of line words) r) → IfOk r (HasMatchesOf line words)
    → MatchResult r (λ m. ShowsWords (options_of command) words (found_of m)) (λ e. (kind_of e ≡ OutOfMemory → ⊥) → settings_told command words ≡ None)
parsed command words line (Ok m) same lacks kinds has =
    let options = options_of command in
    let free : is_simple_and_free line ≡ true = ap is_simple_and_free same ∙ simple_is options in
    let simple = (both (is_simple line) (is_free_app (built line)) free).0 in
    ok_shows options words m lacks (ap (λ a. fault_of a words) (sym same) ∙ kinds free) ((has simple).0 ∙ ap (λ a. matches_of a words) same)
parsed command words line (Err e) same lacks kinds has = λ other.
    let options = options_of command in
    let free : is_simple_and_free line ≡ true = ap is_simple_and_free same ∙ simple_is options in
    elim (kinds free) [
      | inl memory ↦ absurd (other memory)
      | inr among ↦ err_refuses options words (kind_of e) (settings_with command) lacks (subst (λ a. IsAmong (kind_of e) (fault_of a words)) same among)
    ]

when_ok : {T E : Type 0} (r : Result T E) (v : T) (P : T → Type 0) (Q : E → Type 0) → MatchResult r P Q → r ≡ Ok v → P v
when_ok r v P Q h e = subst (λ x. MatchResult x P Q) e h

when_err : {T E : Type 0} (r : Result T E) (v : E) (P : T → Type 0) (Q : E → Type 0) → MatchResult r P Q → r ≡ Err v → Q v
when_err r v P Q h e = subst (λ x. MatchResult x P Q) e h

abbrev Parse : Command → List Text → App → Result ArgMatches Error → Type 0
Parse command words line r = (line ≡ app_with (map argument_of (options_of command))) × (list_any is_end_of_options words ≡ false)
    × (is_simple_and_free line ≡ true → FailsBy (fault_of line words) r) × IfOk r (HasMatchesOf line words)

pub parsed_ok : (command : Command) (words : List Text) (line : App) (r : Result ArgMatches Error) (m : ArgMatches) → Parse command words line r → r ≡ Ok m → ShowsWords (options_of command) words (found_of m)
parsed_ok command words line r m p e =
    when_ok r m (λ x. ShowsWords (options_of command) words (found_of x)) (λ x. (kind_of x ≡ OutOfMemory → ⊥) → settings_told command words ≡ None) (parsed command words line r p.0 p.1 p.2 p.3) e

pub parsed_err : (command : Command) (words : List Text) (line : App) (r : Result ArgMatches Error) (x : Error) (k : ErrorKind) (f : WordsFault) → Parse command words line r → r ≡ Err x
    → k ≡ kind_of x → (f ≡ Memory) ↔ (k ≡ OutOfMemory) → f ≡ Usage → settings_told command words ≡ None
parsed_err command words line r x k f p e same memory usage =
    when_err r x (λ y. ShowsWords (options_of command) words (found_of y)) (λ y. (kind_of y ≡ OutOfMemory → ⊥) → settings_told command words ≡ None) (parsed command words line r p.0 p.1 p.2 p.3) e
    (λ m. let full : f ≡ Memory = memory.1 (same ∙ m) in let bad : Usage ≡ Memory = sym usage ∙ full in cc)

-- the line that is left at the loop's end
pub line_told : (line : App) (all : List OptionName) (i : ℕ) → length all ≤ i → fold with_rule line (map argument_of (drop i all)) ≡ app_with (map argument_of all) → line ≡ app_with (map argument_of all)
line_told line all i past e = ap (λ l. fold with_rule line (map argument_of l)) (sym (drop_of_length-le all past)) ∙ e

-- the line before any argument
pub line_begun : (made bare line : ClapCommand) → app_of made ≡ new_app (codes "rec") → out-Command bare ≡ record (out-Command made) { no_binary_name = true }
    → out-Command line ≡ record (out-Command bare) { disable_help_flag = true } → app_of line ≡ app_with []
line_begun made bare line new unnamed helpless =
    ap app_of_fields helpless
    ∙ ap (on_top (λ s. record s { disable_help_flag = true })) (ap app_of_fields unnamed ∙ ap (on_top (λ s. record s { no_binary_name = true })) new)

line_of : (before rules : List Rule) → fold with_rule (app_with before) rules ≡ app_with (before ++ rules)
line_of before [] = ap app_with (sym (append-nil before))
line_of before (r ∷ rules) = line_of (before ++ r ∷ []) rules ∙ ap app_with (append_assoc before (r ∷ []) rules)

pub line_first : (line : App) (rules : List Rule) → line ≡ app_with [] → fold with_rule line rules ≡ app_with rules
line_first line rules begun = ap (λ l. fold with_rule l rules) begun ∙ line_of [] rules

-- the next argument
pub line_next : (line next : App) (r : Rule) (all : List OptionName) (i : ℕ) (d : OptionName) (whole : App) → i < length all → r ≡ argument_of (get_or all i d) → next ≡ with_rule line r
    → fold with_rule line (map argument_of (drop i all)) ≡ whole → fold with_rule next (map argument_of (drop (i + 1) all)) ≡ whole
line_next line next r all i d whole below rule step left =
    let cut : drop i all ≡ get_or all i d ∷ drop (suc i) all = drop-cons all i d below in
    let one : suc i ≡ i + 1 = omega arith in
    ap₂ (λ l k. fold with_rule l (map argument_of (drop k all))) (step ∙ ap (with_rule line) rule) (sym one)
    ∙ ap (λ options. fold with_rule line (map argument_of options)) (sym cut) ∙ left

-- ---- the words

pub too_few : (words : List (String Global)) → length words < 2 → None ≡ settings_of (texts words)
too_few [] h = refl
too_few (program ∷ []) h = refl
too_few (program ∷ command ∷ rest) h = absurd (omega arith)

pub ok_in_range : (wanted : Option Settings) (r : Result Settings WordsFault) (Q : WordsFault → Type 0) → MatchResult r (λ given. wanted ≡ Some given) Q
    → ((s : Settings) → wanted ≡ Some s → AreInRange s) → IfOk r AreInRange
ok_in_range wanted (Ok s) Q h range = range s h
ok_in_range wanted (Err f) Q h range = tt
