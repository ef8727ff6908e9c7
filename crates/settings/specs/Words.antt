-- The command line: which words are accepted, and the settings that they give.
--
-- The words are the program's name, a command, and options of that command in any order, with a
-- drill's number among them. `check` is a command with the word after it, and has no options. An
-- option is `--name value` or `--name=value`, and stands at most once; `--sizes`, `--log` and
-- `--trace` have no value, and `--trace` isn't given with another of them, or with a `--cache`
-- above 0. A number is an optional `+` and one or more digits, within the option's range. Nothing
-- else is accepted.
use Rattle.std.specs.Prelude.{◌≡◌, ℕ, ◌==◌, ◌&&◌, ◌||◌, Bool, true, false, not, List, [], ◌∷◌, length, map, codes, find, Option, Some, None, option_and_then, option_map, if◌then◌else◌, nat_lt, nat_le, String}
use Rattle.std.specs.Global.{Global}
use Rattle.std.specs.String.{string_bytes}
use Rattle.std.specs.List.{list_any, list_all, before_first, after_first}
use Rattle.std.specs.Option.{option_map_or}
use Rattle.std.specs.Str.{bytes_eq, all_ascii_digits}
use Rattle.std.specs.Str.Parse.{without_leading_plus, digits_value}
use Rattle.settings.specs.declared.parts.Command.{Command}
use Rattle.settings.specs.declared.parts.Command.TheVariants.{Rewrite, Drill, Schedule, Terms, Pack, Unpack, Outermost, CheckLog, CheckTrace}
use Rattle.settings.specs.declared.parts.Settings.{Settings}
use Rattle.settings.specs.declared.options.OptionName.{OptionName}
use Rattle.settings.specs.declared.options.OptionName.TheVariants.{Workers, Fuel, Rows, Depth, Cache, Sizes, Log, Trace, Count, Seats}

abbrev pub Text : Type 0
Text = List ℕ

-- the words as texts
abbrev pub texts : List (String Global) → List Text
texts words = map string_bytes words

-- ---- commands and their options

-- the word that names a command; for a check, the word after `check`
abbrev pub command_text : Command → Text
command_text Rewrite = codes "rewrite"
command_text Drill = codes "drill"
command_text Schedule = codes "schedule"
command_text Terms = codes "terms"
command_text Pack = codes "pack"
command_text Unpack = codes "unpack"
command_text Outermost = codes "outermost"
command_text CheckLog = codes "log"
command_text CheckTrace = codes "trace"

abbrev pub commands : List Command
commands = Rewrite ∷ Drill ∷ Schedule ∷ Terms ∷ Pack ∷ Unpack ∷ Outermost ∷ []

abbrev pub checks : List Command
checks = CheckLog ∷ CheckTrace ∷ []

-- the command that a word names
unfoldable pub command_named : Text → Option Command
command_named word = find (λ c. bytes_eq (command_text c) word) commands

-- the check that a word after `check` names
unfoldable pub check_named : Text → Option Command
check_named word = find (λ c. bytes_eq (command_text c) word) checks

-- the options of a command, with its further word
abbrev pub options_of : Command → List OptionName
options_of Rewrite = Workers ∷ Fuel ∷ Rows ∷ Depth ∷ Cache ∷ Sizes ∷ Log ∷ Trace ∷ []
options_of Drill = Workers ∷ Fuel ∷ Rows ∷ Depth ∷ Cache ∷ Log ∷ Count ∷ []
options_of Schedule = Seats ∷ []
options_of Terms = Rows ∷ []
options_of Pack = Rows ∷ []
options_of Unpack = []
options_of Outermost = Workers ∷ Fuel ∷ Rows ∷ Depth ∷ Sizes ∷ Log ∷ []
options_of CheckLog = []
options_of CheckTrace = []

-- the number of a drill is a word of its own: no name stands before it
abbrev pub stands_alone : OptionName → Bool
stands_alone Count = true
stands_alone _ = false

abbrev pub takes_value : OptionName → Bool
takes_value Sizes = false
takes_value Log = false
takes_value Trace = false
takes_value _ = true

abbrev pub name_of : OptionName → Text
name_of Workers = codes "workers"
name_of Fuel = codes "fuel"
name_of Rows = codes "rows"
name_of Depth = codes "depth"
name_of Cache = codes "cache"
name_of Sizes = codes "sizes"
name_of Log = codes "log"
name_of Trace = codes "trace"
name_of Count = codes "count"
name_of Seats = codes "seats"

-- the least and the greatest number that an option takes
abbrev pub least_of : OptionName → ℕ
least_of Workers = 1
least_of Fuel = 0
least_of Rows = 1
least_of Depth = 1
least_of Cache = 0
least_of Sizes = 0
least_of Log = 0
least_of Trace = 0
least_of Count = 1
least_of Seats = 1

abbrev pub most_of : OptionName → ℕ
most_of Workers = 16
most_of Fuel = 1000000000
most_of Rows = 262144
most_of Depth = 65536
most_of Cache = 65535
most_of Sizes = 0
most_of Log = 0
most_of Trace = 0
most_of Count = 65535
most_of Seats = 16

-- ---- values

-- an optional `+`, and one or more digits
abbrev pub is_number : Text → Bool
is_number text =
    let digits = without_leading_plus text in
    nat_lt 0 (length digits) && all_ascii_digits digits

abbrev pub number_of : Text → ℕ
number_of text = digits_value 10 (without_leading_plus text)

abbrev pub is_in_range : OptionName → ℕ → Bool
is_in_range o n = nat_le (least_of o) n && nat_le n (most_of o)

-- the text is a value of the option: a number in its range
abbrev pub is_value : OptionName → Text → Bool
is_value o text = not (takes_value o) || (is_number text && is_in_range o (number_of text))

-- ---- words

-- what stands in a word before its first `=`, and what stands after it, if there is one
abbrev pub is_equals_sign : ℕ → Bool
is_equals_sign b = b == 61

abbrev pub before_equals_sign : Text → Text
before_equals_sign word = before_first is_equals_sign word

abbrev pub after_equals_sign : Text → Option Text
after_equals_sign word =
    if list_any is_equals_sign word then Some (after_first is_equals_sign word) else None

-- a text names an option: two hyphens (45) and its name
abbrev pub names : OptionName → Text → Bool
names o text = not (stands_alone o) && bytes_eq (45 ∷ 45 ∷ name_of o) text

abbrev pub option_named : List OptionName → Text → Option OptionName
option_named options text = find (λ o. names o text) options

-- the options that words use, each with the text of its value; that of one without a value is empty
abbrev pub Uses : Type 0
Uses = List (OptionName × Text)

-- an option with its text, and the options that follow
abbrev pub in_front : OptionName → Text → Option Uses → Option Uses
in_front o text following = option_map (λ uses. (o, text) ∷ uses) following

-- An option without a value has nothing attached. The value of another is attached by `=`, or it is
-- the next word, for which the option waits.
abbrev pub begun : OptionName → Bool → Option Text → Option Uses → Option Uses → Option Uses
begun o false None following waiting = in_front o [] following
begun o false (Some text) following waiting = None
begun o true None following waiting = waiting
begun o true (Some text) following waiting = in_front o text following

-- a word that names an option begins it; any other is the further word, where there is one
abbrev pub read_word : List OptionName → Option OptionName → Text → Option Uses → Option Uses
    → Option Uses
read_word options None word following waiting =
    if list_any stands_alone options then in_front Count word following else None
read_word options (Some o) word following waiting =
    begun o (takes_value o) (after_equals_sign word) following waiting

-- the options that the words after a command use, where the first word is the value of an option
-- that waits for one
abbrev pub uses_of : List OptionName → Option OptionName → List Text → Option Uses
uses_of options None [] = Some []
uses_of options (Some o) [] = None
uses_of options None (word ∷ rest) =
    let named = option_named options (before_equals_sign word) in
    read_word options named word (uses_of options None rest) (uses_of options named rest)
uses_of options (Some o) (word ∷ rest) = in_front o word (uses_of options None rest)

-- ---- settings

abbrev pub is_same : OptionName → OptionName → Bool
is_same o other = bytes_eq (name_of o) (name_of other)

abbrev pub is_given : OptionName → Uses → Bool
is_given o uses = list_any (λ u. is_same u.0 o) uses

-- each option stands at most once
abbrev pub stand_once : Uses → Bool
stand_once [] = true
stand_once (u ∷ uses) = not (is_given u.0 uses) && stand_once uses

abbrev pub are_values : Uses → Bool
are_values uses = list_all (λ u. is_value u.0 u.1) uses

-- the further word is there, where there is one
abbrev pub is_whole : List OptionName → Uses → Bool
is_whole options uses = not (list_any stands_alone options) || is_given Count uses

abbrev pub are_accepted : List OptionName → Uses → Bool
are_accepted options uses = stand_once uses && (are_values uses && is_whole options uses)

-- the text that an option is given
abbrev pub text_given : OptionName → Uses → Option Text
text_given o uses = option_map (λ u. u.1) (find (λ u. is_same u.0 o) uses)

-- the number that an option is given, or its default
abbrev pub number_or : ℕ → OptionName → Uses → ℕ
number_or default o uses = option_map_or number_of (text_given o uses) default

abbrev pub settings_with : Command → Uses → Settings
settings_with c uses = record {
  command = c;
  workers = number_or 1 Workers uses;
  fuel = number_or 1000000 Fuel uses;
  rows = number_or 65536 Rows uses;
  depth = number_or 4096 Depth uses;
  cache = number_or 0 Cache uses;
  sizes = is_given Sizes uses;
  log = is_given Log uses;
  trace = is_given Trace uses;
  count = number_or 0 Count uses;
  seats = number_or 2 Seats uses;
}

-- the settings of a command whose words use these options
abbrev pub settings_using : Command → Uses → Option Settings
settings_using c uses =
    if are_accepted (options_of c) uses then Some (settings_with c uses) else None

-- the settings that the words after a command give, each option by itself
abbrev pub settings_told : Command → List Text → Option Settings
settings_told c words = option_and_then (settings_using c) (uses_of (options_of c) None words)

-- Sizes stand in the place of the texts that traces lead to, and a log where traces stand; of a
-- result that is remembered no steps are known.
abbrev pub agree : Settings → Bool
agree s = not (s.trace && (s.sizes || s.log || nat_lt 0 s.cache))

abbrev pub agreed : Settings → Option Settings
agreed s = if agree s then Some s else None

-- the settings that the words after a command give
abbrev pub settings_after : Command → List Text → Option Settings
settings_after c words = option_and_then agreed (settings_told c words)

-- the settings that the words after `check` give
abbrev pub settings_of_check : List Text → Option Settings
settings_of_check [] = None
settings_of_check (what ∷ rest) = option_and_then (λ c. settings_after c rest) (check_named what)

-- the settings that words give, or none where they are not accepted
abbrev pub settings_of : List Text → Option Settings
settings_of [] = None
settings_of (program ∷ []) = None
settings_of (program ∷ command ∷ rest) =
    if bytes_eq command (codes "check") then settings_of_check rest
    else option_and_then (λ c. settings_after c rest) (command_named command)

-- the numbers of settings are in the ranges of their options, the count of a drill in that of its
-- word
pub record AreInRange (s : Settings) : Type 0 where
  pub workers : is_in_range Workers s.workers ≡ true
  pub fuel : is_in_range Fuel s.fuel ≡ true
  pub rows : is_in_range Rows s.rows ≡ true
  pub depth : is_in_range Depth s.depth ≡ true
  pub cache : is_in_range Cache s.cache ≡ true
  pub count : s.command ≡ Drill → is_in_range Count s.count ≡ true
  pub seats : is_in_range Seats s.seats ≡ true
