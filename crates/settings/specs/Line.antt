-- The command line of a command as `clap` is told it, and what its matches show.
use Rattle.std.specs.Prelude.{◌≡◌, ◌⊎◌, Bool, true, false, List, [], ◌∷◌, codes, Some, None, bytes_eq, if◌then◌else◌}
use Rattle.clap.specs.Words.{Rule, new_rule, App, one_text}
use Rattle.clap.specs.Simple.{new_shape}
use Rattle.clap.specs.declared.builder.action.ArgAction.TheVariants.{Set, SetTrue}
use Rattle.clap.specs.declared.builder.value_parser.ValueParser.TheVariants.{Unsigned}
use Rattle.clap.specs.declared.parser.matches.Found.{Found}
use Rattle.settings.specs.declared.options.OptionName.{OptionName}
use Rattle.settings.specs.Words.{Text, Uses, name_of, takes_value, stands_alone, least_of, most_of, uses_of, are_accepted, are_values, is_given, text_given}

-- the argument of an option, by whether it takes a value and stands alone
abbrev pub argument_for : OptionName → Bool → Bool → Rule
argument_for o takes alone = record (new_rule (name_of o)) {
  long = if alone then None else Some (name_of o);
  index = if alone then Some 1 else None;
  action = Some (if takes then Set else SetTrue);
  parser = if takes then Some (Unsigned (least_of o) (most_of o)) else None;
  required = alone;
}

abbrev pub argument_of : OptionName → Rule
argument_of o = argument_for o (takes_value o) (stands_alone o)

-- a command with these arguments, which reads no program's name and has no help
abbrev pub app_with : List Rule → App
app_with rules = record {
  top = record (new_shape (codes "rec")) { rules = rules; no_binary_name = true; disable_help_flag = true };
  subs = [];
}

-- a word at which `clap` ends the options
abbrev pub is_end_of_options : Text → Bool
is_end_of_options word = bytes_eq word (45 ∷ 45 ∷ [])

-- what the matches have of an option without a value
abbrev pub HasFlag : Found → OptionName → Bool → Type 0
HasFlag found o true = one_text found (name_of o) ≡ Some (codes "true")
HasFlag found o false = (one_text found (name_of o) ≡ None) ⊎ (one_text found (name_of o) ≡ Some (codes "false"))

-- the matches have the uses
pub record Shows (found : Found) (uses : Uses) : Type 0 where
  pub values : are_values uses ≡ true
  pub texts : (o : OptionName) → takes_value o ≡ true
      → one_text found (name_of o) ≡ text_given o uses
  pub flags : (o : OptionName) → takes_value o ≡ false → HasFlag found o (is_given o uses)

-- the words use options in a way that is accepted, and the matches have these uses
abbrev pub ShowsWords : List OptionName → List Text → Found → Type 0
ShowsWords options words found =
    (uses : Uses) × (uses_of options None words ≡ Some uses) × (are_accepted options uses ≡ true)
    × Shows found uses
