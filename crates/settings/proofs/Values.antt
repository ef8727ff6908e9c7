-- What `clap` accepts as a value, and the numbers that it reads.
use Rattle.std.proofs.Common.{◌≡◌, ℕ, ◌<◌, ◌≤◌, ◌^◌, Bool, true, false, cond, not, ◌&&◌, ◌||◌, [], ◌∷◌, length, Option, Some, None, Result, Ok, Err, codes, refl, sym, ap, subst, ◌∙◌, arith, inl, inr, ltb-true, lt-ltb, leb-true, le-leb, lit<, nat_lt, nat_le, unwrap_or}
use Rattle.std.specs.Prelude.{find, option_map}
use Rattle.std.specs.Option.{option_map_or}
use Rattle.std.specs.Str.{all_ascii_digits}
use Rattle.std.specs.Str.Parse.{IsNumeral, ParsesUnsigned, without_leading_plus, digits_value}
use Rattle.std.proofs.lemmas.Str.Parse.{IsNumeralModel, numerals_by_value, tells_all_ascii_digits}
use Rattle.clap.specs.Words.{ReadsOne, one_text}
use Rattle.clap.specs.ValueTests.{accepts}
use Rattle.clap.proofs.ValueTestLemmas.{accepts-Accepts, Accepts-accepts}
use Rattle.clap.specs.declared.builder.value_parser.ValueParser.TheVariants.{Unsigned}
use Rattle.clap.specs.declared.parser.matches.Found.{Found}
use Rattle.settings.specs.declared.options.OptionName.{OptionName}
use Rattle.settings.specs.declared.options.OptionName.TheVariants.{Workers, Fuel, Rows, Depth, Cache, Sizes, Log, Trace, Count, Seats}
use Rattle.settings.specs.Words.{Text, Uses, name_of, takes_value, least_of, most_of, is_number, number_of, is_in_range, is_value, is_same, is_given, are_values, text_given, number_or}
use Rattle.settings.specs.Line.{HasFlag, Shows}
use Rattle.settings.proofs.Basics.{both, same_tests, same_is}

numerals : IsNumeralModel (λ ds. all_ascii_digits ds ≡ true) (digits_value 10)
numerals = numerals_by_value _ tells_all_ascii_digits

is_numeral : (t : Text) → is_number t ≡ true → IsNumeral 10 (without_leading_plus t)
is_numeral t e =
    let ds = without_leading_plus t in
    let parts = both (nat_lt 0 (length ds)) (all_ascii_digits ds) e in
    (ltb-true 0 (length ds) parts.0, numerals.to ds parts.1)

number_is : (t : Text) → IsNumeral 10 (without_leading_plus t) → is_number t ≡ true
number_is t h =
    let ds = without_leading_plus t in
    ap (λ b. b && all_ascii_digits ds) (lt-ltb 0 (length ds) h.0) ∙ numerals.from ds h.1

pub most_small : (o : OptionName) → most_of o < 2 ^ 64
most_small Workers = lit< tt
most_small Fuel = lit< tt
most_small Rows = lit< tt
most_small Depth = lit< tt
most_small Cache = lit< tt
most_small Sizes = lit< tt
most_small Log = lit< tt
most_small Trace = lit< tt
most_small Count = lit< tt
most_small Seats = lit< tt

in_range : (o : OptionName) (n : ℕ) → is_in_range o n ≡ true → (least_of o ≤ n) × (n ≤ most_of o)
in_range o n e =
    let parts = both (nat_le (least_of o) n) (nat_le n (most_of o)) e in
    (leb-true (least_of o) n parts.0, leb-true n (most_of o) parts.1)

range_is : (o : OptionName) (n : ℕ) → least_of o ≤ n → n ≤ most_of o → is_in_range o n ≡ true
range_is o n low high = ap (λ b. b && nat_le n (most_of o)) (le-leb (least_of o) n low) ∙ le-leb n (most_of o) high

-- the parser of an option accepts its values
pub accepts_is : (o : OptionName) (t : Text) → accepts false (Unsigned (least_of o) (most_of o)) t ≡ (is_number t && is_in_range o (number_of t))
accepts_is o t = same_tests _ _
    (λ e. let h = accepts-Accepts false (Unsigned (least_of o) (most_of o)) t e in
    ap (λ b. b && is_in_range o (number_of t)) (number_is t h.0) ∙ range_is o (number_of t) h.2 h.3)
    (λ e. let parts = both (is_number t) (is_in_range o (number_of t)) e in
    let r = in_range o (number_of t) parts.1 in
    let small = most_small o in
    let fits : number_of t < 2 ^ 64 = omega (arith, r.1, small) in
    Accepts-accepts false (Unsigned (least_of o) (most_of o)) t (is_numeral t parts.0, fits, r.0, r.1))

-- ---- the texts that are given

value_of : (o : OptionName) (t : Text) → takes_value o ≡ true → is_value o t ≡ true → (is_number t ≡ true) × (is_in_range o (number_of t) ≡ true)
value_of o t takes e =
    both (is_number t) (is_in_range o (number_of t)) (ap (λ b. not b || (is_number t && is_in_range o (number_of t))) (sym takes) ∙ e)

text_value : (o : OptionName) (uses : Uses) (t : Text) → are_values uses ≡ true → text_given o uses ≡ Some t → is_value o t ≡ true
text_value o [] t all e = cc
text_value o (u ∷ uses) t all e = go (is_same u.0 o) refl e (text_value o uses t (both (is_value u.0 u.1) (are_values uses) all).1)
  where
    go : (b : Bool) → is_same u.0 o ≡ b → option_map (λ w. w.1) (cond b (Some u) (find (λ w. is_same w.0 o) uses)) ≡ Some t → (text_given o uses ≡ Some t → is_value o t ≡ true) → is_value o t ≡ true
    go true s h rest =
        let same : u.1 ≡ t = cc in
        subst (λ x. is_value o x ≡ true) same (subst (λ q. is_value q u.1 ≡ true) (same_is u.0 o s) (both (is_value u.0 u.1) (are_values uses) all).0)
    go false s h rest = rest h

-- a text that is given is a number in the option's range
pub given_number : (o : OptionName) (uses : Uses) (t : Text) → takes_value o ≡ true → are_values uses ≡ true → text_given o uses ≡ Some t
    → (is_number t ≡ true) × (is_in_range o (number_of t) ≡ true)
given_number o uses t takes all e = value_of o t takes (text_value o uses t all e)

-- ---- what the getters give

module _ {E : Type 0} (gives : Text → Result ℕ E → Type 0) (k : ℕ) (parses : (t : Text) (r : Result ℕ E) → gives t r → ParsesUnsigned k 10 t r) where
  read_is : (o : OptionName) (t : Text) (r : Option ℕ) (default : ℕ) → is_number t ≡ true → is_in_range o (number_of t) ≡ true → most_of o < 2 ^ k → ReadsOne gives t r → unwrap_or r default ≡ number_of t
  read_is o t (Some n) default number range small h = (parses t (Ok n) h).1
  read_is o t None default number range small h =
      let r = in_range o (number_of t) range in
      let fits : number_of t < 2 ^ k = omega (arith, r.1, small) in
      absurd (parses t (Err h.0) h.1 (is_numeral t number, fits))

  -- the number that `get_one` reads, or the default
  pub number_read : (found : Found) (o : OptionName) (uses : Uses) (default : ℕ) (r : Option ℕ) → Shows found uses → takes_value o ≡ true → most_of o < 2 ^ k
      → (one_text found (name_of o) ≡ None → r ≡ None) → ((t : Text) → one_text found (name_of o) ≡ Some t → ReadsOne gives t r)
      → unwrap_or r default ≡ number_or default o uses
  number_read found o uses default r shows takes small none value = go (text_given o uses) refl (shows.texts o takes)
    where
      go : (given : Option Text) → text_given o uses ≡ given → one_text found (name_of o) ≡ given → unwrap_or r default ≡ option_map_or number_of given default
      go None g e = ap (λ x. unwrap_or x default) (none e)
      go (Some t) g e =
          let n = given_number o uses t takes shows.values g in
          read_is o t r default n.0 n.1 small (value t e)

pub flag_read : (found : Found) (o : OptionName) (uses : Uses) (r : Bool) → Shows found uses → takes_value o ≡ false
    → (one_text found (name_of o) ≡ None → r ≡ false) → (one_text found (name_of o) ≡ Some (codes "true") → r ≡ true) → (one_text found (name_of o) ≡ Some (codes "false") → r ≡ false)
    → r ≡ is_given o uses
flag_read found o uses r shows takes none value other = go (is_given o uses) (shows.flags o takes)
  where
    go : (b : Bool) → HasFlag found o b → r ≡ b
    go true h = value h
    go false (inl h) = none h
    go false (inr h) = other h
