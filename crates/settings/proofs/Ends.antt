-- Words of which one is `--` are not accepted.
use Rattle.std.proofs.Common.{◌≡◌, Bool, true, false, cond, not, ◌&&◌, ◌||◌, List, [], ◌∷◌, Option, Some, None, refl, sym, ap, subst, ◌∙◌, true≢false}
use Rattle.std.specs.Prelude.{option_and_then, bytes_eq, if◌then◌else◌}
use Rattle.std.specs.List.{list_any}
use Rattle.std.proofs.lemmas.Slice.Eq.{bytes_eq-Decides}
use Rattle.settings.specs.declared.parts.Command.{Command}
use Rattle.settings.specs.declared.parts.Settings.{Settings}
use Rattle.settings.specs.declared.options.OptionName.{OptionName}
use Rattle.settings.specs.declared.options.OptionName.TheVariants.{Workers, Fuel, Rows, Depth, Cache, Sizes, Log, Trace, Count, Seats}
use Rattle.settings.specs.Words.{Text, Uses, name_of, names, stands_alone, takes_value, options_of, option_named, before_equals_sign, after_equals_sign, is_value, are_values, is_whole, stand_once, in_front, begun, read_word, uses_of, settings_with, settings_using, settings_told}
use Rattle.settings.specs.Line.{is_end_of_options}
use Rattle.settings.proofs.Basics.{and_none, none_passes}

end_is : (word : Text) → is_end_of_options word ≡ true → word ≡ 45 ∷ 45 ∷ []
end_is word e = (bytes_eq-Decides word (45 ∷ 45 ∷ [])).0 e

name_is_some : (o : OptionName) → (not (stands_alone o) && bytes_eq (name_of o) []) ≡ false
name_is_some Workers = refl
name_is_some Fuel = refl
name_is_some Rows = refl
name_is_some Depth = refl
name_is_some Cache = refl
name_is_some Sizes = refl
name_is_some Log = refl
name_is_some Trace = refl
name_is_some Count = refl
name_is_some Seats = refl

end_unnamed : (options : List OptionName) (word : Text) → is_end_of_options word ≡ true → option_named options (before_equals_sign word) ≡ None
end_unnamed options word e = subst (λ w. option_named options (before_equals_sign w) ≡ None) (sym (end_is word e)) (none_passes (λ o. names o (45 ∷ 45 ∷ [])) name_is_some options)

end_no_value : (o : OptionName) (word : Text) → takes_value o ≡ true → is_end_of_options word ≡ true → is_value o word ≡ false
end_no_value o word t e = subst (λ w. is_value o w ≡ false) (sym (end_is word e)) (ap (λ b. not b || false) t)

-- uses of which one has no value
abbrev Bad : Option Uses → Type 0
Bad given = (uses : Uses) → given ≡ Some uses → are_values uses ≡ false

bad_later : (o : OptionName) (t : Text) (following : Option Uses) → Bad following → Bad (in_front o t following)
bad_later o t None bad uses e = cc
bad_later o t (Some later) bad uses e =
    let same : (o, t) ∷ later ≡ uses = cc in
    subst (λ l. are_values l ≡ false) same (ap (λ b. is_value o t && b) (bad later refl) ∙ and_none (is_value o t))

bad_here : (o : OptionName) (t : Text) (following : Option Uses) → is_value o t ≡ false → Bad (in_front o t following)
bad_here o t None lacks uses e = cc
bad_here o t (Some later) lacks uses e =
    let same : (o, t) ∷ later ≡ uses = cc in
    subst (λ l. are_values l ≡ false) same (ap (λ b. b && are_values later) lacks)

abbrev Takes : Option OptionName → Type 0
Takes None = Unit {0}
Takes (Some o) = takes_value o ≡ true

bad_front : (o : OptionName) (word : Text) (rest : List Text) (following : Option Uses) → takes_value o ≡ true
    → (list_any is_end_of_options rest ≡ true → Bad following) → (is_end_of_options word || list_any is_end_of_options rest) ≡ true → Bad (in_front o word following)
bad_front o word rest following t bad e = go (is_end_of_options word) refl e
  where
    go : (b : Bool) → is_end_of_options word ≡ b → (b || list_any is_end_of_options rest) ≡ true → Bad (in_front o word following)
    go true h f = bad_here o word following (end_no_value o word t h)
    go false h f = bad_later o word following (bad f)

bad_begun : (o : OptionName) (takes : Bool) (v : Option Text) (following waiting : Option Uses) → Bad following → (takes ≡ true → Bad waiting) → Bad (begun o takes v following waiting)
bad_begun o false None following waiting f w = bad_later o [] following f
bad_begun o false (Some t) following waiting f w = λ uses e. cc
bad_begun o true None following waiting f w = w refl
bad_begun o true (Some t) following waiting f w = bad_later o t following f

bad_word : (options : List OptionName) (named : Option OptionName) (word : Text) (rest : List Text) (following waiting : Option Uses) → option_named options (before_equals_sign word) ≡ named
    → (list_any is_end_of_options rest ≡ true → Bad following) → (list_any is_end_of_options rest ≡ true → Takes named → Bad waiting)
    → (is_end_of_options word || list_any is_end_of_options rest) ≡ true → Bad (read_word options named word following waiting)
bad_word options None word rest following waiting n f w e = go (list_any stands_alone options)
  where
    go : (b : Bool) → Bad (if b then in_front Count word following else None)
    go true = bad_front Count word rest following refl f e
    go false = λ uses h. cc
bad_word options (Some o) word rest following waiting n f w e = go (is_end_of_options word) refl e
  where
    go : (b : Bool) → is_end_of_options word ≡ b → (b || list_any is_end_of_options rest) ≡ true → Bad (begun o (takes_value o) (after_equals_sign word) following waiting)
    go true h r = let bad : None ≡ Some o = sym (end_unnamed options word h) ∙ n in cc
    go false h r = bad_begun o (takes_value o) (after_equals_sign word) following waiting (f r) (λ t. w r t)

bad_words : (options : List OptionName) (wait : Option OptionName) (words : List Text) → Takes wait → list_any is_end_of_options words ≡ true → Bad (uses_of options wait words)
bad_words options wait [] t e = absurd (true≢false (sym e))
bad_words options None (word ∷ rest) t e =
    let named = option_named options (before_equals_sign word) in
    bad_word options named word rest (uses_of options None rest) (uses_of options named rest) refl
    (λ r. bad_words options None rest tt r) (λ r s. bad_words options named rest s r) e
bad_words options (Some o) (word ∷ rest) t e = bad_front o word rest (uses_of options None rest) t (λ r. bad_words options None rest tt r) e

pub ends_refused : (c : Command) (words : List Text) → list_any is_end_of_options words ≡ true → settings_told c words ≡ None
ends_refused c words e = go (uses_of (options_of c) None words) (bad_words (options_of c) None words tt e)
  where
    go : (given : Option Uses) → Bad given → option_and_then (settings_using c) given ≡ None
    go None bad = refl
    go (Some uses) bad =
        ap (λ b. cond (stand_once uses && (b && is_whole (options_of c) uses)) (Some (settings_with c uses)) None) (bad uses refl)
        ∙ ap (λ b. cond {A = Option Settings} b (Some (settings_with c uses)) None) (and_none (stand_once uses))
