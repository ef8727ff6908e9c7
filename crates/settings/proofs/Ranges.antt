-- The numbers of accepted words are in their options' ranges.
use Rattle.std.proofs.Common.{◌≡◌, ℕ, Bool, true, false, cond, ◌&&◌, ◌||◌, List, [], ◌∷◌, Option, Some, None, refl, sym, subst, true≢false}
use Rattle.std.specs.Prelude.{find, codes, bytes_eq, option_map, option_and_then, if◌then◌else◌}
use Rattle.std.specs.Option.{option_map_or}
use Rattle.std.proofs.lemmas.Option.{option_and_then_some, same_Some}
use Rattle.settings.specs.declared.parts.Command.{Command}
use Rattle.settings.specs.declared.parts.Command.TheVariants.{Rewrite, Drill, Schedule, Terms, Pack, Unpack, Outermost, CheckLog, CheckTrace}
use Rattle.settings.specs.declared.parts.Settings.{Settings}
use Rattle.settings.specs.declared.options.OptionName.{OptionName}
use Rattle.settings.specs.declared.options.OptionName.TheVariants.{Workers, Fuel, Rows, Depth, Cache, Count, Seats}
use Rattle.settings.specs.Words.{Text, Uses, command_named, options_of, takes_value, number_of, is_in_range, is_same, is_given, are_values, is_whole, are_accepted, stand_once, text_given, number_or, uses_of, settings_with, settings_using, settings_told, agree, agreed, settings_after, check_named, settings_of_check, settings_of, AreInRange}
use Rattle.settings.proofs.Basics.{both}
use Rattle.settings.proofs.Values.{given_number}

given_text : (o : OptionName) (uses : Uses) → is_given o uses ≡ true → text_given o uses ≡ None → ⊥
given_text o [] g e = true≢false (sym g)
given_text o (u ∷ uses) g e = go (is_same u.0 o) g e (given_text o uses)
  where
    go : (b : Bool) → (b || is_given o uses) ≡ true → option_map (λ w. w.1) (cond b (Some u) (find (λ w. is_same w.0 o) uses)) ≡ None → (is_given o uses ≡ true → text_given o uses ≡ None → ⊥) → ⊥
    go true h n rest = cc
    go false h n rest = rest h n

module _ (default : ℕ) (o : OptionName) (uses : Uses) (takes : takes_value o ≡ true) (values : are_values uses ≡ true) where
  -- a number that is given, or the default
  number_range : is_in_range o default ≡ true → is_in_range o (number_or default o uses) ≡ true
  number_range d = go (text_given o uses) refl
    where
      go : (given : Option Text) → text_given o uses ≡ given → is_in_range o (option_map_or number_of given default) ≡ true
      go None e = d
      go (Some t) e = (given_number o uses t takes values e).1

  -- the number of one that is given
  given_range : is_given o uses ≡ true → is_in_range o (number_or default o uses) ≡ true
  given_range g = go (text_given o uses) refl
    where
      go : (given : Option Text) → text_given o uses ≡ given → is_in_range o (option_map_or number_of given default) ≡ true
      go None e = absurd (given_text o uses g e)
      go (Some t) e = (given_number o uses t takes values e).1

count_range : (c : Command) (uses : Uses) → are_values uses ≡ true → is_whole (options_of c) uses ≡ true → c ≡ Drill → is_in_range Count (number_or 0 Count uses) ≡ true
count_range Drill uses v w e = given_range 0 Count uses refl v w
count_range Rewrite uses v w e = cc
count_range Schedule uses v w e = cc
count_range Terms uses v w e = cc
count_range Pack uses v w e = cc
count_range Unpack uses v w e = cc
count_range Outermost uses v w e = cc
count_range CheckLog uses v w e = cc
count_range CheckTrace uses v w e = cc

accepted_range : (c : Command) (uses : Uses) (b : Bool) (s : Settings) → are_accepted (options_of c) uses ≡ b → (if b then Some (settings_with c uses) else None) ≡ Some s → AreInRange s
accepted_range c uses false s a e = cc
accepted_range c uses true s a e =
    let parts = both (stand_once uses) (are_values uses && is_whole (options_of c) uses) a in
    let more = both (are_values uses) (is_whole (options_of c) uses) parts.1 in
    let v = more.0 in
    subst (λ t. AreInRange t) (same_Some (settings_with c uses) s e)
    (record {
      workers = number_range 1 Workers uses refl v refl;
      fuel = number_range 1000000 Fuel uses refl v refl;
      rows = number_range 65536 Rows uses refl v refl;
      depth = number_range 4096 Depth uses refl v refl;
      cache = number_range 0 Cache uses refl v refl;
      count = count_range c uses v more.1;
      seats = number_range 2 Seats uses refl v refl;
    })

told_range : (c : Command) (rest : List Text) (s : Settings) → settings_told c rest ≡ Some s → AreInRange s
told_range c rest s e =
    option_and_then_some (settings_using c) (uses_of (options_of c) None rest) s e (λ uses _ g.
    accepted_range c uses (are_accepted (options_of c) uses) s refl g)

agreed_same : (t s : Settings) → agreed t ≡ Some s → t ≡ s
agreed_same t s e = go (agree t) e
  where
    go : (b : Bool) → (if b then Some t else None) ≡ Some s → t ≡ s
    go true f = same_Some t s f
    go false f = cc

after_range : (c : Command) (rest : List Text) (s : Settings) → settings_after c rest ≡ Some s → AreInRange s
after_range c rest s e =
    option_and_then_some agreed (settings_told c rest) s e (λ t told f. subst (λ u. AreInRange u) (agreed_same t s f) (told_range c rest t told))

check_range : (rest : List Text) (s : Settings) → settings_of_check rest ≡ Some s → AreInRange s
check_range [] s e = cc
check_range (what ∷ rest) s e = option_and_then_some (λ c. settings_after c rest) (check_named what) s e (λ c _ f. after_range c rest s f)

-- the settings that words give are in their ranges
pub settings_range : (words : List Text) (s : Settings) → settings_of words ≡ Some s → AreInRange s
settings_range [] s e = cc
settings_range (program ∷ []) s e = cc
settings_range (program ∷ command ∷ rest) s e = go (bytes_eq command (codes "check")) e
  where
    go : (b : Bool) → (if b then settings_of_check rest else option_and_then (λ c. settings_after c rest) (command_named command)) ≡ Some s → AreInRange s
    go true f = check_range rest s f
    go false f = option_and_then_some (λ c. settings_after c rest) (command_named command) s f (λ c _ g. after_range c rest s g)
