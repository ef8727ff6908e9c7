-- The arguments of a command line, once `clap` has built it, and which of them a word finds.
use Rattle.std.proofs.Common.{◌≡◌, ℕ, ◌+◌, min, ◌==◌, Bool, true, false, cond, not, ◌&&◌, ◌||◌, List, [], ◌∷◌, ◌++◌, map, codes, Option, Some, None, refl, sym, ap, ap₂, ◌∙◌, eqb-true, true≢false}
use Rattle.std.specs.Prelude.{find, is_some, option_map, bytes_eq, if◌then◌else◌}
use Rattle.std.specs.List.{list_any, list_all}
use Rattle.std.specs.Option.{option_map_or}
use Rattle.clap.specs.Lexer.{usize_max}
use Rattle.clap.specs.Walk.{Rule, arg_by_id, arg_by_index, arg_by_long, arg_by_short, has_long, has_short, is_early_multiple}
use Rattle.clap.specs.Simple.{App, Shape, new_shape, built, filled, filled_from, with_index, index_after, is_buildable, is_ready, is_ready_leaf}
use Rattle.clap.specs.Faults.{is_free_app, is_simple_and_free}
use Rattle.clap.specs.declared.builder.action.ArgAction.TheVariants.{Set, SetTrue}
use Rattle.clap.specs.declared.builder.value_parser.ValueParser.TheVariants as vp
use Rattle.settings.specs.declared.options.OptionName.{OptionName}
use Rattle.settings.specs.declared.options.OptionName.TheVariants.{Count}
use Rattle.settings.specs.Words.{Text, Uses, names, name_of, stands_alone, takes_value, least_of, most_of, option_named, is_same, is_given}
use Rattle.settings.specs.Line.{argument_for, argument_of, app_with}
use Rattle.settings.proofs.Basics.{or_false, and_none, all_pass, none_pass, none_found, found_among, found_passes, same_name, same_is, alone_is, given_more, not_count}

-- ---- building

-- an argument once it is built
abbrev pub rule_for : OptionName → Bool → Bool → Rule
rule_for o takes alone = record {
  id = name_of o;
  long = if alone then None else Some (name_of o);
  aliases = [];
  short = None;
  short_aliases = [];
  index = if alone then Some 1 else None;
  action = Some (if takes then Set else SetTrue);
  range = Some (record { start_inclusive = if takes then 1 else 0; end_inclusive = if takes then 1 else 0 });
  value_names = 0;
  defaults = if takes then [] else codes "false" ∷ [];
  missing = if takes then [] else codes "true" ∷ [];
  trailing_var_arg = false;
  parser = Some (if takes then vp.Unsigned (least_of o) (most_of o) else vp.Bool);
  ignore_case = false;
  required = alone;
  is_simple = true;
  is_free = true;
}

abbrev pub rule : OptionName → Rule
rule o = rule_for o (takes_value o) (stands_alone o)

abbrev pub rules_of : List OptionName → List Rule
rules_of options = map rule options

filled_one : (i : ℕ) (o : OptionName) (takes alone : Bool) → with_index i (filled (argument_for o takes alone)) ≡ rule_for o takes alone
filled_one i o true true = refl
filled_one i o true false = refl
filled_one i o false true = refl
filled_one i o false false = refl

filled_is : (i : ℕ) (options : List OptionName) → filled_from i (map argument_of options) ≡ rules_of options
filled_is i [] = refl
filled_is i (o ∷ options) =
    ap₂ (λ r rest. r ∷ rest) (filled_one i o (takes_value o) (stands_alone o)) (filled_is (index_after i (argument_of o)) options)

-- the command line once it is built
abbrev pub shape_with : List Rule → Shape
shape_with rules = record (new_shape (codes "rec")) {
  rules = rules;
  no_binary_name = true;
  disable_help_flag = true;
  disable_help_subcommand = true;
  is_built = true;
}

abbrev pub built_with : List Rule → App
built_with rules = record { top = shape_with rules; subs = [] }

pub built_is : (options : List OptionName) → built (app_with (map argument_of options)) ≡ built_with (rules_of options)
built_is options = ap built_with (filled_is 1 options)

-- ---- the command line is simple

abbrev checked : App → App → Bool
checked a b = (is_buildable a && (is_ready b.top && list_all is_ready_leaf b.subs)) && is_free_app b

early_one : (n : ℕ) (o : OptionName) (takes alone : Bool) → is_early_multiple n (rule_for o takes alone) ≡ false
early_one n o true true = refl
early_one n o true false = refl
early_one n o false true = refl
early_one n o false false = refl

in_order : (n : ℕ) (options : List OptionName) → list_any (is_early_multiple n) (rules_of options) ≡ false
in_order n options = none_pass (is_early_multiple n) rule (λ o. early_one n o (takes_value o) (stands_alone o)) options

four : (a b c d : Bool) → a ≡ true → b ≡ true → c ≡ false → d ≡ true → (((a && true) && ((b && not c) && true)) && (d && true)) ≡ true
four a b c d e f g h = rw (e, f, g, h) refl

checked_is : (options : List OptionName) → checked (app_with (map argument_of options)) (built_with (rules_of options)) ≡ true
checked_is options = four _ _ _ _
    (all_pass (λ (r : Rule). r.is_simple) argument_of (λ o. refl) options)
    (all_pass (λ (r : Rule). r.is_simple) rule (λ o. refl) options)
    (in_order _ options)
    (all_pass (λ (r : Rule). r.is_free) rule (λ o. refl) options)

pub simple_is : (options : List OptionName) → is_simple_and_free (app_with (map argument_of options)) ≡ true
simple_is options = ap (checked (app_with (map argument_of options))) (built_is options) ∙ checked_is options

-- ---- which argument is found

long_one : (name : Text) (o : OptionName) (takes alone : Bool)
    → (not (is_some (rule_for o takes alone).index) && has_long (rule_for o takes alone) name) ≡ (not alone && bytes_eq (name_of o) name)
long_one name o takes true = refl
long_one name o takes false = or_false (bytes_eq (name_of o) name)

-- by its name
pub long_rule : (options : List OptionName) (name : Text) → arg_by_long (rules_of options) name ≡ option_map rule (option_named options (45 ∷ 45 ∷ name))
long_rule options name =
    found_among (λ (r : Rule). not (is_some r.index) && has_long r name) rule options
    ∙ (λ i. option_map rule (find (λ o. long_one name o (takes_value o) (stands_alone o) i) options))

short_one : (x : ℕ) (o : OptionName) (takes alone : Bool)
    → (not (is_some (rule_for o takes alone).index) && has_short (rule_for o takes alone) x) ≡ false
short_one x o takes true = refl
short_one x o takes false = refl

-- none by a letter
pub short_rule : (options : List OptionName) (x : ℕ) → arg_by_short (rules_of options) x ≡ None
short_rule options x =
    none_found (λ (r : Rule). not (is_some r.index) && has_short r x) rule (λ o. short_one x o (takes_value o) (stands_alone o)) options

-- the option is among the options
abbrev pub Has : List OptionName → OptionName → Type 0
Has options o = find (λ q. is_same q o) options ≡ Some o

pub id_rule : (options : List OptionName) (o : OptionName) → Has options o → arg_by_id (rules_of options) (name_of o) ≡ Some (rule o)
id_rule options o h = found_among (λ (r : Rule). bytes_eq r.id (name_of o)) rule options ∙ ap (option_map rule) h

pub has_found : (p : OptionName → Bool) (options : List OptionName) (o : OptionName) → find p options ≡ Some o → Has options o
has_found p [] o e = cc
has_found p (q ∷ options) o e = go (is_same q o) refl (p q) e (has_found p options o)
  where
    go : (s : Bool) → is_same q o ≡ s → (b : Bool) → cond b (Some q) (find p options) ≡ Some o → (find p options ≡ Some o → Has options o) → cond s (Some q) (find (λ x. is_same x o) options) ≡ Some o
    go true t b h rest = ap Some (same_is q o t)
    go false t true h rest =
        let one : q ≡ o = cc in
        let bad : false ≡ true = sym t ∙ ap (λ x. is_same x o) one ∙ same_name o in
        absurd (true≢false (sym bad))
    go false t false h rest = rest h

pub has_named : (options : List OptionName) (text : Text) (o : OptionName) → option_named options text ≡ Some o → Has options o
has_named options text o e = has_found (λ q. names q text) options o e

pub named_not_alone : (options : List OptionName) (text : Text) (o : OptionName) → option_named options text ≡ Some o → stands_alone o ≡ false
named_not_alone options text o e = go (stands_alone o) refl (found_passes (λ q. names q text) options o e)
  where
    go : (b : Bool) → stands_alone o ≡ b → (not b && bytes_eq (45 ∷ 45 ∷ name_of o) text) ≡ true → b ≡ false
    go true t h = cc
    go false t h = refl

-- ---- the further word

abbrev at_place : ℕ → Rule → Bool
at_place i r = option_map_or (λ k. k == i) r.index false

first_one : (o : OptionName) (takes alone : Bool) → at_place 1 (rule_for o takes alone) ≡ alone
first_one o takes true = refl
first_one o takes false = refl

second_one : (o : OptionName) (takes alone : Bool) → at_place 2 (rule_for o takes alone) ≡ false
second_one o takes true = refl
second_one o takes false = refl

pub has_further : (options : List OptionName) → find stands_alone options ≡ (if list_any stands_alone options then Some Count else None)
has_further [] = refl
has_further (o ∷ options) = go (stands_alone o) refl (has_further options)
  where
    go : (b : Bool) → stands_alone o ≡ b → find stands_alone options ≡ (if list_any stands_alone options then Some Count else None)
        → cond b (Some o) (find stands_alone options) ≡ (if (b || list_any stands_alone options) then Some Count else None)
    go true t h = ap Some (alone_is o t)
    go false t h = h

first_rule : (options : List OptionName) → arg_by_index (rules_of options) 1 ≡ option_map rule (find stands_alone options)
first_rule options =
    found_among (at_place 1) rule options
    ∙ (λ i. option_map rule (find (λ o. first_one o (takes_value o) (stands_alone o) i) options))

second_rule : (options : List OptionName) → arg_by_index (rules_of options) 2 ≡ None
second_rule options = none_found (at_place 2) rule (λ o. second_one o (takes_value o) (stands_alone o)) options

-- the option that a word at this place is for
abbrev pub awaited : List OptionName → Uses → Option OptionName
awaited options uses = if list_any stands_alone options && not (is_given Count uses) then Some Count else None

-- a word at this place is for the further word, where there is one that is not given yet
abbrev pub Place : List OptionName → Uses → ℕ → Type 0
Place options uses place = arg_by_index (rules_of options) place ≡ option_map rule (awaited options uses)

pub place_first : (options : List OptionName) → Place options [] 1
place_first options = first_rule options ∙ ap (option_map rule) (has_further options ∙ go (list_any stands_alone options))
  where
    go : (b : Bool) → (if b then Some Count else None) ≡ (if b && true then Some Count else None)
    go true = refl
    go false = refl

pub place_same : (options : List OptionName) (uses : Uses) (place : ℕ) (o : OptionName) (t : Text) → stands_alone o ≡ false → Place options uses place → Place options (uses ++ (o, t) ∷ []) place
place_same options uses place o t e h =
    let given : is_given Count (uses ++ (o, t) ∷ []) ≡ is_given Count uses =
    given_more Count uses o t ∙ (ap (λ b. is_given Count uses || b) (not_count o e) ∙ or_false (is_given Count uses)) in
    h ∙ ap (λ b. option_map rule (if list_any stands_alone options && not b then Some Count else None)) (sym given)

place_is : (options : List OptionName) (place : ℕ) (r : Rule) → arg_by_index (rules_of options) place ≡ Some r → place ≡ 1
place_is [] place r e = cc
place_is (o ∷ options) place r e = go (stands_alone o) e (place_is options place r)
  where
    hit : (b : Bool) → (1 == place) ≡ b → cond b (Some (rule_for o (takes_value o) true)) (arg_by_index (rules_of options) place) ≡ Some r
        → (arg_by_index (rules_of options) place ≡ Some r → place ≡ 1) → place ≡ 1
    hit true t h rest = sym (eqb-true 1 place t)
    hit false t h rest = rest h

    go : (b : Bool) → cond (at_place place (rule_for o (takes_value o) b)) (Some (rule_for o (takes_value o) b)) (arg_by_index (rules_of options) place) ≡ Some r
        → (arg_by_index (rules_of options) place ≡ Some r → place ≡ 1) → place ≡ 1
    go true h rest = hit (1 == place) refl h rest
    go false h rest = rest h

pub place_next : (options : List OptionName) (uses : Uses) (place : ℕ) (t : Text) → arg_by_index (rules_of options) place ≡ Some (rule Count) → Place options (uses ++ (Count, t) ∷ []) (min (place + 1) usize_max)
place_next options uses place t h =
    let one : place ≡ 1 = place_is options place (rule Count) h in
    let given : is_given Count (uses ++ (Count, t) ∷ []) ≡ true = given_more Count uses Count t ∙ go (is_given Count uses) in
    ap (λ k. arg_by_index (rules_of options) (min (k + 1) usize_max)) one
    ∙ (second_rule options
    ∙ (ap (λ (b : Bool). option_map rule (if b then Some Count else None)) (sym (and_none (list_any stands_alone options)))
    ∙ ap (λ b. option_map rule (if list_any stands_alone options && not b then Some Count else None)) (sym given)))
  where
    go : (b : Bool) → (b || true) ≡ true
    go true = refl
    go false = refl
