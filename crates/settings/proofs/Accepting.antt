-- Uses that are judged one after another, each by those before it, come to uses that are accepted
-- as a whole.
use Rattle.std.proofs.Common.{◌≡◌, Bool, true, false, cond, not, ◌&&◌, ◌||◌, List, [], ◌∷◌, ◌++◌, Option, Some, None, refl, sym, ap, ap₂, ◌∙◌, append-nil, append_assoc}
use Rattle.clap.specs.Walk.{Row, Text}
use Rattle.settings.specs.declared.options.OptionName.{OptionName}
use Rattle.settings.specs.Words.{Uses, is_same, is_given, is_value, is_whole, stand_once, are_values, are_accepted}
use Rattle.settings.proofs.Basics.{same_turned, given_more}
use Rattle.settings.proofs.Walking.{rows, fits, told}

-- none of these was given before
abbrev apart : Uses → Uses → Bool
apart uses [] = true
apart uses (u ∷ later) = not (is_given u.0 uses) && apart uses later

mixed : (a b c d : Bool) → (not (a || b) && (c && not d)) ≡ ((not a && c) && not (b || d))
mixed true b c d = refl
mixed false true true d = refl
mixed false true false d = refl
mixed false false c d = refl

apart_more : (uses later : Uses) (o : OptionName) (t : Text) → apart (uses ++ (o, t) ∷ []) later ≡ (apart uses later && not (is_given o later))
apart_more uses [] o t = refl
apart_more uses (u ∷ later) o t =
    ap₂ (λ b c. not b && c) (given_more u.0 uses o t ∙ ap (λ b. is_given u.0 uses || b) (same_turned o u.0)) (apart_more uses later o t)
    ∙ mixed (is_given u.0 uses) (is_same u.0 o) (apart uses later) (is_given o later)

moved : (g k s a i v w : Bool) → ((not g && k) && ((s && (a && not i)) && (v && w))) ≡ (((not i && s) && (not g && a)) && ((k && v) && w))
moved true k s a true v w = refl
moved true k true a false v w = refl
moved true k false a false v w = refl
moved false false s a true v w = refl
moved false false true true false v w = refl
moved false false true false false v w = refl
moved false false false a false v w = refl
moved false true true true true v w = refl
moved false true true false true v w = refl
moved false true false a true v w = refl
moved false true true true false v w = refl
moved false true true false false v w = refl
moved false true false a false v w = refl

split : (a b : Bool) (x : Option (List Row)) → cond a (cond b x None) None ≡ cond (a && b) x None
split true b x = refl
split false b x = refl

abbrev judged : List OptionName → Uses → Uses → Bool
judged options uses later = (stand_once later && apart uses later) && (are_values later && is_whole options (uses ++ later))

told_is : (options : List OptionName) (uses later : Uses) → told options uses later ≡ cond (judged options uses later) (Some (rows (uses ++ later))) None
told_is options uses [] = ap (λ all. cond (is_whole options all) (Some (rows all)) None) (sym (append-nil uses))
told_is options uses (u ∷ later) =
    let more = uses ++ u ∷ [] in
    let first = fits uses u.0 u.1 in
    let all = uses ++ (u ∷ later) in
    ap (λ x. cond first x None) (told_is options more later)
    ∙ (split first (judged options more later) (Some (rows (more ++ later)))
    ∙ (ap₂ (λ b whole. cond (first && ((stand_once later && b) && (are_values later && is_whole options whole))) (Some (rows whole)) None)
    (apart_more uses later u.0 u.1) (append_assoc uses (u ∷ []) later)
    ∙ ap (λ b. cond b (Some (rows all)) None)
    (moved (is_given u.0 uses) (is_value u.0 u.1) (stand_once later) (apart uses later) (is_given u.0 later) (are_values later) (is_whole options all))))

apart_none : (later : Uses) → apart [] later ≡ true
apart_none [] = refl
apart_none (u ∷ later) = apart_none later

and_true : (b : Bool) → (b && true) ≡ b
and_true true = refl
and_true false = refl

-- from the start: the uses are accepted, and these are their rows
pub told_all : (options : List OptionName) (uses : Uses) → told options [] uses ≡ cond (are_accepted options uses) (Some (rows uses)) None
told_all options uses =
    told_is options [] uses
    ∙ ap (λ b. cond (b && (are_values uses && is_whole options uses)) (Some (rows uses)) None)
    (ap (λ b. stand_once uses && b) (apart_none uses) ∙ and_true (stand_once uses))
