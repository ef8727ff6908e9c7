-- Keys that rise are those of a log where the last one is.
use Rattle.std.proofs.Common.{◌≡◌, ℕ, get_or, ◌<◌, ◌≤◌, ◌^◌, List, [], ◌∷◌, true, refl, subst, arith}
use Rattle.std.specs.Prelude.{All, IfSome, Option, None, Some}
use Rattle.std.specs.List.{list_all}
use Rattle.std.proofs.lemmas.Bool.{ltb-true}
use Rattle.std.proofs.lemmas.List.Sums.{AllPass-from_list_all}
use Rattle.history_core.specs.declared.entry.Entry.{Entry}
use Rattle.history_core.specs.declared.entry.Entry.TheVariants as entry
use Rattle.history_core.specs.Entry.{key}
use Rattle.history_core.specs.Chronicle.{KeysRise}
use Rattle.log_text.specs.Keys.{HaveKeys}
use Rattle.node_rows.specs.declared.store.Pass.{Pass}
use Rattle.node_rows.specs.Told.{told_by, last_from, last_in, view_of}
use Rattle.work_desks.specs.Keys.{number_of, HasKeys, has_log_key}

own_key : (e : Entry) → number_of (told_by e) ≡ key e
own_key (entry.Make number head args row) = refl
own_key (entry.Find seen head args row) = refl
own_key (entry.Roots seen names) = refl
own_key (entry.Collect number kept) = refl

from_last : (e : Entry) (es : List Entry) → KeysRise (e ∷ es) → number_of (last_from (told_by e) es) < 2 ^ 62 → HaveKeys (e ∷ es)
from_last e [] rise low = (subst (λ (n : ℕ). n < 2 ^ 62) (own_key e) low, tt)
from_last e (d ∷ es) rise low =
    let rest = from_last d es rise.1 low in
    let under : key e ≤ key d = rise.0.0.0 in
    let next : key d < 2 ^ 62 = rest.0 in
    (omega (arith, under, next), rest)

keys_by_last : (es : List Entry) → number_of (last_in es) < 2 ^ 62 → HasKeys es
keys_by_last [] low rise = tt
keys_by_last (e ∷ es) low rise = from_last e es rise low

-- so are those of all passes whose last keys a log may tell
all_keys : (passes : List Pass) → list_all has_log_key passes ≡ true → All (λ p. HasKeys (view_of p).store.entries) passes
all_keys passes e k d lt =
    let told : has_log_key (get_or passes k d) ≡ true = AllPass-from_list_all has_log_key passes e k d lt in
    keys_by_last (view_of (get_or passes k d)).store.entries (ltb-true (number_of (last_in (view_of (get_or passes k d)).store.entries)) (2 ^ 62) told)

pub keys_told : {A : Type 0} (log : Option A) (passes : List Pass) → list_all has_log_key passes ≡ true → IfSome log (λ _. All (λ p. HasKeys (view_of p).store.entries) passes)
keys_told None passes e = tt
keys_told (Some text) passes e = all_keys passes e
