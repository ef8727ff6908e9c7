-- What a look at the place of a hash tells.
use Rattle.std.specs.Prelude.{◌≡◌, ℕ, List, Some}
use Rattle.term_model.specs.declared.Row.{Row}
use Rattle.term_model.specs.declared.Head.{Head}
use Rattle.terms_api.specs.Terms.{HasTree, asked, last}
use Rattle.plain_store.specs.declared.nodes.Look.{Look}
use Rattle.plain_store.specs.declared.nodes.Look.TheVariants.{Found, Missed, Many}
use Rattle.plain_store.specs.Slots.{Slots, slot_at}
use Rattle.plain_store.specs.Hash.{hash}
use Rattle.plain_store.specs.Contents.{Contents, store_of}

-- the row has the head over these rows, or this is the hash of them
abbrev pub Looks : Slots → Head → List Row → Look → Type 0
Looks s h rows (Found r) = slot_at s r ≡ Some (h, rows)
Looks s h rows (Missed hashed) = hashed ≡ hash h rows
Looks s h rows Many = Unit {0}

-- the row has the asked tree, or this is the hash of its rows
abbrev pub LooksFor : Contents → Head → ℕ → Look → Type 0
LooksFor c h n (Found r) = HasTree (store_of c) r (asked (store_of c) h n)
LooksFor c h n (Missed hashed) = hashed ≡ hash h (last n c.stack)
LooksFor c h n Many = Unit {0}
