-- What a look at the place of a hash tells of the trees.
use Rattle.std.proofs.Common.{◌≡◌, ◌∙◌, ℕ, List, ap}
use Rattle.term_model.specs.declared.Row.{Row}
use Rattle.term_model.specs.declared.Head.{Head}
use Rattle.terms_api.specs.Terms.{last, IsSound}
use Rattle.plain_store.specs.declared.nodes.Look.{Look}
use Rattle.plain_store.specs.declared.nodes.Look.TheVariants.{Found, Missed, Many}
use Rattle.plain_store.specs.Slots.{Slots}
use Rattle.plain_store.specs.Hash.{hash}
use Rattle.plain_store.specs.Agreement.{Agree}
use Rattle.plain_store.specs.Contents.{Contents, store_of}
use Rattle.plain_store.specs.Looks.{Looks, LooksFor}
use Rattle.plain_store.proofs.Placing.{node_of, found_tree}

pub look_for : (slots : Slots) (c : Contents) (h : Head) (n : ℕ) (rows : List Row) (l : Look) → Agree slots c.trees → IsSound (store_of c) → rows ≡ last n c.stack → Looks slots h rows l → LooksFor c h n l
look_for slots c h n rows (Found r) agree sound args e = found_tree slots c h n r agree (e ∙ ap (λ (xs : List Row). node_of h xs) args)
look_for slots c h n rows (Missed hashed) agree sound args e = e ∙ ap (λ (xs : List Row). hash h xs) args
look_for slots c h n rows Many agree sound args e = tt
