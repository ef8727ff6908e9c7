use Rattle.std.proofs.Common.{◌∙◌, List, ap, sym}
use Rattle.term_model.specs.declared.Row.{Row}
use Rattle.plain_store.specs.Hash.{pair_hash, hash_by}
use Rattle.plain_store.proofs.Pairing.{hash_few, hash_many, pair_has_two}
use Rattle.plain_store.proofs.hashing.hash_of.Goals as goal

pub hash_pair-requires : goal.hash_pair-requires
hash_pair-requires c =
    pair_has_two c.in-Some.pair c.args.arguments.now c.in-Some.ensures.filled c.in-Some.ensures.few

pub returns-in-Some : goal.returns-in-Some
returns-in-Some c =
    c.hash_pair.ensures ∙ ap (λ (xs : List Row). pair_hash c.args.head xs) c.in-Some.ensures.filled
    ∙ sym (hash_few c.args.head c.args.arguments.now c.in-Some.ensures.few)

pub returns-in-None : goal.returns-in-None
returns-in-None c =
    c.hash_rows.ensures ∙ ap (λ n. hash_by n c.args.arguments.now) c.hash_head.ensures
    ∙ sym (hash_many c.args.head c.args.arguments.now c.in-None.ensures.many)
