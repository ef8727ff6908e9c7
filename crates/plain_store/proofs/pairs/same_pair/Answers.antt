use Rattle.std.proofs.Common.{◌∙◌, ap, sym}
use Rattle.std.proofs.lemmas.Bool.{eqb-true, eq-eqb}
use Rattle.plain_store.specs.Pairs.{pair_word}
use Rattle.plain_store.proofs.Pairing.{word_told}
use Rattle.plain_store.proofs.pairs.same_pair.Goals as goal

pub returns : goal.returns
returns c = (
  λ t. word_told c.args.one c.args.other c.requires.0 c.requires.1 c.word_of.ensures.low c.word_of-2.ensures.low
      (sym c.word_of.ensures.word ∙ eqb-true c.word_of.result c.word_of-2.result t ∙ c.word_of-2.ensures.word),
  λ same. eq-eqb c.word_of.result c.word_of-2.result (c.word_of.ensures.word ∙ ap pair_word same ∙ sym c.word_of-2.ensures.word),
)
