use Rattle.std.proofs.Common.{◌≡◌, ◌⊎◌, inl, refl}
use Rattle.std.proofs.lemmas.List.Elements.{All-replicate}
use Rattle.term_syntax.specs.Known.{IsNoted}
use Rattle.term_syntax.specs.declared.lately.Noted.{Noted}
use Rattle.term_syntax.proofs.lately.Lately.new.Goals as goal

pub returns : goal.returns
returns c = λ pool. All-replicate (λ (n : Noted). (n.sizes ≡ 4294967295) ⊎ IsNoted pool n) 4096 (record { number = 0; sizes = 4294967295; symbol = 0 }) (inl refl)
