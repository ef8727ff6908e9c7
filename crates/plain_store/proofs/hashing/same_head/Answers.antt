use Rattle.std.proofs.Common.{◌≡◌, ◌∙◌, sym}
use Rattle.plain_store.specs.Hash.{head_kind}
use Rattle.plain_store.proofs.Pairing.{other_kinds}
use Rattle.plain_store.proofs.hashing.same_head.Goals as goal

pub returns-then-kind_of : goal.returns-then-kind_of
returns-then-kind_of c = sym (other_kinds c.args.one c.args.other (λ (e : head_kind c.args.one ≡ head_kind c.args.other). c.if-kind_of.true (c.kind_of.ensures ∙ e ∙ sym c.kind_of-2.ensures)))

pub returns : goal.returns
returns c = c.same_cases.ensures
