use Rattle.std.proofs.Common.{◌∙◌, subst, arith}
use Rattle.std.proofs.lemmas.Grind.{common_steps}
use Rattle.std.proofs.KnownBytes.{Appends-trans}
use Rattle.std.specs.Io.KnownBytes.{Appends}
use Rattle.ends.proofs.Pieces.{next_piece}
use Rattle.ends.proofs.sink.write_all.Goals as goal

pub loop-at-preserved : goal.loop-at-preserved
loop-at-preserved g c =
    let step = next_piece c.loop-at.at c.in-Ok.count c.args.bytes.now in
    let joined = Appends-trans _ _ _ _ _ c.loop-at.invariant.written c.in-Ok.ensures.bytes in
    record {
      written = subst (λ bs. Appends (g.O.Sink.taken c.args.sink.now) (g.O.Sink.taken c.write.new.self) bs) step joined;
      answered = c.in-Ok.ensures.cause.answered ∙ c.loop-at.invariant.answered;
      within = grind (arith, common_steps);
    }
