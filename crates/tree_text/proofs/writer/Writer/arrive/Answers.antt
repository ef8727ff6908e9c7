use Rattle.std.proofs.Common.{◌++◌, ◌∙◌, ap, sym, subst}
use Rattle.tree_text.specs.Canonical.{spelling}
use Rattle.tree_text.specs.Writing.{arrive, opening, AreHeld}
use Rattle.tree_text.proofs.Arriving.{other_frames, arrive_first}
use Rattle.tree_text.proofs.writer.Writer.arrive.Goals as goal

pub loop-frame-preserved : goal.loop-frame-preserved
loop-frame-preserved c =
    let names = c.args.symbols.now in
    let w = c.loop-frame.self in
    let f = c.in-Some.frame in
    let fs = c.pop.new.self in
    let front = c.in-Some.ensures in
    let held = subst (AreHeld names) front c.loop-frame.invariant.held in
    record {
      arrived =
          ap (λ t. arrive (spelling names) fs (record w { text = t; frames = fs })) c.in_ok-put_opening.ensures
          ∙ other_frames (spelling names) fs fs (record w { text = opening (spelling names) f.symbol ++ w.text })
          ∙ sym (arrive_first (spelling names) f fs w c.if-frame-gt1.false)
          ∙ ap (λ gs. arrive (spelling names) gs w) (sym front)
          ∙ c.loop-frame.invariant.arrived;
      held = held.1;
    }
