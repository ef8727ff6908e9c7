use Rattle.std.proofs.Common.{◌≡◌, ℕ, ◌∷◌, [], ◌++◌, get_or, refl, ◌∙◌, ap, arith, length}
use Rattle.std.proofs.lemmas.List.{length_push}
use Rattle.innermost.proofs.Trails.{followed}
use Rattle.innermost.proofs.trail.follow.Goals as goal

pub frames-preserved : goal.frames-preserved
frames-preserved c =
    let i = c.frames.invariant in
    let mark : c.len.result ≡ length c.frames.trail.way.items = omega (arith, c.len.ensures, c.frames.trail.way.ok.0) in
    let marks = c.in_ok-push.ensures.items ∙ ap (λ (k : ℕ). c.frames.trail.marks.items ++ k ∷ []) mark in
    let size = length_push c.frames.trail.marks.items (length c.frames.trail.way.items) in
    let here = c.frame_at-frame.ensures ∙ ap (λ (k : ℕ). get_or c.args.frames.now k c.frame_at-frame.result) i.at in
    record {
      cursor = i.cursor;
      at = omega (arith, i.at, ap length marks, size);
      trail = λ base t. followed c.args.steps.now base c.args.frames.now c.frames.trail _ c.frame_at-frame.result (i.trail base t) (omega (arith, i.at, c.frames-test.true)) here c.in_ok-push_place.ensures marks refl refl;
    }
