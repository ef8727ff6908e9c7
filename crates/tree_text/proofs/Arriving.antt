-- A term was written, and what comes before it.
use Rattle.std.proofs.Common.{◌≡◌, ◌≤◌, ◌<◌, ℕ, ◌-◌, List, [], ◌∷◌, ◌++◌, refl, ap, cond, ltb}
use Rattle.std.proofs.lemmas.Bool.{le-ltb, lt-ltb}
use Rattle.term_model.specs.declared.Symbol.{Symbol}
use Rattle.tree_text.specs.declared.writer.Frame.{Frame}
use Rattle.tree_text.specs.declared.writer.Writer.{Writer}
use Rattle.tree_text.specs.Writing.{opening, arrive}

-- the groups that were open don't matter
pub other_frames : (spell : Symbol → List ℕ) (fs gs : List Frame) (w : Writer) → arrive spell fs (record w { frames = gs }) ≡ arrive spell fs w
other_frames spell [] gs w = refl
other_frames spell (f ∷ fs) gs w =
    ap (λ x. cond (ltb 1 f.left) (record w { text = 44 ∷ w.text; frames = record f { left = f.left - 1 } ∷ fs }) x)
    (other_frames spell fs gs (record w { text = opening spell f.symbol ++ w.text }))

-- the first term of a group makes another term
pub arrive_first : (spell : Symbol → List ℕ) (f : Frame) (fs : List Frame) (w : Writer) → f.left ≤ 1 → arrive spell (f ∷ fs) w ≡ arrive spell fs (record w { text = opening spell f.symbol ++ w.text })
arrive_first spell f fs w h =
    ap (λ b. cond b (record w { text = 44 ∷ w.text; frames = record f { left = f.left - 1 } ∷ fs }) (arrive spell fs (record w { text = opening spell f.symbol ++ w.text }))) (le-ltb 1 f.left h)

-- before another term of a group a comma comes
pub arrive_next : (spell : Symbol → List ℕ) (f : Frame) (fs : List Frame) (w : Writer) → 1 < f.left → arrive spell (f ∷ fs) w ≡ record w { text = 44 ∷ w.text; frames = record f { left = f.left - 1 } ∷ fs }
arrive_next spell f fs w h =
    ap (λ b. cond b (record w { text = 44 ∷ w.text; frames = record f { left = f.left - 1 } ∷ fs }) (arrive spell fs (record w { text = opening spell f.symbol ++ w.text }))) (lt-ltb 1 f.left h)
