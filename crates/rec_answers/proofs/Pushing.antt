-- The trace of one line more.
use Rattle.std.proofs.Common.{◌≡◌, ℕ, ◌+◌, ◌<◌, ◌++◌, List, [], length, get_or, ap, ap₂, sym, ◌∙◌, subst, append_assoc, add-one}
use Rattle.std.specs.Prelude.{Option, Some, slice_get, false, if◌then◌else◌, Vec}
use Rattle.std.specs.Global.{Global}
use Rattle.std.specs.Option.{option_map_or}
use Rattle.std.proofs.lemmas.Option.{slice_get-get_or}
use Rattle.rewrite_model.specs.declared.event.Event.{Event}
use Rattle.term_lines.specs.Line.{is_value_kind}
use Rattle.worker_crew.specs.declared.lines.Line.{Line}
use Rattle.rec_answers.specs.Lines.{line}
use Rattle.rec_answers.specs.Traced.{trace_text, told_before}

-- what stands at a place below the end
pub at_place : {A : Type 0} (xs : List A) (i : ℕ) (x : A) → i < length xs → x ≡ get_or xs i x → slice_get xs i ≡ Some x
at_place xs i x h e = slice_get-get_or xs i x h ∙ ap Some (sym e)

pub told_more : (lines : List Line) (traces : List (Vec Event Global)) (i : ℕ) (l : Line) (v : Vec Event Global) → slice_get lines i ≡ Some l → slice_get traces i ≡ Some v
    → told_before lines traces (i + 1) ≡ told_before lines traces i ++ (if is_value_kind l.kind then line (trace_text i v.items) else [])
told_more lines traces i l v at_l at_v =
    ap (told_before lines traces) (add-one i)
    ∙ ap₂ (λ (o : Option Line) (p : Option (Vec Event Global)). told_before lines traces i
    ++ (if option_map_or (λ (x : Line). is_value_kind x.kind) o false then line (trace_text i (option_map_or (λ (y : Vec Event Global). y.items) p [])) else [])) at_l at_v

-- the bytes behind one line more
pub pushed : (start text new : List ℕ) (lines : List Line) (traces : List (Vec Event Global)) (i : ℕ) (l : Line) (v : Vec Event Global) (events : List Event) → i < length lines → length traces ≡ length lines
    → l ≡ get_or lines i l → v ≡ get_or traces i v → events ≡ v.items → text ≡ start ++ told_before lines traces i
    → new ≡ text ++ (if is_value_kind l.kind then line (trace_text i events) else []) → new ≡ start ++ told_before lines traces (i + 1)
pushed start text new lines traces i l v events inside long at_l at_v same before more =
    let mine : List Event → List ℕ = λ es. if is_value_kind l.kind then line (trace_text i es) else [] in
    let told = told_more lines traces i l v (at_place lines i l inside at_l) (at_place traces i v (subst (λ n. i < n) (sym long) inside) at_v) in
    more ∙ (ap (λ (es : List Event). text ++ mine es) same ∙ (ap (λ (xs : List ℕ). xs ++ mine v.items) before
    ∙ (append_assoc start (told_before lines traces i) (mine v.items) ∙ ap (λ (xs : List ℕ). start ++ xs) (sym told))))
