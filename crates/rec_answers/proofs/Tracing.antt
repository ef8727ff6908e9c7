-- An output with traces has one verdict or one fault.
use Rattle.std.proofs.Common.{◌≡◌, ◌⊎◌, inl, inr, ℕ, List, length, Some, None, true, false, refl, sym, ap, subst, ◌∙◌}
use Rattle.std.proofs.lemmas.Option.{same_Some}
use Rattle.faults.specs.declared.refusal.Refusal.{Refusal}
use Rattle.rec_check.specs.Conditional.{first_if}
use Rattle.rec_check.specs.Spelled.{Specified}
use Rattle.log_check.specs.Words.{lines}
use Rattle.run_checks.specs.declared.checking.TraceVerdict.{TraceVerdict}
use Rattle.run_checks.specs.declared.checking.TraceVerdict.TheVariants.{Derived, Underived}
use Rattle.run_checks.specs.Form.{wrong_line}
use Rattle.run_checks.specs.Parts.{parts}
use Rattle.run_checks.specs.Specification as traced
use Rattle.run_checks.proofs.Soundness.{is_sound}
use Rattle.run_checks.specs.Verdict.{IsRefused, HasParts, IsChecked, IsBadSpecification, term_lines, trace_lines, verdict}
use Rattle.rec_reader.specs.Parsed.{Parsed}
use Rattle.read_faults.specs.declared.fail.ReadFail.{ReadFail}
use Rattle.read_faults.specs.declared.fail.ReadFail.TheVariants as fail
use Rattle.rec_answers.specs.Rewritten.{IsRead, Spells, IsSpecificationFault}
use Rattle.rec_answers.specs.Written.{Output}
use Rattle.rec_answers.specs.Checked.{IsTraceFault, trace_output, IsTraceChecked, IsDerived, IsUnderived}
use Rattle.rec_answers.specs.Answered.{IsAnswer, StopsTracing}
use Rattle.rec_answers.specs.Stops.{stop_of_fail}
use Rattle.rec_answers.specs.declared.answers.Answer.{Answer}
use Rattle.rec_answers.specs.declared.stops.Stop.TheVariants as stop
use Rattle.rec_answers.proofs.OneFault.{one_syntax, one_specification, no_fault, none_of_faultless, one_fault, same_fault}

-- ---- a specification without conditions
is_read : (text : List ℕ) (syntax : Parsed) → traced.IsRead text syntax → IsRead text syntax
is_read text syntax r = record { bytes = r.bytes; tokens = r.tokens; cut = r.cut; sentence = r.sentence }

spells : (text : List ℕ) (spec : Specified) → traced.Spells text spec → Spells text spec
spells text spec s = record { syntax = s.syntax; read = is_read text s.syntax s.read; faultless = s.faultless; spec_is = s.spec_is }

-- a fault is one of a specification, or its first condition
abbrev IsEither : List ℕ → Refusal → Type 0
IsEither text f = IsSpecificationFault text f ⊎ traced.IsConditionFault text f

either : (text : List ℕ) (f : Refusal) → traced.IsFault text f → IsEither text f
either text f (inl b) = inl (inl (record { kind = b.kind; place = b.place }))
either text f (inr (inl t)) = inl (inr (inl (record { tokens = t.tokens; cut = t.cut; refusal = t.refusal })))
either text f (inr (inr (inl o))) = inl (inr (inr (record { syntax = o.syntax; read = is_read text o.syntax o.read; first = o.first })))
either text f (inr (inr (inr c))) = inr c

apart : (text : List ℕ) (f g : Refusal) → IsSpecificationFault text f → traced.IsConditionFault text g → ⊥
apart text f g s c = none_of_faultless text c.syntax f (is_read text c.syntax c.read) c.faultless s

one_condition : (text : List ℕ) (f g : Refusal) → traced.IsConditionFault text f → traced.IsConditionFault text g → f ≡ g
one_condition text f g c d =
    let syntax : c.syntax ≡ d.syntax = one_syntax text c.syntax d.syntax (is_read text c.syntax c.read) (is_read text d.syntax d.read) in
    same_fault f g (c.kind ∙ sym d.kind) (same_Some f.place g.place (sym c.first ∙ ap first_if syntax ∙ d.first))

one_spec_fault : (text : List ℕ) (f g : Refusal) → IsEither text f → IsEither text g → f ≡ g
one_spec_fault text f g (inl a) (inl b) = one_fault text f g a b
one_spec_fault text f g (inl a) (inr b) = absurd (apart text f g a b)
one_spec_fault text f g (inr a) (inl b) = absurd (apart text g f b a)
one_spec_fault text f g (inr a) (inr b) = one_condition text f g a b

-- what spells a specification without conditions has none of them
never_faulty : (text : List ℕ) (spec : Specified) (f : Refusal) → traced.Spells text spec → IsEither text f → ⊥
never_faulty text spec f s (inl a) = no_fault text spec f (spells text spec s) a
never_faulty text spec f s (inr c) =
    let syntax : s.syntax ≡ c.syntax = one_syntax text s.syntax c.syntax (is_read text s.syntax s.read) (is_read text c.syntax c.read) in
    let bad : None ≡ Some f.place = sym s.unconditional ∙ ap first_if syntax ∙ c.first in
    cc

-- ---- the parts of an input
abbrev Both : Type 0
Both = List ℕ × List ℕ

same_parts : (bytes : List ℕ) (p q : Both) → parts bytes ≡ Some p → parts bytes ≡ Some q → p ≡ q
same_parts bytes p q e f = same_Some p q (sym e ∙ f)

no_parts : {A : Type 0} (bytes : List ℕ) (p : Both) → parts bytes ≡ Some p → parts bytes ≡ None → A
no_parts bytes p e f = let bad : None ≡ Some p = sym f ∙ e in cc

one_input : (bytes : List ℕ) (s t : Specified) (ls ms : List (List ℕ)) → HasParts bytes s ls → HasParts bytes t ms → (s ≡ t) × (ls ≡ ms)
one_input bytes s t ls ms a b =
    let same = same_parts bytes (a.spec_text, a.output) (b.spec_text, b.output) a.parts_are b.parts_are in
    let texts : a.spec_text ≡ b.spec_text = ap (λ (p : Both). p.0) same in
    let outputs : a.output ≡ b.output = ap (λ (p : Both). p.1) same in
    let ours : Spells b.spec_text s = subst (λ u. Spells u s) texts (spells a.spec_text s a.spelled) in
    (one_specification b.spec_text s t ours (spells b.spec_text t b.spelled), a.lines_are ∙ ap lines outputs ∙ sym b.lines_are)

-- ---- one verdict
pub one_trace : (bytes : List ℕ) (v w : TraceVerdict) → IsChecked bytes v → IsChecked bytes w → v ≡ w
one_trace bytes v w a b =
    let same = one_input bytes a.spec b.spec a.all_lines b.all_lines a.in_parts b.in_parts in
    a.verdict_is
    ∙ ap (λ (s : Specified). verdict s (term_lines s a.all_lines) (trace_lines s a.all_lines)) same.0
    ∙ ap (λ (ls : List (List ℕ)). verdict b.spec (term_lines b.spec ls) (trace_lines b.spec ls)) same.1
    ∙ sym b.verdict_is

wrong_same : (bytes : List ℕ) (s t : Specified) (ls ms : List (List ℕ)) → HasParts bytes s ls → HasParts bytes t ms → wrong_line (length s.terms) ls ≡ wrong_line (length t.terms) ms
wrong_same bytes s t ls ms a b =
    let same = one_input bytes s t ls ms a b in
    ap (λ (u : Specified). wrong_line (length u.terms) ls) same.0 ∙ ap (wrong_line (length t.terms)) same.1

spec_of : (bytes : List ℕ) (s : Specified) (ls : List (List ℕ)) (f : Refusal) → HasParts bytes s ls → IsBadSpecification bytes f → ⊥
spec_of bytes s ls f a bad =
    let same = same_parts bytes (a.spec_text, a.output) (bad.spec_text, bad.output) a.parts_are bad.parts_are in
    let texts : a.spec_text ≡ bad.spec_text = ap (λ (p : Both). p.0) same in
    never_faulty bad.spec_text s f (subst (λ u. traced.Spells u s) texts a.spelled) (either bad.spec_text f bad.fault_is)

-- what has a verdict has no fault
pub no_trace_fault : (bytes : List ℕ) (v : TraceVerdict) (f : Refusal) → IsChecked bytes v → IsTraceFault bytes f → ⊥
no_trace_fault bytes v f a (inl h) = no_parts bytes (a.in_parts.spec_text, a.in_parts.output) a.in_parts.parts_are h.no_parts
no_trace_fault bytes v f a (inr (inl s)) = spec_of bytes a.spec a.all_lines f a.in_parts s
no_trace_fault bytes v f a (inr (inr l)) =
    let same = wrong_same bytes a.spec l.spec a.all_lines l.all_lines a.in_parts l.in_parts in
    let bad : None ≡ Some f.place = sym a.formed ∙ same ∙ l.line in
    cc

-- and what has a fault has no other
pub one_trace_fault : (bytes : List ℕ) (f g : Refusal) → IsTraceFault bytes f → IsTraceFault bytes g → f ≡ g
one_trace_fault bytes f g (inl a) (inl b) = same_fault f g (a.kind ∙ sym b.kind) (a.line ∙ sym b.line)
one_trace_fault bytes f g (inl a) (inr (inl b)) = no_parts bytes (b.spec_text, b.output) b.parts_are a.no_parts
one_trace_fault bytes f g (inl a) (inr (inr b)) = no_parts bytes (b.in_parts.spec_text, b.in_parts.output) b.in_parts.parts_are a.no_parts
one_trace_fault bytes f g (inr (inl a)) (inl b) = no_parts bytes (a.spec_text, a.output) a.parts_are b.no_parts
one_trace_fault bytes f g (inr (inr a)) (inl b) = no_parts bytes (a.in_parts.spec_text, a.in_parts.output) a.in_parts.parts_are b.no_parts
one_trace_fault bytes f g (inr (inl a)) (inr (inl b)) =
    let same = same_parts bytes (a.spec_text, a.output) (b.spec_text, b.output) a.parts_are b.parts_are in
    let texts : a.spec_text ≡ b.spec_text = ap (λ (p : Both). p.0) same in
    one_spec_fault b.spec_text f g (subst (λ u. IsEither u f) texts (either a.spec_text f a.fault_is)) (either b.spec_text g b.fault_is)
one_trace_fault bytes f g (inr (inl a)) (inr (inr b)) = absurd (spec_of bytes b.spec b.all_lines f b.in_parts a)
one_trace_fault bytes f g (inr (inr a)) (inr (inl b)) = absurd (spec_of bytes a.spec a.all_lines g a.in_parts b)
one_trace_fault bytes f g (inr (inr a)) (inr (inr b)) =
    same_fault f g (a.kind ∙ sym b.kind)
    (same_Some f.place g.place (sym a.line ∙ wrong_same bytes a.spec b.spec a.all_lines b.all_lines a.in_parts b.in_parts ∙ b.line))

-- ---- what is answered
pub trace_stops : (input : List ℕ) (f : ReadFail) → IsRefused input f → StopsTracing input (stop_of_fail f)
trace_stops input (fail.Refused kind place) h = h
trace_stops input fail.Memory h = tt

pub traced_or_memory : (input : List ℕ) (f : ReadFail) (output : Output) → IsRefused input f → IsTraceChecked input output → stop_of_fail f ≡ stop.Memory
traced_or_memory input (fail.Refused kind place) output h o = absurd (no_trace_fault input o.verdict (record { kind = kind; place = place }) o.checked h)
traced_or_memory input fail.Memory output h o = refl

pub trace_fault_or_memory : (input : List ℕ) (f : ReadFail) (fault : Refusal) → IsRefused input f → IsTraceFault input fault → (stop_of_fail f ≡ stop.Refused fault) ⊎ (stop_of_fail f ≡ stop.Memory)
trace_fault_or_memory input (fail.Refused kind place) fault h bad = inl (ap stop.Refused (one_trace_fault input (record { kind = kind; place = place }) fault h bad))
trace_fault_or_memory input fail.Memory fault h bad = inr refl

pub trace_answer : (input : List ℕ) (v : TraceVerdict) (count : ℕ) (answer : Answer) (output : Output) → IsChecked input v → IsAnswer count answer (trace_output v) → IsTraceChecked input output → IsAnswer count answer output
trace_answer input v count answer output c a o =
    subst (IsAnswer count answer) (ap trace_output (one_trace input v o.verdict c o.checked) ∙ sym o.output_is) a

pub derived : (input : List ℕ) (output : Output) → IsTraceChecked input output → output.refuted ≡ false → IsDerived input
derived input output o is = go o.verdict o.checked (sym is ∙ ap (λ (x : Output). x.refuted) o.output_is)
  where
    go : (v : TraceVerdict) → IsChecked input v → false ≡ (trace_output v).refuted → IsDerived input
    go (Derived n) c e = record { values = n; checked = c; reached = is_sound input (Derived n) c }
    go (Underived i) c e = cc

pub underived : (input : List ℕ) (output : Output) → IsTraceChecked input output → output.refuted ≡ true → IsUnderived input
underived input output o is = go o.verdict o.checked (sym is ∙ ap (λ (x : Output). x.refuted) o.output_is)
  where
    go : (v : TraceVerdict) → IsChecked input v → true ≡ (trace_output v).refuted → IsUnderived input
    go (Derived n) c e = cc
    go (Underived i) c e = record { term = i; checked = c }
