-- What is read of lines is what the definition says of the terms.
use Rattle.std.proofs.Common.{◌≡◌, ℕ, ◌+◌, ◌<◌, List, [], ◌∷◌, length, map, Bool, cond, refl, sym, ap, subst, ◌∙◌, arith}
use Rattle.std.specs.Prelude.{All, fold, count_by, sum_by, Result, Ok, Err, IfOk, Vec}
use Rattle.std.specs.Global.{Global}
use Rattle.rewrite_model.specs.declared.event.Event.{Event}
use Rattle.std.specs.List.{flat_map, list_all}
use Rattle.std.proofs.lemmas.List.{length-map}
use Rattle.std.proofs.lemmas.List.Folds.{flat_map-map, list_all-map}
use Rattle.term_model.specs.Tree.{Tree}
use Rattle.rule_match.specs.Planned.{Planned, planned}
use Rattle.term_lines.specs.Line.{is_value_kind}
use Rattle.settings.specs.declared.parts.Settings.{Settings}
use Rattle.rec_check.specs.Spelled.{Specified}
use Rattle.worker_crew.specs.declared.fault.AllFault.{AllFault}
use Rattle.worker_crew.specs.declared.lines.Line.{Line}
use Rattle.worker_crew.specs.declared.lines.Lines.{Lines}
use Rattle.work_order.specs.Lined.{Said, said, line_of, trace_of, worker_of}
use Rattle.rec_answers.specs.Lines.{line}
use Rattle.rec_answers.specs.Sequence.{AreLinesOf, IsSplit}

fold-map : {A : Type 0} (g : ℕ → Said → ℕ) (f : A → Said) (n : ℕ) (xs : List A) → fold g n (map f xs) ≡ fold (λ m x. g m (f x)) n xs
fold-map g f n [] = refl
fold-map g f n (x ∷ xs) = fold-map g f (g n (f x)) xs

count_by-map : {A : Type 0} (p : Said → Bool) (f : A → Said) (xs : List A) → count_by p (map f xs) ≡ count_by (λ x. p (f x)) xs
count_by-map p f xs = fold-map (λ n d. n + cond (p d) 1 0) f 0 xs

sum_by-map : {A : Type 0} (g : Said → ℕ) (f : A → Said) (xs : List A) → sum_by g (map f xs) ≡ sum_by (λ x. g (f x)) xs
sum_by-map g f xs = fold-map (λ n d. n + g d) f 0 xs

-- lines that say what the definition says are the lines of the terms, and events beside them those
-- that lead to their values
pub are_lines : (s : Settings) (spec : Specified) (all : Lines) (workers : ℕ) → map said all.list.items ≡ map (line_of s spec.symbols spec.rules) spec.terms
    → map (λ (t : Vec Event Global). t.items) all.traces.items ≡ map (trace_of s spec.rules) spec.terms → All (λ w. w < workers) (map worker_of all.list.items) → workers ≡ s.workers
    → AreLinesOf s spec all
are_lines s spec all workers e traces below same =
    let lines : List Line = all.list.items in
    let f = line_of s spec.symbols spec.rules in
    let count : length (map worker_of lines) ≡ length spec.terms =
    length-map lines worker_of ∙ sym (length-map lines said) ∙ ap length e ∙ length-map spec.terms f in
    record {
      each = e;
      traces = traces;
      text = sym (flat_map-map (λ (d : Said). line d.text) said lines) ∙ ap (flat_map (λ (d : Said). line d.text)) e ∙ flat_map-map (λ (d : Said). line d.text) f spec.terms;
      values = sym (list_all-map (λ (d : Said). is_value_kind d.kind) said lines) ∙ ap (list_all (λ (d : Said). is_value_kind d.kind)) e ∙ list_all-map (λ (d : Said). is_value_kind d.kind) f spec.terms;
      count = sym (count_by-map (λ (d : Said). is_value_kind d.kind) said lines) ∙ ap (count_by (λ (d : Said). is_value_kind d.kind)) e ∙ count_by-map (λ (d : Said). is_value_kind d.kind) f spec.terms;
      spent = sym (sum_by-map (λ (d : Said). d.spent) said lines) ∙ ap (sum_by (λ (d : Said). d.spent)) e ∙ sum_by-map (λ (d : Said). d.spent) f spec.terms;
      workers = record { each = count; below = subst (λ n. All (λ w. w < n) (map worker_of lines)) same below };
    }

-- the same, where the rules are those of a plan, and the terms are lent
pub lines_made : (s : Settings) (spec : Specified) (plan : Planned) (widest : ℕ) (terms : List Tree) (all : Lines) (workers : ℕ) → plan ≡ planned spec.rules widest → terms ≡ spec.terms
    → map said all.list.items ≡ map (line_of s spec.symbols plan.rules) terms → map (λ (t : Vec Event Global). t.items) all.traces.items ≡ map (trace_of s plan.rules) terms
    → All (λ w. w < workers) (map worker_of all.list.items) → workers ≡ s.workers → AreLinesOf s spec all
lines_made s spec plan widest terms all workers p t e traces below same =
    are_lines s spec all workers
    (e ∙ ap (λ (q : Planned). map (line_of s spec.symbols q.rules) terms) p ∙ ap (map (line_of s spec.symbols spec.rules)) t)
    (traces ∙ ap (λ (q : Planned). map (trace_of s q.rules) terms) p ∙ ap (map (trace_of s spec.rules)) t) below same

-- the same of lines that may not have been made
pub shared_made : (s : Settings) (spec : Specified) (plan : Planned) (widest : ℕ) (terms : List Tree) (r : Result Lines AllFault) (lines : Lines) → r ≡ Ok lines → plan ≡ planned spec.rules widest → terms ≡ spec.terms
    → IfOk r (λ l. map said l.list.items ≡ map (line_of s spec.symbols plan.rules) terms) → IfOk r (λ l. map (λ (t : Vec Event Global). t.items) l.traces.items ≡ map (trace_of s plan.rules) terms)
    → IfOk r (λ l. All (λ w. w < s.workers) (map worker_of l.list.items)) → AreLinesOf s spec lines
shared_made s spec plan widest terms (Err f) lines is p t e traces below = absurd (let bad : Err f ≡ Ok lines = is in cc)
shared_made s spec plan widest terms (Ok l) lines is p t e traces below =
    let same : l ≡ lines = cc in
    subst (λ (m : Lines). AreLinesOf s spec m) same (lines_made s spec plan widest terms l s.workers p t e traces below refl)

-- there are as many lists of events as lines
pub one_each : (s : Settings) (spec : Specified) (all : Lines) → AreLinesOf s spec all → length all.traces.items ≡ length all.list.items
one_each s spec all a =
    sym (length-map all.traces.items (λ (t : Vec Event Global). t.items)) ∙ ap length a.traces ∙ length-map spec.terms (trace_of s spec.rules)
    ∙ sym (sym (length-map all.list.items said) ∙ ap length a.each ∙ length-map spec.terms (line_of s spec.symbols spec.rules))

-- where there are no terms there are no workers
pub no_workers : (count : ℕ) (workers : List ℕ) → workers ≡ [] → IsSplit count workers 0
no_workers count workers e = subst (λ ws. IsSplit count ws 0) (sym e) (record { each = refl; below = λ k d l. absurd (omega (arith, l)) })
