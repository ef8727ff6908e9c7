-- What a replay and a text tell of a trace, and what the parts of an input tell of its verdict.
use Rattle.std.proofs.Common.{◌≡◌, ℕ, ◌≤◌, Bool, false, List, [], length, Option, Some, None, Result, Ok, Err, inl, inr, Bor, refl, sym, ap, subst, ◌∙◌}
use Rattle.std.specs.Prelude.{IfOk, IfErr, IsTrue, option_and_then}
use Rattle.std.specs.Option.{option_map, option_map_or}
use Rattle.std.specs.Str.{bytes_eq}
use Rattle.std.proofs.lemmas.Bool.Decides.{same_from_decides}
use Rattle.std.proofs.lemmas.Slice.Eq.{bytes_eq-Decides}
use Rattle.read_faults.specs.declared.fail.ReadFail.{ReadFail}
use Rattle.read_faults.specs.declared.fail.ReadFail.TheVariants.{Refused, Memory}
use Rattle.symbol_pool.specs.Pool.{Named}
use Rattle.term_model.specs.Tree.{Tree, Leaf, Node, Trees, End, More}
use Rattle.rewrite_model.specs.Rule.{Rule}
use Rattle.rewrite_model.specs.Matching.{instance, instances}
use Rattle.rewrite_model.specs.Replay.{replayed}
use Rattle.rewrite_model.specs.declared.event.Event.{Event}
use Rattle.rec_check.specs.Spelled.{Specified}
use Rattle.term_text.specs.Text.{text}
use Rattle.log_check.specs.Words.{lines}
use Rattle.run_checks.specs.Form.{values_from, wrong_line}
use Rattle.run_checks.specs.Held.{Held, IsPut, IsReplayed, term_at}
use Rattle.run_checks.specs.Parts.{parts}
use Rattle.run_checks.specs.Refusing.{IsCut, IsWrongAt}
use Rattle.run_checks.specs.Specification.{Spells, IsFaulty}
use Rattle.run_checks.specs.Verdict.{leads_to, first_underived, told, verdict, term_lines, trace_lines, HasParts, IsChecked, IsRefused}
use Rattle.run_checks.specs.declared.checking.TraceVerdict.{TraceVerdict}
use Rattle.run_checks.specs.Reached.{IsSound}
use Rattle.run_checks.proofs.Soundness.{is_sound}
use Rattle.run_checks.proofs.Values.{cut_take, cut_drop}

-- ---- a pattern to which nothing is bound is its own instance

mutual
  itself : (p : Tree) → instance p [] ≡ p
  itself (Leaf x) = refl
  itself (Node h ps) = ap (Node h) (themselves ps)

  themselves : (ps : Trees) → instances ps [] ≡ ps
  themselves End = refl
  themselves (More p ps) = λ i. More (itself p i) (themselves ps i)

-- ---- one trace

pub no_events : (names : List Named) (rules : List Rule) (es : Option (List Event)) (t : Tree) (line : List ℕ) → es ≡ None → false ≡ leads_to names rules es t line
no_events names rules es t line e = sym (ap (λ (o : Option (List Event)). leads_to names rules o t line) e)

module _ (old put new : Held) (rules : List Rule) (es : Option (List Event)) (t : Tree) (line : List ℕ) (n : ℕ) (is_put : IsPut old put n (instance t [])) where
  abbrev ends : Option Tree
  ends = option_and_then (λ events. replayed rules events [] t) es

  abbrev tells : Option Tree → Bool
  tells o = option_map_or (λ u. bytes_eq line (text old.symbols u)) o false

  from_term : option_and_then (λ events. replayed rules events [] (term_at put n)) es ≡ ends
  from_term = ap (λ (u : Tree). option_and_then (λ events. replayed rules events [] u) es) (is_put.term ∙ itself t)

  pub never_there : (r : Option ℕ) → IsReplayed put new (option_and_then (λ events. replayed rules events [] (term_at put n)) es) r → r ≡ None → false ≡ leads_to old.symbols rules es t line
  never_there r s e = go ends refl (subst (λ o. IsReplayed put new o r) from_term s)
    where
      go : (o : Option Tree) → ends ≡ o → IsReplayed put new o r → false ≡ leads_to old.symbols rules es t line
      go None q s = sym (ap tells q)
      go (Some u) q s = absurd (let bad : Some u ≡ None = subst (λ (x : Option ℕ). IsReplayed put new (Some u) x) e s in cc)

  record Ended (value : ℕ) : Type 0 where
    tree : Tree
    is : ends ≡ Some tree
    at : IsPut put new value tree

  ended : (r : Option ℕ) (value : ℕ) → IsReplayed put new (option_and_then (λ events. replayed rules events [] (term_at put n)) es) r → r ≡ Some value → Ended value
  ended r value s e = go ends refl (subst (λ (x : Option ℕ). IsReplayed put new ends x) e (subst (λ o. IsReplayed put new o r) from_term s))
    where
      go : (o : Option Tree) → ends ≡ o → IsReplayed put new o (Some value) → Ended value
      go None q s = absurd s
      go (Some u) q s = record { tree = u; is = q; at = s }

  pub symbols_stay : (r : Option ℕ) (value : ℕ) → IsReplayed put new (option_and_then (λ events. replayed rules events [] (term_at put n)) es) r → r ≡ Some value → new.symbols ≡ old.symbols
  symbols_stay r value s e = (ended r value s e).at.grows.symbols ∙ is_put.grows.symbols

  pub read_there : (r : Option ℕ) (value : ℕ) (b : Bool) → IsReplayed put new (option_and_then (λ events. replayed rules events [] (term_at put n)) es) r → r ≡ Some value
      → (IsTrue b → line ≡ text new.symbols (term_at new value)) × (line ≡ text new.symbols (term_at new value) → IsTrue b) → b ≡ leads_to old.symbols rules es t line
  read_there r value b s e d =
      let w = ended r value s e in
      let same : text new.symbols (term_at new value) ≡ text old.symbols w.tree = λ i. text (symbols_stay r value s e i) (w.at.term i) in
      same_from_decides b (bytes_eq line (text old.symbols w.tree)) ((λ h. d.0 h ∙ same), (λ h. d.1 (h ∙ sym same))) (bytes_eq-Decides line (text old.symbols w.tree))
      ∙ sym (ap tells w.is)

  pub tells_so : {E : Type 0} (b : Result Bool E) (r : Option ℕ) (value : ℕ) (told : Option (List Event)) → IsReplayed put new (option_and_then (λ events. replayed rules events [] (term_at put n)) es) r → r ≡ Some value
      → IfOk b (λ c. (IsTrue c → line ≡ text new.symbols (term_at new value)) × (line ≡ text new.symbols (term_at new value) → IsTrue c)) → told ≡ es → IfOk b (λ c. c ≡ leads_to old.symbols rules told t line)
  tells_so (Ok c) r value told s e d is = read_there r value c s e d ∙ ap (λ (o : Option (List Event)). leads_to old.symbols rules o t line) (sym is)
  tells_so (Err x) r value told s e d is = tt

  pub tells_none : (r : Option ℕ) (told : Option (List Event)) → IsReplayed put new (option_and_then (λ events. replayed rules events [] (term_at put n)) es) r → r ≡ None → told ≡ es → false ≡ leads_to old.symbols rules told t line
  tells_none r told s e is = never_there r s e ∙ ap (λ (o : Option (List Event)). leads_to old.symbols rules o t line) (sym is)

-- ---- refusals

abbrev pub Halves : Type 0
Halves = Bor (List ℕ) × Bor (List ℕ)

pub no_heading : (bytes : List ℕ) (r : Option Halves) (e : ReadFail) → option_map (λ (p : Halves). (p.0.now, p.1.now)) r ≡ parts bytes → r ≡ None → e ≡ Refused 15 0 → IsRefused bytes e
no_heading bytes r e p n is =
    subst (IsRefused bytes) (sym is) (inl (record { no_parts = sym p ∙ ap (option_map (λ (p : Halves). (p.0.now, p.1.now))) n; kind = refl; line = refl }))

pub in_halves : (bytes spec_text output : List ℕ) (r : Option Halves) (a b : Bor (List ℕ)) → option_map (λ (p : Halves). (p.0.now, p.1.now)) r ≡ parts bytes → r ≡ Some (a, b) → a.now ≡ spec_text → b.now ≡ output → parts bytes ≡ Some (spec_text, output)
in_halves bytes spec_text output r a b p e x y = sym p ∙ ap (option_map (λ (p : Halves). (p.0.now, p.1.now))) e ∙ (λ i. Some (x i, y i))

module _ (bytes spec_text output : List ℕ) (are : parts bytes ≡ Some (spec_text, output)) where
  pub bad_specification : (e : ReadFail) → IsFaulty spec_text e → IsRefused bytes e
  bad_specification (Refused kind offset) f = inr (inl (record { spec_text = spec_text; output = output; parts_are = are; fault_is = f }))
  bad_specification Memory f = tt

  module _ (spec : Specified) (spells : Spells spec_text spec) where
    has_parts : HasParts bytes spec (lines output)
    has_parts = record { spec_text = spec_text; output = output; parts_are = are; spelled = spells; lines_are = refl }

    wrong_form : (e : ReadFail) → IsWrongAt (wrong_line (length spec.terms) (lines output)) e → IsRefused bytes e
    wrong_form (Refused kind line) f =
        inr (inr (record { spec = spec; all_lines = lines output; in_parts = has_parts; kind = f.0; line = f.1 }))
    wrong_form Memory f = tt

    abbrev IsFormed : Type 0
    IsFormed = wrong_line (length spec.terms) (lines output) ≡ None

    abbrev IsTold : TraceVerdict → Type 0
    IsTold v = v ≡ verdict spec (term_lines spec (lines output)) (trace_lines spec (lines output))

    is_checked : (v : TraceVerdict) → IsFormed → IsTold v → IsChecked bytes v
    is_checked v formed e = record {
      spec = spec;
      all_lines = lines output;
      in_parts = has_parts;
      formed = formed;
      verdict_is = e;
    }

    pub checked_if : (r : Result TraceVerdict ReadFail) → IfOk r (λ v. IsFormed) → IfOk r IsTold → IfOk r (IsChecked bytes)
    checked_if (Ok v) formed told = is_checked v formed told
    checked_if (Err e) formed told = tt

    pub sound_if : (r : Result TraceVerdict ReadFail) → IfOk r (λ v. IsFormed) → IfOk r IsTold → IfOk r (IsSound bytes)
    sound_if (Ok v) formed told = is_sound bytes v (is_checked v formed told)
    sound_if (Err e) formed told = tt

    pub refused_if : (r : Result TraceVerdict ReadFail) → IfErr r (IsWrongAt (wrong_line (length spec.terms) (lines output))) → IfErr r (IsRefused bytes)
    refused_if (Ok v) w = tt
    refused_if (Err e) w = wrong_form e w

-- ---- an output that is cut

pub terms_cut : (count : ℕ) (ls first rest : List (List ℕ)) (spec : Specified) → count ≡ length spec.terms → IsCut count ls first rest → IsCut (length spec.terms) ls first rest
terms_cut count ls first rest spec e cut = subst (λ (n : ℕ). IsCut n ls first rest) e cut

pub verdict_there : (spec : Specified) (ls first rest : List (List ℕ)) (found : Option ℕ) (values : ℕ) → IsCut (length spec.terms) ls first rest
    → values ≡ length (values_from 0 first) → found ≡ first_underived spec first (values_from 0 first) rest → told found values ≡ verdict spec (term_lines spec ls) (trace_lines spec ls)
verdict_there spec ls first rest found values cut n f =
    (λ i. told (f i) (n i))
    ∙ (λ i. verdict spec (sym (cut_take (length spec.terms) ls first rest cut) i) (sym (cut_drop (length spec.terms) ls first rest cut) i))
