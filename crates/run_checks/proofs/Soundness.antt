-- Where no trace fails, each line that is a value is the text of a tree that is reached from its
-- term.
use Rattle.std.proofs.Common.{◌≡◌, ℕ, zero, suc, ◌+◌, ◌<◌, ◌≤◌, Bool, true, false, cond, List, [], ◌∷◌, length, get_or, take, drop, Option, Some, None, All, refl, arith}
use Rattle.std.specs.Prelude.{is_some, nat_lt}
use Rattle.std.specs.List.{AllByRecursion}
use Rattle.std.specs.Option.{option_map_or}
use Rattle.std.specs.Str.{bytes_eq}
use Rattle.std.proofs.lemmas.List.{length-take}
use Rattle.std.proofs.lemmas.Option.{slice_get-get_or}
use Rattle.std.proofs.lemmas.Slice.Eq.{bytes_eq-Decides}
use Rattle.term_model.specs.Tree.{Tree, Leaf}
use Rattle.rewrite_model.specs.Step.{Reaches}
use Rattle.rewrite_model.specs.Replay.{replayed}
use Rattle.rewrite_model.specs.declared.event.Event.{Event}
use Rattle.rewrite_model.proofs.Derivations.{events_reach}
use Rattle.rec_check.specs.Spelled.{Specified}
use Rattle.rec_check.proofs.WithoutIf.{unconditional_rules}
use Rattle.term_text.specs.Text.{text}
use Rattle.run_checks.specs.declared.checking.TraceVerdict.{TraceVerdict}
use Rattle.run_checks.specs.declared.checking.TraceVerdict.TheVariants.{Derived, Underived}
use Rattle.run_checks.specs.Form.{trace_in, is_no_value, values_from, wrong_from, wrong_after, wrong_line}
use Rattle.run_checks.specs.Specification.{Spells}
use Rattle.run_checks.specs.Verdict.{leads_to, is_derived, first_underived, told, term_lines, trace_lines, IsChecked}
use Rattle.run_checks.specs.Reached.{IsReached, AreReached, IsSound}

-- ---- one line

module _ (s : Specified) where
  record Led (t : Tree) (line : List ℕ) : Type 0 where
    value : Tree
    reached : Reaches s.rules t value
    line_is : line ≡ text s.symbols value

  led : (es : Option (List Event)) (t : Tree) (line : List ℕ) → leads_to s.symbols s.rules es t line ≡ true → Led t line
  led None t line e = absurd cc
  led (Some events) t line e = go (replayed s.rules events [] t) refl e
    where
      go : (o : Option Tree) → replayed s.rules events [] t ≡ o → option_map_or (λ u. bytes_eq line (text s.symbols u)) o false ≡ true → Led t line
      go None q h = absurd cc
      go (Some u) q h = record { value = u; reached = events_reach s.rules events [] t u q; line_is = (bytes_eq-Decides line (text s.symbols u)).0 h }

  line_reached : (ls : List (List ℕ)) (i : ℕ) (trace : List ℕ) → i < length s.terms → is_derived s ls i trace ≡ true → IsReached s ls i
  line_reached ls i trace lt e =
      let l = led (trace_in i trace) (get_or s.terms i (Leaf 0)) (get_or ls i []) e in
      record {
        term = get_or s.terms i (Leaf 0);
        term_is = slice_get-get_or s.terms i (Leaf 0) lt;
        value = l.value;
        reached = l.reached;
        line_is = l.line_is;
      }

  -- ---- all lines

  all_reached : (ls : List (List ℕ)) (n : ℕ) (is : List ℕ) (traces : List (List ℕ)) → AllByRecursion (λ i. i < length s.terms) is → wrong_from n is traces ≡ None → first_underived s ls is traces ≡ None → AllByRecursion (IsReached s ls) is
  all_reached ls n [] traces a w d = tt
  all_reached ls n (i ∷ is) [] a w d = absurd cc
  all_reached ls n (i ∷ is) (l ∷ traces) a w d = go (is_some (trace_in i l)) (is_derived s ls i l) refl w d (λ v e. all_reached ls (n + 1) is traces a.1 v e)
    where
      go : (b c : Bool) → is_derived s ls i l ≡ c → cond b (wrong_from (n + 1) is traces) (Some n) ≡ None → cond c (first_underived s ls is traces) (Some i) ≡ None → (wrong_from (n + 1) is traces ≡ None → first_underived s ls is traces ≡ None → AllByRecursion (IsReached s ls) is) → AllByRecursion (IsReached s ls) (i ∷ is)
      go false c r v e more = absurd cc
      go true false r v e more = absurd cc
      go true true r v e more = (line_reached ls i l a.0 r, more v e)

-- the numbers of the lines that are values are those of lines
in_range : (i n : ℕ) (ls : List (List ℕ)) → i + length ls ≤ n → AllByRecursion (λ k. k < n) (values_from i ls)
in_range i n [] le = tt
in_range i n (l ∷ ls) le = go (is_no_value l) (in_range (i + 1) n ls (omega (arith, le)))
  where
    go : (b : Bool) → AllByRecursion (λ k. k < n) (values_from (i + 1) ls) → AllByRecursion (λ k. k < n) (cond b (values_from (i + 1) ls) (i ∷ values_from (i + 1) ls))
    go true more = more
    go false more = (omega (arith, le), more)

each_one : {X : Type 0} (P : X → Type 0) (xs : List X) → AllByRecursion P xs → All P xs
each_one P [] a k d lt = absurd (omega arith)
each_one P (x ∷ xs) a zero d lt = a.0
each_one P (x ∷ xs) a (suc k) d lt = each_one P xs a.1 k d (omega arith)

-- ---- the verdict

after_lines : (terms : ℕ) (ls : List (List ℕ)) → wrong_line terms ls ≡ None → wrong_after (take terms ls) (drop terms ls) ≡ None
after_lines terms ls e = go (nat_lt (length ls) terms) e
  where
    go : (b : Bool) → cond b (Some (length ls + 1)) (wrong_after (take terms ls) (drop terms ls)) ≡ None → wrong_after (take terms ls) (drop terms ls) ≡ None
    go true h = absurd cc
    go false h = h

derived_count : (n m : ℕ) → Derived n ≡ Derived m → m ≡ n
derived_count n m e = cc

module _ (bytes : List ℕ) (n : ℕ) (c : IsChecked bytes (Derived n)) where
  abbrev first : List (List ℕ)
  first = term_lines c.spec c.all_lines

  abbrev rest : List (List ℕ)
  rest = trace_lines c.spec c.all_lines

  abbrev values : List ℕ
  values = values_from 0 first

  abbrev spelled : Spells c.in_parts.spec_text c.spec
  spelled = c.in_parts.spelled

  few : 0 + length first ≤ length c.spec.terms
  few = let l = length-take (length c.spec.terms) c.all_lines in grind (arith, l)

  from_verdict : (o : Option ℕ) → first_underived c.spec first values rest ≡ o → Derived n ≡ told o (length values) → AreReached bytes n
  from_verdict None d e = record {
    spec = c.spec;
    all_lines = c.all_lines;
    in_parts = c.in_parts;
    unconditional = unconditional_rules spelled.syntax spelled.read.tokens c.spec spelled.read.sentence spelled.unconditional spelled.spec_is;
    count = derived_count n (length values) e;
    each = each_one (IsReached c.spec first) values (all_reached c.spec first (length first + 1) values rest (in_range 0 (length c.spec.terms) first few) (after_lines (length c.spec.terms) c.all_lines c.formed) d);
  }
  from_verdict (Some i) d e = absurd cc

pub is_sound : (bytes : List ℕ) (v : TraceVerdict) → IsChecked bytes v → IsSound bytes v
is_sound bytes (Underived i) c = tt
is_sound bytes (Derived n) c = from_verdict bytes n c (first_underived c.spec (term_lines c.spec c.all_lines) (values_from 0 (term_lines c.spec c.all_lines)) (trace_lines c.spec c.all_lines)) refl c.verdict_is
