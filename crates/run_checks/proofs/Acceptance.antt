-- An output whose traces lead to its values is well-formed, and found derived.
use Rattle.std.proofs.Common.{◌≡◌, ℕ, ◌+◌, ◌<◌, ◌^◌, true, false, cond, List, [], ◌∷◌, ◌++◌, length, map, take, drop, get_or, Option, Some, None, All, refl, sym, ap, ap₂, ◌∙◌, arith, append_assoc, le-ltb}
use Rattle.std.specs.Prelude.{codes, count_by, is_some, nat_lt}
use Rattle.std.specs.List.{flat_map, AllByRecursion}
use Rattle.std.specs.Option.{option_map_or}
use Rattle.std.specs.Str.{bytes_eq}
use Rattle.std.proofs.lemmas.List.{length-append, length-map, map-append}
use Rattle.std.proofs.lemmas.List.Sums.{sum_by-cons}
use Rattle.std.proofs.lemmas.Slice.Eq.{bytes_eq-Decides}
use Rattle.std.proofs.Math.Seq.{take-append_seam, drop-append_seam, get_or-append_seam}
use Rattle.term_model.specs.Tree.{Tree, Leaf}
use Rattle.rewrite_model.specs.Rule.{Rule}
use Rattle.rewrite_model.specs.Replay.{replayed}
use Rattle.rewrite_model.specs.declared.event.Event.{Event}
use Rattle.rewrite_model.specs.declared.event.Event.TheVariants.{Down, Up, Rule as Use}
use Rattle.rec_check.specs.Spelled.{Specified}
use Rattle.rec_check.proofs.NameBytes.{IsClear}
use Rattle.rec_check.proofs.Clear.{ClearSymbols}
use Rattle.term_text.specs.Text.{text}
use Rattle.log_check.specs.Words.{lines}
use Rattle.run_checks.specs.declared.checking.TraceVerdict.TheVariants.{Derived}
use Rattle.run_checks.specs.Form.{values_from, wrong_from, wrong_after, wrong_line}
use Rattle.run_checks.specs.Verdict.{leads_to, is_derived, first_underived, told, verdict}
use Rattle.run_checks.specs.Endings.{Ending, Value, OutOfFuel, TooDeep, TooLarge, Leads, is_value, line, ending_text, trace_text, trace_line, traces_from, output_text}
use Rattle.run_checks.proofs.Decimals.{is_free}
use Rattle.run_checks.proofs.Joining.{line_is_first}
use Rattle.run_checks.proofs.Told.{AreShort, trace_is_read, trace_free}
use Rattle.run_checks.proofs.Narrow.{IsNarrow, WritesNarrow, IsSmall, LeadsOn, lead_on}
use Rattle.run_checks.proofs.ClearTexts.{text_clear, clear_free, clear_is_value}

-- small numbers are short
short : (most : ℕ) (rules : List Rule) → most < 10 ^ 64 → length rules < 10 ^ 64
    → (es : List Event) → AllByRecursion (IsSmall most rules) es → AreShort es
short most rules a b [] s = tt
short most rules a b (Down j ∷ es) s =
    (let l = s.0 in omega (arith, l, a), short most rules a b es s.1)
short most rules a b (Up ∷ es) s = (tt, short most rules a b es s.1)
short most rules a b (Use k ∷ es) s =
    (let l = s.0 in omega (arith, l, b), short most rules a b es s.1)

-- what is known of a term's ending
abbrev pub IsFine : Specified → Tree → Ending → Type 0
IsFine s t (Value u es) = AreShort es × IsClear (text s.symbols u)
    × (replayed s.rules es [] t ≡ Some u)
IsFine s t OutOfFuel = Unit {0}
IsFine s t TooDeep = Unit {0}
IsFine s t TooLarge = Unit {0}

module _ (s : Specified) (most : ℕ) (few : most < 10 ^ 64) (few_rules : length s.rules < 10 ^ 64)
    (write : All (WritesNarrow most) s.rules) (clear : ClearSymbols s.symbols) where
  pub is_fine : (t : Tree) (e : Ending) → IsNarrow most t → Leads s.rules t e → IsFine s t e
  is_fine t (Value u es) h r =
      let l : LeadsOn most s.rules es u = lead_on most s.rules write es [] t u h r in
      (short most s.rules few few_rules es l.small, text_clear s.symbols clear most u l.narrow, r)
  is_fine t OutOfFuel h r = tt
  is_fine t TooDeep h r = tt
  is_fine t TooLarge h r = tt

-- ---- one line

line_free : (s : Specified) (t : Tree) (e : Ending) → IsFine s t e
    → is_free 10 (ending_text s.symbols e) ≡ true
line_free s t (Value u es) f = clear_free 10 (omega arith) (text s.symbols u) f.1
line_free s t OutOfFuel f = refl
line_free s t TooDeep f = refl
line_free s t TooLarge f = refl

-- the lines of a trace: one where there is a value
abbrev with_trace : ℕ → Ending → List (List ℕ) → List (List ℕ)
with_trace i (Value u es) more = trace_text i es ∷ more
with_trace i OutOfFuel more = more
with_trace i TooDeep more = more
with_trace i TooLarge more = more

trace_lines : (s : Specified) (t : Tree) (i : ℕ) (e : Ending) (rest : List ℕ)
    (more : List (List ℕ)) → i < 10 ^ 64 → IsFine s t e → lines rest ≡ more
    → lines (trace_line i e ++ rest) ≡ with_trace i e more
trace_lines s t i (Value u es) rest more small f is =
    line_is_first (trace_text i es) rest (trace_free i es small f.0)
    ∙ ap (λ ls. trace_text i es ∷ ls) is
trace_lines s t i OutOfFuel rest more small f is = is
trace_lines s t i TooDeep rest more small f is = is
trace_lines s t i TooLarge rest more small f is = is

-- the number of a value before others
abbrev with_number : ℕ → Ending → List ℕ → List ℕ
with_number i (Value u es) more = i ∷ more
with_number i OutOfFuel more = more
with_number i TooDeep more = more
with_number i TooLarge more = more

one_number : (s : Specified) (t : Tree) (i : ℕ) (e : Ending) (ls : List (List ℕ)) (more : List ℕ)
    → IsFine s t e → values_from (i + 1) ls ≡ more
    → values_from i (ending_text s.symbols e ∷ ls) ≡ with_number i e more
one_number s t i (Value u es) ls more f is =
    ap (λ b. cond b (values_from (i + 1) ls) (i ∷ values_from (i + 1) ls))
    (clear_is_value (text s.symbols u) f.1) ∙ ap (λ ns. i ∷ ns) is
one_number s t i OutOfFuel ls more f is = is
one_number s t i TooDeep ls more f is = is
one_number s t i TooLarge ls more f is = is

one_right : (s : Specified) (t : Tree) (n i : ℕ) (e : Ending) (ns : List ℕ) (more : List (List ℕ))
    → i < 10 ^ 64 → IsFine s t e → ((m : ℕ) → wrong_from m ns more ≡ None)
    → wrong_from n (with_number i e ns) (with_trace i e more) ≡ None
one_right s t n i (Value u es) ns more small f go =
    ap (λ o. cond (is_some o) (wrong_from (n + 1) ns more) (Some n))
    (trace_is_read i es small f.0) ∙ go (n + 1)
one_right s t n i OutOfFuel ns more small f go = go n
one_right s t n i TooDeep ns more small f go = go n
one_right s t n i TooLarge ns more small f go = go n

-- the trace of a value leads from the term to the line
leads : (s : Specified) (ls : List (List ℕ)) (t : Tree) (i : ℕ) (u : Tree) (es : List Event)
    → i < 10 ^ 64 → IsFine s t (Value u es) → get_or s.terms i (Leaf 0) ≡ t
    → get_or ls i [] ≡ text s.symbols u
    → is_derived s ls i (trace_text i es) ≡ true
leads s ls t i u es small f at on =
    ap (λ o. leads_to s.symbols s.rules o (get_or s.terms i (Leaf 0)) (get_or ls i []))
    (trace_is_read i es small f.0)
    ∙ ap₂ (λ (v : Tree) (l : List ℕ). leads_to s.symbols s.rules (Some es) v l) at on
    ∙ ap (λ o. option_map_or (λ v. bytes_eq (text s.symbols u) (text s.symbols v)) o false) f.2
    ∙ (bytes_eq-Decides (text s.symbols u) (text s.symbols u)).1 refl

one_derived : (s : Specified) (ls : List (List ℕ)) (t : Tree) (i : ℕ) (e : Ending) (ns : List ℕ)
    (more : List (List ℕ)) → i < 10 ^ 64 → IsFine s t e → get_or s.terms i (Leaf 0) ≡ t
    → get_or ls i [] ≡ ending_text s.symbols e
    → first_underived s ls ns more ≡ None
    → first_underived s ls (with_number i e ns) (with_trace i e more) ≡ None
one_derived s ls t i (Value u es) ns more small f at on go =
    ap (λ b. cond b (first_underived s ls ns more) (Some i)) (leads s ls t i u es small f at on)
    ∙ go
one_derived s ls t i OutOfFuel ns more small f at on go = go
one_derived s ls t i TooDeep ns more small f at on go = go
one_derived s ls t i TooLarge ns more small f at on go = go

one_counted : (i : ℕ) (e : Ending) (ns : List ℕ) (n : ℕ) → length ns ≡ n
    → length (with_number i e ns) ≡ cond (is_value e) 1 0 + n
one_counted i (Value u es) ns n h = omega (arith, h)
one_counted i OutOfFuel ns n h = omega (arith, h)
one_counted i TooDeep ns n h = omega (arith, h)
one_counted i TooLarge ns n h = omega (arith, h)

-- ---- all lines

module _ (s : Specified) (ending : Tree → Ending) where
  abbrev line_for : Tree → List ℕ
  line_for t = ending_text s.symbols (ending t)

  abbrev FineFor : Tree → Type 0
  FineFor t = IsFine s t (ending t)

  abbrev numbers : ℕ → List Tree → List ℕ
  numbers i [] = []
  numbers i (t ∷ ts) = with_number i (ending t) (numbers (i + 1) ts)

  abbrev last_lines : List (List ℕ)
  last_lines = codes "# end" ∷ []

  abbrev traces : ℕ → List Tree → List (List ℕ)
  traces i [] = last_lines
  traces i (t ∷ ts) = with_trace i (ending t) (traces (i + 1) ts)

  lines_first : (ts : List Tree) (rest : List ℕ) → AllByRecursion FineFor ts
      → lines (flat_map (λ t. line (line_for t)) ts ++ rest) ≡ map line_for ts ++ lines rest
  lines_first [] rest f = refl
  lines_first (t ∷ ts) rest f =
      ap lines (append_assoc (line (line_for t)) (flat_map (λ u. line (line_for u)) ts) rest)
      ∙ line_is_first (line_for t) (flat_map (λ u. line (line_for u)) ts ++ rest)
      (line_free s t (ending t) f.0)
      ∙ ap (λ ls. line_for t ∷ ls) (lines_first ts rest f.1)

  lines_after : (i : ℕ) (ts : List Tree) → i + length ts < 10 ^ 64 → AllByRecursion FineFor ts
      → lines (traces_from ending i ts ++ line (codes "# end")) ≡ traces i ts
  lines_after i [] small f = refl
  lines_after i (t ∷ ts) small f =
      ap lines (append_assoc (trace_line i (ending t)) (traces_from ending (i + 1) ts)
      (line (codes "# end")))
      ∙ trace_lines s t i (ending t) (traces_from ending (i + 1) ts ++ line (codes "# end"))
      (traces (i + 1) ts) (omega (arith, small)) f.0
      (lines_after (i + 1) ts (omega (arith, small)) f.1)

  numbers_are : (i : ℕ) (ts : List Tree) → AllByRecursion FineFor ts
      → values_from i (map line_for ts) ≡ numbers i ts
  numbers_are i [] f = refl
  numbers_are i (t ∷ ts) f = one_number s t i (ending t) (map line_for ts) (numbers (i + 1) ts)
      f.0 (numbers_are (i + 1) ts f.1)

  all_right : (i : ℕ) (ts : List Tree) → i + length ts < 10 ^ 64 → AllByRecursion FineFor ts
      → (n : ℕ) → wrong_from n (numbers i ts) (traces i ts) ≡ None
  all_right i [] small f n = refl
  all_right i (t ∷ ts) small f n =
      one_right s t n i (ending t) (numbers (i + 1) ts) (traces (i + 1) ts) (omega (arith, small))
      f.0 (all_right (i + 1) ts (omega (arith, small)) f.1)

  all_derived : (before ts : List Tree) (i : ℕ) → s.terms ≡ before ++ ts → i ≡ length before
      → i + length ts < 10 ^ 64 → AllByRecursion FineFor ts
      → first_underived s (map line_for s.terms) (numbers i ts) (traces i ts) ≡ None
  all_derived before [] i is at small f = refl
  all_derived before (t ∷ ts) i is at small f =
      let count = length-append before (t ∷ []) in
      let on : get_or s.terms i (Leaf 0) ≡ t =
      ap₂ (λ (xs : List Tree) (k : ℕ). get_or xs k (Leaf 0)) is at
      ∙ get_or-append_seam before t ts (Leaf 0) in
      let mapped : map line_for s.terms ≡ map line_for before ++ line_for t ∷ map line_for ts =
      ap (map line_for) is ∙ map-append line_for before (t ∷ ts) in
      let place : i ≡ length (map line_for before) = at ∙ sym (length-map before line_for) in
      let of_line : get_or (map line_for s.terms) i [] ≡ line_for t =
      ap₂ (λ (xs : List (List ℕ)) (k : ℕ). get_or xs k []) mapped place
      ∙ get_or-append_seam (map line_for before) (line_for t) (map line_for ts) [] in
      one_derived s (map line_for s.terms) t i (ending t) (numbers (i + 1) ts) (traces (i + 1) ts)
      (omega (arith, small)) f.0 on of_line
      (all_derived (before ++ t ∷ []) ts (i + 1) (is ∙ sym (append_assoc before (t ∷ []) ts))
      (omega (arith, at, count)) (omega (arith, small)) f.1)

  all_counted : (i : ℕ) (ts : List Tree)
      → length (numbers i ts) ≡ count_by (λ t. is_value (ending t)) ts
  all_counted i [] = refl
  all_counted i (t ∷ ts) = one_counted i (ending t) (numbers (i + 1) ts)
      (count_by (λ u. is_value (ending u)) ts) (all_counted (i + 1) ts)
      ∙ sym (sum_by-cons (λ (u : Tree). cond (is_value (ending u)) 1 0) t ts)

  -- ---- the output

  module _ (small : length s.terms < 10 ^ 64) (fine : AllByRecursion FineFor s.terms) where
    abbrev first : List (List ℕ)
    first = map line_for s.terms

    abbrev others : List (List ℕ)
    others = traces 0 s.terms

    abbrev size : ℕ
    size = length s.terms

    all_small : 0 + length s.terms < 10 ^ 64
    all_small = omega (arith, small)

    lines_are : lines (output_text s ending) ≡ first ++ others
    lines_are =
        lines_first s.terms (traces_from ending 0 s.terms ++ line (codes "# end")) fine
        ∙ ap (λ ls. first ++ ls) (lines_after 0 s.terms all_small fine)

    counted : size ≡ length first
    counted = sym (length-map s.terms line_for)

    first_are : take size (lines (output_text s ending)) ≡ first
    first_are = ap₂ (λ (k : ℕ) (ls : List (List ℕ)). take k ls) counted lines_are
        ∙ take-append_seam first others

    others_are : drop size (lines (output_text s ending)) ≡ others
    others_are = ap₂ (λ (k : ℕ) (ls : List (List ℕ)). drop k ls) counted lines_are
        ∙ drop-append_seam first others

    enough : nat_lt (length (lines (output_text s ending))) size ≡ false
    enough =
        let l : length (lines (output_text s ending)) ≡ length first + length others =
        ap length lines_are ∙ length-append first others in
        le-ltb (length (lines (output_text s ending))) size (omega (arith, l, counted))

    right_after : wrong_after first others ≡ None
    right_after = ap (λ ns. wrong_from (length first + 1) ns others) (numbers_are 0 s.terms fine)
        ∙ all_right 0 s.terms all_small fine (length first + 1)

    pub is_formed : wrong_line size (lines (output_text s ending)) ≡ None
    is_formed =
        ap (λ b. cond b (Some (length (lines (output_text s ending)) + 1))
        (wrong_after (take size (lines (output_text s ending)))
        (drop size (lines (output_text s ending))))) enough
        ∙ ap₂ (λ (a b : List (List ℕ)). wrong_after a b) first_are others_are
        ∙ right_after

    pub is_derived_all : Derived (count_by (λ t. is_value (ending t)) s.terms) ≡ verdict s
        (take size (lines (output_text s ending))) (drop size (lines (output_text s ending)))
    is_derived_all =
        let of_numbers : verdict s first others ≡ told
        (first_underived s first (numbers 0 s.terms) others) (length (numbers 0 s.terms)) =
        ap (λ ns. told (first_underived s first ns others) (length ns))
        (numbers_are 0 s.terms fine) in
        sym (ap₂ (λ (a b : List (List ℕ)). verdict s a b) first_are others_are
        ∙ of_numbers
        ∙ ap₂ (λ (o : Option ℕ) (n : ℕ). told o n)
        (all_derived [] s.terms 0 refl refl all_small fine) (all_counted 0 s.terms))
