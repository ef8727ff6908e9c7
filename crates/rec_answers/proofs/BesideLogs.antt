-- The lines that rewriting writes may stand beside a log.
use Rattle.std.proofs.Common.{◌≡◌, ℕ, zero, suc, ◌+◌, ◌/◌, ◌%◌, ◌<◌, Bool, true, false, List, [], ◌∷◌, ◌++◌, map, Ok, refl, sym, ap, subst, ◌∙◌, arith, append_assoc, append-nil, ne_eqb, ltb-true, codes}
use Rattle.std.specs.Prelude.{◌&&◌, ◌==◌, not, nat_lt, if◌then◌else◌}
use Rattle.std.specs.Fmt.{digits, decimal, digits_onto, digit_glyph}
use Rattle.std.specs.List.{AllByRecursion, list_all, flat_map}
use Rattle.term_model.specs.Tree.{Tree}
use Rattle.term_model.proofs.Order.{both_hold}
use Rattle.symbol_pool.specs.Pool.{Named}
use Rattle.rewrite_model.specs.Rule.{Rule}
use Rattle.rewrite_model.specs.Run.{Ended, Done, OutOfFuel, TooDeep}
use Rattle.rec_reader.specs.Tokens.{tokens_of}
use Rattle.rec_check.specs.Spelled.{Specified}
use Rattle.rec_check.proofs.NameBytes.{IsClear, is_clear}
use Rattle.rec_check.proofs.Clear.{ClearSymbols, names_are_clear}
use Rattle.term_text.specs.Text.{text}
use Rattle.term_lines.specs.Line.{is_too_large, counts_text, value_text, line_text}
use Rattle.term_lines.specs.Strategies.{ended}
use Rattle.term_lines.specs.declared.strategy.Strategy.{Strategy}
use Rattle.term_lines.specs.declared.strategy.Strategy.TheVariants.{Innermost, Outermost}
use Rattle.log_check.specs.Form.{is_marked}
use Rattle.log_laws.specs.Told.{AllHeads, WritesHeads}
use Rattle.log_laws.specs.Whole.{lined, StandsBeside}
use Rattle.log_laws.proofs.Built.{innermost_value_told}
use Rattle.log_laws.proofs.BuiltOutermost.{outermost_value_told}
use Rattle.run_checks.proofs.ClearTexts.{text_clear}
use Rattle.settings.specs.declared.parts.Command.{Command}
use Rattle.settings.specs.declared.parts.Command.TheVariants as command
use Rattle.settings.specs.declared.parts.Settings.{Settings}
use Rattle.work_order.specs.Works.{strategy_of}
use Rattle.work_order.specs.Lined.{end_of}
use Rattle.rec_answers.specs.Drilled.{IsDrilled}
use Rattle.rec_answers.specs.Run.{Rewrites}
use Rattle.rec_answers.specs.Output.{IsOutputOf}
use Rattle.rec_answers.specs.Rewritten.{IsRewritten, Spells}
use Rattle.rec_answers.specs.Sequence.{lines_of, values_among, spent_among}
use Rattle.rec_answers.specs.Traced.{traces_of}
use Rattle.rec_answers.specs.Written.{Output}
use Rattle.rec_answers.proofs.ToldHeads.{told_symbol, tree_is_narrow, IsToldSpec, spec_told}

-- ---- texts without a line feed

abbrev HasNoFeed : List ℕ → Type 0
HasNoFeed bytes = AllByRecursion (λ b. (b == 10) ≡ false) bytes

not_so : (b : Bool) → not b ≡ true → b ≡ false
not_so true e = absurd cc
not_so false e = refl

-- a text that is known byte by byte
by_test : (bytes : List ℕ) → list_all (λ b. not (b == 10)) bytes ≡ true → HasNoFeed bytes
by_test [] e = tt
by_test (b ∷ bs) e =
    let both = both_hold (not (b == 10)) (list_all (λ c. not (c == 10)) bs) e in
    (not_so (b == 10) both.0, by_test bs both.1)

joined : (xs ys : List ℕ) → HasNoFeed xs → HasNoFeed ys → HasNoFeed (xs ++ ys)
joined [] ys h k = k
joined (x ∷ xs) ys h k = (h.0, joined xs ys h.1 k)

glyph_is_none : (d : ℕ) → (digit_glyph false d == 10) ≡ false
glyph_is_none d = by (nat_lt d 10)
  where
    by : (b : Bool) → ((if b then 48 + d else 87 + d) == 10) ≡ false
    by true = ne_eqb (48 + d) 10 (λ e. absurd (omega (arith, e)))
    by false = ne_eqb (87 + d) 10 (λ e. absurd (omega (arith, e)))

digits_have_none : (k n : ℕ) (rest : List ℕ) → HasNoFeed rest → HasNoFeed (digits_onto k 10 false n rest)
digits_have_none zero n rest h = h
digits_have_none (suc k) n rest h =
    let more : HasNoFeed (digit_glyph false (n % 10) ∷ rest) = (glyph_is_none (n % 10), h) in
    by (n / 10 == 0) more (digits_have_none k (n / 10) (digit_glyph false (n % 10) ∷ rest) more)
  where
    by : (b : Bool) → HasNoFeed (digit_glyph false (n % 10) ∷ rest) → HasNoFeed (digits_onto k 10 false (n / 10) (digit_glyph false (n % 10) ∷ rest))
        → HasNoFeed (if b then digit_glyph false (n % 10) ∷ rest else digits_onto k 10 false (n / 10) (digit_glyph false (n % 10) ∷ rest))
    by true one all = one
    by false one all = all

number_has_none : (n : ℕ) → HasNoFeed (decimal n)
unfolding digits
number_has_none n = digits_have_none 64 n [] tt

-- ---- texts that stand beside a log

no_second : (a : Bool) → (a && false) ≡ false
no_second true = refl
no_second false = refl

-- those without a space
clear_none : (bytes : List ℕ) → IsClear bytes → HasNoFeed bytes
clear_none [] e = tt
clear_none (b ∷ bs) e =
    let both = both_hold (nat_lt 32 b) (is_clear bs) e in
    let above : 32 < b = ltb-true 32 b both.0 in
    (ne_eqb b 10 (λ same. absurd (omega (arith, above, same))), clear_none bs both.1)

clear_unmarked : (bytes : List ℕ) → IsClear bytes → is_marked bytes ≡ false
clear_unmarked [] e = refl
clear_unmarked (a ∷ []) e = refl
clear_unmarked (a ∷ b ∷ bs) e =
    let rest = both_hold (nat_lt 32 a) (is_clear (b ∷ bs)) e in
    let above : 32 < b = ltb-true 32 b (both_hold (nat_lt 32 b) (is_clear bs) rest.1).0 in
    ap (λ (c : Bool). a == 35 && c) (ne_eqb b 32 (λ same. absurd (omega (arith, above, same)))) ∙ no_second (a == 35)

clear_stands : (bytes : List ℕ) → IsClear bytes → StandsBeside bytes
clear_stands bytes e = (clear_none bytes e, clear_unmarked bytes e)

-- a word of the program and a number
count_stands : (name : List ℕ) (n : ℕ) → list_all (λ b. not (b == 10)) name ≡ true → is_marked (name ++ decimal n) ≡ false → StandsBeside (name ++ decimal n)
count_stands name n e unmarked = (joined name (decimal n) (by_test name e) (number_has_none n), unmarked)

counts_stand : (different count : ℕ) → StandsBeside (counts_text different count)
counts_stand different count =
    let first = joined (codes "distinct ") (decimal different) (by_test (codes "distinct ") refl) (number_has_none different) in
    let named = joined (codes "distinct " ++ decimal different) (codes " nodes ") first (by_test (codes " nodes ") refl) in
    (joined (codes "distinct " ++ decimal different ++ codes " nodes ") (decimal count) named (number_has_none count), refl)

-- ---- the line of a term

module _ (symbols : List Named) (clear : ClearSymbols symbols) where
  value_stands : (sizes : Bool) (value : Tree) → AllHeads told_symbol value → StandsBeside (value_text sizes symbols value)
  value_stands true value h = counts_stand _ _
  value_stands false value h = by (is_too_large value)
    where
      by : (b : Bool) → StandsBeside (if b then codes "too large" else text symbols value)
      by true = (by_test (codes "too large") refl, refl)
      by false = clear_stands (text symbols value) (text_clear symbols clear 16 value (tree_is_narrow value h))

  line_stands : (sizes : Bool) (e : Ended Tree) → ((value : Tree) (left : ℕ) → e ≡ Done value left → AllHeads told_symbol value) → StandsBeside (line_text sizes symbols e)
  line_stands sizes (Done value left) h = value_stands sizes value (h value left refl)
  line_stands sizes OutOfFuel h = (by_test (codes "out of fuel") refl, refl)
  line_stands sizes TooDeep h = (by_test (codes "too deep") refl, refl)

  module _ (rules : List Rule) (write : AllByRecursion (WritesHeads told_symbol) rules) (fuel room : ℕ) where
    value_told : (strategy : Strategy) (t : Tree) → AllHeads told_symbol t → (value : Tree) (left : ℕ) → ended strategy rules t fuel room ≡ Done value left → AllHeads told_symbol value
    value_told Innermost t h = innermost_value_told told_symbol rules t fuel room write h
    value_told Outermost t h = outermost_value_told told_symbol rules t fuel room write h

    lines_stand : (sizes : Bool) (strategy : Strategy) (ts : List Tree) → AllByRecursion (AllHeads told_symbol) ts
        → AllByRecursion StandsBeside (map (λ t. line_text sizes symbols (ended strategy rules t fuel room)) ts)
    lines_stand sizes strategy [] h = tt
    lines_stand sizes strategy (t ∷ ts) h =
        (line_stands sizes (ended strategy rules t fuel room) (value_told strategy t h.0), lines_stand sizes strategy ts h.1)

-- lines one after another
are_lined : (f : Tree → List ℕ) (ts : List Tree) → flat_map (λ t. f t ++ codes "\n") ts ≡ lined (map f ts)
are_lined f [] = refl
are_lined f (t ∷ ts) = ap (λ (xs : List ℕ). (f t ++ 10 ∷ []) ++ xs) (are_lined f ts)

three_lined : (x y z : List ℕ) → ((x ++ codes "\n") ++ (y ++ codes "\n")) ++ (z ++ codes "\n") ≡ lined (x ∷ y ∷ z ∷ [])
three_lined x y z =
    append_assoc (x ++ 10 ∷ []) (y ++ 10 ∷ []) (z ++ 10 ∷ [])
    ∙ ap (λ (w : List ℕ). (x ++ 10 ∷ []) ++ ((y ++ 10 ∷ []) ++ w)) (sym (append-nil (z ++ 10 ∷ [])))

-- ---- what is written of terms

-- bytes that are lines, each of which may stand beside a log
pub record StandBeside (bytes : List ℕ) : Type 0 where
  pub texts : List (List ℕ)
  pub stand : AllByRecursion StandsBeside texts
  pub is : bytes ≡ lined texts

untraced : (traced : Bool) (xs ys : List ℕ) → traced ≡ false → (if traced then xs else ys) ≡ ys
untraced true xs ys e = absurd cc
untraced false xs ys e = refl

names_clear : (input : List ℕ) (spec : Specified) → Spells input spec → ClearSymbols spec.symbols
names_clear input spec p =
    names_are_clear p.syntax p.read.tokens spec (subst (λ (bs : List ℕ). tokens_of bs ≡ Ok p.read.tokens) (sym p.read.bytes) p.read.cut) p.read.sentence p.spec_is

rewritten_beside : (s : Settings) (input : List ℕ) (output : Output) → IsRewritten s input output → s.trace ≡ false → StandBeside output.bytes
rewritten_beside s input output r off =
    let spec = r.spec in
    let told : IsToldSpec spec = spec_told r.spelled.syntax spec r.spelled.spec_is in
    let f : Tree → List ℕ = λ t. line_text s.sizes spec.symbols (end_of s spec.rules t) in
    let lines = lines_of s spec.symbols spec.rules spec.terms in
    record {
      texts = map f spec.terms;
      stand = lines_stand spec.symbols (names_clear input spec r.spelled) spec.rules told.rules s.fuel s.depth s.sizes (strategy_of s.command) spec.terms told.terms;
      is = ap (λ (o : Output). o.bytes) r.output_is ∙ (untraced s.trace (lines ++ traces_of s spec) lines off ∙ are_lined f spec.terms);
    }

drilled_beside : (s : Settings) (input : List ℕ) (output : Output) → IsDrilled s input output → StandBeside output.bytes
drilled_beside s input output d =
    let spec = d.spec in
    let values = values_among s spec.rules spec.terms in
    let spent = spent_among s spec.rules spec.terms in
    record {
      texts = (codes "terms " ++ decimal s.count) ∷ (codes "values " ++ decimal values) ∷ (codes "spent " ++ decimal spent) ∷ [];
      stand = (
        count_stands (codes "terms ") s.count refl refl,
        (count_stands (codes "values ") values refl refl, (count_stands (codes "spent ") spent refl refl, tt)),
      );
      is = ap (λ (o : Output). o.bytes) d.output_is
          ∙ three_lined (codes "terms " ++ decimal s.count) (codes "values " ++ decimal values) (codes "spent " ++ decimal spent);
    }

pub output_beside : (c : Command) (s : Settings) (input : List ℕ) (output : Output) → Rewrites c → s.trace ≡ false → IsOutputOf c s input output → StandBeside output.bytes
output_beside command.Rewrite s input output asks off o = rewritten_beside s input output o.0 off
output_beside command.Drill s input output asks off o = drilled_beside s input output o
output_beside command.Schedule s input output asks off o = absurd asks
output_beside command.Terms s input output asks off o = absurd asks
output_beside command.Pack s input output asks off o = absurd asks
output_beside command.Unpack s input output asks off o = absurd asks
output_beside command.CheckLog s input output asks off o = absurd asks
output_beside command.CheckTrace s input output asks off o = absurd asks
output_beside command.Outermost s input output asks off o = rewritten_beside s input output o.0 off
