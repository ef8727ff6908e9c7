-- The text of a trace spells its events again.
use Rattle.std.proofs.Common.{◌≡◌, ℕ, ◌<◌, ◌≤◌, ◌^◌, true, false, cond, List, [], ◌∷◌, ◌++◌, map, Some, refl, ap, ◌∙◌, arith, append-nil, eq-eqb, ne_eqb}
use Rattle.std.specs.Prelude.{◌&&◌, ◌==◌, not, codes, None, option_and_then}
use Rattle.std.specs.Fmt.{decimal}
use Rattle.std.specs.List.{flat_map, AllByRecursion}
use Rattle.std.specs.Option.{option_map, option_map_or}
use Rattle.std.proofs.lemmas.List.Folds.{list_all-append}
use Rattle.rewrite_model.specs.declared.event.Event.{Event}
use Rattle.rewrite_model.specs.declared.event.Event.TheVariants.{Down, Up, Rule as Use}
use Rattle.log_check.specs.Words.{words}
use Rattle.run_checks.specs.Form.{event_in, events_in, is_number, trace_in_words, trace_in}
use Rattle.run_checks.specs.Endings.{event_text, trace_text}
use Rattle.run_checks.proofs.Decimals.{is_free, number_is_read, decimal_free}
use Rattle.run_checks.proofs.Joining.{first_word, only_word}

-- a number has at most 64 digits
abbrev pub IsShort : Event → Type 0
IsShort (Down j) = j < 10 ^ 64
IsShort Up = Unit {0}
IsShort (Use k) = k < 10 ^ 64

abbrev pub AreShort : List Event → Type 0
AreShort events = AllByRecursion IsShort events

-- an event as a word
abbrev word : Event → List ℕ
word (Down j) = 100 ∷ decimal j
word Up = 117 ∷ []
word (Use k) = 114 ∷ decimal k

spaced : (e : Event) → event_text e ≡ 32 ∷ word e
spaced (Down j) = refl
spaced Up = refl
spaced (Use k) = refl

apart : (x b : ℕ) → 48 ≤ x → b < 48 → not (x == b) ≡ true
apart x b high low = ap not (ne_eqb x b (λ e. omega (arith, e, high, low)))

word_free : (b : ℕ) → b < 48 → (e : Event) → IsShort e → is_free b (word e) ≡ true
word_free b low (Down j) s = λ i. apart 100 b (omega arith) low i && decimal_free b j low s i
word_free b low Up s = λ i. apart 117 b (omega arith) low i && true
word_free b low (Use k) s = λ i. apart 114 b (omega arith) low i && decimal_free b k low s i

word_is_read : (e : Event) → IsShort e → event_in (word e) ≡ Some e
word_is_read (Down j) s = ap (option_map Down) (number_is_read j s)
word_is_read Up s = refl
word_is_read (Use k) s = ap (option_map Use) (number_is_read k s)

words_are_read : (es : List Event) → AreShort es → events_in (map word es) ≡ Some es
words_are_read [] s = refl
words_are_read (e ∷ es) s =
    ap (option_and_then (λ x. option_map (λ xs. x ∷ xs) (events_in (map word es))))
    (word_is_read e s.0)
    ∙ ap (option_map (λ xs. e ∷ xs)) (words_are_read es s.1)

words_told : (front : List ℕ) (es : List Event) → is_free 32 front ≡ true → AreShort es
    → words (front ++ flat_map event_text es) ≡ front ∷ map word es
words_told front [] f s = ap words (append-nil front) ∙ only_word front f
words_told front (e ∷ es) f s =
    ap (λ t. words (front ++ (t ++ flat_map event_text es))) (spaced e)
    ∙ first_word front (word e ++ flat_map event_text es) f
    ∙ ap (λ ws. front ∷ ws) (words_told (word e) es (word_free 32 (omega arith) e s.0) s.1)

is_its_number : (i : ℕ) → i < 10 ^ 64 → is_number i (decimal i) ≡ true
is_its_number i small = ap (λ o. option_map_or (λ n. n == i) o false) (number_is_read i small)
    ∙ eq-eqb i i refl

pub trace_is_read : (i : ℕ) (es : List Event) → i < 10 ^ 64 → AreShort es
    → trace_in i (trace_text i es) ≡ Some es
trace_is_read i es small s =
    ap (λ ws. trace_in_words i (codes "#" ∷ codes "trace" ∷ ws))
    (words_told (decimal i) es (decimal_free 32 i (omega arith) small) s)
    ∙ ap (λ b. cond b (events_in (map word es)) None) (is_its_number i small)
    ∙ words_are_read es s

-- it has no line feed
events_free : (es : List Event) → AreShort es → is_free 10 (flat_map event_text es) ≡ true
events_free [] s = refl
events_free (e ∷ es) s =
    list_all-append (λ x. not (x == 10)) (event_text e) (flat_map event_text es)
    ∙ (λ i. (ap (is_free 10) (spaced e) ∙ word_free 10 (omega arith) e s.0) i && events_free es
    s.1 i)

pub trace_free : (i : ℕ) (es : List Event) → i < 10 ^ 64 → AreShort es
    → is_free 10 (trace_text i es) ≡ true
trace_free i es small s =
    list_all-append (λ x. not (x == 10)) (decimal i) (flat_map event_text es)
    ∙ (λ k. decimal_free 10 i (omega arith) small k && events_free es s k)
