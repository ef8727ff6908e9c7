-- The line of each entry is read as the entry.
use Rattle.std.proofs.Common.{◌≡◌, ◌∙◌, ℕ, ◌-◌, ◌^◌, ◌<◌, ◌&&◌, true, List, [], ◌∷◌, ◌++◌, drop, append_assoc, Option, Some, None, refl, sym, ap, arith}
use Rattle.std.specs.Prelude.{codes, decimal, option_and_then, nat_lt, if◌then◌else◌}
use Rattle.std.specs.Option.{option_map}
use Rattle.std.specs.List.{AllByRecursion}
use Rattle.std.proofs.lemmas.Bool.{ne_eqb}
use Rattle.term_model.specs.declared.Head.{Head}
use Rattle.term_model.specs.declared.Head.TheVariants.{App, Int, Nil, Cons}
use Rattle.history_core.specs.declared.entry.Entry.{Entry}
use Rattle.history_core.specs.declared.entry.Entry.TheVariants.{Make, Find, Roots, Collect}
use Rattle.log_check.specs.Words.{lines, words_after}
use Rattle.log_check.specs.Log.{Log, placed, is_inside}
use Rattle.log_check.specs.Form.{is_marked, line_in, entry_in, key_in, name_in, names_in, head_in, creation_in, listing_in, make_of, find_of, roots_of, collect_of}
use Rattle.log_text.specs.Lines.{head_text, names_text, creation_text, listing_text, line_of}
use Rattle.log_laws.specs.ReadBack.{MayTell, IsTold, AreNames, IsTerm, LinesAreReadBack}
use Rattle.log_laws.proofs.Numbers.{IsDigit, digits_of, below_back}
use Rattle.log_laws.proofs.Cutting.{Without, AllWithout, without_both, line_cut, spaced, spaced_without, words_back, ends_last}

-- digits have no space and no line feed
digits_without : (b : ℕ) (ds : List ℕ) → b < 48 → AllByRecursion IsDigit ds → Without b ds
digits_without b [] l a = tt
digits_without b (d ∷ ds) l a = (ne_eqb d b (λ same. (let i = a.0.0 in absurd (omega (arith, l, i, same)))), digits_without b ds l a.1)

pub decimal_without : (b n : ℕ) → b < 48 → n < 2 ^ 64 → Without b (decimal n)
decimal_without b n l s = digits_without b (decimal n) l (digits_of n s).0

-- names as words
abbrev pub name_words : List ℕ → List (List ℕ)
name_words [] = []
name_words (n ∷ ns) = decimal n ∷ name_words ns

names_spaced : (ns : List ℕ) → names_text ns ≡ spaced (name_words ns)
names_spaced [] = refl
names_spaced (n ∷ ns) = ap (λ (z : List ℕ). 32 ∷ (decimal n ++ z)) (names_spaced ns)

names_without : (b : ℕ) (ns : List ℕ) → b < 48 → AreNames ns → AllWithout b (name_words ns)
names_without b [] l a = tt
names_without b (n ∷ ns) l a = (decimal_without b n l (let s = a.0 in omega (arith, s)), names_without b ns l a.1)

name_back : (n : ℕ) → n < 2 ^ 32 → name_in (decimal n) ≡ Some n
name_back n l = below_back (2 ^ 32) n l (omega (arith, l))

key_back : (n : ℕ) → n < 2 ^ 62 → key_in (decimal n) ≡ Some n
key_back n l = below_back (2 ^ 62) n l (omega (arith, l))

names_back : (ns : List ℕ) → AreNames ns → names_in (name_words ns) ≡ Some ns
names_back [] a = refl
names_back (n ∷ ns) a =
    ap (λ (o : Option ℕ). option_and_then (λ k. option_map (λ ks. k ∷ ks) (names_in (name_words ns))) o) (name_back n a.0)
    ∙ ap (λ (o : Option (List ℕ)). option_map (λ ks. n ∷ ks) o) (names_back ns a.1)

-- heads
head_without : (b : ℕ) (h : Head) → b < 48 → IsTold h → Without b (head_text h)
head_without b (App f) l t = (ne_eqb 115 b (λ same. absurd (omega (arith, l, same))), decimal_without b f.0 l (omega (arith, t)))
head_without b (Int v) l t = (ne_eqb 105 b (λ same. absurd (omega (arith, l, same))), decimal_without b v l t)
head_without b Nil l t = (ne_eqb 101 b (λ same. absurd (omega (arith, l, same))), tt)
head_without b Cons l t = (ne_eqb 99 b (λ same. absurd (omega (arith, l, same))), tt)

head_back : (h : Head) → IsTold h → head_in (head_text h) ≡ Some h
head_back (App f) t = ap (option_map (λ (n : ℕ). App (record { 0 = n }))) (below_back 65535 f.0 t (omega (arith, t)))
head_back (Int v) t = ap (option_map Int) (below_back (2 ^ 64) v t t)
head_back Nil t = refl
head_back Cons t = refl

-- what a creation notes, and what other steps note
abbrev term_words : ℕ → Head → List ℕ → List (List ℕ)
term_words row h args = decimal row ∷ head_text h ∷ name_words args

abbrev creation_words : ℕ → Head → List ℕ → ℕ → List (List ℕ)
creation_words n h args row = decimal n ∷ term_words row h args

creation_back : (n : ℕ) (h : Head) (args : List ℕ) (row : ℕ) → n < 2 ^ 62 → IsTerm row h args
    → creation_in (creation_words n h args row) ≡ Some (record { key = n; row = row; head = h; args = args })
creation_back n h args row l t = rw (key_back n l, name_back row t.0, head_back h t.1, names_back args t.3, t.2) refl

listing_back : (n : ℕ) (ns : List ℕ) → n < 2 ^ 62 → AreNames ns → listing_in (decimal n ∷ name_words ns) ≡ Some (record { key = n; names = ns })
listing_back n ns l a = rw (key_back n l, names_back ns a) refl

-- a line without its mark and its line feed, as words
pub record IsLine (bytes word : List ℕ) (ws : List (List ℕ)) : Type 0 where
  pub is : bytes ≡ (35 ∷ (32 ∷ (word ++ spaced ws))) ++ 10 ∷ []
  pub feeds : Without 10 word × AllWithout 10 ws
  pub spaces : Without 32 word × AllWithout 32 ws

pub cut_line : (bytes word : List ℕ) (ws : List (List ℕ)) → IsLine bytes word ws → (rest : List ℕ)
    → (text : List ℕ) × (lines (bytes ++ rest) ≡ text ∷ lines rest) × (is_marked text ≡ true) × (words_after (drop 1 text) ≡ word ∷ ws)
cut_line bytes word ws h rest =
    let text : List ℕ = 35 ∷ (32 ∷ (word ++ spaced ws)) in
    let free : Without 10 text = (refl, (refl, without_both 10 word (spaced ws) h.feeds.0 (spaced_without ws h.feeds.1))) in (
      text,
      ap (λ (z : List ℕ). lines (z ++ rest)) h.is ∙ (ap lines (append_assoc text (10 ∷ []) rest) ∙ line_cut text rest free),
      refl,
      words_back word ws h.spaces.0 h.spaces.1,
    )

creation_line : (word : List ℕ) (n : ℕ) (h : Head) (args : List ℕ) (row : ℕ) → n < 2 ^ 62 → IsTerm row h args → Without 10 word → Without 32 word
    → IsLine (35 ∷ (32 ∷ (word ++ (32 ∷ creation_text n h args row)))) word (creation_words n h args row)
creation_line word n h args row l t feeds spaces = record {
  is = ap (λ (z : List ℕ). 35 ∷ (32 ∷ (word ++ (32 ∷ z))))
      (ends_last (decimal n) (decimal row) (head_text h) (names_text args)
      ∙ ap (λ (z : List ℕ). (decimal n ++ (32 ∷ (decimal row ++ (32 ∷ (head_text h ++ z))))) ++ 10 ∷ []) (names_spaced args))
      ∙ ap (λ (z : List ℕ). 35 ∷ (32 ∷ z)) (sym (append_assoc word (spaced (creation_words n h args row)) (10 ∷ [])));
  feeds = (feeds, all 10 (omega arith));
  spaces = (spaces, all 32 (omega arith));
}
  where
    all : (b : ℕ) → b < 48 → AllWithout b (creation_words n h args row)
    all b small = (decimal_without b n small (omega (arith, l)), (decimal_without b row small (let s = t.0 in omega (arith, s)), (head_without b h small t.1, names_without b args small t.3)))

listing_line : (word : List ℕ) (n : ℕ) (ns : List ℕ) → n < 2 ^ 62 → AreNames ns → Without 10 word → Without 32 word
    → IsLine (35 ∷ (32 ∷ (word ++ (32 ∷ listing_text n ns)))) word (decimal n ∷ name_words ns)
listing_line word n ns l a feeds spaces = record {
  is = ap (λ (z : List ℕ). 35 ∷ (32 ∷ (word ++ (32 ∷ z)))) (ap (λ (z : List ℕ). (decimal n ++ z) ++ 10 ∷ []) (names_spaced ns))
      ∙ ap (λ (z : List ℕ). 35 ∷ (32 ∷ z)) (sym (append_assoc word (spaced (decimal n ∷ name_words ns)) (10 ∷ [])));
  feeds = (feeds, all 10 (omega arith));
  spaces = (spaces, all 32 (omega arith));
}
  where
    all : (b : ℕ) → b < 48 → AllWithout b (decimal n ∷ name_words ns)
    all b small = (decimal_without b n small (omega (arith, l)), names_without b ns small a)

-- a log with an entry on this line
abbrev pub step_of : ℕ → Log → Entry → Option Log
step_of n log e =
    if is_inside log.stage && nat_lt 0 log.begun
    then Some (record {
      stage = log.stage;
      rows = log.rows;
      callers = log.callers;
      begun = log.begun;
      noted = log.noted ++ record { line = n; caller = log.begun - 1; entry = e } ∷ [];
    }) else None

pub through : {A L : Type 0} (f : A → L) (g : L → Option Log) (o : Option A) (a : A) → o ≡ Some a → option_and_then g (option_map f o) ≡ g (f a)
through f g o a e = ap (λ x. option_and_then g (option_map f x)) e

-- the line of an entry: its words are read as the entry, and as a step of a log
pub record IsEntryLine (e : Entry) : Type 0 where
  pub word : List ℕ
  pub words : List (List ℕ)
  pub line : IsLine (line_of e) word words
  pub reads : entry_in word words ≡ Some e
  pub steps : (n : ℕ) (log : Log) → option_and_then (placed n log) (line_in (word ∷ words)) ≡ step_of n log e

pub entry_line : (e : Entry) → MayTell e → IsEntryLine e
entry_line (Make n h args row) t =
    let is = ap (λ o. option_map make_of o) (creation_back n h args row t.0 t.1) in
    record {
      word = codes "make";
      words = creation_words n h args row;
      line = creation_line (codes "make") n h args row t.0 t.1 (refl, (refl, (refl, (refl, tt)))) (refl, (refl, (refl, (refl, tt))));
      reads = is;
      steps = λ m log. through _ (placed m log) _ (Make n h args row) is;
    }
entry_line (Find n h args row) t =
    let is = ap (λ o. option_map find_of o) (creation_back n h args row t.0 t.1) in
    record {
      word = codes "find";
      words = creation_words n h args row;
      line = creation_line (codes "find") n h args row t.0 t.1 (refl, (refl, (refl, (refl, tt)))) (refl, (refl, (refl, (refl, tt))));
      reads = is;
      steps = λ m log. through _ (placed m log) _ (Find n h args row) is;
    }
entry_line (Roots n ns) t =
    let is = ap (λ o. option_map roots_of o) (listing_back n ns t.0 t.1) in
    record {
      word = codes "roots";
      words = decimal n ∷ name_words ns;
      line = listing_line (codes "roots") n ns t.0 t.1 (refl, (refl, (refl, (refl, (refl, tt))))) (refl, (refl, (refl, (refl, (refl, tt)))));
      reads = is;
      steps = λ m log. through _ (placed m log) _ (Roots n ns) is;
    }
entry_line (Collect n ns) t =
    let is = ap (λ o. option_map collect_of o) (listing_back n ns t.0 t.1) in
    record {
      word = codes "collect";
      words = decimal n ∷ name_words ns;
      line = listing_line (codes "collect") n ns t.0 t.1 (refl, (refl, (refl, (refl, (refl, (refl, (refl, tt))))))) (refl, (refl, (refl, (refl, (refl, (refl, (refl, tt)))))));
      reads = is;
      steps = λ m log. through _ (placed m log) _ (Collect n ns) is;
    }

pub read_back : LinesAreReadBack
read_back e t rest =
    let is = entry_line e t in
    let cut = cut_line (line_of e) is.word is.words is.line rest in
    (cut.0, is.word, is.words, cut.1, cut.2, cut.3, is.reads)
