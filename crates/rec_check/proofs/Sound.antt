-- Material without offence: what its symbols are, and that its rules are spelled by them.
use Rattle.rec_check.proofs.Common.{list_any-append, [], ◌≡◌, ℕ, ◌+◌, ◌<◌, ◌≤◌, Bool, true, false, ◌&&◌, ◌||◌, List, ◌∷◌, ◌++◌, length, map, Some, refl, sym, ap, ◌∙◌, arith, length-append, fold, nat_eq, slice_get, All, subst, nat_le, list_any, list_all, flat_map, filter, nat_tests, append_assoc, append-nil, map-append, length-map, named, most_symbols, Named, Name, text_of, same_text, is_among, Declared, Header, brought, fresh, with_numbers, symbols_by, symbols_of, rules_of, specifications_at, repeated, Include, includes_from, symbol_names, is_clashing, is_passing, passes, most, same_symbol, most_arguments, named_in, with_symbol, with_symbols, common_steps, flat_map-append, option_to_list, eqb-true, All-append, All-weaker, All-nil, All-cons, All-head, All-tail, list_all-append, Specification}
use Rattle.std.proofs.Common.{nat_lt}
use Rattle.rec_check.proofs.Faultless.{left_empty, right_empty}

-- ---- names that aren't repeated, and symbols with such names

pub or_false : (a b : Bool) → (a || b) ≡ false → (a ≡ false) × (b ≡ false)
or_false a b h = grind (arith, nat_tests)

abbrev pub names_in : List Declared → List Name
names_in ds = map (λ d. d.name) ds

abbrev pub few_arguments : Declared → Bool
few_arguments d = nat_le (length d.arguments) most_arguments

module _ (bytes : List ℕ) where
  pub repeated-append : (e xs ys : List Name) → repeated bytes e (xs ++ ys) ≡ repeated bytes e xs ++ repeated bytes (e ++ xs) ys
  repeated-append e [] ys = ap (λ f. repeated bytes f ys) (sym (append-nil e))
  repeated-append e (x ∷ xs) ys = grind (arith, nat_tests, repeated-append (e ++ x ∷ []) xs ys, append_assoc)

  -- fewer earlier names
  pub record Within (e f : List Name) : Type 0 where
    pub each : (n : Name) → is_among bytes f n ≡ false → is_among bytes e n ≡ false

  pub within_more : (e f more : List Name) → Within e f → Within (e ++ more) (f ++ more)
  within_more e f more w = grind (arith, nat_tests, or_false, list_any-append, same_text)

  pub within_after : (e f more : List Name) → Within e f → Within e (f ++ more)
  within_after e f more w = grind (arith, nat_tests, list_any-append, same_text)

  pub fewer : (e f xs : List Name) → Within e f → repeated bytes f xs ≡ [] → repeated bytes e xs ≡ []
  fewer e f [] w h = refl
  fewer e f (x ∷ xs) w h = grind (arith, nat_tests, fewer (e ++ x ∷ []) (f ++ x ∷ []) xs (within_more e f (x ∷ []) w))

  -- names that aren't among others either
  pub beside_others : (a e xs : List Name) → list_any (is_among bytes a) xs ≡ false → repeated bytes e xs ≡ [] → repeated bytes (a ++ e) xs ≡ []
  beside_others a e [] p h = refl
  beside_others a e (x ∷ xs) p h = grind (arith, nat_tests, beside_others a (e ++ x ∷ []) xs, or_false, list_any-append, same_text, append_assoc)

  -- ---- symbols

  differs : (pool : List Declared) (n : Name) (arity : ℕ) → is_among bytes (names_in pool) n ≡ false → list_any (same_symbol (named (text_of bytes n) arity)) (named_in bytes pool) ≡ false
  differs [] n arity h = refl
  differs (d ∷ pool) n arity h = grind (arith, nat_tests, differs pool n arity)

  one_more : (pool : List Declared) (d : Declared) → is_among bytes (names_in pool) d.name ≡ false → few_arguments d ≡ true → length pool < most_symbols
      → with_symbol (named_in bytes pool) (named (text_of bytes d.name) (length d.arguments)) ≡ Some (named_in bytes (pool ++ d ∷ []))
  one_more pool d p few l = grind (arith, nat_tests, differs, length-map, map-append)

  pub all_added : (pool ds : List Declared) → repeated bytes (names_in pool) (names_in ds) ≡ [] → list_all few_arguments ds ≡ true → length pool + length ds ≤ most_symbols
      → with_symbols (named_in bytes pool) (named_in bytes ds) ≡ Some (named_in bytes (pool ++ ds))
  all_added pool [] h few room = ap (λ ps. Some (named_in bytes ps)) (sym (append-nil pool))
  all_added pool (d ∷ ds) h few room = grind (arith, nat_tests, all_added (pool ++ d ∷ []) ds, length-append, map-append, one_more, append_assoc)

-- each symbol among some is among others
pub record Holds (symbols more : List Named) : Type 0 where
  pub each : (s : Named) → list_any (same_symbol s) symbols ≡ true → list_any (same_symbol s) more ≡ true

pub or_left : (a b : Bool) → a ≡ true → (a || b) ≡ true
or_left a b h = ap (λ x. x || b) h

pub holds_first : (a b : List Named) → Holds a (a ++ b)
holds_first a b = record { each = λ s h. list_any-append (same_symbol s) a b ∙ or_left (list_any (same_symbol s) a) (list_any (same_symbol s) b) h }

pub all_front : {A : Type 0} (P : A → Type 0) (xs ys : List A) → All P (xs ++ ys) → All P xs
all_front P [] ys h = All-nil P
all_front P (x ∷ xs) ys h = All-cons P x xs (All-head P x (xs ++ ys) h) (all_front P xs ys (All-tail P x (xs ++ ys) h))

pub all_back : {A : Type 0} (P : A → Type 0) (xs ys : List A) → All P (xs ++ ys) → All P ys
all_back P [] ys h = h
all_back P (x ∷ xs) ys h = all_back P xs ys (All-tail P x (xs ++ ys) h)

-- where none passes, the first doesn't
none_first : (p : Include → Bool) (i : Include) (is : List Include) → map (λ j. j.entry) (filter p (i ∷ is)) ≡ [] → (p i ≡ false) × (map (λ j. j.entry) (filter p is) ≡ [])
none_first p i is h = grind (arith, nat_tests)

-- what a specification's rules are read by: a fact that more symbols keep
module _ (bytes : List ℕ) (Reads : List Named → Specification → Type 0) (keeps : (a b : List Named) (t : Specification) → Holds a b → Reads a t → Reads b t) where
  abbrev symbols_at : List Specification → List ℕ → List Named
  symbols_at specs ms = named_in bytes (symbols_of specs ms)

  pub record Sound (specs : List Specification) (ms : List ℕ) : Type 0 where
    pub within : list_all (λ n. nat_lt n (length specs)) ms ≡ true
    pub distinct : repeated bytes [] (symbol_names specs ms) ≡ []
    pub few_symbols : length (symbols_of specs ms) ≤ most
    pub few_rules : length (rules_of specs ms) ≤ most
    pub few : list_all few_arguments (symbols_of specs ms) ≡ true
    pub reads : All (Reads (symbols_at specs ms)) (specifications_at specs ms)

  pub sound_none : (specs : List Specification) → Sound specs []
  sound_none specs = record { within = refl; distinct = refl; few_symbols = omega arith; few_rules = omega arith; few = refl; reads = All-nil (Reads []) }

  -- ---- the parts of two lists of numbers

  at-append : (specs : List Specification) (a b : List ℕ) → specifications_at specs (a ++ b) ≡ specifications_at specs a ++ specifications_at specs b
  at-append specs a b = flat_map-append (λ n. option_to_list (slice_get specs n)) a b

  symbols-append : (specs : List Specification) (a b : List ℕ) → symbols_of specs (a ++ b) ≡ symbols_of specs a ++ symbols_of specs b
  symbols-append specs a b = ap (flat_map symbols_by) (at-append specs a b) ∙ flat_map-append symbols_by (specifications_at specs a) (specifications_at specs b)

  names-append : (specs : List Specification) (a b : List ℕ) → symbol_names specs (a ++ b) ≡ symbol_names specs a ++ symbol_names specs b
  names-append specs a b = ap (map (λ d. d.name)) (symbols-append specs a b) ∙ map-append (λ d. d.name) (symbols_of specs a) (symbols_of specs b)

  named-append : (specs : List Specification) (a b : List ℕ) → symbols_at specs (a ++ b) ≡ symbols_at specs a ++ symbols_at specs b
  named-append specs a b = ap (named_in bytes) (symbols-append specs a b) ∙ map-append _ (symbols_of specs a) (symbols_of specs b)

  -- ---- the numbers of a list that others don't have

  abbrev any_at : Named → List Specification → List ℕ → Bool
  any_at s specs ms = list_any (same_symbol s) (symbols_at specs ms)

  any_at-append : (s : Named) (specs : List Specification) (a b : List ℕ) → any_at s specs (a ++ b) ≡ (any_at s specs a || any_at s specs b)
  any_at-append s specs a b = ap (list_any (same_symbol s)) (named-append specs a b) ∙ list_any-append (same_symbol s) (symbols_at specs a) (symbols_at specs b)

  distinct_fresh : (specs : List Specification) (a b : List ℕ) (e f : List Name) → Within bytes e f → repeated bytes f (symbol_names specs b) ≡ [] → repeated bytes e (symbol_names specs (fresh a b)) ≡ []
  distinct_fresh specs a [] e f w h = refl
  distinct_fresh specs a (n ∷ ns) e f w h = grind (arith, nat_tests, distinct_fresh specs a ns, distinct_fresh specs (a ++ n ∷ []) ns, repeated-append bytes f (symbol_names specs (n ∷ [])) (symbol_names specs ns), repeated-append bytes e (symbol_names specs (n ∷ [])), names-append specs (n ∷ []) ns, names-append specs (n ∷ []), within_after bytes e f (symbol_names specs (n ∷ [])) w, right_empty (repeated bytes f (symbol_names specs (n ∷ []))) (repeated bytes (f ++ symbol_names specs (n ∷ [])) (symbol_names specs ns)), fewer bytes e f (symbol_names specs (n ∷ [])) w, left_empty (repeated bytes f (symbol_names specs (n ∷ []))) (repeated bytes (f ++ symbol_names specs (n ∷ [])) (symbol_names specs ns)), within_more bytes e f (symbol_names specs (n ∷ [])) w)

  few_append : (specs : List Specification) (a b : List ℕ) → list_all few_arguments (symbols_of specs (a ++ b)) ≡ (list_all few_arguments (symbols_of specs a) && list_all few_arguments (symbols_of specs b))
  few_append specs a b = ap (list_all few_arguments) (symbols-append specs a b) ∙ list_all-append few_arguments (symbols_of specs a) (symbols_of specs b)

  few_fresh : (specs : List Specification) (a b : List ℕ) → list_all few_arguments (symbols_of specs b) ≡ true → list_all few_arguments (symbols_of specs (fresh a b)) ≡ true
  few_fresh specs a [] h = refl
  few_fresh specs a (n ∷ ns) h = grind (arith, nat_tests, common_steps, few_fresh specs a ns, few_fresh specs (a ++ n ∷ []) ns, few_arguments, few_append)

  pass_fresh : (p : ℕ → Bool) (a b : List ℕ) → list_all p b ≡ true → list_all p (fresh a b) ≡ true
  pass_fresh p a [] h = refl
  pass_fresh p a (n ∷ ns) h = grind (arith, nat_tests, pass_fresh p a ns, pass_fresh p (a ++ n ∷ []) ns)

  all_fresh : (P : Specification → Type 0) (specs : List Specification) (a b : List ℕ) → All P (specifications_at specs b) → All P (specifications_at specs (fresh a b))
  all_fresh P specs a [] h = h
  all_fresh P specs a (n ∷ ns) h =
      let first = all_front P (option_to_list (slice_get specs n)) (specifications_at specs ns) h in
      let rest = all_back P (option_to_list (slice_get specs n)) (specifications_at specs ns) h in
      let both = All-append P (option_to_list (slice_get specs n)) (specifications_at specs (fresh (a ++ n ∷ []) ns)) first (all_fresh P specs (a ++ n ∷ []) ns rest) in
      grind (arith, nat_tests, all_fresh P specs a ns rest, both)

  among_numbers : (s : Named) (specs : List Specification) (a : List ℕ) (n : ℕ) → list_any (nat_eq n) a ≡ true → any_at s specs (n ∷ []) ≡ true → any_at s specs a ≡ true
  among_numbers s specs [] n h k = absurd cc
  among_numbers s specs (m ∷ a) n h k = grind (arith, nat_tests, common_steps, among_numbers s specs a n, any_at-append, or_left, eqb-true)

  -- every number of a list is among those to which it was added
  brought_there : (s : Named) (specs : List Specification) (a b : List ℕ) → any_at s specs b ≡ true → any_at s specs (a ++ fresh a b) ≡ true
  brought_there s specs a [] h = absurd cc
  brought_there s specs a (n ∷ ns) h = grind (arith, nat_tests, common_steps, brought_there s specs a ns, brought_there s specs (a ++ n ∷ []) ns, any_at-append, or_left, among_numbers, append_assoc)

  pub holds_brought : (specs : List Specification) (a b : List ℕ) → Holds (symbols_at specs b) (symbols_at specs (with_numbers a b))
  holds_brought specs a b = record { each = λ s h. brought_there s specs a b h }

  holds_before : (specs : List Specification) (a b : List ℕ) → Holds (symbols_at specs a) (symbols_at specs (a ++ b))
  holds_before specs a b = record { each = λ s h. any_at-append s specs a b ∙ or_left (any_at s specs a) (any_at s specs b) h }

  -- ---- an entry adds what it brings

  not_passing : (before after : ℕ) → before ≤ most → passes before after ≡ false → after ≤ most
  not_passing before after l h = grind (arith, nat_tests)

  pub sound_with : (specs : List Specification) (i : Include) (brings : List ℕ) → i.added ≡ fresh i.before brings → Sound specs i.before → Sound specs brings
      → is_clashing bytes specs i ≡ false → is_passing specs i ≡ false → Sound specs (with_numbers i.before brings)
  sound_with specs i brings e a b clash pass =
      let new = fresh i.before brings in
      let ms = i.before ++ new in
      let p = or_false (passes (length (symbols_of specs i.before)) (length (symbols_of specs (i.before ++ i.added)))) (passes (length (rules_of specs i.before)) (length (rules_of specs (i.before ++ i.added)))) pass in
      let clash' : list_any (is_among bytes (symbol_names specs i.before)) (symbol_names specs new) ≡ false = grind (arith, e) in
      let none : Within bytes [] [] = record { each = λ n h. h } in
      let alone : repeated bytes [] (symbol_names specs new) ≡ [] = distinct_fresh specs i.before brings [] [] none b.distinct in
      let beside : repeated bytes (symbol_names specs i.before) (symbol_names specs new) ≡ [] = grind (arith, append-nil, beside_others bytes (symbol_names specs i.before) [] (symbol_names specs new) clash' alone) in
      record {
        within = list_all-append (λ n. nat_lt n (length specs)) i.before new ∙ (λ j. a.within j && pass_fresh (λ n. nat_lt n (length specs)) i.before brings b.within j);
        distinct = ap (repeated bytes []) (names-append specs i.before new) ∙ repeated-append bytes [] (symbol_names specs i.before) (symbol_names specs new) ∙ (λ j. a.distinct j ++ beside j);
        few_symbols = subst (λ x. length (symbols_of specs (i.before ++ x)) ≤ most) e (not_passing (length (symbols_of specs i.before)) (length (symbols_of specs (i.before ++ i.added))) a.few_symbols p.0);
        few_rules = subst (λ x. length (rules_of specs (i.before ++ x)) ≤ most) e (not_passing (length (rules_of specs i.before)) (length (rules_of specs (i.before ++ i.added))) a.few_rules p.1);
        few = few_append specs i.before new ∙ (λ j. a.few j && few_fresh specs i.before brings b.few j);
        reads =
            let P = Reads (symbols_at specs ms) in
            let first = All-weaker (Reads (symbols_at specs i.before)) P (λ t r. keeps (symbols_at specs i.before) (symbols_at specs ms) t (holds_before specs i.before new) r) (specifications_at specs i.before) a.reads in
            let more = All-weaker (Reads (symbols_at specs brings)) P (λ t r. keeps (symbols_at specs brings) (symbols_at specs ms) t (holds_brought specs i.before brings) r) (specifications_at specs brings) b.reads in
            subst (All P) (sym (at-append specs i.before new)) (All-append P _ _ first (all_fresh P specs i.before brings more));
      }

  -- ---- all entries

  sound_brought : (specs : List Specification) (hs : List Header) (n : Name) → All (λ h. Sound specs h.material) hs → Sound specs (brought bytes hs n)
  sound_brought specs [] n a = sound_none specs
  sound_brought specs (h ∷ hs) n a = grind (arith, All-head (λ g. Sound specs g.material) h hs a, sound_brought specs hs n (All-tail (λ g. Sound specs g.material) h hs a))

  pub sound_entries : (specs : List Specification) (hs : List Header) → All (λ h. Sound specs h.material) hs → (entries : List Name) (so_far : List ℕ) → Sound specs so_far
      → map (λ i. i.entry) (filter (is_clashing bytes specs) (includes_from bytes hs so_far entries)) ≡ [] → map (λ i. i.entry) (filter (is_passing specs) (includes_from bytes hs so_far entries)) ≡ []
      → Sound specs (fold (λ numbers entry. with_numbers numbers (brought bytes hs entry)) so_far entries)
  sound_entries specs hs all [] so_far s c p = s
  sound_entries specs hs all (n ∷ ns) so_far s c p =
      let i : Include = record { entry = n; before = so_far; added = fresh so_far (brought bytes hs n) } in
      let rest = includes_from bytes hs (with_numbers so_far (brought bytes hs n)) ns in
      let x = none_first (is_clashing bytes specs) i rest c in
      let y = none_first (is_passing specs) i rest p in
      sound_entries specs hs all ns (with_numbers so_far (brought bytes hs n)) (sound_with specs i (brought bytes hs n) refl s (sound_brought specs hs n all) x.0 y.0) x.1 y.1
