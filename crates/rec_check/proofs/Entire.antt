-- A specification without offence, after others whose materials are sound: its own material is sound.
use Rattle.rec_offences.proofs.Levels.{symbols_named}
use Rattle.rec_check.proofs.Common.{[], nat_tests, ◌≡◌, ℕ, ◌+◌, ◌-◌, ◌≤◌, Bool, true, false, eqb, not, ◌&&◌, ◌⊎◌, List, ◌∷◌, ◌++◌, length, map, slice_get, get_or, Option, Some, None, is_some, All, refl, sym, ap, subst, ◌∙◌, arith, length-append, nat_lt, if◌then◌else◌, option_and_then, option_map, option_map_or, option_to_list, list_any, list_all, flat_map, filter, bytes_eq, append_assoc, append-nil, map-append, All-nil, All-cons, All-head, All-tail, All-weaker, All-append, list_all-append, flat_map-append, Named, named, Name, Node, Specification, IsWhole, IsWholeRule, HasWholeTerms, text_of, is_among, Declared, symbols_by, variables_by, symbols_of, rules_of, specifications_at, headers_of, variable_entry, names_of, look_up, is_variable, heads, visits, includes_from, is_clashing, is_passing, repeated, first_past, most, terms_of, nodes_but_left, all_visits, unknown_name, wrong_count, unknown_names, wrong_counts, not_ground, variables_in, named_in, variables_of}
use Rattle.rec_reader.specs.declared.syntax_tree.Rule.{Rule}
use Rattle.rec_offences.specs.Scope.{root}
use Rattle.rec_check.proofs.Faultless.{left_empty, right_empty, Faultless, headers, material, known, entries}
use Rattle.rec_check.proofs.Heads.{place_if_any}
use Rattle.rec_check.proofs.Sound.{repeated-append, few_arguments, Holds, Sound, sound_none, sound_entries, all_front, all_back, holds_first}
use Rattle.rec_check.proofs.Readable.{TermReads, RuleReads, Reads, reads_more, All-at, last_node}
use Rattle.rec_check.proofs.Judged.{option_empty, all_empty, all_flat, all_filtered, visited, HeadSymbol, HeadVariable, classify, entries_of, within_most, few_declared, all_pair, all_mapped, term_read, ground_read, heads_among, not_there}

-- what a list of specifications has together
pub record Together (bytes : List ℕ) (ts : List Specification) : Type 0 where
  pub distinct : repeated bytes [] (map (λ d. d.name) (flat_map symbols_by ts)) ≡ []
  pub few_symbols : length (flat_map symbols_by ts) ≤ most
  pub few_rules : length (flat_map (λ t. t.rules) ts) ≤ most
  pub few : list_all few_arguments (flat_map symbols_by ts) ≡ true
  pub reads : All (Reads bytes (named_in bytes (flat_map symbols_by ts))) ts

abbrev pub IsSound : List ℕ → List Specification → List ℕ → Type 0
IsSound bytes = Sound bytes (Reads bytes) (reads_more bytes)

pub together_of : (bytes : List ℕ) (specs : List Specification) (ms : List ℕ) → IsSound bytes specs ms → Together bytes (specifications_at specs ms)
together_of bytes specs ms s = record { distinct = s.distinct; few_symbols = s.few_symbols; few_rules = s.few_rules; few = s.few; reads = s.reads }

pub sound_of : (bytes : List ℕ) (specs : List Specification) (ms : List ℕ) (ts : List Specification) → list_all (λ n. nat_lt n (length specs)) ms ≡ true → specifications_at specs ms ≡ ts → Together bytes ts → IsSound bytes specs ms
sound_of bytes specs ms ts w e t = grind (arith, nat_tests)

implied : (a b : Bool) → (a && not b) ≡ false → a ≡ true → b ≡ true
implied a b h k = grind (arith, nat_tests)

module _ (bytes : List ℕ) (earlier : List Specification) (s : Specification) (f : Faultless bytes earlier s) (w : HasWholeTerms s) where
  abbrev ms : List ℕ
  ms = material bytes earlier s

  abbrev ts : List Specification
  ts = specifications_at earlier (material bytes earlier s)

  abbrev before : List Declared
  before = symbols_of earlier (material bytes earlier s)

  abbrev pub all_symbols : List Declared
  all_symbols = before ++ symbols_by s

  -- the entries are those of all symbols and of the variables
  regroup : entries bytes earlier s ≡ entries_of bytes all_symbols s
  regroup = grind (arith, nat_tests, append_assoc, map-append)

  clashing_none : map (λ i. i.entry) (filter (is_clashing bytes earlier) (includes_from bytes (headers bytes earlier s) [] s.includes)) ≡ []
  clashing_none = grind (arith, nat_tests, headers, known, right_empty)

  variables_apart : repeated bytes (map (λ d. d.name) all_symbols) (names_of (map variable_entry (variables_by s))) ≡ []
  variables_apart = grind (arith, nat_tests, map-append, symbols_named, right_empty, known, repeated-append, headers, left_empty)

  -- ---- the limits

  passing_none : map (λ i. i.entry) (filter (is_passing earlier) (includes_from bytes (headers bytes earlier s) [] s.includes)) ≡ []
  passing_none = right_empty _ _ f.past_none

  no_symbol_past : first_past (length before) (symbols_by s) ≡ None
  no_symbol_past =
      let none : map (λ d. d.name) (option_to_list (first_past (length before) (symbols_by s))) ≡ [] = right_empty _ _ (left_empty _ _ (left_empty _ _ (left_empty _ _ f.past_none))) in
      grind (arith, nat_tests, none)

  arguments_none : flat_map (λ d. option_to_list (slice_get d.arguments 16)) s.declarations ≡ []
  arguments_none = right_empty _ _ (left_empty _ _ (left_empty _ _ (left_empty _ _ (left_empty _ _ f.past_none))))

  -- a rule of a whole left side has a root
  rooted : (r : Rule) → IsWhole r.left → root r.left ≡ None → ⊥
  rooted r h e = grind (arith, nat_tests, last_node)

  no_rule_past : first_past (length (rules_of earlier (material bytes earlier s))) s.rules ≡ None
  no_rule_past = by (first_past (length (rules_of earlier (material bytes earlier s))) s.rules) refl (right_empty _ _ (left_empty _ _ (left_empty _ _ f.past_none)))
    where
      by : (o : Option Rule) → first_past (length (rules_of earlier (material bytes earlier s))) s.rules ≡ o → option_to_list (option_and_then (λ r. root r.left) o) ≡ [] → o ≡ None
      by None e h = refl
      by (Some r) e h =
          let at : slice_get s.rules (most - length (rules_of earlier (material bytes earlier s))) ≡ Some r = grind (arith, nat_tests) in
          absurd (rooted r (All-at bytes IsWholeRule s.rules _ r w.rules at).left (option_empty (root r.left) h))

  -- ---- the heads

  abbrev IsHead : Node → Type 0
  IsHead n = HeadSymbol bytes all_symbols s n ⊎ HeadVariable bytes all_symbols s n

  abbrev all_terms : List (List Node)
  all_terms = flat_map terms_of s.rules ++ s.terms

  abbrev IsKnown : Node → Type 0
  IsKnown n = (if is_some (look_up bytes (entries_of bytes all_symbols s) n.head) then (let none : List Name = [] in none) else n.head ∷ []) ≡ []

  abbrev IsCounted : Node → Type 0
  IsCounted n = option_map_or (λ e. if eqb n.count (length e.declared.arguments) then (let none : List Name = [] in none) else n.head ∷ []) (look_up bytes (entries_of bytes all_symbols s) n.head) [] ≡ []

  heads_at : All (λ t. All IsHead t) all_terms
  heads_at =
      let es = entries_of bytes all_symbols s in
      let known_at = all_empty (unknown_name bytes es) (all_visits s) (ap (λ es. unknown_names bytes es s) (sym regroup) ∙ f.unknown_none) in
      let counted_at = all_empty (wrong_count bytes es) (all_visits s) (ap (λ es. wrong_counts bytes es s) (sym regroup) ∙ f.counts_none) in
      let both_at = all_pair (λ v. IsKnown v.node) (λ v. IsCounted v.node) (all_visits s) known_at counted_at in
      All-weaker (λ t. All (λ v. IsKnown v.node × IsCounted v.node) (visits [] t)) (λ t. All IsHead t)
      (λ t h. All-weaker (λ n. IsKnown n × IsCounted n) IsHead (λ n p. classify bytes all_symbols s variables_apart n p.0 p.1) t (visited (λ n. IsKnown n × IsCounted n) [] t h))
      all_terms (all_flat (λ v. IsKnown v.node × IsCounted v.node) (visits []) all_terms both_at)

  rule_heads : All (λ r. All (λ t. All IsHead t) (terms_of r)) s.rules
  rule_heads = all_flat (λ t. All IsHead t) terms_of s.rules (all_front (λ t. All IsHead t) (flat_map terms_of s.rules) s.terms heads_at)

  term_heads : All (λ t. All IsHead t) s.terms
  term_heads = all_back (λ t. All IsHead t) (flat_map terms_of s.rules) s.terms heads_at

  -- ---- variables

  abbrev is_var : Name → Bool
  is_var n = is_variable bytes (entries_of bytes all_symbols s) n

  abbrev among_left : Rule → Name → Bool
  among_left r n = is_among bytes (heads r.left) n

  rule_free : All (λ r. All (λ n. (is_var n && not (among_left r n)) ≡ false) (heads (nodes_but_left r))) s.rules
  rule_free = grind (arith, nat_tests, all_filtered, all_empty, regroup)

  rule_bare : All (λ r. All (λ n. is_var n ≡ false) (option_to_list (root r.left))) s.rules
  rule_bare = grind (arith, nat_tests, all_filtered, all_empty, regroup)

  term_ground : All (λ t. All (λ n. is_var n.head ≡ false) t) s.terms
  term_ground =
      All-weaker (λ t. All (λ n. is_var n ≡ false) (heads t)) (λ t. All (λ n. is_var n.head ≡ false) t) (λ t h. all_mapped (λ n. is_var n ≡ false) (λ n. n.head) t h) s.terms
      (all_flat (λ n. is_var n ≡ false) heads s.terms (all_filtered is_var (flat_map heads s.terms) (ap (λ es. not_ground bytes es s) (sym regroup) ∙ f.not_ground_none)))

  -- ---- its rules are read

  abbrev own_symbols : List Named
  own_symbols = named_in bytes all_symbols

  abbrev IsBound : Rule → Node → Type 0
  IsBound r n = is_var n.head ≡ true → among_left r n.head ≡ true

  module _ (few : list_all few_arguments all_symbols ≡ true) where
    rule_read : (r : Rule) → IsWholeRule r → All (λ t. All IsHead t) (terms_of r) → All (λ n. (is_var n && not (among_left r n)) ≡ false) (heads (nodes_but_left r)) → All (λ n. is_var n ≡ false) (option_to_list (root r.left))
        → RuleReads bytes own_symbols (variables_of bytes s) r
    rule_read r whole heads_of free bare =
        let H : List Node → Type 0 = λ t. All IsHead t in
        let sides = flat_map (λ c. c.first ∷ c.second ∷ []) r.conditions in
        let left_heads = All-head H r.left (r.right ∷ sides) heads_of in
        let right_heads = All-head H r.right sides (All-tail H r.left (r.right ∷ sides) heads_of) in
        let side_heads : All (λ c. All H (c.first ∷ c.second ∷ [])) r.conditions = all_flat H (λ c. c.first ∷ c.second ∷ []) r.conditions (All-tail H r.right sides (All-tail H r.left (r.right ∷ sides) heads_of)) in
        let bound : All (IsBound r) (nodes_but_left r) =
        All-weaker (λ n. (is_var n.head && not (among_left r n.head)) ≡ false) (IsBound r) (λ n h k. implied (is_var n.head) (among_left r n.head) h k) (nodes_but_left r)
        (all_mapped (λ n. (is_var n && not (among_left r n)) ≡ false) (λ n. n.head) (nodes_but_left r) free) in
        let others = flat_map (λ c. c.first ++ c.second) r.conditions in
        let right_bound = all_front (IsBound r) r.right others bound in
        let side_bound : All (λ c. All (IsBound r) (c.first ++ c.second)) r.conditions = all_flat (IsBound r) (λ c. c.first ++ c.second) r.conditions (all_back (IsBound r) r.right others bound) in
        let left_bound : All (IsBound r) r.left = All-weaker (λ n. among_left r n.head ≡ true) (IsBound r) (λ n h k. h) r.left (heads_among bytes r.left) in
        record {
          left = term_read bytes all_symbols s few r.left r.left whole.left left_heads left_bound;
          right = term_read bytes all_symbols s few r.left r.right whole.right right_heads right_bound;
          conditions = λ k d l.
              let c = get_or r.conditions k d in
              let hs = side_heads k d l in
              let bs = side_bound k d l in
              let ws = whole.conditions k d l in
              record {
                first = term_read bytes all_symbols s few r.left c.first ws.first (All-head H c.first (c.second ∷ []) hs) (all_front (IsBound r) c.first c.second bs);
                second = term_read bytes all_symbols s few r.left c.second ws.second (All-head H c.second [] (All-tail H c.first (c.second ∷ []) hs)) (all_back (IsBound r) c.first c.second bs);
              };
          head = λ n e.
              let no : is_var n.head ≡ false = All-head (λ m. is_var m ≡ false) n.head [] (subst (λ o. All (λ m. is_var m ≡ false) (option_to_list o)) (ap (option_map (λ n. n.head)) e) bare) in
              let absent = by_head r n (All-at bytes IsHead r.left (length r.left - 1) n left_heads e) no in
              grind (arith, nat_tests, place_if_any (bytes_eq (text_of bytes n.head)) (variables_in bytes (variables_of bytes s) r.left), absent);
        }
      where
        by_head : (r : Rule) (n : Node) → IsHead n → is_var n.head ≡ false → list_any (bytes_eq (text_of bytes n.head)) (variables_in bytes (variables_of bytes s) r.left) ≡ false
        by_head r n h e = grind (arith, h, not_there bytes all_symbols s few r.left n)

    pub own_reads : Reads bytes own_symbols s
    own_reads = λ k d l. rule_read (get_or s.rules k d) (w.rules k d l) (rule_heads k d l) (rule_free k d l) (rule_bare k d l)

    -- its terms are read without variables
    pub terms_read : All (TermReads bytes own_symbols []) s.terms
    terms_read = λ k d l. ground_read bytes all_symbols s few (get_or s.terms k d) (w.terms k d l) (term_heads k d l) (term_ground k d l)

  -- ---- the whole material

  abbrev pub more_symbols : flat_map symbols_by (ts ++ s ∷ []) ≡ all_symbols
  more_symbols = flat_map-append symbols_by ts (s ∷ []) ∙ ap (λ ds. before ++ ds) (append-nil (symbols_by s))

  abbrev more_rules : flat_map (λ t. t.rules) (ts ++ s ∷ []) ≡ rules_of earlier (material bytes earlier s) ++ s.rules
  more_rules = flat_map-append (λ t. t.rules) ts (s ∷ []) ∙ ap (λ rs. rules_of earlier (material bytes earlier s) ++ rs) (append-nil s.rules)

  own_few : Together bytes ts → list_all few_arguments all_symbols ≡ true
  own_few t = list_all-append few_arguments before (symbols_by s) ∙ (λ i. t.few i && few_declared s.declarations arguments_none i)

  pub together_more : Together bytes ts → Together bytes (ts ++ s ∷ [])
  together_more t =
      let P : List Named → Type 0 = λ ns. All (Reads bytes ns) (ts ++ s ∷ []) in
      let lengths : length (flat_map symbols_by (ts ++ s ∷ [])) ≡ length before + length (symbols_by s) = ap length more_symbols ∙ length-append before (symbols_by s) in
      let rule_lengths : length (flat_map (λ t. t.rules) (ts ++ s ∷ [])) ≡ length (rules_of earlier (material bytes earlier s)) + length s.rules = ap length more_rules ∙ length-append (rules_of earlier (material bytes earlier s)) s.rules in
      let few_s = within_most (length before) (symbols_by s) t.few_symbols no_symbol_past in
      let few_r = within_most (length (rules_of earlier (material bytes earlier s))) s.rules t.few_rules no_rule_past in
      let holds : Holds (named_in bytes before) own_symbols =
      subst (Holds (named_in bytes before)) (sym (map-append (λ d. named (text_of bytes d.name) (length d.arguments)) before (symbols_by s))) (holds_first (named_in bytes before) (named_in bytes (symbols_by s))) in
      record {
        distinct =
            grind (arith, more_symbols, map-append (λ (d : Declared). d.name) before (symbols_by s), repeated-append bytes [] (map (λ d. d.name) before) (map (λ d. d.name) (symbols_by s)), t.distinct, nat_tests, symbols_named, left_empty, known, repeated-append, map-append, headers, right_empty);
        few_symbols = omega arith;
        few_rules = omega arith;
        few = ap (list_all few_arguments) more_symbols ∙ own_few t;
        reads =
            subst P (ap (named_in bytes) (sym more_symbols))
            (All-append (Reads bytes own_symbols) ts (s ∷ [])
            (All-weaker (Reads bytes (named_in bytes before)) (Reads bytes own_symbols) (λ u r. reads_more bytes (named_in bytes before) own_symbols u holds r) ts t.reads)
            (All-cons (Reads bytes own_symbols) s [] (own_reads (own_few t)) (All-nil (Reads bytes own_symbols))));
      }

  -- the included material, where earlier materials are sound
  pub included_sound : All (λ h. IsSound bytes earlier h.material) (headers_of bytes earlier) → IsSound bytes earlier (material bytes earlier s)
  included_sound all =
      sound_entries bytes (Reads bytes) (reads_more bytes) earlier (headers_of bytes earlier) all s.includes [] (sound_none bytes (Reads bytes) (reads_more bytes) earlier) clashing_none passing_none

  pub terms_of_last : Together bytes ts → All (TermReads bytes own_symbols []) s.terms
  terms_of_last t = terms_read (own_few t)
