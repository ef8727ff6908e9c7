-- A specification without offence has at most 65,535 terms.
use Rattle.std.proofs.Common.{◌≡◌, ℕ, ◌-◌, ◌<◌, ◌≤◌, zero, suc, List, [], ◌∷◌, ◌++◌, length, map, slice_get, get_or, Option, Some, None, refl, sym, ap, subst, ◌∙◌, arith}
use Rattle.std.specs.Prelude.{option_and_then, option_map}
use Rattle.std.proofs.lemmas.Option.{slice_get-get_or}
use Rattle.std.specs.Option.{option_to_list}
use Rattle.std.specs.List.{flat_map, filter}
use Rattle.term_model.specs.Tree.{Tree}
use Rattle.rec_reader.specs.declared.syntax_tree.Node.{Node}
use Rattle.rec_reader.specs.declared.syntax_tree.Specification.{Specification}
use Rattle.rec_reader.specs.declared.token.Name.{Name}
use Rattle.rec_reader.specs.Parsed.{Parsed}
use Rattle.rec_includes.specs.Material.{symbols_of, rules_of, headers_of, included, symbols_by, material_of, specifications_at}
use Rattle.rec_offences.specs.Scope.{root}
use Rattle.rec_offences.specs.Offences.{first_past, most, includes_from, names_in, is_long, is_passing}
use Rattle.rec_offences.specs.Faults.{offences_of, offences_from, offences_after}
use Rattle.rec_check.specs.Symbols.{named_in, with_symbols}
use Rattle.rec_check.specs.Term.{Scope, all_of, tree_in}
use Rattle.rec_check.specs.Rule.{◌>>=◌}
use Rattle.rec_check.specs.Spelled.{Specified, nothing, rules_of as all_rules_of, terms_in, with_few_rules, spelled_by}
use Rattle.rec_check.specs.Run.{last_of, spelled_with}
use Rattle.rec_check.proofs.Faultless.{left_empty, right_empty, no_offences, faultless}
use Rattle.rec_check.proofs.Judged.{option_empty, within_most}
use Rattle.rec_check.proofs.Plans.{came, cc_some, within_limit}
use Rattle.rec_answers.specs.Rewritten.{Spells}

-- ---- the last specification has no offence
after_none : (bytes : List ℕ) (earlier : List Specification) (s : Specification) (ss : List Specification) (last : Specification)
    → offences_from bytes earlier (s ∷ ss) ≡ [] → slice_get (s ∷ ss) (length ss) ≡ Some last → (before : List Specification) × (offences_after bytes before last ≡ [])
after_none bytes earlier s [] last h at =
    let same : s ≡ last = cc in
    (earlier, subst (λ l. offences_after bytes earlier l ≡ []) same (left_empty (offences_after bytes earlier s) [] h))
after_none bytes earlier s (t ∷ ss) last h at =
    after_none bytes (earlier ++ s ∷ []) t ss last (right_empty (offences_after bytes earlier s) (offences_from bytes (earlier ++ s ∷ []) (t ∷ ss)) h) at

last_none : (bytes : List ℕ) (ss : List Specification) (last : Specification) → offences_from bytes [] ss ≡ [] → last_of ss ≡ Some last → (before : List Specification) × (offences_after bytes before last ≡ [])
last_none bytes [] last h at = absurd (let bad : None ≡ Some last = at in cc)
last_none bytes (s ∷ ss) last h at =
    let e : length (s ∷ ss) - 1 ≡ length ss = omega arith in
    after_none bytes [] s ss last h (sym (ap (slice_get (s ∷ ss)) e) ∙ at)

-- ---- no term stands past the limit
none_past : (bytes : List ℕ) (before : List Specification) (last : Specification) → offences_after bytes before last ≡ [] → option_and_then root (first_past 0 last.terms) ≡ None
none_past bytes before last h =
    let f = faultless bytes before last h in
    let material = included bytes (headers_of bytes before) last.includes in
    let includes = includes_from bytes (headers_of bytes before) [] last.includes in
    let p1 : List Name = filter (is_long bytes) (names_in last) in
    let p2 : List Name = flat_map (λ d. option_to_list (slice_get d.arguments 16)) last.declarations in
    let p3 : List Name = map (λ d. d.name) (option_to_list (first_past (length (symbols_of before material)) (symbols_by last))) in
    let p4 : List Name = option_to_list (option_and_then (λ r. root r.left) (first_past (length (rules_of before material)) last.rules)) in
    let p5 : List Name = option_to_list (option_and_then root (first_past 0 last.terms)) in
    let p6 : List Name = map (λ i. i.entry) (filter (is_passing before) includes) in
    let front : p1 ++ p2 ++ p3 ++ p4 ++ p5 ≡ [] = left_empty (p1 ++ p2 ++ p3 ++ p4 ++ p5) p6 f.past_none in
    option_empty (option_and_then root (first_past 0 last.terms)) (right_empty (p1 ++ p2 ++ p3 ++ p4) p5 front)

-- ---- a term that spells a tree has a root
without_root : (nodes : List Node) → root nodes ≡ None → nodes ≡ []
without_root [] h = refl
without_root (n ∷ ns) h =
    let l : length (n ∷ ns) - 1 < length (n ∷ ns) = omega arith in
    absurd (let bad : None ≡ Some (get_or (n ∷ ns) (length (n ∷ ns) - 1) n).head = sym h ∙ ap (option_map (λ (m : Node). m.head)) (slice_get-get_or (n ∷ ns) (length (n ∷ ns) - 1) n l) in cc)

module _ {X Y : Type 0} (f : X → Option Y) where
  record First (x : X) (xs : List X) (ys : List Y) : Type 0 where
    y : Y
    more : List Y
    is : ys ≡ y ∷ more
    first : f x ≡ Some y
    rest : all_of f xs ≡ Some more

  first_of : (x : X) (xs : List X) (ys : List Y) → all_of f (x ∷ xs) ≡ Some ys → First x xs ys
  first_of x xs ys h = by (f x) (all_of f xs) refl refl h
    where
      by : (o : Option Y) (p : Option (List Y)) → f x ≡ o → all_of f xs ≡ p → option_and_then (λ y. option_map (λ zs. y ∷ zs) p) o ≡ Some ys → First x xs ys
      by None p e q g = absurd cc
      by (Some y) None e q g = absurd cc
      by (Some y) (Some more) e q g = record { y = y; more = more; is = sym (cc_some (y ∷ more) ys g); first = e; rest = q }

  same_length : (xs : List X) (ys : List Y) → all_of f xs ≡ Some ys → length ys ≡ length xs
  same_length [] ys h = let e : ys ≡ [] = cc in ap length e
  same_length (x ∷ xs) ys h =
      let b = first_of x xs ys h in
      let rest = same_length xs b.more b.rest in
      let here = ap length b.is in
      omega (arith, here, rest)

  each_is_some : (xs : List X) (ys : List Y) (k : ℕ) (x : X) → all_of f xs ≡ Some ys → slice_get xs k ≡ Some x → f x ≡ None → ⊥
  each_is_some [] ys k x h at none = let bad : None ≡ Some x = at in cc
  each_is_some (z ∷ zs) ys zero x h at none =
      let b = first_of z zs ys h in
      let same : z ≡ x = cc_some z x at in
      let bad : None ≡ Some b.y = sym none ∙ sym (ap f same) ∙ b.first in cc
  each_is_some (z ∷ zs) ys (suc k) x h at none =
      let b = first_of z zs ys h in each_is_some zs b.more k x b.rest at none

-- no term is without items
no_tree : (scope : Scope) → tree_in scope [] ≡ None
no_tree scope = refl

-- so there are few terms
few_of : (scope : Scope) (terms : List (List Node)) (trees : List Tree) → all_of (λ t. tree_in scope t) terms ≡ Some trees → option_and_then root (first_past 0 terms) ≡ None → length trees ≤ 65535
few_of scope terms trees h past = by (first_past 0 terms) refl past
  where
    by : (o : Option (List Node)) → first_past 0 terms ≡ o → option_and_then root o ≡ None → length trees ≤ 65535
    by None e g =
        let few = within_most 0 terms (omega arith) e in
        let same = same_length (λ t. tree_in scope t) terms trees h in
        omega (arith, few, same)
    by (Some t) e g =
        let empty : t ≡ [] = without_root t g in
        absurd (each_is_some (λ t. tree_in scope t) terms trees most t h e (ap (tree_in scope) empty ∙ no_tree scope))

-- ---- of a whole input
spelled_few : (text : List ℕ) (specifications : List Specification) (material : List ℕ) (terms : List (List Node)) (made : Specified)
    → spelled_by text specifications material terms ≡ Some made → option_and_then root (first_past 0 terms) ≡ None → length made.terms ≤ 65535
spelled_few text specifications material terms made h past =
    let at = specifications_at specifications material in
    let a = came (with_symbols [] (named_in text (symbols_of specifications material)))
    (λ symbols. all_rules_of text symbols at >>= λ rules. terms_in text symbols terms >>= λ trees. with_few_rules (record { symbols = symbols; rules = rules; terms = trees })) made h in
    let c = came (all_rules_of text a.x at) (λ rules. terms_in text a.x terms >>= λ trees. with_few_rules (record { symbols = a.x; rules = rules; terms = trees })) made a.gives in
    let d = came (terms_in text a.x terms) (λ trees. with_few_rules (record { symbols = a.x; rules = c.x; terms = trees })) made c.gives in
    let s : Specified = record { symbols = a.x; rules = c.x; terms = d.x } in
    let few = within_limit s made d.gives in
    let scope : Scope = record { text = text; symbols = a.x; variables = [] } in
    subst (λ (m : Specified). length m.terms ≤ 65535) few.1 (few_of scope terms d.x d.is past)

with_last : (syntax : Parsed) (o : Option Specification) (made : Specified) → last_of syntax.specifications ≡ o → offences_of syntax ≡ [] → spelled_with syntax o ≡ Some made → length made.terms ≤ 65535
with_last syntax None made at none h =
    subst (λ (m : Specified). length m.terms ≤ 65535) (cc_some nothing made h) (omega arith)
with_last syntax (Some last) made at none h =
    let before = last_none syntax.bytes syntax.specifications last none at in
    spelled_few syntax.bytes syntax.specifications (material_of syntax.bytes syntax.specifications (length syntax.specifications - 1)) last.terms made h
    (none_past syntax.bytes before.0 last before.1)

pub few_terms : (input : List ℕ) (spec : Specified) → Spells input spec → length spec.terms ≤ 65535
few_terms input spec s =
    with_last s.syntax (last_of s.syntax.specifications) spec refl (no_offences (offences_of s.syntax) s.faultless) s.spec_is
