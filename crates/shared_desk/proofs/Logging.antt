-- That the log of a pass is the lines of its entries, after each call; and the names that a
-- collection kept, listed.
use Rattle.std.proofs.Common.{◌≡◌, ◌∙◌, ℕ, ◌+◌, ◌<◌, ◌≤◌, Option, Some, None, List, [], ◌∷◌, ◌++◌, append_assoc, append-nil, refl, sym, ap, subst, ⊎_elim, arith}
use Rattle.std.specs.Prelude.{Contains, IfSome, nat_lt, unwrap_or, Vec}
use Rattle.std.specs.Global.{Global}
use Rattle.std.specs.Option.{option_map}
use Rattle.std.specs.List.{AllByRecursion}
use Rattle.std.proofs.lemmas.Bool.{cases_lt, ltb-true, ltb-false}
use Rattle.history_core.specs.declared.entry.Entry.{Entry}
use Rattle.history_core.specs.declared.entry.Entry.TheVariants as entry
use Rattle.history_core.specs.Entry.{IsAscending}
use Rattle.history_core.proofs.Members.{contains_here, contains_there, contains_none, contains_cases, each_at}
use Rattle.store_model.proofs.Basics.{choose}
use Rattle.node_rows.specs.declared.store.Last.{Last}
use Rattle.node_rows.specs.declared.store.Last.TheVariants.{Nothing, Make, Find, Collect}
use Rattle.node_rows.specs.Told.{told_by, last_from, last_in}
use Rattle.node_rows.specs.Crowding.{kept_in}
use Rattle.node_rows.specs.CrowdsKept.{kept_snoc}
use Rattle.node_rows.specs.Rows.{names}
use Rattle.term_model.specs.declared.Head.{Head}
use Rattle.term_model.specs.declared.Row.{Row}
use Rattle.log_text.specs.Lines.{line_of, lines_of, Adds}
use Rattle.shared_desk.specs.Pass.{NotesCreation, NotesCollect}
use Rattle.shared_desk.specs.Logged.{AreTold, below}

-- one row more, by its name
pub names_push : (rows : List Row) (row : Row) → names (rows ++ row ∷ []) ≡ names rows ++ row.0 ∷ []
names_push [] row = refl
names_push (r ∷ rows) row = ap (λ (ns : List ℕ). r.0 ∷ ns) (names_push rows row)

-- the last entry
pub last_snoc : (x : Last) (es : List Entry) (e : Entry) → last_from x (es ++ e ∷ []) ≡ told_by e
last_snoc x [] e = refl
last_snoc x (d ∷ es) e = last_snoc (told_by d) es e

-- the lines of one entry more
pub lines_snoc : (es : List Entry) (e : Entry) → lines_of (es ++ e ∷ []) ≡ lines_of es ++ line_of e
lines_snoc [] e = append-nil (line_of e)
lines_snoc (d ∷ es) e = ap (λ (ls : List ℕ). line_of d ++ ls) (lines_snoc es e) ∙ sym (append_assoc (line_of d) (lines_of es) (line_of e))

-- a log that told all entries tells one more
pub told_next : (old new : Option (List ℕ)) (es : List Entry) (e : Entry) → AreTold old es → Adds old new e → AreTold new (es ++ e ∷ [])
told_next old None es e told adds = tt
told_next None (Some lines) es e told adds = absurd (cc)
told_next (Some before) (Some lines) es e told adds =
    let is : lines ≡ before ++ line_of e = ap (λ (o : Option (List ℕ)). unwrap_or o []) adds in
    is ∙ (ap (λ (ls : List ℕ). ls ++ line_of e) told ∙ sym (lines_snoc es e))

-- the names below k, for the next k
in_below : (k n : ℕ) (ns : List ℕ) → n < k → below k (n ∷ ns) ≡ n ∷ below k ns
in_below k n ns l = choose (λ (xs : List ℕ). xs ≡ n ∷ below k ns) (nat_lt n k) (n ∷ below k ns) (below k ns) (λ _. refl) (λ e. let past = ltb-false n k e in absurd (omega (arith, l, past)))

out_below : (k n : ℕ) (ns : List ℕ) → k ≤ n → below k (n ∷ ns) ≡ below k ns
out_below k n ns l = choose (λ (xs : List ℕ). xs ≡ below k ns) (nat_lt n k) (n ∷ below k ns) (below k ns) (λ e. let less = ltb-true n k e in absurd (omega (arith, l, less))) (λ _. refl)

none_below : (k : ℕ) (ns : List ℕ) → AllByRecursion (λ m. k ≤ m) ns → below k ns ≡ []
none_below k [] a = refl
none_below k (n ∷ ns) a = out_below k n ns a.0 ∙ none_below k ns a.1

at_least : (k n : ℕ) (ns : List ℕ) → AllByRecursion (λ m. n < m) ns → k ≤ n + 1 → AllByRecursion (λ m. k ≤ m) ns
at_least k n [] a l = tt
at_least k n (m ∷ ms) a l = ((let less : n < m = a.0 in omega (arith, l, less)), at_least k n ms a.1 l)

pub nothing_below : (ns : List ℕ) → below 0 ns ≡ []
nothing_below [] = refl
nothing_below (n ∷ ns) = out_below 0 n ns (omega arith) ∙ nothing_below ns

pub one_below : (k : ℕ) (ns : List ℕ) → IsAscending ns → Contains ns k → below (k + 1) ns ≡ below k ns ++ k ∷ []
one_below k [] a c = absurd (contains_none k c)
one_below k (n ∷ ns) a c = ⊎_elim
    (λ (same : n ≡ k).
    in_below (k + 1) n ns (omega (arith, same))
    ∙ (ap (λ (xs : List ℕ). n ∷ xs) (none_below (k + 1) ns (at_least (k + 1) n ns a.0 (omega (arith, same))))
    ∙ (ap (λ (m : ℕ). m ∷ []) same
    ∙ sym (ap (λ (xs : List ℕ). xs ++ k ∷ []) (out_below k n ns (omega (arith, same)) ∙ none_below k ns (at_least k n ns a.0 (omega (arith, same))))))))
    (λ (later : Contains ns k).
    let less : n < k = each_at (λ m. n < m) ns k a.0 later in
    in_below (k + 1) n ns (omega (arith, less))
    ∙ (ap (λ (xs : List ℕ). n ∷ xs) (one_below k ns a.1 later) ∙ sym (ap (λ (xs : List ℕ). xs ++ k ∷ []) (in_below k n ns less))))
    (contains_cases n ns k c)

pub same_below : (k : ℕ) (ns : List ℕ) → (Contains ns k → ⊥) → below (k + 1) ns ≡ below k ns
same_below k [] f = refl
same_below k (n ∷ ns) f =
    let rest = same_below k ns (λ c. f (contains_there n ns k c)) in
    ⊎_elim
    (λ (less : n < k). in_below (k + 1) n ns (omega (arith, less)) ∙ (ap (λ (xs : List ℕ). n ∷ xs) rest ∙ sym (in_below k n ns less)))
    (λ (past : k ≤ n). ⊎_elim
    (λ (more : k < n). out_below (k + 1) n ns (omega (arith, more)) ∙ (rest ∙ sym (out_below k n ns past)))
    (λ (least : n ≤ k). let same : n ≡ k = omega (arith, past, least) in absurd (f (subst (Contains (n ∷ ns)) same (contains_here n ns))))
    (cases_lt k n))
    (cases_lt n k)

pub all_below : (k : ℕ) (ns : List ℕ) → ((r : ℕ) → Contains ns r → r < k) → below k ns ≡ ns
all_below k [] f = refl
all_below k (n ∷ ns) f = in_below k n ns (f n (contains_here n ns)) ∙ ap (λ (xs : List ℕ). n ∷ xs) (all_below k ns (λ r c. f r (contains_there n ns r c)))

-- the log after an entry that was noted by what the pass tells of its last one
pub told_entry : (old new : Option (List ℕ)) (es later : List Entry) (e : Entry) (x : Last) → AreTold old es → later ≡ es ++ e ∷ [] → x ≡ last_in later
    → (x ≡ told_by e → Adds old new e) → AreTold new later
told_entry old new es later e x told is last adds =
    subst (AreTold new) (sym is) (told_next old new es e told (adds (last ∙ (ap last_in is ∙ last_snoc Nothing es e))))

-- after a creation
pub told_creation : (old new : Option (List ℕ)) (es later : List Entry) (h : Head) (rows : List Row) (row : Row) (x : Last) → AreTold old es → NotesCreation es later h rows row → x ≡ last_in later
    → ((n : ℕ) → x ≡ Make n → Adds old new (entry.Make n h (names rows) row.0)) → ((n : ℕ) → x ≡ Find n → Adds old new (entry.Find n h (names rows) row.0)) → AreTold new later
told_creation old new es later h rows row x told notes last made found =
    ⊎_elim (λ is. told_entry old new es later (entry.Make notes.0 h (names rows) row.0) x told is last (made notes.0))
    (λ is. told_entry old new es later (entry.Find notes.0 h (names rows) row.0) x told is last (found notes.0)) notes.1

-- after a collection, where these rows were listed as kept
pub told_collection : (old new : Option (List ℕ)) (es later : List Entry) (most : ℕ) (listed : List Row) (x : Last) → AreTold old es → NotesCollect most es later → x ≡ last_in later
    → (IsAscending (kept_in later) → ((r : ℕ) → Contains (kept_in later) r → r < most) → names listed ≡ kept_in later)
    → ((n : ℕ) → x ≡ Collect n → Adds old new (entry.Collect n (names listed))) → AreTold new later
told_collection old new es later most listed x told notes last lists adds =
    let n = notes.0 in
    let kept = notes.1 in
    let is : later ≡ es ++ entry.Collect n kept ∷ [] = notes.2 in
    let here : kept_in later ≡ kept = ap kept_in is ∙ kept_snoc [] es (entry.Collect n kept) in
    let names_are : names listed ≡ kept = lists (subst IsAscending (sym here) notes.3) (λ r c. notes.4 r (subst (λ (ks : List ℕ). Contains ks r) here c)) ∙ here in
    told_entry old new es later (entry.Collect n (names listed)) x told (is ∙ ap (λ (ks : List ℕ). es ++ entry.Collect n ks ∷ []) (sym names_are)) last (adds n)

-- the bytes of a log that tells all entries
pub told_lines : (log : Option (List ℕ)) (bytes : List ℕ) (es : List Entry) → IfSome log (λ (lines : List ℕ). bytes ≡ lines) → AreTold log es → IfSome log (λ (lines : List ℕ). bytes ≡ lines_of es)
told_lines None bytes es is told = tt
told_lines (Some lines) bytes es is told = is ∙ told

-- the same where they are taken out
pub told_taken : (taken : Option (Vec ℕ Global)) (log : Option (List ℕ)) (es : List Entry) → option_map (λ (lines : Vec ℕ Global). lines.items) taken ≡ log → AreTold log es
    → IfSome taken (λ lines. lines.items ≡ lines_of es)
told_taken None log es same told = tt
told_taken (Some lines) log es same told = subst (λ (o : Option (List ℕ)). AreTold o es) (sym same) told
