-- What was read is the one reading of the bytes.
use Rattle.std.proofs.Common.{◌≡◌, ◌∙◌, ℕ, List, [], ◌∷◌, length, map, refl, ap, sym, subst, arith, append_assoc, inl, inr, Option, Some, Ok, Err, All}
use Rattle.std.specs.Option.{IsSome, is_some, unwrap_or}
use Rattle.std.proofs.lemmas.List.Elements.{All-nil, All-cons}
use Rattle.std.proofs.lemmas.List.{length-map}
use Rattle.term_syntax.proofs.Numbering.{input_within}
use Rattle.read_faults.specs.declared.fail.ReadFail.{ReadFail}
use Rattle.read_faults.specs.declared.fail.ReadFail.TheVariants.{Refused, Memory}
use Rattle.term_model.specs.Tree.{Tree}
use Rattle.term_model.specs.Postorder.{tree_of}
use Rattle.term_model.specs.declared.Item.{Item}
use Rattle.symbol_pool.specs.Pool.{Named}
use Rattle.term_syntax.specs.Token.{Token}
use Rattle.term_syntax.specs.State.{Part}
use Rattle.term_syntax.specs.declared.machine.Node.{Node}
use Rattle.read_faults.specs.Fault.{fault, IsDue}
use Rattle.term_syntax.specs.Tokens.{tokens_of}
use Rattle.term_syntax.specs.Written.{Written}
use Rattle.term_syntax.specs.TermGrammar.{IsInput}
use Rattle.term_syntax.specs.Refusal.{AreRefused}
use Rattle.term_syntax.specs.Reached.{IsSyntaxFault}
use Rattle.term_syntax.specs.Parts.{parts_of_input, taken_up, symbols_of_parts}
use Rattle.term_syntax.specs.TakenUp.{take_input, TookFront, tree_in}
use Rattle.term_syntax.proofs.TakingTerms.{taking_input, symbols_input}
use Rattle.term_syntax.specs.Nodes.{nodes_of_input}
use Rattle.term_syntax.specs.Steps.{start, IsRead}
use Rattle.term_syntax.specs.Items.{item_in, items_at, trees_at, IsThere, AreWithin}
use Rattle.tree_text.specs.Text.{HasNames}
use Rattle.tree_text.specs.Canonical.{IsWritable}
use Rattle.term_syntax.proofs.GoodTokens.{tokens_good}
use Rattle.term_syntax.proofs.Writable.{input_writable}
use Rattle.term_syntax.proofs.Ground.{all_are_named}
use Rattle.term_syntax.specs.Reading.{Spells, IsReading, IsRefusal, TookFrontOf}
use Rattle.term_syntax.proofs.Outcome.{Read, outcome}
use Rattle.term_syntax.proofs.Complete.{complete}
use Rattle.term_syntax.proofs.Spelling.{spells_input}

some_of_map : (f : Written → Tree) (ws : List Written) → map (λ w. Some (f w)) ws ≡ map Some (map f ws)
some_of_map f [] = refl
some_of_map f (w ∷ ws) = ap (λ xs. Some (f w) ∷ xs) (some_of_map f ws)

same_somes : (xs ys : List Tree) → map Some xs ≡ map Some ys → xs ≡ ys
same_somes [] [] e = refl
same_somes [] (y ∷ ys) e = absurd (let bad : [] ≡ Some y ∷ map Some ys = e in cc)
same_somes (x ∷ xs) [] e = absurd (let bad : Some x ∷ map Some xs ≡ [] = e in cc)
same_somes (x ∷ xs) (y ∷ ys) e =
    let h : Some x ∷ map Some xs ≡ Some y ∷ map Some ys = e in
    let one : x ≡ y = cc in
    let rest : map Some xs ≡ map Some ys = cc in
    let others = same_somes xs ys rest in
    λ i. one i ∷ others i

-- the trees that nodes spell, for the parts and the nodes of written terms
spelled_trees : (pool : List Named) (ws : List Written) → trees_at (map (item_in pool) (parts_of_input ws)) (nodes_of_input 0 ws) ≡ map Some (map (tree_in pool) ws)
spelled_trees pool ws = spells_input pool ws [] (map (item_in pool) (parts_of_input ws)) 0 refl refl ∙ some_of_map (tree_in pool) ws

module _ (tokens : List Token) (parts : List Part) (nodes : List (List Node)) (r : IsRead tokens (parts, nodes)) where
  parts_are : parts ≡ parts_of_input r.0
  parts_are = ap (λ (p : Read). p.0) r.2

  nodes_are : nodes ≡ nodes_of_input 0 r.0
  nodes_are = ap (λ (p : Read). p.1) r.2

  trees_are : (pool : List Named) (items : List Item) → items ≡ map (item_in pool) parts → trees_at items nodes ≡ map Some (map (tree_in pool) r.0)
  trees_are pool items e =
      ap (λ is. trees_at is nodes) e
      ∙ ap (λ ps. trees_at (map (item_in pool) ps) nodes) parts_are
      ∙ ap (trees_at (map (item_in pool) (parts_of_input r.0))) nodes_are
      ∙ spelled_trees pool r.0

  -- each term's nodes spell a tree
  all_some : (items : List Item) (ns : List (List Node)) (ts : List Tree) → trees_at items ns ≡ map Some ts → All (λ n. IsSome (tree_of (items_at items n))) ns
  all_some items [] ts e = All-nil (λ n. IsSome (tree_of (items_at items n)))
  all_some items (n ∷ ns) [] e = absurd (let bad : tree_of (items_at items n) ∷ trees_at items ns ≡ [] = e in cc)
  all_some items (n ∷ ns) (t ∷ ts) e =
      let h : tree_of (items_at items n) ∷ trees_at items ns ≡ Some t ∷ map Some ts = e in
      let one : tree_of (items_at items n) ≡ Some t = cc in
      let rest : trees_at items ns ≡ map Some ts = cc in
      All-cons (λ n. IsSome (tree_of (items_at items n))) n ns (ap is_some one) (all_some items ns ts rest)

  pub can_spell : (pool : List Named) (items : List Item) → items ≡ map (item_in pool) parts → All (λ n. IsSome (tree_of (items_at items n))) nodes
  can_spell pool items e = all_some items nodes (map (tree_in pool) r.0) (trees_are pool items e)

  -- each node has the number of a part
  pub within : (pool : List Named) (items : List Item) → items ≡ map (item_in pool) parts → All (AreWithin (length items)) nodes
  within pool items e =
      let n : length items ≡ length (parts_of_input r.0) = ap length e ∙ length-map parts (item_in pool) ∙ ap length parts_are in
      subst (All (AreWithin (length items))) (sym nodes_are) (input_within (length items) r.0 0 (omega (arith, n)))

  module _ (bytes : List ℕ) (cut : tokens_of bytes ≡ Ok tokens) where
    spelled : Spells bytes r.0
    spelled = record { tokens = tokens; cut = cut; spelled = r.1 }

    pub reading : (old new : List Named) (items : List Item) (trees : List Tree) → taken_up old parts ≡ Ok new → items ≡ map (item_in new) parts → map Some trees ≡ trees_at items nodes → IsReading bytes old new trees
    reading old new items trees t e f = record {
      terms = r.0;
      spelled = spelled;
      taken = sym (taking_input r.0 old) ∙ ap (taken_up old) (sym parts_are) ∙ t;
      trees_are = same_somes trees (map (tree_in new) r.0) (f ∙ trees_are new items e);
    }

    -- the symbols of the trees are held
    pub held : (new : List Named) (items : List Item) (trees : List Tree) → items ≡ map (item_in new) parts → map Some trees ≡ trees_at items nodes → All (IsThere new) parts → All (HasNames new) trees
    held new items trees e f there =
        subst (All (HasNames new)) (sym (same_somes trees (map (tree_in new) r.0) (f ∙ trees_are new items e)))
        (all_are_named new r.0 (subst (All (IsThere new)) parts_are there))

    -- the trees can be written so that they are read back
    pub can_be_written : (old new : List Named) (items : List Item) (trees : List Tree) → taken_up old parts ≡ Ok new → items ≡ map (item_in new) parts → map Some trees ≡ trees_at items nodes → All (IsThere new) parts → All (IsWritable new) trees
    can_be_written old new items trees t e f there =
        subst (All (IsWritable new)) (sym (same_somes trees (map (tree_in new) r.0) (f ∙ trees_are new items e)))
        (input_writable old new r.1 (tokens_good bytes tokens cut) (ap (taken_up old) (sym parts_are) ∙ t) (subst (All (IsThere new)) parts_are there))

    -- a front of the symbols of the parts is one of those that the bytes spell
    pub front_taken : (old new : List Named) → TookFront (symbols_of_parts parts) old new → TookFrontOf bytes old new
    front_taken old new t = inr (r.0, spelled, subst (λ ss. TookFront ss old new) (ap symbols_of_parts parts_are ∙ symbols_input r.0) t)

    -- the parts are refused
    pub part_refusal : (old : List Named) (e : ReadFail) → IsDue (taken_up old parts) e → IsRefusal bytes old e
    part_refusal old (Refused kind offset) due = inr (inr (record { terms = r.0; spelled = spelled; refused = sym (taking_input r.0 old) ∙ ap (taken_up old) (sym parts_are) ∙ due }))
    part_refusal old Memory due = tt

-- a byte or a token is refused
pub syntax_refusal : (bytes : List ℕ) (old : List Named) (e : ReadFail) → IsSyntaxFault bytes e → IsRefusal bytes old e
syntax_refusal bytes old (Refused kind offset) (inl due) = inl due
syntax_refusal bytes old (Refused kind offset) (inr tokens) = inr (inl tokens)
syntax_refusal bytes old Memory due = tt

-- bytes that spell terms spell the same parts and nodes
same_read : (bytes : List ℕ) (ws vs : List Written) → Spells bytes ws → Spells bytes vs → (parts_of_input ws ≡ parts_of_input vs) × (nodes_of_input 0 ws ≡ nodes_of_input 0 vs)
same_read bytes ws vs s t =
    let cut : Ok s.tokens ≡ Ok t.tokens = sym s.cut ∙ t.cut in
    let tokens : s.tokens ≡ t.tokens = cc in
    let e : Some (parts_of_input ws, nodes_of_input 0 ws) ≡ Some (parts_of_input vs, nodes_of_input 0 vs) = sym (complete s.spelled) ∙ ap (outcome start) tokens ∙ complete t.spelled in
    let a : Read = (parts_of_input ws, nodes_of_input 0 ws) in
    let b : Read = (parts_of_input vs, nodes_of_input 0 vs) in
    let same : a ≡ b = ap (λ (o : Option Read). unwrap_or o a) e in
    (ap (λ (p : Read). p.0) same, ap (λ (p : Read). p.1) same)

same_taken : (old : List Named) (ws vs : List Written) → parts_of_input ws ≡ parts_of_input vs → take_input ws old ≡ take_input vs old
same_taken old ws vs e = sym (taking_input ws old) ∙ ap (taken_up old) e ∙ taking_input vs old

-- there is one reading
pub only_one : (bytes : List ℕ) (old a b : List Named) (xs ys : List Tree) → IsReading bytes old a xs → IsReading bytes old b ys → (b ≡ a) × (ys ≡ xs)
only_one bytes old a b xs ys r s =
    let same = same_read bytes r.terms s.terms r.spelled s.spelled in
    let taken : Ok a ≡ Ok b = sym r.taken ∙ same_taken old r.terms s.terms same.0 ∙ s.taken in
    let pool : a ≡ b = cc in
    let trees : map Some (map (tree_in a) r.terms) ≡ map Some (map (tree_in b) s.terms) =
    sym (spelled_trees a r.terms)
    ∙ (λ i. trees_at (map (item_in (pool i)) (same.0 i)) (same.1 i))
    ∙ spelled_trees b s.terms in
    (sym pool, s.trees_are ∙ sym (same_somes (map (tree_in a) r.terms) (map (tree_in b) s.terms) trees) ∙ sym r.trees_are)

-- tokens that are refused spell nothing
no_input : (size : ℕ) (tokens : List Token) (kind offset : ℕ) (ws : List Written) → AreRefused size tokens kind offset → IsInput tokens ws → ⊥
no_input size tokens kind offset ws (inl (k, u)) h =
    u.unexpected (u.after, ws, subst (λ ts. IsInput ts ws) (u.is ∙ sym (append_assoc u.before (u.token ∷ []) u.after)) h)
no_input size tokens kind offset ws (inr (k, o, u)) h = u.unended ws h

-- what can be read is not refused
pub no_refusal : (bytes : List ℕ) (old new : List Named) (trees : List Tree) (e : ReadFail) → IsRefusal bytes old e → IsReading bytes old new trees → e ≡ Memory
no_refusal bytes old new trees Memory refused r = refl
no_refusal bytes old new trees (Refused kind offset) (inl due) r = absurd (let bad : Err (fault kind offset) ≡ Ok r.spelled.tokens = sym due ∙ r.spelled.cut in cc)
no_refusal bytes old new trees (Refused kind offset) (inr (inl t)) r =
    let cut : Ok t.tokens ≡ Ok r.spelled.tokens = sym t.cut ∙ r.spelled.cut in
    let tokens : t.tokens ≡ r.spelled.tokens = cc in
    absurd (no_input (length bytes) t.tokens kind offset r.terms t.refused (subst (λ ts. IsInput ts r.terms) (sym tokens) r.spelled.spelled))
no_refusal bytes old new trees (Refused kind offset) (inr (inr p)) r =
    let same = same_read bytes p.terms r.terms p.spelled r.spelled in
    absurd (let bad : Err (fault kind offset) ≡ Ok new = sym p.refused ∙ same_taken old p.terms r.terms same.0 ∙ r.taken in cc)
