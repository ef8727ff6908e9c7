-- Chains, and walks in them.
use Rattle.std.proofs.Common.{◌≡◌, ◌≢◌, ◌⊎◌, ℕ, suc, ◌<◌, List, [], ◌∷◌, ◌++◌, length, get_or, refl, sym, ap, ◌∙◌, subst, ⊎_elim, arith, append_assoc, length-append, ◌+◌}
use Rattle.term_model.specs.declared.Head.{Head}
use Rattle.term_model.specs.declared.Head.TheVariants.{App, Int, Nil, Cons}
use Rattle.store_model.specs.Words.{RowWords}
use Rattle.store_model.specs.Calls.{Content, words_of}
use Rattle.hash_buckets.specs.Spelled.{spelled}
use Rattle.store_model.specs.Machine.{Each}
use Rattle.store_model.specs.Meaning.{Agrees, Linked}
use Rattle.store_model.specs.Seats.{Lacks, Walks, Walked}
use Rattle.store_model.proofs.Basics.{each_join}

module _ (row : ℕ → RowWords) where
  -- a chain is known by its first word, and its first word by the chain
  pub linked_once : (at : ℕ) (xs ys : List ℕ) → Linked row at xs → Linked row at ys → xs ≡ ys
  linked_once at [] [] h k = refl
  linked_once at [] (y ∷ ys) h k = absurd (let a : at ≡ 0 = h in let b : at ≡ suc y = k.0 in omega arith)
  linked_once at (x ∷ xs) [] h k = absurd (let a : at ≡ 0 = k in let b : at ≡ suc x = h.0 in omega arith)
  linked_once at (x ∷ xs) (y ∷ ys) h k =
      let e : x ≡ y = (let a : at ≡ suc x = h.0 in let b : at ≡ suc y = k.0 in omega arith) in
      ap (λ (q : ℕ). q ∷ xs) e ∙ ap (λ (zs : List ℕ). y ∷ zs) (linked_once (row y).next xs ys (subst (λ (q : ℕ). Linked row (row q).next xs) e h.1) k.1)

  pub linked_start : (at old : ℕ) (xs : List ℕ) → Linked row at xs → Linked row old xs → at ≡ old
  linked_start at old [] h k = h ∙ sym k
  linked_start at old (x ∷ xs) h k = h.0 ∙ sym k.0

  pub linked_right : (at : ℕ) (xs : List ℕ) (y : ℕ) (ys : List ℕ) → Linked row at (xs ++ (y ∷ ys)) → Linked row (row y).next ys
  linked_right at [] y ys h = h.1
  linked_right at (x ∷ xs) y ys h = linked_right (row x).next xs y ys h.1

  -- a walk that has come to the word `at`, of a row or of the end
  pub record Comes (chain : List ℕ) (c : Content) (from old at n : ℕ) : Type 0 where
    pub fresh : List ℕ
    pub walked : List ℕ
    pub rest : List ℕ
    pub todo : List ℕ
    pub settled : List ℕ
    pub count : n ≡ length walked + length settled
    pub rest_is : rest ≡ todo ++ settled
    pub chain_is : chain ≡ fresh ++ (walked ++ rest)
    pub from_head : Linked row from (walked ++ rest)
    pub to_rest : Linked row at rest
    pub to_settled : Linked row old settled
    pub walked_lack : Each (Lacks row c) walked
    pub settled_lack : Each (Lacks row c) settled

  -- past a row that isn't c
  pub comes_on : (chain : List ℕ) (c : Content) (from old at n : ℕ) → (h : Walks row chain c from old at n) → Lacks row c h.here → Comes chain c from old (row h.here).next (suc n)
  comes_on chain c from old at n h lack = let rest : List ℕ = h.todo ++ h.settled in let e : (h.walked ++ (h.here ∷ [])) ++ rest ≡ h.walked ++ (h.here ∷ rest) = append_assoc h.walked (h.here ∷ []) rest in record {
    fresh = h.fresh;
    walked = h.walked ++ (h.here ∷ []);
    rest = rest;
    todo = h.todo;
    settled = h.settled;
    count = let a = length-append h.walked (h.here ∷ []) in let b = h.count in omega arith;
    rest_is = refl;
    chain_is = h.chain_is ∙ ap (λ (zs : List ℕ). h.fresh ++ zs) (sym e);
    from_head = subst (Linked row from) (sym e) h.from_head;
    to_rest = linked_right from h.walked h.here rest h.from_head;
    to_settled = h.to_settled;
    walked_lack = each_join (Lacks row c) h.walked (h.here ∷ []) h.walked_lack (lack, tt);
    settled_lack = h.settled_lack;
  }

  -- a new walk from the head of a chain, down to a settled rest
  pub comes_first : (chain : List ℕ) (c : Content) (from old : ℕ) (todo settled : List ℕ) → chain ≡ todo ++ settled → Linked row from chain → Linked row old settled → Each (Lacks row c) settled → Comes chain c from old from (length settled)
  comes_first chain c from old todo settled e h k lack = record {
    fresh = [];
    walked = [];
    rest = chain;
    todo = todo;
    settled = settled;
    count = omega arith;
    rest_is = e;
    chain_is = refl;
    from_head = h;
    to_rest = h;
    to_settled = k;
    walked_lack = tt;
    settled_lack = lack;
  }

  -- at the old word the whole chain from the head lacks c
  pub comes_to_end : (chain : List ℕ) (c : Content) (from old at n : ℕ) → Comes chain c from old at n → at ≡ old → Walked row chain c from n
  comes_to_end chain c from old at n h e =
      let f : h.rest ≡ h.settled = linked_once old h.rest h.settled (subst (λ (k : ℕ). Linked row k h.rest) e h.to_rest) h.to_settled in record {
        fresh = h.fresh;
        settled = h.walked ++ h.settled;
        count = h.count ∙ sym (length-append h.walked h.settled);
        chain_is = h.chain_is ∙ ap (λ (zs : List ℕ). h.fresh ++ (h.walked ++ zs)) f;
        to_settled = subst (λ (zs : List ℕ). Linked row from (h.walked ++ zs)) f h.from_head;
        settled_lack = each_join (Lacks row c) h.walked h.settled h.walked_lack h.settled_lack;
      }

  at_row : (chain : List ℕ) (c : Content) (from old at n : ℕ) (fresh walked rest todo settled : List ℕ) → n ≡ length walked + length settled → rest ≡ todo ++ settled → chain ≡ fresh ++ (walked ++ rest) → Linked row from (walked ++ rest) → Linked row at rest → Linked row old settled
      → Each (Lacks row c) walked → Each (Lacks row c) settled → at ≢ old → Walks row chain c from old at n
  at_row chain c from old at n fresh walked rest [] settled count e chain_is from_head to_rest to_settled a b ne = absurd (ne (linked_start at old settled (subst (Linked row at) e to_rest) to_settled))
  at_row chain c from old at n fresh walked rest (q ∷ todo) settled count e chain_is from_head to_rest to_settled a b ne = record {
    fresh = fresh;
    walked = walked;
    here = q;
    todo = todo;
    settled = settled;
    at_is = (subst (Linked row at) e to_rest).0;
    count = count;
    chain_is = chain_is ∙ ap (λ (zs : List ℕ). fresh ++ (walked ++ zs)) e;
    from_head = subst (λ (zs : List ℕ). Linked row from (walked ++ zs)) e from_head;
    to_settled = to_settled;
    walked_lack = a;
    settled_lack = b;
  }

  -- before it, it is at a row
  pub comes_to_row : (chain : List ℕ) (c : Content) (from old at n : ℕ) → Comes chain c from old at n → at ≢ old → Walks row chain c from old at n
  comes_to_row chain c from old at n h ne = at_row chain c from old at n h.fresh h.walked h.rest h.todo h.settled h.count h.rest_is h.chain_is h.from_head h.to_rest h.to_settled h.walked_lack h.settled_lack ne

pub some_words : (f : Head) (rs : List ℕ) → 0 < length (spelled f rs)
some_words (App f) rs = omega arith
some_words (Int v) rs = omega arith
some_words Nil rs = omega arith
some_words Cons rs = omega arith

-- a content has words
pub has_words : (c : Content) → 0 < length (words_of c)
has_words c = some_words c.head c.arguments

pub agrees_none : (row : RowWords) (c : Content) → Agrees row c 0
agrees_none row c k l = absurd (omega arith)

below_or_at : (j k : ℕ) → j < suc k → (j < k) ⊎ (j ≡ k)
below_or_at j k l = grind arith

pub agrees_more : (row : RowWords) (c : Content) (k n : ℕ) → n ≡ row.content k → n ≡ get_or (words_of c) k 0 → Agrees row c k → Agrees row c (suc k)
agrees_more row c k n here e h j l = ⊎_elim (λ b. h j b) (λ is. subst (λ (q : ℕ). row.content q ≡ get_or (words_of c) q 0) (sym is) (sym here ∙ e)) (below_or_at j k l)
