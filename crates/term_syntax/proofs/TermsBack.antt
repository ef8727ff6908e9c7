-- The canonical text of a term is read back as that term.
use Rattle.std.proofs.Common.{◌≡◌, ◌≤◌, ◌<◌, ◌∙◌, ℕ, ◌+◌, List, [], ◌∷◌, ◌++◌, length, length-append, refl, ap, sym, subst, arith, append_assoc, append-nil, Bool, true, false, ◌&&◌, cond, eqb, leb, ◌||◌, not, Option, Some, None, Result, Ok, Err, decimal, codes, slice_get}
use Rattle.std.specs.Prelude.{unwrap_or}
use Rattle.std.specs.List.{list_all}
use Rattle.std.specs.Option.{option_map}
use Rattle.std.proofs.lemmas.Bool.{leb-true, eqb-true, ne_eqb, le-ltb}
use Rattle.term_model.specs.declared.Symbol as symbol
use Rattle.term_model.specs.declared.Head.TheVariants.{App, Int, Nil, Cons}
use Rattle.term_model.specs.Tree as tree
use Rattle.term_model.specs.Tree.{Tree, Trees, Leaf, Node, is_well_formed, all_well_formed, may_be_list}
use Rattle.term_model.proofs.Order.{both_hold}
use Rattle.symbol_pool.specs.Pool.{Named, named, IsPool, most_symbols}
use Rattle.term_syntax.specs.Token.{Token, Word, Number, At}
use Rattle.term_syntax.specs.declared.token.Mark.{Mark}
use Rattle.term_syntax.specs.declared.token.Mark.TheVariants.{Open, Close, OpenList, CloseList, Comma}
use Rattle.term_syntax.specs.State.{Symbol, Part}
use Rattle.faults.specs.declared.refusal.Refusal.{Refusal}
use Rattle.read_faults.specs.Fault.{fault}
use Rattle.tree_text.specs.NameBytes.{is_printable}
use Rattle.term_syntax.specs.Tokens.{tokens_from, after_token}
use Rattle.term_syntax.specs.Written.{Written, Call, Digits, Listed, Writtens, End, More, count_of}
use Rattle.term_syntax.specs.TermGrammar.{IsTerm, constant, call, number, empty, list, AreTerms, only, more}
use Rattle.term_syntax.specs.Parts.{parts_of, parts_of_all, part_fault, taken_up}
use Rattle.symbol_pool.specs.Taking.{number_of, has, is_full_for}
use Rattle.term_syntax.specs.TakenUp.{tree_in, trees_in, cells_in}
use Rattle.tree_text.specs.Text.{text_by, after_commas, further_elements}
use Rattle.tree_text.specs.Canonical.{spelled_name, spelling, is_writable_symbol, is_writable, all_writable}
use Rattle.term_syntax.proofs.Cutting.{after_tokens}
use Rattle.term_syntax.proofs.Spelling.{counted as counted_in}
use Rattle.symbol_pool.proofs.Taking.{number_is, has_from, with_old}
use Rattle.term_syntax.proofs.TakingUp.{taken_one}
use Rattle.term_syntax.proofs.TokensBack.{Stops, name_back, number_back, mark_back}

-- reading goes on behind tokens
abbrev Cut : ℕ → List ℕ → List Token → List ℕ → Type 0
Cut p text tokens post = tokens_from p 0 (text ++ post) ≡ after_tokens tokens (tokens_from (p + length text) 0 post)

after_more : (ts us : List Token) (r : Result (List Token) Refusal) → after_tokens ts (after_tokens us r) ≡ after_tokens (ts ++ us) r
after_more ts us (Ok vs) = ap Ok (sym (append_assoc ts us vs))
after_more ts us (Err f) = refl

after_one : (t : Token) (r : Result (List Token) Refusal) → after_token t r ≡ after_tokens (t ∷ []) r
after_one t (Ok ts) = refl
after_one t (Err f) = refl

-- one text behind another
cut_more : (p : ℕ) (x y : List ℕ) (ts us : List Token) (post : List ℕ) → Cut p x ts (y ++ post) → Cut (p + length x) y us post → Cut p (x ++ y) (ts ++ us) post
cut_more p x y ts us post a b =
    let n : p + length x + length y ≡ p + length (x ++ y) = omega (arith, length-append x y) in
    ap (tokens_from p 0) (append_assoc x y post)
    ∙ a
    ∙ ap (after_tokens ts) b
    ∙ after_more ts us (tokens_from (p + length x + length y) 0 post)
    ∙ ap (λ k. after_tokens (ts ++ us) (tokens_from k 0 post)) n

cut_mark : (p b : ℕ) (m : Mark) (post : List ℕ) → ((q : ℕ) → tokens_from q 0 (b ∷ post) ≡ after_token (At m q) (tokens_from (q + 1) 0 post)) → Cut p (b ∷ []) (At m p ∷ []) post
cut_mark p b m post h = h p ∙ after_one (At m p) (tokens_from (p + 1) 0 post)

module _ (names : List Named) (pool : IsPool names) where
  abbrev text : Tree → List ℕ
  text t = text_by (spelling names) t

  -- no symbol of these parts is taken up, and none of them has a fault
  abbrev Harmless : List Part → Type 0
  Harmless parts = (ps : List Part) → taken_up names (parts ++ ps) ≡ taken_up names ps

  -- the text of a tree at a place, before these bytes, is cut into tokens that spell the tree
  pub record IsBack (p : ℕ) (t : Tree) (post : List ℕ) : Type 0 where
    pub tokens : List Token
    pub term : Written
    pub cut : Cut p (text t) tokens post
    pub spelled : (us : List Token) → IsTerm (tokens ++ us) term us
    pub is : tree_in names term ≡ t
    pub harmless : Harmless (parts_of false term)

  -- further terms of a group, each behind a comma
  record AreBack (called : Bool) (c : ℕ) (p : ℕ) (commas post : List ℕ) (Spelled : Writtens → Type 0) : Type 0 where
    tokens : List Token
    terms : Writtens
    cut : Cut p commas tokens post
    spelled : (ts : List Token) (w : Written) (m : Mark) (q : ℕ) (us : List Token) → IsTerm ts w (tokens ++ At m q ∷ us) → AreTerms ts (More w terms) (At m q ∷ us)
    are : Spelled terms
    harmless : Harmless (parts_of_all called c terms)

  -- a symbol that can be written
  record IsSymbol (f : symbol.Symbol) (n : ℕ) : Type 0 where
    name : List ℕ
    at : slice_get names f.0 ≡ Some (named name n)
    few : n ≤ 16
    short : length name ≤ 255
    printable : list_all is_printable name ≡ true

  symbol_of : (f : symbol.Symbol) (n : ℕ) → is_writable_symbol (slice_get names f.0) n ≡ true → IsSymbol f n
  symbol_of f n h = by (slice_get names f.0) refl h
    where
      by : (o : Option Named) → slice_get names f.0 ≡ o → is_writable_symbol o n ≡ true → IsSymbol f n
      by None e h = absurd cc
      by (Some s) e h =
          let a = both_hold (eqb s.arity n) (leb n 16 && (leb (length s.name) 255 && list_all is_printable s.name)) h in
          let b = both_hold (leb n 16) (leb (length s.name) 255 && list_all is_printable s.name) a.1 in
          let c = both_hold (leb (length s.name) 255) (list_all is_printable s.name) b.1 in
          let same : s.arity ≡ n = eqb-true s.arity n a.0 in
          record {
            name = s.name;
            at = e ∙ (λ i. Some (named s.name (same i)));
            few = leb-true n 16 b.0;
            short = leb-true (length s.name) 255 c.0;
            printable = c.1;
          }

  module _ (f : symbol.Symbol) (n : ℕ) (s : IsSymbol f n) where
    spelled_as : spelling names f ≡ spelled_name s.name
    spelled_as = ap (λ o. spelled_name (unwrap_or (option_map (λ q. q.name) o) [])) s.at

    numbered : number_of names (named s.name n) ≡ f.0
    numbered = number_is names f (named s.name n) pool s.at

    held : has names (named s.name n) ≡ true
    held = has_from names f.0 (named s.name n) s.at

    name_cut : (p : ℕ) (post : List ℕ) → Stops post → Cut p (spelling names f) (Word s.name p ∷ []) post
    name_cut p post stops =
        ap (λ xs. tokens_from p 0 (xs ++ post)) spelled_as
        ∙ name_back s.name post p s.printable stops
        ∙ after_one (Word s.name p) (tokens_from (p + length (spelled_name s.name)) 0 post)
        ∙ ap (λ xs. after_tokens (Word s.name p ∷ []) (tokens_from (p + length xs) 0 post)) (sym spelled_as)

    name_harmless : (p : ℕ) → Harmless (record { place = p; over = false; kind = Symbol s.name; count = n } ∷ [])
    name_harmless p ps =
        let q : Part = record { place = p; over = false; kind = Symbol s.name; count = n } in
        taken_one names q ps (faultless p) ∙ ap (λ k. taken_up k ps) (with_old names (named s.name n) held)
      where
        faultless : (p : ℕ) → part_fault names (record { place = p; over = false; kind = Symbol s.name; count = n }) ≡ None
        faultless p =
            ap (λ b. cond (b || is_full_for names (named s.name n)) (Some (fault 13 p)) None) (le-ltb 255 (length s.name) s.short)
            ∙ ap (λ b. cond (not b && eqb (length names) most_symbols) (Some (fault 13 p)) None) held

  -- what stands before a comma, or before the end of a group, is at its end
  stops_commas : (ts : Trees) (post : List ℕ) → Stops post → Stops (after_commas (spelling names) ts ++ post)
  stops_commas tree.End post h = h
  stops_commas (tree.More t ts) post h = record { name = refl; digits = refl }

  stops_rest : (u : Tree) (post : List ℕ) → Stops post → Stops (further_elements (spelling names) u ++ post)
  stops_rest (Leaf x) post h = h
  stops_rest (Node (App f) ts) post h = h
  stops_rest (Node (Int v) ts) post h = h
  stops_rest (Node Nil ts) post h = h
  stops_rest (Node Cons ts) post h = record { name = refl; digits = refl }

  harmless_more : (xs ys : List Part) → Harmless xs → Harmless ys → Harmless (xs ++ ys)
  harmless_more xs ys h k ps = ap (taken_up names) (append_assoc xs ys ps) ∙ h (ys ++ ps) ∙ k ps

  not_over : (c : ℕ) (w : Written) → c < 16 → parts_of (true && eqb c 16) w ≡ parts_of false w
  not_over c w h = ap (λ b. parts_of b w) (ne_eqb c 16 (λ e. absurd (omega (arith, h, e))))

  -- tokens of a term, of further terms, and of what closes the group
  three : (xs ys : List Token) (t : Token) (us : List Token) → ((xs ++ ys) ++ t ∷ []) ++ us ≡ xs ++ (ys ++ t ∷ us)
  three xs ys t us = append_assoc (xs ++ ys) (t ∷ []) us ∙ append_assoc xs ys (t ∷ us)

  keep_none : (r : Result (List Token) Refusal) → r ≡ after_tokens [] r
  keep_none (Ok ts) = refl
  keep_none (Err f) = refl

  comma_cut : (p : ℕ) (post : List ℕ) → Cut p (codes ",") (At Comma p ∷ []) post
  comma_cut p post = cut_mark p 44 Comma post (λ q. mark_back 44 Comma post q refl)

  -- one term more behind a comma
  commas_back : (t : Tree) (ts : Trees) (c : ℕ) → c < 16 → (p : ℕ) (post : List ℕ) → Stops post → ((q : ℕ) (rest : List ℕ) → Stops rest → IsBack q t rest) →
      ((q : ℕ) (rest : List ℕ) → Stops rest → AreBack true (c + 1) q (after_commas (spelling names) ts) rest (λ ws. trees_in names ws ≡ ts)) →
      AreBack true c p (after_commas (spelling names) (tree.More t ts)) post (λ ws. trees_in names ws ≡ tree.More t ts)
  commas_back t ts c few p post stops one others =
      let A = after_commas (spelling names) ts in
      let x = one (p + 1) (A ++ post) (stops_commas ts post stops) in
      let y = others (p + length (codes "," ++ text t)) post stops in
      record {
        tokens = ((At Comma p ∷ []) ++ x.tokens) ++ y.tokens;
        terms = More x.term y.terms;
        cut = cut_more p (codes "," ++ text t) A ((At Comma p ∷ []) ++ x.tokens) y.tokens post
            (cut_more p (codes ",") (text t) (At Comma p ∷ []) x.tokens (A ++ post) (comma_cut p (text t ++ (A ++ post))) x.cut)
            y.cut;
        spelled = λ us w m q vs h. more h (subst (λ zs. AreTerms zs (More x.term y.terms) (At m q ∷ vs)) (sym (append_assoc x.tokens y.tokens (At m q ∷ vs))) (y.spelled (x.tokens ++ (y.tokens ++ At m q ∷ vs)) x.term m q vs (x.spelled (y.tokens ++ At m q ∷ vs))));
        are = λ i. tree.More (x.is i) (y.are i);
        harmless = harmless_more (parts_of (true && eqb c 16) x.term) (parts_of_all true (c + 1) y.terms) (subst Harmless (sym (not_over c x.term few)) x.harmless) y.harmless;
      }

  cells_back : (t u : Tree) (c : ℕ) (p : ℕ) (post : List ℕ) → Stops post → ((q : ℕ) (rest : List ℕ) → Stops rest → IsBack q t rest) →
      ((q : ℕ) (rest : List ℕ) → Stops rest → AreBack false (c + 1) q (further_elements (spelling names) u) rest (λ ws. cells_in names ws ≡ u)) →
      AreBack false c p (further_elements (spelling names) (Node Cons (tree.More t (tree.More u tree.End)))) post (λ ws. cells_in names ws ≡ Node Cons (tree.More t (tree.More u tree.End)))
  cells_back t u c p post stops one others =
      let F = further_elements (spelling names) u in
      let x = one (p + 1) (F ++ post) (stops_rest u post stops) in
      let y = others (p + 1 + length (text t)) post stops in
      record {
        tokens = (At Comma p ∷ []) ++ (x.tokens ++ y.tokens);
        terms = More x.term y.terms;
        cut = cut_more p (codes ",") (text t ++ F) (At Comma p ∷ []) (x.tokens ++ y.tokens) post
            (comma_cut p ((text t ++ F) ++ post))
            (cut_more (p + 1) (text t) F x.tokens y.tokens post x.cut y.cut);
        spelled = λ us w m q vs h. more h (subst (λ zs. AreTerms zs (More x.term y.terms) (At m q ∷ vs)) (sym (append_assoc x.tokens y.tokens (At m q ∷ vs))) (y.spelled (x.tokens ++ (y.tokens ++ At m q ∷ vs)) x.term m q vs (x.spelled (y.tokens ++ At m q ∷ vs))));
        are = λ i. Node Cons (tree.More (x.is i) (tree.More (y.are i) tree.End));
        harmless = harmless_more (parts_of false x.term) (parts_of_all false (c + 1) y.terms) x.harmless y.harmless;
      }

  call_back : (f : symbol.Symbol) (t : Tree) (ts : Trees) → IsSymbol f (tree.count_of ts + 1) → (p : ℕ) (post : List ℕ) →
      ((q : ℕ) (rest : List ℕ) → Stops rest → IsBack q t rest) →
      ((q : ℕ) (rest : List ℕ) → Stops rest → 1 + tree.count_of ts ≤ 16 → AreBack true 1 q (after_commas (spelling names) ts) rest (λ ws. trees_in names ws ≡ ts)) →
      IsBack p (Node (App f) (tree.More t ts)) post
  call_back f t ts s p post one others =
      let n = tree.count_of ts + 1 in
      let A = after_commas (spelling names) ts in
      let S = spelling names f in
      let p1 = p + length S in
      let end : Stops (codes ")" ++ post) = record { name = refl; digits = refl } in
      let x = one (p1 + 1) (A ++ (codes ")" ++ post)) (stops_commas ts (codes ")" ++ post) end) in
      let few : 1 + tree.count_of ts ≤ 16 = omega (arith, s.few) in
      let y = others (p1 + length (codes "(" ++ text t)) (codes ")" ++ post) end few in
      let p4 = p1 + length ((codes "(" ++ text t) ++ A) in
      let inner = ((codes "(" ++ text t) ++ A) ++ codes ")" in
      let ts_in = (((At Open p1 ∷ []) ++ x.tokens) ++ y.tokens) ++ At Close p4 ∷ [] in
      let counted : count_of y.terms + 1 ≡ n = ap (λ k. k + 1) (sym (counted_in names y.terms) ∙ ap tree.count_of y.are) in
      record {
        tokens = (Word s.name p ∷ []) ++ ts_in;
        term = Call p s.name (More x.term y.terms);
        cut = cut_more p S inner (Word s.name p ∷ []) ts_in post
            (name_cut f n s p (inner ++ post) (record { name = refl; digits = refl }))
            (cut_more p1 ((codes "(" ++ text t) ++ A) (codes ")") (((At Open p1 ∷ []) ++ x.tokens) ++ y.tokens) (At Close p4 ∷ []) post
            (cut_more p1 (codes "(" ++ text t) A ((At Open p1 ∷ []) ++ x.tokens) y.tokens (codes ")" ++ post)
            (cut_more p1 (codes "(") (text t) (At Open p1 ∷ []) x.tokens (A ++ (codes ")" ++ post))
            (cut_mark p1 40 Open (text t ++ (A ++ (codes ")" ++ post))) (λ q. mark_back 40 Open (text t ++ (A ++ (codes ")" ++ post))) q refl))
            x.cut)
            y.cut)
            (cut_mark p4 41 Close post (λ q. mark_back 41 Close post q refl)));
        spelled = λ us. call (subst (λ zs. AreTerms zs (More x.term y.terms) (At Close p4 ∷ us)) (sym (three x.tokens y.tokens (At Close p4) us)) (y.spelled (x.tokens ++ (y.tokens ++ At Close p4 ∷ us)) x.term Close p4 us (x.spelled (y.tokens ++ At Close p4 ∷ us))));
        is =
            ap (λ k. Node (App (record { 0 = number_of names (named s.name k) })) (tree.More (tree_in names x.term) (trees_in names y.terms))) counted
            ∙ (λ i. Node (App (record { 0 = numbered f n s i })) (tree.More (x.is i) (y.are i)));
        harmless = λ ps.
            ap (λ k. taken_up names (record { place = p; over = false; kind = Symbol s.name; count = k } ∷ ((parts_of false x.term ++ parts_of_all true 1 y.terms) ++ ps))) counted
            ∙ name_harmless f n s p ((parts_of false x.term ++ parts_of_all true 1 y.terms) ++ ps)
            ∙ harmless_more (parts_of false x.term) (parts_of_all true 1 y.terms) x.harmless y.harmless ps;
      }

  list_back : (t u : Tree) (p : ℕ) (post : List ℕ) →
      ((q : ℕ) (rest : List ℕ) → Stops rest → IsBack q t rest) →
      ((q : ℕ) (rest : List ℕ) → Stops rest → AreBack false 1 q (further_elements (spelling names) u) rest (λ ws. cells_in names ws ≡ u)) →
      IsBack p (Node Cons (tree.More t (tree.More u tree.End))) post
  list_back t u p post one others =
      let F = further_elements (spelling names) u in
      let end : Stops (codes "]" ++ post) = record { name = refl; digits = refl } in
      let x = one (p + 1) (F ++ (codes "]" ++ post)) (stops_rest u (codes "]" ++ post) end) in
      let y = others (p + 1 + length (text t)) (codes "]" ++ post) end in
      let p4 = p + length (codes "[" ++ (text t ++ F)) in
      record {
        tokens = ((At OpenList p ∷ []) ++ (x.tokens ++ y.tokens)) ++ At CloseList p4 ∷ [];
        term = Listed p (More x.term y.terms);
        cut = cut_more p (codes "[" ++ (text t ++ F)) (codes "]") ((At OpenList p ∷ []) ++ (x.tokens ++ y.tokens)) (At CloseList p4 ∷ []) post
            (cut_more p (codes "[") (text t ++ F) (At OpenList p ∷ []) (x.tokens ++ y.tokens) (codes "]" ++ post)
            (cut_mark p 91 OpenList ((text t ++ F) ++ (codes "]" ++ post)) (λ q. mark_back 91 OpenList ((text t ++ F) ++ (codes "]" ++ post)) q refl))
            (cut_more (p + 1) (text t) F x.tokens y.tokens (codes "]" ++ post) x.cut y.cut))
            (cut_mark p4 93 CloseList post (λ q. mark_back 93 CloseList post q refl));
        spelled = λ us. list (subst (λ zs. AreTerms zs (More x.term y.terms) (At CloseList p4 ∷ us)) (sym (three x.tokens y.tokens (At CloseList p4) us)) (y.spelled (x.tokens ++ (y.tokens ++ At CloseList p4 ∷ us)) x.term CloseList p4 us (x.spelled (y.tokens ++ At CloseList p4 ∷ us))));
        is = λ i. Node Cons (tree.More (x.is i) (tree.More (y.are i) tree.End));
        harmless = λ ps. harmless_more (parts_of false x.term) (parts_of_all false 1 y.terms) x.harmless y.harmless ps;
      }

  mutual
    pub tree_back : (t : Tree) → is_writable names t ≡ true → is_well_formed t ≡ true → (p : ℕ) (post : List ℕ) → Stops post → IsBack p t post
    tree_back (Leaf x) h k p post stops = absurd cc
    tree_back (Node (Int v) tree.End) h k p post stops = record {
      tokens = Number (Some v) p ∷ [];
      term = Digits p (Some v);
      cut = number_back v post p (leb-true v 18446744073709551615 (both_hold (leb v 18446744073709551615) true h).0) stops ∙ after_one (Number (Some v) p) (tokens_from (p + length (decimal v)) 0 post);
      spelled = λ us. number;
      is = refl;
      harmless = λ ps. refl;
    }
    tree_back (Node (Int v) (tree.More t ts)) h k p post stops = absurd cc
    tree_back (Node Nil tree.End) h k p post stops =
        let n : p + 1 + 1 ≡ p + 2 = omega arith in
        record {
          tokens = At OpenList p ∷ At CloseList (p + 1) ∷ [];
          term = Listed p End;
          cut =
              mark_back 91 OpenList (93 ∷ post) p refl
              ∙ ap (after_token (At OpenList p)) (mark_back 93 CloseList post (p + 1) refl)
              ∙ after_one (At OpenList p) (after_token (At CloseList (p + 1)) (tokens_from (p + 1 + 1) 0 post))
              ∙ ap (after_tokens (At OpenList p ∷ [])) (after_one (At CloseList (p + 1)) (tokens_from (p + 1 + 1) 0 post))
              ∙ after_more (At OpenList p ∷ []) (At CloseList (p + 1) ∷ []) (tokens_from (p + 1 + 1) 0 post)
              ∙ ap (λ q. after_tokens (At OpenList p ∷ At CloseList (p + 1) ∷ []) (tokens_from q 0 post)) n;
          spelled = λ us. empty;
          is = refl;
          harmless = λ ps. refl;
        }
    tree_back (Node Nil (tree.More t ts)) h k p post stops = absurd cc
    tree_back (Node (App f) tree.End) h k p post stops =
        let s = symbol_of f 0 (both_hold (is_writable_symbol (slice_get names f.0) 0) true h).0 in
        record {
          tokens = Word s.name p ∷ [];
          term = Call p s.name End;
          cut =
              ap (λ xs. tokens_from p 0 (xs ++ post)) (append-nil (spelling names f))
              ∙ name_cut f 0 s p post stops
              ∙ ap (λ xs. after_tokens (Word s.name p ∷ []) (tokens_from (p + length xs) 0 post)) (sym (append-nil (spelling names f)));
          spelled = λ us. constant;
          is = ap (λ i. Node (App (record { 0 = i })) tree.End) (numbered f 0 s);
          harmless = name_harmless f 0 s p;
        }
    tree_back (Node (App f) (tree.More t ts)) h k p post stops =
        let n = tree.count_of ts + 1 in
        let hs = both_hold (is_writable_symbol (slice_get names f.0) n) (is_writable names t && all_writable names ts) h in
        let ws = both_hold (is_writable names t) (all_writable names ts) hs.1 in
        let ks = both_hold (is_well_formed t) (all_well_formed ts) k in
        call_back f t ts (symbol_of f n hs.0) p post
        (λ q rest st. tree_back t ws.0 ks.0 q rest st)
        (λ q rest st few. trees_back ts ws.1 ks.1 1 few q rest st)
    tree_back (Node Cons tree.End) h k p post stops = absurd cc
    tree_back (Node Cons (tree.More t tree.End)) h k p post stops = absurd cc
    tree_back (Node Cons (tree.More t (tree.More u tree.End))) h k p post stops =
        let ws = both_hold (is_writable names t) (is_writable names u && true) h in
        let w2 = both_hold (is_writable names u) true ws.1 in
        let hs = both_hold (may_be_list u) (is_well_formed t && (is_well_formed u && true)) k in
        let ks = both_hold (is_well_formed t) (is_well_formed u && true) hs.1 in
        let k2 = both_hold (is_well_formed u) true ks.1 in
        list_back t u p post
        (λ q rest st. tree_back t ws.0 ks.0 q rest st)
        (λ q rest st. rest_back u w2.0 k2.0 hs.0 1 q rest st)
    tree_back (Node Cons (tree.More t (tree.More u (tree.More v vs)))) h k p post stops = absurd cc

    trees_back : (ts : Trees) → all_writable names ts ≡ true → all_well_formed ts ≡ true → (c : ℕ) → c + tree.count_of ts ≤ 16 → (p : ℕ) (post : List ℕ) → Stops post → AreBack true c p (after_commas (spelling names) ts) post (λ ws. trees_in names ws ≡ ts)
    trees_back tree.End h k c few p post stops =
        let n : p ≡ p + 0 = omega arith in
        record {
          tokens = [];
          terms = End;
          cut = keep_none (tokens_from p 0 post) ∙ ap (λ q. after_tokens [] (tokens_from q 0 post)) n;
          spelled = λ ts w m q us x. only x;
          are = refl;
          harmless = λ ps. refl;
        }
    trees_back (tree.More t ts) h k c few p post stops =
        let ws = both_hold (is_writable names t) (all_writable names ts) h in
        let ks = both_hold (is_well_formed t) (all_well_formed ts) k in
        commas_back t ts c (omega arith) p post stops
        (λ q rest st. tree_back t ws.0 ks.0 q rest st)
        (λ q rest st. trees_back ts ws.1 ks.1 (c + 1) (omega arith) q rest st)

    rest_back : (u : Tree) → is_writable names u ≡ true → is_well_formed u ≡ true → may_be_list u ≡ true → (c : ℕ) (p : ℕ) (post : List ℕ) → Stops post → AreBack false c p (further_elements (spelling names) u) post (λ ws. cells_in names ws ≡ u)
    rest_back (Leaf x) h k l c p post stops = absurd cc
    rest_back (Node (App f) ts) h k l c p post stops = absurd cc
    rest_back (Node (Int v) ts) h k l c p post stops = absurd cc
    rest_back (Node Nil tree.End) h k l c p post stops =
        let n : p ≡ p + 0 = omega arith in
        record {
          tokens = [];
          terms = End;
          cut = keep_none (tokens_from p 0 post) ∙ ap (λ q. after_tokens [] (tokens_from q 0 post)) n;
          spelled = λ ts w m q us x. only x;
          are = refl;
          harmless = λ ps. refl;
        }
    rest_back (Node Nil (tree.More t ts)) h k l c p post stops = absurd cc
    rest_back (Node Cons tree.End) h k l c p post stops = absurd cc
    rest_back (Node Cons (tree.More t tree.End)) h k l c p post stops = absurd cc
    rest_back (Node Cons (tree.More t (tree.More u tree.End))) h k l c p post stops =
        let ws = both_hold (is_writable names t) (is_writable names u && true) h in
        let w2 = both_hold (is_writable names u) true ws.1 in
        let hs = both_hold (may_be_list u) (is_well_formed t && (is_well_formed u && true)) k in
        let ks = both_hold (is_well_formed t) (is_well_formed u && true) hs.1 in
        let k2 = both_hold (is_well_formed u) true ks.1 in
        cells_back t u c p post stops
        (λ q rest st. tree_back t ws.0 ks.0 q rest st)
        (λ q rest st. rest_back u w2.0 k2.0 hs.0 (c + 1) q rest st)
    rest_back (Node Cons (tree.More t (tree.More u (tree.More v vs)))) h k l c p post stops = absurd cc
