-- Pieces on a stack spell the text of a term.
use Rattle.std.proofs.Common.{◌≡◌, ℕ, zero, suc, ◌+◌, ◌<◌, Bool, true, false, true≢false, eqb, eqb-true, eq-eqb, List, [], ◌∷◌, ◌++◌, length, take, get_or, reverse, Option, Some, None, All, refl, sym, ap, subst, ◌∙◌, arith, append_assoc, append-nil, Bor}
use Rattle.std.specs.Prelude.{map, unwrap_or, nat_eq, IsTrue, MatchOption}
use Rattle.std.specs.Cmp.Lexicographic.{pointwise, bytes_decides}
use Rattle.std.specs.Option.{option_map}
use Rattle.std.specs.List.{flat_map}
use Rattle.std.proofs.lemmas.Grind.{flat_map-append}
use Rattle.std.proofs.lemmas.List.{reverse-append}
use Rattle.std.proofs.lemmas.List.Elements.{All-append, All-head, All-tail}
use Rattle.std.proofs.lemmas.List.Sums.{sum_by-cons, sum_by-append}
use Rattle.symbol_pool.specs.Pool.{name_at}
use Rattle.term_model.specs.declared.Symbol.{Symbol}
use Rattle.term_model.specs.Tree.{trees_of}
use Rattle.tree_text.specs.Text.{in_parentheses, after_commas}
use Rattle.term_text.specs.Text.{plain_name, text}
use Rattle.run_checks.specs.declared.text.Piece.{Piece}
use Rattle.run_checks.specs.declared.text.Piece.TheVariants.{Term, Byte}
use Rattle.run_checks.specs.Held.{Held, IsThere, term_at, term_over}
use Rattle.run_checks.proofs.Values.{take_front}
use Rattle.run_checks.specs.Pieces.{text_of, texts, IsPiece, ArePieces, further, over_arguments, weight, weights, weight_of, left, Reads, Takes}

module _ (h : Held) where
  abbrev pub spell : Symbol → List ℕ
  spell = plain_name h.symbols

  texts-append : (xs ys : List Piece) → texts h (xs ++ ys) ≡ texts h ys ++ texts h xs
  texts-append xs ys = ap (flat_map (text_of h)) (reverse-append xs ys) ∙ flat_map-append (text_of h) (reverse ys) (reverse xs)

  pub texts-push : (xs : List Piece) (x : Piece) → texts h (xs ++ x ∷ []) ≡ text_of h x ++ texts h xs
  texts-push xs x = texts-append xs (x ∷ []) ∙ ap (λ bs. bs ++ texts h xs) (append-nil (text_of h x))

  texts-further : (ns : List ℕ) (xs : List Piece) → texts h (xs ++ further ns) ≡ after_commas spell (trees_of (map (term_at h) ns)) ++ texts h xs
  texts-further [] xs = ap (texts h) (append-nil xs)
  texts-further (n ∷ ns) xs =
      let t = text h.symbols (term_at h n) in
      let more = after_commas spell (trees_of (map (term_at h) ns)) in
      ap (texts h) (sym (append_assoc xs (further ns) (Term n ∷ Byte 44 ∷ [])) ∙ sym (append_assoc (xs ++ further ns) (Term n ∷ []) (Byte 44 ∷ [])))
      ∙ texts-push ((xs ++ further ns) ++ Term n ∷ []) (Byte 44)
      ∙ ap (λ bs. 44 ∷ bs) (texts-push (xs ++ further ns) (Term n) ∙ ap (λ bs. t ++ bs) (texts-further ns xs) ∙ sym (append_assoc t more (texts h xs)))

  pub texts-arguments : (ns : List ℕ) (xs : List Piece) → texts h (xs ++ over_arguments ns) ≡ in_parentheses spell (trees_of (map (term_at h) ns)) ++ texts h xs
  texts-arguments [] xs = ap (texts h) (append-nil xs)
  texts-arguments (n ∷ ns) xs =
      let t = text h.symbols (term_at h n) in
      let more = after_commas spell (trees_of (map (term_at h) ns)) in
      let closed : List Piece = xs ++ Byte 41 ∷ [] in
      let shape : xs ++ ((Byte 41 ∷ further ns) ++ (Term n ∷ Byte 40 ∷ [])) ≡ ((closed ++ further ns) ++ Term n ∷ []) ++ Byte 40 ∷ [] =
      sym (append_assoc xs (Byte 41 ∷ further ns) (Term n ∷ Byte 40 ∷ []))
      ∙ ap (λ ps. ps ++ Term n ∷ Byte 40 ∷ []) (sym (append_assoc xs (Byte 41 ∷ []) (further ns)))
      ∙ sym (append_assoc (closed ++ further ns) (Term n ∷ []) (Byte 40 ∷ [])) in
      let front : texts h closed ≡ 41 ∷ texts h xs = texts-push xs (Byte 41) in
      let middle : texts h (closed ++ further ns) ≡ (more ++ 41 ∷ []) ++ texts h xs =
      texts-further ns closed ∙ ap (λ (bs : List ℕ). more ++ bs) front ∙ sym (append_assoc more (41 ∷ []) (texts h xs)) in
      let term : texts h ((closed ++ further ns) ++ Term n ∷ []) ≡ (t ++ (more ++ 41 ∷ [])) ++ texts h xs =
      texts-push (closed ++ further ns) (Term n) ∙ ap (λ (bs : List ℕ). t ++ bs) middle ∙ sym (append_assoc t (more ++ 41 ∷ []) (texts h xs)) in
      ap (texts h) shape
      ∙ texts-push ((closed ++ further ns) ++ Term n ∷ []) (Byte 40)
      ∙ ap (λ (bs : List ℕ). 40 ∷ bs) term
      ∙ ap (λ (bs : List ℕ). (40 ∷ bs) ++ texts h xs) (sym (append_assoc t more (41 ∷ [])))

  -- ---- how many pieces are still to be read

  pub left-append : (xs ys : List Piece) → left h (xs ++ ys) ≡ left h xs + left h ys
  left-append xs ys = sum_by-append (weight_of h) xs ys

  left-one : (x : Piece) → left h (x ∷ []) ≡ weight_of h x
  left-one x = let e = sum_by-cons (weight_of h) x [] in omega (arith, e)

  left-two : (x y : Piece) → left h (x ∷ y ∷ []) ≡ weight_of h x + weight_of h y
  left-two x y = let e = sum_by-cons (weight_of h) x (y ∷ []) in let f = left-one y in omega (arith, e, f)

  left-further : (ns : List ℕ) → left h (further ns) ≡ weights (trees_of (map (term_at h) ns))
  left-further [] = refl
  left-further (n ∷ ns) =
      let a = left-append (further ns) (Term n ∷ Byte 44 ∷ []) in
      let b = left-two (Term n) (Byte 44) in
      let c = left-further ns in
      omega (arith, a, b, c)

  left-arguments : (ns : List ℕ) → left h (over_arguments ns) < weights (trees_of (map (term_at h) ns)) + 2
  left-arguments [] = omega arith
  left-arguments (n ∷ ns) =
      let a = left-append (Byte 41 ∷ further ns) (Term n ∷ Byte 40 ∷ []) in
      let b = left-two (Term n) (Byte 40) in
      let c = left-further ns in
      let d = sum_by-cons (weight_of h) (Byte 41) (further ns) in
      omega (arith, a, b, c, d)

  -- ---- a term

  pieces_further : (ns : List ℕ) → All (IsThere h) ns → ArePieces h (further ns)
  pieces_further [] a = λ k d lt. absurd (omega arith)
  pieces_further (n ∷ ns) a =
      All-append (IsPiece h) (further ns) (Term n ∷ Byte 44 ∷ []) (pieces_further ns (All-tail (IsThere h) n ns a)) (two (All-head (IsThere h) n ns a))
    where
      two : IsThere h n → ArePieces h (Term n ∷ Byte 44 ∷ [])
      two t k d = elim k as (λ (k : ℕ). k < length (Term n ∷ Byte 44 ∷ []) → IsPiece h (get_or (Term n ∷ Byte 44 ∷ []) k d)) [ zero ↦ λ _. t | suc k ↦ elim k as (λ (k : ℕ). suc k < length (Term n ∷ Byte 44 ∷ []) → IsPiece h (get_or (Byte 44 ∷ []) k d)) [ zero ↦ λ _. tt | suc k ↦ λ lt. absurd (omega arith) ] ]

  pieces_over : (ns : List ℕ) → All (IsThere h) ns → ArePieces h (over_arguments ns)
  pieces_over [] a = λ k d lt. absurd (omega arith)
  pieces_over (n ∷ ns) a =
      All-append (IsPiece h) (Byte 41 ∷ further ns) (Term n ∷ Byte 40 ∷ []) (first (pieces_further ns (All-tail (IsThere h) n ns a))) (two (All-head (IsThere h) n ns a))
    where
      first : ArePieces h (further ns) → ArePieces h (Byte 41 ∷ further ns)
      first f k d = elim k as (λ (k : ℕ). k < length (Byte 41 ∷ further ns) → IsPiece h (get_or (Byte 41 ∷ further ns) k d)) [ zero ↦ λ _. tt | suc k ↦ λ lt. f k d (omega arith) ]

      two : IsThere h n → ArePieces h (Term n ∷ Byte 40 ∷ [])
      two t k d = elim k as (λ (k : ℕ). k < length (Term n ∷ Byte 40 ∷ []) → IsPiece h (get_or (Term n ∷ Byte 40 ∷ []) k d)) [ zero ↦ λ _. t | suc k ↦ elim k as (λ (k : ℕ). suc k < length (Term n ∷ Byte 40 ∷ []) → IsPiece h (get_or (Byte 40 ∷ []) k d)) [ zero ↦ λ _. tt | suc k ↦ λ lt. absurd (omega arith) ] ]

  last_there : (xs : List Piece) (x : Piece) → ArePieces h (xs ++ x ∷ []) → IsPiece h x
  last_there [] x a = All-head (IsPiece h) x [] a
  last_there (y ∷ xs) x a = last_there xs x (All-tail (IsPiece h) y (xs ++ x ∷ []) a)

  others_there : (xs : List Piece) (x : Piece) → ArePieces h (xs ++ x ∷ []) → ArePieces h xs
  others_there [] x a = λ k d lt. absurd (omega arith)
  others_there (y ∷ xs) x a = first (All-head (IsPiece h) y (xs ++ x ∷ []) a) (others_there xs x (All-tail (IsPiece h) y (xs ++ x ∷ []) a))
    where
      first : IsPiece h y → ArePieces h xs → ArePieces h (y ∷ xs)
      first t f k d = elim k as (λ (k : ℕ). k < length (y ∷ xs) → IsPiece h (get_or (y ∷ xs) k d)) [ zero ↦ λ _. t | suc k ↦ λ lt. f k d (omega arith) ]

  pub term_there : (xs : List Piece) (n : ℕ) → ArePieces h (xs ++ Term n ∷ []) → IsThere h n
  term_there xs n a = last_there xs (Term n) a

  module _ (xs after : List Piece) (n : ℕ) (f : Symbol) (ns : List ℕ) (name : List ℕ) (are : ArePieces h (xs ++ Term n ∷ [])) (term : term_at h n ≡ term_over h f ns) (there : All (IsThere h) ns) (named : name_at h.symbols f ≡ Some name) (pushed : after ≡ xs ++ over_arguments ns) where
    whole : texts h (xs ++ Term n ∷ []) ≡ name ++ texts h after
    whole =
        texts-push xs (Term n)
        ∙ ap (λ t. text h.symbols t ++ texts h xs) term
        ∙ append_assoc (spell f) (in_parentheses spell (trees_of (map (term_at h) ns))) (texts h xs)
        ∙ (λ i. unwrap_or (named i) [] ++ (sym (texts-arguments ns xs) ∙ ap (texts h) (sym pushed)) i)

    pub reads_term : (bytes rest : List ℕ) → bytes ≡ name ++ rest → Reads h (xs ++ Term n ∷ []) after bytes rest
    reads_term bytes rest is = record {
      begin = name;
      bytes_are = is;
      texts_are = whole;
      pieces = subst (ArePieces h) (sym pushed) (All-append (IsPiece h) xs (over_arguments ns) (others_there xs (Term n) are) (pieces_over ns there));
      less =
          (let a = ap (left h) pushed ∙ left-append xs (over_arguments ns) in
          let b = left-append xs (Term n ∷ []) in
          let c = left-one (Term n) in
          let d = ap weight term in
          let e = left-arguments ns in
          omega (arith, a, b, c, d, e));
    }

    pub apart_term : (bytes : List ℕ) → ((more : List ℕ) → bytes ≡ name ++ more → ⊥) → bytes ≡ texts h (xs ++ Term n ∷ []) → ⊥
    apart_term bytes never e = never (texts h after) (e ∙ whole)

  pub reads_byte : (xs : List Piece) (b : ℕ) (bytes rest : List ℕ) → ArePieces h (xs ++ Byte b ∷ []) → bytes ≡ b ∷ rest → Reads h (xs ++ Byte b ∷ []) xs bytes rest
  reads_byte xs b bytes rest are is = record {
    begin = b ∷ [];
    bytes_are = is;
    texts_are = texts-push xs (Byte b);
    pieces = others_there xs (Byte b) are;
    less = (let a = left-append xs (Byte b ∷ []) in let c = left-one (Byte b) in omega (arith, a, c));
  }

  pub apart_byte : (xs : List Piece) (b : ℕ) (bytes : List ℕ) → ((more : List ℕ) → bytes ≡ b ∷ more → ⊥) → bytes ≡ texts h (xs ++ Byte b ∷ []) → ⊥
  apart_byte xs b bytes never e = never (texts h xs) (e ∙ texts-push xs (Byte b))

-- ---- what was read of a line

append_same : (xs ys zs : List ℕ) → xs ++ ys ≡ xs ++ zs → ys ≡ zs
append_same [] ys zs e = e
append_same (x ∷ xs) ys zs e = let t : xs ++ ys ≡ xs ++ zs = cc in append_same xs ys zs t

pub record Ahead (h : Held) (line t rest : List ℕ) (pieces : List Piece) : Type 0 where
  pub done : List ℕ
  pub line_is : line ≡ done ++ rest
  pub text_is : t ≡ done ++ texts h pieces
  pub are : ArePieces h pieces

pub ahead_at_first : (h : Held) (n : ℕ) (line : List ℕ) (pieces : List Piece) → IsThere h n → pieces ≡ Term n ∷ [] → Ahead h line (text h.symbols (term_at h n)) line pieces
ahead_at_first h n line pieces there e = record {
  done = [];
  line_is = refl;
  text_is = sym (ap (texts h) e ∙ texts-push h [] (Term n) ∙ append-nil (text h.symbols (term_at h n)));
  are = subst (ArePieces h) (sym e) one;
}
  where
    one : ArePieces h (Term n ∷ [])
    one k d = elim k as (λ (k : ℕ). k < length (Term n ∷ []) → IsPiece h (get_or (Term n ∷ []) k d)) [ zero ↦ λ _. there | suc k ↦ λ lt. absurd (omega arith) ]

pub ahead_on : (h : Held) (line t bytes rest : List ℕ) (old before after : List Piece) → old ≡ before → Reads h before after bytes rest → Ahead h line t bytes old → Ahead h line t rest after
ahead_on h line t bytes rest old before after same r a = record {
  done = a.done ++ r.begin;
  line_is = a.line_is ∙ ap (λ bs. a.done ++ bs) r.bytes_are ∙ sym (append_assoc a.done r.begin rest);
  text_is = a.text_is ∙ ap (λ ps. a.done ++ texts h ps) same ∙ ap (λ bs. a.done ++ bs) r.texts_are ∙ sym (append_assoc a.done r.begin (texts h after));
  are = r.pieces;
}

pub ahead_apart : (h : Held) (line t bytes : List ℕ) (old before : List Piece) → old ≡ before → (bytes ≡ texts h before → ⊥) → Ahead h line t bytes old → line ≡ t → ⊥
ahead_apart h line t bytes old before same never a e =
    never (append_same a.done bytes (texts h before) (sym a.line_is ∙ e ∙ a.text_is ∙ ap (λ ps. a.done ++ texts h ps) same))

pub ahead_ends : (h : Held) (line t rest : List ℕ) (pieces : List Piece) → pieces ≡ [] → Ahead h line t rest pieces → (rest ≡ [] → line ≡ t) × (line ≡ t → rest ≡ [])
ahead_ends h line t rest pieces e a =
    let whole : t ≡ a.done ++ [] = a.text_is ∙ ap (λ ps. a.done ++ texts h ps) e in
    ((λ n. a.line_is ∙ ap (λ bs. a.done ++ bs) n ∙ sym whole), (λ s. append_same a.done rest [] (sym a.line_is ∙ s ∙ whole)))

-- ---- a piece is taken

pub takes_byte : (h : Held) (xs : List Piece) (piece : Piece) (b : ℕ) (bytes : List ℕ) (r : Option (Bor (List ℕ))) → piece ≡ Byte b → ArePieces h (xs ++ piece ∷ []) → MatchOption r ((more : List ℕ) → bytes ≡ b ∷ more → ⊥) (λ after. bytes ≡ b ∷ after.now) → Takes h (xs ++ piece ∷ []) xs bytes (option_map (λ (a : Bor (List ℕ)). a.now) r)
takes_byte h xs piece b bytes None is are m = subst (λ (q : Piece). bytes ≡ texts h (xs ++ q ∷ []) → ⊥) (sym is) (apart_byte h xs b bytes m)
takes_byte h xs piece b bytes (Some a) is are m = subst (λ (q : Piece). Reads h (xs ++ q ∷ []) xs bytes a.now) (sym is) (reads_byte h xs b bytes a.now (subst (λ (q : Piece). ArePieces h (xs ++ q ∷ [])) is are) m)

pub takes_term : (h : Held) (xs after : List Piece) (piece : Piece) (n : ℕ) (f : Symbol) (ns name bytes : List ℕ) (r : Option (Bor (List ℕ))) → piece ≡ Term n → ArePieces h (xs ++ piece ∷ []) → term_at h n ≡ term_over h f ns → All (IsThere h) ns → name_at h.symbols f ≡ Some name → after ≡ xs ++ over_arguments ns → MatchOption r ((more : List ℕ) → bytes ≡ name ++ more → ⊥) (λ rest. bytes ≡ name ++ rest.now) → Takes h (xs ++ piece ∷ []) after bytes (option_map (λ (a : Bor (List ℕ)). a.now) r)
takes_term h xs after piece n f ns name bytes None is are t there named pushed m =
    subst (λ (q : Piece). bytes ≡ texts h (xs ++ q ∷ []) → ⊥) (sym is) (apart_term h xs after n f ns name (subst (λ (q : Piece). ArePieces h (xs ++ q ∷ [])) is are) t there named pushed bytes m)
takes_term h xs after piece n f ns name bytes (Some a) is are t there named pushed m =
    subst (λ (q : Piece). Reads h (xs ++ q ∷ []) after bytes a.now) (sym is) (reads_term h xs after n f ns name (subst (λ (q : Piece). ArePieces h (xs ++ q ∷ [])) is are) t there named pushed bytes a.now m)

pub term_of_piece : (h : Held) (xs : List Piece) (piece : Piece) (n : ℕ) → piece ≡ Term n → ArePieces h (xs ++ piece ∷ []) → IsThere h n
term_of_piece h xs piece n is are = term_there h xs n (subst (λ (q : Piece). ArePieces h (xs ++ q ∷ [])) is are)

-- ---- after a piece was taken

pub ahead_goes_on : (h : Held) (line t bytes : List ℕ) (old before after : List Piece) (r : Option (Bor (List ℕ))) (rest : Bor (List ℕ)) → old ≡ before → Takes h before after bytes (option_map (λ (a : Bor (List ℕ)). a.now) r) → r ≡ Some rest → Ahead h line t bytes old → (Ahead h line t rest.now after) × (left h after < left h old)
ahead_goes_on h line t bytes old before after r rest same takes e a =
    let reads : Reads h before after bytes rest.now = subst (λ (o : Option (Bor (List ℕ))). Takes h before after bytes (option_map (λ (a : Bor (List ℕ)). a.now) o)) e takes in
    let n = ap (left h) same in
    let less = reads.less in (ahead_on h line t bytes rest.now old before after same reads a, omega (arith, n, less))

pub ahead_never : (h : Held) (line t bytes : List ℕ) (old before after : List Piece) (r : Option (Bor (List ℕ))) → old ≡ before → Takes h before after bytes (option_map (λ (a : Bor (List ℕ)). a.now) r) → r ≡ None → Ahead h line t bytes old → line ≡ t → ⊥
ahead_never h line t bytes old before after r same takes e a =
    ahead_apart h line t bytes old before same (subst (λ (o : Option (Bor (List ℕ))). Takes h before after bytes (option_map (λ (a : Bor (List ℕ)). a.now) o)) e takes) a

-- ---- bytes that don't begin with a name

pub begins_not : (name bytes start : List ℕ) (b : Bool) → start ≡ take (length name) bytes → b ≡ pointwise nat_eq start name → b ≡ false → (more : List ℕ) → bytes ≡ name ++ more → ⊥
begins_not name bytes start b front e f more is =
    let same : start ≡ name = front ∙ ap (take (length name)) is ∙ take_front name more (length name) refl in
    let t : b ≡ true = e ∙ (bytes_decides start name).1 same in
    true≢false (sym t ∙ f)

-- ---- at the end

none_left : (pieces : List Piece) → length pieces ≡ 0 → pieces ≡ []
none_left [] e = refl
none_left (p ∷ ps) e = absurd (omega arith)

none_length : (bytes : List ℕ) → length bytes ≡ 0 → bytes ≡ []
none_length [] e = refl
none_length (b ∷ bs) e = absurd (omega arith)

pub ahead_finally : (h : Held) (line t rest : List ℕ) (pieces : List Piece) (b : Bool) → length pieces ≡ 0 → b ≡ eqb (length rest) 0 → Ahead h line t rest pieces → (IsTrue b → line ≡ t) × (line ≡ t → IsTrue b)
ahead_finally h line t rest pieces b e is a =
    let d = ahead_ends h line t rest pieces (none_left pieces e) a in
    ((λ so. d.0 (none_length rest (eqb-true (length rest) 0 (sym is ∙ so)))), (λ s. is ∙ eq-eqb (length rest) 0 (ap (λ (bs : List ℕ). length bs) (d.1 s))))
