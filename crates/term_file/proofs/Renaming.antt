-- A symbol that is numbered as terms use it.
use Rattle.std.proofs.Common.{◌≡◌, ℕ, zero, suc, ◌<◌, Bool, true, false, ◌&&◌, ltb, leb, eqb, List, [], ◌∷◌, ◌++◌, length, slice_get, Option, Some, None, refl, sym, ap, subst, ◌∙◌, arith, inl, inr, ◌⊎◌}
use Rattle.std.specs.Option.{option_map_or}
use Rattle.std.specs.List.{list_all}
use Rattle.std.specs.Cmp.{first_so, second_so}
use Rattle.std.proofs.lemmas.Bool.{lt-ltb, leb-true, eqb-true}
use Rattle.std.proofs.lemmas.Option.{same_Some, slice_get_within}
use Rattle.symbol_pool.specs.Pool.{Named, IsPool}
use Rattle.term_model.specs.declared.Head.{Head}
use Rattle.term_model.specs.declared.Head.TheVariants as head
use Rattle.term_model.specs.declared.Item.{Item}
use Rattle.term_model.specs.declared.Item.TheVariants.{Var, App, Int, Nil, Cons}
use Rattle.term_model.specs.Postorder.{head_of, arity_of}
use Rattle.symbol_pool.specs.Taking.{has}
use Rattle.tree_text.specs.NameBytes.{is_printable}
use Rattle.tree_text.specs.Canonical.{is_writable_symbol}
use Rattle.symbol_pool.proofs.Taking.{has_from, lacks_it, with_old, with_new}
use Rattle.term_file.specs.Right.{is_right_symbol, is_new_symbol, is_right_head, arity_in}
use Rattle.term_file.specs.NamedTree.{Called, named_head}
use Rattle.term_file.specs.Sharing.{IsPart, Numbers, NumbersHead, is_writable_item}
use Rattle.term_file.proofs.SymbolFields.{both_true}
use Rattle.term_file.proofs.Tables.{slice_get-behind}
use Rattle.term_file.proofs.TableLaws.{new_symbol}

-- the symbols are as before, or there is one more, which the head uses
pub record Grown (old new : List Named) (g : Head) : Type 0 where
  pub symbol : Named
  pub is_new : new ≡ old ++ symbol ∷ []
  pub uses : g ≡ head.App (record { 0 = length old })
  pub right : is_right_symbol old symbol ≡ true

pub record Stayed (old new : List Named) (g : Head) : Type 0 where
  pub is_old : new ≡ old
  pub right : is_right_head old g ≡ true

pub record Renamed (names old new : List Named) (h g : Head) (n : ℕ) : Type 0 where
  pub same : named_head names h ≡ named_head new g
  pub right : is_right_head new g ≡ true
  pub arity : arity_in new g ≡ n
  pub pool : IsPool new
  pub part : IsPart new names
  pub by_case : Stayed old new g ⊎ Grown old new g

-- what stands in a list with one more
pub last_or_before : (old : List Named) (s : Named) (i : ℕ) (x : Named) → slice_get (old ++ s ∷ []) i ≡ Some x → (slice_get old i ≡ Some x) ⊎ (x ≡ s)
last_or_before [] s zero x e = let same : s ≡ x = same_Some s x e in inr (sym same)
last_or_before [] s (suc i) x e = absurd cc
last_or_before (y ∷ old) s zero x e = inl e
last_or_before (y ∷ old) s (suc i) x e = last_or_before old s i x e

leb-ltb : (n : ℕ) → leb n 18446744073709551615 ≡ true → ltb n 18446744073709551616 ≡ true
leb-ltb n e = lt-ltb _ _ (omega (arith, leb-true n 18446744073709551615 e))

module _ (names old new : List Named) (part : IsPart old names) where
  module _ (f k n : ℕ) (m : Numbers names f old new n) (writable : is_writable_symbol (slice_get names f) k ≡ true) where
    writes : (eqb m.symbol.arity k && (leb k 16 && (leb (length m.symbol.name) 255 && list_all is_printable m.symbol.name))) ≡ true
    writes = ap (λ o. is_writable_symbol o k) (sym m.named) ∙ writable

    arity : m.symbol.arity ≡ k
    arity = eqb-true _ _ (first_so (eqb m.symbol.arity k) _ writes)

    short : leb k 16 ≡ true
    short = first_so (leb k 16) _ (second_so (eqb m.symbol.arity k) _ writes)

    name_short : leb (length m.symbol.name) 255 ≡ true
    name_short = first_so (leb (length m.symbol.name) 255) _ (second_so (leb k 16) _ (second_so (eqb m.symbol.arity k) _ writes))

    printable : list_all is_printable m.symbol.name ≡ true
    printable = second_so (leb (length m.symbol.name) 255) _ (second_so (leb k 16) _ (second_so (eqb m.symbol.arity k) _ writes))

    here : has names m.symbol ≡ true
    here = has_from names f m.symbol m.named

  by_symbol : (f k n : ℕ) (m : Numbers names f old new n) → is_writable_symbol (slice_get names f) k ≡ true → Renamed names old new (head.App (record { 0 = f })) (head.App (record { 0 = n })) k
  by_symbol f k n m writable = go (has old m.symbol) refl
    where
      within : n < length new
      within = slice_get_within new n m.symbol m.held

      common : IsPart new names → Stayed old new (head.App (record { 0 = n })) ⊎ Grown old new (head.App (record { 0 = n })) → Renamed names old new (head.App (record { 0 = f })) (head.App (record { 0 = n })) k
      common p c = record {
        same = ap Called (m.named ∙ sym m.held);
        right = lt-ltb _ _ within;
        arity = ap (λ (o : Option Named). option_map_or (λ s. s.arity) o 0) m.held ∙ arity f k n m writable;
        pool = m.pool;
        part = p;
        by_case = c;
      }

      go : (b : Bool) → has old m.symbol ≡ b → Renamed names old new (head.App (record { 0 = f })) (head.App (record { 0 = n })) k
      go true h =
          let is_old : new ≡ old = m.grown ∙ with_old old m.symbol h in
          common (subst (λ (ss : List Named). IsPart ss names) (sym is_old) part)
          (inl (record { is_old = is_old; right = lt-ltb _ _ (subst (λ (ss : List Named). n < length ss) is_old within) }))
      go false h =
          let is_new : new ≡ old ++ m.symbol ∷ [] = m.grown ∙ with_new old m.symbol h in
          let last : slice_get new (length old) ≡ Some m.symbol = ap (λ (ss : List Named). slice_get ss (length old)) is_new ∙ slice_get-behind old m.symbol [] in
          let number : n ≡ length old = m.pool.once n (length old) m.symbol m.held last in
          let fresh : true ≡ is_new_symbol old m.symbol = new_symbol old m.symbol None tt (lacks_it old m.symbol h) in
          common
          (record { among = λ i s at. elim (last_or_before old m.symbol i s (ap (λ (ss : List Named). slice_get ss i) (sym is_new) ∙ at)) [ inl l ↦ part.among i s l | inr e ↦ ap (has names) e ∙ here f k n m writable ] })
          (inr (record {
            symbol = m.symbol;
            is_new = is_new;
            uses = ap (λ (j : ℕ). head.App (record { 0 = j })) number;
            right = both_true _ _ (name_short f k n m writable) (both_true _ _ (printable f k n m writable) (both_true _ _ (ap (λ (j : ℕ). leb j 16) (arity f k n m writable) ∙ short f k n m writable) (sym fresh)));
          }))

  -- heads without a symbol
  by_itself : (h g : Head) (n : ℕ) → new ≡ old → g ≡ h → IsPool old → named_head names h ≡ named_head new h → is_right_head old h ≡ true → arity_in old h ≡ n → Renamed names old new h g n
  by_itself h g n is_old is_head pool same right count = record {
    same = same ∙ ap (named_head new) (sym is_head);
    right = ap (λ (ss : List Named). is_right_head ss g) is_old ∙ ap (is_right_head old) is_head ∙ right;
    arity = ap (λ (ss : List Named). arity_in ss g) is_old ∙ ap (arity_in old) is_head ∙ count;
    pool = subst IsPool (sym is_old) pool;
    part = subst (λ (ss : List Named). IsPart ss names) (sym is_old) part;
    by_case = inl (record { is_old = is_old; right = ap (is_right_head old) is_head ∙ right });
  }

  renamed_item : (i : Item) (h g : Head) → IsPool old → is_writable_item names i ≡ true → NumbersHead names i old new g → head_of i ≡ Some h → Renamed names old new h g (arity_of i)
  renamed_item (Var x) h g pool w m is = absurd m
  renamed_item (App f k) h g pool w m is =
      subst (λ (x : Head). Renamed names old new x g k) (same_Some (head.App f) h is)
      (subst (λ (x : Head). Renamed names old new (head.App f) x k) (sym m.1) (by_symbol f.0 k m.0 m.2 w))
  renamed_item (Int v) h g pool w m is =
      subst (λ (x : Head). Renamed names old new x g 0) (same_Some (head.Int v) h is) (by_itself (head.Int v) g 0 m.0 m.1 pool refl (leb-ltb v w) refl)
  renamed_item Nil h g pool w m is = subst (λ (x : Head). Renamed names old new x g 0) (same_Some head.Nil h is) (by_itself head.Nil g 0 m.0 m.1 pool refl refl refl)
  renamed_item Cons h g pool w m is = subst (λ (x : Head). Renamed names old new x g 2) (same_Some head.Cons h is) (by_itself head.Cons g 2 m.0 m.1 pool refl refl refl)

pub renamed : (names old new : List Named) → IsPart old names → (i : Item) (h g : Head) → IsPool old → is_writable_item names i ≡ true → NumbersHead names i old new g → head_of i ≡ Some h → Renamed names old new h g (arity_of i)
renamed names old new part = renamed_item names old new part
