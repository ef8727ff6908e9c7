-- What a row's words are the words of.
use Rattle.std.proofs.Common.{◌≡◌, ◌≢◌, ℕ, zero, suc, ◌<◌, eqb, List, [], ◌∷◌, length, get_or, refl, sym, ap, ◌∙◌, subst, arith}
use Rattle.std.specs.Prelude.{MatchBool}
use Rattle.term_model.specs.declared.Head.{Head}
use Rattle.term_model.specs.declared.Head.TheVariants.{App, Int, Nil, Cons}
use Rattle.hash_buckets.specs.Spelled.{spelled}
use Rattle.store_model.specs.Words.{row_at}
use Rattle.store_model.specs.declared.view.Place.{Place}
use Rattle.store_model.specs.declared.view.Place.TheVariants.{RowWord}
use Rattle.store_model.specs.Calls.{IsOver, bucket}
use Rattle.store_model.specs.declared.view.Content.{Content}
use Rattle.store_model.specs.declared.view.Sizes.{Sizes}
use Rattle.store_model.specs.Meaning.{Matches}
use Rattle.store_core.specs.RowLists.{IsList, IsPast}
use Rattle.store_core.specs.declared.machine.row_lists.RowList.TheVariants.{Arguments}
use Rattle.store_model.specs.MarkedChains.{HasWords, HasContent, HasNone, StandsIn, Strays}
use Rattle.store_model.proofs.Basics.{each_in, eqb_is, eqb_not}
use Rattle.store_model.proofs.Gains.{argument_at, two_words, enough_words}
use Rattle.store_model.proofs.Histories.{content_once}
use Rattle.store_core.proofs.Outcomes.{match_by}

pub none_of : (xs : List ℕ) → length xs ≡ 0 → xs ≡ []
none_of [] e = refl
none_of (x ∷ xs) e = absurd (omega arith)

abbrev pub content : Head → List ℕ → Content
content f xs = record { head = f; arguments = xs }

-- by its first two words, and the others
by_words : (p q : ℕ → ℕ) → p 0 ≡ q 0 → p 1 ≡ q 1 → (n : ℕ) → ((k : ℕ) → suc (suc k) < n → p (suc (suc k)) ≡ q (suc (suc k))) → (m : ℕ) → m < n → p m ≡ q m
by_words p q a b n h zero l = a
by_words p q a b n h (suc zero) l = b
by_words p q a b n h (suc (suc k)) l = h k l

module _ (z : Sizes) (w : Place → ℕ) (r : ℕ) where
  pub has_content : (f : Head) (xs : List ℕ) → IsList z w (Arguments r) xs → HasWords (w (RowWord r 0)) (length xs) (w (RowWord r 2)) f → HasContent w r (content f xs)
  has_content (App f) xs h k = record {
    over = let a = k.0 in let b = k.1 in omega arith;
    words = by_words (λ m. w (RowWord r m)) (λ m. get_or (spelled (App f) xs) m 0) k.0 (sym h.count) (length (spelled (App f) xs)) (λ j l. sym (h.each j (let c = h.count in omega arith)));
  }
  has_content (Int v) xs h k = record {
    over = none_of xs k.1;
    words = by_words (λ m. w (RowWord r m)) (λ m. get_or (spelled (Int v) xs) m 0) k.0 (sym h.count ∙ k.1) 3 (λ j l. let e : 0 ≡ j = omega arith in subst (λ (i : ℕ). w (RowWord r (suc (suc i))) ≡ get_or (spelled (Int v) xs) (suc (suc i)) 0) e k.2);
  }
  has_content Nil xs h k = record {
    over = none_of xs k.1;
    words = by_words (λ m. w (RowWord r m)) (λ m. get_or (spelled Nil xs) m 0) k.0 (sym h.count ∙ k.1) 2 (λ j l. absurd (omega arith));
  }
  has_content Cons xs h k = record {
    over = k.1;
    words = by_words (λ m. w (RowWord r m)) (λ m. get_or (spelled Cons xs) m 0) k.0 (sym h.count ∙ k.1) (length (spelled Cons xs)) (λ j l. sym (h.each j (let c = h.count in omega arith)));
  }

  words_are : (f : Head) (ys : List ℕ) (n : ℕ) → IsOver f ys → Matches (row_at w r) (content f ys) → n ≡ w (RowWord r 1) → HasWords (w (RowWord r 0)) n (w (RowWord r 2)) f
  words_are (App f) ys n o h e = (h 0 (omega arith), (let a = h 0 (omega arith) in omega arith))
  words_are (Int v) ys n o h e = (h 0 (omega arith), e ∙ h 1 (omega arith), h 2 (omega arith))
  words_are Nil ys n o h e = (h 0 (omega arith), e ∙ h 1 (omega arith))
  words_are Cons ys n o h e = (h 0 (omega arith), e ∙ h 1 (omega arith))

  pub none_by_words : (xs : List ℕ) → IsList z w (Arguments r) xs → ((f : Head) → HasWords (w (RowWord r 0)) (length xs) (w (RowWord r 2)) f → ⊥) → HasNone z w r
  none_by_words xs h none c has below = none c.head (words_are c.head c.arguments (length xs) has.over has.words h.count)

  pub none_past : IsPast z w (Arguments r) → HasNone z w r
  none_past p c has below =
      let count = has.words 1 (two_words c.head c.arguments) in
      let within : p.at < get_or (spelled c.head c.arguments) 1 0 = (let l = p.within in omega arith) in
      let is = has.words (suc (suc p.at)) (enough_words c.head c.arguments p.at has.over within) in
      let a = each_in (λ a. a < z.rows) (get_or (spelled c.head c.arguments) (suc (suc p.at)) 0) c.arguments below (argument_at c.head c.arguments p.at has.over within) in
      let b = p.past in omega arith

  pub strays_none : (u b : ℕ) → HasNone z w r → Strays z w u b r
  strays_none u b h c has below e = h c has below

  pub strays_other : (u b : ℕ) (c : Content) → HasContent w r c → (bucket c u ≢ b) → Strays z w u b r
  strays_other u b c has ne d k below e = ne (ap (λ (x : Content). bucket x u) (content_once (row_at w r) c d has.over k.over has.words k.words) ∙ e)

  pub stands_by : (u b n : ℕ) (c : Content) → HasContent w r c → n ≡ bucket c u → MatchBool (eqb n b) (StandsIn w u b r) (Strays z w u b r)
  stands_by u b n c has is = match_by (eqb n b) (StandsIn w u b r) (Strays z w u b r)
      (λ e. record { content = c; has = has; bucket = sym is ∙ eqb_is n b e })
      (λ e. strays_other u b c has (λ same. eqb_not n b e (is ∙ same)))
