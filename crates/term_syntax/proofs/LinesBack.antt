-- The canonical texts of terms, each with a line feed, are read back as these terms.
use Rattle.std.proofs.Common.{◌≡◌, ◌∙◌, ℕ, ◌+◌, List, [], ◌∷◌, ◌++◌, length, map, refl, ap, sym, subst, append-nil, Ok, All}
use Rattle.std.proofs.lemmas.List.Elements.{All-head, All-tail, All-nil, All-cons}
use Rattle.term_model.specs.Tree.{Tree}
use Rattle.symbol_pool.specs.Pool.{Named, IsPool}
use Rattle.term_syntax.specs.Token.{Token}
use Rattle.term_syntax.specs.Tokens.{tokens_from}
use Rattle.term_syntax.specs.Written.{Written}
use Rattle.term_syntax.specs.TermGrammar.{IsInput, none, next}
use Rattle.term_syntax.specs.Parts.{parts_of_input, taken_up}
use Rattle.term_syntax.specs.TakenUp.{tree_in}
use Rattle.tree_text.specs.Canonical.{canonical, canonical_lines, IsWritable}
use Rattle.term_syntax.specs.Reading.{IsReading}
use Rattle.term_syntax.proofs.Cutting.{after_tokens}
use Rattle.term_syntax.proofs.TokensBack.{line_feed_back}
use Rattle.term_syntax.proofs.TermsBack.{tree_back}
use Rattle.term_syntax.proofs.TakingTerms.{taking_input}
use Rattle.term_syntax.proofs.Readings.{only_one}

module _ (names : List Named) (pool : IsPool names) where
  record LinesBack (p : ℕ) (ts : List Tree) : Type 0 where
    tokens : List Token
    terms : List Written
    cut : tokens_from p 0 (canonical_lines names ts) ≡ Ok tokens
    spelled : IsInput tokens terms
    are : ts ≡ map (tree_in names) terms
    taken : taken_up names (parts_of_input terms) ≡ Ok names

  lines_back : (ts : List Tree) → All (IsWritable names) ts → (p : ℕ) → LinesBack p ts
  lines_back [] h p = record { tokens = []; terms = []; cut = refl; spelled = none; are = refl; taken = refl }
  lines_back (t ∷ ts) h p =
      let w = All-head (IsWritable names) t ts h in
      let lines = canonical_lines names ts in
      let q = p + length (canonical names t) in
      let x = tree_back names pool t w.writable w.well_formed p (10 ∷ lines) (record { name = refl; digits = refl }) in
      let y = lines_back ts (All-tail (IsWritable names) t ts h) (q + 1) in
      record {
        tokens = x.tokens ++ y.tokens;
        terms = x.term ∷ y.terms;
        cut = x.cut ∙ ap (after_tokens x.tokens) (line_feed_back lines q ∙ y.cut);
        spelled = next (x.spelled y.tokens) y.spelled;
        are = λ i. sym x.is i ∷ y.are i;
        taken = x.harmless (parts_of_input y.terms) ∙ y.taken;
      }

  pub read_back : (ts : List Tree) → All (IsWritable names) ts → IsReading (canonical_lines names ts) names names ts
  read_back ts h =
      let x = lines_back ts h 0 in
      record {
        terms = x.terms;
        spelled = record { tokens = x.tokens; cut = x.cut; spelled = x.spelled };
        taken = sym (taking_input x.terms names) ∙ x.taken;
        trees_are = x.are;
      }

  pub alone_back : (t : Tree) → IsWritable names t → IsReading (canonical names t) names names (t ∷ [])
  alone_back t w =
      let x = tree_back names pool t w.writable w.well_formed 0 [] (record { name = refl; digits = refl }) in
      record {
        terms = x.term ∷ [];
        spelled = record {
          tokens = x.tokens ++ [];
          cut = sym (ap (tokens_from 0 0) (append-nil (canonical names t))) ∙ x.cut;
          spelled = next (x.spelled []) none;
        };
        taken = sym (taking_input (x.term ∷ []) names) ∙ x.harmless (parts_of_input []);
        trees_are = λ i. sym x.is i ∷ [];
      }

  pub nothing_else : (new : List Named) (ts us : List Tree) → All (IsWritable names) ts → IsReading (canonical_lines names ts) names new us → (new ≡ names) × (us ≡ ts)
  nothing_else new ts us h r = only_one (canonical_lines names ts) names names new ts us (read_back ts h) r

  pub one_terms : (t u : Tree) → IsWritable names t → IsWritable names u → canonical names t ≡ canonical names u → t ≡ u
  one_terms t u h k e =
      let P : Tree → Type 0 = IsWritable names in
      let r = read_back (u ∷ []) (All-cons P u [] k (All-nil P)) in
      let s : IsReading (canonical_lines names (t ∷ [])) names names (u ∷ []) = subst (λ bytes. IsReading bytes names names (u ∷ [])) (ap (λ xs. xs ++ 10 ∷ []) (sym e)) r in
      let same : u ∷ [] ≡ t ∷ [] = (nothing_else names (t ∷ []) (u ∷ []) (All-cons P t [] h (All-nil P)) s).1 in
      cc
