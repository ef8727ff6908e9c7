-- Terms are read to their end.
use Rattle.std.proofs.Common.{◌≡◌, ◌∙◌, ℕ, suc, ◌+◌, List, [], ◌∷◌, ◌++◌, refl, ap, arith, append_assoc, Some}
use Rattle.rec_reader.specs.declared.token.Name.{Name}
use Rattle.rec_reader.specs.declared.token.Token.{Token}
use Rattle.rec_reader.specs.declared.token.Token.TheVariants.{Named, At}
use Rattle.rec_reader.specs.declared.token.Sign.TheVariants.{Close}
use Rattle.rec_reader.specs.declared.syntax_tree.Node.{Node}
use Rattle.rec_reader.specs.declared.syntax_tree.Specification.{Specification}
use Rattle.rec_reader.specs.declared.machine.Purpose.{Purpose}
use Rattle.rec_reader.specs.declared.machine.Part.TheVariants.{Expected, Headed, Whole}
use Rattle.rec_reader.specs.declared.machine.Place.TheVariants.{Within}
use Rattle.rec_reader.specs.declared.machine.Machine.{Machine}
use Rattle.rec_reader.specs.Grammar.{Arguments, IsTerm, constant, call, IsArguments, only, more}
use Rattle.rec_reader.specs.Steps.{step}
use Rattle.rec_reader.proofs.Outcome.{outcome, go_on}
use Rattle.rec_reader.proofs.Leaving.{settle}

-- nodes of a term after those that were read
abbrev pub grown : List Node → Machine → Machine
grown t m = record m { nodes = m.nodes ++ t }

-- within the arguments of a head, of which as many came before
abbrev pub under : Name → ℕ → Machine → Machine
under h n m = record m { heads = record { head = h; count = n } ∷ m.heads }

-- the head after its arguments
abbrev pub closed : Name → ℕ → Machine → Machine
closed h n m = grown (record { head = h; count = n } ∷ []) m

closed_call : (m : Machine) (xs : List Node) (h : Name) (c : ℕ) → closed h (0 + c) (grown xs m) ≡ grown (xs ++ record { head = h; count = c } ∷ []) m
closed_call m xs h c =
    let none : 0 + c ≡ c = omega arith in
    ap (λ d. closed h d (grown xs m)) none ∙ ap (λ ys. record m { nodes = ys }) (append_assoc m.nodes xs (record { head = h; count = c } ∷ []))

closed_more : (m : Machine) (t xs : List Node) (h : Name) (c d : ℕ) → closed h (c + 1 + d) (grown xs (grown t m)) ≡ closed h (c + suc d) (grown (t ++ xs) m)
closed_more m t xs h c d =
    let sum : c + 1 + d ≡ c + suc d = omega arith in
    ap (λ n. closed h n (grown xs (grown t m))) sum ∙ ap (λ ys. closed h (c + suc d) (record m { nodes = ys })) (append_assoc m.nodes t xs)

mutual
  -- after a term, in the same place wherever it began
  pub term_read : {ts us : List Token} {t : List Node} {s : List Specification} → IsTerm ts t us → (purpose : Purpose) (m0 m : Machine) → ((n : Name) → step m0 (Named n) ≡ Some (record m { place = Within purpose Headed; head = n })) → ((n : Name) → outcome (record (grown t m) { place = Within purpose Whole; head = n }) us ≡ Some s) → outcome m0 ts ≡ Some s
  term_read {us = us} (constant {n}) purpose m0 m h k = go_on _ _ _ _ (h n) (settle (record m { head = n }) purpose us (k n))
  term_read {us = us} (call {n = n} {a = a} args) purpose m0 m h k =
      go_on _ _ _ _ (h n) (go_on _ _ _ (record (under n 0 m) { place = Within purpose Expected; head = n }) refl
      (arguments_read {us = us} args purpose n 0 (record (under n 0 m) { place = Within purpose Expected; head = n }) m (λ o. refl) (λ o. ap (λ f. outcome (record f { place = Within purpose Whole; head = o }) us) (closed_call m a.nodes n a.count) ∙ k o)))

  pub arguments_read : {ts us : List Token} {a : Arguments} {q : ℕ} {s : List Specification} → IsArguments ts a (At Close q ∷ us) → (purpose : Purpose) (f : Name) (c : ℕ) (m0 m : Machine) → ((n : Name) → step m0 (Named n) ≡ Some (record (under f c m) { place = Within purpose Headed; head = n })) → ((n : Name) → outcome (record (closed f (c + a.count) (grown a.nodes m)) { place = Within purpose Whole; head = n }) us ≡ Some s) → outcome m0 ts ≡ Some s
  arguments_read (only {t = t} x) purpose f c m0 m h k =
      term_read x purpose m0 (under f c m) h (λ o. go_on _ _ _ (record (closed f (c + 1) (grown t m)) { place = Within purpose Whole; head = o }) refl (k o))
  arguments_read {us = us} (more {t = t} {a = a} x r) purpose f c m0 m h k =
      term_read x purpose m0 (under f c m) h (λ o. go_on _ _ _ (record (under f (c + 1) (grown t m)) { place = Within purpose Expected; head = o }) refl
      (arguments_read {us = us} r purpose f (c + 1) (record (under f (c + 1) (grown t m)) { place = Within purpose Expected; head = o }) (grown t m) (λ o2. refl) (λ o2. ap (λ g. outcome (record g { place = Within purpose Whole; head = o2 }) us) (closed_more m t a.nodes f c a.count) ∙ k o2)))
