-- Where its epoch ends a pass forgets no protected row, and none under one.
use Rattle.std.proofs.Common.{◌≡◌, inl, inr, ℕ, true, List, [], ◌∷◌, refl, sym, subst}
use mathlib.Core.Logic.{dite}
use native.Mathlib.Decide.{ℕ_discrete}
use Rattle.store_model.specs.declared.view.KnownWord.{KnownWord}
use Rattle.store_model.specs.declared.view.Sizes.{Sizes}
use Rattle.store_model.specs.declared.view.View.{View}
use Rattle.store_model.specs.Machine.{Each, In, protected_in, words_kept, based}
use Rattle.store_model.specs.Collection.{collected}
use Rattle.store_model.specs.ByView.{KnowsWord}
use Rattle.store_model.specs.Leading.{LeadsTo, leads_first}
use Rattle.store_model.proofs.Leading.{keeps_their_words, entry_keeps}
use Rattle.node_rows.specs.Knowing.{KnowsTree}
use Rattle.node_rows.specs.Keeping.{KeepsLed}
use Rattle.node_rows.proofs.Keeping.{entry_keeps_led, collection_keeps_led}
use Rattle.shared_desk.specs.Held.{names, Has, IsWhole, Forgets}
use Rattle.shared_desk.proofs.Trees.{names_word, word_names}

-- each of these rows is one of those that they lead to
led_each : (ks : List KnownWord) (rows rs : List ℕ) → ((r : ℕ) → In r rs → In r rows) → Each (LeadsTo ks rows) rs
led_each ks rows [] f = tt
led_each ks rows (r ∷ rs) f = (leads_first r (f r (inl refl)), led_each ks rows rs (λ q i. f q (inr i)))

each_has : (v : View) (ws : List KnownWord) → ((r k n : ℕ) → LeadsTo v.knows (protected_in v) r → KnowsWord r k n v.knows → KnowsWord r k n ws) → (rs : List ℕ) → Each (LeadsTo v.knows (protected_in v)) rs
    → Each (Has v) rs → Each (λ r. names r ws ≡ true) rs
each_has v ws stays [] led has = tt
each_has v ws stays (r ∷ rs) led has =
    let t = names_word r v.knows has.0 in
    (word_names r t.0 t.1 ws (stays r t.0 t.1 led.0 t.2), each_has v ws stays rs led.1 has.1)

-- a pass that keeps the words of the rows that its protected rows lead to
pub kept_forgets : (v w : View) → w.knows ≡ words_kept v → KeepsLed v w → Forgets v w
kept_forgets v w e k =
    let out : (r i n : ℕ) → KnowsWord r i n w.knows → LeadsTo v.knows (protected_in v) r × KnowsWord r i n v.knows =
    λ r i n h. (keeps_their_words v r i n).0 (subst (λ (ks : List KnownWord). KnowsWord r i n ks) e h) in
    let led : (r : ℕ) → Has w r → LeadsTo v.knows (protected_in v) r = λ r has. (let t = names_word r w.knows has in (out r t.0 t.1 t.2).0) in
    record {
      knows = λ r i n h. (out r i n h).1;
      trees = λ r t has h. k.trees r t (led r has) h;
      uses = λ r has. k.uses r (led r has);
      protects = λ has. each_has v w.knows (λ r i n l h. subst (λ (ks : List KnownWord). KnowsWord r i n ks) (sym e) ((keeps_their_words v r i n).1 (l, h))) (protected_in v)
          (led_each v.knows (protected_in v) (protected_in v) (λ r i. i)) has;
    }

-- the load of a base
pub based_forgets : (z : Sizes) (v : View) (n : ℕ) → IsWhole z v → Forgets v (based v n)
based_forgets z v n h = dite (ℕ_discrete n v.base)
    (λ same. (let e = (entry_keeps v n).1 same in
    record {
      knows = λ r i m k. subst (λ (ks : List KnownWord). KnowsWord r i m ks) e.1 k;
      trees = λ r t has k. subst (λ (ks : List KnownWord). KnowsTree ks r t) (sym e.1) k;
      uses = λ r has. subst (In r) (sym e.0) (h.rows r (subst (λ (ks : List KnownWord). names r ks ≡ true) e.1 has)).uses;
      protects = λ has. subst (λ (ks : List KnownWord). Each (λ r. names r ks ≡ true) (protected_in v)) (sym e.1) has;
    }))
    (λ other. (let e = (entry_keeps v n).0 other in
    let k = entry_keeps_led v n 0 other in
    kept_forgets v (based v n) e.1 record { uses = k.uses; trees = k.trees; leads = k.leads }))

-- the end of a collection
pub collected_forgets : (v : View) (base number in_use : ℕ) (kept : List ℕ) → Forgets v (collected v base number in_use kept)
collected_forgets v base number in_use kept = kept_forgets v (collected v base number in_use kept) refl (collection_keeps_led v base number in_use kept)
