-- What a collection leaves keeps its names and trees.
use Rattle.std.proofs.Common.{◌≡◌, ℕ, zero, suc, pred, ◌+◌, ◌*◌, ◌<◌, Bool, false, cond, None, List, [], ◌∷◌, ◌++◌, refl, ap, ◌∙◌, arith}
use Rattle.std.specs.Prelude.{Contains}
use Rattle.history_core.specs.declared.entry.Entry.{Entry}
use Rattle.history_core.specs.declared.entry.Entry.TheVariants.{Collect}
use Rattle.history_core.specs.Entry.{place}
use Rattle.history_core.specs.Entry as entry
use Rattle.history_core.specs.TermSet.{TermSet, empty, is_one_of}
use Rattle.history_core.specs.Chronicle.{History, precedes, put, chronicle, IsNoted, set_of}
use Rattle.history_core.proofs.Merge.{noting_puts_in}
use Rattle.history_core.proofs.Chronicles.{has_the_noted}
use Rattle.history_core.proofs.Growing.{left_parts}
use Rattle.history_core.proofs.Members.{contains_here, contains_there}
use Rattle.history_core.proofs.Places.{lower_goes_first}
use Rattle.history_core.proofs.Sound.{one_of, of_one}
use Rattle.store_model.specs.Words as words
use Rattle.store_model.specs.Words.{Base, Claim, InUse}
use Rattle.store_model.specs.Calls.{View}
use Rattle.store_model.specs.Invariant.{listed}
use Rattle.store_model.specs.Collection.{collected}
use Rattle.store_model.specs.Steps.{names_left, CoreHolds}
use Rattle.store_model.specs.Laws.{held_by, CollectionKeepsTrees}
use Rattle.store_model.proofs.Histories.{listed_length, lists_noted}
use Rattle.store_model.proofs.ByWords.{by_words}
use Rattle.store_model.proofs.Eight.{core_of}
use Rattle.store_model.proofs.Ends.{collection_keeps_reached}
use Rattle.store_model.proofs.Wrapped.{not_true}

-- an entry before which all stand is put at the end
pub at_end : (x : ℕ × Entry) (l : History) → ((y : ℕ × Entry) → Contains l y → precedes x y ≡ false) → put x l ≡ l ++ x ∷ []
at_end x [] last = refl
at_end x (y ∷ ys) last = ap (λ (b : Bool). cond b (x ∷ y ∷ ys) (y ∷ put x ys)) (last y (contains_here y ys)) ∙ ap (λ (l : History). y ∷ l) (at_end x ys (λ q c. last q (contains_there y ys q c)))

pub pred_one : (n : ℕ) → pred (n + 1) ≡ n
pred_one zero = refl
pred_one (suc n) = omega arith

pub collection_keeps_trees : CollectionKeepsTrees
collection_keeps_trees z s i r k ok =
    let core : CoreHolds z s = core_of z s k in
    let fits = (k.strengthened.remembers.reads i).room in
    let end = by_words z s core i ok.step.permitted.0 fits ok.step.permitted.1 in
    let base : s.words Base ≡ k.began Base + k.began Claim + 1 = end.1.base in
    let number : ℕ = pred (s.words Base) in
    let number_is : number ≡ k.began Base + k.began Claim = ap pred base ∙ pred_one (k.began Base + k.began Claim) in
    let kept : List ℕ = names_left z s.words in
    let e : Entry = Collect number kept in
    let v : View = collected (s.view i) (s.words Base) number (s.words InUse) kept in
    let lists = listed z.seats (λ j. (s.view j).entries) in
    let low : (y : ℕ × Entry) → IsNoted lists y → place y.1 < 2 * number = (λ y noted. let a = k.strengthened.holds.history.own y.0 y.1 noted.own in let b = (k.strengthened.holds.seats y.0).numbers.seen in omega arith) in
    let all : chronicle (listed z.seats (λ j. (words.put s.view i v j).entries)) ≡ chronicle lists ++ (i, e) ∷ [] =
    ap chronicle (lists_noted z.seats s.view i v e ok.step.present refl)
    ∙ (noting_puts_in lists i e (let a = listed_length z.seats (λ j. (s.view j).entries) in let b = ok.step.present in omega arith)
    ∙ at_end (i, e) (chronicle lists) (λ y c. lower_goes_first (i, e) y (low y ((has_the_noted lists y).0 c)))) in
    let left : set_of (chronicle (listed z.seats (λ j. (words.put s.view i v j).entries))) ≡ entry.after (set_of (chronicle lists)) i e = ap set_of all ∙ left_parts empty (chronicle lists) ((i, e) ∷ []) in
    let now : held_by z (words.put s.view i v) r ≡ cond (is_one_of kept r) (held_by z s.view r) None = ap (λ (t : TermSet). t.held r) left in
    let reached = collection_keeps_reached z s i k ok in (
      (λ y. now ∙ ap (λ (b : Bool). cond b (held_by z s.view r) None) (one_of kept r ((reached.1 r).1 y))),
      λ not. now ∙ ap (λ (b : Bool). cond b (held_by z s.view r) None) (not_true (is_one_of kept r) (λ t. not ((reached.1 r).0 (of_one kept r t)))),
    )
