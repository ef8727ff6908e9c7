-- One share after another is cut off.
use Rattle.std.proofs.Common.{◌≡◌, ℕ, zero, suc, ◌+◌, ◌<◌, List, [], ◌∷◌, ◌++◌, length, refl, sym, ap, subst, ◌∙◌, arith}
use mathlib.Core.Logic.{dite}
use native.Mathlib.Decide.{ℕ_discrete}
use Rattle.std.specs.Prelude.{Some, slice_get}
use Rattle.atomic_table.specs.Table.{Me}
use Rattle.atomic_table.specs.Seated.{TableId}
use Rattle.worker_crew.specs.declared.draws.Drawn.{Drawn}
use Rattle.worker_crew.specs.declared.share.Share.{Share}
use Rattle.worker_crew.specs.Dealt.{IsIn, one_less, one_share}
use Rattle.worker_crew.specs.Crews.{IsAt, IsUncut, IsFresh}

get_before : {A : Type 0} (xs ys : List A) (k : ℕ) → k < length xs → slice_get (xs ++ ys) k ≡ slice_get xs k
get_before [] ys k h = absurd (omega arith)
get_before (x ∷ xs) ys zero h = refl
get_before (x ∷ xs) ys (suc k) h = get_before xs ys k (omega arith)

get_last : {A : Type 0} (xs : List A) (y : A) → slice_get (xs ++ y ∷ []) (length xs) ≡ Some y
get_last [] y = refl
get_last (x ∷ xs) y = get_last xs y

-- the share that was cut off has drawn nothing
pub fresh_cut : (table : TableId) (count : ℕ) (v : Drawn) (share : Share) → IsIn table share.seat.table_id share.seat.me (one_share v) → v.end ≡ count → share.lines.items ≡ [] → IsFresh table count share
fresh_cut table count v share cut end no_lines =
    let is : share.seat.me.0 ≡ one_share v = ap (λ m. m.0) cut.me_is in
    record {
      seat = subst (IsIn table share.seat.table_id share.seat.me) (sym is) cut;
      shares = ap (λ (u : Drawn). u.shares) is;
      end = ap (λ (u : Drawn). u.end) is ∙ end;
      past = ap (λ (u : Drawn). u.past) is;
      none = ap (λ (u : Drawn). u.numbers) is;
      no_lines = no_lines;
    }

-- and so has the seat that it was cut off
pub uncut_less : (table of : TableId) (me : Me (Unit {0}) Drawn) (v : Drawn) → IsIn table of me (one_less v) → v.numbers ≡ [] → v.past ≡ 0 → IsUncut table of me me.0
uncut_less table of me v left numbers past =
    let is : me.0 ≡ one_less v = ap (λ m. m.0) left.me_is in
    record {
      seat = subst (IsIn table of me) (sym is) left;
      none = ap (λ (u : Drawn). u.numbers) is ∙ numbers;
      past = ap (λ (u : Drawn). u.past) is ∙ past;
    }

pub crew_more : (table : TableId) (count w : ℕ) (shares new : List Share) (share : Share) → length shares ≡ w → new ≡ shares ++ share ∷ [] → share.worker ≡ w → IsFresh table count share →
    ((k : ℕ) → k < w → IsAt table count k shares) → (k : ℕ) → k < w + 1 → IsAt table count k new
crew_more table count w shares new share long more worker fresh old k h = dite (ℕ_discrete k w)
    (λ e. record {
      share = share;
      at = ap (λ (xs : List Share). slice_get xs k) more ∙ (ap (slice_get (shares ++ share ∷ [])) (e ∙ sym long) ∙ get_last shares share);
      worker = worker ∙ sym e;
      fresh = fresh;
    })
    (λ ne.
    let o = old k (omega arith) in
    record {
      share = o.share;
      at = ap (λ (xs : List Share). slice_get xs k) more ∙ (get_before shares (share ∷ []) k (omega arith) ∙ o.at);
      worker = o.worker;
      fresh = o.fresh;
    })
