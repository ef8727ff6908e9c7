-- The walk over what a specification includes: what its stack of frames comes to.
use Rattle.rec_includes.proofs.Common.{common_steps, ◌≡◌, ℕ, ◌+◌, ◌<◌, List, [], ◌∷◌, ◌++◌, length, take, drop, slice_get, Some, None, refl, sym, ap, subst, ◌∙◌, arith, add-one, take-suc, zero, suc, ◌-◌, ◌*◌, ◌^◌, ◌≤◌, suc-mul, slice_get_within, get_or_from_slice_get, Name, Specification, Frame, brought, with_numbers, headers_of, material_of, includes_at, header_names, IsClosed, after, missing, nat_tests, sum_by}
use Rattle.std.proofs.lemmas.List.Sums.{fold-append, sum_by_push, sum_by-cons}
use Rattle.rec_includes.proofs.Fresh.{with_number, Within, no_numbers, within_none, within_both, has_added, has_before}
use Rattle.rec_includes.proofs.Gathered.{drop_at, drop_all}
use Rattle.rec_includes.proofs.Brought.{no_material, slice_get_none, target_before, brings_nothing, brings_material}
use Rattle.rec_includes.proofs.Materials.{gathered, with_material, material_last, closed_one}
use Rattle.std.proofs.Math.Nat.{pow-suc, one-le-pow, pow-le-pow_right, mul_comm}

-- a frame of the specification with this number, before its entry with this place
abbrev pub frame : (number next : ℕ) → Frame
frame number next = record { number = number; next = next }

module _ (bytes : List ℕ) (xs : List Specification) where
  -- what an entry of the specification with this number brings
  abbrev pub brings : ℕ → Name → List ℕ
  brings n e = brought bytes (headers_of bytes (take n xs)) e

  -- numbers, with what entries of the specification with this number bring
  abbrev pub gathered_at : ℕ → List ℕ → List Name → List ℕ
  gathered_at n m es = gathered bytes (headers_of bytes (take n xs)) m es

  -- the material when a frame is done: what its other entries bring is added, and then its number
  abbrev pub done : Frame → List ℕ → List ℕ
  done v m = with_number (gathered_at v.number m (drop v.next (includes_at xs v.number))) v.number

  -- the material when all frames are done, the last one first
  abbrev pub finish : List ℕ → List Frame → List ℕ
  finish m [] = m
  finish m (v ∷ vs) = done v (finish m vs)

  -- the last frame is done first
  pub finish_last : (m : List ℕ) (vs : List Frame) (v : Frame) → finish m (vs ++ v ∷ []) ≡ finish (done v m) vs
  finish_last m [] v = refl
  finish_last m (u ∷ vs) v = ap (done u) (finish_last m vs v)

  -- what the entries of a frame have brought so far
  abbrev pub told : Frame → List ℕ
  told v = gathered_at v.number [] (take v.next (includes_at xs v.number))

  -- what the entries of each frame have brought is there when the frames above it are done
  abbrev pub AreReady : List ℕ → List Frame → Type 0
  AreReady m [] = Unit {0}
  AreReady m (v ∷ vs) = Within (told v) (finish m vs) × AreReady m vs

  -- one frame more on top
  pub ready_more : (m : List ℕ) (vs : List Frame) (v : Frame) → Within (told v) m → AreReady (done v m) vs → AreReady m (vs ++ v ∷ [])
  ready_more m [] v w r = (w, tt)
  ready_more m (u ∷ vs) v w r = (subst (Within (told u)) (sym (finish_last m vs v)) r.0, ready_more m vs v w r.1)

  -- the frame on top, and those below it
  pub ready_less : (m : List ℕ) (vs : List Frame) (v : Frame) → AreReady m (vs ++ v ∷ []) → Within (told v) m × AreReady (done v m) vs
  ready_less m [] v r = (r.0, tt)
  ready_less m (u ∷ vs) v r = grind (arith, ready_less m vs v r.1, finish_last)

  -- ---- one frame

  -- a specification that is frameed from its first entry on adds its material
  pub done_first : (m : List ℕ) (n : ℕ) → n < length xs → done (frame n 0) m ≡ with_numbers m (material_of bytes xs n)
  done_first m n l = grind (arith, slice_get_none, with_material)

  -- an entry is done before those after it
  pub done_entry : (m : List ℕ) (v : Frame) (e : Name) → slice_get (includes_at xs v.number) v.next ≡ Some e → done v m ≡ done (after v) (with_numbers m (brings v.number e))
  done_entry m v e h = grind (arith, drop_at (includes_at xs v.number) v.next e, slice_get_within, get_or_from_slice_get (includes_at xs v.number) v.next e e h)

  -- where no entry is left, only the number is added
  pub done_last : (m : List ℕ) (v : Frame) → slice_get (includes_at xs v.number) v.next ≡ None → done v m ≡ with_number m v.number
  done_last m v h = grind (arith, drop_all, slice_get_none)

  -- what was brought with the next entry
  pub told_entry : (v : Frame) (e : Name) → slice_get (includes_at xs v.number) v.next ≡ Some e → told (after v) ≡ with_numbers (told v) (brings v.number e)
  told_entry v e h = grind (arith, nat_tests, add-one v.next, take-suc (includes_at xs v.number) v.next e, slice_get_within, get_or_from_slice_get (includes_at xs v.number) v.next e e h, fold-append (λ k n. with_numbers k (brings v.number n)) [] (take v.next (includes_at xs v.number)) (e ∷ []))

  -- the material of a specification is there with its number, where its entries have brought theirs
  pub all_told : (m : List ℕ) (v : Frame) → slice_get (includes_at xs v.number) v.next ≡ None → Within (told v) m → Within (material_of bytes xs v.number) (with_number m v.number)
  all_told m v h w = grind (arith, common_steps, slice_get_none, no_material, material_last)

-- ---- the steps of the walk over what a specification includes

-- the walk is under way: the material is closed, each frame's entries so far have brought theirs when it is on top
-- again, and the material comes to the total when all frames are done
pub record IsUnderWay (bytes : List ℕ) (xs : List Specification) (total material : List ℕ) (frames : List Frame) : Type 0 where
  pub closed : IsClosed bytes xs material
  pub ready : AreReady bytes xs material frames
  pub comes : finish bytes xs material frames ≡ total

module _ (bytes : List ℕ) (xs : List Specification) where
  -- where the frame on top goes on to its next entry, and has what that brings
  module _ (m : List ℕ) (vs : List Frame) (v : Frame) (e : Name) (h : slice_get (includes_at xs v.number) v.next ≡ Some e) where
    abbrev more : List ℕ
    more = with_numbers m (brings bytes xs v.number e)

    goes_on : AreReady bytes xs m (vs ++ v ∷ []) → AreReady bytes xs more (vs ++ after v ∷ [])
    goes_on r = grind (arith, ready_more bytes xs more vs (after v), ready_less bytes xs m vs v r, within_both, has_before, has_added, told_entry bytes xs v e h, done_entry bytes xs m v e h)

    comes_on : finish bytes xs more (vs ++ after v ∷ []) ≡ finish bytes xs m (vs ++ v ∷ [])
    comes_on = grind (arith, nat_tests, finish_last bytes, finish bytes, done_entry bytes)

    -- an entry whose specification isn't missing brings nothing new
    not_missing : IsClosed bytes xs m → missing bytes (header_names xs) m v.number e ≡ None → more ≡ m
    not_missing c none = grind (arith, brings_material, brings_nothing, no_numbers)

    -- an entry that brings nothing new is passed over
    pub passes_over : (total : List ℕ) → missing bytes (header_names xs) m v.number e ≡ None → IsUnderWay bytes xs total m (vs ++ v ∷ []) → IsUnderWay bytes xs total m (vs ++ after v ∷ [])
    passes_over total none w = grind (arith, not_missing, goes_on, comes_on)

    -- a specification that is missing is frameed
    pub goes_into : (total : List ℕ) (p : ℕ) → missing bytes (header_names xs) m v.number e ≡ Some p → IsUnderWay bytes xs total m (vs ++ v ∷ []) →
        IsUnderWay bytes xs total m ((vs ++ after v ∷ []) ++ frame p 0 ∷ [])
    goes_into total p some w = grind (arith, target_before bytes xs v.number e p, done_first bytes xs m p, brings_material bytes xs v.number e p, ready_more bytes xs m (vs ++ after v ∷ []) (frame p 0) (within_none m), goes_on w.ready, finish_last bytes xs m (vs ++ after v ∷ []) (frame p 0), comes_on)

  -- a frame with no entry left adds its number
  pub ends : (m : List ℕ) (vs : List Frame) (v : Frame) (total : List ℕ) → slice_get (includes_at xs v.number) v.next ≡ None → IsUnderWay bytes xs total m (vs ++ v ∷ []) →
      IsUnderWay bytes xs total (with_number m v.number) vs
  ends m vs v total h w = grind (arith, ready_less bytes xs m vs v w.ready, done_last bytes xs m v h, closed_one bytes xs m v.number w.closed, all_told bytes xs m v h, finish_last bytes xs m vs v)

-- ---- the walk over what a specification includes ends: its frames get lighter with each step

-- how many entries all specifications have
abbrev pub entries_in : List Specification → ℕ
entries_in xs = sum_by (λ s. length s.includes) xs

-- how many steps a frame may take at most: for each entry that is left more than those of any frame of a smaller number
abbrev pub weight : List Specification → Frame → ℕ
weight xs v = suc (entries_in xs - v.next) * (entries_in xs + 2) ^ v.number

-- how many steps frames may take at most
abbrev pub weights : List Specification → List Frame → ℕ
weights xs vs = sum_by (weight xs) vs

-- a specification has at most as many entries as all have
pub few_entries : (xs : List Specification) (n : ℕ) → length (includes_at xs n) ≤ entries_in xs
few_entries [] n = omega arith
few_entries (s ∷ xs) zero = let e = sum_by-cons (λ (t : Specification). length t.includes) s xs in omega arith
few_entries (s ∷ xs) (suc n) = grind (arith, common_steps, few_entries xs n)

one_less : (a c b : ℕ) → a ≡ suc c → c * b + b ≡ a * b
one_less a c b e = sym (suc-mul c b) ∙ ap (λ k. k * b) (sym e)

smaller_power : (b p n : ℕ) → p < n → (suc b) * (b + 2) ^ p + 1 ≤ (b + 2) ^ n
smaller_power b p n l = grind (arith, nat_tests, one-le-pow p (b + 2), pow-le-pow_right, pow-suc (b + 2) p, mul_comm ((b + 2) ^ p) (b + 2), one_less (b + 2))

module _ (xs : List Specification) where
  -- a power as large as the weight that an entry has
  abbrev unit : ℕ → ℕ
  unit n = (entries_in xs + 2) ^ n

  lighter : (v : Frame) (e : Name) → slice_get (includes_at xs v.number) v.next ≡ Some e → weight xs (after v) + unit v.number ≡ weight xs v
  lighter v e h = grind (arith, slice_get_within, few_entries, one_less)

  -- lighter with each entry
  pub lighter_after : (vs : List Frame) (v : Frame) (e : Name) → slice_get (includes_at xs v.number) v.next ≡ Some e → weights xs (vs ++ after v ∷ []) < weights xs (vs ++ v ∷ [])
  lighter_after vs v e h = grind (arith, lighter, one-le-pow, sum_by_push)

  -- a frame is lighter than an entry of a larger number
  light : (p n : ℕ) → p < n → weight xs (frame p 0) + 1 ≤ unit n
  light p n l = grind (arith, smaller_power (entries_in xs) p n l)

  -- lighter with each entry, also where what it includes is frameed
  pub lighter_into : (vs : List Frame) (v : Frame) (e : Name) (p : ℕ) → slice_get (includes_at xs v.number) v.next ≡ Some e → p < v.number →
      weights xs ((vs ++ after v ∷ []) ++ frame p 0 ∷ []) < weights xs (vs ++ v ∷ [])
  lighter_into vs v e p h l = grind (arith, lighter, light, sum_by_push)

  -- lighter when a frame ends
  pub lighter_ended : (vs : List Frame) (v : Frame) → weights xs vs < weights xs (vs ++ v ∷ [])
  lighter_ended vs v = grind (arith, one-le-pow, sum_by_push)
