-- The steps of a walk keep what it comes to, and each leaves less work.
use Rattle.std.proofs.Common.{◌≡◌, ℕ, zero, suc, ◌+◌, ◌-◌, ◌*◌, ◌<◌, ◌≤◌, cond, eqb, List, [], ◌∷◌, ◌++◌, length, get_or, drop, slice_get, Option, Some, None, refl, sym, ap, subst, ◌∙◌, append_assoc, append-nil, arith, add-one}
use Rattle.std.specs.Prelude.{option_and_then}
use Rattle.std.specs.Option.{option_map_or}
use Rattle.std.specs.List.{flat_map, AllByRecursion}
use Rattle.std.proofs.lemmas.Bool.{lt-ltb}
use Rattle.std.proofs.lemmas.List.{length-append}
use Rattle.std.proofs.Math.Seq.{drop-cons}
use Rattle.std.proofs.lemmas.Option.{slice_get-get_or}
use Rattle.term_file.specs.declared.frame.Frame.{Frame}
use Rattle.term_file.specs.Contents.{Record, arguments_at}
use Rattle.term_file.specs.InOrder.{came_with, came_after, visits_at, visits}
use Rattle.term_file.specs.Tables.{AreLesser}
use Rattle.term_file.specs.Walking.{Fits, left_of, left_in, work}
use Rattle.term_file.proofs.Ordered.{came_on}
use Rattle.term_file.proofs.Equations.{visits_of_record}

-- ---- visits

record There (records : List Record) (i : ℕ) : Type 0 where
  this : Record
  at : slice_get records i ≡ Some this

there : (records : List Record) (i : ℕ) → i < length records → There records i
there [] i lt = absurd (omega arith)
there (r ∷ rs) i lt = record { this = get_or (r ∷ rs) i r; at = slice_get-get_or (r ∷ rs) i r lt }

-- the visits of a record, by its arguments
pub visits_are : (records : List Record) (i : ℕ) → AreLesser records → i < length records → visits_at (visits records) i ≡ flat_map (visits_at (visits records)) (arguments_at records i) ++ i ∷ []
visits_are records i are lt =
    let t = there records i lt in
    visits_of_record records i t.this t.at (are.lesser i t.this t.at)
    ∙ ap (λ (o : Option Record). flat_map (visits_at (visits records)) (option_map_or (λ r. r.arguments) o []) ++ i ∷ []) (sym t.at)

-- where numbers below were visited already, nothing changes
came_low : (came : ℕ) (ns : List ℕ) → AllByRecursion (λ n. n < came) ns → came_after came ns ≡ Some came
came_low came [] h = refl
came_low came (n ∷ ns) h =
    ap (λ b. option_and_then (λ c. came_after c ns) (cond b (Some came) (cond (eqb n came) (Some (came + 1)) None))) (lt-ltb n came h.0) ∙ came_low came ns h.1

all_append : (P : ℕ → Type 0) (xs ys : List ℕ) → AllByRecursion P xs → AllByRecursion P ys → AllByRecursion P (xs ++ ys)
all_append P [] ys a b = b
all_append P (x ∷ xs) ys a b = (a.0, all_append P xs ys a.1 b)

-- a record's visits have no greater numbers
module _ (records : List Record) (are : AreLesser records) where
  low_all : (bound : ℕ) → ((k : ℕ) → k < bound → k < length records → AllByRecursion (λ n. n < k + 1) (visits_at (visits records) k)) → (limit : ℕ) → bound ≤ limit → (ks : List ℕ) → bound ≤ length records → AllByRecursion (λ k. k < bound) ks → AllByRecursion (λ n. n < limit) (flat_map (visits_at (visits records)) ks)
  low_all bound each limit le [] room h = tt
  low_all bound each limit le (k ∷ ks) room h =
      let here = each k h.0 (omega arith) in
      all_append (λ n. n < limit) (visits_at (visits records) k) (flat_map (visits_at (visits records)) ks)
      (weaker (k + 1) limit (omega arith) (visits_at (visits records) k) here)
      (low_all bound each limit le ks room h.1)
    where
      weaker : (a b : ℕ) → a ≤ b → (ns : List ℕ) → AllByRecursion (λ n. n < a) ns → AllByRecursion (λ n. n < b) ns
      weaker a b le [] h = tt
      weaker a b le (n ∷ ns) h = (omega (arith, h.0), weaker a b le ns h.1)

  low_below : (bound k : ℕ) → k < bound → k < length records → AllByRecursion (λ n. n < k + 1) (visits_at (visits records) k)
  low_below zero k lt room = absurd (omega arith)
  low_below (suc bound) k lt room =
      let t = there records k room in
      let args = are.lesser k t.this t.at in
      let each : (j : ℕ) → j < k → j < length records → AllByRecursion (λ n. n < j + 1) (visits_at (visits records) j) = λ j l r. low_below bound j (omega arith) r in
      let front = low_all k each (k + 1) (omega arith) t.this.arguments (omega arith) args in
      subst (AllByRecursion (λ n. n < k + 1)) (sym (visits_of_record records k t.this t.at args))
      (all_append (λ n. n < k + 1) (flat_map (visits_at (visits records)) t.this.arguments) (k ∷ []) front (omega arith, tt))

  low_weaker : (a b : ℕ) → a ≤ b → (ns : List ℕ) → AllByRecursion (λ n. n < a) ns → AllByRecursion (λ n. n < b) ns
  low_weaker a b le [] h = tt
  low_weaker a b le (n ∷ ns) h = (omega (arith, h.0), low_weaker a b le ns h.1)

  -- a record that was visited changes nothing
  pub visited_again : (came k : ℕ) → k < came → k < length records → came_after came (visits_at (visits records) k) ≡ Some came
  visited_again came k lt room = came_low came (visits_at (visits records) k) (low_weaker (k + 1) came (omega arith) (visits_at (visits records) k) (low_below (suc k) k (omega arith) room))

-- ---- the stack

left_in-push : (records : List Record) (fs : List Frame) (f : Frame) → left_in records (fs ++ f ∷ []) ≡ left_of records f ++ left_in records fs
left_in-push records [] f = sym (append-nil (left_of records f))
left_in-push records (g ∷ fs) f =
    ap (λ ns. ns ++ left_of records g) (left_in-push records fs f) ∙ append_assoc (left_of records f) (left_in records fs) (left_of records g)

work-push : (records : List Record) (fs : List Frame) (f : Frame) → work records (fs ++ f ∷ []) ≡ work records fs + (2 * length (left_of records f) - 1)
work-push records [] f = omega arith
work-push records (g ∷ fs) f = let e = work-push records fs f in omega (arith, e)

-- a frame with one argument more done
abbrev pub further : Frame → Frame
further f = record f { done = f.done + 1 }

abbrev pub fresh : ℕ → Frame
fresh k = record { number = k; done = 0 }

-- the next argument is the first of those that are left
left_further : (records : List Record) (f : Frame) (k : ℕ) → f.done < length (arguments_at records f.number) → get_or (arguments_at records f.number) f.done 0 ≡ k → left_of records f ≡ visits_at (visits records) k ++ left_of records (further f)
left_further records f k lt is =
    let v = visits_at (visits records) in
    let args = arguments_at records f.number in
    let one : drop f.done args ≡ k ∷ drop (f.done + 1) args = drop-cons args f.done 0 lt ∙ (λ i. is i ∷ drop (sym (add-one f.done) i) args) in
    ap (λ ks. flat_map v ks ++ f.number ∷ []) one ∙ append_assoc (v k) (flat_map v (drop (f.done + 1) args)) (f.number ∷ [])

left_done : (records : List Record) (f : Frame) → f.done ≡ length (arguments_at records f.number) → left_of records f ≡ f.number ∷ []
left_done records f e = ap (λ ks. flat_map (visits_at (visits records)) ks ++ f.number ∷ []) (drop_past f.done (arguments_at records f.number) e)
  where
    drop_past : (n : ℕ) (xs : List ℕ) → n ≡ length xs → drop n xs ≡ []
    drop_past zero [] e = refl
    drop_past zero (x ∷ xs) e = absurd (omega arith)
    drop_past (suc n) [] e = refl
    drop_past (suc n) (x ∷ xs) e = drop_past n xs (omega arith)

left_fresh : (records : List Record) (k : ℕ) → AreLesser records → k < length records → left_of records (fresh k) ≡ visits_at (visits records) k
left_fresh records k are lt = sym (visits_are records k are lt)

-- how a step ends is told by what was on the stack before, and what is there after
module _ (records : List Record) (are : AreLesser records) (old rest : List Frame) (f : Frame) (popped : old ≡ rest ++ f ∷ []) where
  left_before : left_in records old ≡ left_of records f ++ left_in records rest
  left_before = ap (left_in records) popped ∙ left_in-push records rest f

  work_before : work records old ≡ work records rest + (2 * length (left_of records f) - 1)
  work_before = ap (work records) popped ∙ work-push records rest f

  -- a record whose arguments were visited is visited
  module _ (is_done : f.done ≡ length (arguments_at records f.number)) where
    pub visit_comes : (came : ℕ) → came_after came (left_in records old) ≡ option_and_then (λ c. came_after c (left_in records rest)) (came_with came f.number)
    visit_comes came = ap (came_after came) (left_before ∙ ap (λ ns. ns ++ left_in records rest) (left_done records f is_done))

    pub visit_works : work records rest < work records old
    visit_works = let e = ap (λ (ns : List ℕ). length ns) (left_done records f is_done) in omega (arith, work_before, e)

  module _ (k : ℕ) (lt : f.done < length (arguments_at records f.number)) (is : get_or (arguments_at records f.number) f.done 0 ≡ k) (room : k < length records) where
    visits_some : 1 ≤ length (visits_at (visits records) k)
    visits_some = let e = ap (λ (ns : List ℕ). length ns) (visits_are records k are room) in omega (arith, e, length-append (flat_map (visits_at (visits records)) (arguments_at records k)) (k ∷ []))

    further_some : 1 ≤ length (left_of records (further f))
    further_some = omega (arith, length-append (flat_map (visits_at (visits records)) (drop (f.done + 1) (arguments_at records f.number))) (f.number ∷ []))

    split_length : length (left_of records f) ≡ length (visits_at (visits records) k) + length (left_of records (further f))
    split_length = ap (λ (ns : List ℕ). length ns) (left_further records f k lt is) ∙ length-append (visits_at (visits records) k) (left_of records (further f))

    after_this : left_in records old ≡ visits_at (visits records) k ++ left_in records (rest ++ further f ∷ [])
    after_this =
        left_before
        ∙ ap (λ ns. ns ++ left_in records rest) (left_further records f k lt is)
        ∙ append_assoc (visits_at (visits records) k) (left_of records (further f)) (left_in records rest)
        ∙ ap (λ ns. visits_at (visits records) k ++ ns) (sym (left_in-push records rest (further f)))

    -- an argument that was visited is passed over
    pub skip_comes : (came : ℕ) (new : List Frame) → k < came → new ≡ rest ++ further f ∷ [] → came_after came (left_in records old) ≡ came_after came (left_in records new)
    skip_comes came new low e =
        ap (came_after came) after_this
        ∙ came_on came (visits_at (visits records) k) (left_in records (rest ++ further f ∷ [])) came (visited_again records are came k low room)
        ∙ ap (λ fs. came_after came (left_in records fs)) (sym e)

    pub skip_works : (new : List Frame) → new ≡ rest ++ further f ∷ [] → work records new < work records old
    skip_works new e =
        let after : work records new ≡ work records rest + (2 * length (left_of records (further f)) - 1) = ap (work records) e ∙ work-push records rest (further f) in
        omega (arith, work_before, after, split_length, visits_some, further_some)

    -- any other is walked first
    pub enter_comes : (came : ℕ) (new : List Frame) → new ≡ (rest ++ further f ∷ []) ++ fresh k ∷ [] → came_after came (left_in records old) ≡ came_after came (left_in records new)
    enter_comes came new e =
        ap (came_after came) (after_this ∙ ap (λ ns. ns ++ left_in records (rest ++ further f ∷ [])) (sym (left_fresh records k are room)) ∙ sym (left_in-push records (rest ++ further f ∷ []) (fresh k)) ∙ ap (left_in records) (sym e))

    pub enter_works : (new : List Frame) → new ≡ (rest ++ further f ∷ []) ++ fresh k ∷ [] → work records new < work records old
    enter_works new e =
        let after : work records new ≡ work records (rest ++ further f ∷ []) + (2 * length (left_of records (fresh k)) - 1) = ap (work records) e ∙ work-push records (rest ++ further f ∷ []) (fresh k) in
        let before = work-push records rest (further f) in
        let size = ap (λ (ns : List ℕ). length ns) (left_fresh records k are room) in
        omega (arith, work_before, after, before, size, split_length, visits_some, further_some)

-- ---- what holds of each frame

pub popped : {X : Type 0} (P : X → Type 0) (old rest : List X) (f : X) → old ≡ rest ++ f ∷ [] → AllByRecursion P old → AllByRecursion P rest × P f
popped {X = X} P old rest f e all = by rest (subst (AllByRecursion P) e all)
  where
    by : (xs : List X) → AllByRecursion P (xs ++ f ∷ []) → AllByRecursion P xs × P f
    by [] h = (tt, h.0)
    by (x ∷ xs) h = let r = by xs h.1 in ((h.0, r.0), r.1)

pub pushed : {X : Type 0} (P : X → Type 0) (xs : List X) (x : X) → AllByRecursion P xs → P x → AllByRecursion P (xs ++ x ∷ [])
pushed P [] x all here = (here, tt)
pushed P (y ∷ xs) x all here = (all.0, pushed P xs x all.1 here)

-- the next argument has a lesser number than the record
pub argument_there : (records : List Record) (i k j : ℕ) → AreLesser records → i < length records → j < length (arguments_at records i) → get_or (arguments_at records i) j 0 ≡ k → k < length records
argument_there records i k j are lt within is =
    let t = there records i lt in
    let args : arguments_at records i ≡ t.this.arguments = ap (λ (o : Option Record). option_map_or (λ r. r.arguments) o []) t.at in
    let low = place t.this.arguments j (are.lesser i t.this t.at) (subst (λ (ks : List ℕ). j < length ks) args within) in
    let same : get_or t.this.arguments j 0 ≡ k = ap (λ (ks : List ℕ). get_or ks j 0) (sym args) ∙ is in
    omega (arith, low, same)
  where
    place : (ks : List ℕ) (j : ℕ) → AllByRecursion (λ n. n < i) ks → j < length ks → get_or ks j 0 < i
    place [] j h lt = absurd (omega arith)
    place (n ∷ ks) zero h lt = h.0
    place (n ∷ ks) (suc j) h lt = place ks j h.1 (omega arith)

-- what a step leaves on the stack
pub record Stepped (records : List Record) (came : ℕ) (old new : List Frame) : Type 0 where
  pub comes : came_after came (left_in records old) ≡ came_after came (left_in records new)
  pub fit : AllByRecursion (Fits records) new
  pub less : work records new < work records old

module _ (records : List Record) (are : AreLesser records) (rest : List Frame) (f : Frame) (k came : ℕ) (fit : AllByRecursion (Fits records) rest) (fits : Fits records f) (lt : f.done < length (arguments_at records f.number)) (is : get_or (arguments_at records f.number) f.done 0 ≡ k) where
  room : k < length records
  room = argument_there records f.number k f.done are fits.there lt is

  fit_further : AllByRecursion (Fits records) (rest ++ further f ∷ [])
  fit_further = pushed (Fits records) rest (further f) fit (record { there = fits.there; within = omega (arith, lt) })

  pub skipped : (new : List Frame) → k < came → new ≡ rest ++ further f ∷ [] → Stepped records came (rest ++ f ∷ []) new
  skipped new low e = record {
    comes = skip_comes records are (rest ++ f ∷ []) rest f refl k lt is room came new low e;
    fit = subst (AllByRecursion (Fits records)) (sym e) fit_further;
    less = skip_works records are (rest ++ f ∷ []) rest f refl k lt is room new e;
  }

  pub entered : (mid new : List Frame) → mid ≡ rest ++ further f ∷ [] → new ≡ mid ++ fresh k ∷ [] → Stepped records came (rest ++ f ∷ []) new
  entered mid new e1 e2 =
      let e : new ≡ (rest ++ further f ∷ []) ++ fresh k ∷ [] = e2 ∙ ap (λ (fs : List Frame). fs ++ fresh k ∷ []) e1 in
      let here : Fits records (fresh k) = record { there = room; within = omega arith } in
      record {
        comes = enter_comes records are (rest ++ f ∷ []) rest f refl k lt is room came new e;
        fit = subst (AllByRecursion (Fits records)) (sym e) (pushed (Fits records) (rest ++ further f ∷ []) (fresh k) fit_further here);
        less = enter_works records are (rest ++ f ∷ []) rest f refl k lt is room new e;
      }

-- the stack that a walk begins with
pub record Begun (records : List Record) (root : ℕ) (frames : List Frame) : Type 0 where
  pub comes : (came : ℕ) → came_after came (left_in records frames) ≡ came_after came (visits_at (visits records) root)
  pub fit : AllByRecursion (Fits records) frames

pub begun : (records : List Record) → AreLesser records → (root : ℕ) → root < length records → (old frames : List Frame) → old ≡ [] → frames ≡ old ++ fresh root ∷ [] → Begun records root frames
begun records are root lt old frames none e =
    let one : frames ≡ fresh root ∷ [] = e ∙ ap (λ (fs : List Frame). fs ++ fresh root ∷ []) none in
    record {
      comes = λ came. ap (λ (fs : List Frame). came_after came (left_in records fs)) one ∙ ap (came_after came) (left_fresh records root are lt);
      fit = subst (AllByRecursion (Fits records)) (sym one) (record { there = lt; within = omega arith }, tt);
    }
