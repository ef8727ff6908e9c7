-- A place in a table's term moves and is rewritten as the place in the term does.
use Rattle.std.proofs.Common.{◌≡◌, ℕ, zero, suc, ◌^◌, ◌<◌, ◌≤◌, Bool, true, false, List, [], ◌∷◌, ◌++◌, length, get_or, slice_get, Option, Some, None, All, refl, sym, ap, subst, ◌∙◌, arith}
use Rattle.std.specs.Prelude.{map, slice_set, if◌then◌else◌, option_and_then}
use Rattle.std.specs.Option.{option_map}
use Rattle.std.proofs.lemmas.List.{length-map, map-append}
use Rattle.std.proofs.lemmas.List.Elements.{All-head, All-tail, All-push}
use Rattle.term_model.specs.declared.Symbol.{Symbol}
use Rattle.term_model.specs.declared.Head.TheVariants.{App}
use Rattle.term_model.specs.Tree.{Tree, Leaf, Node, arguments, trees_of}
use Rattle.rewrite_model.specs.Rule.{Rule}
use Rattle.rewrite_model.specs.Matching.{match_of, if_matched, instance}
use Rattle.rewrite_model.specs.Derivation.{by_rule}
use Rattle.rewrite_model.specs.Replay.{has, above}
use Rattle.rewrite_model.proofs.Matches.{match_binds_variables}
use Rattle.rule_match.specs.Planned.{match_at, IsPlan, planned}
use Rattle.symbol_pool.specs.Pool.{Named}
use Rattle.log_check.specs.Words.{capped}
use Rattle.run_checks.specs.Instances.{MayBePut}
use Rattle.run_checks.specs.Rules.{ArePut}
use Rattle.run_checks.specs.declared.cursor.Cursor.{Cursor}
use Rattle.run_checks.specs.declared.cursor.Frame.{Frame}
use Rattle.run_checks.specs.Held.{Held, Grows, IsPut, IsThere, term_at, term_over}
use Rattle.run_checks.specs.Standing.{Framed, Place, with_argument, whole, AreFrames, position, framed, frames_of, whole_of, place_of, IsStanding, StandsAt, Leads, at_root, down, up, used}
use Rattle.run_checks.proofs.Growing.{grows_not}
use Rattle.run_checks.proofs.Steps.{list_of-trees_of, put_in-set, argument_same, has_on_path, replace_on_path, one_frame_more, above_last, no_argument_zero, argument_within, argument_past}

-- ---- frames

map_frames : (h : Held) (fs : List Frame) (f : Frame) → map (framed h) (fs ++ f ∷ []) ≡ map (framed h) fs ++ framed h f ∷ []
map_frames h fs f = map-append (framed h) fs (f ∷ [])

frames_push : (fs : List Framed) (f : Framed) → AreFrames fs → f.argument < length (arguments f.tree) → AreFrames (fs ++ f ∷ [])
frames_push [] f a lt = (lt, tt)
frames_push (g ∷ fs) f a lt = (a.0, frames_push fs f a.1 lt)

frames_front : (fs : List Framed) (f : Framed) → AreFrames (fs ++ f ∷ []) → AreFrames fs
frames_front [] f a = tt
frames_front (g ∷ fs) f a = (a.0, frames_front fs f a.1)

frames_last : (fs : List Framed) (f : Framed) → AreFrames (fs ++ f ∷ []) → f.argument < length (arguments f.tree)
frames_last [] f a = a.0
frames_last (g ∷ fs) f a = frames_last fs f a.1

abbrev FrameThere : Held → Frame → Type 0
FrameThere h f = IsThere h f.number

all_front : (h : Held) (fs : List Frame) (f : Frame) → All (FrameThere h) (fs ++ f ∷ []) → All (FrameThere h) fs
all_front h [] f a = λ k d lt. absurd (omega arith)
all_front h (g ∷ fs) f a = first (All-head (FrameThere h) g (fs ++ f ∷ []) a) (all_front h fs f (All-tail (FrameThere h) g (fs ++ f ∷ []) a))
  where
    first : FrameThere h g → All (FrameThere h) fs → All (FrameThere h) (g ∷ fs)
    first t b k d = elim k as (λ (k : ℕ). k < length (g ∷ fs) → FrameThere h (get_or (g ∷ fs) k d)) [ zero ↦ λ _. t | suc k ↦ λ lt. b k d (omega arith) ]

all_last : (h : Held) (fs : List Frame) (f : Frame) → All (FrameThere h) (fs ++ f ∷ []) → FrameThere h f
all_last h [] f a = All-head (FrameThere h) f [] a
all_last h (g ∷ fs) f a = all_last h fs f (All-tail (FrameThere h) g (fs ++ f ∷ []) a)

-- frames stay as they are where the table grows
frames_later : (old new : Held) (fs : List Frame) → Grows old new → All (FrameThere old) fs → map (framed new) fs ≡ map (framed old) fs
frames_later old new [] g a = refl
frames_later old new (f ∷ fs) g a =
    let t = g.same f.number (All-head (FrameThere old) f fs a) in
    let r = frames_later old new fs g (All-tail (FrameThere old) f fs a) in
    λ i. record { tree = t i; argument = f.argument } ∷ r i

all_later : (old new : Held) (fs : List Frame) → Grows old new → All (FrameThere old) fs → All (FrameThere new) fs
all_later old new fs g a = λ k d lt. let h = a k d lt in omega (arith, h, g.count)

-- ---- arguments of a term in a table

arguments_over : (h : Held) (n : ℕ) (f : Symbol) (ns : List ℕ) → term_at h n ≡ term_over h f ns → arguments (term_at h n) ≡ map (term_at h) ns
arguments_over h n f ns e = ap arguments e ∙ list_of-trees_of (map (term_at h) ns)

get_mapped : (h : Held) (ns : List ℕ) (j q d : ℕ) → j < length ns → q ≡ get_or ns j d → slice_get (map (term_at h) ns) j ≡ Some (term_at h q)
get_mapped h [] j q d lt at = absurd (omega arith)
get_mapped h (n ∷ ns) zero q d lt at = ap (λ m. Some (term_at h m)) (sym at)
get_mapped h (n ∷ ns) (suc j) q d lt at = get_mapped h ns j q d (omega arith) at

get_there : (h : Held) (ns : List ℕ) (j q d : ℕ) → j < length ns → q ≡ get_or ns j d → All (IsThere h) ns → IsThere h q
get_there h ns j q d lt at a = subst (IsThere h) (sym at) (a j d lt)

set_mapped : (h : Held) (ns : List ℕ) (j m : ℕ) → map (term_at h) (slice_set ns j m) ≡ slice_set (map (term_at h) ns) j (term_at h m)
set_mapped h [] j m = refl
set_mapped h (n ∷ ns) zero m = refl
set_mapped h (n ∷ ns) (suc j) m = ap (λ ts. term_at h n ∷ ts) (set_mapped h ns j m)

set_there : (h : Held) (ns : List ℕ) (j m : ℕ) → All (IsThere h) ns → IsThere h m → All (IsThere h) (slice_set ns j m)
set_there h [] j m a t = a
set_there h (n ∷ ns) zero m a t = first t (All-tail (IsThere h) n ns a)
  where
    first : IsThere h m → All (IsThere h) ns → All (IsThere h) (m ∷ ns)
    first s b k d = elim k as (λ (k : ℕ). k < length (m ∷ ns) → IsThere h (get_or (m ∷ ns) k d)) [ zero ↦ λ _. s | suc k ↦ λ lt. b k d (omega arith) ]
set_there h (n ∷ ns) (suc j) m a t = first (All-head (IsThere h) n ns a) (set_there h ns j m (All-tail (IsThere h) n ns a) t)
  where
    first : IsThere h n → All (IsThere h) (slice_set ns j m) → All (IsThere h) (n ∷ slice_set ns j m)
    first s b k d = elim k as (λ (k : ℕ). k < length (n ∷ slice_set ns j m) → IsThere h (get_or (n ∷ slice_set ns j m) k d)) [ zero ↦ λ _. s | suc k ↦ λ lt. b k d (omega arith) ]

-- ---- at first

pub standing_at_root : (h : Held) (c : Cursor) (n : ℕ) → c.frames.items ≡ [] → c.number ≡ n → IsThere h n → IsStanding h c × (place_of h c ≡ at_root (term_at h n))
standing_at_root h c n e m there =
    let fs : frames_of h c ≡ [] = ap (map (framed h)) e in (
      record {
        frames = subst AreFrames (sym fs) tt;
        frames_there = subst (All (FrameThere h)) (sym e) (λ k d lt. absurd (omega arith));
        there = subst (IsThere h) (sym m) there;
      },
      λ i. record { term = whole (fs i) (term_at h (m i)); position = position (fs i) },
    )

-- ---- down

small : (a n : ℕ) → a ≡ capped n → a < 2 ^ 64 → a ≡ n
small a n e lt = grind (arith, e, lt)

zero_only : (n : ℕ) → 0 ≡ capped n → n ≡ 0
zero_only n e = grind (arith, e)

no_less : (a n l : ℕ) → a ≡ capped n → l < a → l < n
no_less a n l e lt = grind (arith, e, lt)

-- where the end of the path has an argument, and where it has none
module _ (h : Held) (c : Cursor) (s : IsStanding h c) (n : ℕ) where
  below : has ((place_of h c).position ++ n ∷ []) (whole_of h c) ≡ has (n ∷ []) (term_at h c.number)
  below = has_on_path (frames_of h c) (term_at h c.number) (n ∷ []) s.frames

  abbrev deeper : Place
  deeper = record { term = whole_of h c; position = (place_of h c).position ++ n ∷ [] }

  told : (b : Bool) → has (n ∷ []) (term_at h c.number) ≡ b → down n (place_of h c) ≡ (if b then Some deeper else None)
  told b e = ap (λ x. if x then Some deeper else None) (below ∙ e)

pub only_zero : (a : ℕ) → (1 ≤ a → ⊥) → a ≡ 0
only_zero zero n = refl
only_zero (suc a) n = absurd (n (omega arith))

pub down_zero : (h : Held) (c : Cursor) (a n : ℕ) → IsStanding h c → a ≡ capped n → a ≡ 0 → down n (place_of h c) ≡ None
down_zero h c a n s e z =
    let is : n ≡ 0 = zero_only n (sym z ∙ e) in
    told h c s n false (ap (λ m. has (m ∷ []) (term_at h c.number)) is ∙ no_argument_zero (term_at h c.number))

pub down_past : (h : Held) (c : Cursor) (a n : ℕ) (f : Symbol) (ns : List ℕ) → IsStanding h c → term_at h c.number ≡ term_over h f ns → a ≡ capped n → length ns < a → down n (place_of h c) ≡ None
down_past h c a zero f ns s t e lt = told h c s zero false (no_argument_zero (term_at h c.number))
down_past h c a (suc j) f ns s t e lt =
    let past = no_less a (suc j) (length ns) e lt in
    let l = length-map ns (term_at h) in
    let m = ap (λ (ts : List Tree). length ts) (arguments_over h c.number f ns t) in
    told h c s (suc j) false (argument_past j (term_at h c.number) (omega (arith, past, l, m)))

module _ (h : Held) (c new : Cursor) (a n j q d : ℕ) (f : Symbol) (ns : List ℕ) (s : IsStanding h c) (t : term_at h c.number ≡ term_over h f ns) (there : All (IsThere h) ns) (e : a ≡ capped n) (few : length ns < 2 ^ 64) (one : a ≡ suc j) (within : j < length ns) (at : q ≡ get_or ns j d) (fr : Frame) (fr_number : fr.number ≡ c.number) (fr_argument : fr.argument ≡ j) (frames_are : new.frames.items ≡ c.frames.items ++ fr ∷ []) (number_is : new.number ≡ q) where
  n_is : suc j ≡ n
  n_is = sym one ∙ small a n e (omega (arith, one, within, few))

  child : slice_get (arguments (term_at h c.number)) j ≡ Some (term_at h q)
  child = ap (λ ts. slice_get ts j) (arguments_over h c.number f ns t) ∙ get_mapped h ns j q d within at

  inside : j < length (arguments (term_at h c.number))
  inside = let l = ap (λ (ts : List Tree). length ts) (arguments_over h c.number f ns t) in let m = length-map ns (term_at h) in omega (arith, l, m, within)

  down_goes : down n (place_of h c) ≡ Some (deeper h c s n)
  down_goes = told h c s n true (ap (λ m. has (m ∷ []) (term_at h c.number)) (sym n_is) ∙ argument_within j (term_at h c.number) inside)

  abbrev here : Framed
  here = record { tree = term_at h c.number; argument = j }

  last : framed h fr ≡ here
  last = λ i. record { tree = term_at h (fr_number i); argument = fr_argument i }

  down_new_frames : frames_of h new ≡ frames_of h c ++ here ∷ []
  down_new_frames = ap (map (framed h)) frames_are ∙ map_frames h c.frames.items fr ∙ ap (λ (g : Framed). frames_of h c ++ g ∷ []) last

  down_same_whole : whole_of h new ≡ whole_of h c
  down_same_whole =
      (λ i. whole (down_new_frames i) (term_at h (number_is i)))
      ∙ one_frame_more (frames_of h c) here (term_at h q)
      ∙ ap (λ u. whole (frames_of h c) u) (argument_same j (term_at h c.number) (term_at h q) child)

  down_same_position : (place_of h new).position ≡ (place_of h c).position ++ n ∷ []
  down_same_position =
      ap position down_new_frames
      ∙ map-append (λ (g : Framed). suc g.argument) (frames_of h c) (here ∷ [])
      ∙ ap (λ m. (place_of h c).position ++ m ∷ []) n_is

  down_stood : StandsAt h h new (deeper h c s n)
  down_stood = record {
    grows = grows_not h;
    standing = record {
      frames = subst AreFrames (sym down_new_frames) (frames_push (frames_of h c) here s.frames inside);
      frames_there = subst (All (FrameThere h)) (sym frames_are) (All-push (FrameThere h) c.frames.items fr s.frames_there (subst (IsThere h) (sym fr_number) s.there));
      there = subst (IsThere h) (sym number_is) (get_there h ns j q d within at there);
    };
    place = λ i. record { term = down_same_whole i; position = down_same_position i };
  }

  pub goes_down : Leads h h new (down n (place_of h c)) true
  goes_down = subst (λ o. Leads h h new o true) (sym down_goes) down_stood

-- ---- up

pub no_frames_above : (h : Held) (c : Cursor) → c.frames.items ≡ [] → up (place_of h c) ≡ None
no_frames_above h c e = ap (λ (fs : List Frame). option_map (λ q. record { term = whole_of h c; position = q }) (above (position (map (framed h) fs)))) e

module _ (old new : Held) (c after : Cursor) (fs : List Frame) (fr : Frame) (f : Symbol) (ns : List ℕ) (m : ℕ) (s : IsStanding old c) (frames_are : c.frames.items ≡ fs ++ fr ∷ []) (t : term_at old fr.number ≡ term_over old f ns) (put : IsPut old new m (term_over old f (slice_set ns fr.argument c.number))) (after_frames : after.frames.items ≡ fs) (after_number : after.number ≡ m) where
  there_all : All (FrameThere old) (fs ++ fr ∷ [])
  there_all = subst (All (FrameThere old)) frames_are s.frames_there

  old_frames : frames_of old c ≡ map (framed old) fs ++ framed old fr ∷ []
  old_frames = ap (map (framed old)) frames_are ∙ map_frames old fs fr

  new_frames : frames_of new after ≡ map (framed old) fs
  new_frames = ap (map (framed new)) after_frames ∙ frames_later old new fs put.grows (all_front old fs fr there_all)

  over : term_at new m ≡ with_argument fr.argument (term_at old fr.number) (term_at old c.number)
  over =
      put.term
      ∙ ap (λ (ts : List Tree). Node (App f) (trees_of ts)) (set_mapped old ns fr.argument c.number)
      ∙ ap (Node (App f)) (put_in-set (map (term_at old) ns) fr.argument (term_at old c.number))
      ∙ ap (λ u. with_argument fr.argument u (term_at old c.number)) (sym t)

  same_whole : whole_of new after ≡ whole_of old c
  same_whole =
      (λ i. whole (new_frames i) (term_at new (after_number i)))
      ∙ ap (λ u. whole (map (framed old) fs) u) over
      ∙ sym (one_frame_more (map (framed old) fs) (framed old fr) (term_at old c.number))
      ∙ ap (λ (gs : List Framed). whole gs (term_at old c.number)) (sym old_frames)

  position_is : (place_of old c).position ≡ position (map (framed old) fs) ++ suc fr.argument ∷ []
  position_is = ap position old_frames ∙ map-append (λ (g : Framed). suc g.argument) (map (framed old) fs) (framed old fr ∷ [])

  goes : up (place_of old c) ≡ Some (record { term = whole_of old c; position = position (map (framed old) fs) })
  goes = ap (option_map (λ q. record { term = whole_of old c; position = q })) (ap above position_is ∙ above_last (position (map (framed old) fs)) (suc fr.argument))

  pub stood_above : StandsAt old new after (record { term = whole_of old c; position = position (map (framed old) fs) })
  stood_above = record {
    grows = put.grows;
    standing = record {
      frames = subst AreFrames (sym new_frames) (frames_front (map (framed old) fs) (framed old fr) (subst AreFrames old_frames s.frames));
      frames_there = subst (All (FrameThere new)) (sym after_frames) (all_later old new fs put.grows (all_front old fs fr there_all));
      there = subst (IsThere new) (sym after_number) put.there;
    };
    place = λ i. record { term = same_whole i; position = position (new_frames i) };
  }

  pub goes_up : Leads old new after (up (place_of old c)) true
  goes_up = subst (λ o. Leads old new after o true) (sym goes) stood_above

pub frame_there : (h : Held) (c : Cursor) (fs : List Frame) (fr : Frame) → IsStanding h c → c.frames.items ≡ fs ++ fr ∷ [] → IsThere h fr.number
frame_there h c fs fr s e = all_last h fs fr (subst (All (FrameThere h)) e s.frames_there)

-- the node above has the argument
pub frame_argument : (h : Held) (c : Cursor) (fs : List Frame) (fr : Frame) (f : Symbol) (ns : List ℕ) → IsStanding h c → c.frames.items ≡ fs ++ fr ∷ [] → term_at h fr.number ≡ term_over h f ns → fr.argument < length ns
frame_argument h c fs fr f ns s e t =
    let a = frames_last (map (framed h) fs) (framed h fr) (subst AreFrames (ap (map (framed h)) e ∙ map_frames h fs fr) s.frames) in
    let l = ap (λ (ts : List Tree). length ts) (arguments_over h fr.number f ns t) in
    let m = length-map ns (term_at h) in
    omega (arith, a, l, m)

pub new_arguments_there : (h : Held) (c : Cursor) (ns : List ℕ) (j : ℕ) → IsStanding h c → All (IsThere h) ns → All (IsThere h) (slice_set ns j c.number)
new_arguments_there h c ns j s a = set_there h ns j c.number a s.there

-- ---- up to the root

above_some : (p : List ℕ) → 0 < length p → (q : List ℕ) × (above p ≡ Some q) × (suc (length q) ≡ length p)
above_some [] lt = absurd (omega arith)
above_some (j ∷ []) lt = ([], refl, refl)
above_some (j ∷ i ∷ is) lt =
    let r = above_some (i ∷ is) (omega arith) in
    let n = r.2 in
    (j ∷ r.0, ap (option_and_then (λ ks. Some (j ∷ ks))) r.1, omega (arith, n))

as_long : (h : Held) (c : Cursor) → length (position (frames_of h c)) ≡ length c.frames.items
as_long h c =
    let a = length-map (frames_of h c) (λ (g : Framed). suc g.argument) in
    let b = length-map c.frames.items (framed h) in
    omega (arith, a, b)

-- a place that isn't the root has moved up
pub record Climbed (old new : Held) (c after : Cursor) : Type 0 where
  pub grows : Grows old new
  pub standing : IsStanding new after
  pub same : whole_of new after ≡ whole_of old c
  pub shorter : length after.frames.items < length c.frames.items

module _ (old new : Held) (c after : Cursor) where
  abbrev above_at : List ℕ → Place
  above_at q = record { term = whole_of old c; position = q }

  climbs : (q : List ℕ) → suc (length q) ≡ length (position (frames_of old c)) → up (place_of old c) ≡ Some (above_at q) → (b : Bool) → Leads old new after (up (place_of old c)) b → Climbed old new c after
  climbs q n is false l = let bad : Some (above_at q) ≡ None = sym is ∙ l in absurd cc
  climbs q n is true l =
      let s : StandsAt old new after (above_at q) = subst (λ o. Leads old new after o true) is l in
      let m = ap (λ (p : Place). length p.position) s.place in
      let a = as_long old c in
      let b = as_long new after in
      record {
        grows = s.grows;
        standing = s.standing;
        same = ap (λ (p : Place). p.term) s.place;
        shorter = omega (arith, n, m, a, b);
      }

  pub climbed : (went : Bool) → 0 < length c.frames.items → Leads old new after (up (place_of old c)) went → Climbed old new c after
  climbed went lt l =
      let a = as_long old c in
      let r = above_some (position (frames_of old c)) (omega (arith, lt, a)) in
      climbs r.0 r.2 (ap (option_map (λ q. above_at q)) r.1) went l

no_items : {X : Type 0} (xs : List X) → length xs ≡ 0 → xs ≡ []
no_items [] e = refl
no_items (x ∷ xs) e = absurd (omega arith)

pub whole_at_root : (h : Held) (c : Cursor) → length c.frames.items ≡ 0 → term_at h c.number ≡ whole_of h c
whole_at_root h c e = ap (λ (fs : List Frame). whole (map (framed h) fs) (term_at h c.number)) (sym (no_items c.frames.items e))

-- ---- a rule

-- a rule where a list has none
abbrev pub nothing : Rule
nothing = record { left = Leaf 0; right = Leaf 0; conditions = []; vars = 0 }

at_rule : (rules : List Rule) (k : ℕ) (d : Rule) (t : Tree) → k < length rules → (by_rule rules k t ≡ if_matched (match_of (get_or rules k d).left t) None (λ bound. Some (instance (get_or rules k d).right bound))) × (match_at rules k t ≡ match_of (get_or rules k d).left t)
at_rule [] k d t lt = absurd (omega arith)
at_rule (r ∷ rules) zero d t lt = (refl, refl)
at_rule (r ∷ rules) (suc k) d t lt = at_rule rules k d t (omega arith)

past_rules : (rules : List Rule) (k : ℕ) (t : Tree) → length rules ≤ k → by_rule rules k t ≡ None
past_rules [] k t le = refl
past_rules (r ∷ rules) zero t le = absurd (omega arith)
past_rules (r ∷ rules) (suc k) t le = past_rules rules k t (omega arith)

-- what a rule makes of the whole, from what it makes at the end of the path
abbrev made_of : Held → Cursor → Option Tree → Option Place
made_of h c o = option_map (λ t. record { term = t; position = (place_of h c).position }) (option_map (λ u. whole (frames_of h c) u) o)

stepped : (h : Held) (c : Cursor) (rules : List Rule) (k : ℕ) → IsStanding h c → used rules k (place_of h c) ≡ made_of h c (by_rule rules k (term_at h c.number))
stepped h c rules k s = ap (option_map (λ t. record { term = t; position = (place_of h c).position })) (replace_on_path rules (frames_of h c) (term_at h c.number) k s.frames)

pub no_rule : (h : Held) (c : Cursor) (rules : List Rule) (rule k : ℕ) → IsStanding h c → rule ≡ capped k → length rules ≤ rule → used rules k (place_of h c) ≡ None
no_rule h c rules rule k s e le =
    let past : length rules ≤ k = grind (arith, e, le) in
    stepped h c rules k s ∙ ap (made_of h c) (past_rules rules k (term_at h c.number) past)

module _ (h : Held) (c : Cursor) (rules : List Rule) (rule k : ℕ) (d : Rule) (s : IsStanding h c) (e : rule ≡ capped k) (lt : rule < length rules) (few : length rules < 2 ^ 64) where
  k_is : rule ≡ k
  k_is = small rule k e (omega (arith, lt, few))

  abbrev by_match : Option (List Tree) → Option Tree
  by_match o = if_matched o None (λ bound. Some (instance (get_or rules rule d).right bound))

  root : by_rule rules k (term_at h c.number) ≡ by_match (match_at rules rule (term_at h c.number))
  root =
      let a = at_rule rules rule d (term_at h c.number) lt in
      ap (λ i. by_rule rules i (term_at h c.number)) (sym k_is) ∙ a.0 ∙ ap by_match (sym a.1)

  pub no_match : match_at rules rule (term_at h c.number) ≡ None → used rules k (place_of h c) ≡ None
  no_match m = stepped h c rules k s ∙ ap (made_of h c) (root ∙ ap by_match m)

  module _ (new : Held) (after : Cursor) (bound : List ℕ) (m : ℕ) (matched : match_at rules rule (term_at h c.number) ≡ Some (map (term_at h) bound)) (put : IsPut h new m (instance (get_or rules rule d).right (map (term_at h) bound))) (after_frames : after.frames.items ≡ c.frames.items) (after_number : after.number ≡ m) where
    rule_goes : used rules k (place_of h c) ≡ Some (record { term = whole (frames_of h c) (instance (get_or rules rule d).right (map (term_at h) bound)); position = (place_of h c).position })
    rule_goes = stepped h c rules k s ∙ ap (made_of h c) (root ∙ ap by_match matched)

    rule_new_frames : frames_of new after ≡ frames_of h c
    rule_new_frames = ap (map (framed new)) after_frames ∙ frames_later h new c.frames.items put.grows s.frames_there

    pub rewrites : Leads h new after (used rules k (place_of h c)) true
    rewrites = subst (λ o. Leads h new after o true) (sym rule_goes) (record {
      grows = put.grows;
      standing = record {
        frames = subst AreFrames (sym rule_new_frames) s.frames;
        frames_there = subst (All (FrameThere new)) (sym after_frames) (all_later h new c.frames.items put.grows s.frames_there);
        there = subst (IsThere new) (sym after_number) put.there;
      };
      place = λ i. record { term = whole (rule_new_frames i) ((ap (term_at new) after_number ∙ put.term) i); position = position (rule_new_frames i) };
    })

-- what a match binds is as many terms as the right side has variables
pub may_put : (h : Held) (names : List Named) (rules : List Rule) (w rule : ℕ) (d : Rule) (t : Tree) (bound : List ℕ) → ArePut names rules → IsPlan (planned rules w) → rule < length rules → match_at rules rule t ≡ Some (map (term_at h) bound) → MayBePut names (length bound) (get_or rules rule d).right
may_put h names rules w rule d t bound put plan lt m =
    let a = at_rule rules rule d t lt in
    let r = get_or rules rule d in
    let n : length (map (term_at h) bound) ≡ r.vars = match_binds_variables r.left t r.vars (map (term_at h) bound) (plan.rules rule d lt).numbered (sym a.1 ∙ m) in
    subst (λ k. MayBePut names k r.right) (sym n ∙ length-map bound (term_at h)) (put rule d lt)
