-- Reading on, and what was built at the end.
use Rattle.std.proofs.Common.{◌≡◌, ◌≤◌, ◌<◌, ◌∙◌, ℕ, zero, suc, ◌+◌, List, [], ◌∷◌, ◌++◌, length, take, drop, slice_get, eqb, Bool, true, false, refl, ap, sym, subst, arith, Option, Some, None, Result, Ok, Err}
use Rattle.std.specs.Prelude.{option_and_then}
use Rattle.sequences.specs.Lists.{first_of}
use Rattle.term_model.specs.Tree.{Tree}
use Rattle.symbol_pool.specs.Pool.{Named, IsPool}
use Rattle.term_syntax.specs.Token.{Token, Word, Number, At, Piece, Blank, Whole}
use Rattle.term_syntax.specs.Refusal.{place_of}
use Rattle.term_syntax.specs.declared.token.Mark.{Mark}
use Rattle.term_syntax.specs.declared.token.Mark.TheVariants as mark
use Rattle.term_syntax.proofs.Passing.{placed}
use Rattle.faults.specs.declared.refusal.Refusal.{Refusal}
use Rattle.std.specs.Prelude.{if◌then◌else◌}
use Rattle.std.specs.Char.{is_ascii_digit}
use Rattle.tree_text.specs.NameBytes.{begins_name, continues_name}
use Rattle.term_syntax.specs.declared.scanner.Cut.{Cut}
use Rattle.term_syntax.specs.declared.scanner.Cut.TheVariants as cut
use Rattle.term_syntax.specs.declared.token.Token as cut_token
use Rattle.term_syntax.specs.declared.token.Shape.{Shape}
use Rattle.term_syntax.specs.declared.token.Shape.TheVariants as shape
use Rattle.term_syntax.specs.Reading.{Spells}
use Rattle.term_syntax.specs.Shown.{token_at, value_at, piece_in, BeginsShape, BeginsCut}
use Rattle.term_syntax.specs.Tokens.{tokens_from, tokens_of, next_of, piece_at, is_space, quoted, quoted_piece, plain_piece, number_piece, mark_of, mark_piece, front_length, integer_of}
use Rattle.term_syntax.specs.Written.{Written, Call, End}
use Rattle.term_syntax.proofs.Cutting.{after_tokens, after_none, after_push, all_cut, piece_read}
use Rattle.std.proofs.Common.{get_or}
use Rattle.term_building.specs.Stages as stage
use Rattle.term_building.specs.declared.groups.Group.{Group}
use Rattle.term_building.specs.declared.groups.Heading.{Heading}
use Rattle.term_building.specs.Built.{IsBuilt}
use Rattle.term_building.specs.Copying.{copied}
use Rattle.term_building.specs.Reached.{HasPassed, Passes, Reaches, before}
use Rattle.term_building.specs.Progress as read
use Rattle.term_building.specs.Progress.{Progress, Settled, Bracketed, Expected, Headed, Open, step, run, start, settled_if, all_read}
use Rattle.term_building.specs.Shows.{Shows}
use Rattle.term_building.specs.State as build
use Rattle.term_building.specs.State.{State}
use Rattle.term_building.specs.Taken.{stage_behind, HasBegun, Begins}
use Rattle.term_building.specs.declared.builder.passing.Begun.{Begun}
use Rattle.term_building.specs.declared.builder.passing.Begun.TheVariants as begun
use Rattle.term_building.proofs.Calling.{made}
use Rattle.term_building.proofs.Cutting.{token_cut, piece_of_mark}
use Rattle.term_building.proofs.Ending.{state, copied_none}
use Rattle.term_building.proofs.Resumed.{read_is_input}
use Rattle.term_building.proofs.Stepping.{taken, settled_shows}

run_push : (ts : List Token) (t : Token) (m n k : Progress) → run m ts ≡ Some n → step n t ≡ Some k → run m (ts ++ t ∷ []) ≡ Some k
run_push [] t m n k e s =
    let same : m ≡ n = cc in
    ap (λ o. option_and_then (λ j. run j []) o) (ap (λ j. step j t) same ∙ s)
run_push (x ∷ ts) t m n k e s = by (step m x) refl e (λ j r. run_push ts t j n k r s)
  where
    by : (o : Option Progress) → step m x ≡ o → option_and_then (λ j. run j ts) o ≡ Some n → ((j : Progress) → run j ts ≡ Some n → run j (ts ++ t ∷ []) ≡ Some k) → run m (x ∷ (ts ++ t ∷ [])) ≡ Some k
    by None f e later = absurd cc
    by (Some j) f e later = ap (λ o. option_and_then (λ i. run i (ts ++ t ∷ [])) o) f ∙ later j e

no_pool : IsPool []
no_pool = record { once = λ i j s a b. absurd (let bad : None ≡ Some s = a in cc); room = omega arith }

before_is : (ts : List Token) (r : Result (List Token) Refusal) → before ts r ≡ after_tokens ts r
before_is ts (Ok us) = refl
before_is ts (Err f) = refl

-- ---- a name that is a whole term already
step_if : (b : Bool) (m : Progress) (t : Token) (k : Progress) → step (settled_if b m) t ≡ Some k → step m t ≡ Some k
step_if false m t k e = e
step_if true m t k e = by m.stage m.groups m.finished t e
  where
    by : (st : read.Stage) (os : List Open) (finished : List Written) (t : Token) → step (read.settled_at st (record { stage = st; groups = os; finished = finished })) t ≡ Some k → read.step_at st (record { stage = st; groups = os; finished = finished }) t ≡ Some k
    by Settled os finished t e = e
    by Bracketed os finished t e = e
    by Expected os finished t e = e
    by (Headed p n) [] finished (Word name q) e = e
    by (Headed p n) [] finished (Number v q) e = e
    by (Headed p n) [] finished (At mark.Open q) e = absurd cc
    by (Headed p n) [] finished (At mark.Close q) e = e
    by (Headed p n) [] finished (At mark.OpenList q) e = e
    by (Headed p n) [] finished (At mark.CloseList q) e = e
    by (Headed p n) [] finished (At mark.Comma q) e = e
    by (Headed p n) (o ∷ os) finished (Word name q) e = e
    by (Headed p n) (o ∷ os) finished (Number v q) e = e
    by (Headed p n) (o ∷ os) finished (At mark.Open q) e = absurd cc
    by (Headed p n) (o ∷ os) finished (At mark.Close q) e = e
    by (Headed p n) (o ∷ os) finished (At mark.OpenList q) e = e
    by (Headed p n) (o ∷ os) finished (At mark.CloseList q) e = e
    by (Headed p n) (o ∷ os) finished (At mark.Comma q) e = e

read_if : (b : Bool) (m : Progress) (finished : List Written) → all_read (settled_if b m) ≡ Some finished → all_read m ≡ Some finished
read_if false m finished e = e
read_if true m finished e = by m.stage m.groups m.finished e
  where
    by : (st : read.Stage) (os : List Open) (before : List Written) → all_read (read.settled_at st (record { stage = st; groups = os; finished = before })) ≡ Some finished → read.read_at st os before ≡ Some finished
    by Settled os before e = e
    by Bracketed os before e = e
    by Expected os before e = e
    by (Headed p n) [] before e = e
    by (Headed p n) (o ∷ os) before e = absurd cc

settled_again : (b : Bool) (m : Progress) → read.settled_at (settled_if b m).stage (settled_if b m) ≡ settled_if true m
settled_again false m = refl
settled_again true m = by m.stage m.groups m.finished
  where
    by : (st : read.Stage) (os : List Open) (finished : List Written) → read.settled_at (read.settled_at st (record { stage = st; groups = os; finished = finished })).stage (read.settled_at st (record { stage = st; groups = os; finished = finished })) ≡ read.settled_at st (record { stage = st; groups = os; finished = finished })
    by Settled os finished = refl
    by Bracketed os finished = refl
    by Expected os finished = refl
    by (Headed p n) [] finished = refl
    by (Headed p n) (o ∷ os) finished = refl

-- ---- from place to place
pub passed_none : (text : List ℕ) (s : State) → s ≡ state stage.Settled [] [] 0 [] [] → HasPassed text 0 s
passed_none text s e = subst (HasPassed text 0) (sym e) (record {
  tokens = [];
  progress = start;
  early = false;
  cut = before_is [] (tokens_of text) ∙ after_none (tokens_of text);
  ran = refl;
  shows = record {
    stage = tt;
    fits = tt;
    holds = record { groups = tt; good = tt; trees_are = refl; copied_is = copied_none text 0 []; from = omega arith; is_pool = no_pool };
  };
})

pub passed_blank : (text : List ℕ) (at : ℕ) (s r : State) → at < length text → piece_at at (drop at text) ≡ Ok Blank → r ≡ record s { written = copied text at s.written s.from; from = at + 1 } → HasPassed text at s → HasPassed text (at + 1) r
passed_blank text at s r h e is p = subst (HasPassed text (at + 1)) (sym is) (record {
  tokens = p.tokens;
  progress = p.progress;
  early = p.early;
  cut = ap (before p.tokens) (sym (piece_read text at Blank h (omega arith) (omega (arith, h)) e)) ∙ p.cut;
  ran = p.ran;
  shows = record {
    stage = p.shows.stage;
    fits = p.shows.fits;
    holds = record {
      groups = p.shows.holds.groups;
      good = p.shows.holds.good;
      trees_are = p.shows.holds.trees_are;
      copied_is = copied_none text (at + 1) (copied text at s.written s.from) ∙ p.shows.holds.copied_is;
      from = omega arith;
      is_pool = p.shows.holds.is_pool;
    };
  };
})

pub passed_token : (text : List ℕ) (at end : ℕ) (sh : Shape) (s r : State) → at < length text → at < end → end ≤ length text → BeginsShape (get_or text at 0) sh → piece_at at (drop at text) ≡ Ok (Whole (token_at text at sh) end) → build.step text at end sh s ≡ Some r → HasPassed text at s → HasPassed text end r
passed_token text at end sh s r h after fits begins e step_is p =
    let t = token_at text at sh in
    let goes = taken text at end s r (settled_if p.early p.progress) sh p.shows (token_cut text at end sh h after fits begins e) step_is in
    record {
      tokens = p.tokens ++ t ∷ [];
      progress = goes.0;
      early = false;
      cut =
          before_is (p.tokens ++ t ∷ []) (tokens_from end 0 (drop end text))
          ∙ after_push p.tokens t (tokens_from end 0 (drop end text))
          ∙ ap (after_tokens p.tokens) (sym (piece_read text at (Whole t end) h after fits e))
          ∙ sym (before_is p.tokens (tokens_from at 0 (drop at text)))
          ∙ p.cut;
      ran = run_push p.tokens t start p.progress goes.0 p.ran (step_if p.early p.progress t goes.0 goes.1);
      shows = goes.2;
    }

-- a token that is cut stands at the place
piece_place : (at : ℕ) (bs : List ℕ) (t : Token) (end : ℕ) → piece_at at bs ≡ Ok (Whole t end) → place_of t ≡ at
piece_place at [] t end e = absurd cc
piece_place at (b ∷ bs) t end e = by (is_space b) (begins_name b) (eqb b 34) (is_ascii_digit b) (quoted (at + 1) false bs) (mark_of b) e
  where
    number : (r : Piece) → r ≡ number_piece at (b ∷ bs) → r ≡ Whole t end → place_of t ≡ at
    number r f e = let same : Whole (Number (integer_of (b ∷ take (front_length is_ascii_digit bs) bs)) at) (at + 1 + front_length is_ascii_digit bs) ≡ Whole t end = sym f ∙ e in ap place_of (let token : Number (integer_of (b ∷ take (front_length is_ascii_digit bs) bs)) at ≡ t = cc in sym token)

    word : (r : Piece) → r ≡ plain_piece at (b ∷ bs) → r ≡ Whole t end → place_of t ≡ at
    word r f e = let same : Whole (Word (b ∷ take (front_length continues_name bs) bs) at) (at + 1 + front_length continues_name bs) ≡ Whole t end = sym f ∙ e in ap place_of (let token : Word (b ∷ take (front_length continues_name bs) bs) at ≡ t = cc in sym token)

    by : (s n q d : Bool) (r : Result (List ℕ × ℕ) Refusal) (m : Option Mark) →
        (if s then Ok Blank else (if n then Ok (plain_piece at (b ∷ bs)) else (if q then quoted_piece at r else (if d then Ok (number_piece at (b ∷ bs)) else mark_piece at m)))) ≡ Ok (Whole t end) → place_of t ≡ at
    by true n q d r m e = absurd cc
    by false true q d r m e = word (plain_piece at (b ∷ bs)) refl (let same : plain_piece at (b ∷ bs) ≡ Whole t end = cc in same)
    by false false true d (Ok q) m e = let token : Word q.0 at ≡ t = cc in ap place_of (sym token)
    by false false true d (Err f) m e = absurd cc
    by false false false true r m e = number (number_piece at (b ∷ bs)) refl (let same : number_piece at (b ∷ bs) ≡ Whole t end = cc in same)
    by false false false false r (Some m) e = let token : At m at ≡ t = cc in ap place_of (sym token)
    by false false false false r None e = absurd cc

pub token_place : (text : List ℕ) (at place end : ℕ) (sh : Shape) → piece_at at (drop at text) ≡ Ok (Whole (token_at text place sh) end) → place ≡ at
token_place text at place end sh e = sym (placed text place sh) ∙ piece_place at (drop at text) (token_at text place sh) end e

pub passed_cut : (text : List ℕ) (at place end : ℕ) (sh : Shape) (s r : State) → at < length text → at < end → end ≤ length text → BeginsShape (get_or text at 0) sh → piece_at at (drop at text) ≡ Ok (Whole (token_at text place sh) end) → build.step text place end sh s ≡ Some r → HasPassed text at s → HasPassed text end r
passed_cut text at place end sh s r h after fits begins e step_is p =
    let same = token_place text at place end sh e in
    passed_token text at end sh s r h after fits begins (subst (λ k. piece_at at (drop at text) ≡ Ok (Whole (token_at text k sh) end)) same e) (subst (λ k. build.step text k end sh s ≡ Some r) same step_is) p

pub passed_mark : (text : List ℕ) (at : ℕ) (m : Mark) (s r : State) → at < length text → mark_of (get_or text at 0) ≡ Some m → build.step text at (at + 1) (shape.At m) s ≡ Some r → HasPassed text at s → HasPassed text (at + 1) r
passed_mark text at m s r h is step_is p =
    passed_token text at (at + 1) (shape.At m) s r h (omega arith) (omega (arith, h)) is (piece_of_mark text at m h is) step_is p

-- the byte at a place
pub byte_at : (bytes : List ℕ) (at b : ℕ) → slice_get bytes at ≡ Some b → (at < length bytes) × (get_or bytes at 0 ≡ b)
byte_at [] at b e = absurd cc
byte_at (x ∷ bytes) zero b e = (omega arith, let same : x ≡ b = cc in same)
byte_at (x ∷ bytes) (suc at) b e = let r = byte_at bytes at b e in (let l = r.0 in omega (arith, l), r.1)

pub passed_headed : (text : List ℕ) (at : ℕ) (s r : State) → Some s ≡ Some r → HasPassed text at s → HasPassed text at r
passed_headed text at s r e p = let same : s ≡ r = cc in subst (HasPassed text at) same p

-- parentheses open right behind a plain name
pub passed_open : (text : List ℕ) (place end : ℕ) (s r : State) → slice_get text end ≡ Some 40 → Some (build.opened (Some (build.name_at place end)) stage.Expected s) ≡ Some r → HasPassed text end (build.headed place end false s) → HasPassed text (end + 1) r
passed_open text place end s r e is p =
    let b = byte_at text end 40 e in
    passed_mark text end mark.Open (build.headed place end false s) r b.0 (ap mark_of b.1) is p

-- a plain name is a whole term at once
ended_any : (gs : List Group) (text : List ℕ) (at : ℕ) (st : stage.Stage) (s : State) → build.ended_under gs text at (build.staged st s) ≡ build.ended_under gs text at s
ended_any [] text at st s = refl
ended_any (g ∷ gs) text at st s = refl

settled_any : (text : List ℕ) (h : Heading) (at : ℕ) (st : stage.Stage) (s r : State) → build.settled text h at s ≡ Some r → build.settled text h at (build.staged st s) ≡ Some r
settled_any text h at st s r e = by (build.may_call (build.name_in text h) 0 s) e
  where
    name : List ℕ
    name = build.name_in text h

    by : (b : Bool) → option_and_then (λ k. Some (build.ended text at k)) (if b then Some (build.called name 0 s) else None) ≡ Some r → option_and_then (λ k. Some (build.ended text at k)) (if b then Some (build.called name 0 (build.staged st s)) else None) ≡ Some r
    by true e = ap Some (ended_any s.groups text at st (build.called name 0 s)) ∙ e
    by false e = absurd cc

settled_at_shows : (text : List ℕ) (at : ℕ) (s : State) (h : Heading) (st : read.Stage) (os : List Open) (finished : List Written) (r : State) → Shows text at (build.staged (stage.Headed h) s) (record { stage = st; groups = os; finished = finished }) → build.settled text h at (build.staged (stage.Headed h) s) ≡ Some r → Shows text at r (read.settled_at st (record { stage = st; groups = os; finished = finished }))
settled_at_shows text at s h (Headed p n) os finished r shows e = settled_shows text at (build.staged (stage.Headed h) s) h p n os finished r shows.stage shows.holds e
settled_at_shows text at s h Settled os finished r shows e = absurd shows.stage
settled_at_shows text at s h Bracketed os finished r shows e = absurd shows.stage
settled_at_shows text at s h Expected os finished r shows e = absurd shows.stage

pub passed_settled : (text : List ℕ) (place end : ℕ) (s r : State) → build.settled text (build.name_at place end) end s ≡ Some r → HasPassed text end (build.headed place end false s) → HasPassed text end r
passed_settled text place end s r e p =
    let h = build.name_at place end in
    let m = settled_if p.early p.progress in
    record {
      tokens = p.tokens;
      progress = p.progress;
      early = true;
      cut = p.cut;
      ran = p.ran;
      shows = subst (Shows text end r) (settled_again p.early p.progress) (settled_at_shows text end s h m.stage m.groups m.finished r p.shows (settled_any text h end (stage.Headed h) s r e));
    }

-- where a term may begin, a name or a number is taken so
begins_word : (text : List ℕ) (place end : ℕ) (st : stage.Stage) (gs : List Group) (s : State) → build.may_begin st gs ≡ true → s.groups ≡ gs → build.step_at st text place end shape.Word s ≡ Some (build.headed place end false s)
begins_word text place end stage.Settled [] s e same = ap (λ k. build.after_term_under k text place end shape.Word s) same
begins_word text place end stage.Settled (g ∷ gs) s e same = absurd cc
begins_word text place end stage.Bracketed gs s e same = refl
begins_word text place end stage.Expected gs s e same = refl
begins_word text place end (stage.Headed h) gs s e same = absurd cc

begins_number : (text : List ℕ) (place end : ℕ) (st : stage.Stage) (gs : List Group) (s : State) → build.may_begin st gs ≡ true → s.groups ≡ gs → build.step_at st text place end shape.Number s ≡ build.on_value text end (value_at text place) s
begins_number text place end stage.Settled [] s e same = ap (λ k. build.after_term_under k text place end shape.Number s) same
begins_number text place end stage.Settled (g ∷ gs) s e same = absurd cc
begins_number text place end stage.Bracketed gs s e same = refl
begins_number text place end stage.Expected gs s e same = refl
begins_number text place end (stage.Headed h) gs s e same = absurd cc

begins_quoted : (text : List ℕ) (place end : ℕ) (st : stage.Stage) (gs : List Group) (s : State) → build.may_begin st gs ≡ true → s.groups ≡ gs → build.step_at st text place end shape.Quoted s ≡ Some (build.on_quoted text place end s)
begins_quoted text place end stage.Settled [] s e same = ap (λ k. build.after_term_under k text place end shape.Quoted s) same
begins_quoted text place end stage.Settled (g ∷ gs) s e same = absurd cc
begins_quoted text place end stage.Bracketed gs s e same = refl
begins_quoted text place end stage.Expected gs s e same = refl
begins_quoted text place end (stage.Headed h) gs s e same = absurd cc

module _ (text : List ℕ) (place end : ℕ) (sh : Shape) (s : State) (may : build.may_begin s.stage s.groups ≡ true) where
  pub step_word : sh ≡ shape.Word → build.step text place end sh s ≡ Some (build.headed place end false s)
  step_word is = ap (λ k. build.step text place end k s) is ∙ begins_word text place end s.stage s.groups s may refl

  pub step_number : sh ≡ shape.Number → build.step text place end sh s ≡ build.on_value text end (value_at text place) s
  step_number is = ap (λ k. build.step text place end k s) is ∙ begins_number text place end s.stage s.groups s may refl

  pub step_quoted : sh ≡ shape.Quoted → build.step text place end sh s ≡ Some (build.on_quoted text place end s)
  step_quoted is = ap (λ k. build.step text place end k s) is ∙ begins_quoted text place end s.stage s.groups s may refl

-- in a group behind a whole term
pub step_in_group : (text : List ℕ) (place end : ℕ) (sh : Shape) (st : stage.Stage) (gs : List Group) (g : Group) (s : State) → st ≡ stage.Settled → s.groups ≡ gs → first_of gs ≡ Some g → build.step_at st text place end sh s ≡ build.in_group text end g sh s
step_in_group text place end sh st [] g s e same f = absurd cc
step_in_group text place end sh st (h ∷ gs) g s e same f =
    let is : h ≡ g = cc in
    ap (λ k. build.step_at k text place end sh s) e
    ∙ ap (λ k. build.after_term_under k text place end sh s) same
    ∙ ap (λ k. build.in_group text end k sh s) is

-- ---- a piece that was cut
module _ (text : List ℕ) (at : ℕ) (c : Cut) (h : at < length text) (piece : piece_at at (drop at text) ≡ Ok (piece_in text c)) where
  pub passes_blank : (s r : State) → c ≡ cut.Blank → r ≡ record s { written = copied text at s.written s.from; from = at + 1 } → Passes text at s (at + 1) r
  passes_blank s r is same = record {
    after = omega arith;
    within = omega (arith, h);
    passed = passed_blank text at s r h (piece ∙ ap (λ d. Ok (piece_in text d)) is) same;
  }

  module _ (t : cut_token.Token) (end : ℕ) (is : c ≡ cut.Whole t end) (begins : BeginsCut (get_or text at 0) c) (after : at < next_of at (piece_in text c)) (fits : next_of at (piece_in text c) ≤ length text) where
    pub passes_whole : (s r : State) → build.step text t.place end t.shape s ≡ Some r → Passes text at s end r
    passes_whole s r step_is =
        let later : at < end = subst (λ d. at < next_of at (piece_in text d)) is after in
        let inside : end ≤ length text = subst (λ d. next_of at (piece_in text d) ≤ length text) is fits in
        record {
          after = later;
          within = inside;
          passed = passed_cut text at t.place end t.shape s r h later inside (subst (BeginsCut (get_or text at 0)) is begins) (piece ∙ ap (λ d. Ok (piece_in text d)) is) step_is;
        }

    -- a token that was cut ends behind its place
    pub cut_place : t.place ≤ end
    cut_place =
        let later : at < end = subst (λ d. at < next_of at (piece_in text d)) is after in
        let same = token_place text at t.place end t.shape (piece ∙ ap (λ d. Ok (piece_in text d)) is) in
        omega (arith, later, same)

-- ---- what is taken at once
pub passes_on : (text : List ℕ) (at end next : ℕ) (s m r : State) → Passes text at s end m → Reaches text end m next r → Passes text at s next r
passes_on text at end next s m r p q =
    let after = p.after in
    let from = q.from in
    record { after = omega (arith, after, from); within = q.within; passed = λ h. q.passed (p.passed h) }

pub reaches_on : (text : List ℕ) (at end next : ℕ) (s m r : State) → Reaches text at s end m → Passes text end m next r → Reaches text at s next r
reaches_on text at end next s m r p q =
    let from = p.from in
    let after = q.after in
    record { from = omega (arith, from, after); within = q.within; passed = λ h. q.passed (p.passed h) }

pub reaches_none : (text : List ℕ) (at : ℕ) (s r : State) → at ≤ length text → r ≡ s → Reaches text at s at r
reaches_none text at s r h same = record { from = omega arith; within = h; passed = subst (HasPassed text at) (sym same) }

-- a name was taken with what stands behind it
pub begins_so : (b : Begun) (text : List ℕ) (place end : ℕ) (sh : Shape) (s m r : State) → build.step text place end sh s ≡ Some m → HasBegun b text end m r → Begins b text place end sh s r
begins_so begun.Whole text place end sh s m r e h = record { state = m; step_is = e; begun = h }
begins_so begun.Group text place end sh s m r e h = record { state = m; step_is = e; begun = h }
begins_so begun.Name text place end sh s m r e h = record { state = m; step_is = e; begun = h }
begins_so begun.Nothing text place end sh s m r e h = absurd h

ended_stage : (gs : List Group) (text : List ℕ) (at : ℕ) (s : State) → (build.ended_under gs text at s).stage ≡ stage.Settled
ended_stage [] text at s = refl
ended_stage (g ∷ gs) text at s = refl

-- a term that was ended is settled
then_ended : (text : List ℕ) (at : ℕ) (f : State → State) (o : Option State) (r : State) → option_and_then (λ k. Some (build.ended text at (f k))) o ≡ Some r → r.stage ≡ stage.Settled
then_ended text at f None r e = absurd cc
then_ended text at f (Some k) r e =
    let same : build.ended text at (f k) ≡ r = cc in
    ap (λ (j : State). j.stage) (sym same) ∙ ended_stage (f k).groups text at (f k)

pub settled_stage : (text : List ℕ) (h : Heading) (at : ℕ) (s r : State) → build.settled text h at s ≡ Some r → r.stage ≡ stage.Settled
settled_stage text h at s r e = then_ended text at (λ k. k) (build.call text h 0 s) r e

pub value_stage : (text : List ℕ) (end : ℕ) (v : Option ℕ) (s r : State) → build.on_value text end v s ≡ Some r → r.stage ≡ stage.Settled
value_stage text end None s r e = absurd cc
value_stage text end (Some v) s r e = then_ended text end (λ k. k) (Some (build.with_integer v s)) r e

pub mark_stage : (text : List ℕ) (end : ℕ) (g : Group) (m : Mark) (s r : State) → build.in_group text end g (shape.At m) s ≡ Some r → r.stage ≡ stage_behind m
mark_stage text end g mark.Comma s r e =
    let same : build.staged stage.Expected s ≡ r = cc in
    ap (λ (j : State). j.stage) (sym same)
mark_stage text end g mark.Close s r e = by g.heading e
  where
    by : (o : Option Heading) → build.close_call text end o (build.count_in g s) s ≡ Some r → r.stage ≡ stage.Settled
    by None f = absurd cc
    by (Some h) f = then_ended text end build.without (build.call text h (build.count_in g s) s) r f
mark_stage text end g mark.CloseList s r e = by g.heading e
  where
    by : (o : Option Heading) → build.close_list text end o (build.count_in g s) s ≡ Some r → r.stage ≡ stage.Settled
    by (Some h) f = absurd cc
    by None f = then_ended text end build.without (Some (build.listed (build.count_in g s) s)) r f
mark_stage text end g mark.Open s r e = absurd cc
mark_stage text end g mark.OpenList s r e = absurd cc

-- ---- the end
module _ (text : List ℕ) (m : Progress) (spells : (finished : List Written) → all_read m ≡ Some finished → Spells text finished) where
  built : (s : State) (finished : List Written) → all_read m ≡ Some finished → Shows text (length text) s (record { stage = Settled; groups = []; finished = finished }) →
      IsBuilt text s.symbols s.trees (copied text (length text) s.written s.from)
  built s finished all shows = record {
    terms = finished;
    spelled = spells finished all;
    good = shows.holds.good;
    is_pool = shows.holds.is_pool;
    trees_are = shows.holds.trees_are;
    lines_are = shows.holds.copied_is;
  }

  ends_at : (st : stage.Stage) (ms : read.Stage) (gs : List Group) (written : List ℕ) (from : ℕ) (pool : List Named) (ts : List Tree) (os : List Open) (finished : List Written) (r : State) →
      m ≡ record { stage = ms; groups = os; finished = finished } → Shows text (length text) (state st gs written from pool ts) (record { stage = ms; groups = os; finished = finished }) →
      build.settled_at st text (state st gs written from pool ts) ≡ Some r → r.stage ≡ stage.Settled → gs ≡ [] → IsBuilt text r.symbols r.trees (copied text (length text) r.written r.from)
  ends_at st ms (g ∷ gs) written from pool ts os finished r is s e settled none = absurd cc
  ends_at st ms [] written from pool ts (o ∷ os) finished r is s e settled none = absurd s.holds.groups
  ends_at stage.Settled Settled [] written from pool ts [] finished r is s e settled none =
      let same : state stage.Settled [] written from pool ts ≡ r = cc in
      subst (λ k. IsBuilt text k.symbols k.trees (copied text (length text) k.written k.from)) same
      (built (state stage.Settled [] written from pool ts) finished (ap all_read is) s)
  ends_at (stage.Headed h) (Headed p n) [] written from pool ts [] finished r is s e settled none =
      built r (finished ++ Call p n End ∷ []) (ap all_read is) (settled_shows text (length text) (state (stage.Headed h) [] written from pool ts) h p n [] finished r s.stage s.holds e)
  ends_at stage.Bracketed ms [] written from pool ts [] finished r is s e settled none =
      let same : state stage.Bracketed [] written from pool ts ≡ r = cc in
      absurd (let bad : stage.Bracketed ≡ stage.Settled = ap (λ (k : State). k.stage) same ∙ settled in cc)
  ends_at stage.Expected ms [] written from pool ts [] finished r is s e settled none =
      let same : state stage.Expected [] written from pool ts ≡ r = cc in
      absurd (let bad : stage.Expected ≡ stage.Settled = ap (λ (k : State). k.stage) same ∙ settled in cc)
  ends_at stage.Settled Bracketed [] written from pool ts [] finished r is s e settled none = absurd s.stage
  ends_at stage.Settled Expected [] written from pool ts [] finished r is s e settled none = absurd s.stage
  ends_at stage.Settled (Headed p n) [] written from pool ts [] finished r is s e settled none = absurd s.stage
  ends_at (stage.Headed h) Settled [] written from pool ts [] finished r is s e settled none = absurd s.stage
  ends_at (stage.Headed h) Bracketed [] written from pool ts [] finished r is s e settled none = absurd s.stage
  ends_at (stage.Headed h) Expected [] written from pool ts [] finished r is s e settled none = absurd s.stage

pub passed_end : (text : List ℕ) (s r : State) → HasPassed text (length text) s → build.settled_at s.stage text s ≡ Some r → r.stage ≡ stage.Settled → s.groups ≡ [] → IsBuilt text r.symbols r.trees (copied text (length text) r.written r.from)
passed_end text s r p e settled none =
    let m = settled_if p.early p.progress in
    let cut = all_cut text (length text) p.tokens (omega arith) (sym (before_is p.tokens (tokens_from (length text) 0 (drop (length text) text))) ∙ p.cut) in
    ends_at text m (λ finished all. record { tokens = p.tokens; cut = cut; spelled = read_is_input p.progress p.tokens finished p.ran (read_if p.early p.progress finished all) })
    s.stage m.stage s.groups s.written s.from s.symbols s.trees m.groups m.finished r refl p.shows e settled none

-- settling closes no group
pub settled_groups : (text : List ℕ) (s r : State) → build.settled_at s.stage text s ≡ Some r → r.groups ≡ [] → s.groups ≡ []
settled_groups text s r e none = by s.stage e
  where
    ended_groups : (gs : List Group) (j : State) (at : ℕ) → (build.ended_under gs text at j).groups ≡ j.groups
    ended_groups [] j at = refl
    ended_groups (g ∷ gs) j at = refl

    of_call : (name : List ℕ) (o : Option State) → build.call_named name 0 s ≡ o → option_and_then (λ j. Some (build.ended text (length text) j)) o ≡ Some r → s.groups ≡ []
    of_call name None f e = absurd cc
    of_call name (Some j) f e =
        let same : build.ended text (length text) j ≡ r = cc in
        let m = made name 0 s j f in
        let kept : s.groups ≡ j.groups = ap (λ (k : State). k.groups) m.1 in
        kept ∙ sym (ended_groups j.groups j (length text)) ∙ ap (λ (k : State). k.groups) same ∙ none

    by : (st : stage.Stage) → build.settled_at st text s ≡ Some r → s.groups ≡ []
    by stage.Settled e = let same : s ≡ r = cc in ap (λ (k : State). k.groups) same ∙ none
    by stage.Bracketed e = let same : s ≡ r = cc in ap (λ (k : State). k.groups) same ∙ none
    by stage.Expected e = let same : s ≡ r = cc in ap (λ (k : State). k.groups) same ∙ none
    by (stage.Headed h) e = of_call (build.name_in text h) (build.call_named (build.name_in text h) 0 s) refl e
