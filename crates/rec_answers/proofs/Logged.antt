-- The log that is written behind an output.
use Rattle.std.proofs.Common.{◌≡◌, ℕ, zero, suc, ◌+◌, ◌<◌, List, [], ◌∷◌, ◌++◌, length, take, get_or, Option, Some, sym, ap, ap₂, subst, ◌∙◌, arith, length-append, append_assoc}
use Rattle.std.specs.Prelude.{Result, Ok, Err, OnOk, OnErr}
use Rattle.std.specs.List.{flat_map}
use Rattle.std.specs.Io.KnownBytes.{Appends}
use Rattle.std.proofs.KnownBytes.{Appends-trans}
use Rattle.std.proofs.Math.Seq.{take-append-add}
use Rattle.std.proofs.lemmas.List.{take-append-le}
use Rattle.std.proofs.lemmas.Option.{same_Some}
use Rattle.ends.specs.Bytes.{TookFront}
use Rattle.history_core.specs.declared.entry.Entry.{Entry}
use Rattle.settings.specs.Words.{settings_of}
use Rattle.settings.specs.declared.parts.Settings.{Settings}
use Rattle.rec_answers.specs.Written.{Output}
use Rattle.rec_answers.specs.Logged.{log_by, log_under, with_log, log_bytes}
use Rattle.rec_answers.specs.Input.{HasInput}
use Rattle.rec_answers.specs.Output.{IsOutput, HasRows, HasNumbers}
use Rattle.rec_answers.specs.Run.{Accepts}

-- a front of what is written first is one of all, and so is all of that with a front of the rest
pub front_first : (a b : Option (List ℕ)) (xs ys : List ℕ) → TookFront a b xs → TookFront a b (xs ++ ys)
front_first a b xs ys f =
    let long = length-append xs ys in
    let le = f.1 in
    (f.0, omega (arith, long, le), subst (Appends a b) (sym (take-append-le f.0 xs ys le)) f.2)

pub front_second : (a b c : Option (List ℕ)) (xs ys : List ℕ) → Appends a b xs → TookFront b c ys → TookFront a c (xs ++ ys)
front_second a b c xs ys h f =
    let long = length-append xs ys in
    let le = f.1 in
    (length xs + f.0, omega (arith, long, le), subst (Appends a c) (sym (take-append-add xs ys f.0)) (Appends-trans _ _ _ _ _ h f.2))

pub front_behind : {A E : Type 0} (r : Result A E) (a b c : Option (List ℕ)) (xs ys : List ℕ) (log : Option (List ℕ)) (text : List ℕ) → Appends a b xs → log ≡ Some text → ys ≡ text
    → OnErr r (TookFront b c ys) → OnErr r (TookFront a c (xs ++ log_bytes log))
front_behind (Ok v) a b c xs ys log text h is same f = tt
front_behind (Err e) a b c xs ys log text h is same f = subst (λ zs. TookFront a c (xs ++ zs)) (same ∙ sym (ap log_bytes is)) (front_second a b c xs ys h f)

-- the texts before a place, the one there, and the rest
split_at : {X : Type 0} (f : X → List ℕ) (xs : List X) (i : ℕ) (x : X) → i < length xs → x ≡ get_or xs i x → (rest : List ℕ) × (flat_map f xs ≡ (flat_map f (take i xs) ++ f x) ++ rest)
split_at f [] i x l e = absurd (omega (arith, l))
split_at f (y ∷ ys) zero x l e = (flat_map f ys, ap (λ z. f z ++ flat_map f ys) (sym e))
split_at f (y ∷ ys) (suc i) x l e =
    let r = split_at f ys i x (omega (arith, l)) e in
    let before = flat_map f (take i ys) in
    (r.0, ap (λ (ts : List ℕ). f y ++ ts) r.1 ∙ (sym (append_assoc (f y) (before ++ f x) r.0) ∙ ap (λ (ts : List ℕ). ts ++ r.0) (sym (append_assoc (f y) before (f x)))))

-- a front of a text behind those before it is one of all
pub front_of_texts : {X : Type 0} (f : X → List ℕ) (a b c : Option (List ℕ)) (xs : List X) (i : ℕ) (x : X) (bytes : List ℕ) → i < length xs → x ≡ get_or xs i x → bytes ≡ f x
    → Appends a b (flat_map f (take i xs)) → TookFront b c bytes → TookFront a c (flat_map f xs)
front_of_texts f a b c xs i x bytes l e same h took =
    let r = split_at f xs i x l e in
    subst (TookFront a c) (sym r.1)
    (front_first a c (flat_map f (take i xs) ++ f x) r.0 (front_second a b c (flat_map f (take i xs)) (f x) h (subst (TookFront b c) same took)))

pub at_err : {A E P : Type 0} (r : Result A E) → P → OnErr r P
at_err (Ok v) p = tt
at_err (Err e) p = p

pub on_ok : {A E P : Type 0} (r : Result A E) (a : A) → r ≡ Ok a → OnOk r P → P
on_ok (Ok b) a is h = h
on_ok (Err e) a is h = absurd (let bad : Err e ≡ Ok a = is in cc)

-- the bytes of an output with its log
pub bytes_with : (words : List (List ℕ)) (s : Settings) (lists : List (List Entry)) (o : Output) (xs ys : List ℕ) → settings_of words ≡ Some s → xs ≡ o.bytes → ys ≡ log_by s.command s lists
    → xs ++ ys ≡ (with_log words lists o).bytes
bytes_with words s lists o xs ys ours e l = ap₂ (λ (us vs : List ℕ). us ++ vs) e (l ∙ sym (ap (λ (g : Option Settings). log_under g lists) ours))

-- what is accepted is so under the settings that were read
pub accepted_under : {S : Type 0} (words : List (List ℕ)) (s : Settings) (left : S → Option (List ℕ)) (source : S) (output : Output) (a : Accepts words left source output) → settings_of words ≡ Some s
    → HasInput s left source a.input × IsOutput s a.input output × HasRows s a.input × HasNumbers s a.input
accepted_under words s left source output a ours =
    subst (λ u. HasInput u left source a.input × IsOutput u a.input output × HasRows u a.input × HasNumbers u a.input)
    (same_Some a.settings s (sym a.accepted ∙ ours)) (a.has, a.output_is, a.rows, a.numbers)
