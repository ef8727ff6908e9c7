-- Whether some worker stopped in a way.
use Rattle.std.proofs.Common.{◌≡◌, ℕ, ◌<◌, List, length, map, refl, sym, ap, ◌∙◌, get_or, arith, All}
use Rattle.std.specs.Prelude.{Some, Err, Contains, option_map}
use Rattle.std.proofs.lemmas.Option.{slice_get-map, slice_get_read, slice_get_within}
use Rattle.std.proofs.lemmas.List.{length-map}
use Rattle.std.proofs.lemmas.List.Elements.{All-contains}
use Rattle.line_ends.specs.declared.stop.LineStop.{LineStop}
use Rattle.worker_crew.specs.declared.share.Share.{Share}
use Rattle.worker_crew.specs.Gathered.{end_of_share}
use Rattle.worker_crew.proofs.Finding.{contained, place_of, at_place, same_some}

pub some_stop : (shares : List Share) (i : ℕ) (share : Share) (stop : LineStop) → i < length shares → share ≡ get_or shares i share → share.end ≡ Err stop →
    Contains (map end_of_share shares) (Err stop)
some_stop shares i share stop h at e =
    contained (map end_of_share shares) i (Err stop)
    (slice_get-map end_of_share shares i ∙ (ap (option_map end_of_share) (slice_get_read shares (length shares) i share refl h at) ∙ ap Some e))

pub no_stop : (shares : List Share) (stop : LineStop) → All (λ (s : Share). s.end ≡ Err stop → ⊥) shares → Contains (map end_of_share shares) (Err stop) → ⊥
no_stop shares stop all c =
    let k = place_of (map end_of_share shares) (Err stop) c in
    let share = at_place shares k.0 (let h = slice_get_within (map end_of_share shares) k.0 (Err stop) k.1 in let l = length-map shares end_of_share in omega arith) in
    All-contains (λ (s : Share). s.end ≡ Err stop → ⊥) shares share.0 all (contained shares k.0 share.0 share.1)
    (same_some share.0.end (Err stop) (sym (slice_get-map end_of_share shares k.0 ∙ ap (option_map end_of_share) share.1) ∙ k.1))
