use Rattle.std.proofs.Common.{◌≡◌, ◌≤◌, ◌∙◌, Bool, if◌then◌else◌, length, vec_len, vec_capacity, ap, sym, arith}
use Rattle.term_text.proofs.Counts.{none_filled}
use Rattle.term_text.proofs.counting.fill_counts.Goals as goal

pub returns-clause-clear : goal.returns-clause-clear
returns-clause-clear c =
    let t = c.args.tally.now in
    let filled = c.resize-filled in
    let now = filled.new.self in
    let ok = filled.ensures.succeeds c.requires.places.counts in
    let len : vec_len now ≡ c.args.rows = filled.ensures.len ∙ ap (λ (b : Bool). if b then c.args.rows else vec_len t.counts) ok in
    let size : length now.items ≡ c.args.rows = sym now.ok.0 ∙ len in
    let listed : vec_len now ≤ vec_capacity t.rows = omega (arith, len, c.requires.places.listed) in
    let path : vec_len now ≤ vec_capacity t.path = omega (arith, len, c.requires.places.path) in
    record {
      none = none_filled t.counts.items now.items c.args.rows size c.requires.clear.none
          (λ k below there. filled.ensures.by_index.0 k 0 below (omega (arith, there, t.counts.ok.0)))
          (λ k past below. filled.ensures.by_index.1 k 0 ok (omega (arith, past, t.counts.ok.0)) below);
      rows = c.requires.clear.rows;
      path = c.requires.clear.path;
      room = record { rows = listed; path = path };
    }
