-- What contracts see of a store is stored as the tuple of its parts.
use Rattle.std.specs.Prelude.{ℕ, Bool, List, Option, refl}
use Rattle.std.specs.Coded.{Coded, code_by, coded×, coded_ℕ, coded_bool, coded_list, coded_option}
use Rattle.term_model.specs.declared.Row.{Row}
use Rattle.term_model.specs.Tree.{Tree}
use Rattle.term_model.specs.Code.{tree_code}
use Rattle.plain_store.specs.Contents.{Contents}

abbrev pub row_code : Coded Row
row_code = code_by ℕ coded_ℕ (λ r. r.0) (λ n. record { 0 = n }) (λ _. refl)

abbrev pub Parts : Type 0
Parts = (List Row × List (Option Tree)) × ((List Tree × List Tree) × ((Bool × ℕ) × ((ℕ × ℕ) × ℕ)))

abbrev pub parts_code : Coded Parts
parts_code =
    coded× (coded× (coded_list row_code) (coded_list (coded_option tree_code)))
    (coded× (coded× (coded_list tree_code) (coded_list tree_code))
    (coded× (coded× coded_bool coded_ℕ) (coded× (coded× coded_ℕ coded_ℕ) coded_ℕ)))

abbrev pub parts : Contents → Parts
parts c = (
  (c.stack, c.trees),
  ((c.built, c.hand), ((c.inside, c.refusals), ((c.widest, c.room), c.raised))),
)

abbrev pub whole : Parts → Contents
whole p =
    record {
      stack = p.0.0;
      trees = p.0.1;
      built = p.1.0.0;
      hand = p.1.0.1;
      inside = p.1.1.0.0;
      refusals = p.1.1.0.1;
      widest = p.1.1.1.0.0;
      room = p.1.1.1.0.1;
      raised = p.1.1.1.1;
    }

abbrev pub contents_code : Coded Contents
contents_code = code_by Parts parts_code parts whole (λ _. refl)
