-- The desks of the tests.
use Rattle.std.specs.Prelude.{◌≡◌, ℕ, [], false}
use Rattle.terms_api.specs.Terms.{Store}

-- nobody is inside, and there is nothing yet
pub record IsEmptyDesk (rows : ℕ) (desk : Store) : Type 0 where
  pub outside : desk.inside ≡ false
  pub empty : desk.stack ≡ []
  pub rows_are : desk.rows ≡ rows
  pub room : desk.room ≡ 8
  pub widest : desk.widest ≡ 2
