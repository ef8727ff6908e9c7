-- A command ends as the call does that is its last.
use Rattle.std.proofs.Common.{◌≡◌, ℕ, List, Bool, sym, subst}
use Rattle.std.specs.Prelude.{Result, Ok, Err, IfOk, IfErr}
use Rattle.term_model.specs.Tree.{Tree}
use Rattle.symbol_pool.specs.Pool.{Named}
use Rattle.term_file.specs.File.{Terms, IsFile}
use Rattle.term_file.specs.NamedTree.{AreSame}
use Rattle.term_commands.specs.Listing.{IsUncounted}
use Rattle.term_commands.specs.Packing.{IsFileOf}
use Rattle.term_commands.specs.Unpacking.{IsUnpacked, IsClosed, lines, all_written}
use Rattle.term_commands.specs.declared.fault.TermsFault.{TermsFault}
use Rattle.term_commands.specs.declared.fault.TermsFault.TheVariants.{Memory}

module _ {A : Type 0} where
  pub uncounted : (rows : ℕ) (ts : List Tree) (r : Result A TermsFault) → IfErr r (λ e. e ≡ Memory) → IfErr r (IsUncounted rows ts)
  uncounted rows ts (Ok a) h = tt
  uncounted rows ts (Err e) h = subst (IsUncounted rows ts) (sym h) tt

  pub closed : (file : List ℕ) (r : Result A TermsFault) → IfErr r (λ e. e ≡ Memory) → IfErr r (IsClosed file)
  closed file (Ok a) h = tt
  closed file (Err e) h = subst (IsClosed file) (sym h) tt

  module _ {E : Type 0} (held : Terms) (text : A → List ℕ) (r : Result A E) where
    pub packs : (symbols : List Named) (terms : List Tree) → AreSame symbols terms held.symbols held.trees
        → IfOk r (λ a. IsFile (text a) held) → IfOk r (λ a. IsFileOf symbols terms (text a))
    packs symbols terms same is = by r is
      where
        by : (r : Result A E) → IfOk r (λ a. IsFile (text a) held) → IfOk r (λ a. IsFileOf symbols terms (text a))
        by (Ok a) is = record { held = held; is_file = is; same = same }
        by (Err e) is = tt

    pub unpacks : (file : List ℕ) (whole : A → Bool) → IsFile file held → IfOk r (λ a. text a ≡ lines 0 held.symbols held.trees) → IfOk r (λ a. whole a ≡ all_written 0 held.trees)
        → IfOk r (λ a. IsUnpacked file (text a) (whole a))
    unpacks file whole is told all = by r told all
      where
        by : (r : Result A E) → IfOk r (λ a. text a ≡ lines 0 held.symbols held.trees) → IfOk r (λ a. whole a ≡ all_written 0 held.trees) → IfOk r (λ a. IsUnpacked file (text a) (whole a))
        by (Ok a) told all = record { held = held; is_file = is; text_is = told; whole_is = all }
        by (Err e) told all = tt
