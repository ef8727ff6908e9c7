-- What was built of a text as it was read is what the text spells, with other numbers of symbols.
use Rattle.std.proofs.Common.{◌≡◌, ℕ, ◌+◌, ◌≤◌, inl, inr, List, [], ◌∷◌, ◌++◌, length, map, Bool, true, false, not, ◌&&◌, ◌||◌, eqb, nat_lt, Result, Ok, Err, Some, None, refl, sym, ap, subst, ◌∙◌, arith, slice_get}
use Rattle.std.specs.Prelude.{sum_by, max, if◌then◌else◌}
use Rattle.std.proofs.lemmas.Bool.{ltb-true}
use Rattle.std.proofs.lemmas.Bool.{ne_eqb}
use Rattle.std.proofs.lemmas.List.Sums.{sum_by-cons}
use Rattle.faults.specs.declared.refusal.Refusal.{Refusal}
use Rattle.read_faults.specs.Fault.{fault}
use Rattle.term_model.specs.Tree.{Tree, nodes, nodes_all, among}
use Rattle.term_model.proofs.Equality.{among_cases}
use Rattle.symbol_pool.specs.Pool.{Named, named, IsPool}
use Rattle.symbol_pool.specs.Taking.{number_of, has, with_symbol, GrowsPool}
use Rattle.symbol_pool.proofs.Taking.{number_holds, with_symbol_grows, has_taken, with_old, with_new, not_full, grows_itself, grows_on, stays_in}
use Rattle.tree_text.specs.Text.{has_names, all_have_names}
use Rattle.tree_text.specs.Canonical.{canonical_lines}
use Rattle.term_syntax.specs.Written.{Written, Call, Digits, Listed, Writtens, End, More, count_of, place_of}
use Rattle.term_syntax.specs.TakenUp.{and_then, take_name, take_term, take_arguments, take_elements, take_input, tree_in, trees_in, cells_in}
use Rattle.term_syntax.specs.Reading.{IsReading}
use Rattle.term_building.specs.Built.{IsBuilt}
use Rattle.term_building.specs.Trees.{IsGood, AreGood, AllGood, HasValue}
use Rattle.term_building.proofs.SameText.{same_lines}
use Rattle.term_building.proofs.Growing.{stays_good}
use Rattle.term_building.proofs.Calling.{with_pool}
use Rattle.term_file.specs.Sharing.{IsPart}
use Rattle.term_file.specs.NamedTree.{Called, Over, Cell, One_more, None_more, named_tree, named_trees, AreSame}
use Rattle.term_file.proofs.Naming.{different_same}
use Rattle.term_file.proofs.Numbers.{never_full}
use Rattle.term_file.proofs.Renaming.{last_or_before}
use Rattle.term_text.specs.Sizes.{saturated}
use Rattle.plain_store.specs.Contents.{Contents, empty}
use Rattle.term_commands.specs.Different.{different}
use Rattle.term_commands.specs.Listing.{IsListed, counts_line}

Taking : Type 0
Taking = Result (List Named) Refusal

module _ (all : List Named) (one : IsPool all) where
  -- symbols were taken up, all of them among these, and this is true then
  record Taken (old : List Named) (r : Result (List Named) Refusal) (Now : List Named → Type 0) : Type 0 where
    pool : List Named
    is : r ≡ Ok pool
    is_pool : IsPool pool
    part : IsPart pool all
    grows : GrowsPool old pool
    now : Now pool

  same_taken : (old : List Named) (Now : List Named → Type 0) → IsPool old → IsPart old all → Now old → Taken old (Ok old) Now
  same_taken old Now p part n = record { pool = old; is = refl; is_pool = p; part = part; grows = grows_itself old; now = n }

  chain : (old : List Named) (r : Result (List Named) Refusal) (next : List Named → Result (List Named) Refusal) (A B C : List Named → Type 0) →
      (t : Taken old r A) → Taken t.pool (next t.pool) B → ((q : List Named) → GrowsPool t.pool q → A t.pool → B q → C q) → Taken old (and_then r next) C
  chain old r next A B C t u f = record {
    pool = u.pool;
    is = ap (λ x. and_then x next) t.is ∙ u.is;
    is_pool = u.is_pool;
    part = u.part;
    grows = grows_on old t.pool u.pool t.grows u.grows;
    now = f u.pool u.grows t.now u.now;
  }

  with_part : (old : List Named) (s : Named) → IsPart old all → has all s ≡ true → IsPart (with_symbol old s) all
  with_part old s part h = by (has old s) refl
    where
      by : (b : Bool) → has old s ≡ b → IsPart (with_symbol old s) all
      by true e = subst (λ p. IsPart p all) (sym (with_old old s e)) part
      by false e = subst (λ p. IsPart p all) (sym (with_new old s e)) (record { among = λ i q at. (elim (last_or_before old s i q at) [ inl l ↦ part.among i q l | inr same ↦ ap (has all) same ∙ h ]) })

  takes_name : (place : ℕ) (name : List ℕ) (count : ℕ) (old : List Named) → has all (named name count) ≡ true → nat_lt 255 (length name) ≡ false → IsPool old → IsPart old all →
      Taken old (take_name place name count old) (λ q. has q (named name count) ≡ true)
  takes_name place name count old h short p part =
      let s = named name count in
      let room = not_full old s (never_full all old s one p part h) in
      record {
        pool = with_symbol old s;
        is =
            ap (λ b. if nat_lt 255 (length name) || b then Err (fault 13 place) else Ok (with_symbol old s)) room
            ∙ ap (λ b. if b || false then Err (fault 13 place) else Ok (with_symbol old s)) short;
        is_pool = with_pool old s p (ap not room);
        part = with_part old s part h;
        grows = with_symbol_grows old s;
        now = has_taken old s;
      }

  mutual
    takes_term : (w : Written) (old : List Named) → IsGood all w → IsPool old → IsPart old all → Taken old (take_term w old) (λ q. IsGood q w)
    takes_term (Call p n ws) old (h, short, few, good) pool part =
        let t = takes_name p n (count_of ws) old h short pool part in
        let u = takes_arguments 0 ws t.pool (omega (arith, few)) good t.is_pool t.part in
        chain old (take_name p n (count_of ws) old) (take_arguments 0 ws) (λ q. has q (named n (count_of ws)) ≡ true) (λ q. AreGood q ws) (λ q. IsGood q (Call p n ws)) t u
        (λ q g a b. ((stays_in t.pool q (named n (count_of ws)) g a).1, short, few, b))
    takes_term (Digits p (Some v)) old good pool part = same_taken old (λ q. HasValue (Some v)) pool part tt
    takes_term (Digits p None) old good pool part = absurd good
    takes_term (Listed p ws) old good pool part = takes_elements ws old good pool part

    takes_arguments : (c : ℕ) (ws : Writtens) (old : List Named) → c + count_of ws ≤ 16 → AreGood all ws → IsPool old → IsPart old all → Taken old (take_arguments c ws old) (λ q. AreGood q ws)
    takes_arguments c End old few good pool part = same_taken old (λ q. AreGood q End) pool part tt
    takes_arguments c (More w ws) old few (g, good) pool part =
        let t = takes_term w old g pool part in
        let u = takes_arguments (c + 1) ws t.pool (omega (arith, few)) good t.is_pool t.part in
        let no : eqb c 16 ≡ false = ne_eqb c 16 (λ e. (let bad : c ≡ 16 = e in omega (arith, bad, few))) in
        subst (λ b. Taken old (if b then Err (fault 13 (place_of w)) else and_then (take_term w old) (take_arguments (c + 1) ws)) (λ q. AreGood q (More w ws))) (sym no)
        (chain old (take_term w old) (take_arguments (c + 1) ws) (λ q. IsGood q w) (λ q. AreGood q ws) (λ q. AreGood q (More w ws)) t u (λ q g a b. (stays_good t.pool q g w a, b)))

    takes_elements : (ws : Writtens) (old : List Named) → AreGood all ws → IsPool old → IsPart old all → Taken old (take_elements ws old) (λ q. AreGood q ws)
    takes_elements End old good pool part = same_taken old (λ q. AreGood q End) pool part tt
    takes_elements (More w ws) old (g, good) pool part =
        let t = takes_term w old g pool part in
        let u = takes_elements ws t.pool good t.is_pool t.part in
        chain old (take_term w old) (take_elements ws) (λ q. IsGood q w) (λ q. AreGood q ws) (λ q. AreGood q (More w ws)) t u (λ q g a b. (stays_good t.pool q g w a, b))

  takes_input : (ws : List Written) (old : List Named) → AllGood all ws → IsPool old → IsPart old all → Taken old (take_input ws old) (λ q. AllGood q ws)
  takes_input [] old good pool part = same_taken old (λ q. AllGood q []) pool part tt
  takes_input (w ∷ ws) old (g, good) pool part =
      let t = takes_term w old g pool part in
      let u = takes_input ws t.pool good t.is_pool t.part in
      chain old (take_term w old) (take_input ws) (λ q. IsGood q w) (λ q. AllGood q ws) (λ q. AllGood q (w ∷ ws)) t u (λ q g a b. (stays_good t.pool q g w a, b))

-- ---- trees over two lists of symbols
module _ (names symbols : List Named) where
  same_symbol : (s : Named) → has names s ≡ true → has symbols s ≡ true → slice_get names (number_of names s) ≡ slice_get symbols (number_of symbols s)
  same_symbol s h k = number_holds names s (ltb-true (number_of names s) (length names) h) ∙ sym (number_holds symbols s (ltb-true (number_of symbols s) (length symbols) k))

  mutual
    same_tree : (w : Written) → IsGood names w → IsGood symbols w → named_tree names (tree_in names w) ≡ named_tree symbols (tree_in symbols w)
    same_tree (Call p n ws) (h, a, b, good) (k, c, d, fine) =
        let head = same_symbol (named n (count_of ws)) h k in
        let rest = same_trees ws good fine in
        λ i. Over (Called (head i)) (rest i)
    same_tree (Digits p v) good fine = refl
    same_tree (Listed p ws) good fine = same_cells ws good fine

    same_trees : (ws : Writtens) → AreGood names ws → AreGood symbols ws → named_trees names (trees_in names ws) ≡ named_trees symbols (trees_in symbols ws)
    same_trees End good fine = refl
    same_trees (More w ws) (g, good) (f, fine) =
        let one = same_tree w g f in
        let rest = same_trees ws good fine in
        λ i. One_more (one i) (rest i)

    same_cells : (ws : Writtens) → AreGood names ws → AreGood symbols ws → named_tree names (cells_in names ws) ≡ named_tree symbols (cells_in symbols ws)
    same_cells End good fine = refl
    same_cells (More w ws) (g, good) (f, fine) =
        let one = same_tree w g f in
        let rest = same_cells ws good fine in
        λ i. Over Cell (One_more (one i) (One_more (rest i) None_more))

  same_all : (ws : List Written) → AllGood names ws → AllGood symbols ws → AreSame names (map (tree_in names) ws) symbols (map (tree_in symbols) ws)
  same_all [] good fine = refl
  same_all (w ∷ ws) (g, good) (f, fine) =
      let one = same_tree w g f in
      let rest = same_all ws good fine in
      λ i. one i ∷ rest i

  mutual
    many_same : (w : Written) → nodes (tree_in names w) ≡ nodes (tree_in symbols w)
    many_same (Call p n ws) = ap (λ k. k + 1) (many_trees ws)
    many_same (Digits p v) = refl
    many_same (Listed p ws) = many_cells ws

    many_trees : (ws : Writtens) → nodes_all (trees_in names ws) ≡ nodes_all (trees_in symbols ws)
    many_trees End = refl
    many_trees (More w ws) =
        let a = many_same w in
        let b = many_trees ws in
        λ i. a i + b i

    many_cells : (ws : Writtens) → nodes (cells_in names ws) ≡ nodes (cells_in symbols ws)
    many_cells End = refl
    many_cells (More w ws) =
        let a = many_same w in
        let b = many_cells ws in
        λ i. (a i + (b i + 0)) + 1

  many_all : (ws : List Written) → sum_by nodes (map (tree_in names) ws) ≡ sum_by nodes (map (tree_in symbols) ws)
  many_all [] = refl
  many_all (w ∷ ws) =
      let a = many_same w in
      let b = many_all ws in
      sum_by-cons nodes (tree_in names w) (map (tree_in names) ws)
      ∙ (λ i. a i + b i)
      ∙ sym (sum_by-cons nodes (tree_in symbols w) (map (tree_in symbols) ws))

both : (a b : Bool) → a ≡ true → b ≡ true → (a && b) ≡ true
both a b e f = ap (λ c. c && b) e ∙ f

module _ (pool : List Named) where
  mutual
    named_term : (w : Written) → IsGood pool w → has_names pool (tree_in pool w) ≡ true
    named_term (Call p n ws) (h, a, b, good) = both (has pool (named n (count_of ws))) (all_have_names pool (trees_in pool ws)) h (named_terms ws good)
    named_term (Digits p v) good = refl
    named_term (Listed p ws) good = named_cells ws good

    named_terms : (ws : Writtens) → AreGood pool ws → all_have_names pool (trees_in pool ws) ≡ true
    named_terms End good = refl
    named_terms (More w ws) (g, good) = both (has_names pool (tree_in pool w)) (all_have_names pool (trees_in pool ws)) (named_term w g) (named_terms ws good)

    named_cells : (ws : Writtens) → AreGood pool ws → has_names pool (cells_in pool ws) ≡ true
    named_cells End good = refl
    named_cells (More w ws) (g, good) = both (has_names pool (tree_in pool w)) (has_names pool (cells_in pool ws) && true) (named_term w g) (both (has_names pool (cells_in pool ws)) true (named_cells ws good) refl)

  named_among : (ws : List Written) → AllGood pool ws → (t : Tree) → among t (map (tree_in pool) ws) ≡ true → has_names pool t ≡ true
  named_among [] good t h = absurd cc
  named_among (w ∷ ws) (g, good) t h =
      elim (among_cases t (tree_in pool w) (map (tree_in pool) ws) h) [
        | inl e ↦ ap (has_names pool) e ∙ named_term w g
        | inr r ↦ named_among ws good t r
      ]

-- ---- what was built
pub record AreRead (text : List ℕ) (trees : List Tree) (lines : List ℕ) : Type 0 where
  pub symbols : List Named
  pub terms : List Tree
  pub read : IsReading text [] symbols terms
  pub lines_are : lines ≡ canonical_lines symbols terms
  pub different_are : different terms ≡ different trees
  pub nodes_are : sum_by nodes terms ≡ sum_by nodes trees

no_pool : IsPool []
no_pool = record { once = λ i j s a b. absurd (let bad : None ≡ Some s = a in cc); room = omega arith }

no_part : (all : List Named) → IsPart [] all
no_part all = record { among = λ i s a. absurd (let bad : None ≡ Some s = a in cc) }

pub built_read : (text : List ℕ) (all : List Named) (trees : List Tree) (lines : List ℕ) → IsBuilt text all trees lines → AreRead text trees lines
built_read text all trees lines b =
    let t = takes_input all b.is_pool b.terms [] b.good no_pool (no_part all) in
    let terms = map (tree_in t.pool) b.terms in
    record {
      symbols = t.pool;
      terms = terms;
      read = record { terms = b.terms; spelled = b.spelled; taken = t.is; trees_are = refl };
      lines_are = b.lines_are ∙ sym (same_lines t.pool b.terms t.now);
      different_are =
          sym (ap different b.trees_are
          ∙ different_same all t.pool b.is_pool t.is_pool (map (tree_in all) b.terms) terms (same_all all t.pool b.terms b.good t.now) (named_among t.pool b.terms t.now));
      nodes_are = many_all t.pool all b.terms ∙ ap (λ ts. sum_by nodes ts) (sym b.trees_are);
    }

-- how wide the rows are of a store that was made and entered
pub entered_wide : (first entered : Contents) (rows depth widest : ℕ) → first ≡ empty rows depth (max widest 2) → entered.widest ≡ first.widest → (widest ≤ entered.widest) × (2 ≤ entered.widest)
entered_wide first entered rows depth widest new after =
    let before : first.widest ≡ max widest 2 = ap (λ (s : Contents). s.widest) new in
    (omega (arith, before, after), omega (arith, before, after))

-- where few rows suffice, more do
pub more_rows : (few rows : ℕ) (input text : List ℕ) → few ≤ rows → IsListed few input text → IsListed rows input text
more_rows few rows input text h l = let fit = l.fit in record { symbols = l.symbols; terms = l.terms; read = l.read; fit = omega (arith, fit, h); text_is = l.text_is }

pub listed : (rows : ℕ) (input before text : List ℕ) (all : List Named) (trees : List Tree) (count many : ℕ) → IsBuilt input all trees before → count ≡ different trees → many ≡ saturated (sum_by nodes trees) → count ≤ rows → text ≡ before ++ counts_line count many → IsListed rows input text
listed rows input before text all trees count many b counted summed fit e =
    let r = built_read input all trees before b in
    record {
      symbols = r.symbols;
      terms = r.terms;
      read = r.read;
      fit = subst (λ k. k ≤ rows) (counted ∙ sym r.different_are) fit;
      text_is = e ∙ (λ i. r.lines_are i ++ counts_line ((counted ∙ sym r.different_are) i) ((summed ∙ ap saturated (sym r.nodes_are)) i));
    }
