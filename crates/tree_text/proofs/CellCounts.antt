-- Each item that is written makes at most one cell more.
use Rattle.std.proofs.Common.{◌≡◌, ◌≤◌, ℕ, zero, suc, ◌+◌, ◌-◌, List, [], ◌∷◌, ◌++◌, refl, arith, cond, ltb, Bool, true, false}
use Rattle.std.specs.Prelude.{codes, decimal}
use Rattle.term_model.specs.declared.Symbol.{Symbol}
use Rattle.term_model.specs.declared.Item.{Item}
use Rattle.term_model.specs.declared.Item.TheVariants.{Var, App, Int, Nil, Cons}
use Rattle.tree_text.specs.declared.writer.Frame.{Frame}
use Rattle.tree_text.specs.declared.writer.Writer.{Writer}
use Rattle.tree_text.specs.Writing.{opening, arrive, written, written_at, term_written, call_written, rest_written}

either : (b : Bool) (x y : Writer) (n : ℕ) → x.cells ≡ n → y.cells ≡ n → (cond b x y).cells ≡ n
either true x y n e f = e
either false x y n e f = f

arrive_cells : (spell : Symbol → List ℕ) (fs : List Frame) (w : Writer) → (arrive spell fs w).cells ≡ w.cells
arrive_cells spell [] w = refl
arrive_cells spell (f ∷ fs) w =
    either (ltb 1 f.left) (record w { text = 44 ∷ w.text; frames = record f { left = f.left - 1 } ∷ fs })
    (arrive spell fs (record w { text = opening spell f.symbol ++ w.text })) w.cells refl
    (arrive_cells spell fs (record w { text = opening spell f.symbol ++ w.text }))

call_cells : (spell : Symbol → List ℕ) (f : Symbol) (n : ℕ) (w : Writer) → (call_written spell f n w).cells ≤ w.cells + 1
call_cells spell f zero w = let e = arrive_cells spell w.frames (record w { text = spell f ++ w.text }) in omega (arith, e)
call_cells spell f (suc n) w = omega arith

term_cells : (spell : Symbol → List ℕ) (item : Item) (w : Writer) → (term_written spell item w).cells ≤ w.cells + 1
term_cells spell (Var x) w = let e = arrive_cells spell w.frames (record w { text = [] ++ w.text }) in omega (arith, e)
term_cells spell (App f n) w = call_cells spell f n w
term_cells spell (Int v) w = let e = arrive_cells spell w.frames (record w { text = decimal v ++ w.text }) in omega (arith, e)
term_cells spell Nil w = let e = arrive_cells spell w.frames (record w { text = codes "[]" ++ w.text }) in omega (arith, e)
term_cells spell Cons w = omega arith

rest_cells : (item : Item) (w : Writer) → (rest_written item w).cells ≤ w.cells + 1
rest_cells (Var x) w = omega arith
rest_cells (App f n) w = omega arith
rest_cells (Int v) w = omega arith
rest_cells Nil w = omega arith
rest_cells Cons w = omega arith

at_cells : (n : ℕ) (spell : Symbol → List ℕ) (item : Item) (w : Writer) → (written_at n spell item w).cells ≤ w.cells + 1
at_cells zero spell item w = term_cells spell item w
at_cells (suc n) spell item w = rest_cells item w

pub one_cell : (spell : Symbol → List ℕ) (item : Item) (w : Writer) → (written spell item w).cells ≤ w.cells + 1
one_cell spell item w = at_cells w.cells spell item w
