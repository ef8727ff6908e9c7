-- A step in names leads from what must still come to what must still come after it.
use Rattle.std.proofs.Common.{ℕ, List, [], ◌∷◌, sym, subst, append_assoc, append-nil}
use Rattle.rec_reader.specs.declared.token.Name.{Name}
use Rattle.rec_reader.specs.declared.token.Token.{Token}
use Rattle.rec_reader.specs.declared.token.Token.TheVariants.{Named, At}
use Rattle.rec_reader.specs.declared.token.Sign.TheVariants.{Arrow, Colon, Comma}
use Rattle.rec_reader.specs.declared.syntax_tree.Specification.{Specification}
use Rattle.rec_reader.specs.declared.machine.Group.{Group}
use Rattle.rec_reader.specs.declared.machine.NameList.{NameList}
use Rattle.rec_reader.specs.declared.machine.NameList.TheVariants.{IncludeNames, SortNames, DeclaredNames, ArgumentSorts, VariableNames}
use Rattle.rec_reader.specs.declared.machine.Place.TheVariants.{AfterName}
use Rattle.rec_reader.specs.declared.machine.Machine.{Machine}
use Rattle.rec_reader.specs.Grammar.{none, next, Maybe, without, with, IsName, named, IsNames, declaration, variables}
use Rattle.rec_reader.specs.Steps.{filled, take_first_name, on_arrow, on_colon, on_variable_colon, without_names, before_names, after_names, after_name, after_comma, on_declaration_sort, on_variable_sort}
use Rattle.rec_reader.proofs.Values.{no_includes_more, no_sorts_more, no_declarations_more, no_variables_more, one_declaration, one_variables}
use Rattle.rec_reader.proofs.Ahead.{Then, then, Sign_then, sign, name, Others, stop, others, behind_comma, After_variables, After_declarations, After_sorts, After_header, Declarations, Variables_ahead, Declaration_sort, Variable_sort, After_names, Before_names, Ahead}
use Rattle.rec_reader.proofs.SectionsBack.{Backs, weaken, listed_more, header_backs, sorts_backs, declarations_backs, variables_backs}

-- what follows the names of the machine's list
abbrev After : NameList → Machine → List Name → List Token → List Specification → Type 0
After list m = After_names list m.done m.current m.names m.arguments

-- after a name and others is after both
grow : (list : NameList) (n : Name) (m : Machine) (xs : List Name) (ts : List Token) (s : List Specification) → After list (filled list (n ∷ []) m) xs ts s → After list m (n ∷ xs) ts s
grow IncludeNames n m xs ts s k = subst (λ ys. After_header m.done (record m.current { includes = ys }) ts s) (append_assoc m.current.includes (n ∷ []) xs) k
grow SortNames n m xs ts s k = subst (λ ys. After_sorts m.done (record m.current { sorts = ys }) ts s) (append_assoc m.current.sorts (n ∷ []) xs) k
grow (DeclaredNames group) n m xs ts s k = subst (λ ys. Sign_then Colon (Then (Maybe IsNames) (λ zs. Sign_then Arrow (Declaration_sort group m.done m.current ys zs))) ts s) (append_assoc m.names (n ∷ []) xs) k
grow (ArgumentSorts group) n m xs ts s k = subst (λ ys. Sign_then Arrow (Declaration_sort group m.done m.current m.names ys) ts s) (append_assoc m.arguments (n ∷ []) xs) k
grow VariableNames n m xs ts s k = subst (λ ys. Sign_then Colon (Variable_sort m.done m.current ys) ts s) (append_assoc m.names (n ∷ []) xs) k

-- the rest of a list after a name
list_back : (list : NameList) (n : Name) (m : Machine) {ts : List Token} {s : List Specification} → Then (Others IsName) (After list (filled list (n ∷ []) m)) ts s → Then IsNames (After list m) (Named n ∷ ts) s
list_back list n m {s = s} (then {us = us} {a = xs} r k) = then (listed_more named r) (grow list n m xs us s k)

-- the place doesn't matter
placed : (list : NameList) (n : Name) (m : Machine) (ts : List Token) (s : List Specification) → Ahead (record (filled list (n ∷ []) m) { place = AfterName list }) ts s → Then (Others IsName) (After list (filled list (n ∷ []) m)) ts s
placed IncludeNames n m ts s g = g
placed SortNames n m ts s g = g
placed (DeclaredNames group) n m ts s g = g
placed (ArgumentSorts group) n m ts s g = g
placed VariableNames n m ts s g = g

as_others : (K : List Name → List Token → List Specification → Type 0) {ts : List Token} {s : List Specification} → Then IsNames K ts s → Then (Others IsName) K ts s
as_others K (then h k) = then (others h) k

as_comma : (K : List Name → List Token → List Specification → Type 0) (p : ℕ) {ts : List Token} {s : List Specification} → Then IsNames K ts s → Then (Others IsName) K (At Comma p ∷ ts) s
as_comma K p (then h k) = then (behind_comma h) k

as_maybe : (K : List Name → List Token → List Specification → Type 0) {ts : List Token} {s : List Specification} → Then IsNames K ts s → Then (Maybe IsNames) K ts s
as_maybe K (then h k) = then (with h) k

pub comma_backs : (list : NameList) (m : Machine) (t : Token) → Backs (after_comma list m t) t (Then IsNames (After list m))
comma_backs list m (Named n) = λ ts s g. list_back list n m (placed list n m ts s g)
comma_backs list m _ = tt

pub arrow_backs : (group : Group) (m : Machine) (t : Token) → Backs (on_arrow group m t) t (Sign_then Arrow (Declaration_sort group m.done m.current m.names m.arguments))
arrow_backs group m (At Arrow p) = λ ts s g. sign g
arrow_backs group m _ = tt

pub colon_backs : (group : Group) (m : Machine) (t : Token) → Backs (on_colon group m t) t (Sign_then Colon (Then (Maybe IsNames) (λ ys. Sign_then Arrow (Declaration_sort group m.done m.current m.names ys))))
colon_backs group m (At Colon p) = λ ts s g. sign g
colon_backs group m _ = tt

pub variable_colon_backs : (m : Machine) (t : Token) → Backs (on_variable_colon m t) t (Sign_then Colon (Variable_sort m.done m.current m.names))
variable_colon_backs m (At Colon p) = λ ts s g. sign g
variable_colon_backs m _ = tt

-- after a whole list
names_end : (list : NameList) (m : Machine) (t : Token) → Backs (after_names list m t) t (After list m [])
names_end IncludeNames m t = weaken (after_names IncludeNames m t) t (After_header m.done m.current) (After IncludeNames m []) (λ ts s k. subst (λ c. After_header m.done c (t ∷ ts) s) (sym (no_includes_more m.current)) k) (header_backs m t)
names_end SortNames m t = weaken (after_names SortNames m t) t (After_sorts m.done m.current) (After SortNames m []) (λ ts s k. subst (λ c. After_sorts m.done c (t ∷ ts) s) (sym (no_sorts_more m.current)) k) (sorts_backs m t)
names_end (DeclaredNames group) m t = weaken (on_colon group m t) t (Sign_then Colon (Then (Maybe IsNames) (λ ys. Sign_then Arrow (Declaration_sort group m.done m.current m.names ys)))) (After (DeclaredNames group) m []) (λ ts s k. subst (λ ns. Sign_then Colon (Then (Maybe IsNames) (λ ys. Sign_then Arrow (Declaration_sort group m.done m.current ns ys))) (t ∷ ts) s) (sym (append-nil m.names)) k) (colon_backs group m t)
names_end (ArgumentSorts group) m t = weaken (on_arrow group m t) t (Sign_then Arrow (Declaration_sort group m.done m.current m.names m.arguments)) (After (ArgumentSorts group) m []) (λ ts s k. subst (λ ns. Sign_then Arrow (Declaration_sort group m.done m.current m.names ns) (t ∷ ts) s) (sym (append-nil m.arguments)) k) (arrow_backs group m t)
names_end VariableNames m t = weaken (on_variable_colon m t) t (Sign_then Colon (Variable_sort m.done m.current m.names)) (After VariableNames m []) (λ ts s k. subst (λ ns. Sign_then Colon (Variable_sort m.done m.current ns) (t ∷ ts) s) (sym (append-nil m.names)) k) (variable_colon_backs m t)

ended : (list : NameList) (m : Machine) (t : Token) → Backs (after_names list m t) t (Then (Others IsName) (After list m))
ended list m t = weaken (after_names list m t) t (After list m []) (Then (Others IsName) (After list m)) (λ ts s k. then stop k) (names_end list m t)

pub name_backs : (list : NameList) (m : Machine) (t : Token) → Backs (after_name list m t) t (Then (Others IsName) (After list m))
name_backs list m (Named n) = λ ts s g. as_others (After list m) (list_back list n m (placed list n m ts s g))
name_backs list m (At Comma p) = λ ts s g. as_comma (After list m) p g
name_backs list m t = ended list m t

declaration_back : (group : Group) (n : Name) (D : List Specification) (C : Specification) {ts : List Token} {s : List Specification} → Then (Others IsName) (After_names (DeclaredNames group) D C (n ∷ []) []) ts s → Declarations group D C (Named n ∷ ts) s
declaration_back group n D C {s = s} (then {a = xs} r (sign (then {a = ys} h (sign (name {n = o} (then {us = us} {a = ds} any k)))))) =
    then (next (declaration (listed_more named r) h) any) (subst (λ c. After_declarations group D c us s) (one_declaration C (record { names = n ∷ xs; arguments = ys; sort = o }) ds) k)

variables_back : (n : Name) (D : List Specification) (C : Specification) {ts : List Token} {s : List Specification} → Then (Others IsName) (After_names VariableNames D C (n ∷ []) []) ts s → Variables_ahead D C (Named n ∷ ts) s
variables_back n D C {s = s} (then {a = xs} r (sign (name {n = o} (then {us = us} {a = vs} any k)))) =
    then (next (variables (listed_more named r)) any) (subst (λ c. After_variables D c us s) (one_variables C (record { names = n ∷ xs; sort = o }) vs) k)

-- the first name of a list
first_backs : (list : NameList) (m : Machine) (n : Name) → Backs (take_first_name list n m) (Named n) (Before_names list m.done m.current m.names m.arguments)
first_backs IncludeNames m n = λ ts s g. as_maybe (After IncludeNames m) (list_back IncludeNames n m g)
first_backs SortNames m n = λ ts s g. as_maybe (After SortNames m) (list_back SortNames n m g)
first_backs (DeclaredNames group) m n = λ ts s g. declaration_back group n m.done m.current g
first_backs (ArgumentSorts group) m n = λ ts s g. as_maybe (After (ArgumentSorts group) m) (list_back (ArgumentSorts group) n m g)
first_backs VariableNames m n = λ ts s g. variables_back n m.done m.current g

-- a list without names
without_backs : (list : NameList) (m : Machine) (t : Token) → Backs (without_names list m t) t (Before_names list m.done m.current m.names m.arguments)
without_backs IncludeNames m t = weaken (after_names IncludeNames m t) t (After IncludeNames m []) (Before_names IncludeNames m.done m.current m.names m.arguments) (λ ts s k. then without k) (names_end IncludeNames m t)
without_backs SortNames m t = weaken (after_names SortNames m t) t (After SortNames m []) (Before_names SortNames m.done m.current m.names m.arguments) (λ ts s k. then without k) (names_end SortNames m t)
without_backs (DeclaredNames group) m t = weaken (without_names (DeclaredNames group) m t) t (After_declarations group m.done m.current) (Declarations group m.done m.current) (λ ts s k. then none (subst (λ c. After_declarations group m.done c (t ∷ ts) s) (sym (no_declarations_more m.current)) k)) (declarations_backs group m t)
without_backs (ArgumentSorts group) m t = weaken (after_names (ArgumentSorts group) m t) t (After (ArgumentSorts group) m []) (Before_names (ArgumentSorts group) m.done m.current m.names m.arguments) (λ ts s k. then without k) (names_end (ArgumentSorts group) m t)
without_backs VariableNames m t = weaken (without_names VariableNames m t) t (After_variables m.done m.current) (Variables_ahead m.done m.current) (λ ts s k. then none (subst (λ c. After_variables m.done c (t ∷ ts) s) (sym (no_variables_more m.current)) k)) (variables_backs m t)

pub before_names_backs : (list : NameList) (m : Machine) (t : Token) → Backs (before_names list m t) t (Before_names list m.done m.current m.names m.arguments)
before_names_backs list m (Named n) = first_backs list m n
before_names_backs list m t = without_backs list m t

pub declaration_sort_backs : (group : Group) (m : Machine) (t : Token) → Backs (on_declaration_sort group m t) t (Declaration_sort group m.done m.current m.names m.arguments)
declaration_sort_backs group m (Named n) = λ ts s g. name g
declaration_sort_backs group m _ = tt

pub variable_sort_backs : (m : Machine) (t : Token) → Backs (on_variable_sort m t) t (Variable_sort m.done m.current m.names)
variable_sort_backs m (Named n) = λ ts s g. name g
variable_sort_backs m _ = tt
