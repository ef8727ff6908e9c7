-- Where rows and numbers suffice every line is made; where one doesn't, that is why the command
-- stops.
use Rattle.std.proofs.Common.{◌⊎◌, inl, inr, ℕ, ◌*◌, ◌≤◌, List, refl, subst, arith}
use Rattle.std.specs.Prelude.{Result, Ok, Err, IfOk, IfErr}
use Rattle.term_model.specs.Tree.{distinct}
use Rattle.rewrite_model.specs.Built.{need_of_all}
use Rattle.work_order.specs.Works.{built_of, IsInnermost}
use Rattle.work_order.specs.Lacking.{LacksRows}
use Rattle.work_order.specs.Wearing.{WearsOut}
use Rattle.rec_check.specs.Spelled.{Specified}
use Rattle.settings.specs.declared.parts.Settings.{Settings}
use Rattle.rec_answers.specs.Rewritten.{Spells, RowsSuffice, NumbersSuffice}
use Rattle.rec_answers.specs.Sequence.{StopsTerms}
use Rattle.rec_answers.specs.Answered.{Answers, StopsRewriting}
use Rattle.rec_answers.specs.declared.specification.Conditions.{Conditions}
use Rattle.rec_answers.specs.declared.stops.Stop.{Stop}
use Rattle.rec_answers.specs.declared.stops.Stop.TheVariants.{Usage, Refused, StoreFull, ReadFault, WriteFault, Memory, Worn}
use Rattle.rec_answers.proofs.OneFault.{one_specification}

never_full : (s : Settings) (spec : Specified) → LacksRows s spec.rules spec.terms
    → ((distinct (built_of s spec.rules spec.terms) ≤ s.rows) ⊎ (IsInnermost s × (s.workers * need_of_all spec.rules spec.terms s.fuel s.depth ≤ s.rows))) → ⊥
never_full s spec lacks (inl d) = let b = lacks.built in omega (arith, d, b)
never_full s spec lacks (inr (is, n)) = let b = lacks.need is in omega (arith, n, b)

never_worn : (s : Settings) (input : List ℕ) (spec : Specified) → Spells input spec → WearsOut s spec.rules spec.terms → NumbersSuffice s input → ⊥
never_worn s input spec spells worn numbers = let few = numbers spec spells in omega (arith, few, worn)

-- an accepted input with rows and numbers that suffice has its lines
pub suffices : {A : Type 0} (P : Specified → A → Type 0) (s : Settings) (input : List ℕ) (spec wanted : Specified) (r : Result A Stop) → Spells input spec → Spells input wanted → RowsSuffice s input → NumbersSuffice s input
    → IfOk r (P spec) → IfErr r (StopsTerms s spec.rules spec.terms) → Answers r (P wanted)
suffices P s input spec wanted (Ok a) spells o rows numbers made stopped = subst (λ w. P w a) (one_specification input spec wanted spells o) made
suffices P s input spec wanted (Err Usage) spells o rows numbers made stopped = absurd stopped
suffices P s input spec wanted (Err (Refused fault)) spells o rows numbers made stopped = absurd stopped
suffices P s input spec wanted (Err StoreFull) spells o rows numbers made stopped = absurd (never_full s spec stopped (rows spec spells))
suffices P s input spec wanted (Err ReadFault) spells o rows numbers made stopped = absurd stopped
suffices P s input spec wanted (Err WriteFault) spells o rows numbers made stopped = absurd stopped
suffices P s input spec wanted (Err Memory) spells o rows numbers made stopped = refl
suffices P s input spec wanted (Err Worn) spells o rows numbers made stopped = absurd (never_worn s input spec spells stopped numbers)

-- why the lines aren't made is why the command stops
stops : (kind : Conditions) (s : Settings) (input : List ℕ) (spec : Specified) (stop : Stop) → Spells input spec → StopsTerms s spec.rules spec.terms stop → StopsRewriting kind s input stop
stops kind s input spec Usage spells h = h
stops kind s input spec (Refused fault) spells h = absurd h
stops kind s input spec StoreFull spells h = record { spec = spec; spelled = spells; built = h.built; need = h.need }
stops kind s input spec ReadFault spells h = h
stops kind s input spec WriteFault spells h = h
stops kind s input spec Memory spells h = h
stops kind s input spec Worn spells h = record { spec = spec; spelled = spells; many = h }

pub stops_all : {A : Type 0} (kind : Conditions) (s : Settings) (input : List ℕ) (spec : Specified) (r : Result A Stop) → Spells input spec → IfErr r (StopsTerms s spec.rules spec.terms) → IfErr r (StopsRewriting kind s input)
stops_all kind s input spec (Ok a) spells h = tt
stops_all kind s input spec (Err stop) spells h = stops kind s input spec stop spells h
