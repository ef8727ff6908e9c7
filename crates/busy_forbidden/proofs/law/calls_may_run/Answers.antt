use Rattle.busy_forbidden.proofs.Making.{runs_shared, runs_turned_away, runs_exclusive, runs_refused, runs_waiting, runs_leave}
use Rattle.busy_forbidden.proofs.law.calls_may_run.Goals as goal

pub returns-clause-enters_shared : goal.returns-clause-enters_shared
returns-clause-enters_shared g c = λ i words v rounds enter all. runs_shared g.K.HasLock.lock (g.K.HasLock.seats c.args.about.now) i words g.K.HasLock.can g.K.HasLock.next g.K.HasLock.moves (λ v x f y ok may is. g.K.HasLock.follows (g.K.HasLock.seats c.args.about.now) i v x f y ok may is) rounds v enter.fits enter.out enter.may all

pub returns-clause-turned_away : goal.returns-clause-turned_away
returns-clause-turned_away g c = λ i words f v enter busy. runs_turned_away g.K.HasLock.lock (g.K.HasLock.seats c.args.about.now) i words g.K.HasLock.can g.K.HasLock.next g.K.HasLock.moves (λ v x f y ok may is. g.K.HasLock.follows (g.K.HasLock.seats c.args.about.now) i v x f y ok may is) f v enter.out enter.may busy

pub returns-clause-tries_exclusive : goal.returns-clause-tries_exclusive
returns-clause-tries_exclusive g c = λ i words v enter. runs_exclusive g.K.HasLock.lock (g.K.HasLock.seats c.args.about.now) i words g.K.HasLock.can g.K.HasLock.next g.K.HasLock.moves (λ v x f y ok may is. g.K.HasLock.follows (g.K.HasLock.seats c.args.about.now) i v x f y ok may is) v enter.fits enter.out enter.may

pub returns-clause-held_mutex : goal.returns-clause-held_mutex
returns-clause-held_mutex g c = λ i words f v enter. (enter.out, enter.may, tt)

pub returns-clause-refused : goal.returns-clause-refused
returns-clause-refused g c = λ i words j f v enter below other busy. runs_refused g.K.HasLock.lock (g.K.HasLock.seats c.args.about.now) i words g.K.HasLock.can g.K.HasLock.next g.K.HasLock.moves (λ v x f y ok may is. g.K.HasLock.follows (g.K.HasLock.seats c.args.about.now) i v x f y ok may is) j f v enter.fits enter.out enter.may below other busy

pub returns-clause-enters_exclusive : goal.returns-clause-enters_exclusive
returns-clause-enters_exclusive g c = λ i words v held asks enter all holds. runs_waiting g.K.HasLock.lock (g.K.HasLock.seats c.args.about.now) i words g.K.HasLock.can g.K.HasLock.next g.K.HasLock.moves (λ v x f y ok may is. g.K.HasLock.follows (g.K.HasLock.seats c.args.about.now) i v x f y ok may is) held asks v enter.fits enter.out enter.may all holds

pub returns-clause-leaves_exclusive : goal.returns-clause-leaves_exclusive
returns-clause-leaves_exclusive g c = λ i words v fits granted may. runs_leave g.K.HasLock.lock (g.K.HasLock.seats c.args.about.now) i words g.K.HasLock.can g.K.HasLock.next g.K.HasLock.moves (λ v x f y ok may is. g.K.HasLock.follows (g.K.HasLock.seats c.args.about.now) i v x f y ok may is) v fits granted may
