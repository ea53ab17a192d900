-- What holds of all that a definition gives holds of the planner's call, and of the call of every program that meets its contracts. Assumes
-- nothing.
use mathlib.Core.Path.{◌≡◌, sym, subst}
use Rattle.promise.specs.Demands.{Always}

pub by_definition : {A B : Type 0} (call : A → B) (so : A → B → Type 0) → ((a : A) → so a (call a)) → Always (λ a given. given ≡ call a) so
by_definition call so h a given e = subst (so a) (sym e) (h a)

pub by_meeting : {A B : Type 0} {call planned so : A → B → Type 0} → Always call planned → Always planned so → Always call so
by_meeting m h a given c = h a given (m a given c)
