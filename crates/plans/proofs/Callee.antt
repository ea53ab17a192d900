-- What a contract says of a result and of any values at exit, it says of the result. Takes `Logic`; else assumes nothing.
use seplogic.Ra.Ura.{Ura}
use base.Logic.{ent, ex_e, via, snd∗}
use types.Logic.{Logic, sem}
use contract.Lifetimes.{Lfts}
use contract.Monad.{fact}
use denote.Triple.Clauses.{Ended, AtExit, Clauses, ensured, lasts}
use denote.Triple.Entry.{Args, Res}

-- what each clause of a contract says of a result and of any values at exit, the contract says of the result
pub clause :
    {M : Type 1} {𝓤 : Ura M} (𝓛 : Logic 𝓤) (T : Ended) (c : Clauses 𝓤 T) (κs : Lfts T.signature.lifetimes) (a : Args T.signature κs)
    (g : (c κs a).ghost) (r : Res T.signature κs) (φ : Type 0)
    → ((e : AtExit T κs) → ent 𝓤 ((c κs a).ensures g r e) (fact 𝓤 φ))
    → ent 𝓤 (ensured 𝓛 T c κs a g r) (fact 𝓤 φ)
clause {𝓤 = 𝓤} 𝓛 T c κs a g r φ says =
    ex_e 𝓤 _ (λ ws. via 𝓤 ((c κs a).ensures g r _) (snd∗ 𝓤 (sem 𝓛 (lasts T κs a ws)) ((c κs a).ensures g r _)) (says _))
