-- `why::told::blocker` looks at place by place. The loop's invariant: none up to h blocks. Assumes nothing.
use mathlib.Core.Path.{◌≡◌, sym, ◌∙◌, ap₂}
use mathlib.Core.Bool.{true, ◌&&◌}
use borrow.Author.Count.{below_more}
use native.Mathlib.Omega.{arith}
use Rattle.trade.proofs.First.{first_unique, first_none}
use Rattle.slot.specs.Choice.{sent_at}
use Rattle.why.proofs.told.blocker.Invariants.{test}
use Rattle.why.proofs.told.blocker.Goals as goal
use Rattle.why.proofs.told.blocker.Goals.{else-has_place-via-else-has_place, else-has_place-via-then-has_place+else-conflict}

pub loop-h-init : goal.loop-h-init
loop-h-init c = λ k l. absurd (omega arith)

pub has_place-requires : goal.has_place-requires
has_place-requires c = omega (arith, c.requires.places)

pub conflict-requires : goal.conflict-requires
unfolding sent_at
conflict-requires c = (c.requires.sends c.loop-h.h (sym c.has_place.ensures ∙ c.if-has_place.true), c.requires.asked)

pub returns-then-conflict : goal.returns-then-conflict
unfolding sent_at
returns-then-conflict c =
    let a = c.args in
    let loop = c.loop-h in
    let here : test a.rows.now a.choice.places a.choice.sent a.step loop.h ≡ true =
    ap₂ ◌&&◌ (sym c.has_place.ensures ∙ c.if-has_place.true) (sym c.conflict.ensures ∙ c.if-conflict.true) in
    sym (first_unique (test a.rows.now a.choice.places a.choice.sent a.step) a.place loop.h (omega arith) loop.invariant (λ l. here))

pub loop-h-preserved : goal.loop-h-preserved
unfolding sent_at
loop-h-preserved c =
    let loop = c.loop-h in
    let has = c.has_place.ensures in
    below_more _ _ loop.invariant
    (elim c.else-has_place.branch [ else-has_place-via-then-has_place+else-conflict w ↦ ap₂ ◌&&◌ (sym has ∙ w.if-has_place.true) (sym w.conflict.ensures ∙ w.if-conflict.false) | else-has_place-via-else-has_place w ↦ rw (sym has ∙ w.if-has_place.false) ])

pub returns : goal.returns
returns c =
    let a = c.args in
    let loop = c.loop-h in
    let all : loop.h ≡ a.place = omega arith in
    sym (first_none (test a.rows.now a.choice.places a.choice.sent a.step) a.place (λ j l. loop.invariant j (omega arith)))
