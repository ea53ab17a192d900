-- `listing::listed::list_run` is safe: the grants of a slot fit into the buffer. Leans on ListedLaws. Assumes nothing.
use mathlib.Core.Path.{sym}
use native.Mathlib.Omega.{arith}
use Rattle.std.proofs.lemmas.List.{length-take-le}
use Rattle.listing.proofs.ListedLaws.{grants_fit}
use Rattle.listing.proofs.listed.list_run.Goals as goal

pub overflow_mul-grants : goal.overflow_mul-grants
overflow_mul-grants c c' = omega (arith, grants_fit _ _ c'.in_ok-count.ensures.answer, c'.loop-slot-test.array_long)

pub slice_bounds-grants-end : goal.slice_bounds-grants-end
slice_bounds-grants-end c c' = omega (arith, grants_fit _ _ c'.in_ok-count.ensures.answer, c'.advance.auto.grants)

pub slice_bounds-list_grants-end : goal.slice_bounds-list_grants-end
slice_bounds-list_grants-end c c' =
    sym (length-take-le _ c'.advance.new.grants (omega (arith, grants_fit _ _ c'.in_ok-count.ensures.answer, c'.advance.auto.grants)))
