-- The calls that ship are no empty relations: for whatever a call is handed, something is given that meets its contract. Assumes nothing.
use Prim.Native.Nat.{ℕ}
use mathlib.Core.Path.{refl, sym}
use mathlib.Core.List.{List, []}
use base.Fml.{Lft}
use denote.Bor.{Bor}
use denote.MutBor.{MutBor}
use Rattle.trade.specs.Layout.{Sections}
use Rattle.trade.specs.Kept.{Tabled}
use Rattle.trade.specs.Answers.{packed_of}
use Rattle.trade.specs.Calls.{Checked, Started, Advanced, Writing, Adding, Removing, Starting, Advancing, read_of, check_of, check_kept_of, write_of, add_of, remove_of, start_of, advance_of}
use Rattle.trade.specs.Why.{Asking, ask_of, answer_of}
use Rattle.trade.specs.declared.told.Told.{Told}
use Rattle.table.specs.declared.table.Table.{Table}
use Rattle.promise.specs.Demands.{Answers}
use Rattle.shipped.proofs.Known.{start_tried, advance_counted, write_counted}
use Rattle.shipped.specs.Calls.{Read, Check, CheckTable, Write, Add, Remove, Start, Advance, Why, SlotCheck, SlotWhy, shipped, for_c, with_run}

-- a list that is lent to be read, one that is lent to be written, and a table of counts and sections
lent : List ℕ → Bor (List ℕ)
lent b = record { ref_ptr = (0, 0); now = b }

handed : List ℕ → MutBor (List ℕ)
handed b = record { ref_ptr = (0, 0); ghost_name = 0; now = b }

held : Tabled → Table
held t =
    let s : Sections = t.sections in
    record { nodes = s.nodes; flows = s.flows; rows = s.rows; records = s.records; steps = s.steps; figures = t.figures }

-- a table with figures, for a call that does not look at them
figured : Sections → Tabled
figured s = record { sections = s; figures = [] }

module _ (κ : Lft) where
  read_given : (b : List ℕ) → Read b (read_of b)
  unfolding lent held
  read_given b =
      ((κ, tt), (lent b, tt), record { answer = (read_of b).answer; table = held (read_of b).table }, (lent b, tt), record { answer = refl; table = refl }, refl, refl)

  check_given : (b : List ℕ) → Check b (check_of b)
  unfolding lent
  check_given b =
      ((κ, tt), (lent b, tt), record { answer = (check_of b).answer; bounds = (check_of b).bounds }, (lent b, tt), record { answer = refl; bounds = refl }, refl, refl)

  check_table_given : (t : Tabled) → CheckTable t (check_kept_of t)
  unfolding held
  check_table_given t =
      (tt, (held t, tt), record { answer = (check_kept_of t).answer; bounds = (check_kept_of t).bounds }, (held t, tt), record { answer = refl; bounds = refl }, refl, refl)

  write_given : (w : Writing) → Write w (write_of w)
  unfolding handed held figured
  write_given w =
      let (r, e) = write_counted w in
      ((κ, tt), (held (figured w.table), (handed w.buffer, tt)), r, (held (figured w.table), (handed (write_of w).buffer, tt)), record { answer = e; buffer = refl }, refl, λ t. record { answer = sym e t; buffer = (write_of w).buffer })

  add_given : (a : Adding) → Add a (add_of a)
  unfolding held
  add_given a =
      (tt, (held a.table, (a.place, (a.flow, (a.plan, tt)))), record { answer = (add_of a).answer; table = held (add_of a).table }, (held a.table, (a.place, (a.flow, (a.plan, tt)))), record { answer = refl; table = refl }, refl, refl)

  remove_given : (a : Removing) → Remove a (remove_of a)
  unfolding held
  remove_given a =
      (tt, (held a.table, (a.place, tt)), record { answer = (remove_of a).answer; table = held (remove_of a).table }, (held a.table, (a.place, tt)), record { answer = refl; table = refl }, refl, refl)

  start_given : (i : Starting) → Start i (start_of i)
  unfolding lent handed
  start_given i =
      let (r, e) = start_tried i in
      ((κ, (κ, tt)), (lent i.book, (handed i.area, tt)), r, (lent i.book, (handed (start_of i).area, tt)), record { answer = e; area = refl }, refl, λ t. record { answer = sym e t; area = (start_of i).area })

  advance_given : (i : Advancing) → Advance i (advance_of i)
  unfolding lent handed
  advance_given i =
      let (r, e) = advance_counted i in
      ((κ, (κ, (κ, tt))), (lent i.book, (handed i.area, (handed i.grants, tt))), r, (lent i.book, (handed (advance_of i).area, (handed (advance_of i).grants, tt))), record { answer = e; area = refl; grants = refl }, refl, λ t. record { answer = sym e t; area = (advance_of i).area; grants = (advance_of i).grants })

  why_given : (i : Asking) → Why i (ask_of i)
  unfolding lent
  why_given i =
      ((κ, (κ, tt)), (lent i.book, (lent i.area, (i.place, tt))), (lent i.book, (lent i.area, (i.place, tt))), refl, refl)

  -- of the calls for C, the numbers
  slot_check_given : (b : List ℕ) → SlotCheck b (packed_of (check_of b).answer)
  unfolding lent
  slot_check_given b = ((κ, tt), (lent b, tt), (lent b, tt), record { answer = refl }, refl)

  answers_with :
      {check : List ℕ → Checked → Type 0} {start : Starting → Started → Type 0} {advance : Advancing → Advanced → Type 0}
      → ((b : List ℕ) → (given : Checked) × check b given)
      → ((s : Starting) → (given : Started) × start s given)
      → ((a : Advancing) → (given : Advanced) × advance a given)
      → Answers (with_run check start advance)
  answers_with checks starts advances =
      record {
        read = λ b. (read_of b, read_given b);
        check = checks;
        check_table = λ t. (check_kept_of t, check_table_given t);
        write = λ w. (write_of w, write_given w);
        add = λ a. (add_of a, add_given a);
        remove = λ r. (remove_of r, remove_given r);
        start = starts;
        advance = advances;
      }

  pub shipped_answers : Answers shipped
  shipped_answers = answers_with (λ b. (check_of b, check_given b)) (λ s. (start_of s, start_given s)) (λ a. (advance_of a, advance_given a))

  pub shipped_answers_why : (i : Asking) → (given : Told) × Why i given
  shipped_answers_why i = (ask_of i, why_given i)

  pub for_c_answers_why : (i : Asking) → (given : Told) × SlotWhy i given
  unfolding lent
  for_c_answers_why i =
      (_, ((κ, (κ, tt)), (lent i.book, (lent i.area, (i.place, tt))), packed_of (answer_of (ask_of i)), (lent i.book, (lent i.area, (i.place, tt))), record { answer = refl }, refl, refl))

  pub for_c_answers : Answers for_c
  unfolding lent handed
  for_c_answers =
      answers_with (λ b. (_, (packed_of (check_of b).answer, slot_check_given b, refl)))
      (λ i.
      (_, ((κ, (κ, tt)), (lent i.book, (handed i.area, tt)), packed_of (start_of i).answer, (lent i.book, (handed (start_of i).area, tt)), record { answer = refl; area = refl }, refl, refl)))
      (λ i.
      (_, ((κ, (κ, (κ, tt))), (lent i.book, (handed i.area, (handed i.grants, tt))), packed_of (advance_of i).answer, (lent i.book, (handed (advance_of i).area, (handed (advance_of i).grants, tt))), record { answer = refl; area = refl; grants = refl }, refl, refl)))
