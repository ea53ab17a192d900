-- Each rule passes or refuses with what some refusal is answered, and so does a list of them: whatever a call is to answer, there is something
-- that is tried with that answer. Assumes nothing.
use Prim.Native.Nat.{ℕ, ◌*◌}
use mathlib.Core.Path.{◌≡◌, refl, sym, subst}
use mathlib.Core.Bool.{Bool, true, false, cond}
use mathlib.Core.List.{List, [], ◌∷◌, ◌++◌}
use lib.Dec.{ltb}
use lib.ListN.{length}
use Rattle.std.specs.Prelude.{Result, Ok, Err}
use Rattle.trade.specs.Limits.{area_bytes, grant_bytes, most_flows, end_of_clock}
use Rattle.trade.specs.Layout.{Sections}
use Rattle.trade.specs.Table.{book_of}
use Rattle.trade.specs.Facts.{Facts, said}
use Rattle.trade.specs.Answers.{done, refused, is_done, given, given_first, first_of, on, no_number}
use Rattle.trade.specs.Codes.{code1, code2, code3, code4, code5, code6, code7, code8, code13}
use Rattle.trade.specs.SlotCodes.{bad_place, code10, code11, code12}
use Rattle.trade.specs.Bound.{code9_by}
use Rattle.trade.specs.Slot.{State, Releases}
use Rattle.trade.specs.Refusals.{answer_of, answered, tested}
use Rattle.trade.specs.Calls.{book_rules, table_rules, check_rules_by, Writing, write_answer, write_of, Starting, start_answer_by, start_by, start_of, Advancing, advance_answer_by, advance_by, advance_of}
use Rattle.trade.specs.declared.answer.Answer.{Answer}
use Rattle.trade.specs.declared.refusal.Refusal.{Refusal}
use Rattle.trade.specs.declared.refusal.Refusal.TheVariants.{Short, Unmarked, Miscounted, Astray, BadRow, BadRecord, Uneven, BadStep, Late, BadArea, Overrun, Ended, NoRoom}
use Rattle.trade.proofs.Answers.{refused_second, first_of_rule}
use Rattle.trade.proofs.Refusals.{refuses}

-- an answer of something tried
abbrev pub Tried : Answer → Type 0
Tried a = (r : Result Unit Refusal) × (tested r ≡ a)

abbrev pub Counted : Answer → Type 0
Counted a = (r : Result ℕ Refusal) × (answered (λ n. n) r ≡ a)

-- a rule by a condition
tried : (refusal : Refusal) (code number : ℕ) → answer_of refusal ≡ refused code number → (holds : Bool) → Tried (given code holds number)
unfolding given
tried refusal code number e true = (Err refusal, e)
tried refusal code number e false = (Ok tt, refl)

-- of rules that are tried, each in turn
data AllTried {A : Type 0} (x : A) : List (A → Answer) → Type 0 where
  tried_none : AllTried x []
  tried_more : {rule : A → Answer} {rules : List (A → Answer)} → Tried (rule x) → AllTried x rules → AllTried x (rule ∷ rules)

tried_append : {A : Type 0} {x : A} {rules more : List (A → Answer)} → AllTried x rules → AllTried x more → AllTried x (rules ++ more)
tried_append tried_none m = m
tried_append (tried_more t r) m = tried_more t (tried_append r m)

tried_on : {A B : Type 0} (look : B → A) {x : B} {rules : List (A → Answer)} → AllTried (look x) rules → AllTried x (on look rules)
unfolding on
tried_on look tried_none = tried_none
tried_on look (tried_more t r) = tried_more t (tried_on look r)

-- so whatever holds of every refusal, and of the call done, holds of what they answer
first_tried :
    (P : Answer → Type 0) → ((refusal : Refusal) → P (answer_of refusal)) → (a rest : Answer) → Tried a → P rest → P (cond (is_done a) rest a)
unfolding is_done
first_tried P refusing a rest (Ok x, e) p = subst (λ b. P (cond (is_done b) rest b)) e p
first_tried P refusing a rest (Err r, e) p =
    subst (λ b. P (cond (is_done b) rest b)) e (subst P (sym (refused_second (answer_of r) rest (answer_of r) (refuses r))) (refusing r))

all_tried :
    {A : Type 0} (P : Answer → Type 0)
    → ((refusal : Refusal) → P (answer_of refusal))
    → (rules : List (A → Answer)) (number : A → ℕ) (x : A)
    → P (done (number x))
    → AllTried x rules
    → P (first_of rules number x)
unfolding first_of
all_tried P refusing [] number x p tried_none = p
all_tried P refusing (rule ∷ rules) number x p (tried_more t r) =
    subst P (sym (first_of_rule rule rules number x))
    (first_tried P refusing (rule x) (first_of rules number x) t (all_tried P refusing rules number x p r))

refuses_tried : (refusal : Refusal) → Tried (answer_of refusal)
refuses_tried refusal = (Err refusal, refl)

refuses_counted : (refusal : Refusal) → Counted (answer_of refusal)
refuses_counted refusal = (Err refusal, refl)

-- THE RULES of books, of tables and of runs
book_tried : (b : List ℕ) → AllTried b book_rules
unfolding book_rules code1 code2 code3 code4 code5 code6 code7 code8 given_first
book_tried b =
    tried_more (tried Short 1 0 refl _)
    (tried_more (tried Unmarked 2 0 refl _)
    (tried_more (tried Miscounted 3 0 refl _)
    (tried_more (tried Astray 4 0 refl _)
    (tried_more (tried (BadRow _) 5 _ refl _)
    (tried_more (tried (BadRecord _) 6 _ refl _)
    (tried_more (tried Uneven 7 0 refl _)
    (tried_more (tried (BadStep _) 8 _ refl _) tried_none)))))))

table_tried : (t : Sections) → AllTried t table_rules
unfolding table_rules code3 code5 code6 code8 given_first
table_tried t =
    tried_more (tried Miscounted 3 0 refl _)
    (tried_more (tried (BadRow _) 5 _ refl _)
    (tried_more (tried (BadRecord _) 6 _ refl _)
    (tried_more (tried (BadStep _) 8 _ refl _) tried_none)))

room_tried : (needed : ℕ) (memory : List ℕ) → Tried (code13 needed memory)
unfolding code13
room_tried needed memory = tried NoRoom 13 0 refl _

area_tried : (f : Facts) (r : Releases) (s : State) → Tried (code10 f r s)
unfolding code10 given_first
area_tried f r s = at (ltb end_of_clock s.slot)
  where
    at : (past : Bool) → Tried (cond past (refused 10 0) (given_first 10 (bad_place f r s) most_flows))
    at true = (Err (BadArea 0), refl)
    at false = tried (BadArea _) 10 _ refl _

clock_tried : (s : State) → Tried (code12 s)
unfolding code12
clock_tried s = tried Ended 12 0 refl _

overrun_tried : (f : Facts) (r : Releases) (s : State) → Tried (code11 f r s)
unfolding code11 given_first
overrun_tried f r s = tried (Overrun _) 11 _ refl _

-- and so the answers of the three calls that give a Result
pub start_tried : (i : Starting) → Tried (start_of i).answer
unfolding start_by start_answer_by check_rules_by code9_by given_first
start_tried i =
    all_tried Tried refuses_tried _ no_number i (Ok tt, refl)
    (tried_append (tried_on (λ (s : Starting). s.book) (tried_append (book_tried i.book) (tried_more (tried (Late _) 9 _ refl _) tried_none)))
    (tried_more (room_tried area_bytes i.area) tried_none))

pub advance_counted : (i : Advancing) → Counted (advance_of i).answer
unfolding advance_by advance_answer_by
advance_counted i =
    all_tried Counted refuses_counted _ _ i (Ok _, refl)
    (tried_append (tried_on (λ (a : Advancing). a.book) (book_tried i.book))
    (tried_more (room_tried area_bytes i.area)
    (tried_more (room_tried (grant_bytes * (said i.book).flows) i.grants)
    (tried_more (area_tried _ _ _)
    (tried_more (clock_tried _)
    (tried_more (overrun_tried _ _ _) tried_none))))))

pub write_counted : (w : Writing) → Counted (write_of w).answer
unfolding write_of write_answer
write_counted w =
    all_tried Counted refuses_counted _ _ w (Ok _, refl)
    (tried_append (tried_on (λ (v : Writing). v.table) (table_tried w.table)) (tried_more (room_tried (length (book_of w.table)) w.buffer) tried_none))
