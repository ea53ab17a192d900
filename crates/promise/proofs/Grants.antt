-- Grants are read back from their nine bytes; those of a slot are the next steps of the flows that go. Leans on Bytes. Assumes nothing.
use Prim.Native.Nat.{ℕ, zero, suc, ◌+◌, ◌-◌, ◌*◌, ◌^◌, ◌<◌}
use mathlib.Core.Path.{◌≡◌, refl, ◌∙◌}
use mathlib.Core.List.{List, [], ◌∷◌, ◌++◌, append_assoc}
use native.Mathlib.Omega.{arith}
use native.Mathlib.Nat.{add_assoc, div-le_self}
use lib.ListN.{length, get_or, get_or-append}
use Rattle.trade.specs.Limits.{grant_bytes, end_of_clock}
use Rattle.trade.specs.Bytes.{two_bytes, four_bytes}
use Rattle.trade.specs.Facts.{Facts}
use Rattle.trade.specs.Slot.{State, Releases, instance_at, periodic, done_now, next_step, Waits, granted_by, grant_of, grants_of}
use Rattle.promise.specs.Demands.{grant_at, step_grant}
use Rattle.trade.proofs.Bytes.{word_front, long_front, byte_behind, word_behind, long_behind, word_two_bytes, long_four_bytes}
use Rattle.trade.proofs.Order.{among_at}
use Rattle.trade.proofs.Valid.{Valid}
use Rattle.response.proofs.Granted.{granted_below}

-- the first of several grants, and those behind it
pub grant_front : (a b : List ℕ) → length a ≡ grant_bytes → grant_at (a ++ b) 0 ≡ grant_at a 0
unfolding grant_at
grant_front a b e =
    rw (
      word_front a b 0 (omega arith),
      long_front a b 2 (omega arith),
      get_or-append a b 0 6 (omega arith),
      get_or-append a b 0 7 (omega arith),
      get_or-append a b 0 8 (omega arith),
    )

pub grant_behind : (a b : List ℕ) (j : ℕ) → length a ≡ grant_bytes → grant_at (a ++ b) (suc j) ≡ grant_at b j
unfolding grant_at
grant_behind a b j e =
    let at : ℕ = grant_bytes * j in
    let next : grant_bytes * suc j ≡ grant_bytes + at = omega arith in
    rw (
      next,
      add_assoc grant_bytes at 2,
      add_assoc grant_bytes at 6,
      add_assoc grant_bytes at 7,
      add_assoc grant_bytes at 8,
      word_behind a b grant_bytes at e,
      long_behind a b grant_bytes (at + 2) e,
      byte_behind a b grant_bytes (at + 6) e,
      byte_behind a b grant_bytes (at + 7) e,
      byte_behind a b grant_bytes (at + 8) e,
    )

-- grant j of a list is that of its flow j
pub grant_at_lem :
    (grant : ℕ → List ℕ)
    → ((i : ℕ) → length (grant i) ≡ grant_bytes)
    → (is rest : List ℕ) (j : ℕ)
    → j < length is
    → grant_at (grants_of grant is ++ rest) j ≡ grant_at (grant (get_or is j 0)) 0
unfolding grants_of
grant_at_lem grant nine [] rest j h = absurd (omega arith)
grant_at_lem grant nine (i ∷ is) rest zero h = rw append_assoc (grant_front (grant i) _ (nine i))
grant_at_lem grant nine (i ∷ is) rest (suc j) h =
    rw append_assoc (grant_behind (grant i) _ j (nine i) ∙ grant_at_lem grant nine is rest j (omega arith))

module _ (f : Facts) (r : Releases) (s : State) (i : ℕ) where
  pub length_grant : length (grant_of f r s i) ≡ grant_bytes
  unfolding grant_of two_bytes four_bytes
  length_grant = refl

  -- a grant says which step of which instance of which flow it is
  pub grant_says :
      f.id i < 2 ^ 16
      → r.instance i < 2 ^ 32
      → grant_at (grant_of f r s i) 0 ≡ step_grant f i (record { 0 = r.instance i }) (record { 0 = done_now r s i })
  unfolding grant_at grant_of step_grant next_step two_bytes four_bytes
  grant_says id< v< =
      let last : List ℕ = done_now r s i ∷ (next_step f r s i).sender.0 ∷ (next_step f r s i).receiver.0 ∷ [] in
      let inst : List ℕ = four_bytes (r.instance i) in
      λ k.
      record {
        id = word_two_bytes (f.id i) (inst ++ last) id< k;
        instance = record { 0 = (long_behind (two_bytes (f.id i)) (inst ++ last) 2 0 refl ∙ long_four_bytes (r.instance i) last v<) k };
        step = record { 0 = done_now r s i };
        transmission = next_step f r s i;
      }

-- the number of an instance at any slot of the clock fits its four bytes
instance_fits : (f : Facts) (t l : ℕ) → t < end_of_clock → instance_at f f.phase t l < 2 ^ 32
unfolding instance_at
instance_fits f t l clock = omega (arith, div-le_self (t - f.phase l) (f.period l))

-- A SLOT of the clock, of valid facts: grant j of those that are made in it is the next step of the j-th flow that goes
module _ (waits : Waits) (f : Facts) (v : Valid f) (t : ℕ) (clock : t < end_of_clock) (s : State) where
  abbrev due : Releases
  due = periodic f f.phase t

  abbrev goes : List ℕ
  goes = granted_by waits f due s

  pub slot_grant :
      (rest : List ℕ) (j : ℕ)
      → j < length goes
      → grant_at (grants_of (grant_of f due s) goes ++ rest) j
      ≡ step_grant f (get_or goes j 0) (record { 0 = due.instance (get_or goes j 0) }) (record { 0 = done_now due s (get_or goes j 0) })
  slot_grant rest j h =
      let i : ℕ = get_or goes j 0 in
      grant_at_lem (grant_of f due s) (length_grant f due s) goes rest j h
      ∙ grant_says f due s i (omega (arith, (v.records i (granted_below waits f due s i (among_at goes j h))).id.most)) (instance_fits f t i clock)
