-- Marks spread over the nodes of sets, and collected from them: the columns of a plan. Leans on Bits and Counts. Assumes nothing.
use Prim.Native.Nat.{ℕ, suc, ◌+◌, ◌/◌, ◌%◌, ◌^◌, ◌≤◌, ◌<◌}
use mathlib.Core.Path.{◌≡◌, refl, sym, ◌∙◌, ap, ap₂}
use mathlib.Core.Bool.{Bool, true, false, not, cond, ◌&&◌, ◌||◌, or_comm, or-false, and-false, and-true}
use mathlib.Core.Logic.{◌⊎◌, inl, inr, ⊎_elim}
use mathlib.Core.List.{List}
use native.Mathlib.Omega.{arith}
use borrow.Author.Tests.{eqb-true, eq-eqb, ne_eqb, lt-ltb, le-ltb}
use lib.Bits.{bit_or, bit_and, bit_xor, or_zero_r}
use lib.Dec.{eqb, ltb}
use lib.Pow.{pow_pos, shr-shr, split}
use native.Mathlib.Nat.{mod-lt}
use lib.ListN.{length, get_or, set, replicate, length-set, length-replicate, get_or-replicate, get_or-eq_default}
use lib.Seq.{get_or-set_same, get_or-set_other}
use Rattle.trade.specs.First.{some}
use Rattle.trade.specs.Bytes.{bit}
use Rattle.trade.specs.Limits.{most_nodes, most_steps}
use Rattle.trade.specs.Facts.{disturbs_in}
use Rattle.trade.specs.declared.node.Transmission.{Transmission}
use Rattle.trade.proofs.First.{lt_or_ge, bool_cases, some_true, some_false, some_intro, some_none}
use Rattle.nodes.specs.Mask.{only, row_mask, Taken}
use Rattle.pairs.specs.Columns.{Spread, from_end, ending, Heard, receiving, sending, Columns, Noted}
use Rattle.nodes.proofs.MaskLaws.{bit_none, bit_or_lem, bit_and_lem, bit_xor_lem, bit_only, bit_below, bit_past}

-- so many zeros, and zeros past them
pub zeros : (n i : ℕ) → get_or {A = ℕ} (replicate n 0) i 0 ≡ 0
zeros n i =
    ⊎_elim (λ (h : i < n). get_or-replicate n i 0 0 h)
    (λ (h : n ≤ i). get_or-eq_default (replicate n 0) 0 (rw (length-replicate {A = ℕ} n 0) h))
    (lt_or_ge i n)

-- what is left without its lowest is left
left_over : (rest p others : ℕ) → Taken rest p others → (x : ℕ) → bit others x ≡ true → bit rest x ≡ true
left_over rest p others low x e = both (bit rest x) (sym (low.left x) ∙ e)
  where
    both : (a : Bool) → (a && not (eqb p x)) ≡ true → a ≡ true
    both true e = refl
    both false e = e

-- a mark spread over the nodes that are not left
pub record Spreading (nodes mark rest : ℕ) (before table : List ℕ) : Type 0 where
  pub size : length table ≡ length before
  pub within : (x : ℕ) → bit rest x ≡ true → bit nodes x ≡ true
  pub marked : (x : ℕ) → get_or table x 0 ≡ bit_or (get_or before x 0) (cond (bit nodes x && not (bit rest x)) mark 0)

module _ (nodes mark : ℕ) (before : List ℕ) where
  pub spreading_none : Spreading nodes mark nodes before before
  spreading_none = record { size = refl; within = λ x e. e; marked = λ x. cases x (bit nodes x) }
    where
      cases : (x : ℕ) (b : Bool) → get_or before x 0 ≡ bit_or (get_or before x 0) (cond (b && not b) mark 0)
      cases x true = sym (or_zero_r (get_or before x 0))
      cases x false = sym (or_zero_r (get_or before x 0))

  -- one node more
  pub spreading_more :
      (rest p others : ℕ) (table : List ℕ)
      → Taken rest p others
      → p < length table
      → Spreading nodes mark rest before table
      → Spreading nodes mark others before (set table p (bit_or (get_or table p 0) mark))
  spreading_more rest p others table low l s =
      record {
        size = length-set table p (bit_or (get_or table p 0) mark) ∙ s.size;
        within = λ x e. s.within x (left_over rest p others low x e);
        marked = λ x. other x (lt_or_ge x p) (lt_or_ge p x);
      }
    where
      apart : (x : ℕ) → (p ≡ x → ⊥) → get_or (set table p (bit_or (get_or table p 0) mark)) x 0 ≡ bit_or (get_or before x 0) (cond (bit nodes x && not (bit others x)) mark 0)
      apart x n =
          let same : bit others x ≡ bit rest x = low.left x ∙ rw (ne_eqb p x n) (and-true (bit rest x)) in
          get_or-set_other table p x (bit_or (get_or table p 0) mark) 0 (λ e. n (sym e)) ∙ rw same (s.marked x)

      here : get_or (set table p (bit_or (get_or table p 0) mark)) p 0 ≡ bit_or (get_or before p 0) (cond (bit nodes p && not (bit others p)) mark 0)
      here =
          let gone : bit others p ≡ false = low.left p ∙ rw (eq-eqb p p refl, low.held) refl in
          let left : get_or table p 0 ≡ get_or before p 0 = s.marked p ∙ rw (low.held, s.within p low.held) (or_zero_r (get_or before p 0)) in
          get_or-set_same table p (bit_or (get_or table p 0) mark) 0 l ∙ rw (left, gone, s.within p low.held) refl

      other : (x : ℕ) → (x < p) ⊎ (p ≤ x) → (p < x) ⊎ (x ≤ p) → get_or (set table p (bit_or (get_or table p 0) mark)) x 0 ≡ bit_or (get_or before x 0) (cond (bit nodes x && not (bit others x)) mark 0)
      other x (inl h) g = apart x (λ e. omega arith)
      other x (inr h) (inl g) = apart x (λ e. omega arith)
      other x (inr h) (inr g) = let e : x ≡ p = omega arith in rw e here

  pub spreading_all : (table : List ℕ) → nodes < 2 ^ 64 → Spreading nodes mark 0 before table → Spread nodes mark before table
  spreading_all table fits s =
      record {
        size = s.size;
        marked = λ x. s.marked x ∙ rw (bit_none x) (cases x (bit nodes x));
        others = λ x h. s.marked x ∙ rw (bit_past nodes 64 x fits h) (or_zero_r (get_or before x 0));
      }
    where
      cases : (x : ℕ) (b : Bool) → bit_or (get_or before x 0) (cond (b && true) mark 0) ≡ bit_or (get_or before x 0) (cond b mark 0)
      cases x true = refl
      cases x false = refl

-- what a node sends is in the upper half of a number, what another receives in the lower half of another
pub halves_or : (sent received b : ℕ) → sent < 2 ^ 64 → bit (bit_or (sent / 2 ^ 32) (received % 2 ^ 32)) b ≡ (ltb b 32 && (bit sent (32 + b) || bit received b))
unfolding bit
halves_or sent received b fits = bit_or_lem (sent / 2 ^ 32) (received % 2 ^ 32) b ∙ ⊎_elim inside past (lt_or_ge b 32)
  where
    upper : bit (sent / 2 ^ 32) b ≡ bit sent (32 + b)
    upper = ap (λ (n : ℕ). eqb (n % 2) 1) (shr-shr sent 32 b)

    lower : b < 32 → bit (received % 2 ^ 32) b ≡ bit received b
    lower h = sym (ap (λ (n : ℕ). bit n b) (sym (split received 32)) ∙ bit_below (received / 2 ^ 32) (received % 2 ^ 32) 32 b h)

    inside : b < 32 → (bit (sent / 2 ^ 32) b || bit (received % 2 ^ 32) b) ≡ (ltb b 32 && (bit sent (32 + b) || bit received b))
    inside h = rw (lt-ltb b 32 h, upper, lower h) refl

    past : 32 ≤ b → (bit (sent / 2 ^ 32) b || bit (received % 2 ^ 32) b) ≡ (ltb b 32 && (bit sent (32 + b) || bit received b))
    past h =
        rw (le-ltb b 32 h, upper, bit_past sent 64 (32 + b) fits (omega arith), bit_past (received % 2 ^ 32) 32 b (mod-lt received (pow_pos 32)) h) refl

-- a bit of a mark that is set or not
bit_mark : (c : Bool) (b y : ℕ) → bit (cond c (2 ^ b) 0) y ≡ (eqb b y && c)
bit_mark true b y = bit_only b y ∙ sym (and-true (eqb b y))
bit_mark false b y = bit_none y ∙ sym (and-false (eqb b y))

-- what a mark spread over a set adds to the bits of a node
pub spread_bit :
    (nodes b : ℕ) (before after : List ℕ)
    → Spread nodes (2 ^ b) before after
    → (x y : ℕ)
    → bit (get_or after x 0) y ≡ (bit (get_or before x 0) y || (eqb b y && bit nodes x))
spread_bit nodes b before after s x y =
    ap (λ (n : ℕ). bit n y) (s.marked x)
    ∙ bit_or_lem (get_or before x 0) (cond (bit nodes x) (2 ^ b) 0) y
    ∙ ap (λ (t : Bool). bit (get_or before x 0) y || t) (bit_mark (bit nodes x) b y)

-- the bits before a place, and the one at it, are those before the next
upto_next : (f : ℕ → Bool) (x k : ℕ) → ((ltb k x && f k) || (eqb x k && f x)) ≡ (ltb k (suc x) && f k)
upto_next f x k = cases (lt_or_ge k x) (lt_or_ge x k)
  where
    cases : (k < x) ⊎ (x ≤ k) → (x < k) ⊎ (k ≤ x) → ((ltb k x && f k) || (eqb x k && f x)) ≡ (ltb k (suc x) && f k)
    cases (inl h) g = rw (lt-ltb k x h, lt-ltb k (suc x) (omega arith), ne_eqb x k (λ e. omega arith)) (or-false (f k))
    cases (inr h) (inl g) = rw (le-ltb k x h, le-ltb k (suc x) g, ne_eqb x k (λ e. omega arith)) refl
    cases (inr h) (inr g) =
        let e : x ≡ k = omega arith in
        rw (e, le-ltb k k (omega arith), eq-eqb k k refl, lt-ltb k (suc k) (omega arith)) refl

-- at some index, or at the next
some_next : (test : ℕ → Bool) (n : ℕ) → some test (suc n) ≡ (some test n || test n)
some_next test n =
    ⊎_elim
    (λ (e : some test n ≡ true). let f = some_true test n e in rw e (some_intro test (suc n) _ (omega (arith, f.0)) f.1))
    (λ (e : some test n ≡ false).
    rw e
    (⊎_elim (λ (t : test n ≡ true). some_intro test (suc n) n (omega arith) t ∙ sym t)
    (λ (t : test n ≡ false).
    some_none test (suc n)
    (λ i h.
    ⊎_elim (λ (l : i < n). some_false test n e i l) (λ (l : n ≤ i). let q : i ≡ n = omega arith in rw q t) (lt_or_ge i n))
    ∙ sym t)
    (bool_cases (test n))))
    (bool_cases (some test n))

-- no step, no end
pub ends_none : (test : ℕ → ℕ → Bool) (x : ℕ) → bit 0 x ≡ some (λ i. test i x) 0
ends_none test x = bit_none x ∙ sym (some_none (λ i. test i x) 0 (λ i h. absurd (omega arith)))

-- one step noted
module _ (u : Transmission) where
  -- the two ends of a transmission, and a set
  pub both_ends : (x : ℕ) → bit (bit_or (only u.sender.0) (only u.receiver.0)) x ≡ ending u x
  unfolding ending
  both_ends x = bit_or_lem (only u.sender.0) (only u.receiver.0) x ∙ ap₂ ◌||◌ (bit_only u.sender.0 x) (bit_only u.receiver.0 x)

  pub ends : (set x : ℕ) → bit (bit_or set (bit_or (only u.sender.0) (only u.receiver.0))) x ≡ (eqb u.sender.0 x || eqb u.receiver.0 x || bit set x)
  unfolding ending
  ends set x =
      bit_or_lem set (bit_or (only u.sender.0) (only u.receiver.0)) x
      ∙ or_comm (bit set x) (bit (bit_or (only u.sender.0) (only u.receiver.0)) x)
      ∙ ap (λ (t : Bool). t || bit set x) (both_ends x)

  -- the ends of one step more
  pub ends_more :
      (nodes j : ℕ) (test : ℕ → ℕ → Bool)
      → ((x : ℕ) → test j x ≡ ending u x)
      → ((x : ℕ) → bit nodes x ≡ some (λ i. test i x) j)
      → (x : ℕ)
      → bit (bit_or nodes (bit_or (only u.sender.0) (only u.receiver.0))) x ≡ some (λ i. test i x) (suc j)
  ends_more nodes j test is s x =
      bit_or_lem nodes (bit_or (only u.sender.0) (only u.receiver.0)) x
      ∙ rw (both_ends x, s x, ← is x) (sym (some_next (λ i. test i x) j))

  -- two marks, those of both sets spread first and at once
  pub noted :
      (rows heard : List ℕ) (b receivers senders : ℕ) (before shared between after : List ℕ)
      → ((x : ℕ) → x < most_nodes → bit receivers x ≡ receiving rows heard u x)
      → ((x : ℕ) → x < most_nodes → bit senders x ≡ sending rows heard u x)
      → Spread (bit_and receivers senders) (bit_or (2 ^ b) (2 ^ (most_steps + b))) before shared
      → Spread (bit_xor receivers (bit_and receivers senders)) (2 ^ b) shared between
      → Spread (bit_xor senders (bit_and receivers senders)) (2 ^ (most_steps + b)) between after
      → Noted rows heard u b before after
  noted rows heard b receivers senders before shared between after is has o p q =
      record {
        size = q.size ∙ p.size ∙ o.size;
        bits =
            λ x y h.
            at x y
            ∙ three (bit (get_or before x 0) y) (bit receivers x) (bit senders x) (eqb b y) (eqb (most_steps + b) y)
            ∙ rw (is x h, has x h) refl;
        others = λ x h. q.others x h ∙ p.others x h ∙ o.others x h;
      }
    where
      shared_bit : (x y : ℕ) → bit (get_or shared x 0) y ≡ (bit (get_or before x 0) y || ((eqb b y || eqb (most_steps + b) y) && (bit receivers x && bit senders x)))
      shared_bit x y =
          ap (λ (n : ℕ). bit n y) (o.marked x)
          ∙ bit_or_lem (get_or before x 0) (cond (bit (bit_and receivers senders) x) (bit_or (2 ^ b) (2 ^ (most_steps + b))) 0) y
          ∙ rw (bit_and_lem receivers senders x) (ap (λ (t : Bool). bit (get_or before x 0) y || t) (marks (bit receivers x && bit senders x) y))
        where
          marks : (c : Bool) (y : ℕ) → bit (cond c (bit_or (2 ^ b) (2 ^ (most_steps + b))) 0) y ≡ ((eqb b y || eqb (most_steps + b) y) && c)
          marks true y = bit_or_lem (2 ^ b) (2 ^ (most_steps + b)) y ∙ ap₂ ◌||◌ (bit_only b y) (bit_only (most_steps + b) y) ∙ sym (and-true (eqb b y || eqb (most_steps + b) y))
          marks false y = bit_none y ∙ sym (and-false (eqb b y || eqb (most_steps + b) y))

      at :
          (x y : ℕ)
          → bit (get_or after x 0) y
          ≡ (((bit (get_or before x 0) y || ((eqb b y || eqb (most_steps + b) y) && (bit receivers x && bit senders x)))
          || (eqb b y && cond (bit receivers x) (not (bit receivers x && bit senders x)) (bit receivers x && bit senders x)))
          || (eqb (most_steps + b) y && cond (bit senders x) (not (bit receivers x && bit senders x)) (bit receivers x && bit senders x)))
      at x y =
          spread_bit (bit_xor senders (bit_and receivers senders)) (most_steps + b) between after q x y
          ∙ rw (
            spread_bit (bit_xor receivers (bit_and receivers senders)) b shared between p x y,
            shared_bit x y,
            bit_xor_lem senders (bit_and receivers senders) x,
            bit_xor_lem receivers (bit_and receivers senders) x,
            bit_and_lem receivers senders x,
          )
          refl

      three :
          (p r s e f : Bool)
          → (((p || ((e || f) && (r && s))) || (e && cond r (not (r && s)) (r && s))) || (f && cond s (not (r && s)) (r && s)))
          ≡ (p || (e && r) || (f && s))
      three true r s e f = refl
      three false true true true f = refl
      three false true true false true = refl
      three false true true false false = refl
      three false true false true f = refl
      three false true false false true = refl
      three false true false false false = refl
      three false false true true true = refl
      three false false true true false = refl
      three false false true false true = refl
      three false false true false false = refl
      three false false false true true = refl
      three false false false true false = refl
      three false false false false true = refl
      three false false false false false = refl

-- the columns of one step more
module _ (rows heard plan : List ℕ) (b : ℕ) (before after : List ℕ) where
  pub columns_more :
      b < most_steps
      → Noted rows heard (from_end plan b) b before after
      → Columns rows heard plan b before
      → Columns rows heard plan (suc b) after
  columns_more l n c =
      record {
        received =
            λ x k h m.
            n.bits x k h
            ∙ rw (ne_eqb (most_steps + b) k (λ e. omega arith), c.received x k h m)
            (or-false ((ltb k b && receiving rows heard (from_end plan k) x) || (eqb b k && receiving rows heard (from_end plan b) x)))
            ∙ upto_next (λ (i : ℕ). receiving rows heard (from_end plan i) x) b k;
        sent =
            λ x k h.
            n.bits x (most_steps + k) h
            ∙ rw (ne_eqb b (most_steps + k) (λ e. omega arith), shifted k, c.sent x k h)
            (ap (λ (t : Bool). t || (eqb b k && sending rows heard (from_end plan b) x)) (or-false (ltb k b && sending rows heard (from_end plan k) x)))
            ∙ upto_next (λ (i : ℕ). sending rows heard (from_end plan i) x) b k;
      }
    where
      shifted : (k : ℕ) → eqb (most_steps + b) (most_steps + k) ≡ eqb b k
      shifted k = ⊎_elim (λ (h : b < k). off (λ e. omega arith) (λ e. omega arith)) (λ (h : k ≤ b). ⊎_elim (λ (g : k < b). off (λ e. omega arith) (λ e. omega arith)) (λ (g : b ≤ k). on (omega arith)) (lt_or_ge k b)) (lt_or_ge b k)
        where
          off : (b ≡ k → ⊥) → (most_steps + b ≡ most_steps + k → ⊥) → eqb (most_steps + b) (most_steps + k) ≡ eqb b k
          off p q = ne_eqb (most_steps + b) (most_steps + k) q ∙ sym (ne_eqb b k p)

          on : b ≡ k → eqb (most_steps + b) (most_steps + k) ≡ eqb b k
          on e = eq-eqb (most_steps + b) (most_steps + k) (ap (λ (n : ℕ). most_steps + n) e) ∙ sym (eq-eqb b k e)

pub columns_none : (rows heard plan columns : List ℕ) → ((x : ℕ) → x < most_nodes → get_or columns x 0 ≡ 0) → Columns rows heard plan 0 columns
columns_none rows heard plan columns z =
    record {
      received = λ x b h m. rw (z x h, le-ltb b 0 (omega arith)) (bit_none b);
      sent = λ x b h. rw (z x h, le-ltb b 0 (omega arith)) (bit_none (most_steps + b));
    }

-- WHO IS HEARD: the nodes that are not left have been spread over those that they disturb
pub record Hearing (rows : List ℕ) (nodes rest : ℕ) (before table : List ℕ) : Type 0 where
  pub size : length table ≡ length before
  pub within : (x : ℕ) → bit rest x ≡ true → bit nodes x ≡ true
  pub bits : (y x : ℕ) → y < most_nodes → bit (get_or table y 0) x ≡ ((bit nodes x && not (bit rest x)) && disturbs_in rows x y)
  pub others : (y : ℕ) → most_nodes ≤ y → get_or table y 0 ≡ get_or before y 0

module _ (rows : List ℕ) (nodes : ℕ) (before : List ℕ) where
  pub hearing_none : ((y : ℕ) → y < most_nodes → get_or before y 0 ≡ 0) → Hearing rows nodes nodes before before
  hearing_none zero_table =
      record {
        size = refl;
        within = λ x e. e;
        bits = λ y x h. rw (zero_table y h) (bit_none x ∙ none (bit nodes x) (disturbs_in rows x y));
        others = λ y h. refl;
      }
    where
      none : (a b : Bool) → false ≡ ((a && not a) && b)
      none true b = refl
      none false b = refl

  -- one node more
  pub hearing_more :
      (rest p left : ℕ) (table after : List ℕ)
      → ((y : ℕ) → y < most_nodes → bit (row_mask rows p) y ≡ disturbs_in rows p y)
      → Taken rest p left
      → Spread (row_mask rows p) (2 ^ p) table after
      → Hearing rows nodes rest before table
      → Hearing rows nodes left before after
  hearing_more rest p left table after row low s g =
      record {
        size = s.size ∙ g.size;
        within = λ x e. g.within x (left_over rest p left low x e);
        bits =
            λ y x h.
            spread_bit (row_mask rows p) p table after s y x
            ∙ ap₂ (λ (t u : Bool). t || (eqb p x && u)) (g.bits y x h) (row y h)
            ∙ ⊎_elim (λ (q : eqb p x ≡ true). here y x (eqb-true p x q)) (λ (q : eqb p x ≡ false). apart y x q) (bool_cases (eqb p x));
        others = λ y h. s.others y h ∙ g.others y h;
      }
    where
      here :
          (y x : ℕ)
          → p ≡ x
          → (((bit nodes x && not (bit rest x)) && disturbs_in rows x y) || (eqb p x && disturbs_in rows p y))
          ≡ ((bit nodes x && not (bit left x)) && disturbs_in rows x y)
      here y x q = rw (← q, low.left p, eq-eqb p p refl, low.held, g.within p low.held) refl

      apart :
          (y x : ℕ)
          → eqb p x ≡ false
          → (((bit nodes x && not (bit rest x)) && disturbs_in rows x y) || (eqb p x && disturbs_in rows p y))
          ≡ ((bit nodes x && not (bit left x)) && disturbs_in rows x y)
      apart y x q = rw (low.left x, q, and-true (bit rest x)) (or-false ((bit nodes x && not (bit rest x)) && disturbs_in rows x y))

  pub hearing_all : (table : List ℕ) → Hearing rows nodes 0 before table → Heard rows nodes before table
  hearing_all table g =
      record {
        size = g.size;
        bits = λ y x h. g.bits y x h ∙ rw (bit_none x) (ap (λ (t : Bool). t && disturbs_in rows x y) (and-true (bit nodes x)));
        others = g.others;
      }
