-- `pairs::columns::note` spreads a step's two marks. Assumes nothing.
use Prim.Native.Nat.{ℕ, ◌+◌, ◌^◌, ◌<◌}
use mathlib.Core.Path.{◌≡◌, ◌∙◌, ap}
use mathlib.Core.Bool.{Bool, ◌||◌}
use mathlib.Core.List.{List}
use native.Mathlib.Omega.{arith}
use lib.Bits.{bit_or}
use lib.ListN.{get_or}
use lib.Dec.{eqb}
use Rattle.trade.specs.Bytes.{byte, bit}
use Rattle.trade.specs.Facts.{disturbs_in}
use Rattle.trade.specs.declared.node.Transmission.{Transmission}
use Rattle.nodes.specs.Mask.{row_mask}
use Rattle.pairs.specs.Columns.{near, receiving, sending}
use Rattle.nodes.proofs.MaskLaws.{bit_or_lem, bit_row, one_bit}
use Rattle.pairs.proofs.SpreadLaws.{noted, ends}
use Rattle.pairs.proofs.columns.note.Goals as goal

pub returns : goal.returns
unfolding receiving sending near
returns c =
    let rows : List ℕ = c.args.rows.now in
    let heard : List ℕ = c.args.heard.now in
    let u : Transmission = c.args.u in
    let b : ℕ = c.args.b in
    let own = c.only in
    let other = c.only-2 in
    let sender = c.row_mask in
    let receiver = c.row_mask-2 in
    let first = c.spread in
    let second = c.spread-2 in
    let third = c.spread-3 in
    let two : ℕ = bit_or own.result other.result in
    let bytes : (i : ℕ) → byte rows i < 2 ^ 8 = λ i. omega (arith, c.type_inv.rows i) in
    let low = one_bit b (omega (arith, c.requires.1)) in
    let high = one_bit (32 + b) (omega (arith, c.requires.1)) in
    noted u rows heard b (bit_or (bit_or sender.result (get_or heard u.sender.0 0)) two) (bit_or (bit_or receiver.result (get_or heard u.receiver.0 0)) two)
    c.args.columns.now first.new.table second.new.table third.new.table
    (λ x h. rw (own.ensures, other.ensures, sender.ensures) (ends u (bit_or (row_mask rows u.sender.0) (get_or heard u.sender.0 0)) x ∙ near_set rows heard u.sender.0 x (bit_row rows bytes u.sender.0 x h) (eqb u.sender.0 x || eqb u.receiver.0 x)))
    (λ x h. rw (own.ensures, other.ensures, receiver.ensures) (ends u (bit_or (row_mask rows u.receiver.0) (get_or heard u.receiver.0 0)) x ∙ near_set rows heard u.receiver.0 x (bit_row rows bytes u.receiver.0 x h) (eqb u.sender.0 x || eqb u.receiver.0 x)))
    (rw (low, high) at first.ensures) (rw low at second.ensures) (rw high at third.ensures)
  where
    near_set :
        (rows heard : List ℕ) (y x : ℕ)
        → bit (row_mask rows y) x ≡ disturbs_in rows y x
        → (e : Bool)
        → (e || bit (bit_or (row_mask rows y) (get_or heard y 0)) x) ≡ (e || (disturbs_in rows y x || bit (get_or heard y 0) x))
    near_set rows heard y x row e = ap (λ (t : Bool). e || t) (bit_or_lem (row_mask rows y) (get_or heard y 0) x ∙ ap (λ (t : Bool). t || bit (get_or heard y 0) x) row)
