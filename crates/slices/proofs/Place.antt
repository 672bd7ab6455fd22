-- The bytes of a place, as they are lent to a call that puts others there. Assumes nothing.
use Rattle.std.proofs.Common.{ℕ, ◌+◌, ◌-◌, ◌≤◌, ◌≡◌, ◌∙◌, arith, sym, List, ◌++◌, length, take, drop, drop-drop, length-take-le, append_assoc, add-sub_of_le}
use Rattle.std.proofs.Math.Nat.{add-sub_cancel_left}
use Rattle.std.proofs.Math.Seq.{take-add, take-append_seam, drop-append-add}
use Rattle.slices.specs.Slices.{put_at, put_fits}

pub put_lent : (l bytes lent : List ℕ) (at : ℕ) → lent ≡ bytes → at + length bytes ≤ length l → take at l ++ (lent ++ drop (at + length bytes - at) (drop at l)) ≡ put_at l at bytes
put_lent l bytes lent at e h = rw (e, add-sub_cancel_left, drop-drop) (sym (put_fits l at bytes h))

-- k bytes more of a copy, in the turn of a loop
more : (from old : List ℕ) (done k : ℕ) → done ≤ length from → take done (take done from ++ drop done old) ++ (take k (drop done from) ++ drop k (drop done (take done from ++ drop done old))) ≡ take (done + k) from ++ drop (done + k) old
more from old done k h =
    let n : length (take done from) ≡ done = length-take-le done from h in
    let front : take done (take done from ++ drop done old) ≡ take done from = rw n at (take-append_seam (take done from) (drop done old)) in
    let back : drop (done + k) (take done from ++ drop done old) ≡ drop k (drop done old) = rw n at (drop-append-add (take done from) (drop done old) k) in
    rw (front, drop-drop k done (take done from ++ drop done old), back, drop-drop k done old, take-add done k from) (sym (append_assoc (take done from) (take k (drop done from)) (drop (done + k) old)))

pub copied_more : (from old between piece : List ℕ) (done end : ℕ) → done ≤ end → end ≤ length from → between ≡ take done from ++ drop done old → piece ≡ take (end - done) (drop done from) → take done between ++ (piece ++ drop (end - done) (drop done between)) ≡ take end from ++ drop end old
copied_more from old between piece done end a b e p =
    rw (p, e) (more from old done (end - done) (omega arith) ∙ rw (add-sub_of_le a) (λ i. take end from ++ drop end old))
