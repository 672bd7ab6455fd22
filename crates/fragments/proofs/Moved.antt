-- Room at a place of the first n elements of a list, by a copy of those from there on, and then a store. Assumes nothing.
use Prim.Native.Nat.{ℕ, suc, ◌+◌, ◌-◌, ◌≤◌, ◌<◌}
use mathlib.Core.List.{List, ◌++◌, append_assoc}
use mathlib.Core.Path.{◌≡◌, sym, ◌∙◌}
use native.Mathlib.Omega.{arith}
use lib.ListN.{length, get_or, take, drop, set}
use lib.Seq.{take-suc, take-take, set_at, length-take-le, paste}
use Rattle.std.proofs.Common.{add-one, ap}
use Rattle.std.proofs.lemmas.List.{drop-take}
use Rattle.fragments.specs.Array.{put_in}
use Rattle.fragments.specs.Fragments.{nothing}
use Rattle.fragments.specs.declared.Fragment.{Fragment}

pub moved_put : (n : ℕ) (a : List Fragment) (i : ℕ) (f : Fragment) → n < length a → i ≤ n → set (paste a (i + 1) (drop i a) (n - i)) i f ≡ put_in n i f a
unfolding put_in
moved_put n a i f fits h =
    let moved = drop i (take n a) in
    let rest = moved ++ drop (suc n) a in
    let up : take (n - i) (drop i a) ≡ moved = sym (drop-take i (n - i) a) ∙ ap (λ (k : ℕ). drop i (take k a)) (omega arith) in
    let end : i + 1 + (n - i) ≡ suc n = omega arith in
    let put = set_at (take i a) (get_or a i nothing) rest f i (length-take-le i a (omega arith)) in
    rw (up, end, add-one i, take-suc a i nothing (omega arith)) (simp append_assoc (rw (put, take-take i n a h)))
