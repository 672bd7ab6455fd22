-- Bytes put at a place of a list, over those that stand there. Assumes nothing.
use Rattle.std.specs.Prelude.{ℕ, zero, suc, ◌+◌, ◌-◌, ◌≤◌, ◌<◌, cond, ◌&&◌, List, [], ◌∷◌, ◌++◌, ◌≡◌, ltb, leb, length, get_or, take, drop, set}
use Rattle.std.proofs.Common.{append_assoc, sym, ap, ◌∙◌, add-zero, zero-add, suc-add, add-sub_of_le, add-one, arith, ltb-true, ltb-false, leb-true, leb-false, length-append, length-take, length-drop, take-append-drop, drop-drop, length-take-le, get_or-append-add, get_or-take, get_or-drop}
use Rattle.std.proofs.Math.ListN.{get_or-append}
use Rattle.std.proofs.lemmas.List.{set_split}
use Rattle.std.proofs.Math.Seq.{take-append_seam, drop-append-add}
use Rattle.laws.specs.Truth.{split}

abbrev pub put : List ℕ → ℕ → List ℕ → List ℕ
put l at bytes = take at l ++ (bytes ++ drop (at + length bytes) l)

-- What a call leaves that puts bytes at a place.
pub record Puts (before : List ℕ) (at : ℕ) (bytes after : List ℕ) : Type 0 where
  pub same : after ≡ put before at bytes

-- What a call leaves that puts bytes at a place, and answers the place behind them.
pub record PutsUpTo (before : List ℕ) (at : ℕ) (bytes after : List ℕ) (behind : ℕ) : Type 0 where
  pub puts : Puts before at bytes after
  pub next : behind ≡ at + length bytes

-- ---- laws

pub length_put : (l : List ℕ) (at : ℕ) (bytes : List ℕ) → at + length bytes ≤ length l → length (put l at bytes) ≡ length l
length_put l at bytes h = simp (length-append, length-take, length-drop) (omega arith)

get_or_behind : (l m : List ℕ) (i : ℕ) → length l ≤ i → get_or (l ++ m) i 0 ≡ get_or m (i - length l) 0
get_or_behind l m i h = ap (λ (j : ℕ). get_or (l ++ m) j 0) (sym (add-sub_of_le h)) ∙ get_or-append-add l m (i - length l) 0

-- a byte of it afterwards: one of those put, or the one that stood there
pub get_or_put : (l : List ℕ) (at : ℕ) (bytes : List ℕ) → at + length bytes ≤ length l → (i : ℕ) → get_or (put l at bytes) i 0 ≡ cond (leb at i && ltb i (at + length bytes)) (get_or bytes (i - at) 0) (get_or l i 0)
get_or_put l at bytes fits i = split (leb at i)
    (λ a. let a' = leb-true at i a in
    rw (get_or_behind (take at l) (bytes ++ drop (at + length bytes) l) i (rw front a'), front, a)
    (split (ltb i (at + length bytes))
    (λ b. rw (b, get_or-append bytes (drop (at + length bytes) l) 0 (i - at) (omega (arith, ltb-true i (at + length bytes) b))))
    (λ b. let b' = ltb-false i (at + length bytes) b in
    rw (b, get_or_behind bytes (drop (at + length bytes) l) (i - at) (omega arith), get_or-drop) (ap (λ (j : ℕ). get_or l j 0) (omega arith)))))
    (λ a. let a' = leb-false at i a in
    rw (a, get_or-append (take at l) (bytes ++ drop (at + length bytes) l) 0 i (rw front a'), get_or-take))
  where
    front : length (take at l) ≡ at
    front = length-take-le at l (omega arith)

pub put_front : (l bytes : List ℕ) → put l 0 bytes ≡ bytes ++ drop (length bytes) l
put_front l bytes = rw (zero-add (length bytes))

pub puts_front : {before bytes after : List ℕ} {n : ℕ} → Puts before 0 bytes after → length bytes ≡ n → after ≡ bytes ++ drop n before
puts_front {before} {bytes} {after} {n} p e = p.same ∙ rw (← e) (put_front before bytes)

put_cons : (x : ℕ) (l : List ℕ) (at : ℕ) (bytes : List ℕ) → put (x ∷ l) (suc at) bytes ≡ x ∷ put l at bytes
put_cons x l at bytes = rw (suc-add at (length bytes))

-- nothing, and one byte
pub puts_none : (l : List ℕ) (at : ℕ) → Puts l at [] l
puts_none l at = record { same = rw (add-zero at) (sym (take-append-drop at l)) }

pub puts_byte : (l : List ℕ) (at v : ℕ) → at < length l → Puts l at (v ∷ []) (set l at v)
puts_byte l at v h = record { same = rw (add-one at) (set_split l at v h) }

-- some bytes, and then some behind them
put_put : (l : List ℕ) (at : ℕ) (a b : List ℕ) → at ≤ length l → put (put l at a) (at + length a) b ≡ put l at (a ++ b)
put_put l zero a b h =
    rw (put_front l a, zero-add (length a), take-append_seam a (drop (length a) l), drop-append-add a (drop (length a) l) (length b), drop-drop (length b) (length a) l, put_front l (a ++ b), length-append a b)
    (sym (append_assoc a b (drop (length a + length b) l)))
put_put [] (suc at) a b h = absurd (omega arith)
put_put (x ∷ l) (suc at) a b h =
    rw (put_cons x l at a, suc-add at (length a), put_cons x (put l at a) (at + length a) b, put_cons x l at (a ++ b))
    (ap (λ (m : List ℕ). x ∷ m) (put_put l at a b (omega arith)))

pub puts_more : {before between after a b : List ℕ} {at next : ℕ} → Puts before at a between → Puts between next b after → at ≤ length before → next ≡ at + length a → Puts before at (a ++ b) after
puts_more {before} {between} {after} {a} {b} {at} {next} p q h e = record { same = q.same ∙ rw (e, p.same) (put_put before at a b h) }

pub puts_on : {before between after a b : List ℕ} {at next behind : ℕ} → PutsUpTo before at a between next → PutsUpTo between next b after behind → at ≤ length before → PutsUpTo before at (a ++ b) after behind
puts_on {before} {between} {after} {a} {b} p q h = record { puts = puts_more p.puts q.puts h p.next; next = simp length-append (omega (arith, p.next, q.next)) }
