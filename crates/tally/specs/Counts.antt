-- What the tally of a whole run says. Assumes nothing.
use Rattle.std.specs.Prelude.{◌≡◌, ℕ, zero, suc, ◌+◌, ◌<◌, Bool, true, false, cond, ◌||◌, List, [], ◌∷◌, length, ◌==◌, nat_eq, slice_index}
use Rattle.std.proofs.Math.Path.{refl, ap}
use Rattle.std.proofs.Common.{◌∙◌, add-zero, zero-add, not-suc-le-zero, le_of_suc-le-suc, arith}
use Rattle.std.proofs.Math.Dec.{eqb-zero-suc, eqb-suc-zero, eqb-suc-suc}
use Rattle.std.proofs.lemmas.List.{get_or-replicate}
use Rattle.replies.specs.Reply
use Rattle.state.specs.WellFormed.{flag}
use Rattle.state.specs.declared.Answer.{Answer}
use Rattle.state.specs.declared.Receiver.{Receiver}
use Rattle.tally.specs.Tally.{counted, one_more_if, raised, is_unfinished, gives_up, none, added, closed, TellsAccepted}
use Rattle.tally.specs.declared.Tally.{Tally}

-- What `add` is told of one packet.
pub record Call : Type 0 where
  pub before : Receiver
  pub answer : Answer
  pub after : Receiver

-- A tally with these calls, one after the other.
abbrev pub tallied : Tally → List Call → Tally
tallied t [] = t
tallied t (c ∷ calls) = tallied (added t c.before c.answer c.after) calls

abbrev pub how_many : (Call → Bool) → List Call → ℕ
how_many test [] = 0
how_many test (c ∷ calls) = cond (test c) (how_many test calls + 1) (how_many test calls)

-- Accepted is held or whole.
abbrev pub is_accepted : Call → Bool
is_accepted c = c.answer.reply == Reply.held || c.answer.reply == Reply.whole

-- ---- laws

-- One more, of a count that may have come to 2^64 before.
more : (so : Bool) (k : ℕ) → one_more_if so (counted k) ≡ counted (cond so (k + 1) k)
more true k = omega arith
more false k = refl

pub one_more : (so : Bool) (k : ℕ) → cond so (k + 1) k ≡ k + flag so
one_more true k = refl
one_more false k = omega arith

either_one : (so : Bool) (k n : ℕ) → cond so (k + 1) k + n ≡ k + cond so (n + 1) n
either_one true k n = omega arith
either_one false k n = refl

length_raised : (place : ℕ) (l : List ℕ) → length (raised place l) ≡ length l
length_raised place [] = refl
length_raised zero (n ∷ l) = refl
length_raised (suc place) (n ∷ l) = ap suc (length_raised place l)

index_raised : (l : List ℕ) (place n : ℕ) → n < length l → slice_index (raised place l) n ≡ one_more_if (place == n) (slice_index l n)
index_raised [] place n h = absurd (not-suc-le-zero h)
index_raised (m ∷ l) zero zero h = refl
index_raised (m ∷ l) zero (suc n) h = rw (eqb-zero-suc n)
index_raised (m ∷ l) (suc place) zero h = rw (eqb-suc-zero place)
index_raised (m ∷ l) (suc place) (suc n) h = rw (eqb-suc-suc place n) (index_raised l place n (le_of_suc-le-suc h))

-- A count that one call raises where a test passes says, of any calls, how many pass it.
module _ (count : Tally → ℕ) (test : Call → Bool) (raises : (t : Tally) (c : Call) → length t.replies ≡ 32 → count (added t c.before c.answer c.after) ≡ one_more_if (test c) (count t)) where
  counts : (calls : List Call) (t : Tally) (k : ℕ) → length t.replies ≡ 32 → count t ≡ counted k → count (tallied t calls) ≡ counted (k + how_many test calls)
  unfolding added
  counts [] t k long e = rw (add-zero k) e
  counts (c ∷ calls) t k long e =
      counts calls (added t c.before c.answer c.after) (cond (test c) (k + 1) k) (length_raised c.answer.reply t.replies ∙ long) (raises t c long ∙ rw e (more (test c) k))
      ∙ ap counted (either_one (test c) k (how_many test calls))

  counts_all : count none ≡ 0 → (calls : List Call) → count (tallied none calls) ≡ counted (how_many test calls)
  counts_all e calls = counts calls none 0 refl e ∙ ap counted (zero-add (how_many test calls))

how_many_all : (calls : List Call) → how_many (λ (c : Call). true) calls ≡ length calls
how_many_all [] = refl
how_many_all (c ∷ calls) = omega (arith, how_many_all calls)

-- no number is both, so that a call is counted under one of the two or under neither
either_reply : (n k l : ℕ) → cond (n == 0 || n == 1) (k + l + 1) (k + l) ≡ cond (n == 0) (k + 1) k + cond (n == 1) (l + 1) l
either_reply zero k l = omega arith
either_reply (suc zero) k l = omega arith
either_reply (suc (suc n)) k l = rw (eqb-suc-suc (suc n) 0, eqb-suc-zero n, eqb-suc-zero (suc n))

how_many_accepted : (calls : List Call) → how_many is_accepted calls ≡ how_many (λ (c : Call). nat_eq c.answer.reply Reply.held) calls + how_many (λ (c : Call). nat_eq c.answer.reply Reply.whole) calls
how_many_accepted [] = refl
how_many_accepted (c ∷ calls) = rw (how_many_accepted calls) (either_reply c.answer.reply _ _)

module _ (calls : List Call) where
  -- The packets that came.
  pub all_read : (tallied none calls).read ≡ counted (length calls)
  unfolding added
  all_read = counts_all (λ (t : Tally). t.read) (λ (c : Call). true) (λ t c long. refl) refl calls ∙ rw (how_many_all calls)

  -- How many of them got each reply.
  pub each_reply : (n : ℕ) → n < 32 → slice_index (tallied none calls).replies n ≡ counted (how_many (λ (c : Call). nat_eq c.answer.reply n) calls)
  unfolding added
  each_reply n h = counts_all (λ (t : Tally). slice_index t.replies n) (λ (c : Call). nat_eq c.answer.reply n)
      (λ t c long. index_raised t.replies c.answer.reply n (rw long h))
      (get_or-replicate 32 n 0 0 h) calls

  -- How many of them gave a picture up.
  pub each_given_up : (tallied none calls).given_up ≡ counted (how_many (λ (c : Call). gives_up c.before c.after) calls)
  unfolding added
  each_given_up = counts_all (λ (t : Tally). t.given_up) (λ (c : Call). gives_up c.before c.after) (λ t c long. refl) refl calls

  -- How many of them were accepted, where a tally tells it.
  pub all_accepted : (n : ℕ) → TellsAccepted (tallied none calls) n → n ≡ counted (how_many is_accepted calls)
  all_accepted n told = told ∙ rw (each_reply Reply.held (omega arith), each_reply Reply.whole (omega arith), how_many_accepted calls) (omega arith)

  -- How many pictures were given up, with the one that is held unfinished at the end.
  pub all_given_up : (last : Receiver) → (closed (tallied none calls) last).given_up ≡ counted (how_many (λ (c : Call). gives_up c.before c.after) calls + flag (is_unfinished last))
  unfolding closed
  all_given_up last = rw each_given_up (more (is_unfinished last) _ ∙ ap counted (one_more (is_unfinished last) _))
