-- Calls that write into an output that the host lends: table making, the sender and the builder. Assumes nothing.
use Rattle.std.specs.Prelude.{ℕ, ◌≤◌, ◌<◌, Bool, true, cond, not, List, ◌++◌, ◌⊎◌, ◌≡◌, refl, ltb, eqb, length, take, drop, Result, Ok, Err}
use Rattle.std.proofs.Common.{inl, inr, ⊎_elim, sym, ap, ◌∙◌, arith, lt-ltb, le-ltb}
use Rattle.std.proofs.Math.Seq.{take-append_seam}
use Rattle.laws.specs.Truth.{split, never_both}
use Rattle.replies.specs.Checks.{Check, Judged, Passed, judged, numbered, refused_by}
use Rattle.replies.specs.Refusal.{number, told_apart, never_success}
use Rattle.replies.specs.Reply
use Rattle.replies.specs.declared.Refusal.{Refusal}
use Rattle.replies.specs.declared.Written.{Written}

-- What such a call decides, the room in the output aside: to refuse, or to write these bytes.
pub data Decision : Type 0 where
  refuse : Refusal → Decision
  write : List ℕ → Decision

-- Where checks decide.
abbrev pub decided : Judged → List ℕ → Decision
decided (Ok x) bytes = write bytes
decided (Err r) bytes = refuse r

-- Its last check, with a refusal of its own: the output is too short for exactly these bytes.
abbrev pub fitted : Refusal → List ℕ → Decision → Decision
fitted short before (refuse r) = refuse r
fitted short before (write bytes) = cond (ltb (length before) (length bytes)) (refuse short) (write bytes)

-- A refusal answers its number and length 0; success answers the length written.
abbrev pub refused : ℕ → Written
refused n = record { reply = n; length = 0 }

abbrev pub succeeded : ℕ → Written
succeeded n = record { reply = Reply.success; length = n }

-- What C is answered of an outcome: the number of a refusal, or success with the length written.
abbrev pub written : Result ℕ Refusal → Written
written (Ok n) = succeeded n
written (Err r) = refused (number r)

abbrev pub answer_of : Decision → Written
answer_of (refuse r) = refused (number r)
answer_of (write bytes) = succeeded (length bytes)

-- The outcomes of `Written::refusal` and of `Written::success`.
abbrev pub IsRefusal : ℕ → Written → Type 0
IsRefusal n w = w ≡ refused n

abbrev pub IsSuccess : ℕ → Written → Type 0
IsSuccess n w = w ≡ succeeded n

-- A refusal leaves the output as it was; success writes the bytes in front and leaves what is past them.
abbrev pub output_of : List ℕ → Decision → List ℕ
output_of before (refuse r) = before
output_of before (write bytes) = bytes ++ drop (length bytes) before

-- The outcome of such a call: what it answers, and the output before and after.
pub record Writes (short : Refusal) (decision : Decision) (before : List ℕ) (w : Written) (after : List ℕ) : Type 0 where
  pub answer : w ≡ answer_of (fitted short before decision)
  pub output : after ≡ output_of before (fitted short before decision)

-- ---- laws

abbrev pub not_success : ℕ → Bool
not_success n = not (eqb n Reply.success)

pub writes_determined : {short : Refusal} {d : Decision} {before : List ℕ} {w w' : Written} {after after' : List ℕ} → Writes short d before w after → Writes short d before w' after' → (w ≡ w') × (after ≡ after')
writes_determined a b = (a.answer ∙ sym b.answer, a.output ∙ sym b.output)

-- An outcome that has refused, for a short output or as was decided; and one that has written.
pub record Unwritten (short : Refusal) (d : Decision) (before : List ℕ) (w : Written) (after : List ℕ) : Type 0 where
  pub refusal : Refusal
  pub why : (refusal ≡ short) ⊎ (d ≡ refuse refusal)
  pub answer : w ≡ refused (number refusal)
  pub output : after ≡ before

pub record Wrote (d : Decision) (before : List ℕ) (w : Written) (after : List ℕ) : Type 0 where
  pub bytes : List ℕ
  pub decision : d ≡ write bytes
  pub answer : w ≡ succeeded (length bytes)
  pub output : after ≡ bytes ++ drop (length bytes) before

pub by_outcome : {P : Type 0} {short : Refusal} {d : Decision} {before : List ℕ} {w : Written} {after : List ℕ} → Writes short d before w after → (Unwritten short d before w after → P) → (Wrote d before w after → P) → P
by_outcome {P} {short} {d} {before} {w} {after} a = go d a.answer a.output
  where
    go : (d : Decision) → w ≡ answer_of (fitted short before d) → after ≡ output_of before (fitted short before d) → (Unwritten short d before w after → P) → (Wrote d before w after → P) → P
    go (refuse r) e o refuses writes = refuses (record { refusal = r; why = inr refl; answer = e; output = o })
    go (write bytes) e o refuses writes =
        split (ltb (length before) (length bytes))
        (λ t. refuses (record { refusal = short; why = inl refl; answer = rw t at e; output = rw t at o }))
        (λ t. writes (record { bytes = bytes; decision = refl; answer = rw t at e; output = rw t at o }))

-- an answer other than success has length 0, and the output is as it was
pub refusal_leaves : {short : Refusal} {d : Decision} {before : List ℕ} {w : Written} {after : List ℕ} → Writes short d before w after → (w.reply ≡ Reply.success → ⊥) → (w.length ≡ 0) × (after ≡ before)
refusal_leaves a refuses = by_outcome a
    (λ u. (ap (λ (x : Written). x.length) u.answer, u.output))
    (λ t. absurd (refuses (ap (λ (x : Written). x.reply) t.answer)))

-- C is told which outcome it was: no two are answered alike
pub outcome_told : (o o' : Result ℕ Refusal) → written o ≡ written o' → o ≡ o'
outcome_told (Ok n) (Ok m) e = ap (λ (k : ℕ). Ok k) (ap (λ (w : Written). w.length) e)
outcome_told (Ok n) (Err r) e = absurd (never_both (ap (λ (k : ℕ). eqb k Reply.success) (sym (ap (λ (w : Written). w.reply) e))) (never_success r))
outcome_told (Err r) (Ok m) e = absurd (never_both (ap (λ (k : ℕ). eqb k Reply.success) (ap (λ (w : Written). w.reply) e)) (never_success r))
outcome_told (Err r) (Err r') e = ap (λ (q : Refusal). Err q) (told_apart (ap (λ (w : Written). w.reply) e))

-- from a decision back to what the checks came to
decided_refuse : (j : Judged) (bytes : List ℕ) {r : Refusal} → decided j bytes ≡ refuse r → j ≡ Err r
decided_refuse (Ok x) bytes e = absurd (let z : ◌≡◌ {A = ℕ} 0 1 = cc in omega arith)
decided_refuse (Err r) bytes e = cc

decided_write : (j : Judged) (bytes : List ℕ) {written : List ℕ} → decided j bytes ≡ write written → (j ≡ Passed) × (bytes ≡ written)
decided_write (Ok tt) bytes e = (refl, cc)
decided_write (Err r) bytes e = absurd (let z : ◌≡◌ {A = ℕ} 0 1 = cc in omega arith)

-- where checks decide
module _ {short : Refusal} {before after : List ℕ} {w : Written} (checks : List Check) (bytes : List ℕ) (a : Writes short (decided (judged checks) bytes) before w after) where
  -- a test that each of their numbers passes, and that of a short output, is passed by the number of a refusal
  refused_with : (test : ℕ → Bool) → test (number short) ≡ true → numbered test checks ≡ true → (u : Unwritten short (decided (judged checks) bytes) before w after) → test (number u.refusal) ≡ true
  refused_with test full all u = ⊎_elim (λ e. rw e full) (λ e. refused_by test checks all (decided_refuse (judged checks) bytes e)) u.why

  -- and where that of success passes it too, by every reply
  pub reply_by : (test : ℕ → Bool) → test Reply.success ≡ true → test (number short) ≡ true → numbered test checks ≡ true → test w.reply ≡ true
  reply_by test none full all = by_outcome a (λ u. rw u.answer (refused_with test full all u)) (λ t. rw t.answer none)

  -- where none of them is that of success, an answer of success says that all have passed, and that the bytes stand in front
  pub success_checked : not_success (number short) ≡ true → numbered not_success checks ≡ true → w.reply ≡ Reply.success → (judged checks ≡ Passed) × (w.length ≡ length bytes) × (take w.length after ≡ bytes)
  success_checked full all success = by_outcome a
      (λ u. absurd (never_both (refused_with not_success full all u) (rw (sym (ap (λ (x : Written). x.reply) u.answer) ∙ success))))
      (λ t. let d = decided_write (judged checks) bytes t.decision in
      let long : w.length ≡ length bytes = ap (λ (x : Written). x.length) t.answer ∙ ap length (sym d.1) in
      (d.0, long, rw (long, t.output, ← d.1) (take-append_seam bytes (drop (length bytes) before))))

pub writes_refused : {short r : Refusal} {before : List ℕ} {w : Written} → w ≡ refused (number r) → Writes short (refuse r) before w before
writes_refused e = record { answer = e; output = refl }

-- n bytes to write, into an output that is shorter, or that holds them
module _ {short : Refusal} {bytes before : List ℕ} {w : Written} (n : ℕ) (long : length bytes ≡ n) where
  pub writes_short : length before < n → w ≡ refused (number short) → Writes short (write bytes) before w before
  writes_short h e =
      let t = lt-ltb (length before) (length bytes) (omega arith) in
      record { answer = rw t e; output = rw t }

  pub writes_all : {after : List ℕ} → n ≤ length before → w ≡ succeeded n → after ≡ bytes ++ drop n before → Writes short (write bytes) before w after
  writes_all h e o =
      let t = le-ltb (length before) (length bytes) (omega arith) in
      record { answer = rw (t, long) e; output = rw (t, long) o }
