-- A file that is not that of the two packets: by the last byte of its scan. Assumes nothing.
use Rattle.std.proofs.Common.{◌∙◌, arith, leb-true, length-append, length-take, get_or-append-add, sym, ap, append_assoc}
use Rattle.std.proofs.Math.Seq.{take-append_seam}
use Rattle.std.proofs.lemmas.Bool.{eqb-false, not-true}
use Rattle.std.specs.Prelude.{ℕ, zero, suc, ◌-◌, ◌≤◌, ◌<◌, true, not, ◌≡◌, refl, leb, eqb, length, get_or, take, drop, List, [], ◌∷◌, ◌++◌}
use Rattle.builder.specs.Building.{Builds, Buildable, building, frame_for, frame_of, file_of, scan_of, length_scan}
use Rattle.builder.specs.Built.{WritesFile, success_built}
use Rattle.builder.specs.File.{is_closed, closing, body, file}
use Rattle.fragments.specs.Held.{is_whole}
use Rattle.head.specs.Head.{head}
use Rattle.head.specs.declared.Frame.{Frame}
use Rattle.laws.specs.All.{all_each}
use Rattle.laws.specs.Each.{Each}
use Rattle.laws.specs.Truth.{and_true}
use Rattle.replies.specs.Output.{Decision, fitted, answer_of, output_of}
use Rattle.replies.specs.declared.Refusal.TheVariants as Refusal
use Rattle.replies.specs.declared.Written.{Written}
use Rattle.sender.specs.Picture.{Picture}
use Rattle.state.specs.Receiver.{held_fragments}
use Rattle.demands.specs.Delivery.{FileHolds, those_tables}
use Rattle.demands.specs.History.{State}
use Rattle.demands.specs.OtherFile.{third_last, is_other, no_front_ends_so}
use Rattle.demands.specs.TwoPackets.{four}

third_last_behind : (a b : List ℕ) → 3 ≤ length b → third_last (a ++ b) ≡ third_last b
third_last_behind a b h =
    ap (λ (i : ℕ). get_or (a ++ b) i 0) (rw (length-append a b) (omega arith)) ∙ get_or-append-add a b (length b - 3) 0

third_last_file : (f : Frame) (tables scan : List ℕ) → 3 ≤ length (body scan) → third_last (file f tables scan) ≡ third_last (body scan)
unfolding file
third_last_file f tables scan h = third_last_behind (head f tables) (body scan) h

-- Where the file holds a picture's scan and tables, the receiver's is whole, and its file is that picture's.
module _ (p : Picture) (x : State) (holds : FileHolds p x) where
  abbrev theirs : List ℕ
  theirs = file (frame_for p.header) (those_tables p) p.scan

  abbrev decided : Decision
  decided = fitted Refusal.FileOutput theirs (building x.receiver x.area)

  builds : Builds x.receiver x.area theirs (answer_of decided) (output_of theirs decided)
  builds = record { answer = refl; output = refl }

  told : WritesFile (frame_for p.header) (those_tables p) p.scan theirs (answer_of decided) (output_of theirs decided)
  told = holds theirs (answer_of decided) (output_of theirs decided) builds

  its_file : Buildable x.receiver x.area × (file_of x.receiver x.area ≡ theirs)
  unfolding file body
  its_file =
      let t = told (omega arith) in
      let made = success_built x.receiver x.area builds (ap (λ (a : Written). a.reply) t.0) in (
        made.0,
        sym made.2
            ∙ ap (λ (a : Written). take a.length (output_of theirs decided)) t.0
            ∙ ap (take (length theirs)) (t.1 ∙ ap (λ (l : List ℕ). l ++ drop (length theirs) theirs) (append_assoc (head (frame_for p.header) (those_tables p)) p.scan (closing p.scan)))
            ∙ take-append_seam theirs (drop (length theirs) theirs),
      )

two_packets_end : (3 ≤ length (body four.scan)) × (third_last (body four.scan) ≡ 0xDD)
unfolding is_closed body
two_packets_end = (omega arith, refl)

pub no_file : (x : State) → length x.area ≡ 4 → no_front_ends_so x.area ≡ true → FileHolds four x → ⊥
no_file x long fronts holds =
    let r = x.receiver in
    let scan = scan_of r x.area in
    let t = its_file four x holds in
    let some : 0 < r.end = rw t.0.well.end (is_whole (held_fragments r) t.0.whole).known in
    let few : r.end ≤ 4 = omega (arith, length-take r.end x.area, length_scan t.0) in
    let last = and_true (leb 3 (length (body scan))) (not (eqb (third_last (body scan)) 0xDD)) (of_four (λ (n : ℕ). is_other (take n x.area) ≡ true) (all_each (λ (n : ℕ). is_other (take n x.area)) (1 ∷ 2 ∷ 3 ∷ 4 ∷ []) fronts) r.end some few) in
    eqb-false (third_last (body scan)) 0xDD (not-true (eqb (third_last (body scan)) 0xDD) last.1)
    (sym (third_last_file (frame_of r) r.tables scan (leb-true 3 (length (body scan)) last.0))
    ∙ ap third_last t.1
    ∙ third_last_file (frame_for four.header) (those_tables four) four.scan two_packets_end.0
    ∙ two_packets_end.1)
  where
    of_four : (P : ℕ → Type 0) → Each P (1 ∷ 2 ∷ 3 ∷ 4 ∷ []) → (n : ℕ) → 0 < n → n ≤ 4 → P n
    of_four P e zero h g = absurd (omega arith)
    of_four P e (suc zero) h g = e.0
    of_four P e (suc (suc zero)) h g = e.1.0
    of_four P e (suc (suc (suc zero))) h g = e.1.1.0
    of_four P e (suc (suc (suc (suc zero)))) h g = e.1.1.1.0
    of_four P e (suc (suc (suc (suc (suc n))))) h g = absurd (omega arith)
