-- A record that is read part by part. Assumes nothing.
use Rattle.std.specs.Prelude.{ℕ, Bool, true, false, [], ◌+◌, ◌-◌, ◌≤◌, List, Option, ◌++◌, ◌≡◌, ltb, length, take, drop}
use Rattle.std.specs.Io.KnownBytes.{Consumes}
use Rattle.std.proofs.KnownBytes.{Consumes-nil, Consumes-trans}
use Rattle.std.proofs.Common.{refl, sym, subst, ap, ◌∙◌, arith, ltb-false, length-append, length-take, length-take-le, append-nil}
use Rattle.std.proofs.Math.Seq.{take-append-add, take-append-le}
use Rattle.std.proofs.lemmas.List.{drop-drop}
use Rattle.std.proofs.lemmas.Slice.{drop-put_mid}
use borrow.Rule.Slice.PartMut.{put_mid, post_of, take_put}
use Rattle.std.proofs.Math.ListN.{get_or-append}
use Rattle.wire.specs.Field.{field_2}
use Rattle.records.specs.Framing.{record_length, length_there, length_least}
use Rattle.records.specs.Reading.{ReadsRecord}

-- a record is no shorter than it seemed when less of it was there
record_longer : (p q : List ℕ) → record_length p ≤ record_length (p ++ q)
unfolding record_length
record_longer p q = go (ltb (length p) 2) refl
  where
    go : (t : Bool) → ltb (length p) 2 ≡ t → record_length p ≤ record_length (p ++ q)
    go true t = rw t (length_least (p ++ q))
    go false t =
        let some = ltb-false (length p) 2 t in
        rw (length_there p some, length_there (p ++ q) (simp length-append (omega arith)), field_2 p 0, field_2 (p ++ q) 0, get_or-append p q 0 0 (omega arith), get_or-append p q 0 1 (omega arith)) (omega arith)

-- a part of a list is what was put there, and the front of it stands behind what came before
pub read_into : (a k n : ℕ) (xs ys : List ℕ) → a ≤ length xs → n ≤ length ys → take (a + n) (put_mid a k xs ys) ≡ take a xs ++ take n ys
read_into a k n xs ys within fits =
    ap (λ j. take (j + n) (put_mid a k xs ys)) (sym (length-take-le a xs within)) ∙ take-append-add (take a xs) (ys ++ post_of a k xs) n ∙ ap (λ l. take a xs ++ l) (take-append-le n ys (post_of a k xs) fits)

-- two lists alike behind a place are alike behind each later one
still_behind : (a b : ℕ) (xs ys : List ℕ) → a ≤ b → drop a xs ≡ drop a ys → drop b xs ≡ drop b ys
still_behind a b xs ys h e =
    let far : (l : List ℕ) → drop b l ≡ drop (b - a) (drop a l) = λ l. sym (drop-drop (b - a) a l ∙ ap (λ k. drop k l) (omega arith)) in
    far xs ∙ ap (drop (b - a)) e ∙ sym (far ys)

pub reads_nothing : (left : Option (List ℕ)) (buffer : List ℕ) → ReadsRecord left buffer 0 buffer left
reads_nothing left buffer = record { within = omega arith; read = Consumes-nil left; no_further = omega (arith, length_least []); behind = refl }

pub reads_more : {before left after : Option (List ℕ)} {done n end : ℕ} {first buffer buffer_after : List ℕ} (part : List ℕ)
    → ReadsRecord before first done buffer left → end ≡ record_length (take done buffer)
    → Consumes left after part → length part ≡ n → done + n ≤ end → done + n ≤ length buffer_after
    → take (done + n) buffer_after ≡ take done buffer ++ part → drop end buffer_after ≡ drop end buffer → ReadsRecord before first (done + n) buffer_after after
reads_more {before} {left} {after} {done} {n} {end} {first} {buffer} {buffer_after} part r told read long fits within front kept = record {
  within = within;
  read = subst (Consumes before after) (sym front) (Consumes-trans before left after (take done buffer) part r.read read);
  no_further = rw front (omega (arith, record_longer (take done buffer) part));
  behind = rw front (
      let e : drop end buffer_after ≡ drop end first = kept ∙ subst (λ k. drop k buffer ≡ drop k first) (sym told) r.behind in
      still_behind end _ buffer_after first (omega (arith, told, record_longer (take done buffer) part)) e
      );
}

-- what a read that gave nothing left in its part of the buffer is no part of what came
pub reads_no_more : {before left after : Option (List ℕ)} {done end : ℕ} {first buffer : List ℕ} (part : List ℕ)
    → ReadsRecord before first done buffer left → end ≡ record_length (take done buffer) → done ≤ end → end ≤ length buffer
    → length part ≡ end - done → Consumes left after [] → ReadsRecord before first done (put_mid done (end - done) buffer part) after
reads_no_more {before} {left} {after} {done} {end} {first} {buffer} part r told more fits long none =
    let front = take_put done (end - done) buffer part r.within in
    let kept = drop-put_mid done (end - done) buffer part end (omega arith) r.within long in
    record {
      within = omega (arith, length-take-le done buffer r.within, ap length front, length-take done (put_mid done (end - done) buffer part));
      read = subst (Consumes before after) (append-nil (take done buffer) ∙ sym front) (Consumes-trans before left after (take done buffer) [] r.read none);
      no_further = rw front r.no_further;
      behind = rw (front, ← told) (kept ∙ subst (λ k. drop k buffer ≡ drop k first) (sym told) r.behind);
    }
