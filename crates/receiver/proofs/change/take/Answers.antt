-- `receiver::change::take` meets its contract: field by field, and the tables by where they come from. Assumes nothing.
use Rattle.std.proofs.Common.{◌≡◌, ℕ, ◌+◌, cond, List, take, length, ap, ◌∙◌, arith}
use Rattle.fragments.specs.Array.{no_fragments, padded}
use Rattle.fragments.specs.Clash.{is_marked}
use Rattle.fragments.specs.Fragments.{stop}
use Rattle.fragments.specs.Held.{end_of, reached, total, whole}
use Rattle.fragments.specs.Insertion.{insert}
use Rattle.fragments.specs.declared.Fragment.{Fragment}
use Rattle.kept.specs.declared.Kept.{Kept}
use Rattle.laws.specs.Insert.{insert_at}
use Rattle.state.specs.Receiver.{held_fragments}
use Rattle.state.specs.WellFormed.{flag}
use Rattle.state.specs.declared.Receiver.{Receiver}
use Rattle.receiver.specs.FirstPacket.{tables_after, kept_after}
use Rattle.receiver.specs.Known.{Admitted}
use Rattle.receiver.specs.declared.judge.Arrival.{Arrival}
use Rattle.receiver.specs.Picture.{starts, picture_for, picture_kept}
use Rattle.receiver.specs.Step.{holding, taken}
use Rattle.receiver.specs.Verdict.{fragment_of}
use Rattle.receiver.specs.declared.picture.Numbers.{Numbers}
use Rattle.receiver.proofs.Taking.{ends_inside, few_held, one_more, place_among, clear_behind, put_among, end_after, total_after, tables_set, put_together}
use Rattle.receiver.proofs.change.take.Goals as goal

with_kept : Kept → Receiver → Receiver
with_kept k x = record {
  source = x.source;
  room = x.room;
  picture = x.picture;
  time = x.time;
  kind = x.kind;
  q = x.q;
  width = x.width;
  height = x.height;
  interval = x.interval;
  end = x.end;
  whole = x.whole;
  fragment_count = x.fragment_count;
  fragments = x.fragments;
  tables = x.tables;
  kept = k;
}

-- the next receiver but for its tables and the store, from what the parts of the code give
next : {r : Receiver} {a : Arrival} {f : Fragment} {end told at held : ℕ} {fragments : List Fragment} {kept : Kept}
    → Admitted r a at
    → held ≡ total (held_fragments (picture_for r a.said)) + a.said.scan.length
    → f ≡ fragment_of a.said
    → end ≡ cond (is_marked f) (stop f) a.picture.end
    → told ≡ flag (reached end held)
    → fragments ≡ padded (insert_at at f (take a.picture.count (cond a.picture.begun no_fragments r.fragments)))
    → (tables : List ℕ) → let v = picture_for r a.said in let after = tables_after v.tables v.kept a.packet.now a.said in tables ≡ after → kept ≡ kept_after r.kept a.packet.now a.said
    → record {
      source = r.source;
      room = r.room;
      picture = 1;
      time = a.picture.time;
      kind = a.picture.header.kind;
      q = a.picture.header.q;
      width = a.picture.header.width;
      height = a.picture.header.height;
      interval = a.picture.header.interval;
      end = end;
      whole = told;
      fragment_count = a.picture.count + 1;
      fragments = fragments;
      tables = tables;
      kept = kept;
    } ≡ taken (picture_for r a.said) a.packet.now a.said
unfolding taken with_kept
next {r} {a} {f} {end} {told} {at} {held} {fragments} {kept} admitted sum part ends flags among tables t store =
    let known = admitted.known in
    let accepted = admitted.accepted in
    let same = known.picture in
    let fs = insert (fragment_of a.said) (held_fragments (picture_for r a.said)) in
    let count = ap (λ (x : Numbers). x.count) same in
    let end_is : end ≡ end_of fs = ends ∙ rw (part, ap (λ (x : Numbers). x.end) same) (end_after known accepted) in
    let sum_is : held ≡ total fs = sum ∙ total_after known accepted in
    let told_is : told ≡ flag (whole fs) = flags ∙ rw (end_is, sum_is) in
    let count_is : a.picture.count + 1 ≡ length fs = rw count (one_more known accepted) in
    let fragments_are : fragments ≡ padded fs = among ∙ rw (ap (λ (x : Numbers). x.begun) same, count, admitted.place, part) (put_among known accepted) in
    let v = picture_for r a.said in
    ap (with_kept kept) (put_together r a.packet.now a.said same end_is told_is count_is fragments_are tables t)
    ∙ ap (λ (k : Kept). holding v fs (tables_after v.tables v.kept a.packet.now a.said) k) (rw (picture_kept r a.said) store)

pub overflow_add-count : goal.overflow_add-count
overflow_add-count c =
    let admitted = c.requires.admitted in
    omega (arith, ap (λ (x : Numbers). x.count) admitted.known.picture, few_held admitted.known admitted.accepted)

pub end_with-end-requires : goal.end_with-end-requires
end_with-end-requires c =
    let admitted = c.requires.admitted in
    omega (arith, ap stop c.fragment_of-f.ensures, ends_inside admitted.known admitted.accepted)

pub set_fragments-requires-clause-room_for_one : goal.set_fragments-requires-clause-room_for_one
set_fragments-requires-clause-room_for_one c =
    let admitted = c.requires.admitted in
    rw (ap (λ (x : Numbers). x.count) admitted.known.picture, admitted.place) (few_held admitted.known admitted.accepted, place_among admitted.known admitted.accepted)

pub set_fragments-requires-clause-unused_behind : goal.set_fragments-requires-clause-unused_behind
set_fragments-requires-clause-unused_behind c =
    let admitted = c.requires.admitted in
    let same = admitted.known.picture in
    rw (ap (λ (x : Numbers). x.begun) same, ap (λ (x : Numbers). x.count) same) (clear_behind admitted.known admitted.accepted)

pub returns : goal.returns
returns c =
    let a = c.args in
    let admitted = c.requires.admitted in
    let begun : a.arrival.picture.begun ≡ starts a.receiver.now a.arrival.said = ap (λ (x : Numbers). x.begun) admitted.known.picture in
    next admitted c.requires.held_with_it c.fragment_of-f.ensures c.end_with-end.ensures c.whole_flag-receiver.ensures c.set_fragments.ensures
    _ (c.set_tables.ensures ∙ tables_set admitted.known begun) c.set_kept.ensures
