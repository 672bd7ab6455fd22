-- One packet more of a picture that a receiver has begun: what it makes of the receiver depends only on which have come. Assumes nothing.
use Rattle.std.proofs.Common.{sym, ap, ap₂, subst, ◌∙◌, arith, le-ltb, eqb-true, length-set}
use Rattle.std.proofs.lemmas.Bool.{lt-leb}
use Rattle.std.specs.Prelude.{ℕ, ◌<◌, Bool, ◌&&◌, ◌||◌, List, ◌≡◌, length, set, true, false, eqb, get_or, Ok as Said}
use Rattle.fragments.specs.Array.{held_padded}
use Rattle.fragments.specs.Clash.{clashes, Clear, is_clear}
use Rattle.fragments.specs.Fragments.{stop, fragment_at, bytes_of}
use Rattle.fragments.specs.Held.{whole}
use Rattle.fragments.specs.Insertion.{insert, length_insert}
use Rattle.fragments.specs.Shared.{share, alike, alike_self, alike_shares, holds}
use Rattle.fragments.specs.Tiles.{Inside, tiles_inside}
use Rattle.fragments.specs.declared.Fragment.{Fragment}
use Rattle.kept.specs.Kept.{keep, is_keepable}
use Rattle.laws.specs.Any.{any, none_any}
use Rattle.laws.specs.Each.{each_weaken}
use Rattle.laws.specs.Put.{put}
use Rattle.laws.specs.Same.{same_self}
use Rattle.laws.specs.Truth.{split, never_both, and_true, or_true, or_false}
use Rattle.receiver.specs.FirstPacket.{is_bare, tables_after, kept_after}
use Rattle.receiver.proofs.Laws.{judged_on, when_accepted, keeps_well_formed}
use Rattle.receiver.specs.Picture.{picture_for, picture_held}
use Rattle.receiver.specs.Step.Decision.{leave, accept}
use Rattle.receiver.specs.Step.{decision, ruled, taken, took_in, received}
use Rattle.receiver.specs.Time.{not_newer, not_behind}
use Rattle.receiver.specs.Verdict.{fragment_of, is_past, is_unlike, is_beyond, agrees, is_again, is_full, checks, like_itself}
use Rattle.receiver.specs.declared.Received.{Received}
use Rattle.replies.specs.Checks.{judged}
use Rattle.replies.specs.Reply
use Rattle.sender.specs.Picture.{Picture}
use Rattle.state.specs.Receiver.{held_fragments, header_of}
use Rattle.state.specs.WellFormed.{well_formed}
use Rattle.state.specs.declared.Receiver.{Receiver}
use Rattle.wire.specs.Reading.{reading, scan_in}
use Rattle.wire.specs.declared.Header.{Header}
use Rattle.wire.specs.declared.Packet.{Packet}
use Rattle.demands.proofs.Arrived.{leaves, area_lent, held_cuts}
use Rattle.demands.proofs.CutsIn.{any_cut, length_cuts_in, cut_inserted, cut_clear, whole_in}
use Rattle.demands.proofs.Filled.{put_filled, bytes_filled}
use Rattle.demands.proofs.Says.{says, own_tables, given_own, brings_keepable}
use Rattle.demands.proofs.Sets.{every_in, in_set, set_in, swapped}
use Rattle.demands.specs.Arrivals.{reply_to, Came}
use Rattle.demands.specs.Arrived.{Begun, receiver_with, area_with, arrived, Ok}
use Rattle.demands.specs.CutsIn.{cuts_in}
use Rattle.demands.specs.Delivery.{brings_tables}
use Rattle.demands.specs.Filled.{filled}
use Rattle.demands.specs.History.{state, step}
use Rattle.demands.specs.Says.{Says}
use Rattle.demands.specs.Sets.{every}

module _ (g : Begun) (come : List Bool) (ok : Ok g come) (k : ℕ) (i : k < length g.cuts) where
  abbrev p : Picture
  p = g.picture

  abbrev cs : List Fragment
  cs = g.cuts

  abbrev c : Fragment
  c = fragment_at g.cuts k

  abbrev bytes : List ℕ
  bytes = g.packet k

  abbrev r : Receiver
  r = receiver_with g come

  abbrev area : List ℕ
  area = area_with g come

  -- the set with it
  abbrev then : List Bool
  then = set come k true

  inside : Inside 0 (length g.picture.scan) c
  inside = tiles_inside 0 g.cuts (length g.picture.scan) k g.packets.tile i

  whole_when : (t : List Bool) → length t ≡ length g.cuts → whole (cuts_in t g.cuts) ≡ every t
  whole_when t long = whole_in (length g.picture.scan) t g.cuts (omega (arith, inside.some, inside.to)) g.packets.tile long

  module _ (told : Says g.stamp g.picture g.cuts k (g.packet k)) where
    abbrev said : Packet
    said = told.said

    read_by : (r₀ : Receiver) → g.stamp.source ≡ r₀.source → reading r₀.source bytes ≡ Said said
    read_by r₀ source = ap (λ (n : ℕ). reading n bytes) (sym source) ∙ told.read

    same_time : said.time ≡ g.receiver.time
    same_time = told.time ∙ g.time

    same_q : said.header.q ≡ p.header.q
    same_q = ap (λ (h : Header). h.q) told.header

    -- the checks that every packet of the picture passes, or does not once all have come
    past_when : is_past r said ≡ every come
    past_when = rw (same_time, not_behind g.receiver.time, whole_when come ok.0) (split (every come) (λ e. rw e) (λ e. rw e))

    like : is_unlike (header_of r) said.header ≡ false
    like = rw (told.header ∙ g.header) (like_itself (header_of g.receiver))

    within : is_beyond r said ≡ false
    within = le-ltb r.room (stop (fragment_of said)) (omega (arith, ap stop told.covers, inside.to, g.fits, g.lent))

    supplied : is_bare r.kept said ≡ false
    unfolding is_bare
    supplied = rw (told.first, told.brings, same_q) (split (eqb k 0)
        (λ e. rw e (split (is_keepable p.header.q) (λ kept. rw (kept, brings_keepable g.packets.sendable g.has_tables kept)) (λ kept. rw kept)))
        (λ e. rw e))

    -- It has not come yet.
    module _ (out : get_or come k true ≡ false) where
      clear : Clear c (cuts_in come cs)
      clear = cut_clear (length p.scan) 0 come cs k g.packets.tile i out

      inserted : insert (fragment_of said) (held_fragments r) ≡ cuts_in then cs
      inserted = ap₂ insert told.covers (held_cuts g come ok) ∙ cut_inserted (length p.scan) 0 come cs k g.packets.tile i ok.0 out

      none_alike : any (alike (fragment_of said)) (held_fragments r) ≡ false
      none_alike = rw (told.covers, held_cuts g come ok) (none_any (alike c) (cuts_in come cs) (each_weaken (λ (f : Fragment). share c f ≡ false) (λ (f : Fragment). alike c f ≡ false) (λ f apart. unlike f apart) (cuts_in come cs) clear.apart))
        where
          unlike : (f : Fragment) → share c f ≡ false → alike c f ≡ false
          unlike f apart = split (alike c f) (λ e. absurd (never_both (alike_shares c f inside.some e) apart)) (λ e. e)

      no_clash : clashes (fragment_of said) (held_fragments r) ≡ false
      no_clash = rw (told.covers, held_cuts g come ok) (is_clear c (cuts_in come cs) clear)

      not_full : is_full r ≡ false
      not_full = lt-leb 64 (length (held_fragments r)) (omega (arith, length_insert (fragment_of said) (held_fragments r), ap length inserted, length_cuts_in then cs, g.packets.few))

      -- what it leaves
      first_in : get_or then 0 true ≡ (get_or come 0 true || eqb k 0)
      first_in = rw (in_set come k 0, swapped k)

      tables_then : tables_after r.tables r.kept bytes said ≡ (receiver_with g then).tables
      unfolding tables_after
      tables_then = rw (told.first, first_in) (split (eqb k 0)
          (λ e. rw (e, or_true (get_or come 0 true)) (given_own g.packets.sendable g.has_tables r.kept bytes said same_q (told.brings ∙ rw e) (λ own. told.tables (rw e own))))
          (λ e. rw (e, or_false (get_or come 0 true))))

      kept_then : kept_after r.kept bytes said ≡ (receiver_with g then).kept
      unfolding kept_after
      kept_then = rw (told.brings, first_in) (split (eqb k 0)
          (λ e. rw (e, first_out e) (split (brings_tables p) (λ own. rw own (ap₂ (keep g.receiver.kept) same_q (told.tables (rw (e, own))))) (λ own. rw own)))
          (λ e. rw (e, or_false (get_or come 0 true))))
        where
          first_out : eqb k 0 ≡ true → get_or come 0 true ≡ false
          first_out e = rw (eqb-true k 0 e) at out

      taken_then : taken r bytes said ≡ receiver_with g then
      unfolding taken
      taken_then = rw (inserted, tables_then, kept_then)

      area_then : put area said.offset (scan_in bytes said) ≡ area_with g then
      area_then =
          ap₂ (put area) (ap (λ (f : Fragment). f.offset) told.covers) told.scan
          ∙ put_filled (cuts_in come cs) p.scan g.area c inside.to g.fits
          ∙ ap (λ (fs : List Fragment). filled fs p.scan g.area) (cut_inserted (length p.scan) 0 come cs k g.packets.tile i ok.0 out)

      -- It comes to r, or to a receiver in which it begins what r holds.
      module _ (r₀ : Receiver) (well : well_formed r₀ ≡ true) (lent : length area ≡ r₀.room) (source : g.stamp.source ≡ r₀.source) (same : picture_for r₀ said ≡ r) (o : every come ≡ false) where
        accepted : decision r₀ area bytes ≡ accept said
        unfolding judged
        accepted = judged_on r₀ area bytes well lent (read_by r₀ source) same ∙ rw (past_when, o, like, within, none_alike, no_clash, not_full, supplied)

        pub new : Came (arrived g) (Ok g) come k (step (state r₀ area) bytes)
        new =
            let t = when_accepted r₀ area bytes accepted in
            let became : taken (picture_for r₀ said) bytes said ≡ receiver_with g then = rw same taken_then in
            let next : received r₀ area bytes ≡ took_in (receiver_with g then) = t.0 ∙ ap took_in became in
            let long = length-set come k true ∙ ok.0 in
            record {
              reply = ap (λ (d : Received). d.answer.reply) next ∙ rw (held_padded (cuts_in then cs), whole_when then long, o, out);
              left = ap₂ state (ap (λ (d : Received). d.receiver) next) (t.1 ∙ area_then);
              ok = (long, subst (λ (d : Received). well_formed d.receiver ≡ true) next (keeps_well_formed r₀ area bytes (g.packets.bytes k i) well));
            }

    -- It comes to r.
    for_held : picture_for r said ≡ r
    for_held = picture_held r said (rw same_time (not_newer g.receiver.time))

    judged_here : decision r area bytes ≡ ruled (judged (checks r area bytes said)) said
    judged_here = judged_on r area bytes ok.1 (area_lent g come ok) (read_by r g.source) for_held

    -- All have come.
    when_past : every come ≡ true → decision r area bytes ≡ leave Reply.past
    unfolding judged
    when_past all = judged_here ∙ rw (past_when, all)

    -- It has come, and says again what is held.
    module _ (in-it : get_or come k true ≡ true) where
      again_bytes : bytes_of area (fragment_of said) ≡ scan_in bytes said
      again_bytes =
          ap (bytes_of area) told.covers
          ∙ bytes_filled (cuts_in come cs) p.scan g.area c inside.to g.fits (λ j h. any_cut (holds j) come cs k i ok.0 in-it h)
          ∙ sym told.scan

      again_tables : agrees bytes said r.tables ≡ true
      again_tables = rw told.brings (split (eqb k 0 && brings_tables p)
          (λ e. let both = and_true (eqb k 0) (brings_tables p) e in
          let first : get_or come 0 true ≡ true = rw (eqb-true k 0 both.0) at in-it in
          rw (e, told.tables e, first, own_tables g.packets.sendable both.1) (same_self p.tables))
          (λ e. rw e))

      told_again : is_again r area bytes said ≡ true
      told_again =
          let held = ap₂ (λ (f : Fragment) (fs : List Fragment). any (alike f) fs) told.covers (held_cuts g come ok) ∙ any_cut (alike c) come cs k i ok.0 in-it (alike_self c) in
          rw (held, again_bytes, same_self (scan_in bytes said), again_tables)

      when_again : every come ≡ false → decision r area bytes ≡ leave Reply.again
      unfolding judged
      when_again o = judged_here ∙ rw (past_when, o, like, within, told_again)

    comes_to : Came (arrived g) (Ok g) come k (step (arrived g come) bytes)
    comes_to = split (every come)
        (λ all. stays (every_in come k all) (when_past all) (rw all))
        (λ o. split (get_or come k true)
        (λ in-it. stays in-it (when_again in-it o) (rw (o, in-it)))
        (λ out. new out r ok.1 (area_lent g come ok) g.source for_held o))
      where
        stays : {n : ℕ} → get_or come k true ≡ true → decision r area bytes ≡ leave n → n ≡ reply_to come k → Came (arrived g) (Ok g) come k (step (arrived g come) bytes)
        stays in-it d e =
            let t = leaves r area bytes d in
            let same = set_in come k in-it in
            record { reply = t.0 ∙ e; left = t.1 ∙ ap (arrived g) (sym same); ok = rw same ok }

  pub one_comes : Came (arrived g) (Ok g) come k (step (arrived g come) (g.packet k))
  one_comes = comes_to (says g.packets k i)
