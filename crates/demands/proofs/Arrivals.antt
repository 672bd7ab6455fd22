-- A picture's packets in any order, repeated or not, among others: what follows of a step whose state depends only on which of them
-- have come. Assumes nothing.
use Rattle.std.proofs.Common.{append_assoc, inl, inr, ⊎_elim, sym, ap, subst, ◌∙◌, ne_eqb}
use Rattle.std.specs.Prelude.{ℕ, ◌<◌, Bool, true, false, cond, ◌||◌, List, [], ◌∷◌, ◌++◌, ◌⊎◌, ◌≡◌, refl, eqb, length, get_or, set}
use Rattle.laws.specs.Each.{Each, each_parts}
use Rattle.laws.specs.Truth.{split, never_both, or_none, or_true, or_false, or_assoc}
use Rattle.replies.specs.Reply
use Rattle.sender.specs.declared.Stamp.{Stamp}
use Rattle.wire.specs.Field.{Bytes}
use Rattle.demands.proofs.Sets.{every_in, some_out, not_every, none_out, in_set, set_in}
use Rattle.demands.specs.Arrivals.{with, come, reply_to, Came}
use Rattle.demands.specs.Delivery.Arrival.{ours, other}
use Rattle.demands.specs.Delivery.{Arrival, Allowed, Harmless, comes, LeavesAll, left_by, behind, WholeOnce, BeginsWithOurs, Arrive}
use Rattle.demands.specs.History.{Outcome}
use Rattle.demands.specs.Sets.{every, none}

-- ---- laws

-- which have come: in what order, and how often, leaves no trace
in_come : (s : List Bool) (l : List Arrival) (k : ℕ) → get_or (come s l) k true ≡ (get_or s k true || comes k l)
in_come s [] k = sym (or_false (get_or s k true))
in_come s (ours j ∷ l) k = in_come (set s j true) l k ∙ rw (in_set s j k) (sym (or_assoc (get_or s k true) (eqb k j) (comes k l)))
in_come s (other q ∷ l) k = in_come s l k

come_append : (s : List Bool) (a b : List Arrival) → come s (a ++ b) ≡ come (come s a) b
come_append s [] b = refl
come_append s (c ∷ a) b = come_append (with c s) a b

-- where all have come, nothing is added
come_all : (s : List Bool) (l : List Arrival) → every s ≡ true → come s l ≡ s
come_all s [] all = refl
come_all s (ours k ∷ l) all = rw (set_in s k (every_in s k all)) (come_all s l all)
come_all s (other q ∷ l) all = come_all s l all

come_open : (s : List Bool) (l : List Arrival) → every (come s l) ≡ false → every s ≡ false
come_open s l o = split (every s) (λ all. absurd (never_both (ap every (come_all s l all) ∙ all) o)) (λ some. some)

-- The last gap: what comes before it is filled, and what fills it.
record Gap (s : List Bool) (l : List Arrival) : Type 0 where
  before : List Arrival
  last : ℕ
  late : List Arrival
  order : l ≡ before ++ (ours last ∷ late)
  is_open : every (come s before) ≡ false
  filled : every (set (come s before) last true) ≡ true

later : (a : Arrival) (s : List Bool) {l : List Arrival} → Gap (with a s) l → Gap s (a ∷ l)
later a s g = record { before = a ∷ g.before; last = g.last; late = g.late; order = ap (λ (m : List Arrival). a ∷ m) g.order; is_open = g.is_open; filled = g.filled }

gap : (s : List Bool) (l : List Arrival) → every s ≡ false → every (come s l) ≡ true → Gap s l
gap s [] o all = absurd (never_both all o)
gap s (ours k ∷ l) o all = split (every (set s k true))
    (λ full. record { before = []; last = k; late = l; order = refl; is_open = o; filled = full })
    (λ some. later (ours k) s (gap (set s k true) l some all))
gap s (other q ∷ l) o all = later (other q) s (gap s l o all)

module _ (n : ℕ) {l : List Arrival} (g : Gap (none n) l) where
  abbrev then : List Bool
  then = come (none n) g.before

  last_out : get_or then g.last true ≡ false
  last_out = split (get_or then g.last true) (λ m. absurd (never_both (ap every (sym (set_in then g.last m)) ∙ g.filled) g.is_open)) (λ m. m)

  last_missing : comes g.last g.before ≡ false
  last_missing = (or_none (get_or (none n) g.last true) (comes g.last g.before) (sym (in_come (none n) g.before g.last) ∙ last_out)).1

  no_other_missing : (k : ℕ) → k < n → (k ≡ g.last → ⊥) → comes k g.before ≡ true
  no_other_missing k i differs =
      let there = sym (in_set then g.last k) ∙ every_in (set then g.last true) k g.filled in
      rw (none_out n k i) at (sym (in_come (none n) g.before k) ∙ (rw (ne_eqb k g.last differs, or_false (get_or then k true)) at there))

  -- the replies, before the last gap is filled, at that packet, and later
  reply_before : (a b : List Arrival) (k : ℕ) → k < n → g.before ≡ a ++ (ours k ∷ b) → reply_to (come (none n) a) k ≡ cond (comes k a) Reply.again Reply.held
  reply_before a b k i e =
      let o : every (come (come (none n) a) (ours k ∷ b)) ≡ false = ap every (sym (ap (come (none n)) e ∙ come_append (none n) a (ours k ∷ b))) ∙ g.is_open in
      rw (come_open (come (none n) a) (ours k ∷ b) o, come_open (set (come (none n) a) k true) b o, in_come (none n) a k, none_out n k i)

  reply_last : reply_to then g.last ≡ Reply.whole
  reply_last = rw (g.is_open, last_out, g.filled)

  reply_later : (a : List Arrival) (k : ℕ) → reply_to (come (none n) (g.before ++ (ours g.last ∷ a))) k ≡ Reply.past
  reply_later a k = rw (come_append (none n) g.before (ours g.last ∷ a), come_all (set then g.last true) a g.filled, g.filled)

  all_then : come (none n) l ≡ set then g.last true
  all_then = ap (come (none n)) g.order ∙ come_append (none n) g.before (ours g.last ∷ g.late) ∙ come_all (set then g.last true) g.late g.filled

-- the packet of the picture with which the arrivals begin
pub first_index : (s : Stamp) (n : ℕ) (arrivals : List Arrival) → Arrive s n arrivals → (k : ℕ) × (k < n)
first_index s n [] a = absurd a.from_the_first
first_index s n (ours k ∷ arrivals) a = (k, a.no_other.0)
first_index s n (other q ∷ arrivals) a = absurd a.from_the_first

module _ {S : Type 0} (step : S → List ℕ → Outcome S) (packet : ℕ → List ℕ) (arrived : List Bool → S) (Ok : List Bool → Type 0) (stamp : Stamp) (n : ℕ)
    (long : (s : List Bool) → Ok s → length s ≡ n)
    (one : (s : List Bool) → Ok s → (k : ℕ) → k < n → Came arrived Ok s k (step (arrived s) (packet k)))
    (another : (s : List Bool) → Ok s → (q : List ℕ) → Bytes q → Harmless stamp q → LeavesAll step (arrived s) q) where
  -- what arrivals leave of a state after a set is the state after what has come then
  left_of : (s : List Bool) → Ok s → (l : List Arrival) → Each (Allowed stamp n) l → (left_by step packet (arrived s) l ≡ arrived (come s l)) × Ok (come s l)
  left_of s ok [] h = (refl, ok)
  left_of s ok (ours k ∷ l) h =
      let c = one s ok k h.0 in
      let rest = left_of (set s k true) c.ok l h.1 in
      (ap (λ (y : S). left_by step packet y l) c.left ∙ rest.0, rest.1)
  left_of s ok (other q ∷ l) h =
      let rest = left_of s ok l h.1 in
      (ap (λ (y : S). left_by step packet y l) (another s ok q h.0.0 h.0.1).1 ∙ rest.0, rest.1)

  -- From a state x that the first of them to come takes to the state after it alone.
  module _ (x : S) (first : (k : ℕ) → k < n → Came arrived Ok (none n) k (step x (packet k))) where
    from_x : (l : List Arrival) → BeginsWithOurs l → Each (Allowed stamp n) l → (left_by step packet x l ≡ arrived (come (none n) l)) × Ok (come (none n) l)
    from_x [] begins h = absurd begins
    from_x (other q ∷ l) begins h = absurd begins
    from_x (ours k ∷ l) begins h =
        let c = first k h.0 in
        let rest = left_of (set (none n) k true) c.ok l h.1 in
        (ap (λ (y : S). left_by step packet y l) c.left ∙ rest.0, rest.1)

    module _ (arrivals : List Arrival) (arrive : Arrive stamp n arrivals) where
      -- At each place: what comes there is allowed, and it comes to x, or to the state after what has come.
      place : (a b : List Arrival) (c : Arrival) → arrivals ≡ a ++ (c ∷ b) → Allowed stamp n c × ((a ≡ []) ⊎ ((left_by step packet x a ≡ arrived (come (none n) a)) × Ok (come (none n) a)))
      place a b c e =
          let parts = each_parts (Allowed stamp n) a (c ∷ b) (subst (Each (Allowed stamp n)) e arrive.no_other) in
          (parts.1.0, go a (subst BeginsWithOurs e arrive.from_the_first) parts.0)
        where
          go : (a : List Arrival) → BeginsWithOurs (a ++ (c ∷ b)) → Each (Allowed stamp n) a → (a ≡ []) ⊎ ((left_by step packet x a ≡ arrived (come (none n) a)) × Ok (come (none n) a))
          go [] begins h = inl refl
          go (ours j ∷ a) begins h = inr (from_x (ours j ∷ a) tt h)
          go (other q ∷ a) begins h = absurd begins

      came_behind : (a b : List Arrival) (k : ℕ) → arrivals ≡ a ++ (ours k ∷ b) → (k < n) × Came arrived Ok (come (none n) a) k (behind step packet x a k)
      came_behind a b k e = let p = place a b (ours k) e in (
        p.0,
        ⊎_elim (λ none_yet. subst (λ (l : List Arrival). Came arrived Ok (come (none n) l) k (behind step packet x l k)) (sym none_yet) (first k p.0))
            (λ t. subst (λ (y : S). Came arrived Ok (come (none n) a) k (step y (packet k))) (sym t.0) (one (come (none n) a) t.1 k p.0)) p.1,
      )

      other_behind : (a b : List Arrival) (q : List ℕ) → arrivals ≡ a ++ (other q ∷ b) → LeavesAll step (left_by step packet x a) q
      other_behind a b q e =
          let p = place a b (other q) e in
          ⊎_elim (λ none_yet. absurd (subst BeginsWithOurs (e ∙ ap (λ (l : List Arrival). l ++ (other q ∷ b)) none_yet) arrive.from_the_first))
          (λ t. subst (λ (y : S). LeavesAll step y q) (sym t.0) (another (come (none n) a) t.1 q p.0.0 p.0.1)) p.1

      all_left : (left_by step packet x arrivals ≡ arrived (come (none n) arrivals)) × Ok (come (none n) arrivals)
      all_left = from_x arrivals arrive.from_the_first arrive.no_other

      all_come : every (come (none n) arrivals) ≡ true
      all_come = split (every (come (none n) arrivals)) (λ all. all)
          (λ o. let m = some_out (come (none n) arrivals) o in
          let there = arrive.every_packet m.0 (rw (long (come (none n) arrivals) all_left.1) at m.1) in
          absurd (never_both (in_come (none n) arrivals m.0 ∙ rw there (or_true (get_or (none n) m.0 true))) m.2))

      none_come : every (none n) ≡ false
      none_come = let k = first_index stamp n arrivals arrive in not_every (none n) k.0 (none_out n k.0 k.1)

      pub whole_once : WholeOnce step packet n x arrivals × ((s : List Bool) × Ok s × (every s ≡ true) × (left_by step packet x arrivals ≡ arrived s))
      whole_once = (told (gap (none n) arrivals none_come all_come), (come (none n) arrivals, all_left.1, all_come, all_left.0))
        where
          told : Gap (none n) arrivals → WholeOnce step packet n x arrivals
          told g =
              let at_last = (came_behind g.before g.late g.last g.order).1 in
              record {
                before = g.before;
                last = g.last;
                late = g.late;
                order = g.order;
                last_gap = last_missing n g;
                no_other_gap = λ k i differs. no_other_missing n g k i differs;
                held_or_again = λ a b k e.
                    let c = came_behind a (b ++ (ours g.last ∷ g.late)) k (g.order ∙ ap (λ (l : List Arrival). l ++ (ours g.last ∷ g.late)) e ∙ append_assoc a (ours k ∷ b) (ours g.last ∷ g.late)) in
                    c.1.reply ∙ reply_before n g a b k c.0 e;
                whole = at_last.reply ∙ reply_last n g;
                past = λ a b k e.
                    (came_behind (g.before ++ (ours g.last ∷ a)) b k (g.order ∙ ap (λ (l : List Arrival). g.before ++ (ours g.last ∷ l)) e ∙ sym (append_assoc g.before (ours g.last ∷ a) (ours k ∷ b)))).1.reply
                    ∙ reply_later n g a k;
                others = λ a b q e. other_behind a b q e;
                stays = all_left.0 ∙ ap arrived (all_then n g) ∙ sym at_last.left;
              }
