-- `builder::body::is_closed` meets its contract: the comparison of std, turned round. Assumes nothing.
use Rattle.std.proofs.Common.{◌-◌, ◌≡◌, sym, ◌∙◌, ℕ, List, eqb, length, drop}
use lib.Pointwise.{pointwise, bytes_decides}
use Rattle.head.specs.Segment.{eoi, marker}
use Rattle.laws.specs.Same.{same, same_self, same_true}
use Rattle.laws.specs.Truth.{split, never_both}
use Rattle.builder.specs.File.{is_closed}
use Rattle.builder.proofs.body.is_closed.Goals as goal

turned : (l m : List ℕ) → pointwise eqb m l ≡ same l m
turned l m = split (pointwise eqb m l)
    (λ t. let e : m ≡ l = (bytes_decides m l).0 t in rw (t, e) (sym (same_self l)))
    (λ f. split (same l m)
    (λ t. absurd (never_both ((bytes_decides m l).1 (sym (same_true l m t))) f))
    (λ t. f ∙ sym t))

pub returns : goal.returns
unfolding is_closed
returns c = c.ends_with.ensures.value ∙ turned (drop (length c.args.scan.now - 2) c.args.scan.now) (marker eoi)
