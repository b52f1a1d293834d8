-- `counting::stride` meets its contract, by the laws of a bad length and of a whole frame.
-- Assumes nothing.
use Rattle.std.proofs.Common.{rules, ◌≡◌, ℕ, take, drop, get_or, ap, ◌∙◌, arith}
use Rattle.frame.specs.Bytes.{fold}
use Rattle.tally.specs.Tally.{added}
use Rattle.counting.specs.Promises.{whole}
use Rattle.counting.proofs.Ahead.{at_place, short_on, whole_on, counts_are}
use Rattle.counting.proofs.stride.Goals as goal

pub returns-then-length-lt-MIN_LENGTH : goal.returns-then-length-lt-MIN_LENGTH
returns-then-length-lt-MIN_LENGTH c =
    let rest = c.args.rest.now in
    let size = c.in_ok-length.field-0.now in
    record {
      within = search rules;
      beyond =
          counts_are (search rules)
          (short_on c.args.counts.now rest (drop 1 rest) size (at_place rest 0 size (search rules) (search rules)) c.if-length-lt-MIN_LENGTH.true);
    }

pub returns : goal.returns
returns c =
    let rest = c.args.rest.now in
    let size = c.in_ok-length.field-0.now in
    let sum : c.fold-sum.result ≡ fold 255 (take size rest) = search rules in
    record {
      within = omega (arith, c.if-rest-size.false);
      beyond =
          counts_are (c.count_whole.ensures ∙ ap (λ (n : ℕ). added (whole (get_or rest 1 0) n (get_or rest size 0)) c.args.counts.now) sum)
          (whole_on c.args.counts.now rest (drop 1 rest) size (at_place rest 0 size (search rules) (search rules)) c.if-length-lt-MIN_LENGTH.false
          (omega (arith, c.if-rest-size.false)));
    }
