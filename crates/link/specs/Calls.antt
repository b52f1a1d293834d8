-- Section 3, link calls: the promise of every call.
-- Assumes nothing.
use Rattle.std.specs.Prelude.{ℕ, ◌≡◌, List, Result, Ok, Err}
use Rattle.refusals.specs.declared.Refusal.{Refusal}
use Rattle.report.specs.declared.Report.{Report}
use Rattle.frame.specs.Bytes.{over}
use Rattle.step.specs.Checks.{checks, Checked, passes}
use Rattle.link.specs.Out.{Out, Taken, out_report}
use Rattle.link.specs.declared.link.Link.{Link}
use Rattle.link.specs.declared.calls.Run.{Run}

-- What a call came to: the link as the call left it, and what was answered. Of a run of bytes too. (Two of each, and not one over a type:
-- the theorems of each promise, from call_determined and run_determined on, and docs/PROMISES.md name both.)
pub record Answered : Type 0 where
  pub link : Link
  pub answer : Result Report Refusal

pub record Ran : Type 0 where
  pub link : Link
  pub answer : Result Run Refusal

-- A refusal returns its number alone, and leaves the link unchanged.
abbrev pub answered : Checked → Out → Link → Answered
answered (Ok _) o l = record { link = o.link; answer = Ok (out_report o) }
answered (Err k) o l = record { link = l; answer = Err k }

abbrev pub ran : Checked → Taken → Link → Ran
ran (Ok _) t l = record { link = t.out.link; answer = Ok (record { report = out_report t.out; taken = t.taken }) }
ran (Err k) t l = record { link = l; answer = Err k }

-- A call writes the first bytes that it reports and no others; a refusal none.
abbrev pub left : Checked → List ℕ → List ℕ → List ℕ
left (Ok _) bytes lent = over bytes lent
left (Err k) bytes lent = lent

-- the promise of a link call with these checks of its own, that gives o on the link l
pub record CallPromise (own : Checked) (o : Out) (l : Link) (line up : List ℕ) (r : Answered) (line' up' : List ℕ) : Type 0 where
  pub answer : r ≡ answered (checks line up own) o l
  pub line_left : line' ≡ left (checks line up own) o.line line
  pub up_left : up' ≡ left (checks line up own) o.up up

-- and of a run of bytes
pub record RunPromise (t : Taken) (l : Link) (line up : List ℕ) (r : Ran) (line' up' : List ℕ) : Type 0 where
  pub answer : r ≡ ran (checks line up passes) t l
  pub line_left : line' ≡ left (checks line up passes) t.out.line line
  pub up_left : up' ≡ left (checks line up passes) t.out.up up
