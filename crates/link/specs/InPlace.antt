-- Section 3: a link is its parts, and what a call came to can be seen so: the numbers and the answer, beside the two arrays.
-- Assumes nothing.
use Rattle.std.specs.Prelude.{ℕ, List, Result}
use Rattle.refusals.specs.declared.Refusal.{Refusal}
use Rattle.report.specs.declared.Report.{Report}
use Rattle.step.specs.declared.numbers.Core.{Core}
use Rattle.link.specs.declared.link.Link.{Link}
use Rattle.link.specs.declared.parts.Parts.{Parts}
use Rattle.link.specs.declared.calls.Run.{Run}
use Rattle.link.specs.Calls.{Answered, Ran}

-- the link of these parts
abbrev pub link_of : Core → List ℕ → List ℕ → Link
link_of core body frame = record { core = core; body = body; frame = frame }

-- and of the parts that a caller keeps, on which a call promises what it promises on it
abbrev pub of_parts : Parts → Link
of_parts p = link_of p.core p.body p.frame

-- the numbers of the next link beside the answer; with a refusal, unchanged
pub record AnsweredIn : Type 0 where
  pub core : Core
  pub answer : Result Report Refusal

pub record RanIn : Type 0 where
  pub core : Core
  pub answer : Result Run Refusal

-- what a call answered, put together with the arrays as it left them
abbrev pub put_together : AnsweredIn → List ℕ → List ℕ → Answered
put_together r body frame = record { link = link_of r.core body frame; answer = r.answer }

-- and a run of bytes
abbrev pub ran_put_together : RanIn → List ℕ → List ℕ → Ran
ran_put_together r body frame = record { link = link_of r.core body frame; answer = r.answer }
