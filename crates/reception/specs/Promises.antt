-- How what a stand-in says comes from what the host would say.
-- Assumes nothing.
use Rattle.std.specs.Prelude.{Bool, true, false, Some}
use Rattle.refusals.specs.Pick.{pick}
use Rattle.report.specs.declared.Reception.{Reception}
use Rattle.report.specs.declared.Reception.TheVariants as reception
use Rattle.hearing.specs.declared.hearing.Single.TheVariants.{Can}
use Rattle.reception.specs.declared.said.Said.{Said}
use Rattle.reception.specs.Said.{saying}

-- said of a frame of Type 00 or 01 with the right checksum
abbrev pub is_of_frame : Reception → Bool
is_of_frame reception.Nothing = false
is_of_frame reception.Skipped = false
is_of_frame reception.BadLength = false
is_of_frame reception.Frame = true
is_of_frame reception.Reserved = false
is_of_frame reception.BadSum = false
is_of_frame reception.Abort = false
is_of_frame reception.StrayResponse = true
is_of_frame reception.Cancelled = false

-- in place of frame and stray response
abbrev pub in_place_of : Said → Said
in_place_of q = pick (is_of_frame q.reception) (saying reception.Cancelled (Some Can) 0) q
