-- Section 4: what reception says of an event, the byte that it puts out, and how much it hands up.
-- Assumes nothing.
use Rattle.std.specs.Prelude.{ℕ, Bool, true, false, List, [], ◌∷◌, Option, Some, None, eqb}
use Rattle.refusals.specs.Pick.{pick}
use Rattle.hearing.specs.Hearing.{byte_of}
use Rattle.hearing.specs.declared.hearing.Single.{Single}
use Rattle.hearing.specs.declared.hearing.Single.TheVariants.{Ack, Nak, Can}
use Rattle.hearing.specs.declared.hearing.End.{End}
use Rattle.hearing.specs.declared.hearing.End.TheVariants as end
use Rattle.hearing.specs.declared.hearing.Event.{Event}
use Rattle.hearing.specs.declared.hearing.Event.TheVariants.{Inside, Kept, Skipped, Alone, Ended, TickHunting, TickInside, Aborted}
use Rattle.rules.specs.declared.Role.{Role}
use Rattle.rules.specs.declared.Role.TheVariants.{Host, Module}
use Rattle.report.specs.declared.Reception.{Reception}
use Rattle.report.specs.declared.Reception.TheVariants as reception
use Rattle.reception.specs.declared.said.Awaited.{Awaited}
use Rattle.reception.specs.declared.said.Awaited.TheVariants as awaited
use Rattle.reception.specs.declared.said.Said.{Said}

-- The single byte that a reception or a restart puts out, before any copy: on the line it is 06, 15 or 18, or nothing.
abbrev pub reply_bytes : Option Single → List ℕ
reply_bytes None = []
reply_bytes (Some s) = byte_of s ∷ []

abbrev pub saying : Reception → Option Single → ℕ → Said
saying r b n = record { reception = r; reply = b; up = n }

-- A RES with the same Command, while the session waits for it.
abbrev pub is_awaited : ℕ → Awaited → Bool
is_awaited command awaited.Nothing = false
is_awaited command awaited.Ack = false
is_awaited command (awaited.Response wanted) = eqb command wanted

-- A frame handed up is reported as the frame end, or as stray response in its place.
abbrev pub response_as : ℕ → Awaited → Reception
response_as command w = pick (is_awaited command w) reception.Frame reception.StrayResponse

-- The stand-in's own rule (002, 5.3): while it waits for an ACK, it cancels a frame of Type 00 or 01.
abbrev pub cancels : Role → Awaited → Bool
cancels Host w = false
cancels Module awaited.Nothing = false
cancels Module awaited.Ack = true
cancels Module (awaited.Response wanted) = false

-- Checksum right, Type 00 or 01: put out 06 and hand up the body; or, cancelled, put out 18, report cancelled and hand up nothing.
abbrev pub said_frame : Bool → Reception → ℕ → Said
said_frame cancelled r size = saying (pick cancelled reception.Cancelled r) (Some (pick cancelled Can Ack)) (pick cancelled 0 size)

-- Reserved types and wrong checksums know no cancelling.
abbrev pub said_end : Role → End → Awaited → Said
said_end role end.BadLength w = saying reception.BadLength None 0
said_end role end.BadSum w = saying reception.BadSum (Some Nak) 0
said_end role end.Reserved w = saying reception.Reserved (Some Ack) 0
said_end role (end.Request size) w = said_frame (cancels role w) reception.Frame size
said_end role (end.Response size command) w = said_frame (cancels role w) (response_as command w) size

abbrev pub said_on : Role → Event → Awaited → Said
said_on role Inside w = saying reception.Nothing None 0
said_on role (Kept at) w = saying reception.Nothing None 0
said_on role Skipped w = saying reception.Skipped None 0
said_on role (Alone s) w = saying reception.Nothing None 0
said_on role (Ended e) w = said_end role e w
said_on role TickHunting w = saying reception.Nothing None 0
said_on role TickInside w = saying reception.Nothing None 0
said_on role Aborted w = saying reception.Abort None 0
