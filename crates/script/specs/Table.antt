-- The names of the calls on frames and on command bodies.
-- Assumes nothing.
use Rattle.std.specs.Prelude.{ℕ, List, codes}
use Rattle.script.specs.declared.table.Call.{Call}
use Rattle.script.specs.declared.table.Call.TheVariants.{Build, Read, Capabilities, Nodes, Timeouts, OldTimeouts, WriteCapabilities, WriteNodes, WriteTimeouts}

-- the name that a call answers under
abbrev pub call_name : Call → List ℕ
call_name Build = codes "build"
call_name Read = codes "read"
call_name Capabilities = codes "capabilities"
call_name Nodes = codes "nodes"
call_name Timeouts = codes "timeouts"
call_name OldTimeouts = codes "timeoutsres"
call_name WriteCapabilities = codes "writecapabilities"
call_name WriteNodes = codes "writenodes"
call_name WriteTimeouts = codes "writetimeouts"
