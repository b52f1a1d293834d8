-- A history: any list of calls, from the link that opening gives; what was chosen is in the rules.
-- Assumes nothing.
use Rattle.std.specs.Prelude.{ℕ, ◌+◌, List, [], ◌∷◌}
use Rattle.rules.specs.Rules.{Rules}
use Rattle.link.specs.Link.{fresh_link}
use Rattle.link.specs.declared.link.Link.{Link}
use Rattle.history.specs.Perform.{What, byte, bytes, tick, send, session, restart, Call, Done, refused, took, perform}

-- Refused calls are in it and change nothing.
abbrev pub next : Link → Done → Link
next l (refused k) = l
next l (took o) = o.link

-- the link after these calls
abbrev pub run : Rules → Link → List Call → Link
run R l [] = l
run R l (c ∷ h) = run R (next l (perform R l c)) h

abbrev pub after : Rules → List Call → Link
after R h = run R (fresh_link R.choice) h

-- one for a tick
abbrev pub one_tick : What → ℕ
one_tick (byte b) = 0
one_tick (bytes bs) = 0
one_tick tick = 1
one_tick (send kind command ps) = 0
one_tick (session command ps) = 0
one_tick restart = 0

-- one for a restart
abbrev pub one_restart : What → ℕ
one_restart (byte b) = 0
one_restart (bytes bs) = 0
one_restart tick = 0
one_restart (send kind command ps) = 0
one_restart (session command ps) = 0
one_restart restart = 1

-- Accepted are those not refused.
abbrev pub accepted : ℕ → Done → ℕ
accepted n (refused k) = 0
accepted n (took o) = n

-- the accepted ticks among these calls, and the accepted restarts
abbrev pub ticks_in : Rules → Link → List Call → ℕ
ticks_in R l [] = 0
ticks_in R l (c ∷ h) = accepted (one_tick c.what) (perform R l c) + ticks_in R (next l (perform R l c)) h

abbrev pub restarts_in : Rules → Link → List Call → ℕ
restarts_in R l [] = 0
restarts_in R l (c ∷ h) = accepted (one_restart c.what) (perform R l c) + restarts_in R (next l (perform R l c)) h
