-- The verbs of the orders that call the link.
-- Assumes nothing.
use Rattle.std.specs.Prelude.{ℕ, List, Bool, true, false, codes}
use Rattle.orders.specs.declared.verb.LinkVerb.{LinkVerb}
use Rattle.orders.specs.declared.verb.LinkVerb.TheVariants.{Send, Session, Byte, Bytes, Tick, Ticks, Restart}

-- whether the verb calls the tick: once or many times
abbrev pub is_tick : LinkVerb → Bool
is_tick Send = false
is_tick Session = false
is_tick Byte = false
is_tick Bytes = false
is_tick Tick = true
is_tick Ticks = true
is_tick Restart = false

-- how often an order makes its call, where it spells the number n: only `ticks` asks for more than one
abbrev pub times_of : LinkVerb → ℕ → ℕ
times_of Send n = 1
times_of Session n = 1
times_of Byte n = 1
times_of Bytes n = 1
times_of Tick n = 1
times_of Ticks n = n
times_of Restart n = 1

-- the name under which a line tells the call; each of many ticks is named as one
abbrev pub verb_name : LinkVerb → List ℕ
verb_name Send = codes "send"
verb_name Session = codes "session"
verb_name Byte = codes "byte"
verb_name Bytes = codes "bytes"
verb_name Tick = codes "tick"
verb_name Ticks = codes "tick"
verb_name Restart = codes "restart"
