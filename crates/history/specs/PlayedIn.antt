-- A history of calls on a link that is seen as its parts, the numbers and the two arrays: each call on those that the one before left,
-- with whatever is lent to it.
-- Assumes nothing.
use Rattle.std.specs.Prelude.{ℕ, ◌≡◌, List, [], ◌∷◌, length, None, Some}
use Rattle.frame.specs.Frame.{frame_of, REQ}
use Rattle.rules.specs.Rules.{Rules, rules_of}
use Rattle.rules.specs.declared.Choice.{Choice}
use Rattle.step.specs.Core.{fresh_core}
use Rattle.step.specs.Checks.{send_own, session_own, passes}
use Rattle.step.specs.declared.numbers.Core.{Core}
use Rattle.link.specs.Link.{no_body, no_frame}
use Rattle.link.specs.Out.{run_out, byte_out, tick_out, open_out, restart_out}
use Rattle.link.specs.Calls.{CallPromise, RunPromise}
use Rattle.link.specs.InPlace.{AnsweredIn, RanIn, link_of, of_parts, put_together, ran_put_together}
use Rattle.link.specs.declared.link.Link.{Link}
use Rattle.link.specs.declared.parts.Parts.{Parts}
use Rattle.history.specs.Perform.{byte, bytes, tick, send, session, restart}
use Rattle.history.specs.Played.{by_call, by_run, Played, played}

-- the parts of a link, as `link` has them
abbrev pub parts : Core → List ℕ → List ℕ → Parts
parts core body frame = record { core = core; body = body; frame = frame }

-- those of a fresh link
abbrev pub fresh_parts : Choice → Parts
fresh_parts c = parts (fresh_core c) no_body no_frame

-- the link that they are, on which the calls of `Parts` promise what they do
abbrev pub whole_of : Parts → Link
whole_of k = of_parts k

-- The promise of each call, made on the link of these parts: it is played so, and leaves those.
pub data PromisedIn (R : Rules) (core : Core) (body frame : List ℕ) : Played → Parts → Type 0 where
  byte_in : (b : ℕ) (line up : List ℕ) (r : AnsweredIn) (body' line' up' : List ℕ)
      → CallPromise passes (byte_out R (link_of core body frame) b) (link_of core body frame) line up (put_together r body' frame) line' up'
      → PromisedIn R core body frame (played (byte b) line up (by_call r.answer) line' up') (parts r.core body' frame)
  bytes_in : (bs line up : List ℕ) (r : RanIn) (body' line' up' : List ℕ)
      → RunPromise (run_out R (link_of core body frame) bs) (link_of core body frame) line up (ran_put_together r body' frame) line' up'
      → PromisedIn R core body frame (played (bytes bs) line up (by_run r.answer) line' up') (parts r.core body' frame)
  tick_in : (line up : List ℕ) (r : AnsweredIn) (line' up' : List ℕ)
      → CallPromise passes (tick_out R (link_of core body frame)) (link_of core body frame) line up (put_together r body frame) line' up'
      → PromisedIn R core body frame (played tick line up (by_call r.answer) line' up') (parts r.core body frame)
  send_in : (kind command : ℕ) (ps line up : List ℕ) (r : AnsweredIn) (frame' line' up' : List ℕ)
      → CallPromise (send_own core.job kind (length ps)) (open_out (link_of core body frame) None (frame_of kind command ps)) (link_of core body frame) line up (put_together r body frame') line' up'
      → PromisedIn R core body frame (played (send kind command ps) line up (by_call r.answer) line' up') (parts r.core body frame')
  session_in : (command : ℕ) (ps line up : List ℕ) (r : AnsweredIn) (frame' line' up' : List ℕ)
      → CallPromise (session_own core.job (length ps)) (open_out (link_of core body frame) (Some command) (frame_of REQ command ps)) (link_of core body frame) line up (put_together r body frame') line' up'
      → PromisedIn R core body frame (played (session command ps) line up (by_call r.answer) line' up') (parts r.core body frame')
  restart_in : (line up : List ℕ) (r : AnsweredIn) (body' frame' line' up' : List ℕ)
      → CallPromise passes (restart_out (link_of core body frame)) (link_of core body frame) line up (put_together r body' frame') line' up'
      → PromisedIn R core body frame (played restart line up (by_call r.answer) line' up') (parts r.core body' frame')

-- calls one after the other, from parts to parts, each by the rules of what was chosen
pub data PlaysIn : Parts → List Played → Parts → Type 0 where
  no_calls_in : (k : Parts) → PlaysIn k [] k
  then_in : (k m n : Parts) (p : Played) (ps : List Played) → PromisedIn (rules_of k.core.choice) k.core k.body k.frame p m → PlaysIn m ps n
      → PlaysIn k (p ∷ ps) n

-- the same call with the same bytes lent
pub record SameAsked (p q : Played) : Type 0 where
  pub what : p.what ≡ q.what
  pub line : p.line ≡ q.line
  pub up : p.up ≡ q.up

-- and answered the same, with the same bytes left
pub record SameTold (p q : Played) : Type 0 where
  pub told : p.told ≡ q.told
  pub line_left : p.line' ≡ q.line'
  pub up_left : p.up' ≡ q.up'
