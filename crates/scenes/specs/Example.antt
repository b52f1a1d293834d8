-- An example: a question to the definitions, and the answer that the document prints.
-- Assumes nothing.
use Rattle.std.specs.Prelude.{ℕ, ◌≡◌, List, [], ◌∷◌, length, Result}
use Rattle.frame.specs.Frame.{frame_of, REQ}
use Rattle.frame.specs.Builder as builder
use Rattle.refusals.specs.declared.Refusal.{Refusal}
use Rattle.reading.specs.Reader as reader
use Rattle.reading.specs.declared.reader.Parts.{Parts}
use Rattle.units.specs.Units.{ticks_of}
use Rattle.units.specs.declared.Millis.{Millis}
use Rattle.rules.specs.Rules.{usual, spaced, stand_in, rules_of}
use Rattle.rules.specs.declared.Choice.{Choice}
use Rattle.nodes.specs.Nodes as nodes
use Rattle.timeouts.specs.Timeouts.{SET_TIMEOUTS, ticks_for, set_of}
use Rattle.nodes.specs.declared.NodeList.{NodeList}
use Rattle.history.specs.Perform.{Call}
use Rattle.scenes.specs.Scene.{Seen, seen}

pub data Question : Type 0 where
  -- build a frame into lent bytes
  build : (kind command : ℕ) (ps lent : List ℕ) → Question
  -- the same, by the Set Timeouts command
  set_timeouts : (rxack rxbyte : Millis) (lent : List ℕ) → Question
  -- read a whole frame
  read : (bytes : List ℕ) → Question
  -- list the nodes of a body into lent bytes
  list : (body lent : List ℕ) → Question
  -- play a scene, with a link opened so
  play_as : (choice : Choice) (calls : List Call) → Question

-- with a link opened without a choice; with the host that names the old mode; with the stand-in
abbrev pub play : List Call → Question
play = play_as usual

abbrev pub play_spaced : List Call → Question
play_spaced = play_as spaced

abbrev pub play_stand_in : List Call → Question
play_stand_in = play_as stand_in

pub data Answer : Type 0 where
  -- what is answered, and the lent bytes after it
  built : Result ℕ Refusal → (left : List ℕ) → Answer
  reading : Result Parts Refusal → Answer
  listed : Result NodeList Refusal → (left : List ℕ) → Answer
  -- what is seen, first to last
  shows : List Seen → Answer

-- by the definitions that the functions' promises cite
abbrev pub answer_to : Question → Answer
answer_to (build kind command ps lent) =
    built (builder.built_of kind (length ps) (length lent)) (builder.left_by (builder.built_of kind (length ps) (length lent)) (frame_of kind command ps) lent)
answer_to (set_timeouts rxack rxbyte lent) =
    built (set_of (ticks_of rxack) (ticks_of rxbyte) (length lent))
    (builder.left_by (set_of (ticks_of rxack) (ticks_of rxbyte) (length lent)) (frame_of REQ SET_TIMEOUTS (ticks_for (ticks_of rxack) (ticks_of rxbyte))) lent)
answer_to (read bytes) = reading (reader.read bytes)
answer_to (list body lent) =
    listed (nodes.node_list_of body (length lent)) (nodes.list_left (nodes.node_list_of body (length lent)) (nodes.nodes_of body) lent)
answer_to (play_as choice calls) = shows (seen (rules_of choice) calls)

-- a row of the table
pub record Example : Type 0 where
  pub question : Question
  pub expected : Answer

abbrev pub Holds : Example → Type 0
Holds e = answer_to e.question ≡ e.expected

-- every row of a table
abbrev pub AllHold : List Example → Type 0
AllHold [] = Unit {0}
AllHold (e ∷ es) = Holds e × AllHold es
