-- What is handed up: the body of a frame that the frame reader accepts, and that came just now.
-- Assumes nothing.
use Rattle.std.specs.Prelude.{ℕ, ◌≡◌, List, [], ◌∷◌, ◌++◌, length, Ok}
use Rattle.frame.specs.Frame.{frame_of}
use Rattle.reading.specs.Reader.{read, frame_parts}
use Rattle.link.specs.Out.{Out}

-- with the bytes received so far, the last one included
pub record FrameUp (xs : List ℕ) (o : Out) : Type 0 where
  pub before : List ℕ
  pub kind : ℕ
  pub command : ℕ
  pub ps : List ℕ
  -- the bytes received end with this frame
  pub came : xs ≡ before ++ frame_of kind command ps
  -- which the frame reader accepts
  pub reads : read (frame_of kind command ps) ≡ Ok (frame_parts kind command (length ps))
  -- and what is handed up is its Type, Command and parameters
  pub up : o.up ≡ kind ∷ command ∷ ps

-- a call hands up nothing, or that
pub data HandedUp (xs : List ℕ) (o : Out) : Type 0 where
  nothing : o.up ≡ [] → HandedUp xs o
  frame : FrameUp xs o → HandedUp xs o
