-- Section 2: the frame.
-- Assumes nothing.
use Rattle.std.specs.Prelude.{ℕ, ◌+◌, List, [], ◌∷◌, ◌++◌, length}
use Rattle.frame.specs.Bytes.{fold}

-- A data frame is 01, Length, Type, Command, parameters, Checksum. Type 00 is a request (REQ), 01 a response (RES).
abbrev pub START : ℕ
START = 0x01

abbrev pub REQ : ℕ
REQ = 0x00

abbrev pub RES : ℕ
RES = 0x01

-- Single bytes: 06 ACK, 15 NAK, 18 CAN.
abbrev pub ACK : ℕ
ACK = 0x06

abbrev pub NAK : ℕ
NAK = 0x15

abbrev pub CAN : ℕ
CAN = 0x18

-- n parameters, 0 to 252
abbrev pub MAX_PARAMETERS : ℕ
MAX_PARAMETERS = 252

-- Length is n + 3, so 3 at least
abbrev pub MIN_LENGTH : ℕ
MIN_LENGTH = 3

-- a body is Type, Command and the parameters: Length − 1 bytes
abbrev pub MAX_BODY : ℕ
MAX_BODY = 254

-- the whole frame is n + 5 bytes, 5 to 257
abbrev pub MAX_FRAME : ℕ
MAX_FRAME = 257

-- Section 3: 258 bytes for the line, a single byte and a frame behind it
abbrev pub LINE_ROOM : ℕ
LINE_ROOM = 258

-- Checksum is FF xor every byte.
abbrev pub SEED : ℕ
SEED = 0xFF

-- from Length to the last parameter: Length counts itself, Type, Command and the parameters
abbrev pub counted : ℕ → ℕ → List ℕ → List ℕ
counted kind command ps = (length ps + 3) ∷ kind ∷ command ∷ ps

abbrev pub checksum : List ℕ → ℕ
checksum bytes = fold SEED bytes

-- 01, Length, Type, Command, parameters, Checksum
unfoldable pub frame_of : ℕ → ℕ → List ℕ → List ℕ
frame_of kind command ps = START ∷ (counted kind command ps ++ (checksum (counted kind command ps) ∷ []))
